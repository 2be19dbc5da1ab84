-- The tests say what the laws say, and tell the examples apart.
use Rattle.std.proofs.Common.{List, [], None}
use Rattle.std.specs.Prelude.{◌↔◌, IsTrue}
use Rattle.trace_text.specs.Queue.{TraceLine, queue_after, runner_after}
use Rattle.trace_text.proofs.LawsFollowed.{tells_lines}
use Rattle.line_laws.specs.TickLaws.{is_switch, SwitchesOk, follows_switches, no_counts, counts_after, is_next_release}
use Rattle.line_laws.specs.TickLaws.{ReleasesInOrder, follows_releases, is_rightly_stuck, StuckOk, follows_stuck}

pub switches_told : (lines : List TraceLine) → IsTrue (follows_switches lines) ↔ SwitchesOk lines
switches_told lines = tells_lines runner_after is_switch None lines

pub releases_told : (lines : List TraceLine) → IsTrue (follows_releases lines) ↔ ReleasesInOrder lines
releases_told lines = tells_lines counts_after is_next_release no_counts lines

pub stuck_told : (lines : List TraceLine) → IsTrue (follows_stuck lines) ↔ StuckOk lines
stuck_told lines = tells_lines queue_after is_rightly_stuck [] lines
