-- What the lines of ticks tell, which say who runs and which release is taken up: laws on lists of lines, and beside
-- each a test that computes. Nothing here knows how the lines came about.
use Rattle.std.specs.Prelude.{ℕ, ℤ, suc, Bool, true, false, not, ◌&&◌, ◌||◌, ◌==◌}
use Rattle.std.specs.Prelude.{nat_le, IsTrue, List, [], Option, Some, None, is_some}
use Rattle.trace_text.specs.declared.events.Who.{Who}
use Rattle.trace_text.specs.declared.events.Who.TheVariants as subject
use Rattle.trace_text.specs.declared.events.Event.{Event}
use Rattle.trace_text.specs.declared.events.Event.TheVariants as line
use Rattle.trace_text.specs.declared.events.Ended.TheVariants as why
use Rattle.trace_text.specs.declared.events.Entry.{Entry}
use Rattle.trace_text.specs.Queue.{TraceLine, AtEachLine, follows_lines, queue_after, runner_after, somebody_eq}
use Rattle.profile_image.specs.declared.image.Image.{Image}
use Rattle.profile_image.specs.declared.script_items.Item.{Item}
use Rattle.ann_base.specs.Lists.{is_empty}
use Rattle.profile_machine.specs.WellFormed.{all_adjacent}
use Rattle.profile_machine.specs.Run.{run_of}
use Rattle.machine_laws.specs.LineKinds.{is_of_effect}

-- SWITCHES. A `run` line names another than who ran before it, an `idle` line stands where somebody ran, and a `serve`
-- line where the agent runs (D.2.1).
abbrev pub is_switch : Option Who → Event → Bool
is_switch runner (line.Run who) = not (somebody_eq runner (Some who))
is_switch runner line.Idle = is_some runner
is_switch runner (line.Serve release) = somebody_eq runner (Some subject.Agent)
is_switch runner _ = true

abbrev pub SwitchesOk : List TraceLine → Type 0
SwitchesOk = AtEachLine runner_after None (λ runner event. IsTrue (is_switch runner event))

abbrev pub follows_switches : List TraceLine → Bool
follows_switches = follows_lines runner_after is_switch None

-- RELEASES. The `release` lines bear 1, 2, 3 and so on, and so do the `serve` lines; none is taken up before it came
-- (own).
pub record Counts : Type 0 where
  pub released : ℕ
  pub begun : ℕ

abbrev pub no_counts : Counts
no_counts = record { released = 0; begun = 0 }

abbrev pub counts_after : Counts → Event → Counts
counts_after counts (line.Release number object handler) = record counts { released = suc counts.released }
counts_after counts (line.Serve number) = record counts { begun = suc counts.begun }
counts_after counts _ = counts

abbrev pub is_next_release : Counts → Event → Bool
is_next_release counts (line.Release number object handler) = number == suc counts.released
is_next_release counts (line.Serve number) = number == suc counts.begun && nat_le number counts.released
is_next_release counts _ = true

abbrev pub ReleasesInOrder : List TraceLine → Type 0
ReleasesInOrder = AtEachLine counts_after no_counts (λ counts event. IsTrue (is_next_release counts event))

abbrev pub follows_releases : List TraceLine → Bool
follows_releases = follows_lines counts_after is_next_release no_counts

-- ORDER. The lines of one tick are those of effects, and behind them at most one `run` or `idle`, and behind it at most
-- one `serve`; or those of effects and the `end` line.
abbrev pub is_run : Event → Bool
is_run (line.Run who) = true
is_run _ = false

abbrev pub is_serve : Event → Bool
is_serve (line.Serve release) = true
is_serve _ = false

-- the second may stand directly behind the first at its tick
abbrev pub may_follow : Event → Event → Bool
may_follow first second = is_of_effect first || (is_run first && is_serve second)

abbrev pub stands_rightly : TraceLine → TraceLine → Bool
stands_rightly first second = not (first.0 == second.0) || may_follow first.1 second.1

abbrev pub follows_tick_order : List TraceLine → Bool
follows_tick_order = all_adjacent stands_rightly

-- STUCK. An `end stuck` line stands only where nobody is in the ready queues (own).
abbrev pub is_rightly_stuck : List Entry → Event → Bool
is_rightly_stuck queue (line.End why.Stuck) = is_empty queue
is_rightly_stuck queue _ = true

abbrev pub StuckOk : List TraceLine → Type 0
StuckOk = AtEachLine queue_after [] (λ queue event. IsTrue (is_rightly_stuck queue event))

abbrev pub follows_stuck : List TraceLine → Bool
follows_stuck = follows_lines queue_after is_rightly_stuck []

-- ---- of every run

abbrev pub RunsSwitch : Type 0
RunsSwitch = (p : Image) (script : List (ℤ × Item)) (bound : ℕ) → SwitchesOk (run_of p script bound)

abbrev pub RunsReleaseInOrder : Type 0
RunsReleaseInOrder = (p : Image) (script : List (ℤ × Item)) (bound : ℕ) → ReleasesInOrder (run_of p script bound)

abbrev pub RunsAreInTickOrder : Type 0
RunsAreInTickOrder = (p : Image) (script : List (ℤ × Item)) (bound : ℕ)
    → IsTrue (follows_tick_order (run_of p script bound))

abbrev pub RunsAreRightlyStuck : Type 0
RunsAreRightlyStuck = (p : Image) (script : List (ℤ × Item)) (bound : ℕ) → StuckOk (run_of p script bound)
