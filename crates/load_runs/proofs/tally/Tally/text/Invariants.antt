use Rattle.std.proofs.Common.{◌≡◌, ◌++◌, drop}
use Rattle.std.specs.List.{flat_map}
use Rattle.load_runs.specs.Tallies.{count_text}
use Rattle.load_runs.proofs.tally.Tally.text.Given as goal

abbrev pub invariant-loop-count : goal.invariant-loop-count
invariant-loop-count l = l.text.items ++ flat_map count_text (drop l.count-index l.self.counts.items) ≡ flat_map count_text l.self.counts.items
