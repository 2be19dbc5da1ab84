use Rattle.std.proofs.Common.{◌≡◌, map, take}
use Rattle.load_runs.specs.Tallies.{none_of}
use Rattle.load_runs.proofs.tally.none_counted.Given as goal

abbrev pub invariant-loop-word : goal.invariant-loop-word
invariant-loop-word l = l.counts.items ≡ map none_of (take l.word-index l.words)
