use Rattle.std.proofs.Common.{◌≡◌, ◌++◌, map, take, drop}
use Rattle.load_runs.specs.Tallies.{counted}
use Rattle.load_runs.proofs.tally.count_word.Given as goal

abbrev pub invariant-loop-count : goal.invariant-loop-count
invariant-loop-count l = l.counts ≡ map (counted l.fn.word) (take l.count-index l.initial.counts) ++ drop l.count-index l.initial.counts
