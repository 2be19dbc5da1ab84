use Rattle.std.proofs.Common.{◌≡◌, ◌++◌, drop}
use Rattle.std.specs.List.{flat_map}
use Rattle.legality_pragmas.specs.Deadlines.{deadlines_of}
use Rattle.legality_pragmas.proofs.deadlines.ranges_under.Given as goal

-- the ranges so far and those that are to come are all of them
abbrev pub invariant-loop-pragma : goal.invariant-loop-pragma
invariant-loop-pragma l = l.ranges ++ flat_map (deadlines_of l.last) (drop l.pragma-index l.pragmas) ≡ flat_map (deadlines_of l.last) l.pragmas
