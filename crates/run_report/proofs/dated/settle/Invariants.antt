use Rattle.std.proofs.Common.{◌≡◌, ◌++◌, map, take, drop}
use Rattle.run_report.specs.Clocks.{settled}
use Rattle.run_report.proofs.dated.settle.Given as goal

abbrev pub invariant-loop-one : goal.invariant-loop-one
invariant-loop-one l = l.items ≡ map (settled l.clocks l.last) (take l.one-index l.initial.items) ++ drop l.one-index l.initial.items
