use Rattle.std.proofs.Common.{◌≡◌, ◌++◌, map, take, drop}
use Rattle.run_report.specs.Clocks.{passed}
use Rattle.run_report.proofs.clocks.pass.Given as goal

abbrev pub invariant-loop-clock : goal.invariant-loop-clock
invariant-loop-clock l = l.clocks ≡ map (passed l.passing) (take l.clock-index l.initial.clocks) ++ drop l.clock-index l.initial.clocks
