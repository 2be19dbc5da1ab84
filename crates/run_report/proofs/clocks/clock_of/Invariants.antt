use Rattle.std.proofs.Common.{◌≡◌, drop}
use Rattle.run_report.specs.Clocks.{clock_of}
use Rattle.run_report.proofs.clocks.clock_of.Given as goal

-- the clocks that are left give what all of them give
abbrev pub invariant-loop-clock : goal.invariant-loop-clock
invariant-loop-clock l = clock_of l.level (drop l.clock-index l.clocks) ≡ clock_of l.level l.initial.clocks
