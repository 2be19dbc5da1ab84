use Rattle.std.proofs.Common.{arith, sym}
use Rattle.sched_tests.proofs.Deadlines.{demand_at_first}
use Rattle.sched_tests.proofs.demands.first_overrun.Goals as goal

pub loop-chunk-init : goal.loop-chunk-init
loop-chunk-init c = record {
  total = sym (demand_at_first c.args.duties.now c.requires.each);
  small = omega arith;
  within = record { nowhere = λ k positive within over. omega arith };
}
