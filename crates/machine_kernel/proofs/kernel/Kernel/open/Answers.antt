use Rattle.std.proofs.Common.{ap, ◌∙◌}
use Rattle.machine_kernel.proofs.KernelLemmas.{at_first}
use Rattle.machine_kernel.proofs.kernel.Kernel.open.Goals as goal

pub invariant_of-result : goal.invariant_of-result
invariant_of-result c = record {
  in_order = c.in_ok-effect.ensures.in_order;
  in_time =
      at_first c.in_ok-effect.effect.world.time c.args.bound
      (ap (λ w. w.time) c.in_ok-effect.ensures.world ∙ c.runs_begin_at_0.ensures c.of-program.result c.args.script);
}
