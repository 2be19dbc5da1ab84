use Rattle.std.proofs.Common.{◌∙◌, sym}
use Rattle.machine_calls.proofs.OkLemmas.{and_so}
use Rattle.machine_calls.proofs.UnwindLemmas.{unwind-is}
use Rattle.machine_calls.proofs.unwinding.unwind.Goals as goal

pub returns-then-frames_may_unwind : goal.returns-then-frames_may_unwind
returns-then-frames_may_unwind c =
    let is =
    unwind-is c.args.p.now c.args.part c.args.name c.unwinding_at-unwinding.result c.args.effect.now.world c.args.effect.now.said
    (sym c.frames_may_unwind.ensures ∙ c.if-frames_may_unwind.true) c.unwinding_at-unwinding.ensures in
    and_so c.unwind_so.result (λ e. is ∙ e) c.unwind_so.ensures
