use Rattle.std.proofs.Common.{slice_set, sym, ap, ◌∙◌}
use Rattle.profile_machine.specs.CallEnds.{edit_abortable, triggered_mark}
use Rattle.profile_machine.specs.Frames.{with_mark}
use Rattle.machine_calls.proofs.DepthLemmas.{set_deep}
use Rattle.machine_calls.proofs.marks.trigger_in.Goals as goal

pub returns-in-Some-get_mut : goal.returns-in-Some-get_mut
returns-in-Some-get_mut c =
    ap (λ m. slice_set c.args.frames.now c.in-Some.place (with_mark m c.in-Some-get_mut.frame.now)) c.set_triggered.ensures
    ∙ set_deep c.args.depth (λ x. with_mark (edit_abortable triggered_mark x.mark) x) c.args.frames.now c.in-Some.place c.in-Some-get_mut.frame.now
    (sym c.in-Some.ensures) (sym c.in-Some-get_mut.ensures.value)
