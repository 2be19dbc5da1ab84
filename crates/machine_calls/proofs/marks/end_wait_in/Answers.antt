use Rattle.std.proofs.Common.{not, slice_set, sym, ap, ◌∙◌}
use Rattle.profile_machine.specs.CallEnds.{edit_abortable, waited_mark, is_cancelled}
use Rattle.profile_machine.specs.Frames.{with_mark}
use Rattle.machine_calls.proofs.DepthLemmas.{set_deep}
use Rattle.machine_calls.proofs.marks.end_wait_in.Goals as goal

pub returns-in-Some-get_mut : goal.returns-in-Some-get_mut
returns-in-Some-get_mut c =
    ap (λ m. slice_set c.args.frames.now c.in-Some.place (with_mark m c.in-Some-get_mut.frame.now)) c.set_waited.ensures
    ∙ set_deep c.args.depth
    (λ x.
    with_mark (edit_abortable (waited_mark (not (is_cancelled c.args.outcome))) x.mark) x) c.args.frames.now c.in-Some.place c.in-Some-get_mut.frame.now
    (sym c.in-Some.ensures)
    (sym c.in-Some-get_mut.ensures.value)
