-- Who acts waits for no entry call: so a protected action that it has on top is held there, up to its end.
use Rattle.std.proofs.Common.{◌≡◌, true, List, [], ◌∷◌, Some, None, refl, sym, ap, subst, ◌∙◌}
use Rattle.ann_base.specs.declared.identities.ObjectNo.{ObjectNo}
use Rattle.trace_text.specs.declared.events.Who.{Who}
use Rattle.trace_text.specs.declared.events.Who.TheVariants as who
use Rattle.profile_machine.specs.declared.world.World.{World}
use Rattle.profile_machine.specs.declared.world.marks.Frame.{Frame}
use Rattle.profile_machine.specs.declared.world.tasks.Task.{Task}
use Rattle.profile_machine.specs.declared.world.marks.Mark.TheVariants.{InProtected}
use Rattle.world_tables.specs.Lists.{first_of}
use Rattle.profile_machine.specs.Frames.{frames_of}
use Rattle.profile_machine.specs.Instant.{is_over}
use Rattle.profile_machine.specs.Serving.{not_left}
use Rattle.profile_machine.specs.Tasks.{task_of, edit_task, with_ticks}
use Rattle.machine_laws.proofs.FinestMoves.{natures, action_in, action_first, top_action}
use Rattle.machine_laws.proofs.Kept.Serving.{Stays}
use Rattle.machine_laws.proofs.Kept.Act.{Acts}
use Rattle.line_laws.specs.ExitLaws.{IsRunnerFree}
use Rattle.line_laws.proofs.Exits.TaskEdits.{one_of-is, edited}
use Rattle.machine_laws.proofs.Kept.Protected.{protected-nature}
use Rattle.line_laws.proofs.Exits.Steady.{FreeIn, action_on_top, Holding, Holds, edit_top-spares, edit_top_protected-spares, begin_call-steady}
use Rattle.line_laws.proofs.Exits.Steady.{deliver-steady, send_on-steady, enqueue-steady, settle_sent-steady, Steady, Spares}

pub stays_held : Stays (Holds action_on_top)
unfolding Steady Spares
stays_held = record {
  edits_action = λ name o f w same alike h. edit_top_protected-spares action_on_top name o name f (λ m. protected-nature f same alike (InProtected m)) w h;
  goes_on = λ name o w h. edit_top-spares action_on_top name o name not_left (λ x. refl) w h;
  begins_call = λ name o p part c w said h. begin_call-steady action_on_top name o p part name c w h said;
  delivers = λ name o p part c outcome w said h. deliver-steady action_on_top name o p part c outcome w h said;
  sends_on = λ name o c s w said h. send_on-steady action_on_top name o c s w h said;
  enqueues = λ name o p c w said h. enqueue-steady action_on_top name o p c w h said;
  settles_sent = λ name o p c test w said h. settle_sent-steady action_on_top name o p c test w h said;
}

pub held-on_top : (name : Who) (o : ObjectNo) (w : World) → Holds action_on_top name o w → top_action w name ≡ Some o
held-on_top name o w h = sym (ap (λ (t : Task). action_first (natures t.frames)) (one_of-is w name)) ∙ h.0

on_top : (frames : List Frame) (f : Frame) → first_of frames ≡ Some f → action_first (natures frames) ≡ action_in f.mark
on_top [] f e = absurd cc
on_top (g ∷ gs) f e = let is : g ≡ f = cc in ap (λ (x : Frame). action_in x.mark) is

abbrev pub IsFree : Who → World → Type 0
IsFree name w = FreeIn name (task_of w name).state

still-free : (name : Who) (w : World) → IsFree name w → IsFree name (edit_task name (with_ticks None) w)
still-free name w free =
    let v = edit_task name (with_ticks None) w in
    subst (λ (t : Task). FreeIn name t.state) (one_of-is v name)
    (edited (λ t. FreeIn name t.state) name name (with_ticks None) w (λ t. refl) (λ same t h. h)
    (subst (λ (t : Task). FreeIn name t.state) (sym (one_of-is w name)) free))

pub acts_free : Acts IsFree (Holds action_on_top)
acts_free = record {
  holds =
      λ name f m w free top is.
      subst (λ t. Holding action_on_top name m.object t) (sym (one_of-is w name)) (on_top (frames_of w name) f top ∙ ap action_in is, free);
  without_ticks = λ name w free. still-free name w free;
}

-- who ran last, and is at the end of an action
pub runner-free : (w : World) → IsRunnerFree w → (name : Who) → w.ran ≡ Some name → is_over (task_of w name).ticks_left ≡ true → IsFree name w
runner-free w free (who.Task n) ran over = free n ran over
runner-free w free who.Agent ran over = tt
