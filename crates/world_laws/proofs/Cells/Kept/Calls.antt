-- Calls and their queues: each step keeps the cells right.
use Rattle.std.specs.Prelude.{ℕ, true, false, List}
use Rattle.ann_base.specs.declared.identities.CallNo.{CallNo}
use Rattle.ann_base.specs.declared.identities.ObjectNo.{ObjectNo}
use Rattle.profile_machine.specs.declared.world.lines.Line.TheVariants as line
use Rattle.profile_image.specs.declared.image.Image.{Image}
use Rattle.profile_machine.specs.declared.world.objects.Object.{Object}
use Rattle.profile_machine.specs.declared.world.calls.Call.{Call}
use Rattle.profile_machine.specs.declared.world.calls.Owner.{Owner}
use Rattle.profile_machine.specs.declared.world.calls.Owner.TheVariants as owned_by
use Rattle.profile_machine.specs.declared.world.lines.Part.{Part}
use Rattle.profile_machine.specs.Steps.{Step, says, changes, ◌▷◌}
use Rattle.profile_machine.specs.Appointments.{is_timeout_of}
use Rattle.profile_machine.specs.Calls.{edit_call, forget_call, with_call, says_call, edit_object, edit_queue, place_of_entry, put_call}
use Rattle.profile_machine.specs.Calls.{take_call, enqueued, enqueue, unqueued, is_cancellable, attempt_on, attempt_with, attempt}
use Rattle.world_laws.proofs.Cells.RightCells.{Right, Keeps, Alters, then-keeps, changes-keeps, says-keeps, looks-keeps, branch-keeps, for_some-keeps}
use Rattle.world_laws.proofs.Cells.Kept.Tasks.{edit_task-alters}
use Rattle.world_laws.proofs.Cells.Kept.Appointments.{drop_appointment-alters}

-- ---- looking at a call and changing it

pub edit_call-alters : {p : Image} (c : CallNo) (f : Call → Call) → Alters p (edit_call c f)
unfolding Right
edit_call-alters c f = record { at = λ w right. right }

pub forget_call-alters : {p : Image} (c : CallNo) → Alters p (forget_call c)
unfolding Right
forget_call-alters c = record { at = λ w right. right }

pub with_call-keeps : {p : Image} (c : CallNo) (f : Call → Step) → ((x : Call) → Keeps p (f x)) → Keeps p (with_call c f)
with_call-keeps c f kept = search (looks-keeps, for_some-keeps)

-- ---- names in lines

pub says_call-keeps : {p : Image} (part : Part) (c : Call) → Keeps p (says_call part c)
unfolding says_call
says_call-keeps part c = search (says-keeps)

-- ---- queues

pub edit_object-alters : {p : Image} (number : ObjectNo) (f : Object → Object) → Alters p (edit_object number f)
unfolding Right
edit_object-alters number f = record { at = λ w right. right }

pub edit_queue-alters : {p : Image} (owner : Owner) (place : ℕ) (f : List CallNo → List CallNo) → Alters p (edit_queue owner place f)
edit_queue-alters (owned_by.Task t) place f = search (edit_task-alters)
edit_queue-alters (owned_by.Object o) place f = search (edit_object-alters)

pub enqueued-alters : (p : Image) (c : Call) → Alters p (enqueued p c)
enqueued-alters p c = record {
  at = λ w right.
      let again = edit_call c.number (λ d. record d { begun = false }) w in
      (edit_queue-alters c.owner (place_of_entry p c.entry) (put_call p.policies.queuing w c.number c.priority)).at again
      ((edit_call-alters c.number (λ d. record d { begun = false })).at w right);
}

pub enqueue-keeps : (p : Image) (c : CallNo) → Keeps p (enqueue p c)
unfolding enqueue
enqueue-keeps p c = search (with_call-keeps, changes-keeps, enqueued-alters) depth 6

pub unqueued-alters : (p : Image) (c : Call) → Alters p (unqueued p c)
unqueued-alters p c = record {
  at = λ w right.
      let out = edit_queue c.owner (place_of_entry p c.entry) (take_call c.number) w in
      (drop_appointment-alters (is_timeout_of c.number)).at out ((edit_queue-alters c.owner (place_of_entry p c.entry) (take_call c.number)).at w right);
}

-- ---- cancellation (9.5.3, 9.8)

pub attempt_on-keeps : (p : Image) (part : Part) (c : Call) → Keeps p (attempt_on p part c)
unfolding attempt_on
attempt_on-keeps p part c =
    branch-keeps (is_cancellable c) (changes (unqueued p c) ▷ says part (line.Cancel c.caller c.number))
    (changes (edit_call c.number (λ d. record d { attempted = true })))
    (search (then-keeps, changes-keeps, unqueued-alters, says-keeps)) (search (changes-keeps, edit_call-alters))

pub attempt_with-keeps : (p : Image) (part : Part) (c : Call) (cancels stays : Step) → Keeps p cancels → Keeps p stays
    → Keeps p (attempt_with p part c cancels stays)
attempt_with-keeps p part c cancels stays kept also_kept =
    then-keeps (attempt_on p part c) _ (attempt_on-keeps p part c) (branch-keeps (is_cancellable c) cancels stays kept also_kept)

pub attempt-keeps : (p : Image) (part : Part) (c : CallNo) (cancels stays : Step) → Keeps p cancels → Keeps p stays → Keeps p (attempt p part c cancels stays)
attempt-keeps p part c cancels stays kept also_kept = search (with_call-keeps, attempt_with-keeps)
