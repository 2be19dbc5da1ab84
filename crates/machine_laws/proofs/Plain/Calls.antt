-- Calls, and the queues in which they stand: each step keeps a relation that its parts keep.
use Rattle.std.proofs.Common.{◌≡◌, List, refl}
use Rattle.machine_laws.proofs.Moves.{StepRelation}
use Rattle.machine_laws.proofs.FineMoves.{GoodWorld, Naming}
use Rattle.std.specs.Prelude.{ℕ, true, false, List}
use Rattle.ann_base.specs.declared.identities.CallNo.{CallNo}
use Rattle.ann_base.specs.declared.identities.ObjectNo.{ObjectNo}
use Rattle.profile_machine.specs.declared.world.lines.Line.TheVariants as line
use Rattle.profile_image.specs.declared.image.Image.{Image}
use Rattle.profile_machine.specs.declared.world.objects.Object.{Object}
use Rattle.profile_machine.specs.declared.world.calls.Call.{Call}
use Rattle.profile_machine.specs.declared.world.calls.Owner.{Owner}
use Rattle.profile_machine.specs.declared.world.calls.Owner.TheVariants as owned_by
use Rattle.profile_machine.specs.declared.world.lines.Part.{Part}
use Rattle.profile_machine.specs.Steps.{Step, says, changes, ◌▷◌}
use Rattle.profile_machine.specs.Calls.{edit_call, forget_call, with_call, says_call, edit_object, edit_queue, place_of_entry, put_call}
use Rattle.profile_machine.specs.Calls.{take_call, enqueued, enqueue, unqueued, is_cancellable, attempt_on, attempt_with, attempt}
use Rattle.machine_laws.proofs.Kept.Combinators.{Alters, Keeps, branch-keeps, changes-keeps, for_some-keeps, looks-keeps, then-keeps}
use Rattle.machine_laws.proofs.Plain.PlainSteps.{PlainSteps}
use Rattle.machine_laws.proofs.Plain.Tasks.{edit_task-alters}

module _ {G : GoodWorld} {Goes : Naming} {R : StepRelation} (plain : PlainSteps G Goes R) where
  pub edit_call-alters : (c : CallNo) (f : Call → Call) → ((d : Call) → (f d).number ≡ d.number) → ((d : Call) → (f d).caller ≡ d.caller)
      → Alters G R (edit_call c f)
  unfolding Alters
  edit_call-alters c f a b w good = plain.edits_call c f w good a b

  pub forget_call-alters : (c : CallNo) → Alters G R (forget_call c)
  unfolding Alters
  forget_call-alters c w good = plain.forgets_call c w good

  pub with_call-keeps : (c : CallNo) (f : Call → Step) → ((x : Call) → Keeps G R (f x)) → Keeps G R (with_call c f)
  with_call-keeps c f kept = search (looks-keeps, for_some-keeps, plain.chains)

  pub says_call-keeps : (part : Part) (c : Call) → Keeps G R (says_call part c)
  unfolding says_call
  says_call-keeps part c = search (plain.says_call)

  pub edit_object-alters : (o : ObjectNo) (f : Object → Object) → ((x : Object) → (f x).number ≡ x.number) → ((x : Object) → (f x).actions ≡ x.actions)
      → ((x : Object) → (f x).ceiling ≡ x.ceiling) → Alters G R (edit_object o f)
  unfolding Alters
  edit_object-alters o f a b e w good = plain.edits_object o f w good a b e

  pub edit_queue-alters : (owner : Owner) (place : ℕ) (f : List CallNo → List CallNo) → Alters G R (edit_queue owner place f)
  edit_queue-alters (owned_by.Task t) place f = search (edit_task-alters)
  edit_queue-alters (owned_by.Object o) place f = search (edit_object-alters)

  pub enqueued-alters : (p : Image) (c : Call) → Alters G R (enqueued p c)
  unfolding Alters
  enqueued-alters p c w good =
      let unbegun = edit_call c.number (λ d. record d { begun = false }) w in
      let first = plain.edits_call c.number (λ d. record d { begun = false }) w good (λ d. refl) (λ d. refl) in
      plain.chains.goes_on w unbegun (enqueued p c w) first
      (edit_queue-alters c.owner (place_of_entry p c.entry) (put_call p.policies.queuing w c.number c.priority) unbegun
      (plain.chains.behind w unbegun first))

  pub enqueue-keeps : (p : Image) (c : CallNo) → Keeps G R (enqueue p c)
  unfolding enqueue
  enqueue-keeps p c = search (with_call-keeps, changes-keeps, enqueued-alters, plain.chains)

  pub unqueued-alters : (p : Image) (c : Call) → Alters G R (unqueued p c)
  unfolding Alters
  unqueued-alters p c w good =
      let taken = edit_queue c.owner (place_of_entry p c.entry) (take_call c.number) w in
      let first = edit_queue-alters c.owner (place_of_entry p c.entry) (take_call c.number) w good in
      plain.chains.goes_on w taken (unqueued p c w) first (plain.drops_timeout c.number taken (plain.chains.behind w taken first))

  pub attempt_on-keeps : (p : Image) (part : Part) (c : Call) → Keeps G R (attempt_on p part c)
  unfolding attempt_on
  attempt_on-keeps p part c =
      branch-keeps plain.chains (is_cancellable c) (changes (unqueued p c) ▷ says part (line.Cancel c.caller c.number))
      (changes (edit_call c.number (λ d. record d { attempted = true }))) (search (changes-keeps, unqueued-alters, then-keeps, plain.says_cancel, plain.chains))
      (search (changes-keeps, edit_call-alters, plain.chains))

  pub attempt_with-keeps : (p : Image) (part : Part) (c : Call) (cancels stays : Step) → Keeps G R cancels → Keeps G R stays
      → Keeps G R (attempt_with p part c cancels stays)
  attempt_with-keeps p part c cancels stays kept also_kept =
      then-keeps plain.chains (attempt_on p part c) _ (search (attempt_on-keeps)) (branch-keeps plain.chains (is_cancellable c) cancels stays (search) (search))

  pub attempt-keeps : (p : Image) (part : Part) (c : CallNo) (cancels stays : Step) → Keeps G R cancels → Keeps G R stays
      → Keeps G R (attempt p part c cancels stays)
  attempt-keeps p part c cancels stays kept also_kept = search (with_call-keeps, attempt_with-keeps)
