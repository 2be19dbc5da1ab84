-- How calls end: each step keeps a relation that its parts keep.
use Rattle.std.proofs.Common.{◌≡◌, refl, ap}
use Rattle.std.specs.Prelude.{ℕ, Bool, List, [], ◌∷◌, Option, Some, None, not, true, false, cond, eqb, length}
use Rattle.ann_base.specs.declared.identities.CallNo.{CallNo}
use Rattle.ann_base.specs.declared.identities.TaskNo.{TaskNo}
use Rattle.trace_text.specs.declared.events.Who.{Who}
use Rattle.trace_text.specs.declared.events.Who.TheVariants as who
use Rattle.profile_image.specs.declared.image.Image.{Image}
use Rattle.profile_image.specs.declared.numbers.StatementNo.{StatementNo}
use Rattle.profile_machine.specs.declared.world.World.{World}
use Rattle.profile_machine.specs.declared.world.calls.Call.{Call}
use Rattle.profile_machine.specs.declared.world.calls.Outcome.{Outcome}
use Rattle.profile_machine.specs.declared.world.calls.Outcome.TheVariants as call_ended
use Rattle.profile_machine.specs.declared.world.lines.Part.{Part}
use Rattle.profile_machine.specs.declared.world.marks.AbortableMark.{AbortableMark}
use Rattle.profile_machine.specs.declared.world.marks.Frame.{Frame}
use Rattle.profile_machine.specs.declared.world.marks.Mark.{Mark}
use Rattle.profile_machine.specs.declared.world.marks.Mark.TheVariants.{Scope, Handled, InProtected, InAccept, Abortable, InInitialize, InFinalize, InAssign}
use Rattle.profile_machine.specs.declared.world.tasks.Waiting.{Waiting}
use Rattle.profile_machine.specs.declared.world.tasks.Waiting.TheVariants as waits_for
use Rattle.profile_machine.specs.CallEnds.{waits_for_call, resume, with_results, edit_depth, edit_frame, edit_abortable, edit_abortable_at}
use Rattle.profile_machine.specs.CallEnds.{trigger_at, trigger_outcome, forget_trigger, run_triggered, ended_by_itself, behind_abortable}
use Rattle.profile_machine.specs.CallEnds.{end_abortable, end_abortable_in, end_top_abortable, end_wait, waits_for_end, end_for_abortable}
use Rattle.profile_machine.specs.CallEnds.{end_for_caller, end_for, end_with, end_call, deliver, gone, waited_mark, is_cancelled}
use Rattle.profile_machine.specs.Dispatching.{ready}
use Rattle.profile_machine.specs.Frames.{open_sequence, frames_of, pass_on, leaving_of, with_mark}
use Rattle.profile_machine.specs.Steps.{nothing, when, Step, changes, looks, ◌▷◌}
use Rattle.profile_machine.specs.Tasks.{waiting_of}
use Rattle.profile_machine.specs.WellFormed.{waits_for_delay}
use Rattle.machine_laws.proofs.Moves.{StepRelation, MoveRelation}
use Rattle.world_laws.proofs.Appointments.Delays.{Idle, nature, natures}
use Rattle.world_laws.proofs.Appointments.FineMoves.{FineMoves, chains, says-keeps}
use Rattle.world_laws.proofs.Appointments.Kept.Dispatching.{ready-from}
use Rattle.world_laws.proofs.Appointments.Kept.Frames.{pop-alters, goes-keeps, leaves-keeps, open_sequence-keeps, plain_steps}
use Rattle.world_laws.proofs.Appointments.Kept.Tasks.{edit_frames-alters}
use Rattle.world_laws.proofs.Appointments.Kept.Unwinding.{unwind-keeps}
use Rattle.machine_laws.proofs.FineMoves.{GoodWorld, Naming}
use Rattle.machine_laws.proofs.Kept.Combinators.{Alters, From, Keeps, branch-keeps, changes-keeps, changes_then-from, keeps-from, looks-from}
use Rattle.machine_laws.proofs.Kept.Combinators.{looks-keeps, nothing-keeps, then-from, then-keeps, unchanged-alters, when-keeps}
use Rattle.machine_laws.proofs.Plain.Calls.{edit_call-alters, forget_call-alters, with_call-keeps, unqueued-alters}
use Rattle.machine_laws.proofs.Plain.Frames.{raises-keeps, pass_on-keeps}
use Rattle.machine_laws.proofs.Plain.Results.{with_results-world, resume-keeps}

-- an edit of a mark somewhere, and of an abortable part
at_depth-natures : (test : Bool) (f : Frame → Frame) (x : Frame) (xs ys : List Frame) → nature (f x).mark ≡ nature x.mark → natures ys ≡ natures xs
    → natures (cond test (f x ∷ xs) (x ∷ ys)) ≡ natures (x ∷ xs)
at_depth-natures true f x xs ys same rest = ap (λ n. n ∷ natures xs) same
at_depth-natures false f x xs ys same rest = ap (λ ns. nature x.mark ∷ ns) rest

depth-natures : (depth : ℕ) (f : Frame → Frame) (fs : List Frame) → ((x : Frame) → nature (f x).mark ≡ nature x.mark)
    → natures (edit_depth depth f fs) ≡ natures fs
depth-natures depth f [] same = refl
depth-natures depth f (x ∷ xs) same = at_depth-natures (eqb (length xs) depth) f x xs (edit_depth depth f xs) (same x) (depth-natures depth f xs same)

pub abortable-nature : (f : AbortableMark → AbortableMark) (mark : Mark) → nature (edit_abortable f mark) ≡ nature mark
abortable-nature f (Scope m) = refl
abortable-nature f (Handled s) = refl
abortable-nature f (InProtected m) = refl
abortable-nature f (InAccept m) = refl
abortable-nature f (Abortable m) = refl
abortable-nature f (InInitialize l) = refl
abortable-nature f (InFinalize o) = refl
abortable-nature f (InAssign m) = refl

-- who waits for a call waits for no delay
pub waits-end : (c : CallNo) (waiting : Option Waiting) → waits_for_end c waiting ≡ true → waits_for_delay waiting ≡ false
waits-end c None e = refl
waits-end c (Some waits_for.Activation) e = refl
waits-end c (Some waits_for.Moment) e = absurd cc
waits-end c (Some (waits_for.Call d)) e = refl
waits-end c (Some (waits_for.EndOfCall d)) e = refl
waits-end c (Some (waits_for.Accept s)) e = refl
waits-end c (Some (waits_for.Select accepts delay terminate)) e = absurd cc
waits-end c (Some (waits_for.Dependents r)) e = refl
waits-end c (Some waits_for.Release) e = refl

pub waits-call : (c : CallNo) (waiting : Option Waiting) → waits_for_call c waiting ≡ true → waits_for_delay waiting ≡ false
waits-call c None e = refl
waits-call c (Some waits_for.Activation) e = refl
waits-call c (Some waits_for.Moment) e = absurd cc
waits-call c (Some (waits_for.Call d)) e = refl
waits-call c (Some (waits_for.EndOfCall d)) e = refl
waits-call c (Some (waits_for.Accept s)) e = refl
waits-call c (Some (waits_for.Select accepts delay terminate)) e = absurd cc
waits-call c (Some (waits_for.Dependents r)) e = refl
waits-call c (Some waits_for.Release) e = refl

module _ {G : GoodWorld} {May : Naming} {R : StepRelation} {Q : MoveRelation} (moves : FineMoves G May R Q) where
  pub edit_frame-alters : (name : Who) (depth : ℕ) (f : Frame → Frame) → ((x : Frame) → nature (f x).mark ≡ nature x.mark)
      → Alters G R (edit_frame name depth f)
  edit_frame-alters name depth f same = edit_frames-alters moves name (edit_depth depth f) (λ fs. depth-natures depth f fs same)

  pub edit_abortable_at-alters : (name : Who) (depth : ℕ) (f : AbortableMark → AbortableMark) → Alters G R (edit_abortable_at name depth f)
  edit_abortable_at-alters name depth f = edit_frame-alters name depth (λ x. with_mark (edit_abortable f x.mark) x) (λ x. abortable-nature f x.mark)

  pub trigger_at-keeps : (part : Part) (t : TaskNo) (depth : ℕ) → Keeps G R (trigger_at part t depth)
  unfolding trigger_at
  trigger_at-keeps part t depth = search (changes-keeps, edit_abortable_at-alters, then-keeps, says-keeps, edit_frame-alters, chains) depth 8

  pub forget_trigger-alters : (c : Option CallNo) → Alters G R (forget_trigger c)
  forget_trigger-alters None = search (unchanged-alters, chains)
  forget_trigger-alters (Some c) = search (forget_call-alters, plain_steps)

  pub run_triggered-keeps : (p : Image) (part : Part) (name : Who) (select : StatementNo) (outcome : Outcome)
      → Keeps G R (run_triggered p part name select outcome)
  unfolding run_triggered
  run_triggered-keeps p part name select call_ended.Finished = search (goes-keeps)
  run_triggered-keeps p part name select call_ended.Cancelled = search (nothing-keeps, chains)
  run_triggered-keeps p part name select (call_ended.ToRaise e) = search (raises-keeps, plain_steps)
  run_triggered-keeps p part name select (call_ended.WasRaised e) = search (leaves-keeps)

  pub behind_abortable-keeps : (p : Image) (part : Part) (name : Who) (m : AbortableMark) (outcome : Outcome)
      → Keeps G R (behind_abortable p part name m outcome)
  unfolding behind_abortable
  behind_abortable-keeps p part name m outcome = search (when-keeps, run_triggered-keeps, chains)

  pub end_abortable-keeps : (p : Image) (part : Part) (name : Who) (m : AbortableMark) (f : Frame) (below : List Frame)
      → Keeps G R (end_abortable p part name m f below)
  unfolding end_abortable
  end_abortable-keeps p part name m f below =
      looks-keeps (chains moves) _
      (λ w. then-keeps (chains moves) _ _ (changes-keeps (chains moves) _ (pop-alters moves name))
      (then-keeps (chains moves) _ _ (changes-keeps (chains moves) _ (forget_trigger-alters m.call))
      (branch-keeps (chains moves) (ended_by_itself f below) (behind_abortable p part name m (trigger_outcome w m.call)) (pass_on p name (leaving_of f))
      (behind_abortable-keeps p part name m (trigger_outcome w m.call)) (pass_on-keeps (plain_steps moves) p name (leaving_of f) tt))))

  end_abortable_in-keeps : (p : Image) (part : Part) (name : Who) (f : Frame) (below : List Frame) (mark : Mark)
      → Keeps G R (end_abortable_in p part name f below mark)
  unfolding end_abortable_in
  end_abortable_in-keeps p part name f below (Abortable m) = end_abortable-keeps p part name m f below
  end_abortable_in-keeps p part name f below _ = nothing-keeps (chains moves)

  end_top_abortable-keeps : (p : Image) (part : Part) (name : Who) (frames : List Frame) → Keeps G R (end_top_abortable p part name frames)
  unfolding end_top_abortable
  end_top_abortable-keeps p part name [] = nothing-keeps (chains moves)
  end_top_abortable-keeps p part name (f ∷ below) = end_abortable_in-keeps p part name f below f.mark

  pub end_found_abortable-keeps : (p : Image) (part : Part) (name : Who) → Keeps G R (looks (λ w. end_top_abortable p part name (frames_of w name)))
  end_found_abortable-keeps p part name = looks-keeps (chains moves) _ (λ w. end_top_abortable-keeps p part name (frames_of w name))

  -- ---- the caller becomes ready where it waits for the call

  end_wait-from : (p : Image) (part : Part) (c : Call) (depth : ℕ) (outcome : Outcome) (w : World) → G w → Idle (who.Task c.caller) w
      → From R w (end_wait p part c depth outcome)
  unfolding end_wait
  end_wait-from p part c depth outcome w good idle =
      let name = who.Task c.caller in
      then-from (chains moves) (ready p part name) _ w (ready-from moves p part name w good idle)
      (then-keeps (chains moves) (changes (edit_abortable_at name depth (waited_mark (not (is_cancelled outcome))))) _
      (changes-keeps (chains moves) _ (edit_abortable_at-alters name depth (waited_mark (not (is_cancelled outcome)))))
      (then-keeps (chains moves) (looks (λ w. end_top_abortable p part name (frames_of w name))) _ (end_found_abortable-keeps p part name)
      (open_sequence-keeps moves p part name)))

  end_waiting-from : (p : Image) (part : Part) (c : Call) (depth : ℕ) (outcome : Outcome) (w : World) (test : Bool) → G w
      → waits_for_end c.number (waiting_of w (who.Task c.caller)) ≡ test
      → From R w (elim test as (λ _. Step) [ true ↦ end_wait p part c depth outcome | false ↦ trigger_at part c.caller depth ])
  end_waiting-from p part c depth outcome w true good is =
      end_wait-from p part c depth outcome w good (moves.asleep (who.Task c.caller) w good (waits-end c.number (waiting_of w (who.Task c.caller)) is))
  end_waiting-from p part c depth outcome w false good is =
      keeps-from (chains moves) (trigger_at part c.caller depth) w good (trigger_at-keeps part c.caller depth)

  pub end_for_abortable-keeps : (p : Image) (part : Part) (c : Call) (depth : ℕ) (outcome : Outcome) → Keeps G R (end_for_abortable p part c depth outcome)
  unfolding end_for_abortable
  end_for_abortable-keeps p part c depth outcome =
      looks-from (chains moves) _ (λ w good. end_waiting-from p part c depth outcome w (waits_for_end c.number (waiting_of w (who.Task c.caller))) good refl)

  resumes-from : (p : Image) (part : Part) (c : Call) (outcome : Outcome) (w : World) (test : Bool) → G w
      → waits_for_call c.number (waiting_of w (who.Task c.caller)) ≡ test
      → From R w (when test (ready p part (who.Task c.caller) ▷ resume p part c outcome ▷ open_sequence p part (who.Task c.caller)))
  resumes-from p part c outcome w true good is =
      let name = who.Task c.caller in
      then-from (chains moves) (ready p part name) _ w
      (ready-from moves p part name w good (moves.asleep name w good (waits-call c.number (waiting_of w name) is)))
      (then-keeps (chains moves) _ _ (resume-keeps (plain_steps moves) p part c outcome tt) (open_sequence-keeps moves p part name))
  resumes-from p part c outcome w false good is = keeps-from (chains moves) nothing w good (nothing-keeps (chains moves))

  pub end_for_caller-keeps : (p : Image) (part : Part) (c : Call) (outcome : Outcome) → Keeps G R (end_for_caller p part c outcome)
  unfolding end_for_caller
  end_for_caller-keeps p part c outcome =
      looks-from (chains moves) _ (λ w good. resumes-from p part c outcome w (waits_for_call c.number (waiting_of w (who.Task c.caller))) good refl)

  pub end_for-keeps : (p : Image) (part : Part) (c : Call) (outcome : Outcome) (n : Option ℕ) → Keeps G R (end_for p part c outcome n)
  unfolding end_for
  end_for-keeps p part c outcome (Some depth) = search (end_for_abortable-keeps)
  end_for-keeps p part c outcome None = search (end_for_caller-keeps)

  pub end_with-keeps : (p : Image) (part : Part) (c : Call) (outcome : Outcome) → Keeps G R (end_with p part c outcome)
  unfolding end_with
  end_with-keeps p part c outcome = search (changes-keeps, edit_call-alters, then-keeps, looks-keeps, end_for-keeps, chains, plain_steps)

  pub end_call-keeps : (p : Image) (part : Part) (c : Call) (outcome : Outcome) → Keeps G R (end_call p part c outcome)
  unfolding end_call
  end_call-keeps p part c outcome =
      looks-from (chains moves) _ (λ w good. let r = with_results p c outcome w in
      let first = with_results-world (plain_steps moves) p c outcome w good in
      changes_then-from (chains moves) (λ _. r.0) (end_with p part c r.1) w first
      (keeps-from (chains moves) (end_with p part c r.1) r.0 (moves.behind w r.0 first) (end_with-keeps p part c r.1)))

  pub deliver-keeps : (p : Image) (part : Part) (c : CallNo) (outcome : Outcome) → Keeps G R (deliver p part c outcome)
  unfolding deliver
  deliver-keeps p part c outcome = search (with_call-keeps, end_call-keeps, then-keeps, unwind-keeps, chains, plain_steps)

  pub gone-keeps : (p : Image) (part : Part) (c : Call) → Keeps G R (gone p part c)
  unfolding gone
  gone-keeps p part c = search (changes-keeps, unqueued-alters, then-keeps, says-keeps, chains, plain_steps)
