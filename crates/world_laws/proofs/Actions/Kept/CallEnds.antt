-- How calls end: each step leaves worlds good where its parts do.
use Rattle.std.specs.Prelude.{ℕ, Bool, List, [], ◌∷◌, Option, Some, None, not, true, false, cond, eqb, length}
use Rattle.ann_base.specs.declared.identities.TaskNo.{TaskNo}
use Rattle.ann_base.specs.declared.identities.CallNo.{CallNo}
use Rattle.trace_text.specs.declared.events.Who.{Who}
use Rattle.trace_text.specs.declared.events.Who.TheVariants as who
use Rattle.profile_image.specs.declared.image.Image.{Image}
use Rattle.profile_image.specs.declared.numbers.StatementNo.{StatementNo}
use Rattle.profile_machine.specs.declared.world.World.{World}
use Rattle.profile_machine.specs.declared.world.marks.Frame.{Frame}
use Rattle.profile_machine.specs.declared.world.marks.Mark.{Mark}
use Rattle.profile_machine.specs.declared.world.marks.AbortableMark.{AbortableMark}
use Rattle.profile_machine.specs.declared.world.calls.Call.{Call}
use Rattle.profile_machine.specs.declared.world.calls.Outcome.{Outcome}
use Rattle.profile_machine.specs.declared.world.calls.Outcome.TheVariants as call_ended
use Rattle.profile_machine.specs.declared.world.marks.Mark.TheVariants.{Scope, Handled, InProtected, InAccept, Abortable, InInitialize, InFinalize, InAssign}
use Rattle.profile_machine.specs.declared.world.lines.Part.{Part}
use Rattle.profile_machine.specs.Steps.{Step, changes, looks, ◌▷◌}
use Rattle.world_tables.specs.Lists.{first_of}
use Rattle.profile_machine.specs.Tasks.{waiting_of}
use Rattle.profile_machine.specs.Frames.{frames_of, top_of, pop, pass_on, leaving_of, with_mark, is_protected}
use Rattle.profile_machine.specs.CallEnds.{with_results, edit_depth, edit_frame, edit_abortable, edit_abortable_at, trigger_at}
use Rattle.profile_machine.specs.CallEnds.{trigger_outcome, forget_trigger, run_triggered, ended_by_itself, behind_abortable}
use Rattle.profile_machine.specs.CallEnds.{end_abortable, end_abortable_in, end_top_abortable, end_wait, waits_for_end, end_for_abortable}
use Rattle.profile_machine.specs.CallEnds.{end_for_caller, end_for, end_with, end_call, deliver, gone, waited_mark, is_cancelled}
use Rattle.std.proofs.Common.{◌≡◌, refl, ap}
use Rattle.world_laws.proofs.Actions.FineMoves.{FineMoves, chains, says-keeps}
use Rattle.world_laws.proofs.Actions.Natures.{nature, natures}
use Rattle.world_laws.proofs.Actions.Kept.Combinators.{changes_then-from}
use Rattle.world_laws.proofs.Actions.Kept.Tasks.{edit_frames-alters}
use Rattle.world_laws.proofs.Actions.Kept.Dispatching.{ready-keeps}
use Rattle.world_laws.proofs.Actions.Kept.Frames.{goes-keeps, popped, leaves-keeps, open_sequence-keeps, plain_steps}
use Rattle.world_laws.proofs.Actions.Kept.Unwinding.{unwind-keeps}
use Rattle.profile_machine.specs.Dispatching.{ready}
use Rattle.machine_laws.proofs.FineMoves.{GoodWorld, Naming}
use Rattle.machine_laws.proofs.Kept.Combinators.{Alters, From, Keeps, branch-keeps, changes-keeps, keeps-from, looks-from}
use Rattle.machine_laws.proofs.Kept.Combinators.{looks-keeps, looks_at-from, nothing-keeps, then-keeps, unchanged-alters, when-keeps}
use Rattle.world_laws.proofs.Behind.{Behind}
use Rattle.machine_laws.proofs.Plain.Frames.{raises-keeps, pass_on-keeps}
use Rattle.machine_laws.proofs.Plain.Calls.{edit_call-alters, forget_call-alters, with_call-keeps, unqueued-alters}
use Rattle.machine_laws.proofs.Plain.PlainSteps.{anybody}
use Rattle.machine_laws.proofs.Plain.Results.{with_results-world, resume-keeps}

-- an edit of a mark somewhere, and of an abortable part
at_depth-natures : (test : Bool) (f : Frame → Frame) (x : Frame) (xs ys : List Frame) → nature (f x).mark ≡ nature x.mark → natures ys ≡ natures xs
    → natures (cond test (f x ∷ xs) (x ∷ ys)) ≡ natures (x ∷ xs)
at_depth-natures true f x xs ys same rest = ap (λ n. n ∷ natures xs) same
at_depth-natures false f x xs ys same rest = ap (λ ns. nature x.mark ∷ ns) rest

pub depth-natures : (depth : ℕ) (f : Frame → Frame) (fs : List Frame) → ((x : Frame) → nature (f x).mark ≡ nature x.mark)
    → natures (edit_depth depth f fs) ≡ natures fs
depth-natures depth f [] same = refl
depth-natures depth f (x ∷ xs) same = at_depth-natures (eqb (length xs) depth) f x xs (edit_depth depth f xs) (same x) (depth-natures depth f xs same)

pub abortable-nature : (f : AbortableMark → AbortableMark) (mark : Mark) → nature (edit_abortable f mark) ≡ nature mark
abortable-nature f (Scope m) = refl
abortable-nature f (Handled s) = refl
abortable-nature f (InProtected m) = refl
abortable-nature f (InAccept m) = refl
abortable-nature f (Abortable m) = refl
abortable-nature f (InInitialize l) = refl
abortable-nature f (InFinalize o) = refl
abortable-nature f (InAssign m) = refl

module _ {G : GoodWorld} {F : Naming} (moves : FineMoves G F) where
  pub edit_frame-alters : (name : Who) (depth : ℕ) (f : Frame → Frame) → ((x : Frame) → nature (f x).mark ≡ nature x.mark)
      → Alters G (Behind G) (edit_frame name depth f)
  edit_frame-alters name depth f same = edit_frames-alters moves name (edit_depth depth f) (λ fs. depth-natures depth f fs same)

  pub edit_abortable_at-alters : (name : Who) (depth : ℕ) (f : AbortableMark → AbortableMark) → Alters G (Behind G) (edit_abortable_at name depth f)
  edit_abortable_at-alters name depth f = edit_frame-alters name depth (λ x. with_mark (edit_abortable f x.mark) x) (λ x. abortable-nature f x.mark)

  pub trigger_at-keeps : (part : Part) (t : TaskNo) (depth : ℕ) → Keeps G (Behind G) (trigger_at part t depth)
  unfolding trigger_at
  trigger_at-keeps part t depth = search (changes-keeps, edit_abortable_at-alters, then-keeps, says-keeps, edit_frame-alters, chains) depth 8

  pub forget_trigger-alters : (c : Option CallNo) → Alters G (Behind G) (forget_trigger c)
  forget_trigger-alters None = search (unchanged-alters, chains)
  forget_trigger-alters (Some c) = search (forget_call-alters, plain_steps)

  pub run_triggered-keeps : (p : Image) (part : Part) (name : Who) (select : StatementNo) (outcome : Outcome)
      → Keeps G (Behind G) (run_triggered p part name select outcome)
  unfolding run_triggered
  run_triggered-keeps p part name select call_ended.Finished = search (goes-keeps)
  run_triggered-keeps p part name select call_ended.Cancelled = search (nothing-keeps, chains)
  run_triggered-keeps p part name select (call_ended.ToRaise e) = search (raises-keeps, plain_steps)
  run_triggered-keeps p part name select (call_ended.WasRaised e) = search (leaves-keeps)

  pub behind_abortable-keeps : (p : Image) (part : Part) (name : Who) (m : AbortableMark) (outcome : Outcome)
      → Keeps G (Behind G) (behind_abortable p part name m outcome)
  unfolding behind_abortable
  behind_abortable-keeps p part name m outcome = search (when-keeps, run_triggered-keeps, chains)

  -- it ends where it is on top
  end_abortable-from : (p : Image) (part : Part) (name : Who) (m : AbortableMark) (f : Frame) (below : List Frame) (w : World) → G w → top_of w name ≡ Some f
      → is_protected f.mark ≡ false → From (Behind G) w (end_abortable p part name m f below)
  unfolding end_abortable
  end_abortable-from p part name m f below w good top free =
      let out = popped moves name f w good top free in
      looks_at-from (chains moves)
      (λ v. changes (pop name) ▷ changes (forget_trigger m.call)
      ▷ elim (ended_by_itself f below) as (λ _. Step) [
        | true ↦ behind_abortable p part name m (trigger_outcome v m.call)
        | false ↦ pass_on p name (leaving_of f)
      ]) w
      (changes_then-from moves (pop name) _ w (keeps-from (chains moves) _ (pop name w) out
      (then-keeps (chains moves) (changes (forget_trigger m.call)) _ (search (changes-keeps, forget_trigger-alters, chains))
      (branch-keeps (chains moves) (ended_by_itself f below) (behind_abortable p part name m (trigger_outcome w m.call)) (pass_on p name (leaving_of f))
      (search (behind_abortable-keeps)) (search (pass_on-keeps, plain_steps, anybody))))))

  end_abortable_in-from : (p : Image) (part : Part) (name : Who) (f : Frame) (below : List Frame) (mark : Mark) (w : World) → G w → top_of w name ≡ Some f
      → f.mark ≡ mark → From (Behind G) w (end_abortable_in p part name f below mark)
  unfolding end_abortable_in
  end_abortable_in-from p part name f below (Abortable m) w good top is = end_abortable-from p part name m f below w good top (ap is_protected is)
  end_abortable_in-from p part name f below _ w good top is = keeps-from (chains moves) _ w good (nothing-keeps (chains moves))

  end_top_abortable-from : (p : Image) (part : Part) (name : Who) (frames : List Frame) (w : World) → G w → frames_of w name ≡ frames
      → From (Behind G) w (end_top_abortable p part name frames)
  unfolding end_top_abortable
  end_top_abortable-from p part name [] w good is = keeps-from (chains moves) _ w good (nothing-keeps (chains moves))
  end_top_abortable-from p part name (f ∷ below) w good is = end_abortable_in-from p part name f below f.mark w good (ap first_of is) refl

  pub end_found_abortable-keeps : (p : Image) (part : Part) (name : Who) → Keeps G (Behind G) (looks (λ w. end_top_abortable p part name (frames_of w name)))
  end_found_abortable-keeps p part name = looks-from (chains moves) _ (λ w good. end_top_abortable-from p part name (frames_of w name) w good refl)

  pub end_wait-keeps : (p : Image) (part : Part) (c : Call) (depth : ℕ) (outcome : Outcome) → Keeps G (Behind G) (end_wait p part c depth outcome)
  unfolding end_wait
  end_wait-keeps p part c depth outcome =
      let name = who.Task c.caller in
      then-keeps (chains moves) (ready p part name) _ (ready-keeps moves p part name)
      (then-keeps (chains moves) (changes (edit_abortable_at name depth (waited_mark (not (is_cancelled outcome))))) _
      (changes-keeps (chains moves) _ (edit_abortable_at-alters name depth (waited_mark (not (is_cancelled outcome)))))
      (then-keeps (chains moves) (looks (λ w. end_top_abortable p part name (frames_of w name))) _ (end_found_abortable-keeps p part name)
      (open_sequence-keeps moves p part name)))

  pub end_for_abortable-keeps : (p : Image) (part : Part) (c : Call) (depth : ℕ) (outcome : Outcome)
      → Keeps G (Behind G) (end_for_abortable p part c depth outcome)
  unfolding end_for_abortable
  end_for_abortable-keeps p part c depth outcome =
      looks-keeps (chains moves) _
      (λ w. branch-keeps (chains moves) (waits_for_end c.number (waiting_of w (who.Task c.caller))) (end_wait p part c depth outcome)
      (trigger_at part c.caller depth) (search (end_wait-keeps)) (search (trigger_at-keeps)))

  pub end_for_caller-keeps : (p : Image) (part : Part) (c : Call) (outcome : Outcome) → Keeps G (Behind G) (end_for_caller p part c outcome)
  unfolding end_for_caller
  end_for_caller-keeps p part c outcome =
      search (looks-keeps, when-keeps, ready-keeps, then-keeps, resume-keeps, open_sequence-keeps, chains, plain_steps, anybody) depth 10

  pub end_for-keeps : (p : Image) (part : Part) (c : Call) (outcome : Outcome) (n : Option ℕ) → Keeps G (Behind G) (end_for p part c outcome n)
  unfolding end_for
  end_for-keeps p part c outcome (Some depth) = search (end_for_abortable-keeps)
  end_for-keeps p part c outcome None = search (end_for_caller-keeps)

  pub end_with-keeps : (p : Image) (part : Part) (c : Call) (outcome : Outcome) → Keeps G (Behind G) (end_with p part c outcome)
  unfolding end_with
  end_with-keeps p part c outcome = search (changes-keeps, edit_call-alters, then-keeps, looks-keeps, end_for-keeps, chains, plain_steps)

  pub end_call-keeps : (p : Image) (part : Part) (c : Call) (outcome : Outcome) → Keeps G (Behind G) (end_call p part c outcome)
  unfolding end_call
  end_call-keeps p part c outcome =
      looks-from (chains moves) _ (λ w good. let r = with_results p c outcome w in
      let first = with_results-world (plain_steps moves) p c outcome w good in
      changes_then-from moves (λ _. r.0) (end_with p part c r.1) w (keeps-from (chains moves) (end_with p part c r.1) r.0 first (end_with-keeps p part c r.1)))

  pub deliver-keeps : (p : Image) (part : Part) (c : CallNo) (outcome : Outcome) → Keeps G (Behind G) (deliver p part c outcome)
  unfolding deliver
  deliver-keeps p part c outcome = search (with_call-keeps, end_call-keeps, then-keeps, unwind-keeps, chains, plain_steps)

  pub gone-keeps : (p : Image) (part : Part) (c : Call) → Keeps G (Behind G) (gone p part c)
  unfolding gone
  gone-keeps p part c = search (changes-keeps, unqueued-alters, then-keeps, says-keeps, chains, plain_steps)
