-- How calls end: each step keeps a relation that its parts keep.
use Rattle.std.specs.Prelude.{ℕ, Bool, List, [], ◌∷◌, Option, Some, None, not}
use Rattle.ann_base.specs.declared.identities.TaskNo.{TaskNo}
use Rattle.ann_base.specs.declared.identities.CallNo.{CallNo}
use Rattle.trace_text.specs.declared.events.Who.{Who}
use Rattle.trace_text.specs.declared.events.Who.TheVariants as who
use Rattle.profile_image.specs.declared.image.Image.{Image}
use Rattle.profile_image.specs.declared.numbers.StatementNo.{StatementNo}
use Rattle.profile_machine.specs.declared.world.World.{World}
use Rattle.profile_machine.specs.declared.world.marks.Frame.{Frame}
use Rattle.profile_machine.specs.declared.world.marks.Mark.{Mark}
use Rattle.profile_machine.specs.declared.world.marks.AbortableMark.{AbortableMark}
use Rattle.profile_machine.specs.declared.world.calls.Call.{Call}
use Rattle.profile_machine.specs.declared.world.calls.Outcome.{Outcome}
use Rattle.profile_machine.specs.declared.world.calls.Outcome.TheVariants as call_ended
use Rattle.profile_machine.specs.declared.world.marks.Mark.TheVariants.{Scope, Handled, InProtected, InAccept, Abortable, InInitialize, InFinalize, InAssign}
use Rattle.profile_machine.specs.declared.world.lines.Part.{Part}
use Rattle.profile_machine.specs.Steps.{Step, changes, looks, ◌▷◌}
use Rattle.world_tables.specs.Lists.{first_of}
use Rattle.profile_machine.specs.Tasks.{waiting_of}
use Rattle.profile_machine.specs.Frames.{frames_of, top_of, pop, pass_on, leaving_of, with_mark, leaves, raises, open_sequence}
use Rattle.profile_machine.specs.declared.run_data.Leaving.TheVariants as how
use Rattle.profile_machine.specs.declared.world.tasks.Waiting.{Waiting}
use Rattle.profile_machine.specs.declared.world.tasks.Waiting.TheVariants as waits_for
use Rattle.profile_machine.specs.Tasks.{with_frames}
use Rattle.profile_machine.specs.Calls.{forget_call}
use Rattle.profile_machine.specs.Steps.{nothing, when}
use Rattle.std.proofs.Common.{is_some}
use Rattle.profile_machine.specs.CallEnds.{onward_when_done, onward_when_cancelled, waits_for_call, go_by_outcome, resume, with_results, edit_depth}
use Rattle.profile_machine.specs.CallEnds.{edit_frame, edit_abortable, edit_abortable_at, trigger_at, trigger_outcome, forget_trigger, run_triggered}
use Rattle.profile_machine.specs.CallEnds.{ended_by_itself, behind_abortable, end_abortable, end_abortable_in, end_top_abortable, end_wait, waits_for_end}
use Rattle.profile_machine.specs.CallEnds.{end_for_abortable, end_for_caller, end_for, end_with, end_call, deliver, gone, waited_mark, is_cancelled}
use Rattle.std.specs.Prelude.{true, false, cond, eqb, length}
use Rattle.std.proofs.Common.{◌≡◌, refl, ap, ◌∙◌}
use Rattle.machine_laws.proofs.Moves.{StepRelation, MoveRelation}
use Rattle.line_laws.proofs.Leaving.FineMoves.{FineMoves, nature, Alike, Free, Awake, waits, is_special, ready_world, chains, says-keeps}
use Rattle.line_laws.proofs.Leaving.TaskLemmas.{awake-edited}
use Rattle.line_laws.proofs.Leaving.Kept.Combinators.{free_then-from, when-from}
use Rattle.line_laws.proofs.Leaving.Kept.Tasks.{edit_frames-alters}
use Rattle.line_laws.proofs.Leaving.Kept.Dispatching.{ready-keeps, ready_then-from}
use Rattle.line_laws.proofs.Leaving.Kept.Frames.{alike, goes-from, leaves-keeps, pass_on-from, open_sequence-keeps, plain_steps}
use Rattle.line_laws.proofs.Leaving.Kept.Unwinding.{unwind-keeps}
use Rattle.profile_machine.specs.Dispatching.{ready}
use Rattle.machine_laws.proofs.FineMoves.{GoodWorld, Naming}
use Rattle.machine_laws.proofs.Kept.Combinators.{Alters, From, Keeps, changes-keeps, changes_then-from, either-from, keeps-from, looks-from}
use Rattle.machine_laws.proofs.Kept.Combinators.{looks-keeps, looks_at-from, nothing-keeps, then-from, then-keeps, unchanged-alters}
use Rattle.machine_laws.proofs.Plain.Frames.{raises-keeps}
use Rattle.machine_laws.proofs.Plain.Calls.{edit_call-alters, forget_call-alters, with_call-keeps, unqueued-alters}
use Rattle.machine_laws.proofs.Plain.Results.{with_results-world}

-- an edit of a mark somewhere, and of an abortable part
at_depth-alike : (test : Bool) (f : Frame → Frame) (x : Frame) (xs ys : List Frame) → nature (f x).mark ≡ nature x.mark → (f x).onward ≡ x.onward → Alike ys xs
    → Alike (cond test (f x ∷ xs) (x ∷ ys)) (x ∷ xs)
at_depth-alike true f x xs ys same onward rest = (same, (λ e. ap is_some onward ∙ e), alike xs)
at_depth-alike false f x xs ys same onward rest = (refl, (λ e. e), rest)

depth-alike : (depth : ℕ) (f : Frame → Frame) (fs : List Frame) → ((x : Frame) → nature (f x).mark ≡ nature x.mark) → ((x : Frame) → (f x).onward ≡ x.onward)
    → Alike (edit_depth depth f fs) fs
depth-alike depth f [] same onward = tt
depth-alike depth f (x ∷ xs) same onward =
    at_depth-alike (eqb (length xs) depth) f x xs (edit_depth depth f xs) (same x) (onward x) (depth-alike depth f xs same onward)

pub abortable-nature : (f : AbortableMark → AbortableMark) (mark : Mark) → nature (edit_abortable f mark) ≡ nature mark
abortable-nature f (Scope m) = refl
abortable-nature f (Handled s) = refl
abortable-nature f (InProtected m) = refl
abortable-nature f (InAccept m) = refl
abortable-nature f (Abortable m) = refl
abortable-nature f (InInitialize l) = refl
abortable-nature f (InFinalize o) = refl
abortable-nature f (InAssign m) = refl

module _ {G : GoodWorld} {May Acts Pushes : Naming} {Stops : Type 0} {R : StepRelation} {Q : MoveRelation} (moves : FineMoves G May Acts Pushes Stops R Q) where
  go_by_outcome-from : (p : Image) (part : Part) (name : Who) (s : StatementNo) (outcome : Outcome) (w : World) → G w → Free name w
      → From R w (go_by_outcome p part name s outcome)
  unfolding go_by_outcome
  go_by_outcome-from p part name s call_ended.Finished w good free = goes-from moves name (onward_when_done p s) w good free
  go_by_outcome-from p part name s call_ended.Cancelled w good free = goes-from moves name (onward_when_cancelled p s) w good free
  go_by_outcome-from p part name s (call_ended.ToRaise e) w good free =
      keeps-from (chains moves) (raises part name e) w good (raises-keeps (plain_steps moves) part name e)
  go_by_outcome-from p part name s (call_ended.WasRaised e) w good free =
      keeps-from (chains moves) (leaves name (how.Exception e)) w good (leaves-keeps moves name (how.Exception e))

  pub resume-from : (p : Image) (part : Part) (c : Call) (outcome : Outcome) (w : World) → G w → Free (who.Task c.caller) w → From R w (resume p part c outcome)
  unfolding resume
  resume-from p part c outcome w good free =
      free_then-from moves (who.Task c.caller) (changes (forget_call c.number)) _ w free
      (keeps-from (chains moves) _ w good (search (changes-keeps, forget_call-alters, chains, plain_steps)))
      (λ v good_v free_v. go_by_outcome-from p part (who.Task c.caller) c.statement outcome v good_v free_v)

  pub edit_frame-alters : (name : Who) (depth : ℕ) (f : Frame → Frame) → ((x : Frame) → nature (f x).mark ≡ nature x.mark)
      → ((x : Frame) → (f x).onward ≡ x.onward) → Alters G R (edit_frame name depth f)
  edit_frame-alters name depth f same onward = edit_frames-alters moves name (edit_depth depth f) (λ fs. depth-alike depth f fs same onward)

  pub edit_abortable_at-alters : (name : Who) (depth : ℕ) (f : AbortableMark → AbortableMark) → Alters G R (edit_abortable_at name depth f)
  edit_abortable_at-alters name depth f = edit_frame-alters name depth (λ x. with_mark (edit_abortable f x.mark) x) (λ x. abortable-nature f x.mark) (λ x. refl)

  pub trigger_at-keeps : (part : Part) (t : TaskNo) (depth : ℕ) → Keeps G R (trigger_at part t depth)
  unfolding trigger_at
  trigger_at-keeps part t depth = search (changes-keeps, edit_abortable_at-alters, then-keeps, says-keeps, edit_frame-alters, chains) depth 8

  pub forget_trigger-alters : (c : Option CallNo) → Alters G R (forget_trigger c)
  forget_trigger-alters None = search (unchanged-alters, chains)
  forget_trigger-alters (Some c) = search (forget_call-alters, plain_steps)

  run_triggered-from : (p : Image) (part : Part) (name : Who) (select : StatementNo) (outcome : Outcome) (w : World) → G w → Free name w
      → From R w (run_triggered p part name select outcome)
  unfolding run_triggered
  run_triggered-from p part name select call_ended.Finished w good free = goes-from moves name (onward_when_done p select) w good free
  run_triggered-from p part name select call_ended.Cancelled w good free = keeps-from (chains moves) nothing w good (nothing-keeps (chains moves))
  run_triggered-from p part name select (call_ended.ToRaise e) w good free =
      keeps-from (chains moves) (raises part name e) w good (raises-keeps (plain_steps moves) part name e)
  run_triggered-from p part name select (call_ended.WasRaised e) w good free =
      keeps-from (chains moves) (leaves name (how.Exception e)) w good (leaves-keeps moves name (how.Exception e))

  behind_abortable-from : (p : Image) (part : Part) (name : Who) (m : AbortableMark) (outcome : Outcome) (w : World) → G w → Free name w
      → From R w (behind_abortable p part name m outcome)
  unfolding behind_abortable
  behind_abortable-from p part name m outcome w good free =
      when-from moves m.triggered (run_triggered p part name m.select outcome) w good (run_triggered-from p part name m.select outcome w good free)

  -- it ends where it is on top, of who does not wait
  end_abortable-from : (p : Image) (part : Part) (name : Who) (m : AbortableMark) (f : Frame) (below : List Frame) (w : World) → G w → Pushes name
      → Awake name w → top_of w name ≡ Some f → is_special f.mark ≡ false → From R w (end_abortable p part name m f below)
  unfolding end_abortable Alters
  end_abortable-from p part name m f below w good pushes awake top plain =
      let out = moves.pops name f w good pushes awake top plain in
      let good_out = moves.behind w (pop name w) out in
      let dropped = forget_trigger-alters m.call (pop name w) good_out in
      let good_dropped = moves.behind (pop name w) (forget_trigger m.call (pop name w)) dropped in
      let free = moves.still_free name (pop name w) (forget_trigger m.call (pop name w)) dropped (moves.popped_free name f w good top plain) in
      looks_at-from (chains moves)
      (λ v. changes (pop name) ▷ changes (forget_trigger m.call)
      ▷ elim (ended_by_itself f below) as (λ _. Step) [
        | true ↦ behind_abortable p part name m (trigger_outcome v m.call)
        | false ↦ pass_on p name (leaving_of f)
      ]) w
      (changes_then-from (chains moves) (pop name) _ w out
      (changes_then-from (chains moves) (forget_trigger m.call) _ (pop name w) dropped
      (either-from (chains moves) (ended_by_itself f below) (behind_abortable p part name m (trigger_outcome w m.call)) (pass_on p name (leaving_of f))
      (forget_trigger m.call (pop name w))
      (behind_abortable-from p part name m (trigger_outcome w m.call) (forget_trigger m.call (pop name w)) good_dropped free)
      (pass_on-from moves p name (leaving_of f) (forget_trigger m.call (pop name w)) good_dropped free))))

  end_abortable_in-from : (p : Image) (part : Part) (name : Who) (f : Frame) (below : List Frame) (mark : Mark) (w : World) → G w → Pushes name → Awake name w
      → top_of w name ≡ Some f → f.mark ≡ mark → From R w (end_abortable_in p part name f below mark)
  unfolding end_abortable_in
  end_abortable_in-from p part name f below (Abortable m) w good pushes awake top is =
      end_abortable-from p part name m f below w good pushes awake top (ap is_special is)
  end_abortable_in-from p part name f below _ w good pushes awake top is = keeps-from (chains moves) _ w good (nothing-keeps (chains moves))

  end_top_abortable-from : (p : Image) (part : Part) (name : Who) (frames : List Frame) (w : World) → G w → Pushes name → Awake name w
      → frames_of w name ≡ frames → From R w (end_top_abortable p part name frames)
  unfolding end_top_abortable
  end_top_abortable-from p part name [] w good pushes awake is = keeps-from (chains moves) _ w good (nothing-keeps (chains moves))
  end_top_abortable-from p part name (f ∷ below) w good pushes awake is =
      end_abortable_in-from p part name f below f.mark w good pushes awake (ap first_of is) refl

  pub end_found_abortable-from : (p : Image) (part : Part) (name : Who) (w : World) → G w → Pushes name → Awake name w
      → From R w (looks (λ v. end_top_abortable p part name (frames_of v name)))
  end_found_abortable-from p part name w good pushes awake =
      looks_at-from (chains moves) (λ v. end_top_abortable p part name (frames_of v name)) w
      (end_top_abortable-from p part name (frames_of w name) w good pushes awake refl)

  end_wait-from : (p : Image) (part : Part) (c : Call) (depth : ℕ) (outcome : Outcome) (w : World) → G w → Pushes (who.Task c.caller)
      → From R w (end_wait p part c depth outcome)
  unfolding end_wait Alters
  end_wait-from p part c depth outcome w good pushes =
      let name = who.Task c.caller in
      let f = λ (m : AbortableMark). waited_mark (not (is_cancelled outcome)) m in
      ready_then-from moves p part name _ w good (λ good_ready awake.
      let v = ready_world p name w in
      let edited = edit_abortable_at-alters name depth f v good_ready in
      let still : Awake name (edit_abortable_at name depth f v) =
      awake-edited name name (λ t. with_frames (edit_depth depth (λ x. with_mark (edit_abortable f x.mark) x) t.frames) t) v (λ t. refl)
      (λ t. refl) awake in
      changes_then-from (chains moves) (edit_abortable_at name depth f) _ v edited
      (then-from (chains moves) (looks (λ u. end_top_abortable p part name (frames_of u name))) (open_sequence p part name) (edit_abortable_at name depth f v)
      (end_found_abortable-from p part name (edit_abortable_at name depth f v) (moves.behind v (edit_abortable_at name depth f v) edited) pushes still)
      (open_sequence-keeps moves p part name pushes)))

  waits-end : (c : CallNo) (waiting : Option Waiting) → waits_for_end c waiting ≡ true → waits waiting ≡ true
  waits-end c (Some (waits_for.EndOfCall d)) e = refl
  waits-end c None e = absurd cc
  waits-end c (Some waits_for.Activation) e = absurd cc
  waits-end c (Some waits_for.Moment) e = absurd cc
  waits-end c (Some (waits_for.Call d)) e = absurd cc
  waits-end c (Some (waits_for.Accept s)) e = absurd cc
  waits-end c (Some (waits_for.Select accepts delay terminate)) e = absurd cc
  waits-end c (Some (waits_for.Dependents r)) e = absurd cc
  waits-end c (Some waits_for.Release) e = absurd cc

  pub waits-call : (c : CallNo) (waiting : Option Waiting) → waits_for_call c waiting ≡ true → waits waiting ≡ true
  waits-call c (Some (waits_for.Call d)) e = refl
  waits-call c None e = absurd cc
  waits-call c (Some waits_for.Activation) e = absurd cc
  waits-call c (Some waits_for.Moment) e = absurd cc
  waits-call c (Some (waits_for.EndOfCall d)) e = absurd cc
  waits-call c (Some (waits_for.Accept s)) e = absurd cc
  waits-call c (Some (waits_for.Select accepts delay terminate)) e = absurd cc
  waits-call c (Some (waits_for.Dependents r)) e = absurd cc
  waits-call c (Some waits_for.Release) e = absurd cc

  end_waiting-from : (p : Image) (part : Part) (c : Call) (depth : ℕ) (outcome : Outcome) (w : World) (test : Bool) → G w
      → waits_for_end c.number (waiting_of w (who.Task c.caller)) ≡ test
      → From R w (elim test as (λ _. Step) [ true ↦ end_wait p part c depth outcome | false ↦ trigger_at part c.caller depth ])
  end_waiting-from p part c depth outcome w true good is =
      end_wait-from p part c depth outcome w good (moves.waiting_pushes (who.Task c.caller) w good (waits-end c.number (waiting_of w (who.Task c.caller)) is))
  end_waiting-from p part c depth outcome w false good is =
      keeps-from (chains moves) (trigger_at part c.caller depth) w good (trigger_at-keeps part c.caller depth)

  pub end_for_abortable-keeps : (p : Image) (part : Part) (c : Call) (depth : ℕ) (outcome : Outcome) → Keeps G R (end_for_abortable p part c depth outcome)
  unfolding end_for_abortable
  end_for_abortable-keeps p part c depth outcome =
      looks-from (chains moves) _ (λ w good. end_waiting-from p part c depth outcome w (waits_for_end c.number (waiting_of w (who.Task c.caller))) good refl)

  -- the caller, who waited, goes on
  resumes-from : (p : Image) (part : Part) (c : Call) (outcome : Outcome) (w : World) → G w → Pushes (who.Task c.caller) → Free (who.Task c.caller) w
      → From R w (ready p part (who.Task c.caller) ▷ resume p part c outcome ▷ open_sequence p part (who.Task c.caller))
  resumes-from p part c outcome w good pushes free =
      let name = who.Task c.caller in
      free_then-from moves name (ready p part name) _ w free (keeps-from (chains moves) (ready p part name) w good (ready-keeps moves p part name))
      (λ v good_v free_v. then-from (chains moves) (resume p part c outcome) (open_sequence p part name) v (resume-from p part c outcome v good_v free_v)
      (open_sequence-keeps moves p part name pushes))

  end_called-from : (p : Image) (part : Part) (c : Call) (outcome : Outcome) (w : World) (test : Bool) → G w
      → waits_for_call c.number (waiting_of w (who.Task c.caller)) ≡ test
      → From R w (when test (ready p part (who.Task c.caller) ▷ resume p part c outcome ▷ open_sequence p part (who.Task c.caller)))
  end_called-from p part c outcome w true good is =
      let waiting = waits-call c.number (waiting_of w (who.Task c.caller)) is in
      resumes-from p part c outcome w good (moves.waiting_pushes (who.Task c.caller) w good waiting) (moves.waiting_free (who.Task c.caller) w good waiting)
  end_called-from p part c outcome w false good is = keeps-from (chains moves) nothing w good (nothing-keeps (chains moves))

  pub end_for_caller-keeps : (p : Image) (part : Part) (c : Call) (outcome : Outcome) → Keeps G R (end_for_caller p part c outcome)
  unfolding end_for_caller
  end_for_caller-keeps p part c outcome =
      looks-from (chains moves) _ (λ w good. end_called-from p part c outcome w (waits_for_call c.number (waiting_of w (who.Task c.caller))) good refl)

  pub end_for-keeps : (p : Image) (part : Part) (c : Call) (outcome : Outcome) (n : Option ℕ) → Keeps G R (end_for p part c outcome n)
  unfolding end_for
  end_for-keeps p part c outcome (Some depth) = search (end_for_abortable-keeps)
  end_for-keeps p part c outcome None = search (end_for_caller-keeps)

  pub end_with-keeps : (p : Image) (part : Part) (c : Call) (outcome : Outcome) → Keeps G R (end_with p part c outcome)
  unfolding end_with
  end_with-keeps p part c outcome = search (changes-keeps, edit_call-alters, then-keeps, looks-keeps, end_for-keeps, chains, plain_steps)

  pub end_call-keeps : (p : Image) (part : Part) (c : Call) (outcome : Outcome) → Keeps G R (end_call p part c outcome)
  unfolding end_call
  end_call-keeps p part c outcome =
      looks-from (chains moves) _ (λ w good. let r = with_results p c outcome w in
      let first = with_results-world (plain_steps moves) p c outcome w good in
      changes_then-from (chains moves) (λ _. r.0) (end_with p part c r.1) w first
      (keeps-from (chains moves) (end_with p part c r.1) r.0 (moves.behind w r.0 first) (end_with-keeps p part c r.1)))

  pub deliver-keeps : (p : Image) (part : Part) (c : CallNo) (outcome : Outcome) → Keeps G R (deliver p part c outcome)
  unfolding deliver
  deliver-keeps p part c outcome = search (with_call-keeps, end_call-keeps, then-keeps, unwind-keeps, chains, plain_steps)

  pub gone-keeps : (p : Image) (part : Part) (c : Call) → Keeps G R (gone p part c)
  unfolding gone
  gone-keeps p part c = search (changes-keeps, unqueued-alters, then-keeps, says-keeps, chains, plain_steps)
