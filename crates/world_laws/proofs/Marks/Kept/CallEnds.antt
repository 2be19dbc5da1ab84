-- How calls end: each step keeps a relation that its parts keep.
use Rattle.profile_machine.specs.Calls.{edit_call}
use Rattle.std.specs.Prelude.{ℕ, Bool, List, [], ◌∷◌, Option, Some, None, not}
use Rattle.ann_base.specs.declared.identities.TaskNo.{TaskNo}
use Rattle.ann_base.specs.declared.identities.CallNo.{CallNo}
use Rattle.trace_text.specs.declared.events.Who.{Who}
use Rattle.trace_text.specs.declared.events.Who.TheVariants as who
use Rattle.profile_image.specs.declared.image.Image.{Image}
use Rattle.profile_image.specs.declared.numbers.StatementNo.{StatementNo}
use Rattle.profile_machine.specs.declared.world.World.{World}
use Rattle.profile_machine.specs.declared.world.marks.Frame.{Frame}
use Rattle.profile_machine.specs.declared.world.marks.Mark.{Mark}
use Rattle.profile_machine.specs.declared.world.marks.AbortableMark.{AbortableMark}
use Rattle.profile_machine.specs.declared.world.calls.Call.{Call}
use Rattle.profile_machine.specs.declared.world.calls.Outcome.{Outcome}
use Rattle.profile_machine.specs.declared.world.calls.Outcome.TheVariants as call_ended
use Rattle.profile_machine.specs.declared.world.marks.Mark.TheVariants.{Abortable}
use Rattle.profile_machine.specs.declared.world.lines.Part.{Part}
use Rattle.profile_machine.specs.Steps.{Step, changes, looks, ◌▷◌}
use Rattle.world_tables.specs.Lists.{first_of}
use Rattle.profile_machine.specs.Tasks.{waiting_of}
use Rattle.profile_machine.specs.Frames.{open_sequence, frames_of, top_of, pop, pass_on, leaving_of}
use Rattle.profile_machine.specs.CallEnds.{abortable_depth, depth_of_abortable, with_outcome, triggered_mark, with_results, edit_frame}
use Rattle.profile_machine.specs.CallEnds.{edit_abortable_at, trigger_at, trigger_outcome, forget_trigger, run_triggered, ended_by_itself}
use Rattle.profile_machine.specs.CallEnds.{behind_abortable, end_abortable, end_abortable_in, end_top_abortable, end_wait, waits_for_end}
use Rattle.profile_machine.specs.CallEnds.{end_for_abortable, end_for_caller, end_for, end_with, end_call, deliver, gone, waited_mark, is_cancelled}
use Rattle.std.specs.Prelude.{true, false}
use Rattle.std.proofs.Common.{◌≡◌, refl, ap, ◌∙◌, inl}
use Rattle.machine_laws.proofs.Moves.{StepRelation, MoveRelation}
use Rattle.profile_machine.specs.Unwinding.{struck_frame}
use Rattle.profile_machine.specs.declared.world.lines.Line.TheVariants as line
use Rattle.world_laws.proofs.Marks.MarkFacts.{Ends, CanTrigger, triggered_part, top_awaits}
use Rattle.world_laws.proofs.Marks.TopLemmas.{ready-frames, ready-calm}
use Rattle.world_laws.proofs.Marks.TriggerLemmas.{waits_of, waited-quiet, waited-calm, call-can_trigger}
use Rattle.world_laws.proofs.Marks.FineMoves.{FineMoves, chains, says-keeps}
use Rattle.world_laws.proofs.Marks.Kept.Combinators.{changes_said_changes-from}
use Rattle.world_laws.proofs.Marks.Kept.Dispatching.{ready-keeps, ready_then-from}
use Rattle.world_laws.proofs.Marks.Kept.Frames.{goes-keeps, popped, leaves-keeps, open_sequence-keeps, plain_steps}
use Rattle.world_laws.proofs.Marks.Kept.Unwinding.{unwind-keeps}
use Rattle.machine_laws.proofs.FineMoves.{GoodWorld, Naming}
use Rattle.line_laws.proofs.Leaving.FineMoves.{ready_world}
use Rattle.machine_laws.proofs.Kept.Combinators.{Alters, From, Keeps, branch-keeps, changes-keeps, changes_then-from, keeps-from, looks-from}
use Rattle.machine_laws.proofs.Kept.Combinators.{looks-keeps, looks_at-from, nothing-keeps, then-from, then-keeps, unchanged-alters, when-keeps}
use Rattle.machine_laws.proofs.Plain.Frames.{raises-keeps, pass_on-keeps}
use Rattle.machine_laws.proofs.Plain.Calls.{edit_call-alters, forget_call-alters, with_call-keeps, unqueued-alters}
use Rattle.machine_laws.proofs.Plain.PlainSteps.{anybody}
use Rattle.machine_laws.proofs.Plain.Results.{with_results-world, resume-keeps}

module _ {G : GoodWorld} {May Other : Naming} {R : StepRelation} {Q : MoveRelation} (moves : FineMoves G May Other R Q) where
  -- a trigger completes where an abortable part stands that may be struck
  pub trigger_at-from : (part : Part) (t : TaskNo) (depth : ℕ) (w : World) → G w → CanTrigger t depth w → From R w (trigger_at part t depth)
  unfolding trigger_at
  trigger_at-from part t depth w good can =
      changes_said_changes-from moves (edit_abortable_at (who.Task t) depth triggered_mark) (edit_frame (who.Task t) depth struck_frame) part (line.Trigger t) w
      (moves.triggers part t depth w good can)

  pub forget_trigger-alters : (c : Option CallNo) → Alters G R (forget_trigger c)
  forget_trigger-alters None = search (unchanged-alters, chains)
  forget_trigger-alters (Some c) = search (forget_call-alters, plain_steps)

  pub run_triggered-keeps : (p : Image) (part : Part) (name : Who) (select : StatementNo) (outcome : Outcome)
      → Keeps G R (run_triggered p part name select outcome)
  unfolding run_triggered
  run_triggered-keeps p part name select call_ended.Finished = search (goes-keeps)
  run_triggered-keeps p part name select call_ended.Cancelled = search (nothing-keeps, chains)
  run_triggered-keeps p part name select (call_ended.ToRaise e) = search (raises-keeps, plain_steps)
  run_triggered-keeps p part name select (call_ended.WasRaised e) = search (leaves-keeps)

  pub behind_abortable-keeps : (p : Image) (part : Part) (name : Who) (m : AbortableMark) (outcome : Outcome)
      → Keeps G R (behind_abortable p part name m outcome)
  unfolding behind_abortable
  behind_abortable-keeps p part name m outcome = search (when-keeps, run_triggered-keeps, chains)

  -- it ends where it is on top
  end_abortable-from : (p : Image) (part : Part) (name : Who) (m : AbortableMark) (f : Frame) (below : List Frame) (w : World) → G w → May name
      → top_of w name ≡ Some f → Ends name f w → From R w (end_abortable p part name m f below)
  unfolding end_abortable
  end_abortable-from p part name m f below w good may top free =
      let out = popped moves name f w good may top free in
      looks_at-from (chains moves)
      (λ v. changes (pop name) ▷ changes (forget_trigger m.call)
      ▷ elim (ended_by_itself f below) as (λ _. Step) [
        | true ↦ behind_abortable p part name m (trigger_outcome v m.call)
        | false ↦ pass_on p name (leaving_of f)
      ]) w
      (changes_then-from (chains moves) (pop name) _ w out (keeps-from (chains moves) _ (pop name w) (moves.behind w (pop name w) out)
      (then-keeps (chains moves) (changes (forget_trigger m.call)) _ (search (changes-keeps, forget_trigger-alters, chains))
      (branch-keeps (chains moves) (ended_by_itself f below) (behind_abortable p part name m (trigger_outcome w m.call)) (pass_on p name (leaving_of f))
      (search (behind_abortable-keeps)) (search (pass_on-keeps, plain_steps, anybody))))))

  end_abortable_in-from : (p : Image) (part : Part) (name : Who) (f : Frame) (below : List Frame) (mark : Mark) (w : World) → G w → May name
      → top_of w name ≡ Some f → Ends name f w → From R w (end_abortable_in p part name f below mark)
  unfolding end_abortable_in
  end_abortable_in-from p part name f below (Abortable m) w good may top ends = end_abortable-from p part name m f below w good may top ends
  end_abortable_in-from p part name f below _ w good may top ends = keeps-from (chains moves) _ w good (nothing-keeps (chains moves))

  end_top_abortable-from : (p : Image) (part : Part) (name : Who) (frames : List Frame) (w : World) → G w → May name → frames_of w name ≡ frames
      → ((f : Frame) → top_of w name ≡ Some f → Ends name f w) → From R w (end_top_abortable p part name frames)
  unfolding end_top_abortable
  end_top_abortable-from p part name [] w good may is ends = keeps-from (chains moves) _ w good (nothing-keeps (chains moves))
  end_top_abortable-from p part name (f ∷ below) w good may is ends =
      end_abortable_in-from p part name f below f.mark w good may (ap first_of is) (ends f (ap first_of is))

  pub end_found_abortable-from : (p : Image) (part : Part) (name : Who) (w : World) → G w → May name → ((f : Frame) → top_of w name ≡ Some f → Ends name f w)
      → From R w (looks (λ v. end_top_abortable p part name (frames_of v name)))
  end_found_abortable-from p part name w good may ends =
      looks_at-from (chains moves) (λ v. end_top_abortable p part name (frames_of v name)) w
      (end_top_abortable-from p part name (frames_of w name) w good may refl ends)

  -- who waited for the end of its call has a mark on top that awaits no trigger
  end_wait-from : (p : Image) (part : Part) (c : Call) (depth : ℕ) (outcome : Outcome) (w : World) → G w
      → waits_for_end c.number (waiting_of w (who.Task c.caller)) ≡ true → abortable_depth w c ≡ Some depth → From R w (end_wait p part c depth outcome)
  unfolding end_wait
  end_wait-from p part c depth outcome w good waits found =
      let name = who.Task c.caller in
      let other = moves.task_other c.caller in
      let may = moves.other_may name other in
      let b = not (is_cancelled outcome) in
      let v = ready_world p name w in
      let u = edit_abortable_at name depth (waited_mark b) v in
      let right = waits_of w (moves.facts w good) c.caller c.number waits in
      let frames = ready-frames p name w in
      let still : depth_of_abortable c.number (frames_of v name) ≡ Some depth = ap (depth_of_abortable c.number) frames ∙ found in
      let quiet : top_awaits (frames_of v name) ≡ false = ap top_awaits frames ∙ right.0 in
      let untriggered : triggered_part c.number (frames_of v name) ≡ false = ap (triggered_part c.number) frames ∙ right.1 in
      let calm = ready-calm p name w in
      ready_then-from moves p part name _ w good other (λ good_v.
      let edits = moves.has_waited c.number c.caller depth b v good_v calm still untriggered in
      let good_u = moves.behind v u edits in
      changes_then-from (chains moves) (edit_abortable_at name depth (waited_mark b)) _ v edits
      (then-from (chains moves) (looks (λ x. end_top_abortable p part name (frames_of x name))) (open_sequence p part name) u
      (end_found_abortable-from p part name u good_u may
      (λ f top. (inl (waited-quiet name c.number depth b f v still quiet top), waited-calm name depth b v calm)))
      (open_sequence-keeps moves p part name may)))

  end_by_test-from : (p : Image) (part : Part) (c : Call) (depth : ℕ) (outcome : Outcome) (w : World) (test : Bool) → G w
      → waits_for_end c.number (waiting_of w (who.Task c.caller)) ≡ test → abortable_depth w c ≡ Some depth
      → From R w (elim test as (λ _. Step) [ true ↦ end_wait p part c depth outcome | false ↦ trigger_at part c.caller depth ])
  end_by_test-from p part c depth outcome w true good waits found = end_wait-from p part c depth outcome w good waits found
  end_by_test-from p part c depth outcome w false good waits found =
      trigger_at-from part c.caller depth w good (call-can_trigger w (moves.facts w good) c depth waits found)

  end_for_abortable-from : (p : Image) (part : Part) (c : Call) (depth : ℕ) (outcome : Outcome) (w : World) → G w → abortable_depth w c ≡ Some depth
      → From R w (end_for_abortable p part c depth outcome)
  unfolding end_for_abortable
  end_for_abortable-from p part c depth outcome w good found =
      looks_at-from (chains moves)
      (λ v. elim (waits_for_end c.number (waiting_of v (who.Task c.caller))) as (λ _. Step) [
        | true ↦ end_wait p part c depth outcome
        | false ↦ trigger_at part c.caller depth
      ]) w
      (end_by_test-from p part c depth outcome w (waits_for_end c.number (waiting_of w (who.Task c.caller))) good refl found)

  pub end_for_caller-keeps : (p : Image) (part : Part) (c : Call) (outcome : Outcome) → Keeps G R (end_for_caller p part c outcome)
  unfolding end_for_caller
  end_for_caller-keeps p part c outcome =
      search (
        looks-keeps,
        when-keeps,
        ready-keeps,
        then-keeps,
        resume-keeps,
        open_sequence-keeps,
        moves.other_may,
        moves.task_other,
        chains,
        plain_steps,
        anybody,
      ) depth 10

  end_for-from : (p : Image) (part : Part) (c : Call) (outcome : Outcome) (n : Option ℕ) (w : World) → G w → abortable_depth w c ≡ n
      → From R w (end_for p part c outcome n)
  unfolding end_for
  end_for-from p part c outcome (Some depth) w good found = end_for_abortable-from p part c depth outcome w good found
  end_for-from p part c outcome None w good found = keeps-from (chains moves) _ w good (end_for_caller-keeps p part c outcome)

  pub end_with-keeps : (p : Image) (part : Part) (c : Call) (outcome : Outcome) → Keeps G R (end_with p part c outcome)
  unfolding end_with
  end_with-keeps p part c outcome =
      then-keeps (chains moves) (changes (edit_call c.number (with_outcome outcome))) _ (search (changes-keeps, edit_call-alters, chains, plain_steps))
      (looks-from (chains moves) _ (λ w good. end_for-from p part c outcome (abortable_depth w c) w good refl))

  pub end_call-keeps : (p : Image) (part : Part) (c : Call) (outcome : Outcome) → Keeps G R (end_call p part c outcome)
  unfolding end_call
  end_call-keeps p part c outcome =
      looks-from (chains moves) _ (λ w good. let r = with_results p c outcome w in
      let first = with_results-world (plain_steps moves) p c outcome w good in
      changes_then-from (chains moves) (λ _. r.0) (end_with p part c r.1) w first
      (keeps-from (chains moves) (end_with p part c r.1) r.0 (moves.behind w r.0 first) (end_with-keeps p part c r.1)))

  pub deliver-keeps : (p : Image) (part : Part) (c : CallNo) (outcome : Outcome) → Keeps G R (deliver p part c outcome)
  unfolding deliver
  deliver-keeps p part c outcome = search (with_call-keeps, end_call-keeps, then-keeps, unwind-keeps, moves.task_other, chains, plain_steps)

  pub gone-keeps : (p : Image) (part : Part) (c : Call) → Keeps G R (gone p part c)
  unfolding gone
  gone-keeps p part c = search (changes-keeps, unqueued-alters, then-keeps, says-keeps, chains, plain_steps)
