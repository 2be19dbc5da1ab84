-- How calls end: each step keeps what its parts keep.
use Rattle.ann_base.specs.declared.identities.CallNo.{CallNo}
use Rattle.ann_base.specs.declared.identities.TaskNo.{TaskNo}
use Rattle.ceiling_laws.proofs.Fine.Kept.Calls.{edit_call-alters, forget_call-alters, unqueued-alters, with_call-keeps}
use Rattle.ceiling_laws.proofs.Fine.Kept.Frames.{Gives, edit_frames-alters, goes-keeps, leaves-keeps}
use Rattle.ceiling_laws.proofs.Fine.Kept.Frames.{open_sequence-keeps, pass_on-keeps, pop-alters, raises-keeps}
use Rattle.ceiling_laws.proofs.Fine.Kept.Statements.{store-gives}
use Rattle.ceiling_laws.proofs.Fine.Kept.Tasks.{says-keeps}
use Rattle.ceiling_laws.proofs.Fine.Kept.Unwinding.{unwind-keeps}
use Rattle.ceiling_laws.proofs.Fine.Kept.Waking.{ready-at}
use Rattle.ceiling_laws.proofs.Fine.LevelMoves.{BaseMoves, Silences}
use Rattle.ceiling_laws.proofs.Fine.SameLemmas.{same_self, same_then}
use Rattle.ceiling_laws.proofs.Runs.Triples.{Alters, At, Keeps, Leads, State, branch-keeps, changes-keeps, changes-leads, from_at, looks-keeps}
use Rattle.ceiling_laws.proofs.Runs.Triples.{looks-with, nothing-keeps, then-keeps, then-leads, unchanged-alters, when-keeps, when-leads}
use Rattle.ceiling_laws.proofs.Fine.Cores.{Same}
use Rattle.profile_machine.specs.Act.{below}
use Rattle.profile_machine.specs.CallEnds.{abortable_depth, behind_abortable, copy_back, deliver, edit_abortable, edit_abortable_at, edit_depth}
use Rattle.profile_machine.specs.CallEnds.{edit_frame, end_abortable, end_abortable_in, end_call, end_for, end_for_abortable, end_for_caller}
use Rattle.profile_machine.specs.CallEnds.{end_top_abortable, end_wait, end_with, ended_by_itself, forget_trigger, go_by_outcome, gone}
use Rattle.profile_machine.specs.CallEnds.{is_cancelled, or_stored, resume, run_triggered, store, trigger_at, trigger_outcome, triggered_mark}
use Rattle.profile_machine.specs.CallEnds.{waited_mark, waits_for_call, waits_for_end, with_outcome, with_results}
use Rattle.profile_machine.specs.Dispatching.{ready}
use Rattle.profile_machine.specs.Frames.{frames_of, leaving_of, pass_on, with_mark}
use Rattle.profile_machine.specs.Operators.{Valued}
use Rattle.profile_machine.specs.Steps.{Step, changes, looks}
use Rattle.profile_machine.specs.Tasks.{task_of, waiting_of}
use Rattle.profile_machine.specs.Unwinding.{struck_frame}
use Rattle.profile_image.specs.declared.image.Image.{Image}
use Rattle.profile_image.specs.declared.numbers.StatementNo.{StatementNo}
use Rattle.profile_machine.specs.declared.run_data.Leaving.TheVariants as how
use Rattle.profile_image.specs.declared.values.Value.{Value}
use Rattle.profile_machine.specs.declared.world.World.{World}
use Rattle.profile_machine.specs.declared.world.calls.Call.{Call}
use Rattle.profile_machine.specs.declared.world.calls.Outcome.{Outcome}
use Rattle.profile_machine.specs.declared.world.calls.Outcome.TheVariants as call_ended
use Rattle.profile_machine.specs.declared.world.lines.Line.TheVariants as line
use Rattle.profile_machine.specs.declared.world.lines.Part.{Part}
use Rattle.profile_machine.specs.declared.world.marks.AbortableMark.{AbortableMark}
use Rattle.profile_machine.specs.declared.world.marks.Frame.{Frame}
use Rattle.profile_machine.specs.declared.world.marks.Mark.{Mark}
use Rattle.profile_machine.specs.declared.world.marks.Mark.TheVariants.{Abortable}
use Rattle.profile_machine.specs.declared.world.scopes.Variable.{Variable}
use Rattle.std.proofs.Common.{refl, subst, sym, ◌≡◌}
use Rattle.std.specs.Prelude.{Bool, Err, List, None, Ok, Option, Some, [], false, not, true, ℕ, ◌∷◌}
use Rattle.trace_text.specs.declared.events.Who.{Who}
use Rattle.trace_text.specs.declared.events.Who.TheVariants as who
use Rattle.ceiling_laws.proofs.Runs.Kept.Waking.{waiting-blocked}
use Rattle.ceiling_laws.proofs.Runs.LevelMoves.{FitsAll, Fitting, Sleeping}

-- ---- results that are copied back

or_stored-same : (result : Valued World) (again : World → World × Bool) (w : World) → Gives w result → ((v : World) → Same v (again v).0)
    → Same w (or_stored w result again).0
unfolding Gives
or_stored-same (Ok next) again w a b = same_then w next (again next).0 a (b next)
or_stored-same (Err e) again w a b = same_self w

copy_back-same : (p : Image) (results : List (Option Variable)) (values : List Value) (w : World) → Same w (copy_back p results values w).0
copy_back-same p [] values w = same_self w
copy_back-same p (None ∷ results) [] w = same_self w
copy_back-same p (None ∷ results) (v ∷ values) w = copy_back-same p results values w
copy_back-same p (Some target ∷ results) [] w = same_self w
copy_back-same p (Some target ∷ results) (v ∷ values) w =
    or_stored-same (store p target v w) (copy_back p results values) w (store-gives p target v w) (copy_back-same p results values)

with_results-same : (p : Image) (c : Call) (outcome : Outcome) (w : World) → Same w (with_results p c outcome w).0
with_results-same p c call_ended.Finished w = copy_back-same p c.results c.values w
with_results-same p c call_ended.Cancelled w = same_self w
with_results-same p c (call_ended.ToRaise e) w = same_self w
with_results-same p c (call_ended.WasRaised e) w = same_self w

module _ {X : State} (quiet : Silences X) where
  pub go_by_outcome-keeps : (p : Image) (part : Part) (name : Who) (s : StatementNo) (outcome : Outcome) → Keeps X (go_by_outcome p part name s outcome)
  unfolding go_by_outcome
  go_by_outcome-keeps p part name s call_ended.Finished = goes-keeps quiet name _
  go_by_outcome-keeps p part name s call_ended.Cancelled = goes-keeps quiet name _
  go_by_outcome-keeps p part name s (call_ended.ToRaise e) = raises-keeps quiet part name e
  go_by_outcome-keeps p part name s (call_ended.WasRaised e) = leaves-keeps quiet name (how.Exception e)

  pub resume-keeps : (p : Image) (part : Part) (c : Call) (outcome : Outcome) → Keeps X (resume p part c outcome)
  unfolding resume
  resume-keeps p part c outcome =
      then-keeps _ _ (changes-keeps _ (forget_call-alters quiet c.number)) (go_by_outcome-keeps p part (who.Task c.caller) c.statement outcome)

  pub edit_frame-alters : (name : Who) (depth : ℕ) (f : Frame → Frame) → Alters X (edit_frame name depth f)
  edit_frame-alters name depth f = edit_frames-alters quiet name (edit_depth depth f)

  pub edit_abortable_at-alters : (name : Who) (depth : ℕ) (f : AbortableMark → AbortableMark) → Alters X (edit_abortable_at name depth f)
  edit_abortable_at-alters name depth f = edit_frame-alters name depth (λ x. with_mark (edit_abortable f x.mark) x)

  pub trigger_at-keeps : (part : Part) (t : TaskNo) (depth : ℕ) → Keeps X (trigger_at part t depth)
  unfolding trigger_at
  trigger_at-keeps part t depth =
      then-keeps _ _ (changes-keeps _ (edit_abortable_at-alters (who.Task t) depth triggered_mark))
      (then-keeps _ _ (says-keeps quiet part (line.Trigger t) refl) (changes-keeps _ (edit_frame-alters (who.Task t) depth struck_frame)))

  pub forget_trigger-alters : (c : Option CallNo) → Alters X (forget_trigger c)
  forget_trigger-alters None = unchanged-alters
  forget_trigger-alters (Some c) = forget_call-alters quiet c

  pub run_triggered-keeps : (p : Image) (part : Part) (name : Who) (select : StatementNo) (outcome : Outcome)
      → Keeps X (run_triggered p part name select outcome)
  unfolding run_triggered
  run_triggered-keeps p part name select call_ended.Finished = goes-keeps quiet name _
  run_triggered-keeps p part name select call_ended.Cancelled = nothing-keeps
  run_triggered-keeps p part name select (call_ended.ToRaise e) = raises-keeps quiet part name e
  run_triggered-keeps p part name select (call_ended.WasRaised e) = leaves-keeps quiet name (how.Exception e)

  pub behind_abortable-keeps : (p : Image) (part : Part) (name : Who) (m : AbortableMark) (outcome : Outcome) → Keeps X (behind_abortable p part name m outcome)
  unfolding behind_abortable
  behind_abortable-keeps p part name m outcome = when-keeps m.triggered _ (run_triggered-keeps p part name m.select outcome)

  pub end_abortable-keeps : (p : Image) (part : Part) (name : Who) (m : AbortableMark) (f : Frame) (below : List Frame)
      → Keeps X (end_abortable p part name m f below)
  unfolding end_abortable
  end_abortable-keeps p part name m f below =
      looks-keeps _ (λ w. then-keeps _ _ (changes-keeps _ (pop-alters quiet name)) (then-keeps _ _ (changes-keeps _ (forget_trigger-alters m.call))
      (branch-keeps (ended_by_itself f below) (behind_abortable p part name m (trigger_outcome w m.call)) (pass_on p name (leaving_of f))
      (behind_abortable-keeps p part name m (trigger_outcome w m.call)) (pass_on-keeps quiet p name (leaving_of f)))))

  end_abortable_in-keeps : (p : Image) (part : Part) (name : Who) (f : Frame) (below : List Frame) (mark : Mark)
      → Keeps X (end_abortable_in p part name f below mark)
  unfolding end_abortable_in
  end_abortable_in-keeps p part name f below (Abortable m) = end_abortable-keeps p part name m f below
  end_abortable_in-keeps p part name f below _ = nothing-keeps

  pub end_top_abortable-keeps : (p : Image) (part : Part) (name : Who) (frames : List Frame) → Keeps X (end_top_abortable p part name frames)
  unfolding end_top_abortable
  end_top_abortable-keeps p part name [] = nothing-keeps
  end_top_abortable-keeps p part name (f ∷ below) = end_abortable_in-keeps p part name f below f.mark

  pub gone-keeps : (p : Image) (part : Part) (c : Call) → Keeps X (gone p part c)
  unfolding gone
  gone-keeps p part c = then-keeps _ _ (changes-keeps _ (unqueued-alters quiet p c)) (says-keeps quiet part (line.Gone c.caller c.number) refl)

-- ---- where the caller waits it becomes ready

module _ {p : Image} {Fits : Fitting} {Sleeps : Sleeping} {X : State} (moves : BaseMoves p Fits Sleeps X) where
  end_wait-at : (part : Part) (c : Call) (depth : ℕ) (outcome : Outcome) (v : World) → Fits part (who.Task c.caller) → Sleeps v (who.Task c.caller)
      → Leads (At X v) X (end_wait p part c depth outcome)
  unfolding end_wait
  end_wait-at part c depth outcome v fits s =
      let name = who.Task c.caller in
      then-leads (ready p part name) _ (ready-at moves part name v fits s)
      (then-keeps (changes (edit_abortable_at name depth (waited_mark (not (is_cancelled outcome))))) _
      (changes-keeps _ (edit_abortable_at-alters moves.quiet name depth (waited_mark (not (is_cancelled outcome)))))
      (then-keeps (looks (λ w. end_top_abortable p part name (frames_of w name))) _
      (looks-keeps _ (λ w. end_top_abortable-keeps moves.quiet p part name (frames_of w name))) (open_sequence-keeps moves.quiet p part name)))

  end_waits-at : (part : Part) (c : Call) (depth : ℕ) (outcome : Outcome) (v : World) (test : Bool) → Fits part (who.Task c.caller)
      → waits_for_end c.number (waiting_of v (who.Task c.caller)) ≡ test
      → Leads (At X v) X (elim test as (λ _. Step) [ true ↦ end_wait p part c depth outcome | false ↦ trigger_at part c.caller depth ])
  end_waits-at part c depth outcome v true fits is =
      end_wait-at part c depth outcome v fits
      (moves.sleeps v (who.Task c.caller) (waiting-blocked (waits_for_end c.number) refl (task_of v (who.Task c.caller)).state is))
  end_waits-at part c depth outcome v false fits is = from_at (trigger_at part c.caller depth) (trigger_at-keeps moves.quiet part c.caller depth)

  pub end_for_abortable-keeps : (part : Part) (c : Call) (depth : ℕ) (outcome : Outcome) → Fits part (who.Task c.caller)
      → Keeps X (end_for_abortable p part c depth outcome)
  unfolding end_for_abortable
  end_for_abortable-keeps part c depth outcome fits =
      looks-with _ (λ v said h. end_waits-at part c depth outcome v (waits_for_end c.number (waiting_of v (who.Task c.caller))) fits refl)

  pub end_for_caller-keeps : (part : Part) (c : Call) (outcome : Outcome) → Fits part (who.Task c.caller) → Keeps X (end_for_caller p part c outcome)
  unfolding end_for_caller
  end_for_caller-keeps part c outcome fits =
      let name = who.Task c.caller in
      looks-with _ (λ v said h. when-leads (waits_for_call c.number (waiting_of v name)) _
      (λ is. then-leads (ready p part name) _
      (ready-at moves part name v fits (moves.sleeps v name (waiting-blocked (waits_for_call c.number) refl (task_of v name).state is)))
      (then-keeps _ _ (resume-keeps moves.quiet p part c outcome) (open_sequence-keeps moves.quiet p part name)))
      (λ w s k. k.0))

  pub end_for-keeps : (part : Part) (c : Call) (outcome : Outcome) (n : Option ℕ) → Fits part (who.Task c.caller) → Keeps X (end_for p part c outcome n)
  unfolding end_for
  end_for-keeps part c outcome (Some depth) fits = end_for_abortable-keeps part c depth outcome fits
  end_for-keeps part c outcome None fits = end_for_caller-keeps part c outcome fits

  pub end_with-keeps : (part : Part) (c : Call) (outcome : Outcome) → Fits part (who.Task c.caller) → Keeps X (end_with p part c outcome)
  unfolding end_with
  end_with-keeps part c outcome fits =
      then-keeps _ _ (changes-keeps _ (edit_call-alters moves.quiet c.number (with_outcome outcome) (λ d. refl) (λ d. refl)))
      (looks-keeps _ (λ w. end_for-keeps part c outcome (abortable_depth w c) fits))

  pub end_call-keeps : (part : Part) (c : Call) (outcome : Outcome) → Fits part (who.Task c.caller) → Keeps X (end_call p part c outcome)
  unfolding end_call
  end_call-keeps part c outcome fits =
      looks-with _ (λ v said h. let r = with_results p c outcome v in
      then-leads (changes (λ _. r.0)) (end_with p part c r.1)
      (changes-leads (λ _. r.0) (λ w s k. moves.quiet.silently w r.0 s (subst (λ u. Same u r.0) (sym k.1) (with_results-same p c outcome v)) k.0))
      (end_with-keeps part c r.1 fits))

  pub deliver-keeps : (part : Part) (c : CallNo) (outcome : Outcome) → FitsAll Fits part → Keeps X (deliver p part c outcome)
  unfolding deliver
  deliver-keeps part c outcome fits =
      with_call-keeps moves.quiet c _
      (λ d. then-keeps _ _ (end_call-keeps part d outcome (fits (who.Task d.caller))) (unwind-keeps moves part (who.Task d.caller) (fits (who.Task d.caller))))
