-- The effect of an action: each step keeps a relation that its parts keep.
use Rattle.profile_machine.specs.declared.world.tasks.Waiting.TheVariants as waits_for
use Rattle.profile_machine.specs.Dispatching.{block, says_block}
use Rattle.profile_machine.specs.declared.world.lines.Said.{Said}
use Rattle.ann_base.specs.declared.identities.CallNo.{CallNo}
use Rattle.profile_machine.specs.declared.world.tasks.State.TheVariants.{Blocked}
use Rattle.std.proofs.Common.{◌≡◌, refl, sym, ap, subst, ◌∙◌, false, List, [], ◌∷◌, inl, inr}
use Rattle.std.specs.Prelude.{ℕ, List, Option, Some, None, Bool, cond, true, false}
use Rattle.ann_base.specs.declared.exceptions.Raised.{Raised}
use Rattle.trace_text.specs.declared.events.Who.{Who}
use Rattle.trace_text.specs.declared.events.Who.TheVariants as who
use Rattle.profile_image.specs.declared.image.Image.{Image}
use Rattle.profile_image.specs.declared.numbers.StatementNo.{StatementNo}
use Rattle.profile_machine.specs.declared.run_data.Leaving.{Leaving}
use Rattle.profile_machine.specs.declared.run_data.Leaving.TheVariants as how
use Rattle.profile_image.specs.declared.statements.Actual.{Actual}
use Rattle.profile_image.specs.declared.statements.Callee.{Callee}
use Rattle.profile_image.specs.declared.statements.Callee.TheVariants as callee
use Rattle.profile_image.specs.declared.statements.Destination.{Destination}
use Rattle.profile_image.specs.declared.statements.StatementForm.{StatementForm}
use Rattle.profile_image.specs.declared.statements.StatementForm.TheVariants as form
use Rattle.profile_machine.specs.declared.world.marks.Frame.{Frame}
use Rattle.profile_machine.specs.declared.world.marks.Mark.{Mark}
use Rattle.profile_machine.specs.declared.world.marks.AbortableMark.{AbortableMark}
use Rattle.profile_machine.specs.declared.world.appointments.Release.{Release}
use Rattle.profile_machine.specs.declared.world.calls.Call.{Call}
use Rattle.profile_machine.specs.declared.world.marks.Mark.TheVariants.{Scope, Handled, InProtected, InAccept, Abortable, InInitialize, InFinalize, InAssign}
use Rattle.profile_machine.specs.declared.world.lines.Part.TheVariants.{Own, TheBlock}
use Rattle.profile_image.specs.Program.{form_of}
use Rattle.profile_machine.specs.Steps.{changes, looks, ◌▷◌, Done, Step, for_some, goes_on_with, done, nothing}
use Rattle.profile_machine.specs.Frames.{frames_of, top_of, pop, leaving_of, edit_top, with_mark}
use Rattle.profile_machine.specs.Calls.{with_call, attempt_with, attempt_on, call_of, is_cancellable}
use Rattle.profile_machine.specs.Act.{call_main, call, handle_or_pass, behind_handled, end_handled, end_top, wait_for_trigger, drop_trigger, below}
use Rattle.profile_machine.specs.Act.{end_abortable_by, end_in_abortable, act_statement, end_mark, act_frame, act_without, act_top, act, keeping, waiting_mark}
use Rattle.machine_laws.proofs.Moves.{StepRelation, MoveRelation, Puts}
use Rattle.profile_machine.specs.WellFormed.{awaits_trigger, is_triggered}
use Rattle.machine_laws.proofs.FinestMoves.{natures, action_in, action_first}
use Rattle.world_laws.proofs.Marks.MarkFacts.{Ends, Begun, Calm, nature}
use Rattle.world_laws.proofs.Marks.TopLemmas.{top_edited}
use Rattle.world_laws.proofs.Marks.DepthLemmas.{of_call-awaits, triggered-awaits}
use Rattle.world_laws.proofs.Marks.TriggerLemmas.{TopCalm, same_tops, attempt-top_calm, dropped-unappointed, dropped-calm, found-same_call}
use Rattle.world_laws.proofs.Marks.FineMoves.{FineMoves, Openings, Arming, RegionMoves, chains}
use Rattle.line_laws.proofs.Exits.TaskEdits.{one_of-is}
use Rattle.line_laws.proofs.Exits.Steady.{FreeIn, Holding, action_on_top}
use Rattle.profile_image.specs.Words.{is_the, same_call}
use Rattle.world_tables.specs.Lists.{first_of}
use Rattle.profile_machine.specs.Tasks.{task_of, edit_task, with_state}
use Rattle.world_laws.proofs.Marks.Kept.Dispatching.{says_block-keeps}
use Rattle.world_laws.proofs.Marks.Kept.Frames.{goes-keeps, popped, plain_steps}
use Rattle.world_laws.proofs.Marks.Kept.Tasks.{edit_top-alters}
use Rattle.world_laws.proofs.Marks.Kept.Scopes.{open_scope-alters}
use Rattle.world_laws.proofs.Marks.Kept.Appointments.{drop_appointment-alters}
use Rattle.world_laws.proofs.Marks.Kept.Statements.{block_statement-keeps, delay_until-keeps, put_line-keeps}
use Rattle.world_laws.proofs.Marks.Kept.Subprograms.{call_subprogram-keeps}
use Rattle.world_laws.proofs.Marks.Kept.Protected.{call_operation-keeps, call_own_operation-keeps}
use Rattle.world_laws.proofs.Marks.Kept.Priorities.{set_priority-keeps, set_quantum-keeps, set_deadline_of-keeps, delay_and_set_deadline-keeps}
use Rattle.world_laws.proofs.Marks.Kept.Serving.{end_in_protected-from}
use Rattle.world_laws.proofs.Marks.Kept.Rendezvous.{accept-keeps, selective_accept-keeps, end_in_accept-from}
use Rattle.world_laws.proofs.Marks.Kept.EntryCalls.{entry_call-keeps, requeue-keeps}
use Rattle.world_laws.proofs.Marks.Kept.Arming.{Led, led-from, led_looks-from, asynchronous_select-from}
use Rattle.world_laws.proofs.Marks.Kept.Controlled.{initialize-keeps, assign_controlled-keeps, end_in_initialize-from, end_in_finalize-from, end_in_assign-from}
use Rattle.world_laws.proofs.Marks.Kept.Tasking.{create-keeps, activate-keeps, end_own_activation-keeps, abort_statement-keeps, end_scope_mark-from}
use Rattle.world_laws.proofs.Marks.Kept.Handlers.{call_handler-keeps, set_event-keeps, cancel_event-keeps, set_timer-keeps}
use Rattle.world_laws.proofs.Marks.Kept.Handlers.{cancel_timer-keeps, add_member-keeps, remove_member-keeps, replenish-keeps}
use Rattle.world_laws.proofs.Marks.Kept.Handlers.{add_to_budget-keeps, set_budget-keeps, cancel_budget-keeps, releasing}
use Rattle.ann_base.specs.declared.identities.RegionNo.{RegionNo}
use Rattle.profile_machine.specs.declared.world.World.{World}
use Rattle.profile_machine.specs.declared.world.marks.ProtectedMark.{ProtectedMark}
use Rattle.profile_machine.specs.Serving.{end_in_protected}
use Rattle.world_laws.proofs.Marks.Kept.CallEnds.{end_found_abortable-from}
use Rattle.profile_machine.specs.CallEnds.{edit_abortable, is_abortable_of}
use Rattle.machine_laws.proofs.FineMoves.{GoodWorld, Naming, is_abortable}
use Rattle.machine_laws.proofs.Kept.Handlers.{Releasing}
use Rattle.machine_laws.proofs.Kept.Combinators.{Alters, From, Keeps, Kept, changes-from, changes-keeps, changes_then-from, keeps-from, looks-keeps}
use Rattle.machine_laws.proofs.Kept.Combinators.{looks_at-from, nothing-keeps, sees-keeps, then-from, then-keeps, then-kept, unchanged-alters, world_behind}
use Rattle.machine_laws.proofs.Plain.Frames.{raises-keeps, pass_on-keeps, with_room-keeps}
use Rattle.machine_laws.proofs.Plain.Calls.{attempt_on-keeps}
use Rattle.machine_laws.proofs.Plain.Statements.{null-keeps, assign-keeps, assign_array-keeps, if_statement-keeps, case_statement-keeps, while_turn-keeps}
use Rattle.machine_laws.proofs.Plain.Statements.{for_bounds-keeps, first_turn-keeps, later_turn-keeps, exit_statement-keeps, raise_again-keeps}
use Rattle.machine_laws.proofs.Plain.Subprograms.{return_value-keeps, return-keeps}
use Rattle.machine_laws.proofs.Plain.Declarations.{declare-keeps}
use Rattle.machine_laws.proofs.Plain.PlainSteps.{anybody}

-- a mark that keeps an exception is what it was
keeping-nature : (e : Raised) (mark : Mark) → nature (keeping e mark) ≡ nature mark
keeping-nature e (Scope m) = refl
keeping-nature e (Handled s) = refl
keeping-nature e (InProtected m) = refl
keeping-nature e (InAccept m) = refl
keeping-nature e (Abortable m) = refl
keeping-nature e (InInitialize l) = refl
keeping-nature e (InFinalize o) = refl
keeping-nature e (InAssign m) = refl

waiting_mark-nature : (mark : Mark) → nature (edit_abortable waiting_mark mark) ≡ nature mark
waiting_mark-nature (Scope m) = refl
waiting_mark-nature (Handled s) = refl
waiting_mark-nature (InProtected m) = refl
waiting_mark-nature (InAccept m) = refl
waiting_mark-nature (Abortable m) = refl
waiting_mark-nature (InInitialize l) = refl
waiting_mark-nature (InFinalize o) = refl
waiting_mark-nature (InAssign m) = refl

waiting-nature : (x : Frame) → nature (edit_abortable waiting_mark x.mark) ≡ nature x.mark
waiting-nature x = waiting_mark-nature x.mark

module _ {G : GoodWorld} {May Other : Naming} {R : StepRelation} {Q : MoveRelation} (moves : FineMoves G May Other R Q) where
  pub handle_or_pass-keeps : (p : Image) (name : Who) (e : Raised) (next : Option StatementNo) → Keeps G R (handle_or_pass p name e next)
  unfolding handle_or_pass
  handle_or_pass-keeps p name e None = search (pass_on-keeps, plain_steps, anybody)
  handle_or_pass-keeps p name e (Some first) = search (changes-keeps, edit_top-alters, keeping-nature, then-keeps, goes-keeps, chains)

  pub behind_handled-keeps : (p : Image) (name : Who) (s : StatementNo) (leaving : Leaving) → Keeps G R (behind_handled p name s leaving)
  unfolding behind_handled
  behind_handled-keeps p name s (how.Exception e) = search (handle_or_pass-keeps)
  behind_handled-keeps p name s how.End = search (nothing-keeps, chains)
  behind_handled-keeps p name s how.Return = search (pass_on-keeps, plain_steps, anybody)
  behind_handled-keeps p name s (how.Exit loop) = search (pass_on-keeps, plain_steps, anybody)
  behind_handled-keeps p name s how.Abort = search (pass_on-keeps, plain_steps, anybody)
  behind_handled-keeps p name s how.Terminate = search (pass_on-keeps, plain_steps, anybody)

  pub end_handled-from : (p : Image) (name : Who) (s : StatementNo) (leaving : Leaving) (f : Frame) (w : World) → G w → May name → top_of w name ≡ Some f
      → Ends name f w → From R w (end_handled p name s leaving)
  unfolding end_handled
  end_handled-from p name s leaving f w good may top free =
      let out = popped moves name f w good may top free in
      changes_then-from (chains moves) (pop name) _ w out
      (keeps-from (chains moves) (behind_handled p name s leaving) (pop name w) (moves.behind w (pop name w) out) (behind_handled-keeps p name s leaving))

  pub end_top-from : (p : Image) (name : Who) (w : World) → G w → May name → ((f : Frame) → top_of w name ≡ Some f → Ends name f w) → From R w (end_top p name)
  unfolding end_top
  end_top-from p name w good may ends = end_found_abortable-from moves p Own name w good may ends

  pub drop_trigger-alters : (name : Who) (depth : ℕ) → Alters G R (drop_trigger name depth)
  drop_trigger-alters (who.Task t) depth = search (drop_appointment-alters)
  drop_trigger-alters who.Agent depth = search (unchanged-alters, chains)

  -- who waits for the end of its call has its part on top
  waiting_block-from : (name : Who) (x : Frame) (d : Call) (w : World) → G w → Other name → top_of w name ≡ Some x → awaits_trigger x.mark ≡ false
      → is_abortable_of d.number x.mark ≡ true → is_triggered x.mark ≡ false → From R w (block TheBlock name (waits_for.EndOfCall d.number))
  unfolding block
  waiting_block-from name x d w good other top no_wait of_call untriggered =
      then-from (chains moves) (changes (edit_task name (with_state (Blocked (waits_for.EndOfCall d.number)))))
      (says_block TheBlock name (waits_for.EndOfCall d.number)) w
      (changes-from (chains moves) (edit_task name (with_state (Blocked (waits_for.EndOfCall d.number)))) w
      (moves.blocks_for_end name x d.number w good top no_wait of_call untriggered))
      (says_block-keeps moves TheBlock name (waits_for.EndOfCall d.number) other)

  wait_for_trigger-from : (name : Who) (m : AbortableMark) (f : Frame) (d : Call) (leaving : Leaving) (w : World) → G w → Other name → top_of w name ≡ Some f
      → f.mark ≡ Abortable m → is_the same_call m.call d.number ≡ true → m.triggered ≡ false → From R w (wait_for_trigger name d leaving)
  unfolding wait_for_trigger Alters
  wait_for_trigger-from name m f d leaving w good other top is of_call untriggered =
      let edit = λ (x : Frame). with_mark (edit_abortable waiting_mark x.mark) (record x { left_as = Some leaving }) in
      let v = edit_top name edit w in
      let edits = edit_top-alters moves name edit waiting-nature (λ x. refl) w good in
      let part : is_abortable_of d.number (edit f).mark ≡ true =
      subst (λ k. is_abortable_of d.number (edit_abortable waiting_mark k) ≡ true) (sym is) of_call in
      changes_then-from (chains moves) (edit_top name edit) (block TheBlock name (waits_for.EndOfCall d.number)) w edits
      (waiting_block-from name (edit f) d v (moves.behind w v edits) other (top_edited name edit f w top) (of_call-awaits d.number (edit f).mark part) part
      (subst (λ k. is_triggered (edit_abortable waiting_mark k) ≡ false) (sym is) untriggered))

  -- what an attempt to cancel leaves: the mark on top, and who is calm
  attempted-from : (p : Image) (name : Who) (m : AbortableMark) (f : Frame) (d : Call) (leaving : Leaving) (test : Bool) (w : World) → G w → May name
      → Other name → TopCalm name f w → f.mark ≡ Abortable m → is_the same_call m.call d.number ≡ true → m.triggered ≡ false
      → From R w (elim test as (λ _. Step) [ true ↦ end_top p name | false ↦ wait_for_trigger name d leaving ])
  attempted-from p name m f d leaving true w good may other at is of_call untriggered =
      end_top-from p name w good may
      (λ x top. (
        inl (of_call-awaits d.number x.mark (subst (λ k. is_abortable_of d.number k ≡ true) (sym (same_tops name f x w at.0 top ∙ is)) of_call)),
        at.1,
      ))
  attempted-from p name m f d leaving false w good may other at is of_call untriggered =
      wait_for_trigger-from name m f d leaving w good other at.0 is of_call untriggered

  -- an attempt leaves them
  attempt_kept : (p : Image) (name : Who) (f : Frame) (g : Step) (w : World) (said : List Said) (e : Done) → Kept R w said e → TopCalm name f (world_behind e)
      → ((v : World) → G v → TopCalm name f v → From R v g) → Kept R w said (goes_on_with g e)
  unfolding From Kept
  attempt_kept p name f g w said (done v ys) k at next = then-kept (chains moves) w v said ys (g v ys) k (next v (moves.behind w v k.2) at ys)

  attempt_then-from : (p : Image) (name : Who) (f : Frame) (d : Call) (g : Step) (w : World) → G w → TopCalm name f w
      → ((v : World) → G v → TopCalm name f v → From R v g) → From R w (attempt_on p Own d ▷ g)
  unfolding From Keeps
  attempt_then-from p name f d g w good at next said =
      attempt_kept p name f g w said (attempt_on p Own d w said) (attempt_on-keeps (plain_steps moves) p Own d w good said)
      (attempt-top_calm p name f d w said at) next

  call_attempted-from : (p : Image) (name : Who) (m : AbortableMark) (c : CallNo) (f : Frame) (leaving : Leaving) (found : Option Call) (w : World) → G w
      → May name → Other name → TopCalm name f w → f.mark ≡ Abortable m → m.call ≡ Some c → call_of w c ≡ found → m.triggered ≡ false
      → From R w (for_some found (λ d. attempt_with p Own d (end_top p name) (wait_for_trigger name d leaving)))
  call_attempted-from p name m c f leaving None w good may other at is called found untriggered =
      keeps-from (chains moves) nothing w good (nothing-keeps (chains moves))
  call_attempted-from p name m c f leaving (Some d) w good may other at is called found untriggered =
      attempt_then-from p name f d (elim (is_cancellable d) as (λ _. Step) [ true ↦ end_top p name | false ↦ wait_for_trigger name d leaving ]) w good at
      (λ v good_v at_v. attempted-from p name m f d leaving (is_cancellable d) v good_v may other at_v is
      (ap (λ o. is_the same_call o d.number) called ∙ found-same_call c d w.calls found) untriggered)

  dropped_then-from : (p : Image) (name : Who) (w : World) → G w → May name → Calm name w
      → From R w (changes (drop_trigger name (below (frames_of w name))) ▷ end_top p name)
  unfolding Alters
  dropped_then-from p name w good may calm =
      let v = drop_trigger name (below (frames_of w name)) w in
      let drops = drop_trigger-alters name (below (frames_of w name)) w good in
      changes_then-from (chains moves) (drop_trigger name (below (frames_of w name))) (end_top p name) w drops
      (end_top-from p name v (moves.behind w v drops) may (λ f top. (inr (dropped-unappointed name w), dropped-calm name (below (frames_of w name)) w calm)))

  by_call-from : (p : Image) (name : Who) (m : AbortableMark) (f : Frame) (leaving : Leaving) (call : Option CallNo) (w : World) → G w → May name → Other name
      → TopCalm name f w → f.mark ≡ Abortable m → m.call ≡ call → m.triggered ≡ false
      → From R w (elim call as (λ _. Step) [
        | None ↦ looks (λ v. changes (drop_trigger name (below (frames_of v name)))) ▷ end_top p name
        | Some c ↦ with_call c (λ d. attempt_with p Own d (end_top p name) (wait_for_trigger name d leaving))
      ])
  unfolding From
  by_call-from p name m f leaving None w good may other at is called untriggered said = dropped_then-from p name w good may at.1 said
  by_call-from p name m f leaving (Some c) w good may other at is called untriggered said =
      call_attempted-from p name m c f leaving (call_of w c) w good may other at is called refl untriggered said

  by_trigger-from : (p : Image) (name : Who) (m : AbortableMark) (f : Frame) (leaving : Leaving) (test : Bool) (w : World) → G w → May name → Other name
      → TopCalm name f w → f.mark ≡ Abortable m → m.triggered ≡ test → From R w (cond test (end_top p name) (end_abortable_by p name m leaving))
  unfolding end_abortable_by
  by_trigger-from p name m f leaving true w good may other at is triggered =
      end_top-from p name w good may
      (λ x top. (inl (triggered-awaits x.mark (subst (λ k. is_triggered k ≡ true) (sym (same_tops name f x w at.0 top ∙ is)) triggered)), at.1))
  by_trigger-from p name m f leaving false w good may other at is triggered = by_call-from p name m f leaving m.call w good may other at is refl triggered

  pub end_in_abortable-from : (p : Image) (name : Who) (m : AbortableMark) (leaving : Leaving) (f : Frame) (w : World) → G w → May name → Other name
      → TopCalm name f w → f.mark ≡ Abortable m → From R w (end_in_abortable p name m leaving)
  unfolding end_in_abortable
  end_in_abortable-from p name m leaving f w good may other at is = by_trigger-from p name m f leaving m.triggered w good may other at is refl

module _ {G : GoodWorld} {May Other : Naming} {Owns : Who → RegionNo → Type 0} {R : StepRelation} {Q : MoveRelation} (moves : FineMoves G May Other R Q)
    (openings : Openings G May Other Owns R) where
  pub call_main-keeps : (p : Image) (name : Who) (s : StatementNo) → May name → Keeps G R (call_main p name s)
  unfolding call_main
  call_main-keeps p name s may = search (with_room-keeps, goes-keeps, then-keeps, looks-keeps, changes-keeps, open_scope-alters, chains, plain_steps)

  pub call-keeps : (p : Image) (name : Who) (s : StatementNo) (callee : Callee) (actuals : List Actual) (to : Destination) → May name
      → Keeps G R (call p name s callee actuals to)
  unfolding call
  call-keeps p name s (callee.Subprogram f) actuals to may = search (call_subprogram-keeps)
  call-keeps p name s (callee.Operation d f) actuals to may = search (call_operation-keeps)
  call-keeps p name s (callee.OwnOperation f) actuals to may = search (call_own_operation-keeps)

module _ {G : GoodWorld} {May Other : Naming} {Owns : Who → RegionNo → Type 0} {R : StepRelation} {Q : MoveRelation} (moves : FineMoves G May Other R Q)
    (openings : Openings G May Other Owns R) (releasing : Releasing G R) (arming : Arming G Q) where
  pub act_statement-from : (p : Image) → Puts G R p → (name : Who) (s : StatementNo) (form : StatementForm) → May name → form_of p s ≡ form
      → (g : Frame) (w : World) → G w → Calm name w → Begun name w → top_of w name ≡ Some g → From (Led G) w (act_statement p name s form)
  unfolding act_statement
  act_statement-from p puts name s (form.Declare object) may is g w good calm begun top =
      led-from moves _ w (keeps-from (chains moves) _ w good (search (declare-keeps, plain_steps, anybody)))
  act_statement-from p puts name s (form.Initialize object) may is g w good calm begun top =
      led-from moves _ w (keeps-from (chains moves) _ w good (search (initialize-keeps)))
  act_statement-from p puts name s (form.CreateTask object part) may is g w good calm begun top =
      led-from moves _ w (keeps-from (chains moves) _ w good (search (create-keeps)))
  act_statement-from p puts name s (form.Activate part) may is g w good calm begun top =
      led-from moves _ w (keeps-from (chains moves) _ w good (search (activate-keeps)))
  act_statement-from p puts name s form.EndActivation may is g w good calm begun top =
      led-from moves _ w (keeps-from (chains moves) _ w good (search (end_own_activation-keeps)))
  act_statement-from p puts name s form.CallMain may is g w good calm begun top =
      led-from moves _ w (keeps-from (chains moves) _ w good (search (call_main-keeps)))
  act_statement-from p puts name s (form.Handled handlers first) may is g w good calm begun top =
      led-from moves _ w (keeps-from (chains moves) _ w good (search (nothing-keeps, chains)))
  act_statement-from p puts name s form.Null may is g w good calm begun top =
      led-from moves _ w (keeps-from (chains moves) _ w good (search (null-keeps, plain_steps, anybody)))
  act_statement-from p puts name s (form.Assign target e) may is g w good calm begun top =
      led-from moves _ w (keeps-from (chains moves) _ w good (search (assign-keeps, plain_steps, anybody)))
  act_statement-from p puts name s (form.AssignArray target source) may is g w good calm begun top =
      led-from moves _ w (keeps-from (chains moves) _ w good (search (assign_array-keeps, plain_steps, anybody)))
  act_statement-from p puts name s (form.AssignControlled target source) may is g w good calm begun top =
      led-from moves _ w (keeps-from (chains moves) _ w good (search (assign_controlled-keeps)))
  act_statement-from p puts name s (form.If condition first otherwise) may is g w good calm begun top =
      led-from moves _ w (keeps-from (chains moves) _ w good (search (if_statement-keeps, plain_steps, anybody)))
  act_statement-from p puts name s (form.Case selector alternatives) may is g w good calm begun top =
      led-from moves _ w (keeps-from (chains moves) _ w good (search (case_statement-keeps, plain_steps, anybody)))
  act_statement-from p puts name s (form.Loop body within) may is g w good calm begun top =
      led-from moves _ w (keeps-from (chains moves) _ w good (search (goes-keeps)))
  act_statement-from p puts name s (form.While condition body within) may is g w good calm begun top =
      led-from moves _ w (keeps-from (chains moves) _ w good (search (while_turn-keeps, plain_steps, anybody)))
  act_statement-from p puts name s (form.For parameter reverse low high turn within) may is g w good calm begun top =
      led-from moves _ w (keeps-from (chains moves) _ w good (search (for_bounds-keeps, plain_steps, anybody)))
  act_statement-from p puts name s (form.FirstTurn parameter reverse body) may is g w good calm begun top =
      led-from moves _ w (keeps-from (chains moves) _ w good (search (first_turn-keeps, plain_steps, anybody)))
  act_statement-from p puts name s (form.LaterTurn parameter reverse body) may is g w good calm begun top =
      led-from moves _ w (keeps-from (chains moves) _ w good (search (later_turn-keeps, plain_steps, anybody)))
  act_statement-from p puts name s (form.Exit condition of_loop) may is g w good calm begun top =
      led-from moves _ w (keeps-from (chains moves) _ w good (search (exit_statement-keeps, plain_steps, anybody)))
  act_statement-from p puts name s (form.Block scope) may is g w good calm begun top =
      led-from moves _ w (keeps-from (chains moves) _ w good (search (block_statement-keeps)))
  act_statement-from p puts name s form.Return may is g w good calm begun top =
      led-from moves _ w (keeps-from (chains moves) _ w good (search (return-keeps, plain_steps)))
  act_statement-from p puts name s (form.ReturnValue function e) may is g w good calm begun top =
      led-from moves _ w (keeps-from (chains moves) _ w good (search (return_value-keeps, plain_steps)))
  act_statement-from p puts name s (form.Raise e) may is g w good calm begun top =
      led-from moves _ w (keeps-from (chains moves) _ w good (search (raises-keeps, plain_steps)))
  act_statement-from p puts name s (form.RaiseAgain scope) may is g w good calm begun top =
      led-from moves _ w (keeps-from (chains moves) _ w good (search (raise_again-keeps, plain_steps)))
  act_statement-from p puts name s (form.Delay e) may is g w good calm begun top =
      led-from moves _ w (keeps-from (chains moves) _ w good (search (sees-keeps, delay_until-keeps, chains)))
  act_statement-from p puts name s (form.DelayUntil e) may is g w good calm begun top =
      led-from moves _ w (keeps-from (chains moves) _ w good (search (sees-keeps, delay_until-keeps, chains)))
  act_statement-from p puts name s (form.Call callee actuals to) may is g w good calm begun top =
      led-from moves _ w (keeps-from (chains moves) _ w good (search (call-keeps)))
  act_statement-from p puts name s (form.PutLine pieces) may is g w good calm begun top =
      led-from moves _ w (keeps-from (chains moves) _ w good (put_line-keeps moves p puts name s pieces is))
  act_statement-from p puts name s (form.EntryCall entry owner actuals) may is g w good calm begun top =
      led-from moves _ w (keeps-from (chains moves) _ w good (search (entry_call-keeps)))
  act_statement-from p puts name s (form.ConditionalCall call otherwise) may is g w good calm begun top =
      led-from moves _ w (keeps-from (chains moves) _ w good (search (entry_call-keeps)))
  act_statement-from p puts name s (form.TimedCall call delay) may is g w good calm begun top =
      led-from moves _ w (keeps-from (chains moves) _ w good (search (entry_call-keeps)))
  act_statement-from p puts name s (form.AsynchronousSelect trigger abortable) may is g w good calm begun top =
      asynchronous_select-from moves arming openings p name s trigger g w good calm begun top
  act_statement-from p puts name s (form.Accept entry scope) may is g w good calm begun top =
      led-from moves _ w (keeps-from (chains moves) _ w good (search (accept-keeps)))
  act_statement-from p puts name s (form.SelectiveAccept alternatives otherwise) may is g w good calm begun top =
      led-from moves _ w (keeps-from (chains moves) _ w good (search (selective_accept-keeps)))
  act_statement-from p puts name s (form.Abort tasks) may is g w good calm begun top =
      led-from moves _ w (keeps-from (chains moves) _ w good (search (abort_statement-keeps)))
  act_statement-from p puts name s (form.Requeue entry owner with_abort) may is g w good calm begun top =
      led-from moves _ w (keeps-from (chains moves) _ w good (search (requeue-keeps)))
  act_statement-from p puts name s (form.SetEvent event set handler) may is g w good calm begun top =
      led-from moves _ w (keeps-from (chains moves) _ w good (search (set_event-keeps)))
  act_statement-from p puts name s (form.CancelEvent event cancelled) may is g w good calm begun top =
      led-from moves _ w (keeps-from (chains moves) _ w good (search (cancel_event-keeps)))
  act_statement-from p puts name s (form.SetTimer timer set handler) may is g w good calm begun top =
      led-from moves _ w (keeps-from (chains moves) _ w good (search (set_timer-keeps)))
  act_statement-from p puts name s (form.CancelTimer timer cancelled) may is g w good calm begun top =
      led-from moves _ w (keeps-from (chains moves) _ w good (search (cancel_timer-keeps)))
  act_statement-from p puts name s (form.AddTask budget task) may is g w good calm begun top =
      led-from moves _ w (keeps-from (chains moves) _ w good (search (add_member-keeps)))
  act_statement-from p puts name s (form.RemoveTask budget task) may is g w good calm begun top =
      led-from moves _ w (keeps-from (chains moves) _ w good (search (remove_member-keeps)))
  act_statement-from p puts name s (form.Replenish budget to) may is g w good calm begun top =
      led-from moves _ w (keeps-from (chains moves) _ w good (search (replenish-keeps)))
  act_statement-from p puts name s (form.AddToBudget budget interval) may is g w good calm begun top =
      led-from moves _ w (keeps-from (chains moves) _ w good (search (add_to_budget-keeps)))
  act_statement-from p puts name s (form.SetBudget budget handler) may is g w good calm begun top =
      led-from moves _ w (keeps-from (chains moves) _ w good (search (set_budget-keeps)))
  act_statement-from p puts name s (form.CancelBudget budget cancelled) may is g w good calm begun top =
      led-from moves _ w (keeps-from (chains moves) _ w good (search (cancel_budget-keeps)))
  act_statement-from p puts name s (form.SetPriority priority task) may is g w good calm begun top =
      led-from moves _ w (keeps-from (chains moves) _ w good (search (set_priority-keeps)))
  act_statement-from p puts name s (form.SetQuantum level quantum) may is g w good calm begun top =
      led-from moves _ w (keeps-from (chains moves) _ w good (search (set_quantum-keeps)))
  act_statement-from p puts name s (form.SetDeadline deadline task) may is g w good calm begun top =
      led-from moves _ w (keeps-from (chains moves) _ w good (search (set_deadline_of-keeps)))
  act_statement-from p puts name s (form.DelayUntilAndSetDeadline until offset) may is g w good calm begun top =
      led-from moves _ w (keeps-from (chains moves) _ w good (search (delay_and_set_deadline-keeps)))

  -- the end of the mark on top, but of a protected action, whose end is given
  pub end_mark-from : (p : Image) (name : Who) (f : Frame) (mark : Mark) (w : World) → G w → May name → TopCalm name f w → f.mark ≡ mark
      → ((m : ProtectedMark) → mark ≡ InProtected m → From R w (end_in_protected p name m (leaving_of f))) → From R w (end_mark p name f mark)
  unfolding end_mark
  end_mark-from p name f (Scope m) w good may at is action =
      end_scope_mark-from moves openings p name m (leaving_of f) f w good may at.0 is (inl (ap awaits_trigger is), at.1)
  end_mark-from p name f (Handled s) w good may at is action =
      end_handled-from moves p name s (leaving_of f) f w good may at.0 (inl (ap awaits_trigger is), at.1)
  end_mark-from p name f (InProtected m) w good may at is action = action m refl
  end_mark-from p name f (InAccept m) w good may at is action =
      end_in_accept-from moves p name m (leaving_of f) f w good may at.0 (inl (ap awaits_trigger is), at.1)
  end_mark-from p name f (Abortable m) w good may at is action =
      end_in_abortable-from moves p name m (leaving_of f) f w good may (openings.within_part name f w good may at.0 (ap is_abortable is)) at is
  end_mark-from p name f (InInitialize l) w good may at is action =
      end_in_initialize-from moves p name l (leaving_of f) f w good may at.0 (inl (ap awaits_trigger is), at.1)
  end_mark-from p name f (InFinalize o) w good may at is action =
      end_in_finalize-from moves p name (leaving_of f) f w good may at.0 (inl (ap awaits_trigger is), at.1)
  end_mark-from p name f (InAssign m) w good may at is action =
      end_in_assign-from moves openings p name m f.left_as f w good may at.0 is (inl (ap awaits_trigger is), at.1)

  pub act_frame-from : (p : Image) → Puts G R p → (name : Who) (f : Frame) (next : Option StatementNo) (w : World) → G w → May name → TopCalm name f w
      → Begun name w → ((m : ProtectedMark) → f.mark ≡ InProtected m → From R w (end_in_protected p name m (leaving_of f)))
      → From (Led G) w (act_frame p name f next)
  unfolding act_frame
  act_frame-from p puts name f (Some s) w good may at begun action = act_statement-from p puts name s (form_of p s) may refl f w good at.1 begun at.0
  act_frame-from p puts name f None w good may at begun action = led-from moves _ w (end_mark-from p name f f.mark w good may at refl action)

  pub act_top-from : (p : Image) → Puts G R p → (name : Who) (found : Option Frame) (w : World) → G w → May name → Calm name w → Begun name w
      → top_of w name ≡ found → From R w (act_without p name w.serving)
      → ((f : Frame) (m : ProtectedMark) → top_of w name ≡ Some f → f.mark ≡ InProtected m → From R w (end_in_protected p name m (leaving_of f)))
      → From (Led G) w (act_top p name found)
  unfolding act_top
  act_top-from p puts name None w good may calm begun is without action =
      led-from moves _ w (looks_at-from (chains moves) (λ v. act_without p name v.serving) w without)
  act_top-from p puts name (Some f) w good may calm begun is without action =
      act_frame-from p puts name f f.onward w good may (is, calm) begun (λ m k. action f m is k)

  -- an action of who is calm, but for the end of a protected action, and for who has no rest
  pub act-from : (p : Image) → Puts G R p → (name : Who) (w : World) → G w → May name → Calm name w → Begun name w → From R w (act_without p name w.serving)
      → ((f : Frame) (m : ProtectedMark) → top_of w name ≡ Some f → f.mark ≡ InProtected m → From R w (end_in_protected p name m (leaving_of f)))
      → From (Led G) w (act p name)
  unfolding act
  act-from p puts name w good may calm begun without action =
      led_looks-from moves (λ v. act_top p name (top_of v name)) w (act_top-from p puts name (top_of w name) w good may calm begun refl without action)

-- ---- where anybody may be changed

module _ {G : GoodWorld} {R : StepRelation} {Q : MoveRelation} (moves : RegionMoves G R Q) where
  act_without-keeps : (p : Image) (name : Who) (release : Option Release) → Keeps G R (act_without p name release)
  unfolding act_without
  act_without-keeps p name None = nothing-keeps (chains moves.fine)
  act_without-keeps p who.Agent (Some r) = call_handler-keeps moves p r
  act_without-keeps p (who.Task t) (Some r) = nothing-keeps (chains moves.fine)

  on_top : (frames : List Frame) (f : Frame) → first_of frames ≡ Some f → action_first (natures frames) ≡ action_in f.mark
  on_top [] f e = absurd cc
  on_top (g ∷ gs) f e = let is : g ≡ f = cc in ap (λ (x : Frame). action_in x.mark) is

  -- an action of somebody that waits for no entry call
  pub free_act-from : (p : Image) → Puts G R p → (name : Who) (w : World) → G w → FreeIn name (task_of w name).state → Begun name w
      → From (Led G) w (act p name)
  free_act-from p puts name w good free begun =
      act-from moves.fine moves.openings (releasing moves) moves.arming p puts name w good tt free begun
      (keeps-from (chains moves.fine) _ w good (act_without-keeps p name w.serving))
      (λ f m top is. end_in_protected-from moves p name m (leaving_of f) w good
      (subst (λ t. Holding action_on_top name m.object t) (sym (one_of-is w name)) (on_top (frames_of w name) f top ∙ ap action_in is, free)))
