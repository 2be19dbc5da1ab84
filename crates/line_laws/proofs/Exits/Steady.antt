-- Somebody in a protected action who waits for no entry call: what ends calls and serves others leaves it there, with the same seen of
-- its marks: that action on top, or what else a law asks.
use Rattle.std.specs.Prelude.{slice_index_or, is_none}
use Rattle.std.proofs.Common.{◌≡◌, ℕ, ℤ, Bool, true, false, cond, not, eqb, ◌&&◌, List, [], ◌∷◌, Option, Some, None, Ok, Err, refl, subst, sym, ap, ◌∙◌}
use Rattle.std.proofs.lemmas.Bool.{false≢true}
use Rattle.ann_base.specs.Results.{◌>>=◌}
use Rattle.ann_base.specs.declared.exceptions.Raised.{Raised}
use Rattle.ann_base.specs.declared.exceptions.Raised.TheVariants as exception
use Rattle.ann_base.specs.declared.identities.CallNo.{CallNo}
use Rattle.ann_base.specs.declared.identities.ObjectNo.{ObjectNo}
use Rattle.ann_base.specs.declared.identities.TaskNo.{TaskNo}
use Rattle.trace_text.specs.declared.events.QueueEnd.TheVariants.{Tail}
use Rattle.trace_text.specs.declared.events.Who.{Who}
use Rattle.world_tables.specs.Lists.{rest_of}
use Rattle.trace_text.specs.declared.events.Who.TheVariants as who
use Rattle.profile_image.specs.declared.image.Image.{Image}
use Rattle.profile_image.specs.declared.numbers.StatementNo.{StatementNo}
use Rattle.profile_machine.specs.declared.run_data.Leaving.{Leaving}
use Rattle.profile_machine.specs.declared.run_data.Leaving.TheVariants as how
use Rattle.profile_image.specs.declared.statements.StatementForm.{StatementForm}
use Rattle.profile_image.specs.declared.statements.StatementForm.TheVariants as form
use Rattle.profile_machine.specs.declared.world.scopes.Variable.{Variable}
use Rattle.profile_image.specs.declared.values.Value.{Value}
use Rattle.profile_machine.specs.declared.world.World.{World}
use Rattle.profile_machine.specs.declared.world.marks.Frame.{Frame}
use Rattle.profile_machine.specs.declared.world.marks.Mark.{Mark}
use Rattle.profile_machine.specs.declared.world.marks.Mark.TheVariants.{Scope, Handled, InProtected, InAccept, Abortable, InInitialize, InFinalize, InAssign}
use Rattle.profile_machine.specs.declared.world.marks.AbortableMark.{AbortableMark}
use Rattle.profile_machine.specs.declared.world.marks.ProtectedMark.{ProtectedMark}
use Rattle.profile_machine.specs.declared.world.calls.Call.{Call}
use Rattle.profile_machine.specs.declared.world.calls.Outcome.{Outcome}
use Rattle.profile_machine.specs.declared.world.calls.Outcome.TheVariants as call_ended
use Rattle.profile_machine.specs.declared.world.calls.Owner.{Owner}
use Rattle.profile_machine.specs.declared.world.calls.Owner.TheVariants as owned_by
use Rattle.profile_machine.specs.declared.world.calls.Sending.{Sending}
use Rattle.profile_machine.specs.declared.world.lines.Line.{Line}
use Rattle.profile_machine.specs.declared.world.lines.Line.TheVariants as line
use Rattle.profile_machine.specs.declared.world.lines.Part.{Part}
use Rattle.profile_machine.specs.declared.world.lines.Part.TheVariants.{TheFinish}
use Rattle.profile_machine.specs.declared.world.lines.Said.{Said}
use Rattle.profile_machine.specs.declared.world.tasks.Task.{Task}
use Rattle.profile_machine.specs.declared.world.tasks.State.{State}
use Rattle.profile_machine.specs.declared.world.tasks.State.TheVariants.{Made, Runnable, Blocked}
use Rattle.profile_machine.specs.declared.world.tasks.Waiting.{Waiting}
use Rattle.profile_machine.specs.declared.world.tasks.Waiting.TheVariants as waits_for
use Rattle.profile_image.specs.Words.{same_who}
use Rattle.profile_image.specs.Program.{next_of, form_of, is_robin_level, edf_low}
use Rattle.profile_machine.specs.Steps.{Step, Done, done, goes_on_with, says, changes, looks, when, nothing, for_some, ◌▷◌}
use Rattle.profile_machine.specs.Tasks.{task_of, edit_task, with_frames, with_state, with_ticks, waiting_in, waiting_of}
use Rattle.profile_machine.specs.Dispatching.{active, deadline_shown, level_kept_by, keep_level, granted, grant_quantum, says_ready, to_tail, ready}
use Rattle.profile_machine.specs.Frames.{frames_of, top_of, edit_first, edit_top, goes_on, goes, push, pop, new_frame, left_so, leaving_of, with_mark}
use Rattle.profile_machine.specs.Frames.{leaves, raises, has_room, open_handled, open_at, open_sequence, onward_of, exit_loop, stands_in, pass_on}
use Rattle.profile_machine.specs.Appointments.{drop_delay, appoint}
use Rattle.profile_machine.specs.Operators.{Valued, checked}
use Rattle.profile_image.specs.Program.{declaration_of}
use Rattle.profile_machine.specs.Scopes.{write_cell}
use Rattle.profile_machine.specs.Calls.{edit_call, forget_call, with_call, says_call, edit_queue, take_call, put_call}
use Rattle.profile_machine.specs.Calls.{place_of_entry, enqueued, enqueue, unqueued, is_cancellable, attempt_on, attempt, call_of}
use Rattle.profile_machine.specs.Unwinding.{struck_frame, may_unwind, leave_by_abort, stop_waiting, wake_and_leave, unwind_blocked, unwind_in, unwind}
use Rattle.profile_machine.specs.CallEnds.{onward_when_done, onward_when_cancelled, go_by_outcome, resume, store, or_stored, copy_back}
use Rattle.profile_machine.specs.CallEnds.{with_results, edit_depth, edit_frame, edit_abortable, edit_abortable_at, triggered_mark, trigger_at}
use Rattle.profile_machine.specs.CallEnds.{trigger_outcome, forget_trigger, run_triggered, ended_by_itself, behind_abortable, end_abortable}
use Rattle.profile_machine.specs.CallEnds.{end_abortable_in, end_top_abortable, waited_mark, is_cancelled, end_wait, waits_for_call, waits_for_end}
use Rattle.profile_machine.specs.CallEnds.{abortable_depth, end_for_abortable, end_for_caller, end_for, end_with, with_outcome, end_call, deliver}
use Rattle.profile_machine.specs.declared.world.appointments.Due.TheVariants as due_for
use Rattle.profile_machine.specs.Sending.{open_abortable, appoint_timeout, send_on, sent_call, is_to_be_cancelled, cancel_sent, is_triggering}
use Rattle.profile_machine.specs.Sending.{may_begin_abortable, begin_abortable, timeout_again, sent_not_begun_by, sent_not_begun, may_time_out}
use Rattle.profile_machine.specs.Protected.{edit_protected, edit_top_protected, begin_call, begun_call}
use Rattle.profile_machine.specs.Serving.{settle_sent}
use Rattle.machine_laws.proofs.FinestMoves.{Nature, natures, nature, action_first}
use Rattle.line_laws.proofs.Exits.TaskEdits.{one_of, same_who-path, edited}
use Rattle.machine_laws.proofs.Kept.Combinators.{world_behind}
use Rattle.line_laws.specs.ExitLaws.{is_at_call}
use Rattle.machine_laws.proofs.Kept.Dispatching.{full_quantum-who, full_quantum-frames, full_quantum-state}
use Rattle.machine_laws.proofs.Kept.Frames.{first-natures}
use Rattle.machine_laws.proofs.Kept.CallEnds.{depth-natures, abortable-nature}
use Rattle.machine_laws.proofs.QueueLemmas.{by_test}

-- a task in this state waits for no entry call; of the agent nothing is asked
abbrev pub FreeIn : Who → State → Type 0
FreeIn (who.Task n) state = is_at_call (waiting_in state) ≡ false
FreeIn who.Agent state = Unit {0}

pub free-runnable : (me : Who) → FreeIn me Runnable
free-runnable (who.Task n) = refl
free-runnable who.Agent = tt

-- What is seen of the marks from the top on, and that marks of one nature are seen alike.
pub record Sight (N X : Type 0) : Type 0 where
  pub nature : Mark → N
  pub seen : List Frame → Option X
  pub first : (f : Frame → Frame) (fs : List Frame) → ((x : Frame) → nature (f x).mark ≡ nature x.mark) → seen (edit_first f fs) ≡ seen fs
  pub depth : (depth : ℕ) (f : Frame → Frame) (fs : List Frame) → ((x : Frame) → nature (f x).mark ≡ nature x.mark) → seen (edit_depth depth f fs) ≡ seen fs
  pub abortable : (f : AbortableMark → AbortableMark) (mark : Mark) → nature (edit_abortable f mark) ≡ nature mark
  pub protected : (f : ProtectedMark → ProtectedMark) → ((m : ProtectedMark) → nature (InProtected (f m)) ≡ nature (InProtected m)) → (mark : Mark)
      → nature (edit_protected f mark) ≡ nature mark

pub protected-alike : (f : ProtectedMark → ProtectedMark) → ((m : ProtectedMark) → nature (InProtected (f m)) ≡ nature (InProtected m)) → (mark : Mark)
    → nature (edit_protected f mark) ≡ nature mark
protected-alike f same (Scope m) = refl
protected-alike f same (Handled s) = refl
protected-alike f same (InProtected m) = same m
protected-alike f same (InAccept m) = refl
protected-alike f same (Abortable m) = refl
protected-alike f same (InInitialize l) = refl
protected-alike f same (InFinalize o) = refl
protected-alike f same (InAssign m) = refl

-- the object of the action on top
abbrev pub action_on_top : Sight Nature ObjectNo
action_on_top = record {
  nature = nature;
  seen = λ fs. action_first (natures fs);
  first = λ f fs same. ap action_first (first-natures f fs same);
  depth = λ depth f fs same. ap action_first (depth-natures depth f fs same);
  abortable = abortable-nature;
  protected = protected-alike;
}

-- this is seen, and no entry call is waited for
abbrev pub Holding : {N X : Type 0} → Sight N X → Who → X → Task → Type 0
Holding sight me o t = (sight.seen t.frames ≡ Some o) × FreeIn me t.state

abbrev pub Holds : {N X : Type 0} → Sight N X → Who → X → World → Type 0
Holds sight me o w = Holding sight me o (one_of w.tasks w.agent me)

-- it stays so, by a step and by a change of the world
unfoldable pub Steady : {N X : Type 0} → Sight N X → Who → X → Step → Type 0
Steady sight me o step = (w : World) → Holds sight me o w → (said : List Said) → Holds sight me o (world_behind (step w said))

unfoldable pub Spares : {N X : Type 0} → Sight N X → Who → X → (World → World) → Type 0
Spares sight me o f = (w : World) → Holds sight me o w → Holds sight me o (f w)

unfoldable pub Apart : Who → Who → Type 0
Apart me name = same_who me name ≡ false

-- who waits for a call is another
pub call-waits : (c : CallNo) (waiting : Option Waiting) → waits_for_call c waiting ≡ true → is_at_call waiting ≡ true
call-waits c (Some (waits_for.Call d)) e = refl
call-waits c _ e = absurd (false≢true e)

pub end-waits : (c : CallNo) (waiting : Option Waiting) → waits_for_end c waiting ≡ true → is_at_call waiting ≡ true
end-waits c (Some (waits_for.EndOfCall d)) e = refl
end-waits c _ e = absurd (false≢true e)

waits-apart : {N X : Type 0} (sight : Sight N X) (me : Who) (o : X) (w : World) (n : TaskNo) → Holds sight me o w
    → is_at_call (waiting_of w (who.Task n)) ≡ true → Apart me (who.Task n)
unfolding Apart
waits-apart sight me o w n h e =
    by_test (same_who me (who.Task n))
    (λ same. let is : me ≡ who.Task n = same_who-path me (who.Task n) same in
    let free : Holds sight (who.Task n) o w = subst (λ x. Holds sight x o w) is h in
    absurd (false≢true (sym free.1 ∙ e)))
    (λ apart. apart)

module _ {N X : Type 0} (sight : Sight N X) (me : Who) (o : X) where
  -- ---- changes

  pub edits_other-spares : (name : Who) (f : Task → Task) → Apart me name → ((t : Task) → (f t).who ≡ t.who) → Spares sight me o (edit_task name f)
  unfolding Spares Apart
  edits_other-spares name f apart named w h = edited (Holding sight me o) me name f w named (λ same. absurd (false≢true (sym apart ∙ same))) h

  pub edits-spares : (name : Who) (f : Task → Task) → ((t : Task) → (f t).who ≡ t.who) → ((t : Task) → sight.seen (f t).frames ≡ sight.seen t.frames)
      → ((t : Task) → (f t).state ≡ t.state) → Spares sight me o (edit_task name f)
  unfolding Spares
  edits-spares name f named frames state w h =
      edited (Holding sight me o) me name f w named (λ same t g. (frames t ∙ g.0, subst (FreeIn me) (sym (state t)) g.1)) h

  pub edit_top-spares : (name : Who) (f : Frame → Frame) → ((x : Frame) → sight.nature (f x).mark ≡ sight.nature x.mark) → Spares sight me o (edit_top name f)
  edit_top-spares name f same = edits-spares name (λ t. with_frames (edit_first f t.frames) t) (λ t. refl) (λ t. sight.first f t.frames same) (λ t. refl)

  pub edit_top_protected-spares : (name : Who) (f : ProtectedMark → ProtectedMark)
      → ((m : ProtectedMark) → sight.nature (InProtected (f m)) ≡ sight.nature (InProtected m)) → Spares sight me o (edit_top_protected name f)
  edit_top_protected-spares name f same = edit_top-spares name _ (λ x. sight.protected f same x.mark)

  push_other-spares : (name : Who) (f : Frame) → Apart me name → Spares sight me o (push name f)
  push_other-spares name f apart = edits_other-spares name (λ t. with_frames (f ∷ t.frames) t) apart (λ t. refl)

  pop_other-spares : (name : Who) → Apart me name → Spares sight me o (pop name)
  pop_other-spares name apart = edits_other-spares name (λ t. with_frames (rest_of t.frames) t) apart (λ t. refl)

  edit_call-spares : (c : CallNo) (f : Call → Call) → Spares sight me o (edit_call c f)
  unfolding Spares
  edit_call-spares c f w h = h

  forget_call-spares : (c : CallNo) → Spares sight me o (forget_call c)
  unfolding Spares
  forget_call-spares c w h = h

  unchanged-spares : Spares sight me o (λ w. w)
  unfolding Spares
  unchanged-spares w h = h

  edit_queue-spares : (owner : Owner) (place : ℕ) (f : List CallNo → List CallNo) → Spares sight me o (edit_queue owner place f)
  unfolding Spares
  edit_queue-spares (owned_by.Task t) place f w h = edited (Holding sight me o) me (who.Task t) _ w (λ u. refl) (λ same u g. g) h
  edit_queue-spares (owned_by.Object x) place f w h = h

  enqueued-spares : (p : Image) (c : Call) → Spares sight me o (enqueued p c)
  unfolding Spares
  enqueued-spares p c w h =
      edit_queue-spares c.owner (place_of_entry p c.entry) (put_call p.policies.queuing w c.number c.priority)
      (edit_call c.number (λ d. record d { begun = false }) w) h

  unqueued-spares : (p : Image) (c : Call) → Spares sight me o (unqueued p c)
  unfolding Spares
  unqueued-spares p c w h = edit_queue-spares c.owner (place_of_entry p c.entry) (take_call c.number) w h

  appoint_timeout-spares : (p : Image) (c : CallNo) (moment : Option ℤ) → Spares sight me o (appoint_timeout p c moment)
  unfolding Spares
  appoint_timeout-spares p c None w h = h
  appoint_timeout-spares p c (Some moment) w h = timed (may_time_out p w (call_of w c)) where
    timed : (may : Bool) → Holds sight me o (cond may (appoint (due_for.Timeout c) moment w) w)
    timed true = h
    timed false = h

  unless_firm-spares : (p : Image) (firm : Bool) (c : Call) → Spares sight me o (cond firm (λ v. v) (appoint_timeout p c.number c.moment))
  unless_firm-spares p true c = unchanged-spares
  unless_firm-spares p false c = appoint_timeout-spares p c.number c.moment

  drop_delay-spares : (name : Who) → Spares sight me o (drop_delay name)
  unfolding Spares
  drop_delay-spares (who.Task t) w h = h
  drop_delay-spares who.Agent w h = h

  forget_trigger-spares : (c : Option CallNo) → Spares sight me o (forget_trigger c)
  forget_trigger-spares None = unchanged-spares
  forget_trigger-spares (Some c) = forget_call-spares c

  edit_frame-spares : (name : Who) (depth : ℕ) (f : Frame → Frame) → ((x : Frame) → sight.nature (f x).mark ≡ sight.nature x.mark)
      → Spares sight me o (edit_frame name depth f)
  edit_frame-spares name depth f same =
      edits-spares name (λ t. with_frames (edit_depth depth f t.frames) t) (λ t. refl) (λ t. sight.depth depth f t.frames same) (λ t. refl)

  edit_abortable_at-spares : (name : Who) (depth : ℕ) (f : AbortableMark → AbortableMark) → Spares sight me o (edit_abortable_at name depth f)
  edit_abortable_at-spares name depth f = edit_frame-spares name depth (λ x. with_mark (edit_abortable f x.mark) x) (λ x. sight.abortable f x.mark)

  -- ---- steps that are put together

  behind_then : (g : Step) (d : Done) → Holds sight me o (world_behind d) → Steady sight me o g → Holds sight me o (world_behind (goes_on_with g d))
  unfolding Steady
  behind_then g (done v ys) h k = k v h ys

  pub then-steady : (f g : Step) → Steady sight me o f → Steady sight me o g → Steady sight me o (f ▷ g)
  unfolding Steady
  then-steady f g a b w h said = behind_then g (f w said) (a w h said) b

  pub nothing-steady : Steady sight me o nothing
  unfolding Steady
  nothing-steady w h said = h

  pub changes-steady : (f : World → World) → Spares sight me o f → Steady sight me o (changes f)
  unfolding Steady Spares
  changes-steady f a w h said = a w h

  pub says-steady : (part : Part) (line : Line) → Steady sight me o (says part line)
  unfolding Steady
  says-steady part line w h said = h

  pub looks-steady : (f : World → Step) → ((v : World) → Steady sight me o (f v)) → Steady sight me o (looks f)
  unfolding Steady
  looks-steady f a w h said = a w w h said

  pub watches-steady : (f : World → Step) → ((v : World) → Holds sight me o v → Steady sight me o (f v)) → Steady sight me o (looks f)
  unfolding Steady
  watches-steady f a w h said = a w h w h said

  branch-steady : (b : Bool) (f g : Step) → (b ≡ true → Steady sight me o f) → (b ≡ false → Steady sight me o g)
      → Steady sight me o (elim b as (λ _. Step) [ true ↦ f | false ↦ g ])
  branch-steady true f g a b = a refl
  branch-steady false f g a b = b refl

  when-steady : (b : Bool) (step : Step) → (b ≡ true → Steady sight me o step) → Steady sight me o (when b step)
  when-steady true step a = a refl
  when-steady false step a = nothing-steady

  for_some-steady : {X : Type 0} (x : Option X) (f : X → Step) → ((y : X) → Steady sight me o (f y)) → Steady sight me o (for_some x f)
  for_some-steady None f a = nothing-steady
  for_some-steady (Some x) f a = a x

  pub with_call-steady : (c : CallNo) (f : Call → Step) → ((d : Call) → Steady sight me o (f d)) → Steady sight me o (with_call c f)
  with_call-steady c f a = looks-steady _ (λ w. for_some-steady (call_of w c) f a)

  -- ---- going on and leaving, of anybody

  goes-steady : (name : Who) (onward : Option StatementNo) → Steady sight me o (goes name onward)
  unfolding goes
  goes-steady name onward = changes-steady _ (edit_top-spares name (goes_on onward) (λ x. refl))

  leaves-steady : (name : Who) (leaving : Leaving) → Steady sight me o (leaves name leaving)
  unfolding leaves
  leaves-steady name leaving = changes-steady _ (edit_top-spares name (left_so leaving) (λ x. refl))

  raises-steady : (part : Part) (name : Who) (e : Raised) → Steady sight me o (raises part name e)
  unfolding raises
  raises-steady part name e = then-steady _ _ (says-steady part _) (leaves-steady name (how.Exception e))

  exit_loop-steady : (name : Who) (p : Image) (loop : StatementNo) → Steady sight me o (exit_loop p name loop)
  unfolding exit_loop
  exit_loop-steady name p loop =
      looks-steady _
      (λ w. branch-steady (stands_in p loop (top_of w name)) (goes name (next_of p loop)) (leaves name (how.Exit loop)) (λ e. goes-steady name (next_of p loop))
      (λ e. leaves-steady name (how.Exit loop)))

  pass_on-steady : (p : Image) (name : Who) (leaving : Leaving) → Steady sight me o (pass_on p name leaving)
  unfolding pass_on
  pass_on-steady p name how.End = nothing-steady
  pass_on-steady p name how.Return = leaves-steady name how.Return
  pass_on-steady p name (how.Exit loop) = exit_loop-steady name p loop
  pass_on-steady p name (how.Exception e) = leaves-steady name (how.Exception e)
  pass_on-steady p name how.Abort = leaves-steady name how.Abort
  pass_on-steady p name how.Terminate = leaves-steady name how.Terminate

  -- ---- another becomes ready, and opens what it has come to

  keep_level-spares : (p : Image) (name : Who) → Spares sight me o (keep_level p name)
  unfolding Spares
  keep_level-spares p name w h =
      edited (Holding sight me o) me name (λ t. record t { kept_level = level_kept_by p w t (edf_low p t.base) }) w (λ t. refl) (λ same t g. g) h

  grant_quantum-spares : (p : Image) (name : Who) → Spares sight me o (grant_quantum p name)
  unfolding Spares
  grant_quantum-spares p name w h =
      edits-spares name (granted p w.quanta)
      (λ t. full_quantum-who (eqb (active p t) t.base && is_robin_level p t.base) (slice_index_or w.quanta t.base 0) t)
      (λ t. ap sight.seen (full_quantum-frames (eqb (active p t) t.base && is_robin_level p t.base) (slice_index_or w.quanta t.base 0) t))
      (λ t. full_quantum-state (eqb (active p t) t.base && is_robin_level p t.base) (slice_index_or w.quanta t.base 0) t) w h

  to_tail-steady : (p : Image) (part : Part) (name : Who) → Steady sight me o (to_tail p part name)
  unfolding to_tail says_ready
  to_tail-steady p part name =
      then-steady _ _ (changes-steady _ (grant_quantum-spares p name))
      (looks-steady _ (λ w. says-steady part (line.Ready name (active p (task_of w name)) Tail (deadline_shown p (task_of w name)))))

  runnable-spares : (name : Who) → Spares sight me o (edit_task name (with_state Runnable))
  unfolding Spares
  runnable-spares name w h = edited (Holding sight me o) me name (with_state Runnable) w (λ t. refl) (λ same t g. (g.0, free-runnable me)) h

  ready-steady : (p : Image) (part : Part) (name : Who) → Steady sight me o (ready p part name)
  unfolding ready
  ready-steady p part name =
      then-steady _ _ (changes-steady _ (runnable-spares name)) (then-steady _ _ (changes-steady _ (keep_level-spares p name)) (to_tail-steady p part name))

  open_handled-steady : (p : Image) (part : Part) (name : Who) (s : StatementNo) (form : StatementForm) → Apart me name
      → Steady sight me o (open_handled p part name s form)
  unfolding open_handled
  open_handled-steady p part name s (form.Handled handlers first) apart =
      looks-steady _
      (λ w. branch-steady (has_room w name 1 0) (goes name (next_of p s) ▷ changes (push name (new_frame (Handled s) (Some first))))
      (raises part name exception.Storage)
      (λ e. then-steady _ _ (goes-steady name (next_of p s)) (changes-steady _ (push_other-spares name (new_frame (Handled s) (Some first)) apart)))
      (λ e. raises-steady part name exception.Storage))
  open_handled-steady p part name s _ apart = nothing-steady

  open_at-steady : (p : Image) (part : Part) (name : Who) (next : Option StatementNo) → Apart me name → Steady sight me o (open_at p part name next)
  unfolding open_at
  open_at-steady p part name None apart = nothing-steady
  open_at-steady p part name (Some s) apart = open_handled-steady p part name s (form_of p s) apart

  open_sequence-steady : (p : Image) (part : Part) (name : Who) → Apart me name → Steady sight me o (open_sequence p part name)
  unfolding open_sequence
  open_sequence-steady p part name apart = looks-steady _ (λ w. open_at-steady p part name (onward_of w name) apart)

  -- ---- what is struck is left

  leave_by_abort-steady : (name : Who) → Steady sight me o (leave_by_abort name)
  unfolding leave_by_abort
  leave_by_abort-steady name =
      then-steady _ _ (changes-steady _ (edits-spares name (with_ticks None) (λ t. refl) (λ t. refl) (λ t. refl))) (leaves-steady name how.Abort)

  wake_and_leave-steady : (p : Image) (part : Part) (name : Who) → Steady sight me o (wake_and_leave p part name)
  unfolding wake_and_leave stop_waiting
  wake_and_leave-steady p part name =
      then-steady (changes (drop_delay name) ▷ ready p part name) (leave_by_abort name)
      (then-steady _ _ (changes-steady _ (drop_delay-spares name)) (ready-steady p part name)) (leave_by_abort-steady name)

  attempt_on-steady : (p : Image) (part : Part) (c : Call) → Steady sight me o (attempt_on p part c)
  unfolding attempt_on
  attempt_on-steady p part c =
      branch-steady (is_cancellable c) _ _
      (λ e. then-steady _ _ (changes-steady _ (unqueued-spares p c)) (says-steady part _))
      (λ e. changes-steady _ (edit_call-spares c.number (λ d. record d { attempted = true })))

  attempt-steady : (p : Image) (part : Part) (c : CallNo) (cancels stays : Step) → Steady sight me o cancels → Steady sight me o stays
      → Steady sight me o (attempt p part c cancels stays)
  attempt-steady p part c cancels stays a b =
      with_call-steady c _
      (λ d. then-steady (attempt_on p part d) _ (attempt_on-steady p part d) (branch-steady (is_cancellable d) cancels stays (λ e. a) (λ e. b)))

  unwind_blocked-steady : (p : Image) (part : Part) (name : Who) (waiting : Waiting) → Steady sight me o (unwind_blocked p part name waiting)
  unfolding unwind_blocked
  unwind_blocked-steady p part name (waits_for.Call c) =
      attempt-steady p part c _ nothing (then-steady _ _ (changes-steady _ (forget_call-spares c)) (wake_and_leave-steady p part name)) nothing-steady
  unwind_blocked-steady p part name (waits_for.EndOfCall c) = nothing-steady
  unwind_blocked-steady p part name waits_for.Activation = wake_and_leave-steady p part name
  unwind_blocked-steady p part name waits_for.Moment = wake_and_leave-steady p part name
  unwind_blocked-steady p part name (waits_for.Accept s) = wake_and_leave-steady p part name
  unwind_blocked-steady p part name (waits_for.Select accepts delay terminate) = wake_and_leave-steady p part name
  unwind_blocked-steady p part name (waits_for.Dependents r) = wake_and_leave-steady p part name
  unwind_blocked-steady p part name waits_for.Release = nothing-steady

  unwind_in-steady : (p : Image) (part : Part) (name : Who) (state : State) → Steady sight me o (unwind_in p part name state)
  unfolding unwind_in
  unwind_in-steady p part name Made = nothing-steady
  unwind_in-steady p part name Runnable = leave_by_abort-steady name
  unwind_in-steady p part name (Blocked waiting) = unwind_blocked-steady p part name waiting

  unwind-steady : (p : Image) (part : Part) (name : Who) → Steady sight me o (unwind p part name)
  unfolding unwind
  unwind-steady p part name =
      looks-steady _ (λ w. when-steady (may_unwind (frames_of w name)) _ (λ e. unwind_in-steady p part name (task_of w name).state))

  -- ---- a call ends

  go_by_outcome-steady : (p : Image) (part : Part) (name : Who) (s : StatementNo) (outcome : Outcome) → Steady sight me o (go_by_outcome p part name s outcome)
  unfolding go_by_outcome
  go_by_outcome-steady p part name s call_ended.Finished = goes-steady name (onward_when_done p s)
  go_by_outcome-steady p part name s call_ended.Cancelled = goes-steady name (onward_when_cancelled p s)
  go_by_outcome-steady p part name s (call_ended.ToRaise e) = raises-steady part name e
  go_by_outcome-steady p part name s (call_ended.WasRaised e) = leaves-steady name (how.Exception e)

  resume-steady : (p : Image) (part : Part) (c : Call) (outcome : Outcome) → Steady sight me o (resume p part c outcome)
  unfolding resume
  resume-steady p part c outcome =
      then-steady _ _ (changes-steady _ (forget_call-spares c.number)) (go_by_outcome-steady p part (who.Task c.caller) c.statement outcome)

  abbrev Right : Valued World → Type 0
  Right (Ok v) = Holds sight me o v
  Right (Err e) = Unit {0}

  bound-right : {X : Type 0} (x : Valued X) (f : X → Valued World) → ((y : X) → Right (f y)) → Right (x >>= f)
  bound-right (Ok y) f k = k y
  bound-right (Err e) f k = tt

  store-right : (p : Image) (v : Variable) (value : Value) (w : World) → Holds sight me o w → Right (store p v value w)
  store-right p v value w h = bound-right (checked (declaration_of p v.declared).constraint value) (λ x. Ok (write_cell v.within v.place x w)) (λ x. h)

  or_stored-holds : (result : Valued World) (again : World → World × Bool) (w : World) → Holds sight me o w → Right result
      → ((v : World) → Holds sight me o v → Holds sight me o (again v).0) → Holds sight me o (or_stored w result again).0
  or_stored-holds (Ok next) again w h a b = b next a
  or_stored-holds (Err e) again w h a b = h

  copy_back-holds : (p : Image) (results : List (Option Variable)) (values : List Value) (w : World) → Holds sight me o w
      → Holds sight me o (copy_back p results values w).0
  copy_back-holds p [] values w h = h
  copy_back-holds p (None ∷ results) [] w h = h
  copy_back-holds p (None ∷ results) (v ∷ values) w h = copy_back-holds p results values w h
  copy_back-holds p (Some target ∷ results) [] w h = h
  copy_back-holds p (Some target ∷ results) (v ∷ values) w h =
      or_stored-holds (store p target v w) (copy_back p results values) w h (store-right p target v w h) (λ u g. copy_back-holds p results values u g)

  with_results-holds : (p : Image) (c : Call) (outcome : Outcome) (w : World) → Holds sight me o w → Holds sight me o (with_results p c outcome w).0
  with_results-holds p c call_ended.Finished w h = copy_back-holds p c.results c.values w h
  with_results-holds p c call_ended.Cancelled w h = h
  with_results-holds p c (call_ended.ToRaise e) w h = h
  with_results-holds p c (call_ended.WasRaised e) w h = h

  trigger_at-steady : (part : Part) (t : TaskNo) (depth : ℕ) → Steady sight me o (trigger_at part t depth)
  unfolding trigger_at
  trigger_at-steady part t depth =
      then-steady _ _ (changes-steady _ (edit_abortable_at-spares (who.Task t) depth triggered_mark))
      (then-steady _ _ (says-steady part _) (changes-steady _ (edit_frame-spares (who.Task t) depth struck_frame (λ x. refl))))

  run_triggered-steady : (p : Image) (part : Part) (name : Who) (select : StatementNo) (outcome : Outcome)
      → Steady sight me o (run_triggered p part name select outcome)
  unfolding run_triggered
  run_triggered-steady p part name select call_ended.Finished = goes-steady name (onward_when_done p select)
  run_triggered-steady p part name select call_ended.Cancelled = nothing-steady
  run_triggered-steady p part name select (call_ended.ToRaise e) = raises-steady part name e
  run_triggered-steady p part name select (call_ended.WasRaised e) = leaves-steady name (how.Exception e)

  behind_abortable-steady : (p : Image) (part : Part) (name : Who) (m : AbortableMark) (outcome : Outcome)
      → Steady sight me o (behind_abortable p part name m outcome)
  unfolding behind_abortable
  behind_abortable-steady p part name m outcome = when-steady m.triggered _ (λ e. run_triggered-steady p part name m.select outcome)

  end_abortable-steady : (p : Image) (part : Part) (name : Who) (m : AbortableMark) (f : Frame) (below : List Frame) → Apart me name
      → Steady sight me o (end_abortable p part name m f below)
  unfolding end_abortable
  end_abortable-steady p part name m f below apart =
      looks-steady _ (λ w. then-steady (changes (pop name)) _ (changes-steady _ (pop_other-spares name apart))
      (then-steady (changes (forget_trigger m.call)) _ (changes-steady _ (forget_trigger-spares m.call))
      (branch-steady (ended_by_itself f below) (behind_abortable p part name m (trigger_outcome w m.call)) (pass_on p name (leaving_of f))
      (λ e. behind_abortable-steady p part name m (trigger_outcome w m.call)) (λ e. pass_on-steady p name (leaving_of f)))))

  end_abortable_in-steady : (p : Image) (part : Part) (name : Who) (f : Frame) (below : List Frame) (mark : Mark) → Apart me name
      → Steady sight me o (end_abortable_in p part name f below mark)
  unfolding end_abortable_in
  end_abortable_in-steady p part name f below (Abortable m) apart = end_abortable-steady p part name m f below apart
  end_abortable_in-steady p part name f below _ apart = nothing-steady

  end_top_abortable-steady : (p : Image) (part : Part) (name : Who) (frames : List Frame) → Apart me name
      → Steady sight me o (end_top_abortable p part name frames)
  unfolding end_top_abortable
  end_top_abortable-steady p part name [] apart = nothing-steady
  end_top_abortable-steady p part name (f ∷ below) apart = end_abortable_in-steady p part name f below f.mark apart

  end_wait-steady : (p : Image) (part : Part) (c : Call) (depth : ℕ) (outcome : Outcome) → Apart me (who.Task c.caller)
      → Steady sight me o (end_wait p part c depth outcome)
  unfolding end_wait
  end_wait-steady p part c depth outcome apart =
      let name = who.Task c.caller in
      then-steady (ready p part name) _ (ready-steady p part name)
      (then-steady (changes (edit_abortable_at name depth (waited_mark (not (is_cancelled outcome))))) _
      (changes-steady _ (edit_abortable_at-spares name depth (waited_mark (not (is_cancelled outcome)))))
      (then-steady (looks (λ w. end_top_abortable p part name (frames_of w name))) _
      (looks-steady _ (λ w. end_top_abortable-steady p part name (frames_of w name) apart)) (open_sequence-steady p part name apart)))

  end_for_abortable-steady : (p : Image) (part : Part) (c : Call) (depth : ℕ) (outcome : Outcome) → Steady sight me o (end_for_abortable p part c depth outcome)
  unfolding end_for_abortable
  end_for_abortable-steady p part c depth outcome =
      watches-steady _
      (λ w h. branch-steady (waits_for_end c.number (waiting_of w (who.Task c.caller))) (end_wait p part c depth outcome) (trigger_at part c.caller depth)
      (λ e. end_wait-steady p part c depth outcome (waits-apart sight me o w c.caller h (end-waits c.number (waiting_of w (who.Task c.caller)) e)))
      (λ e. trigger_at-steady part c.caller depth))

  end_for_caller-steady : (p : Image) (part : Part) (c : Call) (outcome : Outcome) → Steady sight me o (end_for_caller p part c outcome)
  unfolding end_for_caller
  end_for_caller-steady p part c outcome =
      watches-steady _ (λ w h. when-steady (waits_for_call c.number (waiting_of w (who.Task c.caller))) _ (λ e.
      let apart = waits-apart sight me o w c.caller h (call-waits c.number (waiting_of w (who.Task c.caller)) e) in
      then-steady (ready p part (who.Task c.caller)) _ (ready-steady p part (who.Task c.caller))
      (then-steady (resume p part c outcome) _ (resume-steady p part c outcome) (open_sequence-steady p part (who.Task c.caller) apart))))

  end_for-steady : (p : Image) (part : Part) (c : Call) (outcome : Outcome) (n : Option ℕ) → Steady sight me o (end_for p part c outcome n)
  unfolding end_for
  end_for-steady p part c outcome (Some depth) = end_for_abortable-steady p part c depth outcome
  end_for-steady p part c outcome None = end_for_caller-steady p part c outcome

  end_with-steady : (p : Image) (part : Part) (c : Call) (outcome : Outcome) → Steady sight me o (end_with p part c outcome)
  unfolding end_with
  end_with-steady p part c outcome =
      then-steady _ _ (changes-steady _ (edit_call-spares c.number (with_outcome outcome)))
      (looks-steady _ (λ w. end_for-steady p part c outcome (abortable_depth w c)))

  becomes-steady : (v : World) → Holds sight me o v → Steady sight me o (changes (λ _. v))
  unfolding Steady
  becomes-steady v g w h said = g

  end_call-steady : (p : Image) (part : Part) (c : Call) (outcome : Outcome) → Steady sight me o (end_call p part c outcome)
  unfolding end_call
  end_call-steady p part c outcome =
      watches-steady _ (λ w h. let r = with_results p c outcome w in
      then-steady (changes (λ _. r.0)) (end_with p part c r.1) (becomes-steady r.0 (with_results-holds p c outcome w h)) (end_with-steady p part c r.1))

  pub deliver-steady : (p : Image) (part : Part) (c : CallNo) (outcome : Outcome) → Steady sight me o (deliver p part c outcome)
  unfolding deliver
  deliver-steady p part c outcome =
      with_call-steady c _ (λ d. then-steady (end_call p part d outcome) _ (end_call-steady p part d outcome) (unwind-steady p part (who.Task d.caller)))

  -- ---- a call is sent on, and one begins

  pub enqueue-steady : (p : Image) (c : CallNo) → Steady sight me o (enqueue p c)
  unfolding enqueue
  enqueue-steady p c = with_call-steady c _ (λ d. changes-steady _ (enqueued-spares p d))

  says_call-steady : (part : Part) (c : Call) → Steady sight me o (says_call part c)
  unfolding says_call
  says_call-steady part c = says-steady part _

  pub send_on-steady : (c : CallNo) (s : Sending) → Steady sight me o (send_on c s)
  unfolding send_on
  send_on-steady c s = then-steady _ _ (changes-steady _ (edit_call-spares c (sent_call s))) (with_call-steady c _ (λ d. says_call-steady TheFinish d))

  cancel_sent-steady : (p : Image) (c : Call) → Steady sight me o (cancel_sent p c)
  unfolding cancel_sent
  cancel_sent-steady p c =
      then-steady _ _ (changes-steady _ (unqueued-spares p c))
      (then-steady _ _ (says-steady TheFinish _) (deliver-steady p TheFinish c.number call_ended.Cancelled))

  sixth : (a b c d e f g : Bool) → (a && b && c && d && e && f && g) ≡ true → f ≡ true
  sixth a b c d e true g h = refl
  sixth true true true true true false g h = cc
  sixth true true true true false false g h = cc
  sixth true true true false e false g h = cc
  sixth true true false d e false g h = cc
  sixth true false c d e false g h = cc
  sixth false b c d e false g h = cc

  begin_abortable-steady : (p : Image) (c : CallNo) → Steady sight me o (begin_abortable p c)
  unfolding begin_abortable
  begin_abortable-steady p c =
      with_call-steady c _ (λ d. watches-steady _ (λ w h. when-steady (may_begin_abortable w d) _ (λ e.
      let name = who.Task d.caller in
      let waits =
      sixth (is_triggering d.kind) (is_none (abortable_depth w d)) (not d.firm) (not d.attempted) (is_none d.outcome)
      (waits_for_call d.number (waiting_of w name)) (has_room w name 1 0) e in
      let apart = waits-apart sight me o w d.caller h (call-waits d.number (waiting_of w name) waits) in
      then-steady _ _ (changes-steady (open_abortable p name d.statement (Some d.number)) (push_other-spares name _ apart)) (ready-steady p TheFinish name))))

  sent_not_begun_by-steady : (p : Image) (c : Call) (test : Bool) → Steady sight me o (sent_not_begun_by p c test)
  unfolding sent_not_begun_by
  sent_not_begun_by-steady p c true = cancel_sent-steady p c
  sent_not_begun_by-steady p c false =
      then-steady (changes (timeout_again p c)) _ (changes-steady _ (unless_firm-spares p c.firm c)) (begin_abortable-steady p c.number)

  sent_not_begun-steady : (p : Image) (c : CallNo) → Steady sight me o (sent_not_begun p c)
  unfolding sent_not_begun
  sent_not_begun-steady p c = with_call-steady c _ (λ d. looks-steady _ (λ w. sent_not_begun_by-steady p d (is_to_be_cancelled w.time d)))

  pub settle_sent-steady : (p : Image) (c : Option CallNo) (test : Bool) → Steady sight me o (settle_sent p c test)
  unfolding settle_sent
  settle_sent-steady p None test = nothing-steady
  settle_sent-steady p (Some c) true = nothing-steady
  settle_sent-steady p (Some c) false = sent_not_begun-steady p c

  pub begin_call-steady : (p : Image) (part : Part) (name : Who) (c : Call) → Steady sight me o (begin_call p part name c)
  unfolding begin_call
  begin_call-steady p part name c =
      then-steady _ _ (changes-steady _ (unqueued-spares p c)) (then-steady _ _ (changes-steady _ (edit_call-spares c.number begun_call)) (says-steady part _))
