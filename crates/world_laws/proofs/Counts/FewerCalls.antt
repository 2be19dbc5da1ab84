-- How calls end takes calls out of queues and forgets some, and neither queues one nor sends one elsewhere.
use Rattle.std.proofs.Common.{◌≡◌, ℕ, ℤ, ◌≤◌, Bool, true, false, cond, List, [], ◌∷◌, Option, Some, None, refl, sym, ap, subst, ◌∙◌, arith, option_map}
use Rattle.std.specs.Prelude.{find, Ok, Err}
use Rattle.ann_base.specs.Results.{◌>>=◌}
use Rattle.ann_base.specs.declared.exceptions.Raised.{Raised}
use Rattle.ann_base.specs.declared.exceptions.Raised.TheVariants as exception
use Rattle.ann_base.specs.declared.identities.CallNo.{CallNo}
use Rattle.ann_base.specs.declared.identities.ObjectNo.{ObjectNo}
use Rattle.ann_base.specs.declared.identities.TaskNo.{TaskNo}
use Rattle.trace_text.specs.declared.events.QueueEnd.{QueueEnd}
use Rattle.trace_text.specs.declared.events.QueueEnd.TheVariants.{Tail}
use Rattle.trace_text.specs.declared.events.Who.{Who}
use Rattle.trace_text.specs.declared.events.Who.TheVariants as who
use Rattle.profile_image.specs.declared.image.Image.{Image}
use Rattle.profile_image.specs.declared.numbers.EntryNo.{EntryNo}
use Rattle.profile_image.specs.declared.numbers.StatementNo.{StatementNo}
use Rattle.profile_machine.specs.declared.run_data.Leaving.{Leaving}
use Rattle.profile_machine.specs.declared.run_data.Leaving.TheVariants as how
use Rattle.profile_image.specs.declared.statements.StatementForm.{StatementForm}
use Rattle.profile_image.specs.declared.statements.StatementForm.TheVariants as form
use Rattle.profile_image.specs.declared.values.Value.{Value}
use Rattle.profile_machine.specs.declared.world.World.{World}
use Rattle.profile_machine.specs.declared.world.calls.Call.{Call}
use Rattle.profile_machine.specs.declared.world.calls.Outcome.{Outcome}
use Rattle.profile_machine.specs.declared.world.calls.Outcome.TheVariants as call_ended
use Rattle.profile_machine.specs.declared.world.calls.Owner.{Owner}
use Rattle.profile_machine.specs.declared.world.calls.Owner.TheVariants as owned_by
use Rattle.profile_machine.specs.declared.world.lines.Line.{Line}
use Rattle.profile_machine.specs.declared.world.lines.Line.TheVariants as line
use Rattle.profile_machine.specs.declared.world.lines.Part.{Part}
use Rattle.profile_machine.specs.declared.world.lines.Part.TheVariants.{TheFinish}
use Rattle.profile_machine.specs.declared.world.lines.Said.{Said}
use Rattle.profile_machine.specs.declared.world.marks.AbortableMark.{AbortableMark}
use Rattle.profile_machine.specs.declared.world.marks.Frame.{Frame}
use Rattle.profile_machine.specs.declared.world.marks.Mark.{Mark}
use Rattle.profile_machine.specs.declared.world.marks.Mark.TheVariants.{Abortable}
use Rattle.profile_machine.specs.declared.world.objects.Object.{Object}
use Rattle.profile_machine.specs.declared.world.scopes.Variable.{Variable}
use Rattle.profile_machine.specs.declared.world.tasks.State.{State}
use Rattle.profile_machine.specs.declared.world.tasks.State.TheVariants.{Made, Runnable, Blocked}
use Rattle.profile_machine.specs.declared.world.tasks.Task.{Task}
use Rattle.profile_machine.specs.declared.world.tasks.Waiting.{Waiting}
use Rattle.profile_machine.specs.declared.world.tasks.Waiting.TheVariants as waits_for
use Rattle.profile_image.specs.Words.{has, same_call, edit_at, without}
use Rattle.profile_image.specs.Program.{declaration_of, form_of, next_of}
use Rattle.profile_machine.specs.Operators.{Valued, checked}
use Rattle.profile_machine.specs.Steps.{Step, Done, done, goes_on_with, nothing, changes, says, looks, when, for_some, ◌▷◌}
use Rattle.profile_machine.specs.Tasks.{task_at, task_of, edit_task_found, edit_task, waiting_of, with_ticks, with_state}
use Rattle.profile_machine.specs.Dispatching.{keep_level, grant_quantum, says_ready, to_tail, ready}
use Rattle.profile_machine.specs.Frames.{frames_of, top_of, goes, leaves, leaving_of, raises, has_room, open_handled}
use Rattle.profile_machine.specs.Frames.{open_at, onward_of, open_sequence, stands_in, exit_loop, pass_on}
use Rattle.profile_machine.specs.Scopes.{write_cell}
use Rattle.profile_machine.specs.Appointments.{drop_delay, appoint}
use Rattle.profile_machine.specs.Values.{is_object, queue_at, queues_of}
use Rattle.profile_machine.specs.Calls.{is_call, call_of, edit_call, forget_call, with_call, edit_object, edit_queue}
use Rattle.profile_machine.specs.Calls.{take_call, place_of_entry, unqueued, is_cancellable, attempt_on, attempt_with}
use Rattle.profile_machine.specs.Unwinding.{may_unwind, leave_by_abort, stop_waiting, wake_and_leave, unwind_blocked, unwind_in, unwind}
use Rattle.profile_machine.specs.CallEnds.{go_by_outcome, onward_when_done, onward_when_cancelled, resume, store, or_stored, copy_back, with_results}
use Rattle.profile_machine.specs.CallEnds.{abortable_depth, trigger_at, trigger_outcome, forget_trigger, run_triggered, ended_by_itself}
use Rattle.profile_machine.specs.CallEnds.{behind_abortable, end_abortable, end_abortable_in, end_top_abortable, end_wait, waits_for_call}
use Rattle.profile_machine.specs.CallEnds.{waits_for_end, end_for_abortable, end_for_caller, end_for, with_outcome, end_with, end_call, deliver}
use Rattle.profile_machine.specs.declared.world.appointments.Due.TheVariants as due_for
use Rattle.profile_machine.specs.Sending.{appoint_timeout, cancel_sent, may_begin_abortable, begin_abortable}
use Rattle.profile_machine.specs.Sending.{is_to_be_cancelled, sent_not_begun_by, sent_not_begun, may_time_out}
use Rattle.machine_laws.proofs.Kept.Combinators.{world_behind}
use Rattle.machine_laws.proofs.Kept.Entering.{edit_found-objects}
use Rattle.world_laws.proofs.Counts.NumberedLists.{edited, left-found}
use Rattle.world_laws.proofs.Counts.CallLists.{counted, counted-edited, counted-without}
use Rattle.world_laws.proofs.Queues.Standing.{object_key}
use Rattle.world_laws.proofs.Queues.CallLists.{call_number, taken-at}

-- ---- what is left

-- the queue of an object at a place, and where a call is to be served
abbrev pub queue_in : ObjectNo → List Object → ℕ → List CallNo
queue_in o objects k = queue_at (queues_of (find (is_object o) objects)) k

abbrev pub directed : Call → Owner × EntryNo
directed d = (d.owner, d.entry)

abbrev pub directed_in : List Call → CallNo → Option (Owner × EntryNo)
directed_in calls c = option_map directed (find (is_call c) calls)

-- nobody comes into a queue of the object, calls that are there are directed as they were, and of no kind there are more
pub record Fewer (o : ObjectNo) (w v : World) : Type 0 where
  pub queued : (k : ℕ) (c : CallNo) → has same_call (queue_in o v.objects k) c ≡ true → has same_call (queue_in o w.objects k) c ≡ true
  pub directs : (c : CallNo) (at : Owner × EntryNo) → directed_in v.calls c ≡ Some at → directed_in w.calls c ≡ Some at
  pub counts : (test : CallNo → Bool) → counted test v.calls ≤ counted test w.calls

-- a step, and a change of the world, that lead to no more
unfoldable pub Lessens : ObjectNo → Step → Type 0
Lessens o step = (w : World) (said : List Said) → Fewer o w (world_behind (step w said))

unfoldable pub Reduces : ObjectNo → (World → World) → Type 0
Reduces o f = (w : World) → Fewer o w (f w)

edit_found-calls : (name : Who) (f : Task → Task) (w : World) (found : Option Task) → (edit_task_found name f w found).calls ≡ w.calls
edit_found-calls name f w None = refl
edit_found-calls (who.Task n) f w (Some t) = refl
edit_found-calls who.Agent f w (Some t) = refl

module _ (o : ObjectNo) where
  pub fewer-then : (a b c : World) → Fewer o a b → Fewer o b c → Fewer o a c
  fewer-then a b c p q = record {
    queued = λ k x h. p.queued k x (q.queued k x h);
    directs = λ x at h. p.directs x at (q.directs x at h);
    counts =
        λ test. let first : counted test b.calls ≤ counted test a.calls = p.counts test in
        let second : counted test c.calls ≤ counted test b.calls = q.counts test in omega (arith, first, second);
  }

  pub fewer-same : (w v : World) → v.calls ≡ w.calls → v.objects ≡ w.objects → Fewer o w v
  fewer-same w v calls objects = record {
    queued = λ k c h. subst (λ xs. has same_call (queue_in o xs k) c ≡ true) objects h;
    directs = λ c at h. subst (λ xs. directed_in xs c ≡ Some at) calls h;
    counts = λ test. subst (λ xs. counted test v.calls ≤ counted test xs) calls (omega arith);
  }

  pub fewer-calls : (w v : World) → v.objects ≡ w.objects
      → ((c : CallNo) (at : Owner × EntryNo) → directed_in v.calls c ≡ Some at → directed_in w.calls c ≡ Some at)
      → ((test : CallNo → Bool) → counted test v.calls ≤ counted test w.calls) → Fewer o w v
  fewer-calls w v objects directs counts = record {
    queued = λ k c h. subst (λ xs. has same_call (queue_in o xs k) c ≡ true) objects h;
    directs = directs;
    counts = counts;
  }

  -- ---- changes

  pub edit_task-reduces : (name : Who) (f : Task → Task) (w : World) → Fewer o w (edit_task name f w)
  edit_task-reduces name f w = fewer-same w (edit_task name f w) (edit_found-calls name f w (task_at w name)) (edit_found-objects name f w (task_at w name))

  pub edits-task : (name : Who) (f : Task → Task) → Reduces o (edit_task name f)
  unfolding Reduces
  edits-task name f w = edit_task-reduces name f w

  keep_level-reduces : (p : Image) (name : Who) → Reduces o (keep_level p name)
  unfolding Reduces
  keep_level-reduces p name w = edit_task-reduces name _ w

  grant_quantum-reduces : (p : Image) (name : Who) → Reduces o (grant_quantum p name)
  unfolding Reduces
  grant_quantum-reduces p name w = edit_task-reduces name _ w

  pub same-reduces : (f : World → World) → ((w : World) → (f w).calls ≡ w.calls) → ((w : World) → (f w).objects ≡ w.objects) → Reduces o f
  unfolding Reduces
  same-reduces f calls objects w = fewer-same w (f w) (calls w) (objects w)

  drop_delay-reduces : (name : Who) → Reduces o (drop_delay name)
  drop_delay-reduces (who.Task t) = same-reduces _ (λ w. refl) (λ w. refl)
  drop_delay-reduces who.Agent = same-reduces _ (λ w. refl) (λ w. refl)

  appoint_timeout-reduces : (p : Image) (c : CallNo) (moment : Option ℤ) → Reduces o (appoint_timeout p c moment)
  appoint_timeout-reduces p c None = same-reduces _ (λ w. refl) (λ w. refl)
  appoint_timeout-reduces p c (Some moment) =
      same-reduces _ (λ w. calls w (may_time_out p w (call_of w c))) (λ w. objects w (may_time_out p w (call_of w c))) where
        calls : (w : World) (may : Bool) → (cond may (appoint (due_for.Timeout c) moment w) w).calls ≡ w.calls
        calls w true = refl
        calls w false = refl

        objects : (w : World) (may : Bool) → (cond may (appoint (due_for.Timeout c) moment w) w).objects ≡ w.objects
        objects w true = refl
        objects w false = refl

  -- an edit that leaves alone the number of a call and where it is directed
  pub edit_call-reduces : (c : CallNo) (f : Call → Call) → ((d : Call) → (f d).number ≡ d.number) → ((d : Call) → directed (f d) ≡ directed d)
      → Reduces o (edit_call c f)
  unfolding Reduces
  edit_call-reduces c f number same w =
      fewer-calls w (edit_call c f w) refl
      (λ x at h.
      edited call_number x.0 c.0 f (λ d. ap (λ n. n.0) (number d)) (λ y. option_map directed y ≡ Some at → directed_in w.calls x ≡ Some at) w.calls (λ k. k)
      (λ d is k. ap (option_map directed) is ∙ ap Some (sym (same d)) ∙ k) h)
      (λ test. subst (λ n. n ≤ counted test w.calls) (sym (counted-edited test c.0 f w.calls number)) (omega arith))

  left-directed : (c out : CallNo) (calls : List Call) (left : Option Call) (at : Owner × EntryNo) → find (is_call c) (without (is_call out) calls) ≡ left
      → option_map directed left ≡ Some at → directed_in calls c ≡ Some at
  left-directed c out calls None at is h = absurd cc
  left-directed c out calls (Some d) at is h = ap (option_map directed) (left-found call_number c.0 out.0 calls d is) ∙ h

  pub forget_call-reduces : (c : CallNo) → Reduces o (forget_call c)
  unfolding Reduces
  forget_call-reduces c w =
      fewer-calls w (forget_call c w) refl
      (λ x at h. left-directed x c w.calls (call_of (forget_call c w) x) at refl h)
      (λ test. counted-without test (is_call c) w.calls)

  -- a call is taken out of a queue of an object
  pub take-reduces : (owner : ObjectNo) (place : ℕ) (c : CallNo) (w : World)
      → Fewer o w (edit_object owner (λ u. record u { queues = edit_at place (take_call c) u.queues }) w)
  take-reduces owner place c w = record {
    queued = λ k x h. edited object_key o.0 owner.0 (λ u. record u { queues = edit_at place (take_call c) u.queues }) (λ u. refl)
        (λ y. has same_call (queue_at (queues_of y) k) x ≡ true → has same_call (queue_in o w.objects k) x ≡ true) w.objects (λ e. e)
        (λ u is e. subst (λ y. has same_call (queue_at (queues_of y) k) x ≡ true) (sym is) (taken-at u.queues place k c x e)) h;
    directs = λ x at h. h;
    counts = λ test. omega arith;
  }

  pub edit_queue-reduces : (owner : Owner) (place : ℕ) (c : CallNo) (w : World) → Fewer o w (edit_queue owner place (take_call c) w)
  edit_queue-reduces (owned_by.Task t) place c w = edit_task-reduces (who.Task t) _ w
  edit_queue-reduces (owned_by.Object owner) place c w = take-reduces owner place c w

  pub unqueued-reduces : (p : Image) (c : Call) → Reduces o (unqueued p c)
  unfolding Reduces
  unqueued-reduces p c w =
      let taken = edit_queue c.owner (place_of_entry p c.entry) (take_call c.number) w in
      fewer-then w taken (unqueued p c w) (edit_queue-reduces c.owner (place_of_entry p c.entry) c.number w) (fewer-same taken (unqueued p c w) refl refl)

  -- ---- steps that are put together

  goes_on_with-fewer : (g : Step) (w : World) (d : Done) → Fewer o w (world_behind d) → Lessens o g → Fewer o w (world_behind (goes_on_with g d))
  unfolding Lessens
  goes_on_with-fewer g w (done v said) a k = fewer-then w v (world_behind (g v said)) a (k v said)

  pub then-lessens : (f g : Step) → Lessens o f → Lessens o g → Lessens o (f ▷ g)
  unfolding Lessens
  then-lessens f g a b w said = goes_on_with-fewer g w (f w said) (a w said) b

  pub nothing-lessens : Lessens o nothing
  unfolding Lessens
  nothing-lessens w said = fewer-same w w refl refl

  pub changes-lessens : (f : World → World) → Reduces o f → Lessens o (changes f)
  unfolding Lessens Reduces
  changes-lessens f a w said = a w

  pub says-lessens : (part : Part) (line : Line) → Lessens o (says part line)
  unfolding Lessens
  says-lessens part line w said = fewer-same w w refl refl

  pub looks-lessens : (f : World → Step) → ((w : World) → Lessens o (f w)) → Lessens o (looks f)
  unfolding Lessens
  looks-lessens f a w said = a w w said

  pub branch-lessens : (b : Bool) (f g : Step) → Lessens o f → Lessens o g → Lessens o (elim b as (λ _. Step) [ true ↦ f | false ↦ g ])
  branch-lessens true f g a b = a
  branch-lessens false f g a b = b

  pub when-lessens : (b : Bool) (step : Step) → Lessens o step → Lessens o (when b step)
  when-lessens true step a = a
  when-lessens false step a = nothing-lessens

  for_some-lessens : {X : Type 0} (x : Option X) (f : X → Step) → ((y : X) → Lessens o (f y)) → Lessens o (for_some x f)
  for_some-lessens None f a = nothing-lessens
  for_some-lessens (Some x) f a = a x

  pub with_call-lessens : (c : CallNo) (f : Call → Step) → ((d : Call) → Lessens o (f d)) → Lessens o (with_call c f)
  with_call-lessens c f a = search (looks-lessens, for_some-lessens)

  -- ---- tasks go on, and become ready

  edits-lessens : (name : Who) (f : Task → Task) → Lessens o (changes (edit_task name f))
  edits-lessens name f = changes-lessens _ (edits-task name f)

  says_ready-lessens : (p : Image) (part : Part) (name : Who) (end : QueueEnd) → Lessens o (says_ready p part name end)
  unfolding says_ready
  says_ready-lessens p part name end = looks-lessens _ (λ w. says-lessens _ _)

  ready-lessens : (p : Image) (part : Part) (name : Who) → Lessens o (ready p part name)
  unfolding ready to_tail
  ready-lessens p part name =
      then-lessens _ _ (edits-lessens name (with_state Runnable))
      (then-lessens _ _ (changes-lessens _ (keep_level-reduces p name))
      (then-lessens _ _ (changes-lessens _ (grant_quantum-reduces p name)) (says_ready-lessens p part name Tail)))

  goes-lessens : (name : Who) (onward : Option StatementNo) → Lessens o (goes name onward)
  unfolding goes
  goes-lessens name onward = edits-lessens name _

  leaves-lessens : (name : Who) (leaving : Leaving) → Lessens o (leaves name leaving)
  unfolding leaves
  leaves-lessens name leaving = edits-lessens name _

  raises-lessens : (part : Part) (name : Who) (e : Raised) → Lessens o (raises part name e)
  unfolding raises
  raises-lessens part name e = search (says-lessens, then-lessens, leaves-lessens)

  open_handled-lessens : (p : Image) (part : Part) (name : Who) (s : StatementNo) (form : StatementForm) → Lessens o (open_handled p part name s form)
  unfolding open_handled
  open_handled-lessens p part name s (form.Handled handlers first) =
      looks-lessens _ (λ w. branch-lessens (has_room w name 1 0) _ _
      (then-lessens _ _ (goes-lessens name (next_of p s)) (edits-lessens name _)) (raises-lessens part name exception.Storage))
  open_handled-lessens p part name s _ = nothing-lessens

  open_at-lessens : (p : Image) (part : Part) (name : Who) (next : Option StatementNo) → Lessens o (open_at p part name next)
  unfolding open_at
  open_at-lessens p part name None = nothing-lessens
  open_at-lessens p part name (Some s) = open_handled-lessens p part name s (form_of p s)

  open_sequence-lessens : (p : Image) (part : Part) (name : Who) → Lessens o (open_sequence p part name)
  unfolding open_sequence
  open_sequence-lessens p part name = looks-lessens _ (λ w. open_at-lessens p part name (onward_of w name))

  exit_loop-lessens : (p : Image) (name : Who) (loop : StatementNo) → Lessens o (exit_loop p name loop)
  unfolding exit_loop
  exit_loop-lessens p name loop =
      looks-lessens _ (λ w. branch-lessens (stands_in p loop (top_of w name)) _ _ (goes-lessens name (next_of p loop)) (leaves-lessens name (how.Exit loop)))

  pass_on-lessens : (p : Image) (name : Who) (leaving : Leaving) → Lessens o (pass_on p name leaving)
  unfolding pass_on
  pass_on-lessens p name how.End = nothing-lessens
  pass_on-lessens p name how.Return = leaves-lessens name how.Return
  pass_on-lessens p name (how.Exit loop) = exit_loop-lessens p name loop
  pass_on-lessens p name (how.Exception e) = leaves-lessens name (how.Exception e)
  pass_on-lessens p name how.Abort = leaves-lessens name how.Abort
  pass_on-lessens p name how.Terminate = leaves-lessens name how.Terminate

  -- ---- callers are unwound

  attempt_on-lessens : (p : Image) (part : Part) (c : Call) → Lessens o (attempt_on p part c)
  unfolding attempt_on
  attempt_on-lessens p part c =
      branch-lessens (is_cancellable c) _ _ (then-lessens _ _ (changes-lessens _ (unqueued-reduces p c)) (says-lessens part (line.Cancel c.caller c.number)))
      (changes-lessens _ (edit_call-reduces c.number (λ d. record d { attempted = true }) (λ d. refl) (λ d. refl)))

  attempt_with-lessens : (p : Image) (part : Part) (c : Call) (cancels stays : Step) → Lessens o cancels → Lessens o stays
      → Lessens o (attempt_with p part c cancels stays)
  attempt_with-lessens p part c cancels stays a b = then-lessens _ _ (attempt_on-lessens p part c) (branch-lessens (is_cancellable c) cancels stays a b)

  leave_by_abort-lessens : (name : Who) → Lessens o (leave_by_abort name)
  unfolding leave_by_abort
  leave_by_abort-lessens name = then-lessens _ _ (edits-lessens name (with_ticks None)) (leaves-lessens name how.Abort)

  wake_and_leave-lessens : (p : Image) (part : Part) (name : Who) → Lessens o (wake_and_leave p part name)
  unfolding wake_and_leave stop_waiting
  wake_and_leave-lessens p part name =
      then-lessens _ _ (then-lessens _ _ (changes-lessens _ (drop_delay-reduces name)) (ready-lessens p part name)) (leave_by_abort-lessens name)

  unwind_blocked-lessens : (p : Image) (part : Part) (name : Who) (waiting : Waiting) → Lessens o (unwind_blocked p part name waiting)
  unfolding unwind_blocked
  unwind_blocked-lessens p part name (waits_for.Call c) =
      with_call-lessens c _
      (λ d.
      attempt_with-lessens p part d _ _ (then-lessens _ _ (changes-lessens _ (forget_call-reduces c)) (wake_and_leave-lessens p part name)) nothing-lessens)
  unwind_blocked-lessens p part name (waits_for.EndOfCall c) = nothing-lessens
  unwind_blocked-lessens p part name waits_for.Activation = wake_and_leave-lessens p part name
  unwind_blocked-lessens p part name waits_for.Moment = wake_and_leave-lessens p part name
  unwind_blocked-lessens p part name (waits_for.Accept s) = wake_and_leave-lessens p part name
  unwind_blocked-lessens p part name (waits_for.Select accepts delay terminate) = wake_and_leave-lessens p part name
  unwind_blocked-lessens p part name (waits_for.Dependents r) = wake_and_leave-lessens p part name
  unwind_blocked-lessens p part name waits_for.Release = nothing-lessens

  unwind_in-lessens : (p : Image) (part : Part) (name : Who) (state : State) → Lessens o (unwind_in p part name state)
  unfolding unwind_in
  unwind_in-lessens p part name Made = nothing-lessens
  unwind_in-lessens p part name Runnable = leave_by_abort-lessens name
  unwind_in-lessens p part name (Blocked waiting) = unwind_blocked-lessens p part name waiting

  unwind-lessens : (p : Image) (part : Part) (name : Who) → Lessens o (unwind p part name)
  unfolding unwind
  unwind-lessens p part name = looks-lessens _ (λ w. when-lessens (may_unwind (frames_of w name)) _ (unwind_in-lessens p part name (task_of w name).state))

  -- ---- calls end

  go_by_outcome-lessens : (p : Image) (part : Part) (name : Who) (s : StatementNo) (outcome : Outcome) → Lessens o (go_by_outcome p part name s outcome)
  unfolding go_by_outcome
  go_by_outcome-lessens p part name s call_ended.Finished = goes-lessens name (onward_when_done p s)
  go_by_outcome-lessens p part name s call_ended.Cancelled = goes-lessens name (onward_when_cancelled p s)
  go_by_outcome-lessens p part name s (call_ended.ToRaise e) = raises-lessens part name e
  go_by_outcome-lessens p part name s (call_ended.WasRaised e) = leaves-lessens name (how.Exception e)

  resume-lessens : (p : Image) (part : Part) (c : Call) (outcome : Outcome) → Lessens o (resume p part c outcome)
  unfolding resume
  resume-lessens p part c outcome =
      then-lessens _ _ (changes-lessens _ (forget_call-reduces c.number)) (go_by_outcome-lessens p part (who.Task c.caller) c.statement outcome)

  -- results are copied back into cells
  abbrev Stored : World → Valued World → Type 0
  Stored w (Ok v) = Fewer o w v
  Stored w (Err e) = Unit {0}

  checked-stored : (x : Valued Value) (f : Value → World) (w : World) → ((v : Value) → Fewer o w (f v)) → Stored w (x >>= λ v. Ok (f v))
  checked-stored (Ok v) f w a = a v
  checked-stored (Err e) f w a = tt

  store-stored : (p : Image) (target : Variable) (v : Value) (w : World) → Stored w (store p target v w)
  store-stored p target v w =
      checked-stored (checked (declaration_of p target.declared).constraint v) (λ x. write_cell target.within target.place x w) w
      (λ x. fewer-same w (write_cell target.within target.place x w) refl refl)

  or_stored-fewer : (result : Valued World) (again : World → World × Bool) (w : World) → Stored w result → ((v : World) → Fewer o v (again v).0)
      → Fewer o w (or_stored w result again).0
  or_stored-fewer (Ok v) again w a k = fewer-then w v (again v).0 a (k v)
  or_stored-fewer (Err e) again w a k = fewer-same w w refl refl

  copied-fewer : (p : Image) (results : List (Option Variable)) (values : List Value) (w : World) → Fewer o w (copy_back p results values w).0
  copied-fewer p [] values w = fewer-same w w refl refl
  copied-fewer p (None ∷ results) [] w = fewer-same w w refl refl
  copied-fewer p (None ∷ results) (v ∷ values) w = copied-fewer p results values w
  copied-fewer p (Some target ∷ results) [] w = fewer-same w w refl refl
  copied-fewer p (Some target ∷ results) (v ∷ values) w =
      or_stored-fewer (store p target v w) (copy_back p results values) w (store-stored p target v w) (copied-fewer p results values)

  with_results-fewer : (p : Image) (c : Call) (outcome : Outcome) (w : World) → Fewer o w (with_results p c outcome w).0
  with_results-fewer p c call_ended.Finished w = copied-fewer p c.results c.values w
  with_results-fewer p c call_ended.Cancelled w = fewer-same w w refl refl
  with_results-fewer p c (call_ended.ToRaise e) w = fewer-same w w refl refl
  with_results-fewer p c (call_ended.WasRaised e) w = fewer-same w w refl refl

  trigger_at-lessens : (part : Part) (t : TaskNo) (depth : ℕ) → Lessens o (trigger_at part t depth)
  unfolding trigger_at
  trigger_at-lessens part t depth =
      then-lessens _ _ (edits-lessens (who.Task t) _) (then-lessens _ _ (says-lessens part (line.Trigger t)) (edits-lessens (who.Task t) _))

  forget_trigger-reduces : (c : Option CallNo) → Reduces o (forget_trigger c)
  forget_trigger-reduces None = same-reduces _ (λ w. refl) (λ w. refl)
  forget_trigger-reduces (Some c) = forget_call-reduces c

  run_triggered-lessens : (p : Image) (part : Part) (name : Who) (select : StatementNo) (outcome : Outcome)
      → Lessens o (run_triggered p part name select outcome)
  unfolding run_triggered
  run_triggered-lessens p part name select call_ended.Finished = goes-lessens name (onward_when_done p select)
  run_triggered-lessens p part name select call_ended.Cancelled = nothing-lessens
  run_triggered-lessens p part name select (call_ended.ToRaise e) = raises-lessens part name e
  run_triggered-lessens p part name select (call_ended.WasRaised e) = leaves-lessens name (how.Exception e)

  behind_abortable-lessens : (p : Image) (part : Part) (name : Who) (m : AbortableMark) (outcome : Outcome) → Lessens o (behind_abortable p part name m outcome)
  unfolding behind_abortable
  behind_abortable-lessens p part name m outcome = when-lessens m.triggered _ (run_triggered-lessens p part name m.select outcome)

  end_abortable-lessens : (p : Image) (part : Part) (name : Who) (m : AbortableMark) (f : Frame) (below : List Frame)
      → Lessens o (end_abortable p part name m f below)
  unfolding end_abortable
  end_abortable-lessens p part name m f below =
      looks-lessens _ (λ w. then-lessens _ _ (edits-lessens name _) (then-lessens _ _ (changes-lessens _ (forget_trigger-reduces m.call))
      (branch-lessens (ended_by_itself f below) _ _ (behind_abortable-lessens p part name m (trigger_outcome w m.call))
      (pass_on-lessens p name (leaving_of f)))))

  end_abortable_in-lessens : (p : Image) (part : Part) (name : Who) (f : Frame) (below : List Frame) (mark : Mark)
      → Lessens o (end_abortable_in p part name f below mark)
  unfolding end_abortable_in
  end_abortable_in-lessens p part name f below (Abortable m) = end_abortable-lessens p part name m f below
  end_abortable_in-lessens p part name f below _ = nothing-lessens

  end_top_abortable-lessens : (p : Image) (part : Part) (name : Who) (frames : List Frame) → Lessens o (end_top_abortable p part name frames)
  unfolding end_top_abortable
  end_top_abortable-lessens p part name [] = nothing-lessens
  end_top_abortable-lessens p part name (f ∷ below) = end_abortable_in-lessens p part name f below f.mark

  end_wait-lessens : (p : Image) (part : Part) (c : Call) (depth : ℕ) (outcome : Outcome) → Lessens o (end_wait p part c depth outcome)
  unfolding end_wait
  end_wait-lessens p part c depth outcome =
      then-lessens _ _ (ready-lessens p part (who.Task c.caller)) (then-lessens _ _ (edits-lessens (who.Task c.caller) _)
      (then-lessens _ _ (looks-lessens _ (λ w. end_top_abortable-lessens p part (who.Task c.caller) (frames_of w (who.Task c.caller))))
      (open_sequence-lessens p part (who.Task c.caller))))

  end_for_abortable-lessens : (p : Image) (part : Part) (c : Call) (depth : ℕ) (outcome : Outcome) → Lessens o (end_for_abortable p part c depth outcome)
  unfolding end_for_abortable
  end_for_abortable-lessens p part c depth outcome =
      looks-lessens _
      (λ w. branch-lessens (waits_for_end c.number (waiting_of w (who.Task c.caller))) _ _ (end_wait-lessens p part c depth outcome)
      (trigger_at-lessens part c.caller depth))

  end_for_caller-lessens : (p : Image) (part : Part) (c : Call) (outcome : Outcome) → Lessens o (end_for_caller p part c outcome)
  unfolding end_for_caller
  end_for_caller-lessens p part c outcome =
      looks-lessens _ (λ w. when-lessens (waits_for_call c.number (waiting_of w (who.Task c.caller))) _
      (then-lessens _ _ (ready-lessens p part (who.Task c.caller))
      (then-lessens _ _ (resume-lessens p part c outcome) (open_sequence-lessens p part (who.Task c.caller)))))

  end_for-lessens : (p : Image) (part : Part) (c : Call) (outcome : Outcome) (depth : Option ℕ) → Lessens o (end_for p part c outcome depth)
  unfolding end_for
  end_for-lessens p part c outcome (Some depth) = end_for_abortable-lessens p part c depth outcome
  end_for-lessens p part c outcome None = end_for_caller-lessens p part c outcome

  end_with-lessens : (p : Image) (part : Part) (c : Call) (outcome : Outcome) → Lessens o (end_with p part c outcome)
  unfolding end_with
  end_with-lessens p part c outcome =
      then-lessens _ _ (changes-lessens _ (edit_call-reduces c.number (with_outcome outcome) (λ d. refl) (λ d. refl)))
      (looks-lessens _ (λ w. end_for-lessens p part c outcome (abortable_depth w c)))

  end_call-lessens : (p : Image) (part : Part) (c : Call) (outcome : Outcome) → Lessens o (end_call p part c outcome)
  unfolding end_call Lessens
  end_call-lessens p part c outcome w said =
      let r = with_results p c outcome w in
      fewer-then w r.0 (world_behind (end_with p part c r.1 r.0 said)) (with_results-fewer p c outcome w) (end_with-lessens p part c r.1 r.0 said)

  pub deliver-lessens : (p : Image) (part : Part) (c : CallNo) (outcome : Outcome) → Lessens o (deliver p part c outcome)
  unfolding deliver
  deliver-lessens p part c outcome =
      with_call-lessens c _ (λ d. then-lessens _ _ (end_call-lessens p part d outcome) (unwind-lessens p part (who.Task d.caller)))

  -- ---- a call that was sent on and not begun

  cancel_sent-lessens : (p : Image) (c : Call) → Lessens o (cancel_sent p c)
  unfolding cancel_sent
  cancel_sent-lessens p c =
      then-lessens _ _ (changes-lessens _ (unqueued-reduces p c))
      (then-lessens _ _ (says-lessens TheFinish (line.Cancel c.caller c.number)) (deliver-lessens p TheFinish c.number call_ended.Cancelled))

  begin_abortable-lessens : (p : Image) (c : CallNo) → Lessens o (begin_abortable p c)
  unfolding begin_abortable
  begin_abortable-lessens p c =
      with_call-lessens c _
      (λ d. looks-lessens _
      (λ w.
      when-lessens (may_begin_abortable w d) _ (then-lessens _ _ (edits-lessens (who.Task d.caller) _) (ready-lessens p TheFinish (who.Task d.caller)))))

  timeout_again-reduces : (p : Image) (firm : Bool) (c : Call) → Reduces o (cond firm (λ w. w) (appoint_timeout p c.number c.moment))
  timeout_again-reduces p true c = same-reduces _ (λ w. refl) (λ w. refl)
  timeout_again-reduces p false c = appoint_timeout-reduces p c.number c.moment

  sent_not_begun_by-lessens : (p : Image) (c : Call) (cancelled : Bool) → Lessens o (sent_not_begun_by p c cancelled)
  unfolding sent_not_begun_by
  sent_not_begun_by-lessens p c true = cancel_sent-lessens p c
  sent_not_begun_by-lessens p c false = then-lessens _ _ (changes-lessens _ (timeout_again-reduces p c.firm c)) (begin_abortable-lessens p c.number)

  pub sent_not_begun-lessens : (p : Image) (c : CallNo) → Lessens o (sent_not_begun p c)
  unfolding sent_not_begun
  sent_not_begun-lessens p c = with_call-lessens c _ (λ d. looks-lessens _ (λ w. sent_not_begun_by-lessens p d (is_to_be_cancelled w.time d)))
