-- The effect of an action, of who comes to it in a good world: the world behind it is good.
use Rattle.std.proofs.Common.{◌≡◌, ℕ, ◌≤◌, ◌<◌, Bool, true, false, cond, ◌&&◌, length, List, []}
use Rattle.std.proofs.Common.{◌∷◌, Option, Some, None, refl, sym, subst, ap, ◌∙◌, arith, is_none}
use Rattle.std.specs.Prelude.{find, unwrap_or}
use Rattle.std.proofs.lemmas.Bool.{eq-eqb, or_left, true≢false}
use Rattle.ann_base.specs.declared.exceptions.Raised.{Raised}
use Rattle.ann_base.specs.declared.identities.CallNo.{CallNo}
use Rattle.ann_base.specs.declared.identities.TaskNo.{TaskNo}
use Rattle.trace_text.specs.declared.events.Who.{Who}
use Rattle.trace_text.specs.declared.events.Who.TheVariants as who
use Rattle.profile_image.specs.declared.image.Image.{Image}
use Rattle.profile_image.specs.declared.numbers.StatementNo.{StatementNo}
use Rattle.profile_machine.specs.declared.run_data.Leaving.{Leaving}
use Rattle.profile_machine.specs.declared.run_data.Leaving.TheVariants as how
use Rattle.profile_image.specs.declared.statements.Actual.{Actual}
use Rattle.profile_image.specs.declared.statements.Callee.{Callee}
use Rattle.profile_image.specs.declared.statements.Callee.TheVariants as callee
use Rattle.profile_image.specs.declared.statements.Destination.{Destination}
use Rattle.profile_image.specs.declared.statements.StatementForm.{StatementForm}
use Rattle.profile_image.specs.declared.statements.StatementForm.TheVariants as form
use Rattle.profile_machine.specs.declared.world.World.{World}
use Rattle.profile_machine.specs.declared.world.appointments.Due.{Due}
use Rattle.profile_machine.specs.declared.world.appointments.Release.{Release}
use Rattle.profile_machine.specs.declared.world.calls.Call.{Call}
use Rattle.profile_machine.specs.declared.world.calls.CallKind.TheVariants as call_kind
use Rattle.profile_machine.specs.declared.world.lines.Line.TheVariants as line
use Rattle.profile_machine.specs.declared.world.lines.Part.{Part}
use Rattle.profile_machine.specs.declared.world.lines.Part.TheVariants.{Own, TheBlock}
use Rattle.profile_machine.specs.declared.world.lines.Said.{Said}
use Rattle.profile_machine.specs.declared.world.marks.AbortableMark.{AbortableMark}
use Rattle.profile_machine.specs.declared.world.marks.Frame.{Frame}
use Rattle.profile_machine.specs.declared.world.marks.Mark.{Mark}
use Rattle.profile_machine.specs.declared.world.marks.Mark.TheVariants.{Scope, Handled, InProtected, InAccept, Abortable, InInitialize, InFinalize, InAssign}
use Rattle.profile_machine.specs.declared.world.tasks.State.TheVariants.{Blocked, Made, Runnable}
use Rattle.profile_machine.specs.declared.world.tasks.State.{State}
use Rattle.profile_machine.specs.declared.world.tasks.Task.{Task}
use Rattle.profile_machine.specs.declared.world.tasks.Waiting.TheVariants as waits_for
use Rattle.profile_image.specs.Words.{same_call, is_the}
use Rattle.world_tables.specs.Lists.{first_of}
use Rattle.profile_image.specs.Program.{form_of}
use Rattle.profile_machine.specs.Steps.{Step, Done, done, goes_on_with, says, changes, looks, when, for_some, ◌▷◌}
use Rattle.profile_machine.specs.Tasks.{is_who, nobody, task_of, edit_task, with_state, with_ticks, waiting_in, is_runnable, is_runnable_state}
use Rattle.profile_machine.specs.Dispatching.{block, says_block}
use Rattle.profile_machine.specs.Frames.{edit_first, frames_of, top_of, edit_top, with_mark, pop, leaving_of, open_if_ready, open_sequence}
use Rattle.profile_machine.specs.Values.{moment}
use Rattle.profile_machine.specs.Statements.{relative_moment}
use Rattle.profile_machine.specs.Appointments.{drop_appointment, is_appointed, is_timeout_of, is_trigger_of}
use Rattle.profile_machine.specs.Calls.{call_of, edit_call, edit_queue, take_call, place_of_entry}
use Rattle.profile_machine.specs.Calls.{unqueued, with_call, attempt_on, attempt_with, is_cancellable}
use Rattle.profile_machine.specs.CallEnds.{edit_abortable}
use Rattle.profile_machine.specs.Act.{call_main, call, keeping, handle_or_pass, behind_handled, end_handled, end_top, waiting_mark, wait_for_trigger}
use Rattle.profile_machine.specs.Act.{drop_trigger, below, end_abortable_by, end_in_abortable, act_statement, end_mark, act_frame, act_without, act_top, act}
use Rattle.profile_machine.specs.Instant.{effect}
use Rattle.world_laws.proofs.Queues.CallChanges.{drop_appointment-calm, dropped-none, unqueued-calm, unqueued-out}
use Rattle.world_laws.proofs.Queues.Kept.Actions.{call_operation-acts, call_own_operation-keeps, end_in_protected-onward}
use Rattle.world_laws.proofs.Queues.Kept.CallEnds.{attempted-same, found-directed, found-number}
use Rattle.world_laws.proofs.Queues.Kept.Combinators.{Keeps, Quiets, changes-calms, changes-keeps, changes_then-from, keeps-from}
use Rattle.world_laws.proofs.Queues.Kept.Combinators.{looks-keeps, nothing-keeps, sees-keeps, then-keeps, unchanged-quiets}
use Rattle.world_laws.proofs.Queues.Kept.Controlled.{assign_controlled-keeps, end_in_assign-from}
use Rattle.world_laws.proofs.Queues.Kept.Controlled.{end_in_finalize-from, end_in_initialize-from, initialize-keeps}
use Rattle.world_laws.proofs.Queues.Kept.Declarations.{declare-keeps}
use Rattle.world_laws.proofs.Queues.Kept.EntryCalls.{asynchronous_select-acts, entry_call-acts, requeue-keeps}
use Rattle.world_laws.proofs.Queues.Kept.Frames.{edit_call-quiets, edit_task-quiets, edit_top-alters, edit_top-quiets, goes-keeps, open_scope-alters}
use Rattle.world_laws.proofs.Queues.Kept.Frames.{open_sequence-keeps, pass_on-keeps, popped, raises-keeps, rests-natures, says_block-calms, with_room-keeps}
use Rattle.world_laws.proofs.Queues.Kept.Handlers.{add_member-keeps, add_to_budget-keeps, call_handler-keeps, cancel_budget-keeps, cancel_event-keeps}
use Rattle.world_laws.proofs.Queues.Kept.Handlers.{cancel_timer-keeps, remove_member-keeps, replenish-keeps, set_budget-keeps, set_event-keeps, set_timer-keeps}
use Rattle.world_laws.proofs.Queues.Kept.Onward.{Acts, Any, Drawn, Onward, acts-onward, calm-onward, calms-any, keeps-acts}
use Rattle.world_laws.proofs.Queues.Kept.PartEnds.{cancelled-onward, moment-onward, triggered-onward}
use Rattle.world_laws.proofs.Queues.Kept.Queued.{delay_and_set_deadline-keeps, set_deadline_of-acts, set_priority-acts, set_quantum-acts}
use Rattle.world_laws.proofs.Queues.Kept.Rendezvous.{accept-acts, end_in_accept-onward, selective_accept-acts}
use Rattle.world_laws.proofs.Queues.Kept.Statements.{assign-keeps, assign_array-keeps, block_statement-keeps, case_statement-keeps}
use Rattle.world_laws.proofs.Queues.Kept.Statements.{delay_until-keeps, exit_statement-keeps, first_turn-keeps, for_bounds-keeps, if_statement-keeps}
use Rattle.world_laws.proofs.Queues.Kept.Statements.{later_turn-keeps, null-keeps, put_line-keeps, raise_again-keeps, while_turn-keeps}
use Rattle.world_laws.proofs.Queues.Kept.Subprograms.{call_subprogram-keeps, return-keeps, return_value-keeps}
use Rattle.world_laws.proofs.Queues.Kept.Tasking.{abort_statement-acts, activate-acts, create-keeps, end_own_activation-keeps}
use Rattle.world_laws.proofs.Queues.Kept.Tasking.{end_scope_mark-onward, take_terminates-calms, unwind_all-any}
use Rattle.world_laws.proofs.Queues.Kept.Waits.{waiting-good}
use Rattle.world_laws.proofs.Queues.Calming.{named-found, task-edited}
use Rattle.world_laws.proofs.Queues.Moving.{queue-frames}
use Rattle.world_laws.proofs.Queues.Standing.{Awake, Calm, Good, Kind, Nature, Out, any_kind, awaits_part, calls_part, calm-awake, calm-good, has_own}
use Rattle.world_laws.proofs.Queues.Standing.{is_ending, is_named, nature, natures, part_of, quiet_kind, own_in, some_nature, top_waits, waits_end}
use Rattle.machine_laws.proofs.Kept.Combinators.{world_behind}

-- ---- the world behind is good, whoever is awake there

pub record Holds (p : Image) (w : World) (step : Step) : Type 0 where
  pub leads : (said : List Said) → Good p (world_behind (step w said))

pub onward-holds : {p : Image} (step : Step) (w : World) → Onward p w step → Holds p w step
onward-holds step w a = record { leads = λ said. (a.leads said).good }

goes_on-holds : (p : Image) (g : Step) (d : Done) → Good p (world_behind d) → ((v : World) → Good p v → Holds p v g) → Good p (world_behind (goes_on_with g d))
goes_on-holds p g (done v said) good k = (k v good).leads said

pub then-holds : {p : Image} (f g : Step) (w : World) → Holds p w f → ((v : World) → Good p v → Holds p v g) → Holds p w (f ▷ g)
then-holds {p = p} f g w a b = record { leads = λ said. goes_on-holds p g (f w said) (a.leads said) b }

pub looks_at-holds : {p : Image} (f : World → Step) (w : World) → Holds p w (f w) → Holds p w (looks f)
looks_at-holds f w a = record { leads = λ said. a.leads said }

pub any-holds : {p : Image} (f : Step) (w : World) → Good p w → Any p f → Holds p w f
any-holds f w good a = onward-holds f w (a.from w good)

changes_then-holds : {p : Image} (f : World → World) (g : Step) (w : World) → Holds p (f w) g → Holds p w (changes f ▷ g)
changes_then-holds f g w a = record { leads = λ said. a.leads said }

-- ---- who has a mark was drawn

none-frame : (f : Frame) → None ≡ Some f → ⊥
none-frame f e = cc

pub drawn-of_top : (p : Image) (name : Who) (f : Frame) (w : World) → Good p w → top_of w name ≡ Some f → Drawn name w
drawn-of_top p who.Agent f w good top t is = absurd (apart t is) where
  apart : (t : TaskNo) → who.Agent ≡ who.Task t → ⊥
  apart t e = cc
drawn-of_top p (who.Task n) f w good top t is =
    subst (λ m. m.0 < w.drawn.tasks) (same-task n t is) (good.present n (by_found (find (is_who (who.Task n)) w.tasks) refl)) where
      same-task : (a b : TaskNo) → who.Task a ≡ who.Task b → a ≡ b
      same-task a b e = cc

      by_found : (found : Option Task) → find (is_who (who.Task n)) w.tasks ≡ found → is_named (task_of w (who.Task n)) ≡ true
      by_found None e = absurd (none-frame f (ap (λ x. first_of (unwrap_or x nobody).frames) (sym e) ∙ top))
      by_found (Some u) e = ap (λ x. is_named (unwrap_or x nobody)) e ∙ named-found (is_who (who.Task n)) u w.tasks good.named e

-- who has a mark on top that has not come to its end, or is no abortable part, waits for the end of no call
top-frames : (w : World) (name : Who) (f : Frame) (fs : List Frame) → frames_of w name ≡ fs → first_of fs ≡ Some f
    → (below : List Frame) × (frames_of w name ≡ f ∷ below)
top-frames w name f [] is top = absurd (none-frame f top)
top-frames w name f (x ∷ xs) is top = (xs, is ∙ ap (λ y. y ∷ xs) (same x top)) where
  same : (x : Frame) → Some x ≡ Some f → x ≡ f
  same x e = cc

pub found-frames : (w : World) (name : Who) (f : Frame) → top_of w name ≡ Some f → (below : List Frame) × (frames_of w name ≡ f ∷ below)
found-frames w name f top = top-frames w name f (frames_of w name) refl top

awake-by : (p : Image) (name : Who) (f : Frame) (w : World) → Good p w → top_of w name ≡ Some f
    → ((c : CallNo) → (is_none f.onward && calls_part c (part_of f.mark)) ≡ false) → Awake name w
unfolding Awake
awake-by p name f w good top none c d waits e =
    let fs = found-frames w name f top in
    true≢false (sym (subst (λ gs. is_ending c gs ≡ true) fs.1 (good.ends name c d waits e)) ∙ none c)

second-false : (a : Bool) → (a && false) ≡ false
second-false true = refl
second-false false = refl

awake-going : (p : Image) (name : Who) (f : Frame) (s : StatementNo) (w : World) → Good p w → top_of w name ≡ Some f → f.onward ≡ Some s → Awake name w
awake-going p name f s w good top is = awake-by p name f w good top (λ c. ap (λ x. is_none x && calls_part c (part_of f.mark)) is)

pub awake-plain : (p : Image) (name : Who) (f : Frame) (w : World) → Good p w → top_of w name ≡ Some f → part_of f.mark ≡ None → Awake name w
awake-plain p name f w good top free = awake-by p name f w good top (λ c. ap (λ x. is_none f.onward && calls_part c x) free ∙ second-false (is_none f.onward))

-- ---- the end of a sequence with handlers

keeping-nature : (e : Raised) (mark : Mark) → nature (keeping e mark) ≡ nature mark
keeping-nature e (Scope m) = refl
keeping-nature e (Handled s) = refl
keeping-nature e (InProtected m) = refl
keeping-nature e (InAccept m) = refl
keeping-nature e (Abortable m) = refl
keeping-nature e (InInitialize l) = refl
keeping-nature e (InFinalize o) = refl
keeping-nature e (InAssign m) = refl

handle_or_pass-keeps : {E : Kind} (p : Image) (name : Who) (e : Raised) (onward : Option StatementNo) → Keeps E name (handle_or_pass p name e onward)
unfolding handle_or_pass
handle_or_pass-keeps p name e None = pass_on-keeps p name (how.Exception e)
handle_or_pass-keeps p name e (Some first) =
    then-keeps _ _ (changes-keeps _ (edit_top-alters name (λ f. with_mark (keeping e f.mark) f) (λ f. keeping-nature e f.mark))) (goes-keeps name (Some first))

behind_handled-keeps : {E : Kind} (p : Image) (name : Who) (s : StatementNo) (leaving : Leaving) → Keeps E name (behind_handled p name s leaving)
unfolding behind_handled
behind_handled-keeps p name s (how.Exception e) = handle_or_pass-keeps p name e _
behind_handled-keeps p name s how.End = nothing-keeps
behind_handled-keeps p name s how.Return = pass_on-keeps p name how.Return
behind_handled-keeps p name s (how.Exit loop) = pass_on-keeps p name (how.Exit loop)
behind_handled-keeps p name s how.Abort = pass_on-keeps p name how.Abort
behind_handled-keeps p name s how.Terminate = pass_on-keeps p name how.Terminate

end_handled-onward : (p : Image) (name : Who) (s : StatementNo) (leaving : Leaving) (f : Frame) (w : World) → Good p w → Awake name w → top_of w name ≡ Some f
    → part_of f.mark ≡ None → Onward p w (end_handled p name s leaving)
unfolding end_handled
end_handled-onward p name s leaving f w good awake top free =
    let out : Calm quiet_kind w (pop name w) = popped name f w refl awake top free in
    calm-onward {E = quiet_kind} _ w good
    (changes_then-from (pop name) _ w out (keeps-from _ (pop name w) (calm-awake w (pop name w) out name awake) (behind_handled-keeps p name s leaving)))

-- ---- the end of an abortable part

waiting-nature : (mark : Mark) → nature (edit_abortable waiting_mark mark) ≡ nature mark
waiting-nature (Scope m) = refl
waiting-nature (Handled s) = refl
waiting-nature (InProtected m) = refl
waiting-nature (InAccept m) = refl
waiting-nature (Abortable m) = refl
waiting-nature (InInitialize l) = refl
waiting-nature (InFinalize o) = refl
waiting-nature (InAssign m) = refl

abbrev left_waiting : Who → Leaving → World → World
left_waiting name leaving = edit_top name (λ f. with_mark (edit_abortable waiting_mark f.mark) (record f { left_as = Some leaving }))

left_waiting-quiets : {E : Kind} (name : Who) (leaving : Leaving) → Quiets E (left_waiting name leaving)
left_waiting-quiets name leaving =
    edit_top-quiets name (λ f. with_mark (edit_abortable waiting_mark f.mark) (record f { left_as = Some leaving })) (λ f. waiting-nature f.mark) (λ f h. h)

-- whoever has come to its end there begins to wait
ending-edited : (c : CallNo) (name : Who) (leaving : Leaving) (w : World) → is_ending c (frames_of w name) ≡ true
    → is_ending c (frames_of (left_waiting name leaving w) name) ≡ true
ending-edited c name leaving w h =
    task-edited name
    (λ t. record t { frames = edit_first (λ f. with_mark (edit_abortable waiting_mark f.mark) (record f { left_as = Some leaving })) t.frames }) w
    (λ t. refl)
    (λ m t u. is_ending c t.frames ≡ true → is_ending c u.frames ≡ true) (λ m k. k)
    (λ k. rests-natures c (λ f. with_mark (edit_abortable waiting_mark f.mark) (record f { left_as = Some leaving })) (λ f. waiting-nature f.mark) (λ f i. i)
    (frames_of w name) k) name h

wait_for_trigger-holds : (p : Image) (name : Who) (c : Call) (leaving : Leaving) (w : World) → Good p w → c.number.0 ≤ w.drawn.calls
    → is_ending c.number (frames_of w name) ≡ true → Holds p w (wait_for_trigger name c leaving)
unfolding wait_for_trigger block
wait_for_trigger-holds p name c leaving w good low ending =
    let v = left_waiting name leaving w in
    let calm : Calm any_kind w v = (left_waiting-quiets name leaving).at w in
    let good_v = calm-good p w v good calm in
    let low_v : c.number.0 ≤ v.drawn.calls = subst (λ n. c.number.0 ≤ n) (sym calm.drawn) low in
    let u = edit_task name (with_state (Blocked (waits_for.EndOfCall c.number))) v in
    let good_u : Good p u = waiting-good p name c.number v good_v low_v (ending-edited c.number name leaving w ending) in
    changes_then-holds (left_waiting name leaving) _ w
    (changes_then-holds (edit_task name (with_state (Blocked (waits_for.EndOfCall c.number)))) _ v
    (any-holds (says_block TheBlock name (waits_for.EndOfCall c.number)) u good_u
    (calms-any _ (says_block-calms TheBlock name (waits_for.EndOfCall c.number)))))

attempt_by-holds : (p : Image) (part : Part) (c : Call) (cancels stays : Step) (w : World) (b : Bool) → Holds p (unqueued p c w) cancels
    → Holds p (edit_call c.number (λ d. record d { attempted = true }) w) stays
    → Holds p w ((elim b as (λ _. Step) [
      | true ↦ changes (unqueued p c) ▷ says part (line.Cancel c.caller c.number)
      | false ↦ changes (edit_call c.number (λ d. record d { attempted = true }))
    ])
    ▷ elim b as (λ _. Step) [ true ↦ cancels | false ↦ stays ])
attempt_by-holds p part c cancels stays w true k l = record { leads = λ said. k.leads _ }
attempt_by-holds p part c cancels stays w false k l = record { leads = λ said. l.leads said }

attempt_with-holds : (p : Image) (part : Part) (c : Call) (cancels stays : Step) (w : World) → Holds p (unqueued p c w) cancels
    → Holds p (edit_call c.number (λ d. record d { attempted = true }) w) stays → Holds p w (attempt_with p part c cancels stays)
unfolding attempt_on
attempt_with-holds p part c cancels stays w k l = attempt_by-holds p part c cancels stays w (is_cancellable c) k l

dropped-frames : (test : Due → Bool) (w : World) (name : Who) → frames_of (drop_appointment test w) name ≡ frames_of w name
dropped-frames test w (who.Task n) = refl
dropped-frames test w who.Agent = refl

unqueued-frames : (p : Image) (c : Call) (w : World) (name : Who) → frames_of (unqueued p c w) name ≡ frames_of w name
unqueued-frames p c w name =
    dropped-frames (is_timeout_of c.number) (edit_queue c.owner (place_of_entry p c.entry) (take_call c.number) w) name
    ∙ queue-frames c.owner (place_of_entry p c.entry) (take_call c.number) w name

called-frames : (c : CallNo) (f : Call → Call) (w : World) (name : Who) → frames_of (edit_call c f w) name ≡ frames_of w name
called-frames c f w (who.Task n) = refl
called-frames c f w who.Agent = refl

drop_trigger-calm : {E : Kind} (name : Who) (depth : ℕ) (w : World) → Calm E w (drop_trigger name depth w)
drop_trigger-calm (who.Task t) depth w = drop_appointment-calm (is_trigger_of t depth) w
drop_trigger-calm who.Agent depth w = unchanged-quiets.at w

drop_trigger-frames : (name : Who) (depth : ℕ) (w : World) (me : Who) → frames_of (drop_trigger name depth w) me ≡ frames_of w me
drop_trigger-frames (who.Task t) depth w me = dropped-frames (is_trigger_of t depth) w me
drop_trigger-frames who.Agent depth w me = refl

drop_trigger-none : (name : Who) (depth : ℕ) (w : World) (n : TaskNo) → name ≡ who.Task n
    → is_appointed (is_trigger_of n depth) (drop_trigger name depth w) ≡ true → ⊥
drop_trigger-none (who.Task t) depth w n is set =
    true≢false (sym set
    ∙ subst (λ m. is_appointed (is_trigger_of m depth) (drop_appointment (is_trigger_of t depth) w) ≡ false) (same t n is)
    (dropped-none (is_trigger_of t depth) w)) where
      same : (a b : TaskNo) → who.Task a ≡ who.Task b → a ≡ b
      same a b e = cc
drop_trigger-none who.Agent depth w n is set = apart n is where
  apart : (n : TaskNo) → who.Agent ≡ who.Task n → ⊥
  apart n e = cc

module _ (p : Image) (name : Who) (m : AbortableMark) (leaving : Leaving) (f : Frame) (rest : List Frame) (w : World) (good : Good p w)
    (top : frames_of w name ≡ f ∷ rest) (mark : f.mark ≡ Abortable m) (onward : f.onward ≡ None) where
  below-length : below (f ∷ rest) ≡ length rest
  below-length = omega arith

  ended-here : (c : CallNo) → m.call ≡ Some c → is_ending c (frames_of w name) ≡ true
  ended-here c call =
      subst (λ fs. is_ending c fs ≡ true) (sym top)
      (ap (λ x. is_none x && calls_part c (part_of f.mark)) onward
      ∙ (ap (λ x. calls_part c (part_of x)) mark ∙ (ap (λ x. is_the same_call x c) call ∙ eq-eqb c.0 c.0 refl)))

  moment-holds : m.call ≡ None → Holds p w (looks (λ v. changes (drop_trigger name (below (frames_of v name)))) ▷ end_top p name)
  moment-holds none =
      let depth = below (frames_of w name) in
      let v = drop_trigger name depth w in
      let calm : Calm any_kind w v = drop_trigger-calm name depth w in
      let same : depth ≡ length rest = ap below top ∙ below-length in
      record {
        leads =
            λ said. ((moment-onward p name f rest m mark v (calm-good p w v good calm) (drop_trigger-frames name depth w name ∙ top) none
            (λ n is set. drop_trigger-none name depth w n is (subst (λ k. is_appointed (is_trigger_of n k) v ≡ true) (sym same) set))).leads said).good;
      }

  called-holds : (c : CallNo) → m.call ≡ Some c → Holds p w (with_call c (λ d. attempt_with p Own d (end_top p name) (wait_for_trigger name d leaving)))
  called-holds c call =
      looks_at-holds (λ v. for_some (call_of v c) (λ d. attempt_with p Own d (end_top p name) (wait_for_trigger name d leaving))) w
      (by_found (call_of w c) refl) where
        by_found : (found : Option Call) → call_of w c ≡ found
            → Holds p w (for_some found (λ d. attempt_with p Own d (end_top p name) (wait_for_trigger name d leaving)))
        by_found None is = record { leads = λ said. good }
        by_found (Some d) is =
            let number = found-number c w d is in
            let u = unqueued p d w in
            let calm : Calm any_kind w u = unqueued-calm p d w in
            let good_u = calm-good p w u good calm in
            let v = edit_call d.number (λ x. record x { attempted = true }) w in
            let second : Calm any_kind w v = (edit_call-quiets d.number (λ x. record x { attempted = true }) attempted-same).at w in
            attempt_with-holds p Own d (end_top p name) (wait_for_trigger name d leaving) w
            (onward-holds _ u
            (cancelled-onward p name f rest m mark u c good_u (unqueued-frames p d w name ∙ top) call
            (subst (λ n. Out n u) number (unqueued-out p d w good (found-directed c w d is)))))
            (wait_for_trigger-holds p name d leaving v (calm-good p w v good second) (subst (λ n. n.0 ≤ w.drawn.calls) (sym number) (good.known c d is))
            (subst (λ n. is_ending n (frames_of v name) ≡ true) (sym number)
            (subst (λ fs. is_ending c fs ≡ true) (sym (called-frames d.number (λ x. record x { attempted = true }) w name)) (ended-here c call))))

  end_abortable_by-holds : Holds p w (end_abortable_by p name m leaving)
  unfolding end_abortable_by
  end_abortable_by-holds = by_call m.call refl where
    by_call : (call : Option CallNo) → m.call ≡ call
        → Holds p w (elim call as (λ _. Step) [
          | None ↦ looks (λ v. changes (drop_trigger name (below (frames_of v name)))) ▷ end_top p name
          | Some c ↦ with_call c (λ d. attempt_with p Own d (end_top p name) (wait_for_trigger name d leaving))
        ])
    by_call None is = moment-holds is
    by_call (Some c) is = called-holds c is

  end_in_abortable-holds : Holds p w (end_in_abortable p name m leaving)
  unfolding end_in_abortable
  end_in_abortable-holds = by_test m.triggered refl where
    by_test : (b : Bool) → m.triggered ≡ b → Holds p w (cond b (end_top p name) (end_abortable_by p name m leaving))
    by_test true is = onward-holds _ w (triggered-onward p name f rest m mark w good top is)
    by_test false is = end_abortable_by-holds

-- ---- a statement

call_main-keeps : {E : Kind} (p : Image) (name : Who) (s : StatementNo) → Keeps E name (call_main p name s)
unfolding call_main
call_main-keeps p name s = search (with_room-keeps, goes-keeps, then-keeps, looks-keeps, changes-keeps, open_scope-alters)

call-acts : (p : Image) (name : Who) (s : StatementNo) (callee : Callee) (actuals : List Actual) (to : Destination)
    → Acts p name (call p name s callee actuals to)
unfolding call
call-acts p name s (callee.Subprogram f) actuals to = keeps-acts _ (call_subprogram-keeps p name s f actuals to)
call-acts p name s (callee.Operation d f) actuals to = call_operation-acts p name s d f actuals to
call-acts p name s (callee.OwnOperation f) actuals to = keeps-acts _ (call_own_operation-keeps p name s f actuals to)

act_statement-acts : (p : Image) (name : Who) (s : StatementNo) (form : StatementForm) → Acts p name (act_statement p name s form)
unfolding act_statement
act_statement-acts p name s (form.Declare object) = keeps-acts _ (declare-keeps p name s object)
act_statement-acts p name s (form.Initialize object) = keeps-acts _ (initialize-keeps p name s object)
act_statement-acts p name s (form.CreateTask object part) = keeps-acts _ (create-keeps p name s object part)
act_statement-acts p name s (form.Activate part) = activate-acts p name s part
act_statement-acts p name s form.EndActivation = keeps-acts _ (end_own_activation-keeps p name s)
act_statement-acts p name s form.CallMain = keeps-acts _ (call_main-keeps p name s)
act_statement-acts p name s (form.Handled handlers first) = keeps-acts _ nothing-keeps
act_statement-acts p name s form.Null = keeps-acts _ (null-keeps p name s)
act_statement-acts p name s (form.Assign target e) = keeps-acts _ (assign-keeps p name s target e)
act_statement-acts p name s (form.AssignArray target source) = keeps-acts _ (assign_array-keeps p name s target source)
act_statement-acts p name s (form.AssignControlled target source) = keeps-acts _ (assign_controlled-keeps p name s target source)
act_statement-acts p name s (form.If condition first otherwise) = keeps-acts _ (if_statement-keeps p name condition first otherwise)
act_statement-acts p name s (form.Case selector alternatives) = keeps-acts _ (case_statement-keeps p name selector alternatives)
act_statement-acts p name s (form.Loop body within) = keeps-acts _ (goes-keeps name (Some body))
act_statement-acts p name s (form.While condition body within) = keeps-acts _ (while_turn-keeps p name s condition body)
act_statement-acts p name s (form.For parameter reverse low high turn within) = keeps-acts _ (for_bounds-keeps p name parameter reverse low high turn)
act_statement-acts p name s (form.FirstTurn parameter reverse body) = keeps-acts _ (first_turn-keeps p name s parameter reverse body)
act_statement-acts p name s (form.LaterTurn parameter reverse body) = keeps-acts _ (later_turn-keeps p name s parameter reverse body)
act_statement-acts p name s (form.Exit condition of_loop) = keeps-acts _ (exit_statement-keeps p name s of_loop condition)
act_statement-acts p name s (form.Block scope) = keeps-acts _ (block_statement-keeps p name s scope)
act_statement-acts p name s form.Return = keeps-acts _ (return-keeps name)
act_statement-acts p name s (form.ReturnValue function e) = keeps-acts _ (return_value-keeps p name function e)
act_statement-acts p name s (form.Raise e) = keeps-acts _ (raises-keeps Own name e)
act_statement-acts p name s (form.RaiseAgain scope) = keeps-acts _ (raise_again-keeps p name scope)
act_statement-acts p name s (form.Delay e) = keeps-acts _ (sees-keeps p name _ (λ q. delay_until-keeps p name s (relative_moment q e)))
act_statement-acts p name s (form.DelayUntil e) = keeps-acts _ (sees-keeps p name _ (λ q. delay_until-keeps p name s (moment q e)))
act_statement-acts p name s (form.Call callee actuals to) = call-acts p name s callee actuals to
act_statement-acts p name s (form.PutLine pieces) = keeps-acts _ (put_line-keeps p name s pieces)
act_statement-acts p name s (form.EntryCall entry owner actuals) = entry_call-acts p name call_kind.Plain s
act_statement-acts p name s (form.ConditionalCall call otherwise) = entry_call-acts p name call_kind.Conditional s
act_statement-acts p name s (form.TimedCall call delay) = entry_call-acts p name call_kind.Timed s
act_statement-acts p name s (form.AsynchronousSelect trigger abortable) = asynchronous_select-acts p name s trigger
act_statement-acts p name s (form.Accept entry scope) = accept-acts p name s entry
act_statement-acts p name s (form.SelectiveAccept alternatives otherwise) = selective_accept-acts p name s alternatives otherwise
act_statement-acts p name s (form.Abort tasks) = abort_statement-acts p name s tasks
act_statement-acts p name s (form.Requeue entry owner with_abort) = keeps-acts _ (requeue-keeps p name entry owner with_abort)
act_statement-acts p name s (form.SetEvent event set handler) = keeps-acts _ (set_event-keeps p name s event set handler)
act_statement-acts p name s (form.CancelEvent event cancelled) = keeps-acts _ (cancel_event-keeps p name s event cancelled)
act_statement-acts p name s (form.SetTimer timer set handler) = keeps-acts _ (set_timer-keeps p name s timer set handler)
act_statement-acts p name s (form.CancelTimer timer cancelled) = keeps-acts _ (cancel_timer-keeps p name s timer cancelled)
act_statement-acts p name s (form.AddTask budget task) = keeps-acts _ (add_member-keeps p name s budget task)
act_statement-acts p name s (form.RemoveTask budget task) = keeps-acts _ (remove_member-keeps p name s budget task)
act_statement-acts p name s (form.Replenish budget to) = keeps-acts _ (replenish-keeps p name s budget to)
act_statement-acts p name s (form.AddToBudget budget interval) = keeps-acts _ (add_to_budget-keeps p name s budget interval)
act_statement-acts p name s (form.SetBudget budget handler) = keeps-acts _ (set_budget-keeps p name s budget handler)
act_statement-acts p name s (form.CancelBudget budget cancelled) = keeps-acts _ (cancel_budget-keeps p name s budget cancelled)
act_statement-acts p name s (form.SetPriority priority task) = set_priority-acts p name s priority task
act_statement-acts p name s (form.SetQuantum level quantum) = set_quantum-acts p name s level quantum
act_statement-acts p name s (form.SetDeadline deadline task) = set_deadline_of-acts p name s deadline task
act_statement-acts p name s (form.DelayUntilAndSetDeadline until offset) = keeps-acts _ (delay_and_set_deadline-keeps p name s until offset)

-- ---- or the end of the mark on top

own-top : (name : Who) (c : CallNo) (n : Nature) (ns : List Nature) → n.own ≡ Some c → some_nature (has_own c) (n ∷ ns) ≡ true
own-top name c n ns is = or_left (has_own c n) (some_nature (has_own c) ns) (ap (λ x. is_the same_call x c) is ∙ eq-eqb c.0 c.0 refl)

end_mark-holds : (p : Image) (name : Who) (f : Frame) (mark : Mark) (w : World) → Good p w → top_of w name ≡ Some f → f.mark ≡ mark → f.onward ≡ None
    → Holds p w (end_mark p name f mark)
unfolding end_mark
end_mark-holds p name f (Scope m) w good top is onward =
    onward-holds _ w
    (end_scope_mark-onward p name m (leaving_of f) f w good (awake-plain p name f w good top (ap part_of is)) (drawn-of_top p name f w good top) top is)
end_mark-holds p name f (Handled s) w good top is onward =
    onward-holds _ w (end_handled-onward p name s (leaving_of f) f w good (awake-plain p name f w good top (ap part_of is)) top (ap part_of is))
end_mark-holds p name f (InProtected m) w good top is onward =
    let fs = found-frames w name f top in
    onward-holds _ w (end_in_protected-onward p name m (leaving_of f) w f fs.0
    record {
      good = good;
      awake = awake-plain p name f w good top (ap part_of is);
      drawn = drawn-of_top p name f w good top;
      top = ap (λ gs. top_waits (natures gs)) fs.1 ∙ ap (λ x. awaits_part (part_of x)) is;
      own =
          λ c e. good.owns name c
          (subst (λ gs. some_nature (has_own c) (natures gs) ≡ true) (sym fs.1) (own-top name c (nature f.mark) (natures fs.0) (ap own_in is ∙ e)));
    } fs.1 is)
end_mark-holds p name f (InAccept m) w good top is onward =
    let fs = found-frames w name f top in
    onward-holds _ w (end_in_accept-onward p name m (leaving_of f) w f fs.0 good (awake-plain p name f w good top (ap part_of is)) fs.1 is)
end_mark-holds p name f (Abortable m) w good top is onward =
    let fs = found-frames w name f top in
    end_in_abortable-holds p name m (leaving_of f) f fs.0 w good fs.1 is onward
end_mark-holds p name f (InInitialize l) w good top is onward =
    onward-holds _ w
    (calm-onward {E = quiet_kind} _ w good
    (end_in_initialize-from p name l (leaving_of f) f w (awake-plain p name f w good top (ap part_of is)) top (ap part_of is)))
end_mark-holds p name f (InFinalize o) w good top is onward =
    onward-holds _ w
    (calm-onward {E = quiet_kind} _ w good
    (end_in_finalize-from p name (leaving_of f) f w (awake-plain p name f w good top (ap part_of is)) top (ap part_of is)))
end_mark-holds p name f (InAssign m) w good top is onward =
    onward-holds _ w
    (calm-onward {E = quiet_kind} _ w good (end_in_assign-from p name m f.left_as f w (awake-plain p name f w good top (ap part_of is)) top (ap part_of is)))

act_frame-holds : (p : Image) (name : Who) (f : Frame) (onward : Option StatementNo) (w : World) → Good p w → top_of w name ≡ Some f → f.onward ≡ onward
    → Holds p w (act_frame p name f onward)
unfolding act_frame
act_frame-holds p name f (Some s) w good top is =
    onward-holds _ w
    (acts-onward _ w good (awake-going p name f s w good top is) (drawn-of_top p name f w good top) (act_statement-acts p name s (form_of p s)))
act_frame-holds p name f None w good top is = end_mark-holds p name f f.mark w good top refl is

-- ---- who has no rest: it has no mark, so it has come to the end of none

awake-empty : (p : Image) (name : Who) (w : World) → Good p w → top_of w name ≡ None → Awake name w
unfolding Awake
awake-empty p name w good top c d waits e = by_frames (frames_of w name) refl (good.ends name c d waits e) where
  some-none : (f : Frame) → Some f ≡ None → ⊥
  some-none f e = cc

  by_frames : (fs : List Frame) → frames_of w name ≡ fs → is_ending c fs ≡ true → ⊥
  by_frames [] is h = true≢false (sym h)
  by_frames (f ∷ fs) is h = some-none f (ap first_of (sym is) ∙ top)

act_without-holds : (p : Image) (name : Who) (release : Option Release) (w : World) → Good p w → Awake name w → Holds p w (act_without p name release)
unfolding act_without
act_without-holds p name None w good awake = record { leads = λ said. good }
act_without-holds p who.Agent (Some r) w good awake = onward-holds _ w (calm-onward {E = quiet_kind} _ w good (keeps-from _ w awake (call_handler-keeps p r)))
act_without-holds p (who.Task t) (Some r) w good awake = record { leads = λ said. good }

act_top-holds : (p : Image) (name : Who) (found : Option Frame) (w : World) → Good p w → top_of w name ≡ found → Holds p w (act_top p name found)
unfolding act_top
act_top-holds p name None w good is =
    looks_at-holds (λ v. act_without p name v.serving) w (act_without-holds p name w.serving w good (awake-empty p name w good is))
act_top-holds p name (Some f) w good is = act_frame-holds p name f f.onward w good is refl

act-holds : (p : Image) (name : Who) (w : World) → Good p w → Holds p w (act p name)
unfolding act
act-holds p name w good = looks_at-holds (λ v. act_top p name (top_of v name)) w (act_top-holds p name (top_of w name) w good refl)

-- ---- and what it brings about elsewhere

runnable-waits : (s : State) → is_runnable_state s ≡ true → waiting_in s ≡ None
runnable-waits Runnable h = refl
runnable-waits Made h = absurd (true≢false (sym h))
runnable-waits (Blocked waiting) h = absurd (true≢false (sym h))

runnable-is_awake : (name : Who) (w : World) → is_runnable (task_of w name) ≡ true → Awake name w
unfolding Awake
runnable-is_awake name w is c d waits e = none-waits c (sym (runnable-waits (task_of w name).state is) ∙ waits) where
  none-waits : (c : CallNo) → None ≡ waits_end c → ⊥
  none-waits c e = cc

open_if_ready-holds : (p : Image) (name : Who) (w : World) → Good p w → Holds p w (open_if_ready p name)
unfolding open_if_ready
open_if_ready-holds p name w good =
    looks_at-holds (λ v. when (is_runnable (task_of v name)) (open_sequence p Own name)) w (by_test (is_runnable (task_of w name)) refl) where
      by_test : (b : Bool) → is_runnable (task_of w name) ≡ b → Holds p w (when b (open_sequence p Own name))
      by_test true is = onward-holds _ w (calm-onward {E = quiet_kind} _ w good (keeps-from _ w (runnable-is_awake name w is) (open_sequence-keeps p Own name)))
      by_test false is = record { leads = λ said. good }

pub effect-holds : (p : Image) (name : Who) (w : World) → Good p w → Holds p w (effect p name)
unfolding effect
effect-holds p name w good =
    then-holds _ _ w
    (any-holds _ w good
    (calms-any _ (changes-calms _ (edit_task-quiets name (with_ticks None) (λ t. refl) (λ t. refl) (λ t. refl) (λ t. refl) (λ t. refl)))))
    (λ v good_v. then-holds _ _ v (act-holds p name v good_v)
    (λ u good_u. then-holds _ _ u (open_if_ready-holds p name u good_u)
    (λ x good_x. then-holds _ _ x (any-holds _ x good_x (calms-any _ (take_terminates-calms p name)))
    (λ y good_y. any-holds _ y good_y (unwind_all-any p name)))))
