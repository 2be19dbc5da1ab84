-- How calls end: the call is in no queue and is not served, and what is done for its caller is calm.
use Rattle.std.proofs.Common.{◌≡◌, ℕ, Bool, true, false, cond, ◌&&◌, eqb, List, [], ◌∷◌, Option, Some, None, refl, sym, subst, ap, ◌∙◌}
use Rattle.std.specs.Prelude.{Ok, Err}
use Rattle.std.proofs.lemmas.Bool.{eq-eqb, true≢false}
use Rattle.ann_base.specs.declared.identities.CallNo.{CallNo}
use Rattle.trace_text.specs.declared.events.Who.{Who}
use Rattle.trace_text.specs.declared.events.Who.TheVariants as who
use Rattle.profile_image.specs.declared.image.Image.{Image}
use Rattle.profile_image.specs.declared.numbers.StatementNo.{StatementNo}
use Rattle.profile_machine.specs.declared.run_data.Leaving.TheVariants as how
use Rattle.profile_image.specs.declared.values.Value.{Value}
use Rattle.profile_machine.specs.declared.world.World.{World}
use Rattle.profile_machine.specs.declared.world.lines.Line.TheVariants as line
use Rattle.profile_machine.specs.declared.world.lines.Part.{Part}
use Rattle.profile_machine.specs.declared.world.marks.Frame.{Frame}
use Rattle.profile_machine.specs.declared.world.calls.Call.{Call}
use Rattle.profile_machine.specs.declared.world.calls.Outcome.{Outcome}
use Rattle.profile_machine.specs.declared.world.calls.Outcome.TheVariants as call_ended
use Rattle.profile_machine.specs.declared.world.scopes.Variable.{Variable}
use Rattle.profile_machine.specs.declared.world.tasks.State.{State}
use Rattle.profile_machine.specs.declared.world.tasks.State.TheVariants.{Made, Runnable, Blocked}
use Rattle.profile_machine.specs.declared.world.tasks.Task.{Task}
use Rattle.profile_machine.specs.declared.world.tasks.Waiting.{Waiting}
use Rattle.profile_machine.specs.declared.world.tasks.Waiting.TheVariants as waits_for
use Rattle.profile_machine.specs.Operators.{Valued}
use Rattle.profile_machine.specs.Steps.{Step, says, changes, when, nothing, ◌▷◌}
use Rattle.profile_machine.specs.Tasks.{task_of, edit_task, with_state, with_ticks, waiting_of, waiting_in}
use Rattle.profile_image.specs.Program.{edf_low, is_robin_level}
use Rattle.std.specs.Prelude.{slice_index_or}
use Rattle.world_laws.proofs.Counts.NumberedLists as numbered
use Rattle.line_laws.proofs.Exits.TaskEdits as edits_of
use Rattle.profile_machine.specs.Dispatching.{active, level_kept_by, granted, ready, keep_level, grant_quantum, to_tail, says_ready}
use Rattle.profile_machine.specs.Frames.{frames_of}
use Rattle.profile_machine.specs.Calls.{call_of, edit_call, forget_call, unqueued, is_cancellable, attempt_on, attempt_with}
use Rattle.profile_machine.specs.Unwinding.{struck_frame, edit_last, strike_outermost, may_unwind, leave_by_abort}
use Rattle.profile_machine.specs.Unwinding.{stop_waiting, wake_and_leave, unwind_blocked, unwind_in, unwind}
use Rattle.profile_machine.specs.CallEnds.{go_by_outcome, onward_when_done, onward_when_cancelled, resume, store, or_stored, copy_back, with_results}
use Rattle.world_laws.proofs.Queues.CallChanges.{Directed, forget_call-calm, unqueued-calm, unqueued-out}
use Rattle.world_laws.proofs.Queues.CallLists.{call_number}
use Rattle.world_laws.proofs.Queues.Calming.{task-edited}
use Rattle.world_laws.proofs.Queues.Kept.Combinators.{Calms, From, Gives, Keeps, Quiets, calms-from, changes-calms, changes-from, looks_at-from}
use Rattle.world_laws.proofs.Queues.Kept.Combinators.{nothing-from, stays-calm, then-after, then-calms, then-from, when-from, with_call-from}
use Rattle.world_laws.proofs.Queues.Kept.Frames.{Same, drop_delay-quiets, edit_call-quiets, edit_task-quiets, goes-keeps, grant_quantum-quiets}
use Rattle.world_laws.proofs.Queues.Kept.Frames.{keep_level-quiets, leaves-calms, leaves-keeps, raises-keeps, ready-calms, runnable-quiets, store-gives}
use Rattle.world_laws.proofs.Queues.Softening.{marks-calm}
use Rattle.world_laws.proofs.Queues.Standing.{Awake, Calm, Good, Kind, Out, any_kind, calm-awake, calm-good, calm-then, is_ending, nature, natures, waits_end}
use Rattle.world_laws.proofs.Queues.Listed.{none-waits}

-- ---- cancellation is attempted

pub attempted-same : Same (λ d. record d { attempted = true })
attempted-same = record {
  number = λ d. refl;
  owner = λ d. refl;
  entry = λ d. refl;
  caller = λ d. refl;
  begun = λ d. refl;
  outcome = λ d. refl;
  firm = λ d. refl;
}

same-record : (c : Call) (w : World) → call_of w c.number ≡ Some c → Directed c w
same-record c w is o k h d e = let one : d ≡ c = some-one d c (sym e ∙ is) in (ap (λ (x : Call). x.owner) one, ap (λ (x : Call). x.entry) one) where
  some-one : (a b : Call) → Some a ≡ Some b → a ≡ b
  some-one a b e = cc

-- a call that is found has the number by which it was
pub found-number : (c : CallNo) (w : World) (d : Call) → call_of w c ≡ Some d → d.number ≡ c
found-number c w d is = ap (λ (n : ℕ). record { 0 = n }) (numbered.found-key call_number c.0 w.calls d is)

pub found-directed : (c : CallNo) (w : World) (d : Call) → call_of w c ≡ Some d → Directed d w
found-directed c w d is = same-record d w (subst (λ n. call_of w n ≡ Some d) (sym (found-number c w d is)) is)

-- where it cancels the call, that is in no queue any more
attempt-by : {E : Kind} (p : Image) (part : Part) (c : Call) (cancels stays : Step) (w : World) (b : Bool) → From E (unqueued p c w) cancels
    → ((v : World) → Calm E w v → From E v stays)
    → From E w ((elim b as (λ _. Step) [
      | true ↦ changes (unqueued p c) ▷ says part (line.Cancel c.caller c.number)
      | false ↦ changes (edit_call c.number (λ d. record d { attempted = true }))
    ])
    ▷ elim b as (λ _. Step) [ true ↦ cancels | false ↦ stays ])
attempt-by p part c cancels stays w true k l = record { leads = λ said. calm-then w (unqueued p c w) _ (unqueued-calm p c w) (k.leads _) }
attempt-by p part c cancels stays w false k l =
    then-after _ stays w (changes-from _ w ((edit_call-quiets c.number (λ d. record d { attempted = true }) attempted-same).at w)) l

pub attempt_with-from : {E : Kind} (p : Image) (part : Part) (c : Call) (cancels stays : Step) (w : World) → Good p w → Directed c w
    → (Good p (unqueued p c w) → Out c.number (unqueued p c w) → From E (unqueued p c w) cancels) → ((v : World) → Calm E w v → From E v stays)
    → From E w (attempt_with p part c cancels stays)
unfolding attempt_on
attempt_with-from p part c cancels stays w good directed k l =
    let out : Calm any_kind w (unqueued p c w) = unqueued-calm p c w in
    attempt-by p part c cancels stays w (is_cancellable c) (k (calm-good p w (unqueued p c w) good out) (unqueued-out p c w good directed)) l

-- ---- who is unwound

wake_and_leave-calms : {E : Kind} (p : Image) (part : Part) (name : Who) → Calms E (wake_and_leave p part name)
unfolding wake_and_leave stop_waiting leave_by_abort
wake_and_leave-calms p part name =
    then-calms _ _ (then-calms _ _ (changes-calms _ (drop_delay-quiets name)) (ready-calms p part name))
    (then-calms _ _ (changes-calms _ (edit_task-quiets name (with_ticks None) (λ t. refl) (λ t. refl) (λ t. refl) (λ t. refl) (λ t. refl)))
    (leaves-calms name how.Abort))

leave_by_abort-calms : {E : Kind} (name : Who) → Calms E (leave_by_abort name)
unfolding leave_by_abort
leave_by_abort-calms name =
    then-calms _ _ (changes-calms _ (edit_task-quiets name (with_ticks None) (λ t. refl) (λ t. refl) (λ t. refl) (λ t. refl) (λ t. refl)))
    (leaves-calms name how.Abort)

unwind_blocked-from : {E : Kind} (p : Image) (part : Part) (name : Who) (waiting : Waiting) (w : World) → ((x : CallNo) → E.stay x ≡ false) → Good p w
    → From E w (unwind_blocked p part name waiting)
unfolding unwind_blocked
unwind_blocked-from p part name (waits_for.Call c) w loose good =
    with_call-from c _ w (λ d is.
    attempt_with-from p part d (changes (forget_call c) ▷ wake_and_leave p part name) nothing w good (found-directed c w d is)
    (λ good_out out. let gone : Out c (unqueued p d w) = subst (λ n. Out n (unqueued p d w)) (found-number c w d is) out in
    then-after _ _ (unqueued p d w) (changes-from (forget_call c) (unqueued p d w) (forget_call-calm c (unqueued p d w) (loose c) gone))
    (λ v calm. calms-from _ v (wake_and_leave-calms p part name)))
    (λ v calm. nothing-from v))
unwind_blocked-from p part name (waits_for.EndOfCall c) w loose good = nothing-from w
unwind_blocked-from p part name waits_for.Activation w loose good = calms-from _ w (wake_and_leave-calms p part name)
unwind_blocked-from p part name waits_for.Moment w loose good = calms-from _ w (wake_and_leave-calms p part name)
unwind_blocked-from p part name (waits_for.Accept s) w loose good = calms-from _ w (wake_and_leave-calms p part name)
unwind_blocked-from p part name (waits_for.Select accepts delay terminate) w loose good = calms-from _ w (wake_and_leave-calms p part name)
unwind_blocked-from p part name (waits_for.Dependents r) w loose good = calms-from _ w (wake_and_leave-calms p part name)
unwind_blocked-from p part name waits_for.Release w loose good = nothing-from w

unwind_in-from : {E : Kind} (p : Image) (part : Part) (name : Who) (state : State) (w : World) → ((x : CallNo) → E.stay x ≡ false) → Good p w
    → From E w (unwind_in p part name state)
unfolding unwind_in
unwind_in-from p part name Made w loose good = nothing-from w
unwind_in-from p part name Runnable w loose good = calms-from _ w (leave_by_abort-calms name)
unwind_in-from p part name (Blocked waiting) w loose good = unwind_blocked-from p part name waiting w loose good

pub unwind-from : {E : Kind} (p : Image) (part : Part) (name : Who) (w : World) → ((x : CallNo) → E.stay x ≡ false) → Good p w → From E w (unwind p part name)
unfolding unwind
unwind-from p part name w loose good =
    looks_at-from (λ v. when (may_unwind (frames_of v name)) (unwind_in p part name (task_of v name).state)) w
    (when-from (may_unwind (frames_of w name)) _ w (λ is. unwind_in-from p part name (task_of w name).state w loose good))

last-natures : (fs : List Frame) → natures (edit_last struck_frame fs) ≡ natures fs
last-natures [] = refl
last-natures (x ∷ []) = refl
last-natures (x ∷ y ∷ rest) = ap (λ ns. nature x.mark ∷ ns) (last-natures (y ∷ rest))

last-ending : (c : CallNo) (fs : List Frame) → is_ending c fs ≡ true → is_ending c (edit_last struck_frame fs) ≡ true
last-ending c [] h = h
last-ending c (x ∷ []) h = h
last-ending c (x ∷ y ∷ rest) h = h

pub strike_outermost-quiets : {E : Kind} (name : Who) → Quiets E (strike_outermost name)
strike_outermost-quiets name = record { at = λ w. marks-calm name (edit_last struck_frame) w last-natures last-ending }

-- ---- somebody who becomes ready is awake, with the marks that it had

abbrev pub readied : Image → Who → World → World
readied p name w = grant_quantum p name (keep_level p name (edit_task name (with_state Runnable) w))

pub readied-calm : {E : Kind} (p : Image) (name : Who) (w : World) → Calm E w (readied p name w)
readied-calm p name w =
    let one = edit_task name (with_state Runnable) w in
    let two = keep_level p name one in
    calm-then w one (readied p name w) ((runnable-quiets name).at w)
    (calm-then one two (readied p name w) ((keep_level-quiets p name).at one) ((grant_quantum-quiets p name).at two))

pub ready_then-from : {E : Kind} (p : Image) (part : Part) (name : Who) (g : Step) (w : World) → From E (readied p name w) g → From E w (ready p part name ▷ g)
unfolding ready to_tail says_ready
ready_then-from p part name g w k = record { leads = λ said. calm-then w (readied p name w) _ (readied-calm p name w) (k.leads _) }

runnable-waiting : (name : Who) (w : World) → waiting_of (edit_task name (with_state Runnable) w) name ≡ None
runnable-waiting (who.Task n) w =
    edits_of.edited_to (λ u. Unit {0}) (λ u. waiting_in u.state ≡ None) (who.Task n) (who.Task n) (with_state Runnable) w (λ u. refl)
    (λ same u h. refl) (λ apart u h. absurd (true≢false (sym (eq-eqb n.0 n.0 refl) ∙ apart))) (λ h. refl) tt
runnable-waiting who.Agent w = refl

pub runnable-awake : (name : Who) (w : World) → Awake name (edit_task name (with_state Runnable) w)
unfolding Awake
runnable-awake name w c d is e = none-waits c (sym (runnable-waiting name w) ∙ is)

pub readied-awake : (p : Image) (name : Who) (w : World) → Awake name (readied p name w)
readied-awake p name w =
    let one = edit_task name (with_state Runnable) w in
    let two = keep_level p name one in
    let onward : Calm any_kind one (readied p name w) =
    calm-then one two (readied p name w) ((keep_level-quiets p name).at one) ((grant_quantum-quiets p name).at two) in
    calm-awake one (readied p name w) onward name (runnable-awake name w)

pub readied-unwaited : (p : Image) (name : Who) (w : World) (c : CallNo) → waiting_of (readied p name w) name ≡ waits_end c → ⊥
readied-unwaited p name w c is =
    let one = edit_task name (with_state Runnable) w in
    let two = keep_level p name one in
    let onward : Calm any_kind one (readied p name w) =
    calm-then one two (readied p name w) ((keep_level-quiets p name).at one) ((grant_quantum-quiets p name).at two) in
    none-waits c (sym (runnable-waiting name w) ∙ (onward.ends name c is).0)

granted-frames : (p : Image) (quanta : List ℕ) (t : Task) → (granted p quanta t).frames ≡ t.frames
granted-frames p quanta t = by_test (eqb (active p t) t.base && is_robin_level p t.base) where
  by_test : (b : Bool) → (cond b (record t { quantum = slice_index_or quanta t.base 0 }) t).frames ≡ t.frames
  by_test true = refl
  by_test false = refl

granted-who : (p : Image) (quanta : List ℕ) (t : Task) → (granted p quanta t).who ≡ t.who
granted-who p quanta t = by_test (eqb (active p t) t.base && is_robin_level p t.base) where
  by_test : (b : Bool) → (cond b (record t { quantum = slice_index_or quanta t.base 0 }) t).who ≡ t.who
  by_test true = refl
  by_test false = refl

pub readied-frames : (p : Image) (name : Who) (w : World) (me : Who) → frames_of (readied p name w) me ≡ frames_of w me
readied-frames p name w me =
    let one = edit_task name (with_state Runnable) w in
    let two = keep_level p name one in
    task-edited name (granted p two.quanta) two (granted-who p two.quanta) (λ m t u. u.frames ≡ t.frames) (λ m. refl)
    (granted-frames p two.quanta (task_of two name)) me
    ∙ task-edited name (λ t. record t { kept_level = level_kept_by p one t (edf_low p t.base) }) one (λ t. refl) (λ m t u. u.frames ≡ t.frames)
    (λ m. refl) refl me
    ∙ task-edited name (with_state Runnable) w (λ t. refl) (λ m t u. u.frames ≡ t.frames) (λ m. refl) refl me

-- ---- a caller goes on behind its call

pub go_by_outcome-keeps : {E : Kind} (p : Image) (part : Part) (name : Who) (s : StatementNo) (outcome : Outcome)
    → Keeps E name (go_by_outcome p part name s outcome)
unfolding go_by_outcome
go_by_outcome-keeps p part name s call_ended.Finished = goes-keeps name (onward_when_done p s)
go_by_outcome-keeps p part name s call_ended.Cancelled = goes-keeps name (onward_when_cancelled p s)
go_by_outcome-keeps p part name s (call_ended.ToRaise e) = raises-keeps part name e
go_by_outcome-keeps p part name s (call_ended.WasRaised e) = leaves-keeps name (how.Exception e)

pub resume-from : {E : Kind} (p : Image) (part : Part) (c : Call) (outcome : Outcome) (w : World) → E.stay c.number ≡ false → Out c.number w
    → Awake (who.Task c.caller) w → From E w (resume p part c outcome)
unfolding resume
resume-from p part c outcome w free out awake =
    then-from _ _ w awake (changes-from (forget_call c.number) w (forget_call-calm c.number w free out))
    (go_by_outcome-keeps p part (who.Task c.caller) c.statement outcome)

-- ---- results are copied back

or_stored-calm : {E : Kind} (result : Valued World) (again : World → World × Bool) (w : World) → Gives E w result → ((v : World) → Calm E v (again v).0)
    → Calm E w (or_stored w result again).0
or_stored-calm (Ok next) again w a b = calm-then w next (again next).0 a.world (b next)
or_stored-calm (Err e) again w a b = stays-calm w

copy_back-calm : {E : Kind} (p : Image) (results : List (Option Variable)) (values : List Value) (w : World) → Calm E w (copy_back p results values w).0
copy_back-calm p [] values w = stays-calm w
copy_back-calm p (None ∷ results) [] w = stays-calm w
copy_back-calm p (None ∷ results) (v ∷ values) w = copy_back-calm p results values w
copy_back-calm p (Some target ∷ results) [] w = stays-calm w
copy_back-calm p (Some target ∷ results) (v ∷ values) w =
    or_stored-calm (store p target v w) (copy_back p results values) w (store-gives p target v w) (copy_back-calm p results values)

pub with_results-calm : {E : Kind} (p : Image) (c : Call) (outcome : Outcome) (w : World) → Calm E w (with_results p c outcome w).0
with_results-calm p c call_ended.Finished w = copy_back-calm p c.results c.values w
with_results-calm p c call_ended.Cancelled w = stays-calm w
with_results-calm p c (call_ended.ToRaise e) w = stays-calm w
with_results-calm p c (call_ended.WasRaised e) w = stays-calm w
