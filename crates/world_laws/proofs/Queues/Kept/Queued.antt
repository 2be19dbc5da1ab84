-- Calls are queued, take new places and begin; base priorities and deadlines are set.
use Rattle.std.proofs.Common.{◌≡◌, ℕ, ℤ, Bool, true, false, not, ◌&&◌, inl, inr, ◌≤◌, eqb, List, Option, Some, None, refl, sym, subst, ap, ◌∙◌, option_map}
use Rattle.std.specs.Prelude.{is_none, find}
use Rattle.std.proofs.lemmas.Bool.{eq-eqb}
use Rattle.ann_base.specs.Results.{◌>>=◌}
use Rattle.ann_base.specs.declared.exceptions.Raised.TheVariants as exception
use Rattle.ann_base.specs.declared.identities.CallNo.{CallNo}
use Rattle.trace_text.specs.declared.events.Who.{Who}
use Rattle.trace_text.specs.declared.events.Who.TheVariants as who
use Rattle.profile_image.specs.declared.image.Image.{Image}
use Rattle.profile_image.specs.declared.image.Queuing.{Queuing}
use Rattle.profile_image.specs.declared.image.Queuing.TheVariants as queuing
use Rattle.profile_image.specs.declared.numbers.ExprNo.{ExprNo}
use Rattle.profile_image.specs.declared.numbers.StatementNo.{StatementNo}
use Rattle.profile_machine.specs.declared.world.World.{World}
use Rattle.profile_machine.specs.declared.world.calls.Call.{Call}
use Rattle.profile_machine.specs.declared.world.calls.Owner.{Owner}
use Rattle.profile_machine.specs.declared.world.calls.Owner.TheVariants as owned_by
use Rattle.profile_machine.specs.declared.world.lines.Line.TheVariants as line
use Rattle.profile_machine.specs.declared.world.lines.Part.{Part}
use Rattle.profile_machine.specs.declared.world.lines.Part.TheVariants.{ThePlacing}
use Rattle.profile_machine.specs.declared.world.lines.Part.TheVariants as of_part
use Rattle.profile_machine.specs.declared.world.tasks.State.{State}
use Rattle.profile_machine.specs.declared.world.tasks.State.TheVariants.{Made, Runnable, Blocked}
use Rattle.profile_machine.specs.declared.world.tasks.Task as world_task
use Rattle.profile_machine.specs.declared.world.tasks.Waiting.{Waiting}
use Rattle.profile_image.specs.Words.{edit_at, edit_where}
use Rattle.profile_machine.specs.declared.world.lines.Said.{Said}
use Rattle.std.specs.List.{list_any}
use Rattle.profile_machine.specs.Steps.{goes_on_with}
use Rattle.profile_image.specs.Program.{next_of, has_edf, interrupt_priority}
use Rattle.profile_machine.specs.Steps.{Step, changes, when, for_some, ◌▷◌}
use Rattle.profile_machine.specs.Tasks.{task_of, edit_task, found_task}
use Rattle.profile_machine.specs.Dispatching.{active_of, to_tail}
use Rattle.profile_machine.specs.Frames.{in_protected, frames_of}
use Rattle.profile_machine.specs.Values.{value, moment, optional_task, whole_in, live_task, must_be_task}
use Rattle.profile_machine.specs.Appointments.{is_timeout_of}
use Rattle.profile_machine.specs.Calls.{is_call, call_of, edit_call, edit_queue, place_of_entry, put_call, take_call, enqueued, enqueue, unqueued}
use Rattle.profile_machine.specs.Masters.{part_of}
use Rattle.profile_machine.specs.Protected.{begun_call, begin_call}
use Rattle.profile_machine.specs.Priorities.{is_queued, with_priority, placed_anew, reprioritize, call_waited_for, reprioritize_own, replace_in, says_base}
use Rattle.profile_machine.specs.Priorities.{set_base, says_deadline, is_runnable_at_edf, set_deadline, take_base, take_deadline, set_deferred, placing_of}
use Rattle.profile_machine.specs.Priorities.{defer_base, set_or_defer_base, set_base_of, priority_in_range, set_priority, quantum_of, set_quantum}
use Rattle.profile_machine.specs.Priorities.{defer_deadline, set_or_defer_deadline, set_deadline_of, delay_with_deadline, delay_and_set_deadline}
use Rattle.profile_machine.specs.WellFormed.{same_owner}
use Rattle.world_laws.proofs.Queues.CallChanges.{Directed, Edits, edit_call-calm, edited_call-same, unqueued-calm, unqueued-out, unqueued-timed}
use Rattle.world_laws.proofs.Queues.Calming.{edit_task-calls, same-calm}
use Rattle.world_laws.proofs.Queues.Kept.CallEnds.{found-number}
use Rattle.world_laws.proofs.Queues.Kept.Combinators.{Calms, Keeps, any-keeps, branch-calms, changes-calms, looks-calms, nothing-calms}
use Rattle.world_laws.proofs.Queues.Kept.Combinators.{says-calms, sees-keeps, stays-calm, then-calms, then-keeps, when-calms}
use Rattle.world_laws.proofs.Queues.Kept.Frames.{Same, edit_call-quiets, edit_task-quiets, given-keeps, goes-keeps, raise_if-keeps, to_tail-calms}
use Rattle.world_laws.proofs.Queues.Kept.Onward.{Acts, Any, Onward, any-acts, branch-any, calms-any, changes-onward}
use Rattle.world_laws.proofs.Queues.Kept.Onward.{changes_then-onward, for_some-any, given-acts, keeps-acts, looks-any, nothing-any}
use Rattle.world_laws.proofs.Queues.Kept.Onward.{raise_if-acts, sees-acts, then-acts, then-any, when-any, when-onward, with_call-onward}
use Rattle.world_laws.proofs.Queues.Kept.Statements.{delay_to-keeps}
use Rattle.world_laws.proofs.Queues.Moving.{Begun, Next, calm-next, next-then, queue-frames, queued-next}
use Rattle.world_laws.proofs.Queues.Serving.{put-comes, put-stays, put_anew-comes, put_anew-stays}
use Rattle.world_laws.proofs.Queues.Standing.{Calm, Good, Idle, Kind, Out, any_kind, calm-good, calm-idle, calm-then, queued-idle, rightly}
use Rattle.machine_laws.proofs.Kept.Combinators.{world_behind}

abbrev pub all_may : Kind
all_may = any_kind

-- ---- a call that is out of every queue is queued

same-owner_self : (o : Owner) → same_owner o o ≡ true
same-owner_self (owned_by.Task t) = eq-eqb t.0 t.0 refl
same-owner_self (owned_by.Object o) = eq-eqb o.0 o.0 refl

queued-rightly : (p : Image) (d : Call) → d.begun ≡ false → is_none d.outcome ≡ true → rightly p d.owner (place_of_entry p d.entry) d ≡ true
queued-rightly p d begun outcome =
    subst (λ b. (not b && is_none d.outcome && same_owner d.owner d.owner && eqb (place_of_entry p d.entry) (place_of_entry p d.entry)) ≡ true) (sym begun)
    (subst (λ b. (b && same_owner d.owner d.owner && eqb (place_of_entry p d.entry) (place_of_entry p d.entry)) ≡ true) (sym outcome)
    (subst (λ b. (b && eqb (place_of_entry p d.entry) (place_of_entry p d.entry)) ≡ true) (sym (same-owner_self d.owner))
    (eq-eqb (place_of_entry p d.entry) (place_of_entry p d.entry) refl)))

unbegun-edits : (w : World) (c : CallNo) (x : Call) → Out c w → Idle c w → Edits all_may w c x (record x { begun = false })
unbegun-edits w c x out idle = record { directed = inl (refl, refl); firm = inl refl; caller = refl; outcome = λ h. h; steady = inr (refl, out, idle) }

abbrev unbegun : CallNo → World → World
unbegun c w = edit_call c (λ d. record d { begun = false }) w

unbegun-calm : (c : CallNo) (w : World) → Out c w → Idle c w → Calm all_may w (unbegun c w)
unbegun-calm c w out idle = edit_call-calm c (λ d. record d { begun = false }) w (λ d. refl) (λ x. unbegun-edits w c x out idle)

unbegun-there : (c : CallNo) (w : World) (d : Call) → call_of w c ≡ Some d → call_of (unbegun c w) c ≡ Some (record d { begun = false })
unbegun-there c w d is = edited_call-same c (λ x. record x { begun = false }) w (λ x. refl) ∙ ap (option_map (λ (x : Call). record x { begun = false })) is

pub enqueued-next : (p : Image) (d : Call) (w : World) → Good p w → call_of w d.number ≡ Some d → is_none d.outcome ≡ true → Out d.number w → Idle d.number w
    → Next p w (enqueued p d w)
enqueued-next p d w good is none out idle =
    let u = unbegun d.number w in
    let calm = unbegun-calm d.number w out idle in
    next-then p w u (enqueued p d w) (calm-next p w u good calm)
    (queued-next p d.owner (place_of_entry p d.entry) (put_call p.policies.queuing w d.number d.priority) d.number (record d { begun = false }) u
    (λ q x h. put-comes p.policies.queuing w d.number d.priority q x h) (λ q x h. put-stays p.policies.queuing w d.number d.priority q x h)
    (calm-good p w u good calm) (unbegun-there d.number w d is) (queued-rightly p (record d { begun = false }) refl none))

-- it is queued then
enqueued-calls : (p : Image) (d : Call) (w : World) → (enqueued p d w).calls ≡ (unbegun d.number w).calls
enqueued-calls p d w = by_owner d.owner where
  by_owner : (o : Owner)
      → (edit_queue o (place_of_entry p d.entry) (put_call p.policies.queuing w d.number d.priority) (unbegun d.number w)).calls ≡ (unbegun d.number w).calls
  by_owner (owned_by.Task t) = edit_task-calls (who.Task t) _ (unbegun d.number w)
  by_owner (owned_by.Object o) = refl

pub enqueued-there : (p : Image) (d : Call) (w : World) → call_of w d.number ≡ Some d → call_of (enqueued p d w) d.number ≡ Some (record d { begun = false })
enqueued-there p d w is = ap (λ ds. find (is_call d.number) ds) (enqueued-calls p d w) ∙ unbegun-there d.number w d is

-- a step behind it knows that it is queued, if it is there
abbrev pub QueuedIn : CallNo → World → Type 0
QueuedIn c w = (d : Call) → call_of w c ≡ Some d → is_queued d ≡ true

pub enqueue_then-onward : (p : Image) (c : CallNo) (g : Step) (w : World) → Good p w → Out c w → Idle c w
    → ((d : Call) → call_of w c ≡ Some d → is_none d.outcome ≡ true)
    → ((v : World) → Next p w v → QueuedIn c v → Idle c v → ((d : Call) → call_of w c ≡ Some d → Directed d v) → ((a : Who) → frames_of v a ≡ frames_of w a)
    → Onward p v g)
    → Onward p w (enqueue p c ▷ g)
unfolding enqueue
enqueue_then-onward p c g w good out idle none k = record { leads = λ said. by_found (call_of w c) refl said } where
  next-of : (d : Call) → call_of w c ≡ Some d → Next p w (enqueued p d w)
  next-of d is = let same = found-number c w d is in
      enqueued-next p d w good (subst (λ n. call_of w n ≡ Some d) (sym same) is) (none d is) (subst (λ n. Out n w) (sym same) out)
      (subst (λ n. Idle n w) (sym same) idle)

  there-of : (d : Call) → call_of w c ≡ Some d → call_of (enqueued p d w) c ≡ Some (record d { begun = false })
  there-of d is =
      let same = found-number c w d is in
      subst (λ n. call_of (enqueued p d w) n ≡ Some (record d { begun = false })) same (enqueued-there p d w (subst (λ n. call_of w n ≡ Some d) (sym same) is))

  calls-frames : (ds : List Call) (a : Who) → frames_of (record w { calls = ds }) a ≡ frames_of w a
  calls-frames ds (who.Task t) = refl
  calls-frames ds who.Agent = refl

  one-call : (a b : Call) → Some a ≡ Some b → a ≡ b
  one-call a b e = cc

  queued-of : (d : Call) → call_of w c ≡ Some d → QueuedIn c (enqueued p d w)
  queued-of d is x e = subst (λ (y : Call). is_queued y ≡ true) (one-call (record d { begun = false }) x (sym (there-of d is) ∙ e)) (none d is)

  directed-of : (d : Call) → call_of w c ≡ Some d → (x : Call) → call_of w c ≡ Some x → Directed x (enqueued p d w)
  directed-of d is x e o k h y f =
      let same : d ≡ x = one-call d x (sym is ∙ e) in
      let number : x.number ≡ c = found-number c w x e in
      let one : record d { begun = false } ≡ y =
      one-call (record d { begun = false }) y (sym (there-of d is) ∙ subst (λ n. call_of (enqueued p d w) n ≡ Some y) number f) in
      (ap (λ (z : Call). z.owner) (sym one) ∙ ap (λ (z : Call). z.owner) same, ap (λ (z : Call). z.entry) (sym one) ∙ ap (λ (z : Call). z.entry) same)

  none-call : (x : Call) → None ≡ Some x → ⊥
  none-call x e = cc

  by_found : (found : Option Call) → call_of w c ≡ found → (said : List Said)
      → Next p w (world_behind (goes_on_with g (for_some found (λ d. changes (enqueued p d)) w said)))
  by_found None is said =
      let stays : Next p w w = calm-next p w w good (stays-calm {E = all_may} w) in
      (k w stays (λ d e. absurd (none-call d (sym is ∙ e))) idle (λ d e. absurd (none-call d (sym is ∙ e))) (λ a. refl)).leads said
  by_found (Some d) is said =
      next-then p w (enqueued p d w) (world_behind (g (enqueued p d w) said)) (next-of d is)
      ((k (enqueued p d w) (next-of d is) (queued-of d is)
      (queued-idle p (enqueued p d w) c (record d { begun = false }) (next-of d is).good (there-of d is) (none d is)) (directed-of d is)
      (λ a. queue-frames d.owner (place_of_entry p d.entry) (put_call p.policies.queuing w d.number d.priority) (unbegun d.number w) a
      ∙ calls-frames (edit_where (is_call d.number) (λ (x : Call). record x { begun = false }) w.calls) a)).leads said)

-- ---- a call begins

abbrev pub begun_of : Image → Call → World → World
begun_of p c w = edit_call c.number begun_call (unqueued p c w)

begun-edits : (E : Kind) (u : World) (c : CallNo) (x : Call) → E.may c ≡ true → Out c u → Idle c u → Edits E u c x (begun_call x)
begun-edits E u c x may out idle = record { directed = inl (refl, refl); firm = inl refl; caller = refl; outcome = λ h. h; steady = inr (may, out, idle) }

pub begun-calm : {E : Kind} (p : Image) (c : Call) (w : World) → E.may c.number ≡ true → Good p w → Directed c w → Idle c.number w → Calm E w (begun_of p c w)
begun-calm {E = E} p c w may good directed idle =
    let u = unqueued p c w in
    let first : Calm E w u = unqueued-calm p c w in
    calm-then w u (begun_of p c w) first
    (edit_call-calm c.number begun_call u (λ d. refl)
    (λ x. begun-edits E u c.number x may (unqueued-out p c w good directed) (calm-idle w u first c.number idle)))

unqueued-calls : (p : Image) (c : Call) (w : World) → (unqueued p c w).calls ≡ w.calls
unqueued-calls p c w = by_owner c.owner where
  by_owner : (o : Owner) → (edit_queue o (place_of_entry p c.entry) (take_call c.number) w).calls ≡ w.calls
  by_owner (owned_by.Task t) = edit_task-calls (who.Task t) _ w
  by_owner (owned_by.Object o) = refl

pub begun-of : (p : Image) (c : Call) (w : World) → Good p w → Directed c w → Idle c.number w → c.number.0 ≤ w.drawn.calls
    → ((d : Call) → call_of w c.number ≡ Some d → is_none d.outcome ≡ true) → Begun c.number (begun_of p c w)
begun-of p c w good directed idle low none =
    let calm : Calm any_kind w (begun_of p c w) = begun-calm p c w refl good directed idle in
    record {
      idle = calm-idle w (begun_of p c w) calm c.number idle;
      low = subst (λ n. c.number.0 ≤ n) (sym calm.drawn) low;
      begun = λ d e. by_found (call_of (unqueued p c w) c.number) refl d (sym (edited_call-same c.number begun_call (unqueued p c w) (λ x. refl)) ∙ e);
      untimed = unqueued-timed p c w;
    } where
      by_found : (found : Option Call) → call_of (unqueued p c w) c.number ≡ found → (d : Call) → option_map begun_call found ≡ Some d
          → (d.begun ≡ true) × (is_none d.outcome ≡ true)
      by_found None is d e = cc
      by_found (Some x) is d e =
          let one : begun_call x ≡ d = cc in (
            ap (λ (y : Call). y.begun) (sym one),
            ap (λ (y : Call). is_none y.outcome) (sym one) ∙ none x (ap (λ ds. find (is_call c.number) ds) (sym (unqueued-calls p c w)) ∙ is),
          )

pub begin_then-onward : (p : Image) (part : Part) (name : Who) (c : Call) (g : Step) (w : World) → Good p w → Directed c w → Idle c.number w
    → (Good p (begun_of p c w) → Onward p (begun_of p c w) g) → Onward p w (begin_call p part name c ▷ g)
unfolding begin_call
begin_then-onward p part name c g w good directed idle k =
    let calm : Calm any_kind w (begun_of p c w) = begun-calm p c w refl good directed idle in
    record {
      leads = λ said. next-then p w (begun_of p c w) _ (calm-next p w (begun_of p c w) good calm) ((k (calm-good p w (begun_of p c w) good calm)).leads _);
    }

-- what begun stays so where calls and appointments do
pub begun-on : {E : Kind} (c : CallNo) (w v : World) → Calm E w v → v.calls ≡ w.calls → v.appointments ≡ w.appointments → Begun c w → Begun c v
begun-on c w v calm calls appointments begun = record {
  idle = calm-idle w v calm c begun.idle;
  low = subst (λ n. c.0 ≤ n) (sym calm.drawn) begun.low;
  begun = λ d e. begun.begun d (ap (λ ds. find (is_call c) ds) (sym calls) ∙ e);
  untimed = ap (λ xs. list_any (λ a. is_timeout_of c a.due) xs) appointments ∙ begun.untimed;
}

-- ---- a call takes a new place

priority-same : (level : ℕ) → Same (with_priority level)
priority-same level = record {
  number = λ d. refl;
  owner = λ d. refl;
  entry = λ d. refl;
  caller = λ d. refl;
  begun = λ d. refl;
  outcome = λ d. refl;
  firm = λ d. refl;
}

anew-next : (p : Image) (queuing : Queuing) (c d : Call) (level : ℕ) (w : World) → Good p w → call_of w c.number ≡ Some d → d.owner ≡ c.owner
    → d.entry ≡ c.entry → is_queued d ≡ true → Next p w (placed_anew queuing p c level w)
anew-next p queuing.Fifo c d level w good is owner entry queued = calm-next p w w good (stays-calm {E = all_may} w)
anew-next p queuing.Priority c d level w good is owner entry queued =
    queued-next p c.owner (place_of_entry p c.entry) (λ q. put_call queuing.Priority w c.number level (take_call c.number q)) c.number d w
    (λ q x h. put_anew-comes w c.number level q x h) (λ q x h. put_anew-stays w c.number level q x h) good is
    (subst (λ o. rightly p o (place_of_entry p c.entry) d ≡ true) owner
    (subst (λ e. rightly p d.owner (place_of_entry p e) d ≡ true) entry (right-of d queued))) where
      both : (a b e : Bool) → a ≡ true → b ≡ true → e ≡ true → (a && b && e) ≡ true
      both true true e x y z = z
      both true false e x y z = cc
      both false b e x y z = cc

      right-of : (d : Call) → is_queued d ≡ true → rightly p d.owner (place_of_entry p d.entry) d ≡ true
      right-of d h =
          both (is_queued d) (same_owner d.owner d.owner) (eqb (place_of_entry p d.entry) (place_of_entry p d.entry)) h (same-owner_self d.owner)
          (eq-eqb (place_of_entry p d.entry) (place_of_entry p d.entry) refl)

reprioritize-onward : (p : Image) (level : ℕ) (c : Call) (w : World) → Good p w → call_of w c.number ≡ Some c → Onward p w (reprioritize p level c)
unfolding reprioritize
reprioritize-onward p level c w good is =
    when-onward (is_queued c) _ w good (λ queued.
    let u = edit_call c.number (with_priority level) w in
    let calm : Calm all_may w u = (edit_call-quiets c.number (with_priority level) (priority-same level)).at w in
    changes_then-onward (edit_call c.number (with_priority level)) _ w (calm-next p w u good calm)
    (changes-onward (placed_anew p.policies.queuing p c level) u
    (anew-next p p.policies.queuing c (with_priority level c) level u (calm-good p w u good calm)
    (edited_call-same c.number (with_priority level) w (λ d. refl) ∙ ap (option_map (with_priority level)) is) refl refl queued)))

reprioritize_own-any : (p : Image) (name : Who) (waiting : Waiting) → Any p (reprioritize_own p name waiting)
unfolding reprioritize_own
reprioritize_own-any p name waiting =
    looks-any _ (λ v. for_some-any (call_waited_for waiting) _
    (λ c. record {
      from =
          λ w good. with_call-onward c (reprioritize p (active_of p v name)) w good
          (λ d is. reprioritize-onward p (active_of p v name) d w good (subst (λ n. call_of w n ≡ Some d) (sym (found-number c w d is)) is));
    }))

replace_in-any : (p : Image) (part : Part) (name : Who) (state : State) → Any p (replace_in p part name state)
unfolding replace_in
replace_in-any p part name Made = nothing-any
replace_in-any p part name Runnable = calms-any _ (to_tail-calms p part name)
replace_in-any p part name (Blocked waiting) = reprioritize_own-any p name waiting

plain-any : {p : Image} (name : Who) (f : world_task.Task → world_task.Task) → ((t : world_task.Task) → (f t).who ≡ t.who)
    → ((t : world_task.Task) → (f t).frames ≡ t.frames) → ((t : world_task.Task) → (f t).state ≡ t.state) → ((t : world_task.Task) → (f t).queues ≡ t.queues)
    → ((t : world_task.Task) → (f t).completed ≡ t.completed) → Any p (changes (edit_task name f))
plain-any name f named frames state queues completed = calms-any _ (changes-calms _ (edit_task-quiets name f named frames state queues completed))

says_base-any : {p : Image} (part : Part) (name : Who) (level : ℕ) → Any p (says_base part name level)
unfolding says_base
says_base-any part (who.Task t) level = calms-any _ (says-calms part (line.Base t level))
says_base-any part who.Agent level = nothing-any

set_base-any : (p : Image) (part placing : Part) (name : Who) (level : ℕ) → Any p (set_base p part placing name level)
unfolding set_base
set_base-any p part placing name level =
    then-any _ _ (plain-any name (λ t. record t { base = level }) (λ t. refl) (λ t. refl) (λ t. refl) (λ t. refl) (λ t. refl))
    (then-any _ _ (says_base-any part name level)
    (looks-any (λ w. replace_in p placing name (task_of w name).state) (λ w. replace_in-any p placing name (task_of w name).state)))

says_deadline-calms : {E : Kind} (part : Part) (name : Who) (d : ℤ) → Calms E (says_deadline part name d)
unfolding says_deadline
says_deadline-calms part (who.Task t) d = says-calms part (line.Deadline t d)
says_deadline-calms part who.Agent d = nothing-calms

set_deadline-calms : {E : Kind} (p : Image) (part placing : Part) (name : Who) (d : ℤ) → Calms E (set_deadline p part placing name d)
unfolding set_deadline
set_deadline-calms p part placing name d =
    then-calms _ _ (changes-calms _ (edit_task-quiets name (λ t. record t { deadline = d }) (λ t. refl) (λ t. refl) (λ t. refl) (λ t. refl) (λ t. refl)))
    (then-calms _ _ (says_deadline-calms part name d)
    (looks-calms (λ w. when (is_runnable_at_edf p w name (task_of w name).state) (to_tail p placing name))
    (λ w. when-calms (is_runnable_at_edf p w name (task_of w name).state) (to_tail p placing name) (to_tail-calms p placing name))))

take_base-any : (p : Image) (name : Who) (n : Option ℕ) → Any p (take_base p name n)
unfolding take_base
take_base-any p name None = nothing-any
take_base-any p name (Some level) =
    then-any _ _ (plain-any name (λ t. record t { deferred_base = None }) (λ t. refl) (λ t. refl) (λ t. refl) (λ t. refl) (λ t. refl))
    (set_base-any p ThePlacing ThePlacing name level)

take_deadline-any : (p : Image) (name : Who) (n : Option ℤ) → Any p (take_deadline p name n)
unfolding take_deadline
take_deadline-any p name None = nothing-any
take_deadline-any p name (Some d) =
    then-any _ _ (plain-any name (λ t. record t { deferred_deadline = None }) (λ t. refl) (λ t. refl) (λ t. refl) (λ t. refl) (λ t. refl))
    (calms-any _ (set_deadline-calms p ThePlacing ThePlacing name d))

pub set_deferred-any : (p : Image) (name : Who) → Any p (set_deferred p name)
unfolding set_deferred
set_deferred-any p name =
    looks-any
    (λ w. when (not (in_protected w name)) (take_base p name (task_of w name).deferred_base ▷ take_deadline p name (task_of w name).deferred_deadline))
    (λ w. when-any (not (in_protected w name)) _
    (then-any _ _ (take_base-any p name (task_of w name).deferred_base) (take_deadline-any p name (task_of w name).deferred_deadline)))

set_or_defer_base-any : (p : Image) (actor name : Who) (level : ℕ) → Any p (set_or_defer_base p actor name level)
unfolding set_or_defer_base defer_base
set_or_defer_base-any p actor name level =
    looks-any (λ w. elim (in_protected w name) as (λ _. Step) [
      | true ↦ changes (edit_task name (λ t. record t { deferred_base = Some level }))
      | false ↦ set_base p (part_of actor name) (placing_of actor name) name level
    ])
    (λ w. branch-any (in_protected w name) _ _
    (plain-any name (λ t. record t { deferred_base = Some level }) (λ t. refl) (λ t. refl) (λ t. refl) (λ t. refl) (λ t. refl))
    (set_base-any p (part_of actor name) (placing_of actor name) name level))

set_base_of-acts : (p : Image) (actor : Who) (s : StatementNo) (level : ℕ) (t : Option world_task.Task) → Acts p actor (set_base_of p actor s level t)
unfolding set_base_of
set_base_of-acts p actor s level None = keeps-acts _ (goes-keeps actor (next_of p s))
set_base_of-acts p actor s level (Some t) =
    raise_if-acts actor _ exception.Program _
    (then-acts _ _ (keeps-acts _ (goes-keeps actor (next_of p s))) (any-acts _ (set_or_defer_base-any p actor t.who level)))

pub set_priority-acts : (p : Image) (name : Who) (s : StatementNo) (e : ExprNo) (task : Option ExprNo) → Acts p name (set_priority p name s e task)
unfolding set_priority
set_priority-acts p name s e task =
    sees-acts p name _
    (λ q. given-acts of_part.Own name (optional_task q task >>= must_be_task) _
    (λ t. given-acts of_part.Own name (value q e >>= λ v. priority_in_range (interrupt_priority p) (whole_in v)) _
    (λ level. set_base_of-acts p name s level (found_task (who.Task t) q.world.tasks))))

pub set_quantum-acts : (p : Image) (name : Who) (s : StatementNo) (level quantum : ExprNo) → Acts p name (set_quantum p name s level quantum)
unfolding set_quantum
set_quantum-acts p name s level quantum =
    sees-acts p name _ (λ q. given-acts of_part.Own name (value q level) _ (λ v. given-acts of_part.Own name (moment q quantum) _ (λ n.
    given-acts of_part.Own name (priority_in_range p.policies.last_priority (whole_in v)) _ (λ l. given-acts of_part.Own name (quantum_of p l n) _ (λ ticks.
    then-acts _ _ (keeps-acts _ (goes-keeps name (next_of p s)))
    (any-acts _ (calms-any (changes (λ w. record w { quanta = edit_at l (λ _. ticks) w.quanta }))
    (changes-calms _ record {
      at = λ w. same-calm w (record w { quanta = edit_at l (λ _. ticks) w.quanta }) refl refl refl refl refl refl refl refl;
    }))))))))

set_or_defer_deadline-calms : {E : Kind} (p : Image) (actor name : Who) (d : ℤ) → Calms E (set_or_defer_deadline p actor name d)
unfolding set_or_defer_deadline defer_deadline
set_or_defer_deadline-calms p actor name d =
    looks-calms (λ w. elim (in_protected w name && has_edf p) as (λ _. Step) [
      | true ↦ changes (edit_task name (λ t. record t { deferred_deadline = Some d }))
      | false ↦ set_deadline p (part_of actor name) (placing_of actor name) name d
    ])
    (λ w. branch-calms (in_protected w name && has_edf p) _ _
    (changes-calms _ (edit_task-quiets name (λ t. record t { deferred_deadline = Some d }) (λ t. refl) (λ t. refl) (λ t. refl) (λ t. refl) (λ t. refl)))
    (set_deadline-calms p (part_of actor name) (placing_of actor name) name d))

pub set_deadline_of-acts : (p : Image) (name : Who) (s : StatementNo) (e : ExprNo) (task : Option ExprNo) → Acts p name (set_deadline_of p name s e task)
unfolding set_deadline_of
set_deadline_of-acts p name s e task =
    sees-acts p name _
    (λ q. given-acts of_part.Own name (optional_task q task >>= λ t. live_task q.world t) _ (λ t. given-acts of_part.Own name (moment q e) _ (λ d.
    then-acts _ _ (keeps-acts _ (goes-keeps name (next_of p s))) (any-acts _ (calms-any _ (set_or_defer_deadline-calms p name t.who d))))))

delay_with_deadline-keeps : {E : Kind} (p : Image) (name : Who) (s : StatementNo) (until offset : ℤ) → Keeps E name (delay_with_deadline p name s until offset)
unfolding delay_with_deadline
delay_with_deadline-keeps p name s until offset =
    then-keeps _ _ (goes-keeps name (next_of p s))
    (then-keeps _ _ (any-keeps _ (changes-calms _ (edit_task-quiets name _ (λ t. refl) (λ t. refl) (λ t. refl) (λ t. refl) (λ t. refl))))
    (then-keeps _ _ (any-keeps _ (says_deadline-calms of_part.Own name _)) (delay_to-keeps p name until)))

pub delay_and_set_deadline-keeps : {E : Kind} (p : Image) (name : Who) (s : StatementNo) (until offset : ExprNo)
    → Keeps E name (delay_and_set_deadline p name s until offset)
unfolding delay_and_set_deadline
delay_and_set_deadline-keeps p name s until offset =
    sees-keeps p name _
    (λ q. raise_if-keeps name (in_protected q.world name) exception.Program _
    (given-keeps of_part.Own name (moment q until) _ (λ m. given-keeps of_part.Own name (moment q offset) _ (λ o. delay_with_deadline-keeps p name s m o))))
