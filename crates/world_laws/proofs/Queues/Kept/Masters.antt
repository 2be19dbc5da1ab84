-- A task is completed: each call in its queues ends, its activation ends, and it is there no more (9.2, 9.3).
use Rattle.std.proofs.Common.{◌≡◌, ℕ, zero, suc, ◌≤◌, arith, Bool, true, false, cond, not, ◌&&◌, ◌||◌, ◌⊎◌, inl}
use Rattle.std.proofs.Common.{inr, ◌++◌, List, [], ◌∷◌, Option, Some, None, refl, sym, subst, ap, ◌∙◌, map}
use Rattle.std.specs.Prelude.{find, is_some}
use Rattle.std.specs.List.{cons_option, flat_map, list_any}
use Rattle.std.proofs.lemmas.Bool.{eq-eqb, or_left, or_right, true≢false}
use Rattle.ann_base.specs.declared.identities.CallNo.{CallNo}
use Rattle.ann_base.specs.declared.identities.RegionNo.{RegionNo}
use Rattle.ann_base.specs.declared.exceptions.Raised.TheVariants as exception
use Rattle.trace_text.specs.declared.events.Who.{Who}
use Rattle.trace_text.specs.declared.events.Who.TheVariants as who
use Rattle.profile_image.specs.declared.image.Image.{Image}
use Rattle.profile_machine.specs.declared.run_data.Leaving.TheVariants as how
use Rattle.profile_machine.specs.declared.world.World.{World}
use Rattle.profile_machine.specs.declared.world.calls.Call.{Call}
use Rattle.profile_machine.specs.declared.world.calls.Outcome.TheVariants as call_ended
use Rattle.profile_machine.specs.declared.world.calls.Owner.{Owner}
use Rattle.profile_machine.specs.declared.world.calls.Owner.TheVariants as owned_by
use Rattle.profile_machine.specs.declared.world.lines.Line.TheVariants as line
use Rattle.profile_machine.specs.declared.world.lines.Part.{Part}
use Rattle.profile_machine.specs.declared.world.lines.Said.{Said}
use Rattle.profile_machine.specs.declared.world.lines.Part.TheVariants.{OfOther}
use Rattle.profile_machine.specs.declared.world.tasks.Cause.TheVariants as inherited_by
use Rattle.profile_machine.specs.declared.world.tasks.State.TheVariants.{Runnable}
use Rattle.profile_machine.specs.declared.world.tasks.Task.{Task}
use Rattle.profile_image.specs.Words.{same_call, same_who, has}
use Rattle.profile_machine.specs.Steps.{Step, Done, done, goes_on_with, changes, when, for_each, for_some, ◌▷◌}
use Rattle.profile_machine.specs.Tasks.{task_at, task_of, edit_task, with_state, waiting_of}
use Rattle.profile_machine.specs.Dispatching.{ready}
use Rattle.profile_machine.specs.Frames.{frames_of, raises, open_sequence}
use Rattle.profile_machine.specs.Values.{queue_at}
use Rattle.profile_machine.specs.Appointments.{drop_delay, is_appointed, is_timeout_of}
use Rattle.profile_machine.specs.Calls.{is_call, call_of, unqueued}
use Rattle.profile_machine.specs.CallEnds.{end_call, gone}
use Rattle.profile_machine.specs.Masters.{part_of, put_call_in_order, is_call_before, calls_in_order, calls_there, queued_calls, gone_by_completion}
use Rattle.profile_machine.specs.Masters.{has_activating, with_failure, waits_for_activation, wake_activator, end_group, not_activating}
use Rattle.profile_machine.specs.Masters.{end_activation_by, end_activation, without_queued, completed_task, has_failed, complete_with, complete}
use Rattle.profile_machine.specs.Masters.{has_dependents, waits_for_dependents, wake_master, forget_task, terminate, leave_by_terminate}
use Rattle.world_laws.proofs.Queues.Arrivals.{forget_task-calm, Closed, calm-closed}
use Rattle.world_laws.proofs.Queues.CallChanges.{stands-where, unqueued-calm, unqueued-timed}
use Rattle.world_laws.proofs.Queues.CallLists.{at-some, in_queues, same-call}
use Rattle.world_laws.proofs.Queues.Calming.{StandsAt, edit_task-calls, edit_task-drawn, edit_task-fall, edit_task-objects}
use Rattle.world_laws.proofs.Queues.Calming.{found-appointments, named-edited, task-edited, unfirm-same}
use Rattle.world_laws.proofs.Queues.Kept.CallEnds.{found-directed, found-number, readied, readied-awake, ready_then-from}
use Rattle.world_laws.proofs.Queues.Kept.Combinators.{Calms, calms-from, changes-calms, for_some-calms, from-calms, looks-calms, nothing-calms}
use Rattle.world_laws.proofs.Queues.Kept.Combinators.{then-calms, then-from, when-calms, From, changes-from, stays-calm, then-after}
use Rattle.world_laws.proofs.Queues.Kept.Ends.{Leaves, Seen_if, Unwaited, end_call-leaves, unwaited-on}
use Rattle.world_laws.proofs.Queues.Kept.Frames.{drop_delay-quiets, edit_task-quiets, leaves-calms, lose-quiets}
use Rattle.world_laws.proofs.Queues.Kept.Frames.{open_sequence-keeps, raises-calms, ready-calms, runnable-quiets}
use Rattle.world_laws.proofs.Queues.Kept.Onward.{Any}
use Rattle.world_laws.proofs.Queues.Moving.{Next, calm-next, next-then, services-same}
use Rattle.world_laws.proofs.Queues.Serving.{Beside, Marks, call-is, call-was, good-by, low-is, marks-same, set-was}
use Rattle.world_laws.proofs.Queues.Standing.{Calm, Good, Idle, Kind, Out, Stands, any_kind, calm-good, calm-idle, calm-out, queued-idle, Awaited, Awake, Fall}
use Rattle.world_laws.proofs.Queues.Standing.{GoodBut, Open, Unfirm, calm-awake, calm-owns, calm-then, fewer-late, natures, none_late, quiet_kind, served_in}
use Rattle.line_laws.proofs.Exits.TaskEdits as edits_of
use Rattle.machine_laws.proofs.Kept.Combinators.{world_behind}

-- ---- one call of the queues ends, and the others stay

abbrev pub only : CallNo → Kind
only c = record { may = same_call c; steady = λ a. false; stay = λ x. not (same_call c x) }

abbrev all_stay : Kind
all_stay = record { may = λ c. false; steady = λ a. false; stay = λ c. true }

self : (c : CallNo) → same_call c c ≡ true
self c = eq-eqb c.0 c.0 refl

-- what is left of the calls that stood in the queues of the task
pub record Left (w0 w : World) (c : Call) : Type 0 where
  pub first : call_of w0 c.number ≡ Some c
  pub low : c.number.0 ≤ w.drawn.calls
  pub out : Out c.number w
  pub idle : Idle c.number w
  pub way : (is_some (call_of w c.number) ≡ true) ⊎ Unwaited c w

is-found : (found : Option Call) → is_some found ≡ true → (d : Call) × (found ≡ Some d)
is-found None e = absurd (true≢false (sym e))
is-found (Some d) e = (d, refl)

left-seen : (w0 w : World) (c : Call) → Left w0 w c → Seen_if c w
left-seen w0 w c left waits = by_way left.way where
  by_way : (is_some (call_of w c.number) ≡ true) ⊎ Unwaited c w → (d : Call) × (call_of w c.number ≡ Some d)
  by_way (inl h) = is-found (call_of w c.number) h
  by_way (inr un) = absurd (un waits)

way-kept : {E : Kind} (w v : World) (c : Call) → Calm E w v → E.stay c.number ≡ true → (is_some (call_of w c.number) ≡ true) ⊎ Unwaited c w
    → (is_some (call_of v c.number) ≡ true) ⊎ Unwaited c v
way-kept w v c calm stays (inl h) = inl (calm.kept c.number stays h)
way-kept w v c calm stays (inr un) = inr (unwaited-on c w v calm un)

left-with : {E : Kind} (w0 w v : World) (c : Call) → Calm E w v → Left w0 w c → (is_some (call_of v c.number) ≡ true) ⊎ Unwaited c v → Left w0 v c
left-with w0 w v c calm left way = record {
  first = left.first;
  low = subst (λ n. c.number.0 ≤ n) (sym calm.drawn) left.low;
  out = calm-out w v calm c.number left.out;
  idle = calm-idle w v calm c.number left.idle;
  way = way;
}

-- behind the end of one of them each is left
left-on : (w0 w v : World) (c x : Call) → Calm (only c.number) w v → Unwaited c v → Left w0 w c → Left w0 w x → Left w0 v x
left-on w0 w v c x calm un this left = left-with w0 w v x calm left (by_number (same_call c.number x.number) refl) where
  some-one : (a b : Call) → Some a ≡ Some b → a ≡ b
  some-one a b e = cc

  by_number : (b : Bool) → same_call c.number x.number ≡ b → (is_some (call_of v x.number) ≡ true) ⊎ Unwaited x v
  by_number true is =
      let one : c ≡ x = some-one c x (sym this.first ∙ (ap (call_of w0) (same-call c.number x.number is) ∙ left.first)) in
      inr (subst (λ y. Unwaited y v) one un)
  by_number false is = way-kept w v x calm (ap not is) left.way

-- and no time-out of it is set
pub record Loses (E : Kind) (c : Call) (w : World) (step : Step) : Type 0 where
  pub leads : (said : List Said)
      → Calm E w (world_behind (step w said)) × Unwaited c (world_behind (step w said))
      × (is_appointed (is_timeout_of c.number) (world_behind (step w said)) ≡ true → ⊥)

untimed-on : {E : Kind} (w v : World) (c : CallNo) → Fall w → Calm E w v → is_appointed (is_timeout_of c) w ≡ false → Out c w
    → is_appointed (is_timeout_of c) v ≡ true → ⊥
untimed-on w v c fall calm none out h = by_way (calm.timeouts fall c h) where
  by_way : ((is_appointed (is_timeout_of c) w ≡ true) × (Awaited c w → Awaited c v)) ⊎ Awaited c v → ⊥
  by_way (inl was) = true≢false (sym was.0 ∙ none)
  by_way (inr a) = out a.owner a.place (calm.queues a.owner a.place c a.stands)

gone_then-loses : {E : Kind} (p : Image) (part : Part) (c : Call) (g : Step) (w : World) → Fall (unqueued p c w) → Out c.number (unqueued p c w)
    → Leaves E c (unqueued p c w) g → Loses E c w (gone p part c ▷ g)
unfolding gone
gone_then-loses p part c g w fall out k =
    record { leads = λ said. by_pair (k.leads (said ++ record { part = part; line = line.Gone c.caller c.number } ∷ [])) } where
      by_pair : {E : Kind} {v : World} → Calm E (unqueued p c w) v × Unwaited c v
          → Calm E w v × Unwaited c v × (is_appointed (is_timeout_of c.number) v ≡ true → ⊥)
      by_pair {v = v} x = (
        calm-then w (unqueued p c w) v (unqueued-calm p c w) x.0,
        x.1,
        untimed-on (unqueued p c w) v c.number fall x.0 (unqueued-timed p c w) out,
      )

gone_by_completion-loses : {late : CallNo → Bool} (p : Image) (actor : Who) (w0 w : World) (c : Call) → GoodBut p late w → Left w0 w c
    → Loses (only c.number) c w (gone_by_completion p actor c)
unfolding gone_by_completion
gone_by_completion-loses p actor w0 w c good left =
    let v = unqueued p c w in
    let still : Calm all_stay w v = unqueued-calm p c w in
    let then_ : Left w0 v c = left-with w0 w v c still left (way-kept w v c still refl left.way) in
    let good_then = calm-good p w v good still in
    gone_then-loses p (part_of actor (who.Task c.caller)) c
    (end_call p (part_of actor (who.Task c.caller)) c (call_ended.ToRaise exception.Tasking)) w good_then.objects then_.out
    (end_call-leaves p (part_of actor (who.Task c.caller)) c (call_ended.ToRaise exception.Tasking) v good_then (left-seen w0 v c then_) then_.low
    (self c.number) then_.out then_.idle (λ a is. absurd (true≢false (sym is))) (ap not (self c.number)))

abbrev AllOf : (Call → Type 0) → List Call → Type 0
AllOf P [] = Unit {0}
AllOf P (c ∷ cs) = P c × AllOf P cs

all-on : (P Q : Call → Type 0) → ((c : Call) → P c → Q c) → (cs : List Call) → AllOf P cs → AllOf Q cs
all-on P Q f [] all = tt
all-on P Q f (c ∷ cs) all = (f c all.0, all-on P Q f cs all.1)

-- a time-out is still to be dropped of one of these calls
abbrev in_calls : List Call → CallNo → Bool
in_calls cs c = list_any (λ d. same_call d.number c) cs

-- what leads on, and leaves a task closed that was
record Gone (p : Image) (w v : World) : Type 0 where
  pub next : Next p w v
  pub closed : (name : Who) → Closed name w → Closed name v

record Goes (p : Image) (w : World) (step : Step) : Type 0 where
  pub leads : (said : List Said) → Gone p w (world_behind (step w said))

calm-gone : {E : Kind} {late : CallNo → Bool} (p : Image) (w v u : World) → GoodBut p late w → Calm E w v → Gone p v u → Gone p w u
calm-gone p w v u good calm gone_ = record {
  next = record {
    good = gone_.next.good;
    awake = λ a h. gone_.next.awake a (calm-awake w v calm a h);
    tasks = let one : w.drawn.tasks ≤ v.drawn.tasks = calm.tasks in let two : v.drawn.tasks ≤ u.drawn.tasks = gone_.next.tasks in omega (arith, one, two);
    owns = λ a c h. gone_.next.owns a c (calm-owns w v calm a c h);
  };
  closed = λ name h. gone_.closed name (calm-closed name w v calm h);
}

first-or : (a b : Bool) → (a || b) ≡ true → a ≡ false → b ≡ true
first-or true b h e = absurd (true≢false e)
first-or false b h e = h

by_test : {P : Type 0} (b : Bool) → (b ≡ true → P) → (b ≡ false → P) → P
by_test true k l = k refl
by_test false k l = l refl

-- the first of them has lost its time-out
first-lost : (p : Image) (c : Call) (cs : List Call) (v : World) → GoodBut p (in_calls (c ∷ cs)) v → (is_appointed (is_timeout_of c.number) v ≡ true → ⊥)
    → GoodBut p (in_calls cs) v
first-lost p c cs v good none =
    fewer-late p v good (λ x h late. by_test (same_call c.number x)
    (λ is. absurd (none (subst (λ n. is_appointed (is_timeout_of n) v ≡ true) (sym (same-call c.number x is)) h)))
    (λ apart. first-or (same_call c.number x) (in_calls cs x) late apart))

loses_then-gone : {E : Kind} {late : CallNo → Bool} (p : Image) (c : Call) (g : Step) (w : World) (d : Done) → GoodBut p late w
    → Calm E w (world_behind d) × Unwaited c (world_behind d) × (is_appointed (is_timeout_of c.number) (world_behind d) ≡ true → ⊥)
    → ((v : World) → Calm E w v → Unwaited c v → (is_appointed (is_timeout_of c.number) v ≡ true → ⊥) → Goes p v g) → Gone p w (world_behind (goes_on_with g d))
loses_then-gone p c g w (done v said) good a b = calm-gone p w v (world_behind (g v said)) good a.0 ((b v a.0 a.1 a.2).leads said)

all_gone-goes : (p : Image) (actor : Who) (w0 : World) (cs : List Call) (w : World) → GoodBut p (in_calls cs) w → AllOf (Left w0 w) cs
    → Goes p w (for_each cs (gone_by_completion p actor))
all_gone-goes p actor w0 [] w good all =
    let good_then = fewer-late p w good (λ x h late. absurd (true≢false (sym late))) in
    record { leads = λ said. record { next = calm-next p w w good_then (stays-calm {E = any_kind} w); closed = λ name h. h } }
all_gone-goes p actor w0 (c ∷ cs) w good all =
    let this = gone_by_completion-loses p actor w0 w c good all.0 in
    record {
      leads = λ said. loses_then-gone p c (for_each cs (gone_by_completion p actor)) w (gone_by_completion p actor c w said) good (this.leads said)
          (λ v calm un none. all_gone-goes p actor w0 cs v (first-lost p c cs v (calm-good p w v good calm) none)
          (all-on (Left w0 w) (Left w0 v) (λ x left. left-on w0 w v c x calm un all.0 left) cs all.1));
    }

-- ---- the calls in the queues of a task

put-all : (P : Call → Type 0) (c : Call) (ds : List Call) → P c → AllOf P ds → AllOf P (put_call_in_order c ds)
put-all P c [] this all = (this, tt)
put-all P c (d ∷ ds) this all = step (is_call_before d c) (put-all P c ds this all.1) where
  step : (b : Bool) → AllOf P (put_call_in_order c ds) → AllOf P (cond b (d ∷ put_call_in_order c ds) (c ∷ d ∷ ds))
  step true rest = (all.0, rest)
  step false rest = (this, all)

order-all : (P : Call → Type 0) (cs : List Call) → AllOf P cs → AllOf P (calls_in_order cs)
order-all P [] all = tt
order-all P (c ∷ cs) all = put-all P c (calls_in_order cs) all.0 (order-all P cs all.1)

there-all : (P : Call → Type 0) (w : World) (cs : List CallNo) → ((c : CallNo) (d : Call) → has same_call cs c ≡ true → call_of w c ≡ Some d → P d)
    → AllOf P (calls_there w cs)
there-all P w [] each = tt
there-all P w (c ∷ cs) each = step (call_of w c) refl (there-all P w cs (λ x d h e. each x d (or_right (same_call c x) (has same_call cs x) h) e)) where
  step : (found : Option Call) → call_of w c ≡ found → AllOf P (calls_there w cs) → AllOf P (cons_option found (calls_there w cs))
  step None e rest = rest
  step (Some d) e rest = (each c d (or_left (same_call c c) (has same_call cs c) (self c)) e, rest)

has-both : (xs ys : List CallNo) (c : CallNo) → has same_call (xs ++ ys) c ≡ true → (has same_call xs c || has same_call ys c) ≡ true
has-both [] ys c h = h
has-both (x ∷ xs) ys c h = step (same_call x c) h (has-both xs ys c) where
  step : (b : Bool) → (b || has same_call (xs ++ ys) c) ≡ true → (has same_call (xs ++ ys) c ≡ true → (has same_call xs c || has same_call ys c) ≡ true)
      → ((b || has same_call xs c) || has same_call ys c) ≡ true
  step true k onward = refl
  step false k onward = onward k

flat-has : (queues : List (List CallNo)) (c : CallNo) → has same_call (flat_map (λ q. q) queues) c ≡ true → in_queues queues c ≡ true
flat-has [] c h = h
flat-has (q ∷ queues) c h = step (has same_call q c) (has-both q (flat_map (λ x. x) queues) c h) (flat-has queues c) where
  step : (b : Bool) → (b || has same_call (flat_map (λ x. x) queues) c) ≡ true → (has same_call (flat_map (λ x. x) queues) c ≡ true → in_queues queues c ≡ true)
      → (b || in_queues queues c) ≡ true
  step true k onward = refl
  step false k onward = onward k

emptied-none : (queues : List (List CallNo)) (k : ℕ) (c : CallNo) → has same_call (queue_at (map without_queued queues) k) c ≡ true → ⊥
emptied-none [] k c h = true≢false (sym h)
emptied-none (q ∷ queues) zero c h = true≢false (sym h)
emptied-none (q ∷ queues) (suc k) c h = emptied-none queues k c h

-- a task that is completed has no calls
module _ (name : Who) (w : World) where
  abbrev completed : World
  completed = edit_task name completed_task w

  completed-beside : Beside w completed
  completed-beside = record {
    calls = edit_task-calls name completed_task w;
    drawn = edit_task-drawn name completed_task w;
    appointments = found-appointments name completed_task w (task_at w name);
    objects = λ h. edit_task-fall name completed_task w (λ t. refl) h;
    named = λ h. named-edited name completed_task w (task_at w name) refl (λ t. refl) h;
    marks =
        task-edited name completed_task w (λ t. refl) (λ me t u. Marks me w t u) (λ me. marks-same me w (task_of w me) (task_of w me) refl refl refl)
        (marks-same name w (task_of w name) (completed_task (task_of w name)) refl refl refl);
  }

  completed-frames : (me : Who) → frames_of completed me ≡ frames_of w me
  completed-frames = task-edited name completed_task w (λ t. refl) (λ me t u. u.frames ≡ t.frames) (λ me. refl) refl

  completed-has : (me : Who) (k : ℕ) (c : CallNo) → has same_call (queue_at (task_of completed me).queues k) c ≡ true
      → has same_call (queue_at (task_of w me).queues k) c ≡ true
  completed-has me k c =
      task-edited name completed_task w (λ t. refl) (λ one t u. has same_call (queue_at u.queues k) c ≡ true → has same_call (queue_at t.queues k) c ≡ true)
      (λ one h. h) (λ h. absurd (emptied-none (task_of w name).queues k c h)) me

  completed-stood : (o : Owner) (k : ℕ) (c : CallNo) → Stands completed o k c → Stands w o k c
  completed-stood (owned_by.Task n) k c h = completed-has (who.Task n) k c h
  completed-stood (owned_by.Object o) k c h = subst (λ xs. StandsAt xs o k c) (edit_task-objects name completed_task w) h

  -- a call of another task stands where it stood
  completed-awaited : (c : CallNo) → ((k : ℕ) → has same_call (queue_at (task_of w name).queues k) c ≡ true → ⊥) → Awaited c w → Awaited c completed
  completed-awaited c other a = by_owner a.owner a.place a.stands a.opens where
    unfirm : Unfirm c completed
    unfirm = unfirm-same w completed c (edit_task-calls name completed_task w) a.unfirm

    by_owner : (o : Owner) (k : ℕ) → Stands w o k c → Open w o → Awaited c completed
    by_owner (owned_by.Task n) k h is =
        let both_ : (has same_call (queue_at (task_of completed (who.Task n)).queues k) c ≡ true) × ((task_of completed (who.Task n)).completed ≡ false) =
        task-edited name completed_task w (λ t. refl)
        (λ one t u. has same_call (queue_at t.queues k) c ≡ true → t.completed ≡ false → (has same_call (queue_at u.queues k) c ≡ true) × (u.completed ≡ false))
        (λ one e f. (e, f)) (λ e f. absurd (other k e)) (who.Task n) h is in
        record { owner = owned_by.Task n; place = k; stands = both_.0; opens = both_.1; unfirm = unfirm }
    by_owner (owned_by.Object o) k h is = record {
      owner = owned_by.Object o;
      place = k;
      stands = subst (λ xs. StandsAt xs o k c) (sym (edit_task-objects name completed_task w)) h;
      opens = tt;
      unfirm = unfirm;
    }

completed-none : (name : Who) (w : World) (k : ℕ) (c : CallNo) → has same_call (queue_at (task_of (edit_task name completed_task w) name).queues k) c ≡ true → ⊥
completed-none (who.Task n) w k c =
    edits_of.edited_to (λ u. Unit {0}) (λ u. has same_call (queue_at u.queues k) c ≡ true → ⊥) (who.Task n) (who.Task n) completed_task w (λ u. refl)
    (λ same u h e. emptied-none u.queues k c e) (λ apart u h. absurd (true≢false (sym (eq-eqb n.0 n.0 refl) ∙ apart))) (λ h e. true≢false (sym e)) tt
completed-none who.Agent w k c = λ e. emptied-none w.agent.queues k c e

pub first-is : (a b c : Bool) → (a && b && c) ≡ true → a ≡ true
first-is true b c e = refl
first-is false b c e = absurd (true≢false (sym e))

queued-left : (p : Image) (w : World) (name : Who) (k : ℕ) (c : CallNo) (d : Call) → Good p w → has same_call (queue_at (task_of w name).queues k) c ≡ true
    → call_of w c ≡ Some d → Left w (edit_task name completed_task w) d
queued-left p w who.Agent k c d good h is = absurd (good.agent k c h)
queued-left p w (who.Task n) k c d good h is =
    let v = edit_task (who.Task n) completed_task w in
    let beside = completed-beside (who.Task n) w in
    let same = found-number c w d is in
    let is_it : call_of w d.number ≡ Some d = subst (λ x. call_of w x ≡ Some d) (sym same) is in
    let stands : Stands w (owned_by.Task n) k d.number = subst (λ x. Stands w (owned_by.Task n) k x) (sym same) h in
    let owner : owned_by.Task n ≡ d.owner = (stands-where p w (owned_by.Task n) k d good (found-directed d.number w d is_it) stands).0 in
    record {
      first = is_it;
      low = low-is w v beside d.number.0 (good.known d.number d is_it);
      out = λ o j s.
          let where_ = (stands-where p w o j d good (found-directed d.number w d is_it) (completed-stood (who.Task n) w o j d.number s)).0 in
          completed-none (who.Task n) w j d.number (subst (λ q. Stands v q j d.number) (where_ ∙ sym owner) s);
      idle =
          λ a. ap (λ fs. served_in d.number (natures fs)) (completed-frames (who.Task n) w a)
          ∙ queued-idle p w d.number d good is_it (first-is _ _ _ (good.right (owned_by.Task n) k d.number d stands is_it)) a;
      way = inl (ap is_some (call-is w v beside d.number d is_it));
    }

queued-all : (p : Image) (w : World) (name : Who) → Good p w → AllOf (Left w (edit_task name completed_task w)) (queued_calls w (task_of w name))
queued-all p w name good =
    order-all (Left w (edit_task name completed_task w)) (calls_there w (flat_map (λ q. q) (task_of w name).queues))
    (there-all (Left w (edit_task name completed_task w)) w (flat_map (λ q. q) (task_of w name).queues)
    (λ c d h e. let at = at-some (task_of w name).queues c (flat-has (task_of w name).queues c h) in queued-left p w name at.0 c d good at.1 e))

-- each call that stood in the queues is among them
put-in : (c : Call) (ds : List Call) (x : CallNo) → (same_call c.number x || in_calls ds x) ≡ true → in_calls (put_call_in_order c ds) x ≡ true
put-in c [] x h = h
put-in c (d ∷ ds) x h = step (is_call_before d c) (put-in c ds x) where
  swap : (a b e : Bool) → (a || (b || e)) ≡ true → (b || (a || e)) ≡ true
  swap true true e k = refl
  swap true false e k = refl
  swap false true e k = refl
  swap false false e k = k

  later : (b e f : Bool) → (e ≡ true → f ≡ true) → (b || e) ≡ true → (b || f) ≡ true
  later true e f k i = refl
  later false e f k i = k i

  step : (b : Bool) → ((same_call c.number x || in_calls ds x) ≡ true → in_calls (put_call_in_order c ds) x ≡ true)
      → in_calls (cond b (d ∷ put_call_in_order c ds) (c ∷ d ∷ ds)) x ≡ true
  step true onward =
      later (same_call d.number x) (same_call c.number x || in_calls ds x) (in_calls (put_call_in_order c ds) x) onward
      (swap (same_call c.number x) (same_call d.number x) (in_calls ds x) h)
  step false onward = h

order-in : (cs : List Call) (x : CallNo) → in_calls cs x ≡ true → in_calls (calls_in_order cs) x ≡ true
order-in [] x h = h
order-in (c ∷ cs) x h = put-in c (calls_in_order cs) x (step (same_call c.number x) h (order-in cs x)) where
  step : (b : Bool) → (b || in_calls cs x) ≡ true → (in_calls cs x ≡ true → in_calls (calls_in_order cs) x ≡ true)
      → (b || in_calls (calls_in_order cs) x) ≡ true
  step true k onward = refl
  step false k onward = onward k

there-in : (w : World) (cs : List CallNo) (c : CallNo) → is_some (call_of w c) ≡ true → has same_call cs c ≡ true → in_calls (calls_there w cs) c ≡ true
there-in w [] c there h = absurd (true≢false (sym h))
there-in w (x ∷ xs) c there h = by_test (same_call x c)
    (λ is. this (call_of w x) refl (subst (λ n. is_some (call_of w n) ≡ true) (sym (same-call x c is)) there) is)
    (λ apart. others (call_of w x) (there-in w xs c there (first-or (same_call x c) (has same_call xs c) h apart))) where
      this : (found : Option Call) → call_of w x ≡ found → is_some found ≡ true → same_call x c ≡ true
          → in_calls (cons_option found (calls_there w xs)) c ≡ true
      this None e f is = absurd (true≢false (sym f))
      this (Some d) e f is = or_left (same_call d.number c) (in_calls (calls_there w xs) c) (subst (λ n. same_call n c ≡ true) (sym (found-number x w d e)) is)

      others : (found : Option Call) → in_calls (calls_there w xs) c ≡ true → in_calls (cons_option found (calls_there w xs)) c ≡ true
      others None k = k
      others (Some d) k = or_right (same_call d.number c) (in_calls (calls_there w xs) c) k

has-append : (xs ys : List CallNo) (c : CallNo) → (has same_call xs c ≡ true) ⊎ (has same_call ys c ≡ true) → has same_call (xs ++ ys) c ≡ true
has-append [] ys c (inl h) = absurd (true≢false (sym h))
has-append [] ys c (inr h) = h
has-append (x ∷ xs) ys c h =
    by_test (same_call x c) (λ is. or_left (same_call x c) (has same_call (xs ++ ys) c) is)
    (λ apart. or_right (same_call x c) (has same_call (xs ++ ys) c) (has-append xs ys c (rest h apart))) where
      rest : ((same_call x c || has same_call xs c) ≡ true) ⊎ (has same_call ys c ≡ true) → same_call x c ≡ false
          → (has same_call xs c ≡ true) ⊎ (has same_call ys c ≡ true)
      rest (inl k) apart = inl (first-or (same_call x c) (has same_call xs c) k apart)
      rest (inr k) apart = inr k

queue-in : (queues : List (List CallNo)) (k : ℕ) (c : CallNo) → has same_call (queue_at queues k) c ≡ true → has same_call (flat_map (λ q. q) queues) c ≡ true
queue-in [] k c h = h
queue-in (q ∷ queues) zero c h = has-append q (flat_map (λ x. x) queues) c (inl h)
queue-in (q ∷ queues) (suc k) c h = has-append q (flat_map (λ x. x) queues) c (inr (queue-in queues k c h))

queued-in : (w : World) (t : Task) (k : ℕ) (c : CallNo) → is_some (call_of w c) ≡ true → has same_call (queue_at t.queues k) c ≡ true
    → in_calls (queued_calls w t) c ≡ true
queued-in w t k c there h = order-in (calls_there w (flat_map (λ q. q) t.queues)) c (there-in w (flat_map (λ q. q) t.queues) c there (queue-in t.queues k c h))

-- behind completion the time-outs of these calls are still to be dropped
completed-good : (p : Image) (w : World) (name : Who) → Good p w → GoodBut p (in_calls (queued_calls w (task_of w name))) (edit_task name completed_task w)
completed-good p w name good =
    let v = edit_task name completed_task w in
    let beside = completed-beside name w in
    good-by w v beside p good
    record {
      within = λ o k c h. low-is w v beside c.0 (good.within o k c (completed-stood name w o k c h));
      there = λ o k c h. ap (λ ds. is_some (find (is_call c) ds)) (edit_task-calls name completed_task w) ∙ good.there o k c (completed-stood name w o k c h);
      right = λ o k c d h e. good.right o k c d (completed-stood name w o k c h) (call-was w v beside c d e);
      agent = λ k c h. good.agent k c (completed-has name w who.Agent k c h);
    }
    (services-same p w v good beside (completed-frames name w))
    (λ c h. by_way c (good.awaited c (set-was w v beside (is_timeout_of c) h))) where
      late : CallNo → Bool
      late c = in_calls (queued_calls w (task_of w name)) c

      of_test : (c : CallNo) → Awaited c w → (b : Bool) → late c ≡ b
          → Awaited c (edit_task name completed_task w) ⊎ (in_calls (queued_calls w (task_of w name)) c ≡ true)
      of_test c a true e = inr e
      of_test c a false e =
          inl (completed-awaited name w c (λ k h. true≢false (sym (queued-in w (task_of w name) k c (good.there a.owner a.place c a.stands) h) ∙ e)) a)

      by_way : (c : CallNo) → Awaited c w ⊎ (none_late c ≡ true)
          → Awaited c (edit_task name completed_task w) ⊎ (in_calls (queued_calls w (task_of w name)) c ≡ true)
      by_way c (inl a) = of_test c a (late c) refl
      by_way c (inr e) = absurd (true≢false (sym e))

-- ---- an activation ends

wake_activator-calms : {E : Kind} (p : Image) (part : Part) (name : Who) → Calms E (wake_activator p part name)
unfolding wake_activator
wake_activator-calms p part name = looks-calms _ (λ u. from-calms _ (λ w.
    ready_then-from p part name _ w
    (then-from (when (task_of u name).group_failed (raises part name exception.Tasking)) (open_sequence p part name) (readied p name w)
    (readied-awake p name w)
    (calms-from _ (readied p name w)
    (when-calms (task_of u name).group_failed (raises part name exception.Tasking) (raises-calms part name exception.Tasking)))
    (open_sequence-keeps p part name))))

end_group-calms : {E : Kind} (p : Image) (actor activator : Who) → Calms E (end_group p actor activator)
unfolding end_group
end_group-calms p actor activator =
    looks-calms _
    (λ w. when-calms (not (has_activating w activator) && waits_for_activation (waiting_of w activator)) _
    (wake_activator-calms p (part_of actor activator) activator))

end_activation_by-calms : {E : Kind} (p : Image) (actor name : Who) (failed : Bool) (by : Option Who) → Calms E (end_activation_by p actor name failed by)
unfolding end_activation_by
end_activation_by-calms p actor name failed None = nothing-calms
end_activation_by-calms p actor name failed (Some activator) =
    then-calms _ _ (changes-calms _ (edit_task-quiets name not_activating (λ t. refl) (λ t. refl) (λ t. refl) (λ t. refl) (λ t. refl)))
    (then-calms _ _ (changes-calms _ (lose-quiets name inherited_by.Activation))
    (then-calms _ _ (changes-calms _ (edit_task-quiets activator (with_failure failed) (λ t. refl) (λ t. refl) (λ t. refl) (λ t. refl) (λ t. refl)))
    (end_group-calms p actor activator)))

pub end_activation-calms : {E : Kind} (p : Image) (actor name : Who) (failed : Bool) → Calms E (end_activation p actor name failed)
unfolding end_activation
end_activation-calms p actor name failed = looks-calms _ (λ w. end_activation_by-calms p actor name failed (task_of w name).activator)

-- ---- a task is completed, and terminates

-- a step behind which no call stands in a queue of the task that is served
record Closes (p : Image) (name : Who) (w : World) (step : Step) : Type 0 where
  pub leads : (said : List Said) → Next p w (world_behind (step w said)) × Closed name (world_behind (step w said))

gone_then-gone : {E : Kind} (p : Image) (g : Step) (w : World) (d : Done) → Gone p w (world_behind d) → ((v : World) → From E v g)
    → Gone p w (world_behind (goes_on_with g d))
gone_then-gone p g w (done v said) a b =
    let calm = (b v).leads said in
    let u = world_behind (g v said) in
    record { next = next-then p w v u a.next (calm-next p v u a.next.good calm); closed = λ name h. calm-closed name v u calm (a.closed name h) }

beside_then-next : (p : Image) (w v u : World) → Beside w v → Next p v u → Next p w u
unfolding Awake
beside_then-next p w v u beside next = record {
  good = next.good;
  awake = λ a awake. next.awake a (λ c d is e. awake c d ((beside.marks a).ends c is).0 (call-was w v beside c d e));
  tasks = let grown : v.drawn.tasks ≤ u.drawn.tasks = next.tasks in subst (λ d. d.tasks ≤ u.drawn.tasks) beside.drawn grown;
  owns = λ a c own. next.owns a c (low-is w v beside c.0 own.0, λ d e. own.1 d (call-was w v beside c d e));
}

completed-closed : (name : Who) (w : World) → Closed name (edit_task name completed_task w)
completed-closed name w n is k c h open_ =
    completed-none name w k c (subst (λ a. has same_call (queue_at (task_of (edit_task name completed_task w) a).queues k) c ≡ true) is h)

complete_with-closes : (p : Image) (actor name : Who) (failed : Bool) (w : World) → Good p w
    → Closes p name w (complete_with p actor name (queued_calls w (task_of w name)) failed)
unfolding complete_with
complete_with-closes p actor name failed w good =
    let v = edit_task name completed_task w in
    let calls = queued_calls w (task_of w name) in
    record {
      leads = λ said.
          let ends = gone_then-gone {E = quiet_kind} p (end_activation p actor name failed) v (for_each calls (gone_by_completion p actor) v said)
          ((all_gone-goes p actor w calls v (completed-good p w name good) (queued-all p w name good)).leads said)
          (λ u. calms-from _ u (end_activation-calms p actor name failed)) in
          (beside_then-next p w v _ (completed-beside name w) ends.next, ends.closed name (completed-closed name w));
    }

-- one that is completed already is closed
already-closed : (name : Who) (w : World) → (task_of w name).completed ≡ true → Closed name w
already-closed name w is n same k c h open_ = true≢false (sym (subst (λ a. (task_of w a).completed ≡ true) (sym same) is) ∙ open_)

when-closes : {p : Image} (name : Who) (b : Bool) (step : Step) (w : World) → Good p w → (b ≡ true → Closed name w) → (b ≡ false → Closes p name w step)
    → Closes p name w (when (not b) step)
when-closes {p = p} name true step w good a k = record { leads = λ said. (calm-next p w w good (stays-calm {E = any_kind} w), a refl) }
when-closes name false step w good a k = k refl

complete-closes : (p : Image) (actor name : Who) (w : World) → Good p w → Closes p name w (complete p actor name)
unfolding complete
complete-closes p actor name w good =
    let closes =
    when-closes name (task_of w name).completed (complete_with p actor name (queued_calls w (task_of w name)) (has_failed (task_of w name))) w good
    (already-closed name w) (λ is. complete_with-closes p actor name (has_failed (task_of w name)) w good) in
    record { leads = λ said. closes.leads said }

pub complete-any : (p : Image) (actor name : Who) → Any p (complete p actor name)
complete-any p actor name = record { from = λ w good. record { leads = λ said. ((complete-closes p actor name w good).leads said).0 } }

closes_then-next : (p : Image) (name : Who) (g : Step) (w : World) (d : Done) → Next p w (world_behind d) × Closed name (world_behind d)
    → ((v : World) → Closed name v → From quiet_kind v g) → Next p w (world_behind (goes_on_with g d))
closes_then-next p name g w (done v said) a b =
    next-then p w v (world_behind (g v said)) a.0 (calm-next p v (world_behind (g v said)) a.0.good ((b v a.1).leads said))

wake_master-calms : {E : Kind} (p : Image) (actor : Who) (r : RegionNo) → Calms E (wake_master p actor r)
unfolding wake_master
wake_master-calms p actor r =
    looks-calms _
    (λ w. when-calms (not (has_dependents w r)) _
    (for_some-calms (find (waits_for_dependents r) w.tasks) (λ t. ready p (part_of actor t.who) t.who) (λ t. ready-calms p (part_of actor t.who) t.who)))

-- a task that is closed goes
forgets-from : {E : Kind} (p : Image) (actor name : Who) (master : Option RegionNo) (w : World) → Closed name w
    → From E w (changes (drop_delay name) ▷ changes (forget_task name) ▷ for_some master (wake_master p actor))
forgets-from p actor name master w closed =
    then-after (changes (drop_delay name)) _ w (changes-from (drop_delay name) w ((drop_delay-quiets name).at w))
    (λ v calm. then-after (changes (forget_task name)) _ v (changes-from (forget_task name) v (forget_task-calm name v (calm-closed name w v calm closed)))
    (λ u later. calms-from _ u (for_some-calms master (wake_master p actor) (λ r. wake_master-calms p actor r))))

pub terminate-any : (p : Image) (actor name : Who) → Any p (terminate p actor name)
unfolding terminate
terminate-any p actor name = record {
  from = λ w good. record {
    leads =
        λ said. closes_then-next p name (changes (drop_delay name) ▷ changes (forget_task name) ▷ for_some (task_of w name).master (wake_master p actor)) w
        (complete p actor name w said)
        ((complete-closes p actor name w good).leads said) (λ v closed. forgets-from p actor name (task_of w name).master v closed);
  };
}

-- ---- terminate alternatives

cond-calms : {E : Kind} (b : Bool) (f g : Step) → Calms E f → Calms E g → Calms E (cond b f g)
cond-calms true f g a b = a
cond-calms false f g a b = b

pub leave_by_terminate-calms : {E : Kind} (p : Image) (actor : Who) (t : Task) → Calms E (leave_by_terminate p actor t)
unfolding leave_by_terminate
leave_by_terminate-calms p actor t =
    then-calms _ _ (changes-calms _ (drop_delay-quiets t.who))
    (then-calms _ _
    (cond-calms (same_who actor t.who) (changes (edit_task t.who (with_state Runnable))) (ready p (OfOther t.who) t.who)
    (changes-calms _ (runnable-quiets t.who)) (ready-calms p (OfOther t.who) t.who))
    (leaves-calms t.who how.Terminate))
