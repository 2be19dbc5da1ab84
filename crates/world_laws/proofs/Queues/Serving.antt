-- A call comes into a queue, and a call comes into service: worlds stay good.
use Rattle.std.proofs.Common.{◌≡◌, ℕ, zero, suc, Bool, true, false, cond, not, ◌||◌, ◌⊎◌, inl, inr, ◌<◌, ◌≤◌, ◌++◌}
use Rattle.std.proofs.Common.{eqb, ltb, List, [], ◌∷◌, Option, Some, None, refl, sym, subst, ap, ◌∙◌, option_map}
use Rattle.std.specs.Prelude.{is_none, is_some, find}
use Rattle.std.specs.List.{list_all, list_any}
use Rattle.std.proofs.lemmas.Bool.{eq-eqb, eqb-true, or_cases, or_left, or_right, true≢false}
use Rattle.ann_base.specs.declared.identities.CallNo.{CallNo}
use Rattle.ann_base.specs.declared.identities.TaskNo.{TaskNo}
use Rattle.trace_text.specs.declared.events.Who.{Who}
use Rattle.trace_text.specs.declared.events.Who.TheVariants as who
use Rattle.profile_image.specs.declared.image.Image.{Image}
use Rattle.profile_image.specs.declared.image.Queuing.{Queuing}
use Rattle.profile_image.specs.declared.image.Queuing.TheVariants as queuing
use Rattle.profile_machine.specs.declared.world.World.{World}
use Rattle.profile_machine.specs.declared.world.appointments.Due.{Due}
use Rattle.profile_machine.specs.declared.world.calls.Call.{Call}
use Rattle.profile_machine.specs.declared.world.calls.Owner.{Owner}
use Rattle.profile_machine.specs.declared.world.calls.Owner.TheVariants as owned_by
use Rattle.profile_machine.specs.declared.world.objects.Object.{Object}
use Rattle.profile_machine.specs.declared.world.tasks.Task.{Task}
use Rattle.profile_image.specs.Words.{same_call, has, edit_at}
use Rattle.profile_machine.specs.Tasks.{task_of, waiting_in}
use Rattle.profile_machine.specs.Appointments.{is_appointed, is_timeout_of, is_trigger_of}
use Rattle.profile_machine.specs.Values.{is_object, queue_at, queues_of}
use Rattle.profile_machine.specs.Calls.{is_call, call_of, edit_object, edit_queue, put_by_priority, put_call, take_call, priority_of}
use Rattle.world_laws.proofs.Counts.NumberedLists as numbered
use Rattle.world_laws.proofs.Queues.CallLists.{left-has, same-call}
use Rattle.world_laws.proofs.Queues.CallChanges.{edited-other}
use Rattle.world_laws.proofs.Queues.Calming.{StandsAt, edit_task-objects, task-edited}
use Rattle.world_laws.proofs.Queues.Standing.{Awaited, Fall, GoodBut, Idle, Open, Stands, Waited, awaits_at, ends_by, has_own, is_ending}
use Rattle.world_laws.proofs.Queues.Standing.{is_named, is_task, natures, object_key, rightly, served, some_nature, waits_end}

-- ---- what stays so of somebody but for queues and services

pub record Marks (me : Who) (w : World) (t u : Task) : Type 0 where
  pub named : u.who ≡ t.who
  pub owns : (c : CallNo) → some_nature (has_own c) (natures u.frames) ≡ true → some_nature (has_own c) (natures t.frames) ≡ true
  pub ended : (c : CallNo) → some_nature (ends_by c) (natures u.frames) ≡ true → some_nature (ends_by c) (natures t.frames) ≡ true
  pub awaits : (depth : ℕ) → awaits_at depth (natures t.frames) ≡ true → awaits_at depth (natures u.frames) ≡ true
  pub ends : (c : CallNo) → waiting_in u.state ≡ waits_end c
      → (waiting_in t.state ≡ waits_end c) × ((d : Call) → call_of w c ≡ Some d → is_ending c t.frames ≡ true → is_ending c u.frames ≡ true)

pub marks-same : (me : Who) (w : World) (t u : Task) → u.who ≡ t.who → u.frames ≡ t.frames → u.state ≡ t.state → Marks me w t u
marks-same me w t u named frames state = record {
  named = named;
  owns = λ c h. subst (λ fs. some_nature (has_own c) (natures fs) ≡ true) frames h;
  ended = λ c h. subst (λ fs. some_nature (ends_by c) (natures fs) ≡ true) frames h;
  awaits = λ depth h. subst (λ fs. awaits_at depth (natures fs) ≡ true) (sym frames) h;
  ends = λ c h. (ap waiting_in (sym state) ∙ h, λ d e i. subst (λ fs. is_ending c fs ≡ true) (sym frames) i);
}

pub record Queues (p : Image) (v : World) : Type 0 where
  pub within : (o : Owner) (k : ℕ) (c : CallNo) → Stands v o k c → c.0 ≤ v.drawn.calls
  pub there : (o : Owner) (k : ℕ) (c : CallNo) → Stands v o k c → is_some (call_of v c) ≡ true
  pub right : (o : Owner) (k : ℕ) (c : CallNo) (d : Call) → Stands v o k c → call_of v c ≡ Some d → rightly p o k d ≡ true
  pub agent : (k : ℕ) (c : CallNo) → has same_call (queue_at (task_of v who.Agent).queues k) c ≡ true → ⊥

pub record Services (v : World) : Type 0 where
  pub serving : (a : Who) (c : CallNo) → 0 < served c v a → c.0 ≤ v.drawn.calls
  pub begun : (a : Who) (c : CallNo) (d : Call) → 0 < served c v a → call_of v c ≡ Some d → (d.begun ≡ true) × (is_none d.outcome ≡ true)
  pub once : (a : Who) (c : CallNo) → served c v a ≤ 1
  pub alone : (a b : Who) (c : CallNo) → 0 < served c v a → 0 < served c v b → a ≡ b
  pub timed : (c : CallNo) → is_appointed (is_timeout_of c) v ≡ true → Idle c v

-- calls and appointments are as they were
pub record Beside (w v : World) : Type 0 where
  pub calls : v.calls ≡ w.calls
  pub drawn : v.drawn ≡ w.drawn
  pub appointments : v.appointments ≡ w.appointments
  pub objects : Fall w → Fall v
  pub named : list_all is_named w.tasks ≡ true → list_all is_named v.tasks ≡ true
  pub marks : (me : Who) → Marks me w (task_of w me) (task_of v me)

module _ (w v : World) (beside : Beside w v) where
  pub call-was : (c : CallNo) (d : Call) → call_of v c ≡ Some d → call_of w c ≡ Some d
  call-was c d e = ap (λ ds. find (is_call c) ds) (sym beside.calls) ∙ e

  pub call-is : (c : CallNo) (d : Call) → call_of w c ≡ Some d → call_of v c ≡ Some d
  call-is c d e = ap (λ ds. find (is_call c) ds) beside.calls ∙ e

  pub low-is : (n : ℕ) → n ≤ w.drawn.calls → n ≤ v.drawn.calls
  low-is n h = subst (λ d. n ≤ d.calls) (sym beside.drawn) h

  pub set-was : (test : Due → Bool) → is_appointed test v ≡ true → is_appointed test w ≡ true
  set-was test h = ap (λ xs. list_any (λ a. test a.due) xs) (sym beside.appointments) ∙ h

  -- a call that has its time-out stands where it stood
  pub awaited-on : {late : CallNo → Bool} (p : Image) → GoodBut p late w → ((o : Owner) (k : ℕ) (x : CallNo) → Stands w o k x → Stands v o k x)
      → ((o : Owner) → Open w o → Open v o) → (c : CallNo) → is_appointed (is_timeout_of c) v ≡ true → Awaited c v ⊎ (late c ≡ true)
  awaited-on {late = late} p good stays opens c h = by_way (good.awaited c (set-was (is_timeout_of c) h)) where
    by_way : Awaited c w ⊎ (late c ≡ true) → Awaited c v ⊎ (late c ≡ true)
    by_way (inl a) =
        inl (record {
          owner = a.owner;
          place = a.place;
          stands = stays a.owner a.place c a.stands;
          opens = opens a.owner a.opens;
          unfirm = λ d e. a.unfirm d (call-was c d e);
        })
    by_way (inr e) = inr e

  pub good-by : {late then_late : CallNo → Bool} (p : Image) → GoodBut p late w → Queues p v → Services v
      → ((c : CallNo) → is_appointed (is_timeout_of c) v ≡ true → Awaited c v ⊎ (then_late c ≡ true)) → GoodBut p then_late v
  good-by p good queues serves awaited = record {
    known = λ c d e. low-is c.0 (good.known c d (call-was c d e));
    within = queues.within;
    there = queues.there;
    right = queues.right;
    agent = queues.agent;
    serving = serves.serving;
    begun = serves.begun;
    once = serves.once;
    alone = serves.alone;
    timed = serves.timed;
    awaited = awaited;
    objects = beside.objects good.objects;
    named = beside.named good.named;
    present = λ t h. subst (λ d. t.0 < d.tasks) (sym beside.drawn) (good.present t (ap is_task (sym (beside.marks (who.Task t)).named) ∙ h));
    owns = λ a c h. let own = good.owns a c ((beside.marks a).owns c h) in (low-is c.0 own.0, λ d e. own.1 d (call-was c d e));
    ended = λ a c h. let end = good.ended a c ((beside.marks a).ended c h) in (low-is c.0 end.0, λ d e. end.1 d (call-was c d e));
    triggers =
        λ t depth h.
        let set = good.triggers t depth (set-was (is_trigger_of t depth) h) in (subst (λ d. t.0 < d.tasks) (sym beside.drawn) set.0, waited t depth set.1);
    waits = λ a c h. low-is c.0 (good.waits a c ((beside.marks a).ends c h).0);
    ends = λ a c d h e. let was = (beside.marks a).ends c h in was.1 d (call-was c d e) (good.ends a c d was.0 (call-was c d e));
  } where
    waited : (t : TaskNo) (depth : ℕ) → Waited t depth w → Waited t depth v
    waited t depth (inl h) = inl ((beside.marks (who.Task t)).awaits depth h)
    waited t depth (inr h) = inr (ap is_task (beside.marks (who.Task t)).named ∙ h)

-- ---- a call comes into a queue

-- it is the new one, or it was there
abbrev Comes : CallNo → List CallNo → CallNo → Type 0
Comes c q x = (same_call c x ≡ true) ⊎ (has same_call q x ≡ true)

comes-on : (c y : CallNo) (ys : List CallNo) (x : CallNo) → Comes c ys x → Comes c (y ∷ ys) x
comes-on c y ys x (inl e) = inl e
comes-on c y ys x (inr e) = inr (or_right (same_call y x) (has same_call ys x) e)

comes-first : (c y : CallNo) (ys put : List CallNo) (x : CallNo) → (has same_call put x ≡ true → Comes c ys x)
    → (same_call y x ≡ true) ⊎ (has same_call put x ≡ true) → Comes c (y ∷ ys) x
comes-first c y ys put x onward (inl e) = inr (or_left (same_call y x) (has same_call ys x) e)
comes-first c y ys put x onward (inr e) = comes-on c y ys x (onward e)

put-last : (c : CallNo) (q : List CallNo) (x : CallNo) → has same_call (q ++ c ∷ []) x ≡ true → Comes c q x
put-last c [] x h = or_cases (same_call c x) false h
put-last c (y ∷ ys) x h = comes-first c y ys (ys ++ c ∷ []) x (put-last c ys x) (or_cases (same_call y x) (has same_call (ys ++ c ∷ []) x) h)

put-among : (w : World) (c : CallNo) (priority : ℕ) (q : List CallNo) (x : CallNo) → has same_call (put_by_priority w c priority q) x ≡ true → Comes c q x
put-among w c priority [] x h = or_cases (same_call c x) false h
put-among w c priority (y ∷ ys) x h = step (ltb (priority_of w y) priority) h (put-among w c priority ys x) where
  step : (b : Bool) → has same_call (cond b (c ∷ y ∷ ys) (y ∷ put_by_priority w c priority ys)) x ≡ true
      → (has same_call (put_by_priority w c priority ys) x ≡ true → Comes c ys x) → Comes c (y ∷ ys) x
  step true k onward = or_cases (same_call c x) (has same_call (y ∷ ys) x) k
  step false k onward =
      comes-first c y ys (put_by_priority w c priority ys) x onward (or_cases (same_call y x) (has same_call (put_by_priority w c priority ys) x) k)

pub put-comes : (queuing : Queuing) (w : World) (c : CallNo) (priority : ℕ) (q : List CallNo) (x : CallNo)
    → has same_call (put_call queuing w c priority q) x ≡ true → Comes c q x
put-comes queuing.Fifo w c priority q x h = put-last c q x h
put-comes queuing.Priority w c priority q x h = put-among w c priority q x h

taken-stood : (out : CallNo) (q : List CallNo) (x : CallNo) → has same_call (take_call out q) x ≡ true → has same_call q x ≡ true
taken-stood out [] x h = h
taken-stood out (y ∷ ys) x h = step (not (same_call out y)) h (taken-stood out ys x) where
  step : (b : Bool) → has same_call (cond b (y ∷ take_call out ys) (take_call out ys)) x ≡ true
      → (has same_call (take_call out ys) x ≡ true → has same_call ys x ≡ true) → has same_call (y ∷ ys) x ≡ true
  step true k onward = kept (or_cases (same_call y x) (has same_call (take_call out ys) x) k) onward where
    kept : (same_call y x ≡ true) ⊎ (has same_call (take_call out ys) x ≡ true) → (has same_call (take_call out ys) x ≡ true → has same_call ys x ≡ true)
        → has same_call (y ∷ ys) x ≡ true
    kept (inl e) onward = or_left (same_call y x) (has same_call ys x) e
    kept (inr e) onward = or_right (same_call y x) (has same_call ys x) (onward e)
  step false k onward = or_right (same_call y x) (has same_call ys x) (onward k)

pub put_anew-comes : (w : World) (c : CallNo) (priority : ℕ) (q : List CallNo) (x : CallNo)
    → has same_call (put_call queuing.Priority w c priority (take_call c q)) x ≡ true → Comes c q x
put_anew-comes w c priority q x h = later (put-comes queuing.Priority w c priority (take_call c q) x h) where
  later : Comes c (take_call c q) x → Comes c q x
  later (inl e) = inl e
  later (inr e) = inr (taken-stood c q x e)

-- what stood there stands there, and so does the new one
last-stays : (c : CallNo) (q : List CallNo) (x : CallNo) → has same_call q x ≡ true → has same_call (q ++ c ∷ []) x ≡ true
last-stays c [] x h = absurd (true≢false (sym h))
last-stays c (y ∷ ys) x h = step (same_call y x) h (last-stays c ys x) where
  step : (b : Bool) → (b || has same_call ys x) ≡ true → (has same_call ys x ≡ true → has same_call (ys ++ c ∷ []) x ≡ true)
      → (b || has same_call (ys ++ c ∷ []) x) ≡ true
  step true k onward = refl
  step false k onward = onward k

among-stays : (w : World) (c : CallNo) (priority : ℕ) (q : List CallNo) (x : CallNo) → has same_call q x ≡ true
    → has same_call (put_by_priority w c priority q) x ≡ true
among-stays w c priority [] x h = absurd (true≢false (sym h))
among-stays w c priority (y ∷ ys) x h =
    step (ltb (priority_of w y) priority) (or_cases (same_call y x) (has same_call ys x) h) (among-stays w c priority ys x) where
      step : (b : Bool) → (same_call y x ≡ true) ⊎ (has same_call ys x ≡ true)
          → (has same_call ys x ≡ true → has same_call (put_by_priority w c priority ys) x ≡ true)
          → has same_call (cond b (c ∷ y ∷ ys) (y ∷ put_by_priority w c priority ys)) x ≡ true
      step true k onward = or_right (same_call c x) (has same_call (y ∷ ys) x) h
      step false (inl k) onward = or_left (same_call y x) (has same_call (put_by_priority w c priority ys) x) k
      step false (inr k) onward = or_right (same_call y x) (has same_call (put_by_priority w c priority ys) x) (onward k)

among-new : (w : World) (c : CallNo) (priority : ℕ) (q : List CallNo) → has same_call (put_by_priority w c priority q) c ≡ true
among-new w c priority [] = or_left (same_call c c) false (eq-eqb c.0 c.0 refl)
among-new w c priority (y ∷ ys) = step (ltb (priority_of w y) priority) (among-new w c priority ys) where
  step : (b : Bool) → has same_call (put_by_priority w c priority ys) c ≡ true
      → has same_call (cond b (c ∷ y ∷ ys) (y ∷ put_by_priority w c priority ys)) c ≡ true
  step true k = or_left (same_call c c) (has same_call (y ∷ ys) c) (eq-eqb c.0 c.0 refl)
  step false k = or_right (same_call y c) (has same_call (put_by_priority w c priority ys) c) k

pub put-stays : (queuing : Queuing) (w : World) (c : CallNo) (priority : ℕ) (q : List CallNo) (x : CallNo) → has same_call q x ≡ true
    → has same_call (put_call queuing w c priority q) x ≡ true
put-stays queuing.Fifo w c priority q x h = last-stays c q x h
put-stays queuing.Priority w c priority q x h = among-stays w c priority q x h

pub put_anew-stays : (w : World) (c : CallNo) (priority : ℕ) (q : List CallNo) (x : CallNo) → has same_call q x ≡ true
    → has same_call (put_call queuing.Priority w c priority (take_call c q)) x ≡ true
put_anew-stays w c priority q x h = by_way (left-has c q x h) where
  by_way : (has same_call (take_call c q) x ≡ true) ⊎ (same_call c x ≡ true) → has same_call (put_by_priority w c priority (take_call c q)) x ≡ true
  by_way (inl k) = among-stays w c priority (take_call c q) x k
  by_way (inr k) = subst (λ n. has same_call (put_by_priority w c priority (take_call c q)) n ≡ true) (same-call c x k) (among-new w c priority (take_call c q))

edited-stays : (f : List CallNo → List CallNo) → ((q : List CallNo) (x : CallNo) → has same_call q x ≡ true → has same_call (f q) x ≡ true)
    → (queues : List (List CallNo)) (place k : ℕ) (x : CallNo)
    → has same_call (queue_at queues k) x ≡ true → has same_call (queue_at (edit_at place f queues) k) x ≡ true
edited-stays f stays [] place k x h = h
edited-stays f stays (q ∷ qs) zero zero x h = stays q x h
edited-stays f stays (q ∷ qs) zero (suc k) x h = h
edited-stays f stays (q ∷ qs) (suc place) zero x h = h
edited-stays f stays (q ∷ qs) (suc place) (suc k) x h = edited-stays f stays qs place k x h

-- who stood in a queue stands there when a queue is edited in which all stay
pub queue-stays : (owner : Owner) (place : ℕ) (f : List CallNo → List CallNo)
    → ((q : List CallNo) (x : CallNo) → has same_call q x ≡ true → has same_call (f q) x ≡ true) → (w : World) (o : Owner) (k : ℕ) (x : CallNo)
    → Stands w o k x → Stands (edit_queue owner place f w) o k x
queue-stays (owned_by.Task t) place f stays w (owned_by.Task n) k x h =
    task-edited (who.Task t) (λ u. record u { queues = edit_at place f u.queues }) w (λ u. refl)
    (λ me a b. has same_call (queue_at a.queues k) x ≡ true → has same_call (queue_at b.queues k) x ≡ true)
    (λ me e. e) (λ e. edited-stays f stays (task_of w (who.Task t)).queues place k x e) (who.Task n) h
queue-stays (owned_by.Task t) place f stays w (owned_by.Object o) k x h = subst (λ xs. StandsAt xs o k x) (sym (edit_task-objects (who.Task t) _ w)) h
queue-stays (owned_by.Object q) place f stays w (owned_by.Task n) k x h = h
queue-stays (owned_by.Object q) place f stays w (owned_by.Object o) k x h =
    numbered.edited object_key o.0 q.0 (λ (u : Object). record u { queues = edit_at place f u.queues }) (λ u. refl)
    (λ y. has same_call (queue_at (queues_of y) k) x ≡ true) w.objects h
    (λ u is. edited-stays f stays u.queues place k x (subst (λ y. has same_call (queue_at (queues_of y) k) x ≡ true) is h))

pub queue-open : (owner : Owner) (place : ℕ) (f : List CallNo → List CallNo) (w : World) (o : Owner) → Open w o → Open (edit_queue owner place f w) o
queue-open (owned_by.Task t) place f w (owned_by.Task n) is =
    task-edited (who.Task t) (λ u. record u { queues = edit_at place f u.queues }) w (λ u. refl) (λ me a b. b.completed ≡ a.completed) (λ me. refl) refl
    (who.Task n)
    ∙ is
queue-open (owned_by.Task t) place f w (owned_by.Object o) is = tt
queue-open (owned_by.Object q) place f w (owned_by.Task n) is = is
queue-open (owned_by.Object q) place f w (owned_by.Object o) is = tt

-- in a list of queues that is edited at a place
edited-comes : (f : List CallNo → List CallNo) (c : CallNo) → ((q : List CallNo) (x : CallNo) → has same_call (f q) x ≡ true → Comes c q x)
    → (queues : List (List CallNo)) (place k : ℕ) (x : CallNo)
    → has same_call (queue_at (edit_at place f queues) k) x ≡ true → ((same_call c x ≡ true) × (k ≡ place)) ⊎ (has same_call (queue_at queues k) x ≡ true)
edited-comes f c comes [] place k x h = inr h
edited-comes f c comes (q ∷ qs) zero zero x h = first (comes q x h) where
  first : Comes c q x → ((same_call c x ≡ true) × (zero ≡ zero)) ⊎ (has same_call q x ≡ true)
  first (inl e) = inl (e, refl)
  first (inr e) = inr e
edited-comes f c comes (q ∷ qs) zero (suc k) x h = inr h
edited-comes f c comes (q ∷ qs) (suc place) zero x h = inr h
edited-comes f c comes (q ∷ qs) (suc place) (suc k) x h = later (edited-comes f c comes qs place k x h) where
  later : ((same_call c x ≡ true) × (k ≡ place)) ⊎ (has same_call (queue_at qs k) x ≡ true)
      → ((same_call c x ≡ true) × (suc k ≡ suc place)) ⊎ (has same_call (queue_at qs k) x ≡ true)
  later (inl e) = inl (e.0, ap suc e.1)
  later (inr e) = inr e

-- what stands in the queues behind is the new one, or stood there
pub queue-comes : (owner : Owner) (place : ℕ) (f : List CallNo → List CallNo) (c : CallNo)
    → ((q : List CallNo) (x : CallNo) → has same_call (f q) x ≡ true → Comes c q x) → (w : World) (o : Owner) (k : ℕ) (x : CallNo)
    → Stands (edit_queue owner place f w) o k x → ((same_call c x ≡ true) × (o ≡ owner) × (k ≡ place)) ⊎ Stands w o k x
queue-comes (owned_by.Task t) place f c comes w (owned_by.Task n) k x h =
    task-edited (who.Task t) (λ u. record u { queues = edit_at place f u.queues }) w (λ u. refl)
    (λ me a b. (m : TaskNo) → me ≡ who.Task m → has same_call (queue_at b.queues k) x ≡ true
    → ((same_call c x ≡ true) × (owned_by.Task m ≡ owned_by.Task t) × (k ≡ place)) ⊎ (has same_call (queue_at a.queues k) x ≡ true))
    (λ me m is e. inr e)
    (λ m is e. new m is (edited-comes f c comes (task_of w (who.Task t)).queues place k x e)) (who.Task n) n refl h where
      same-task : (m : TaskNo) → who.Task t ≡ who.Task m → m ≡ t
      same-task m is = cc

      new : (m : TaskNo) → who.Task t ≡ who.Task m
          → ((same_call c x ≡ true) × (k ≡ place)) ⊎ (has same_call (queue_at (task_of w (who.Task t)).queues k) x ≡ true)
          → ((same_call c x ≡ true) × (owned_by.Task m ≡ owned_by.Task t) × (k ≡ place)) ⊎ (has same_call (queue_at (task_of w (who.Task t)).queues k) x ≡ true)
      new m is (inl e) = inl (e.0, ap owned_by.Task (same-task m is), e.1)
      new m is (inr e) = inr e
queue-comes (owned_by.Task t) place f c comes w (owned_by.Object o) k x h = inr (subst (λ xs. StandsAt xs o k x) (edit_task-objects (who.Task t) _ w) h)
queue-comes (owned_by.Object q) place f c comes w (owned_by.Task n) k x h = inr h
queue-comes (owned_by.Object q) place f c comes w (owned_by.Object o) k x h =
    by_number (eqb o.0 q.0) refl where
      after : Object → Object
      after u = record u { queues = edit_at place f u.queues }

      of-found : (found : Option Object) → has same_call (queue_at (queues_of (option_map after found)) k) x ≡ true
          → ((same_call c x ≡ true) × (k ≡ place)) ⊎ (has same_call (queue_at (queues_of found) k) x ≡ true)
      of-found None e = inr e
      of-found (Some u) e = edited-comes f c comes u.queues place k x e

      as-owner : o ≡ q → ((same_call c x ≡ true) × (k ≡ place)) ⊎ (has same_call (queue_at (queues_of (find (is_object q) w.objects)) k) x ≡ true)
          → ((same_call c x ≡ true) × (owned_by.Object o ≡ owned_by.Object q) × (k ≡ place)) ⊎ StandsAt w.objects o k x
      as-owner one (inl e) = inl (e.0, ap owned_by.Object one, e.1)
      as-owner one (inr e) = inr (subst (λ n. StandsAt w.objects n k x) (sym one) e)

      by_number : (b : Bool) → eqb o.0 q.0 ≡ b → ((same_call c x ≡ true) × (owned_by.Object o ≡ owned_by.Object q) × (k ≡ place)) ⊎ StandsAt w.objects o k x
      by_number true e =
          let one : o ≡ q = ap (λ (n : ℕ). record { 0 = n }) (eqb-true o.0 q.0 e) in
          as-owner one (of-found (find (is_object q) w.objects)
          (subst (λ found. has same_call (queue_at (queues_of found) k) x ≡ true) (numbered.edited-same object_key q.0 after (λ u. refl) w.objects)
          (subst (λ n. StandsAt (edit_object q after w).objects n k x) one h)))
      by_number false e =
          inr (subst (λ found. has same_call (queue_at (queues_of found) k) x ≡ true) (edited-other object_key o.0 q.0 after (λ u. refl) e w.objects) h)
