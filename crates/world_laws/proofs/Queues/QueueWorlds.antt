-- In every world that a run reaches the entry queues are right, and the call of each time-out may time out.
use Rattle.std.proofs.Common.{◌≡◌, ℕ, suc, ◌+◌, ◌<◌, Bool, true, false, cond, not, ◌&&◌, ◌||◌, ◌⊎◌, inl, inr}
use Rattle.std.proofs.Common.{eqb, ltb, List, [], ◌∷◌, Option, Some, None, refl, sym, subst, ap, ◌∙◌, arith}
use Rattle.std.specs.Prelude.{find, is_some}
use Rattle.std.specs.List.{list_all, list_any}
use Rattle.std.proofs.lemmas.Bool.{and_from, eq-eqb, eqb-true, or_left, or_right, true≢false}
use Rattle.ann_base.specs.declared.identities.CallNo.{CallNo}
use Rattle.trace_text.specs.declared.events.Who.{Who}
use Rattle.trace_text.specs.declared.events.Who.TheVariants as who
use Rattle.profile_image.specs.declared.image.Image.{Image}
use Rattle.profile_machine.specs.declared.world.World.{World}
use Rattle.profile_machine.specs.declared.world.appointments.Appointment.{Appointment}
use Rattle.profile_machine.specs.declared.world.appointments.Due.{Due}
use Rattle.profile_machine.specs.declared.world.appointments.Due.TheVariants as due_for
use Rattle.profile_machine.specs.declared.world.calls.Call.{Call}
use Rattle.profile_machine.specs.declared.world.calls.Owner.{Owner}
use Rattle.profile_machine.specs.declared.world.calls.Owner.TheVariants as owned_by
use Rattle.profile_machine.specs.declared.world.objects.Object.{Object}
use Rattle.profile_machine.specs.declared.world.tasks.Task.{Task}
use Rattle.profile_image.specs.Words.{same_call, has}
use Rattle.profile_machine.specs.Calls.{call_of, place_of_entry, queue_of}
use Rattle.profile_machine.specs.Appointments.{is_appointed, is_timeout_of}
use Rattle.profile_machine.specs.Sending.{may_time_out, stands_in_queue, still_serves}
use Rattle.profile_machine.specs.Tasks.{task_of}
use Rattle.profile_machine.specs.Values.{is_object, queue_at, queues_of}
use Rattle.profile_machine.specs.WellFormed.{all_adjacent, is_queued_call, queue_is_right, queues_from, task_queues_are_right, queues_are_right}
use Rattle.machine_laws.specs.NumberLaws.{calls_fall}
use Rattle.world_laws.specs.QueueWorlds.{ReachedQueuesAreRight, ReachedTimeoutsAreAwaited, is_timeout_awaited}
use Rattle.machine_laws.proofs.ListLemmas.{Falls}
use Rattle.world_laws.proofs.Queues.CallChanges.{stands-where}
use Rattle.world_laws.proofs.Queues.CallLists.{same-call}
use Rattle.world_laws.proofs.Queues.Kept.CallEnds.{found-directed, found-number}
use Rattle.world_laws.proofs.Queues.Kept.Run.{reached-good}
use Rattle.world_laws.proofs.Queues.Listed.{AllTasks, listed-each}
use Rattle.world_laws.proofs.Queues.Numbers.{calls-fall}
use Rattle.world_laws.proofs.Queues.Standing.{Awaited, Good, Open, Stands, is_named, is_task, none_late, object_key}

-- ---- a queue in which each call stands rightly

right-found : (p : Image) (w : World) (o : Owner) (k : ℕ) (c : CallNo) → Good p w → Stands w o k c → is_queued_call p o k (call_of w c) ≡ true
right-found p w o k c good h = by_found (call_of w c) refl (good.there o k c h) where
  by_found : (found : Option Call) → call_of w c ≡ found → is_some found ≡ true → is_queued_call p o k found ≡ true
  by_found None e there = absurd (true≢false (sym there))
  by_found (Some d) e there = good.right o k c d h e

each-right : (p : Image) (w : World) (o : Owner) (k : ℕ) (queue : List CallNo) → Good p w → ((c : CallNo) → has same_call queue c ≡ true → Stands w o k c)
    → queue_is_right p w o k queue ≡ true
each-right p w o k [] good stands = refl
each-right p w o k (c ∷ cs) good stands =
    and_from (is_queued_call p o k (call_of w c)) (queue_is_right p w o k cs)
    (right-found p w o k c good (stands c (or_left (same_call c c) (has same_call cs c) (eq-eqb c.0 c.0 refl))))
    (each-right p w o k cs good (λ x h. stands x (or_right (same_call c x) (has same_call cs x) h)))

-- those of an owner, from a place on
pub all-from : (p : Image) (w : World) (o : Owner) (place : ℕ) (queues : List (List CallNo)) → Good p w
    → ((k : ℕ) (c : CallNo) → has same_call (queue_at queues k) c ≡ true → Stands w o (place + k) c) → queues_from p w o place queues ≡ true
all-from p w o place [] good stands = refl
all-from p w o place (queue ∷ queues) good stands =
    and_from (queue_is_right p w o place queue) (queues_from p w o (suc place) queues)
    (each-right p w o place queue good (λ c h. subst (λ n. Stands w o n c) (omega arith) (stands 0 c h)))
    (all-from p w o (suc place) queues good (λ k c h. subst (λ n. Stands w o n c) (omega arith) (stands (suc k) c h)))

-- ---- of tasks

task-right : (p : Image) (w : World) (t : Task) (name : Who) → Good p w → is_task name ≡ true → task_of w name ≡ t
    → task_queues_are_right p w name t.queues ≡ true
task-right p w t (who.Task n) good named is =
    all-from p w (owned_by.Task n) 0 t.queues good
    (λ k c h. subst (λ m. Stands w (owned_by.Task n) m c) (omega arith) (subst (λ u. has same_call (queue_at u.queues k) c ≡ true) (sym is) h))
task-right p w t who.Agent good named is = absurd (true≢false (sym named))

tasks-right : (p : Image) (w : World) (ts : List Task) → Good p w → AllTasks (λ t. (task_of w t.who ≡ t) × (is_named t ≡ true)) ts
    → list_all (λ t. task_queues_are_right p w t.who t.queues) ts ≡ true
tasks-right p w [] good all = refl
tasks-right p w (t ∷ ts) good all =
    and_from (task_queues_are_right p w t.who t.queues) (list_all (λ u. task_queues_are_right p w u.who u.queues) ts)
    (task-right p w t t.who good all.0.1 all.0.0) (tasks-right p w ts good all.1)

-- ---- of objects

abbrev AllObjects : (Object → Type 0) → List Object → Type 0
AllObjects P [] = Unit {0}
AllObjects P (x ∷ xs) = P x × AllObjects P xs

map-objects : (P Q : Object → Type 0) → ((x : Object) → P x → Q x) → (xs : List Object) → AllObjects P xs → AllObjects Q xs
map-objects P Q f [] all = tt
map-objects P Q f (x ∷ xs) all = (f x all.0, map-objects P Q f xs all.1)

pair-objects : (P Q : Object → Type 0) (xs : List Object) → AllObjects P xs → AllObjects Q xs → AllObjects (λ x. P x × Q x) xs
pair-objects P Q [] one two = tt
pair-objects P Q (x ∷ xs) one two = ((one.0, two.0), pair-objects P Q xs one.1 two.1)

below-all : (top : ℕ) (xs : List Object) → Falls object_key top xs → AllObjects (λ x. object_key x < top) xs
below-all top [] h = tt
below-all top (x ∷ xs) h = (
  h.0,
  map-objects (λ y. object_key y < object_key x) (λ y. object_key y < top) (λ y low. let first : object_key x < top = h.0 in omega (arith, first, low)) xs
      (below-all (object_key x) xs h.1),
)

not-equal : (m n : ℕ) → m < n → eqb m n ≡ false
not-equal m n less = by_test (eqb m n) refl where
  by_test : (b : Bool) → eqb m n ≡ b → b ≡ false
  by_test true e = let same : m ≡ n = eqb-true m n e in absurd (omega (arith, less, same))
  by_test false e = refl

found-objects : (top : ℕ) (xs : List Object) → Falls object_key top xs → AllObjects (λ x. find (is_object x.number) xs ≡ Some x) xs
found-objects top [] h = tt
found-objects top (x ∷ xs) h = (
  ap (λ b. cond b (Some x) (find (is_object x.number) xs)) (eq-eqb x.number.0 x.number.0 refl),
  map-objects (λ y. (find (is_object y.number) xs ≡ Some y) × (object_key y < object_key x)) (λ y. find (is_object y.number) (x ∷ xs) ≡ Some y)
      (λ y both_. ap (λ b. cond b (Some x) (find (is_object y.number) xs)) (not-equal y.number.0 x.number.0 both_.1) ∙ both_.0) xs
      (pair-objects (λ y. find (is_object y.number) xs ≡ Some y) (λ y. object_key y < object_key x) xs (found-objects (object_key x) xs h.1)
      (below-all (object_key x) xs h.1)),
)

objects-right : (p : Image) (w : World) (xs : List Object) → Good p w → AllObjects (λ x. find (is_object x.number) w.objects ≡ Some x) xs
    → list_all (λ o. queues_from p w (owned_by.Object o.number) 0 o.queues) xs ≡ true
objects-right p w [] good all = refl
objects-right p w (x ∷ xs) good all =
    and_from (queues_from p w (owned_by.Object x.number) 0 x.queues) (list_all (λ o. queues_from p w (owned_by.Object o.number) 0 o.queues) xs)
    (all-from p w (owned_by.Object x.number) 0 x.queues good
    (λ k c h. subst (λ m. Stands w (owned_by.Object x.number) m c) (omega arith)
    (subst (λ found. has same_call (queue_at (queues_of found) k) c ≡ true) (sym all.0) h)))
    (objects-right p w xs good all.1)

good-right : (p : Image) (w : World) → Good p w → calls_fall w ≡ true → queues_are_right p w ≡ true
good-right p w good fall =
    let tasks = list_all (λ t. task_queues_are_right p w t.who t.queues) w.tasks in
    let objects = list_all (λ o. queues_from p w (owned_by.Object o.number) 0 o.queues) w.objects in
    and_from (tasks && objects) (all_adjacent (λ a b. ltb b.number.0 a.number.0) w.calls)
    (and_from tasks objects (tasks-right p w w.tasks good (listed-each p w good))
    (objects-right p w w.objects good (found-objects (suc w.drawn.objects) w.objects good.objects.0))) fall

pub reached_queues_are_right : ReachedQueuesAreRight
reached_queues_are_right p script bound w reached = good-right p w (reached-good p script bound w reached) (calls-fall p script bound w reached)

-- ---- time-outs

has-any : (c : CallNo) (queue : List CallNo) → has same_call queue c ≡ true → list_any (same_call c) queue ≡ true
has-any c [] h = h
has-any c (x ∷ xs) h = step (same_call x c) refl h (has-any c xs) where
  step : (b : Bool) → same_call x c ≡ b → (b || has same_call xs c) ≡ true → (has same_call xs c ≡ true → list_any (same_call c) xs ≡ true)
      → (same_call c x || list_any (same_call c) xs) ≡ true
  step true is k onward = or_left (same_call c x) (list_any (same_call c) xs) (subst (λ n. same_call c n ≡ true) (sym (same-call x c is)) (eq-eqb c.0 c.0 refl))
  step false is k onward = or_right (same_call c x) (list_any (same_call c) xs) (onward k)

open-serves : (w : World) (o : Owner) → Open w o → still_serves w o ≡ true
open-serves w (owned_by.Task t) is = ap not is
open-serves w (owned_by.Object o) is = refl

awaited-may : (p : Image) (w : World) (c : CallNo) → Good p w → Awaited c w → (found : Option Call) → call_of w c ≡ found → may_time_out p w found ≡ true
awaited-may p w c good a None e = absurd (true≢false (sym (good.there a.owner a.place c a.stands) ∙ ap is_some e))
awaited-may p w c good a (Some d) e =
    let number = found-number c w d e in
    let place =
    stands-where p w a.owner a.place d good (found-directed d.number w d (subst (λ n. call_of w n ≡ Some d) (sym number) e))
    (subst (λ n. Stands w a.owner a.place n) (sym number) a.stands) in
    let queue = queue_of w d.owner (place_of_entry p d.entry) in
    let here : has same_call queue c ≡ true =
    subst (λ o. Stands w o (place_of_entry p d.entry) c) place.0 (subst (λ k. Stands w a.owner k c) place.1 a.stands) in
    and_from (stands_in_queue p w d && not d.firm) (still_serves w d.owner)
    (and_from (stands_in_queue p w d) (not d.firm) (subst (λ n. list_any (same_call n) queue ≡ true) (sym number) (has-any c queue here))
    (ap not (a.unfirm d e)))
    (open-serves w d.owner (subst (Open w) place.0 a.opens))

due-awaited : (p : Image) (w : World) (due : Due) → Good p w → ((c : CallNo) → is_timeout_of c due ≡ true → is_appointed (is_timeout_of c) w ≡ true)
    → is_timeout_awaited p w due ≡ true
due-awaited p w (due_for.Event n h) good set = refl
due-awaited p w (due_for.Delay t) good set = refl
due-awaited p w (due_for.Timeout c) good set = by_way (good.awaited c (set c (eq-eqb c.0 c.0 refl))) where
  by_way : Awaited c w ⊎ (none_late c ≡ true) → may_time_out p w (call_of w c) ≡ true
  by_way (inl a) = awaited-may p w c good a (call_of w c) refl
  by_way (inr e) = absurd (true≢false (sym e))
due-awaited p w (due_for.Trigger t depth) good set = refl

all-awaited : (p : Image) (w : World) (appointments : List Appointment) → Good p w
    → ((c : CallNo) → list_any (λ a. is_timeout_of c a.due) appointments ≡ true → is_appointed (is_timeout_of c) w ≡ true)
    → list_all (λ a. is_timeout_awaited p w a.due) appointments ≡ true
all-awaited p w [] good set = refl
all-awaited p w (a ∷ rest) good set =
    and_from (is_timeout_awaited p w a.due) (list_all (λ x. is_timeout_awaited p w x.due) rest)
    (due-awaited p w a.due good (λ c h. set c (or_left (is_timeout_of c a.due) (list_any (λ x. is_timeout_of c x.due) rest) h)))
    (all-awaited p w rest good (λ c h. set c (or_right (is_timeout_of c a.due) (list_any (λ x. is_timeout_of c x.due) rest) h)))

pub reached_timeouts_are_awaited : ReachedTimeoutsAreAwaited
reached_timeouts_are_awaited p script bound w reached = all-awaited p w w.appointments (reached-good p script bound w reached) (λ c h. h)
