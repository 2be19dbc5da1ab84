-- One tick of a task that belongs to no group, where no timer is set, is one edit.
use Rattle.std.proofs.Common.{◌≡◌, ℕ, ◌-◌, Bool, true, false, cond, is_none, List, [], ◌∷◌, Option, Some}
use Rattle.std.proofs.Common.{None, find, filter, unwrap_or, refl, sym, ap, ◌∙◌}
use Rattle.std.proofs.Common.{Result, Ok, Err, OnOk}
use Rattle.ann_base.specs.Lists.{is_empty}
use Rattle.ann_base.specs.declared.identities.TaskNo.{TaskNo}
use Rattle.trace_text.specs.declared.events.Who.{Who}
use Rattle.trace_text.specs.declared.events.Who.TheVariants as who
use Rattle.profile_image.specs.declared.image.Image.{Image}
use Rattle.profile_image.specs.Words.{set_where}
use Rattle.profile_image.specs.Program.{is_robin_level}
use Rattle.profile_machine.specs.declared.world.World.{World}
use Rattle.profile_machine.specs.declared.world.tasks.Task.{Task}
use Rattle.profile_machine.specs.Cost.{cost}
use Rattle.profile_machine.specs.Handlers.{clock_risen, quantum_spent_by, is_reached_by, timers_reached}
use Rattle.profile_machine.specs.Handlers.{due_by_tick, charge_budget, charge_clock, charge_group, charge_task}
use Rattle.profile_machine.specs.Run.{begin_action, spend_tick, one_tick_less}
use Rattle.profile_machine.specs.Values.{timer_of}
use Rattle.profile_machine.specs.Tasks.{is_who, nobody, task_at, task_of, with_task, with_ticks, edit_task, edit_task_found}
use Rattle.machine_releases.specs.Alone.{charged_itself}
use Rattle.machine_ticks.specs.Alone.{ticked, ticks_without_group, ticks_alone, ticked_itself, ticked_alone}

-- ---- an item that is set where one was found

cond_true : {X : Type 0} (b : Bool) (x y : X) → b ≡ true → cond b x y ≡ x
cond_true true x y e = refl
cond_true false x y e = cc

module _ {X : Type 0} (test : X → Bool) where
  -- what is found passes the test
  passes_from : (b : Bool) (x y : X) (rest : Option X) → test x ≡ b → (rest ≡ Some y → test y ≡ true) → cond b (Some x) rest ≡ Some y → test y ≡ true
  passes_from true x y rest t k e = cc
  passes_from false x y rest t k e = k e

  passes : (xs : List X) (y : X) → find test xs ≡ Some y → test y ≡ true
  passes [] y e = cc
  passes (x ∷ xs) y e = passes_from (test x) x y (find test xs) refl (passes xs y) e

  -- what is set there is found there
  found_from : (b : Bool) (x y z : X) (xs : List X) → test x ≡ b → test z ≡ true → (find test xs ≡ Some y → find test (set_where test z xs) ≡ Some z)
      → cond b (Some x) (find test xs) ≡ Some y → find test (cond b (z ∷ xs) (x ∷ set_where test z xs)) ≡ Some z
  found_from true x y z xs t p k e = cond_true (test z) (Some z) (find test xs) p
  found_from false x y z xs t p k e = ap (λ b. cond b (Some x) (find test (set_where test z xs))) t ∙ k e

  found_set : (xs : List X) (y z : X) → test z ≡ true → find test xs ≡ Some y → find test (set_where test z xs) ≡ Some z
  found_set [] y z p e = cc
  found_set (x ∷ xs) y z p e = found_from (test x) x y z xs refl p (found_set xs y z p) e

  -- the last of two that are set there stays
  set_from : (b : Bool) (x y z : X) (xs : List X) → test x ≡ b → test y ≡ true → set_where test z (set_where test y xs) ≡ set_where test z xs
      → set_where test z (cond b (y ∷ xs) (x ∷ set_where test y xs)) ≡ cond b (z ∷ xs) (x ∷ set_where test z xs)
  set_from true x y z xs t p k = cond_true (test y) (z ∷ xs) (y ∷ set_where test z xs) p
  set_from false x y z xs t p k = ap (λ b. cond b (z ∷ set_where test y xs) (x ∷ set_where test z (set_where test y xs))) t ∙ ap (λ ys. x ∷ ys) k

  set_twice : (xs : List X) (y z : X) → test y ≡ true → set_where test z (set_where test y xs) ≡ set_where test z xs
  set_twice [] y z p = refl
  set_twice (x ∷ xs) y z p = set_from (test x) x y z xs refl p (set_twice xs y z p)

-- ---- the edits of a charge

-- one edit more of the task that is there
edited : (n : TaskNo) (f : Task → Task) (w : World) (t u : Task) → find (is_who (who.Task n)) w.tasks ≡ Some t → is_who (who.Task n) u ≡ true
    → edit_task (who.Task n) f (with_task (who.Task n) u w) ≡ with_task (who.Task n) (f u) w
edited n f w t u e p =
    ap (edit_task_found (who.Task n) f (with_task (who.Task n) u w)) (found_set (is_who (who.Task n)) w.tasks t u p e)
    ∙ ap {A = List Task} (λ ts. record w { tasks = ts }) (set_twice (is_who (who.Task n)) w.tasks u (f u) p)

none_is : (o : Option ℕ) → is_none o ≡ true → o ≡ None
none_is None e = refl
none_is (Some x) e = cc

-- without timers that are set, none is reached
clock_alone : (n : TaskNo) (w : World) (t : Task) → find (is_who (who.Task n)) w.tasks ≡ Some t → w.timers_set ≡ []
    → charge_clock n w ≡ record (with_task (who.Task n) (clock_risen t) w) { timers_due = [] }
clock_alone n w t e s =
    ap {A = World} (λ next. record next { timers_due = timers_reached n next }) (ap (edit_task_found (who.Task n) clock_risen w) e)
    ∙ ap {A = List ℕ}
    (λ set. record (with_task (who.Task n) (clock_risen t) w) {
      timers_due =
          filter (λ k. is_reached_by n (task_of (with_task (who.Task n) (clock_risen t) w) (who.Task n)).cpu_ticks
          (timer_of (with_task (who.Task n) (clock_risen t) w) k)) set;
    }) s

-- a task without a group has no budget that becomes due
group_alone : (n : TaskNo) (w : World) (t : Task) → find (is_who (who.Task n)) w.tasks ≡ Some t → t.budget ≡ None
    → charge_group n w ≡ record w { budget_due = None }
group_alone n w t e b =
    ap {A = Option ℕ} (λ budget. record (charge_budget budget w) { budget_due = due_by_tick w budget })
    (ap {A = Option Task} (λ o. (unwrap_or o nobody).budget) e ∙ b)

alone_is : (p : Image) (n : TaskNo) (w : World) (t : Task) → find (is_who (who.Task n)) w.tasks ≡ Some t → t.budget ≡ None → w.timers_set ≡ []
    → charge_task p n w ≡ record (with_task (who.Task n) (charged_itself p t) w) { timers_due = []; budget_due = None }
alone_is p n w t e b s =
    let there = passes (is_who (who.Task n)) w.tasks t e in
    let risen = found_set (is_who (who.Task n)) w.tasks t (clock_risen t) there e in
    ap {A = World} (λ x. edit_task (who.Task n) (quantum_spent_by p) (charge_group n x)) (clock_alone n w t e s)
    ∙ (ap (edit_task (who.Task n) (quantum_spent_by p))
    (group_alone n (record (with_task (who.Task n) (clock_risen t) w) { timers_due = [] }) (clock_risen t) risen b)
    ∙ edited n (quantum_spent_by p) (record w { timers_due = []; budget_due = None }) t (clock_risen t) e there)

-- ---- a tick

-- what is spent of an action of so many ticks, whatever the quantum
spent-by : (b : Bool) (ticks : ℕ) (t : Task)
    → with_ticks (one_tick_less (cond b (record (with_ticks (Some ticks) t) { quantum = t.quantum - 1 }) (with_ticks (Some ticks) t)).ticks_left)
    (cond b (record (with_ticks (Some ticks) t) { quantum = t.quantum - 1 }) (with_ticks (Some ticks) t))
    ≡ with_ticks (Some (ticks - 1)) (cond b (record t { quantum = t.quantum - 1 }) t)
spent-by true ticks t = refl
spent-by false ticks t = refl

who-kept : (n : TaskNo) (b : Bool) (t : Task) → is_who (who.Task n) t ≡ true → is_who (who.Task n) (cond b (record t { quantum = t.quantum - 1 }) t) ≡ true
who-kept n true t h = h
who-kept n false t h = h

module _ (p : Image) (n : TaskNo) (w : World) (t : Task) (e : find (is_who (who.Task n)) w.tasks ≡ Some t) (b : t.budget ≡ None) (s : w.timers_set ≡ [])
    (ticks : ℕ) where
  there : is_who (who.Task n) t ≡ true
  there = passes (is_who (who.Task n)) w.tasks t e

  begun-found : find (is_who (who.Task n)) (with_task (who.Task n) (with_ticks (Some ticks) t) w).tasks ≡ Some (with_ticks (Some ticks) t)
  begun-found = found_set (is_who (who.Task n)) w.tasks t (with_ticks (Some ticks) t) there e

  put-twice : (u : Task) → with_task (who.Task n) u (with_task (who.Task n) (with_ticks (Some ticks) t) w) ≡ with_task (who.Task n) u w
  put-twice u = ap {A = List Task} (λ ts. record w { tasks = ts }) (set_twice (is_who (who.Task n)) w.tasks (with_ticks (Some ticks) t) u there)

  charged : charge_task p n (with_task (who.Task n) (with_ticks (Some ticks) t) w)
      ≡ record (with_task (who.Task n) (charged_itself p (with_ticks (Some ticks) t)) w) { timers_due = []; budget_due = None }
  charged = alone_is p n (with_task (who.Task n) (with_ticks (Some ticks) t) w) (with_ticks (Some ticks) t) begun-found b s
      ∙ ap {A = World} (λ x. record x { timers_due = []; budget_due = None }) (put-twice (charged_itself p (with_ticks (Some ticks) t)))

  charged-there : is_who (who.Task n) (charged_itself p (with_ticks (Some ticks) t)) ≡ true
  charged-there = who-kept n (is_robin_level p t.base) (clock_risen (with_ticks (Some ticks) t)) there

  spent : spend_tick (who.Task n) (charge_task p n (with_task (who.Task n) (with_ticks (Some ticks) t) w))
      ≡ record (with_task (who.Task n) (ticked_itself p ticks t) w) { timers_due = []; budget_due = None }
  spent = ap (spend_tick (who.Task n)) charged
      ∙ (edited n (λ x. with_ticks (one_tick_less x.ticks_left) x) (record w { timers_due = []; budget_due = None }) t
      (charged_itself p (with_ticks (Some ticks) t)) e charged-there
      ∙ ap {A = Task} (λ x. record (with_task (who.Task n) x w) { timers_due = []; budget_due = None })
      (spent-by (is_robin_level p t.base) ticks (clock_risen t)))

-- where an action begins or goes on
begins : (p : Image) (n : TaskNo) (w : World) (t : Task) → task_at w (who.Task n) ≡ Some t
    → begin_action p (who.Task n) w ≡ with_task (who.Task n) (with_ticks (Some (unwrap_or t.ticks_left (cost p w (who.Task n)))) t) w
begins p n w t e =
    ap {A = Option Task} (λ o. edit_task_found (who.Task n) (with_ticks (Some (unwrap_or (unwrap_or o nobody).ticks_left (cost p w (who.Task n))))) w o) e

picked : (budget : Option ℕ) (n k : ℕ) → cond (is_none budget) (Some n) None ≡ Some k → (budget ≡ None) × (n ≡ k)
picked None n k e = (refl, cc)
picked (Some g) n k e = (cc, cc)

found_alone : (p : Image) (n : TaskNo) (w : World) (o : Option Task) (k : ℕ) → task_at w (who.Task n) ≡ o → w.timers_set ≡ []
    → ticks_without_group (cost p w (who.Task n)) o ≡ Some k → ticked_alone p n k w ≡ ticked p (who.Task n) w
found_alone p n w None k e s a = cc
found_alone p n w (Some t) k e s a =
    let h = picked t.budget (unwrap_or t.ticks_left (cost p w (who.Task n))) k a in
    let begun = begins p n w t e ∙ ap {A = ℕ} (λ m. with_task (who.Task n) (with_ticks (Some m) t) w) h.1 in
    ap {A = World} (λ x. record x { timers_due = []; budget_due = None }) (ap (edit_task_found (who.Task n) (ticked_itself p k) w) e)
    ∙ sym (ap {A = World} (λ x. spend_tick (who.Task n) (charge_task p n x)) begun ∙ spent p n w t e h.0 s k)

empty_is : (xs : List ℕ) → is_empty xs ≡ true → xs ≡ []
empty_is [] e = refl
empty_is (x ∷ xs) e = cc

under : (b : Bool) (x : Option ℕ) (k : ℕ) → cond b x None ≡ Some k → (b ≡ true) × (x ≡ Some k)
under true x k e = (refl, e)
under false x k e = (cc, cc)

pub done_alone : (p : Image) (n : TaskNo) (w : World) (k : ℕ) → ticks_alone p (who.Task n) w ≡ Some k → ticked_alone p n k w ≡ ticked p (who.Task n) w
done_alone p n w k e =
    let h = under (is_empty w.timers_set) (ticks_without_group (cost p w (who.Task n)) (task_at w (who.Task n))) k e in
    found_alone p n w (task_at w (who.Task n)) k refl (empty_is w.timers_set h.0) h.1

-- the same of what a call has done
pub ticked-as : {X E : Type 0} (p : Image) (n : TaskNo) (w u : World) (k : ℕ) (name : Who) (r : Result X E) → name ≡ who.Task n
    → Some k ≡ ticks_alone p name w → OnOk r (u ≡ ticked_alone p n k w) → OnOk r (u ≡ ticked p name w)
ticked-as p n w u k name (Ok x) e a h =
    h ∙ (done_alone p n w k (sym (a ∙ ap (λ m. ticks_alone p m w) e)) ∙ ap (λ m. ticked p m w) (sym e))
ticked-as p n w u k name (Err fault) e a h = tt
