-- An instant of a busy world does nothing, and its tock passes one tick of the action.
use Rattle.std.proofs.Common.{◌≡◌, ℕ, zero, suc, ◌+◌, ◌-◌, ◌<◌, ◌≤◌, Bool, true, false, cond, not, eqb, ◌&&◌}
use Rattle.std.proofs.Common.{List, [], ◌∷◌, Option, Some, None, find, unwrap_or, refl, ap, ◌∙◌, arith}
use Rattle.std.specs.Option.{option_or}
use Rattle.ann_base.specs.Lists.{is_empty}
use Rattle.ann_base.specs.declared.identities.TaskNo.{TaskNo}
use Rattle.trace_text.specs.declared.events.Event.TheVariants as line
use Rattle.trace_text.specs.declared.events.Ended.TheVariants as why
use Rattle.trace_text.specs.declared.events.Who.{Who}
use Rattle.trace_text.specs.declared.events.Who.TheVariants as who
use Rattle.profile_image.specs.declared.image.Image.{Image}
use Rattle.profile_image.specs.Program.{is_robin_level}
use Rattle.profile_image.specs.Words.{set_where, same_option, same_who}
use Rattle.profile_machine.specs.declared.world.World.{World}
use Rattle.profile_machine.specs.declared.world.lines.Line.TheVariants as said
use Rattle.profile_machine.specs.declared.world.lines.Part.TheVariants.{Own}
use Rattle.profile_machine.specs.declared.world.tasks.Placed.{Placed}
use Rattle.profile_machine.specs.declared.world.tasks.Task.{Task}
use Rattle.profile_machine.specs.Steps.{Move, says, when, settles, settled, rests, ◌▷◌, ◌▶◌}
use Rattle.profile_machine.specs.Tasks.{is_who, nobody, is_runnable, task_at, task_of, edit_task, edit_task_found, with_ticks}
use Rattle.profile_machine.specs.Dispatching.{head_of, choose, to_tail, active}
use Rattle.profile_machine.specs.Frames.{any_protected}
use Rattle.profile_machine.specs.Cost.{cost}
use Rattle.profile_machine.specs.Handlers.{clock_risen, timers_reached, charge_budget, due_by_tick, quantum_spent_by, charge_clock, charge_group, charge}
use Rattle.profile_machine.specs.Instant.{effect, is_over, finish_action, has_spent_quantum, spend_quantum, quantum_spent, instant}
use Rattle.profile_machine.specs.Run.{stop, stop_by_bound, say, silently, serve, begin_action, one_tick_less, spend_tick, next_tick, tock_of, tock, run_from}
use Rattle.machine_laws.specs.IdleLaws.{NoneBefore, FirstNotBefore}
use Rattle.machine_laws.specs.BusyLaws.{working, behind_tick_of, busy_at}
use Rattle.machine_laws.proofs.QuietLemmas.{instant-quiet, run_from-quiet}

-- ---- an item that is set in the place of the one that was found

cond-true : {X : Type 0} (b : Bool) (x y : X) → b ≡ true → cond b x y ≡ x
cond-true true x y e = refl
cond-true false x y e = cc

module _ {X : Type 0} (test : X → Bool) where
  -- what is found passes the test
  passes-from : (b : Bool) (x y : X) (rest : Option X) → test x ≡ b → (rest ≡ Some y → test y ≡ true) → cond b (Some x) rest ≡ Some y → test y ≡ true
  passes-from true x y rest t k e = cc
  passes-from false x y rest t k e = k e

  passes : (xs : List X) (y : X) → find test xs ≡ Some y → test y ≡ true
  passes [] y e = cc
  passes (x ∷ xs) y e = passes-from (test x) x y (find test xs) refl (passes xs y) e

  -- what is set there is found there
  found-from : (b : Bool) (x y z : X) (xs : List X) → test x ≡ b → test z ≡ true → (find test xs ≡ Some y → find test (set_where test z xs) ≡ Some z)
      → cond b (Some x) (find test xs) ≡ Some y → find test (cond b (z ∷ xs) (x ∷ set_where test z xs)) ≡ Some z
  found-from true x y z xs t p k e = cond-true (test z) (Some z) (find test xs) p
  found-from false x y z xs t p k e = ap (λ b. cond b (Some x) (find test (set_where test z xs))) t ∙ k e

  found-set : (xs : List X) (y z : X) → test z ≡ true → find test xs ≡ Some y → find test (set_where test z xs) ≡ Some z
  found-set [] y z p e = cc
  found-set (x ∷ xs) y z p e = found-from (test x) x y z xs refl p (found-set xs y z p) e

  -- the last of two that are set there stays
  set-from : (b : Bool) (x y z : X) (xs : List X) → test x ≡ b → test y ≡ true → set_where test z (set_where test y xs) ≡ set_where test z xs
      → set_where test z (cond b (y ∷ xs) (x ∷ set_where test y xs)) ≡ cond b (z ∷ xs) (x ∷ set_where test z xs)
  set-from true x y z xs t p k = cond-true (test y) (z ∷ xs) (y ∷ set_where test z xs) p
  set-from false x y z xs t p k = ap (λ b. cond b (z ∷ set_where test y xs) (x ∷ set_where test z (set_where test y xs))) t ∙ ap (λ ys. x ∷ ys) k

  set-twice : (xs : List X) (y z : X) → test y ≡ true → set_where test z (set_where test y xs) ≡ set_where test z xs
  set-twice [] y z p = refl
  set-twice (x ∷ xs) y z p = set-from (test x) x y z xs refl p (set-twice xs y z p)

-- ---- tests

eqb-itself : (n : ℕ) → eqb n n ≡ true
eqb-itself n = grind arith

is_empty-chosen : (places : List Placed) (name : Who) → head_of places ≡ Some name → is_empty places ≡ false
is_empty-chosen [] name e = cc
is_empty-chosen (x ∷ xs) name e = refl

and-false : (a b : Bool) → b ≡ false → (a && b) ≡ false
and-false true b e = e
and-false false b e = refl

-- ---- a busy world

module _ (p : Image) (n : TaskNo) (w : World) (t : Task) (here : task_at w (who.Task n) ≡ Some t) where
  is-it : is_who (who.Task n) t ≡ true
  is-it = passes (is_who (who.Task n)) w.tasks t here

  -- the task is there, and an edit of it changes it alone
  there : (now : ℕ) (u : Task) → is_who (who.Task n) u ≡ true → task_at (behind_tick_of n w now u) (who.Task n) ≡ Some u
  there now u e = found-set (is_who (who.Task n)) w.tasks t u e here

  edited : (now : ℕ) (u : Task) (f : Task → Task) → is_who (who.Task n) u ≡ true
      → edit_task (who.Task n) f (behind_tick_of n w now u) ≡ behind_tick_of n w now (f u)
  edited now u f e =
      ap (edit_task_found (who.Task n) f (behind_tick_of n w now u)) (there now u e)
      ∙ ap {A = List Task} (λ ts. record (behind_tick_of n w now u) { tasks = ts }) (set-twice (is_who (who.Task n)) w.tasks u (f u) e)

  -- ---- the instant

  finish-busy : (now clock left : ℕ) → finish_action p (busy_at n w t now clock (suc left)) ≡ (busy_at n w t now clock (suc left), [])
  finish-busy now clock left =
      let some : is_over (Some (suc left)) ≡ false = grind arith in
      let over : is_over (task_of (busy_at n w t now clock (suc left)) (who.Task n)).ticks_left ≡ false =
      ap (λ o. is_over (unwrap_or o nobody).ticks_left) (there now (working t clock (suc left)) is-it) ∙ some in
      ap (λ b. (elim b as (λ _. Move) [ true ↦ settles p (effect p (who.Task n)) | false ↦ rests ]) (busy_at n w t now clock (suc left))) over

  quantum-busy : (now clock left : ℕ) → is_robin_level p t.base ≡ false → quantum_spent p (busy_at n w t now clock left) ≡ (busy_at n w t now clock left, [])
  unfolding spend_quantum
  quantum-busy now clock left plain =
      let u = working t clock left in
      let b = busy_at n w t now clock left in
      let kept : has_spent_quantum p u ≡ false =
      ap (λ x. x && eqb (active p u) u.base && is_empty u.inherited && not (any_protected u.frames))
      (and-false (is_runnable u && eqb u.quantum 0) (is_robin_level p u.base) plain) in
      ap (λ spent. settled p ((when spent (says Own (said.Quantum n) ▷ to_tail p Own (who.Task n))) b []))
      (ap (λ o. has_spent_quantum p (unwrap_or o nobody)) (there now u is-it) ∙ kept)

  instant-busy : (now clock left m : ℕ) → is_robin_level p t.base ≡ false → now < m → NoneBefore m w.appointments → FirstNotBefore m w.script
      → instant p (busy_at n w t now clock (suc left)) ≡ (busy_at n w t now clock (suc left), [])
  instant-busy now clock left m plain a h s =
      instant-quiet p (busy_at n w t now clock (suc left)) m (finish-busy now clock left) a h s refl refl (quantum-busy now clock (suc left) plain)

  stop-busy : (bound now clock left : ℕ) → choose w ≡ Some (who.Task n) → now < bound → stop p bound (busy_at n w t now clock left) ≡ None
  stop-busy bound now clock left first a =
      let below : eqb now bound ≡ false = grind arith in
      ap (λ b. option_or (cond (b && is_empty w.appointments && is_empty w.script) (Some why.Stuck) None) (stop_by_bound bound (busy_at n w t now clock left)))
      (is_empty-chosen w.places (who.Task n) first)
      ∙ ap (λ b. cond b (Some why.Bound) None) below

  -- ---- the tock

  begun-busy : (now clock left : ℕ) → begin_action p (who.Task n) (busy_at n w t now clock left) ≡ busy_at n w t now clock left
  begun-busy now clock left =
      let b = busy_at n w t now clock left in
      ap (λ o. edit_task (who.Task n) (with_ticks (Some (unwrap_or (unwrap_or o nobody).ticks_left (cost p b (who.Task n))))) b)
      (there now (working t clock left) is-it)
      ∙ edited now (working t clock left) (with_ticks (Some left)) is-it

  clock-busy : (now clock left : ℕ) → charge_clock n (busy_at n w t now clock left) ≡ busy_at n w t now (suc clock) left
  clock-busy now clock left =
      ap {A = World} (λ next. record next { timers_due = timers_reached n next }) (edited now (working t clock left) clock_risen is-it)

  group-busy : (now clock left : ℕ) → charge_group n (busy_at n w t now clock left) ≡ busy_at n w t now clock left
  group-busy now clock left =
      let b = busy_at n w t now clock left in
      ap {A = Option ℕ} (λ budget. record (charge_budget budget b) { budget_due = due_by_tick b budget })
      (ap (λ o. (unwrap_or o nobody).budget) (there now (working t clock left) is-it))

  quantum-kept : (now clock left : ℕ) → is_robin_level p t.base ≡ false
      → edit_task (who.Task n) (quantum_spent_by p) (busy_at n w t now clock left) ≡ busy_at n w t now clock left
  quantum-kept now clock left plain =
      let u = working t clock left in
      edited now u (quantum_spent_by p) is-it
      ∙ ap (λ robin. behind_tick_of n w now (cond robin (record u { quantum = u.quantum - 1 }) u)) plain

  charge-busy : (now clock left : ℕ) → is_robin_level p t.base ≡ false
      → charge p (who.Task n) (busy_at n w t now clock left) ≡ busy_at n w t now (suc clock) left
  charge-busy now clock left plain =
      ap (λ x. edit_task (who.Task n) (quantum_spent_by p) (charge_group n x)) (clock-busy now clock left)
      ∙ ap (edit_task (who.Task n) (quantum_spent_by p)) (group-busy now (suc clock) left)
      ∙ quantum-kept now (suc clock) left plain

  spent-busy : (now clock left : ℕ) → spend_tick (who.Task n) (busy_at n w t now clock (suc left)) ≡ busy_at n w t now clock left
  spent-busy now clock left =
      let less : suc left - 1 ≡ left = omega arith in
      edited now (working t clock (suc left)) (λ u. with_ticks (one_tick_less u.ticks_left) u) is-it
      ∙ ap (busy_at n w t now clock) less

  -- the world behind one tick
  worked-busy : (now clock left : ℕ) → is_robin_level p t.base ≡ false
      → next_tick (Some (who.Task n)) (spend_tick (who.Task n) (charge p (who.Task n) (begin_action p (who.Task n) (busy_at n w t now clock (suc left)))))
      ≡ busy_at n w t (suc now) (suc clock) left
  worked-busy now clock left plain =
      ap (λ x. next_tick (Some (who.Task n)) (spend_tick (who.Task n) (charge p (who.Task n) x))) (begun-busy now clock (suc left))
      ∙ ap (λ x. next_tick (Some (who.Task n)) (spend_tick (who.Task n) x)) (charge-busy now clock (suc left) plain)
      ∙ ap (next_tick (Some (who.Task n))) (spent-busy now (suc clock) left)

  -- a tick of who ran before says nothing
  tock-busy : (now clock left : ℕ) → choose w ≡ Some (who.Task n) → is_robin_level p t.base ≡ false
      → tock p (busy_at n w t now clock (suc left)) ≡ (busy_at n w t (suc now) (suc clock) left, [])
  tock-busy now clock left first plain =
      let name = who.Task n in
      let b = busy_at n w t now clock (suc left) in
      let again : same_option same_who (Some name) (Some name) ≡ true = eqb-itself n.0 in
      ap (λ c. tock_of p c b) first
      ∙ ap (λ same. (cond same rests (say (line.Run name)) ▶ serve name ▶ silently (begin_action p name) ▶ silently (charge p name) ▶ silently (spend_tick name)
      ▶ silently (next_tick (Some name))) b) again
      ∙ ap {A = World} (λ x. (x, [])) (worked-busy now clock left plain)

  run_from-busy : (fuel bound now clock left m : ℕ) → choose w ≡ Some (who.Task n) → is_robin_level p t.base ≡ false → now < m → now < bound
      → NoneBefore m w.appointments → FirstNotBefore m w.script
      → run_from (suc fuel) p bound (busy_at n w t now clock (suc left)) ≡ run_from fuel p bound (busy_at n w t (suc now) (suc clock) left)
  run_from-busy fuel bound now clock left m first plain a b h s =
      run_from-quiet fuel p bound (busy_at n w t now clock (suc left)) (busy_at n w t (suc now) (suc clock) left)
      (instant-busy now clock left m plain a h s) (stop-busy bound now clock (suc left) first b) (tock-busy now clock left first plain)

  -- ---- the stretch

  busy-stretch : (bound m now clock left k fuel : ℕ) → choose w ≡ Some (who.Task n) → is_robin_level p t.base ≡ false → now + k ≤ bound → now + k ≤ m
      → NoneBefore m w.appointments → FirstNotBefore m w.script
      → run_from (k + fuel) p bound (busy_at n w t now clock (k + left)) ≡ run_from fuel p bound (busy_at n w t (now + k) (clock + k) left)
  busy-stretch bound m now clock left zero fuel first plain a b h s =
      let none : zero + fuel ≡ fuel = omega arith in
      let same : now ≡ now + zero = omega arith in
      let still : clock ≡ clock + zero = omega arith in
      let all : zero + left ≡ left = omega arith in
      ap (λ f. run_from f p bound (busy_at n w t now clock (zero + left))) none
      ∙ ap (λ x. run_from fuel p bound (busy_at n w t now clock x)) all
      ∙ ap (λ x. run_from fuel p bound (busy_at n w t x clock left)) same
      ∙ ap (λ x. run_from fuel p bound (busy_at n w t (now + zero) x left)) still
  busy-stretch bound m now clock left (suc k) fuel first plain a b h s =
      let more : suc k + fuel ≡ suc (k + fuel) = omega arith in
      let all : suc k + left ≡ suc (k + left) = omega arith in
      let same : suc now + k ≡ now + suc k = omega arith in
      let risen : suc clock + k ≡ clock + suc k = omega arith in
      ap (λ f. run_from f p bound (busy_at n w t now clock (suc k + left))) more
      ∙ ap (λ x. run_from (suc (k + fuel)) p bound (busy_at n w t now clock x)) all
      ∙ run_from-busy (k + fuel) bound now clock (k + left) m first plain (omega arith) (omega arith) h s
      ∙ busy-stretch bound m (suc now) (suc clock) left k fuel first plain (omega arith) (omega arith) h s
      ∙ ap (λ x. run_from fuel p bound (busy_at n w t x (suc clock + k) left)) same
      ∙ ap (λ x. run_from fuel p bound (busy_at n w t (now + suc k) x left)) risen

pub busy_stretches : (p : Image) (bound : ℕ) (n : TaskNo) (w : World) (t : Task) (now clock left k fuel : ℕ) → now + k ≤ bound → task_at w (who.Task n) ≡ Some t
    → choose w ≡ Some (who.Task n) → is_robin_level p t.base ≡ false → NoneBefore (now + k) w.appointments → FirstNotBefore (now + k) w.script
    → run_from (k + fuel) p bound (busy_at n w t now clock (k + left)) ≡ run_from fuel p bound (busy_at n w t (now + k) (clock + k) left)
busy_stretches p bound n w t now clock left k fuel a here first plain h s =
    busy-stretch p n w t here bound (now + k) now clock left k fuel first plain a (omega arith) h s
