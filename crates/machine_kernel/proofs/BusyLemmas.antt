-- The ticks of an action that pass at once leave what is left of a run as it is, and stay within the bound.
use Rattle.std.proofs.Common.{◌≡◌, ℕ, zero, suc, ◌+◌, ◌-◌, ◌<◌, ◌≤◌, min, Bool, true, false, cond, not, ◌&&◌, ltb}
use Rattle.std.proofs.Common.{eqb, List, [], ◌∷◌, Option, Some, None, is_none, find, refl, sym, ap, ◌∙◌, arith}
use Rattle.std.proofs.lemmas.Bool.{and_parts, eqb-true}
use Rattle.ann_base.specs.Lists.{is_empty}
use Rattle.ann_base.specs.declared.identities.TaskNo.{TaskNo}
use Rattle.trace_text.specs.declared.events.Who.{Who}
use Rattle.trace_text.specs.declared.events.Who.TheVariants as who
use Rattle.profile_image.specs.declared.image.Image.{Image}
use Rattle.profile_image.specs.Program.{is_robin_level}
use Rattle.profile_image.specs.Words.{is_the, same_who, set_where}
use Rattle.profile_machine.specs.declared.world.World.{World}
use Rattle.profile_machine.specs.declared.world.tasks.Task.{Task}
use Rattle.profile_machine.specs.Tasks.{is_who, task_at, edit_task_found, with_task}
use Rattle.profile_machine.specs.Dispatching.{choose}
use Rattle.profile_machine.specs.Run.{run_from}
use Rattle.machine_laws.specs.IdleLaws.{IdleStretches}
use Rattle.machine_laws.specs.BusyLaws.{working, busy_at, BusyStretches}
use Rattle.machine_kernel.specs.Jump.{first_tick, jumped}
use Rattle.machine_kernel.specs.Busy.{is_quiet, goes_on_alone, ticks_of_action, ticks_of_task, busy_ticks}
use Rattle.machine_kernel.specs.Busy.{fewer, worked, behind_work, work_passes, passed_by, worked_on, passed}
use Rattle.machine_kernel.proofs.JumpLemmas.{none-there, none-given, first_ahead, first_ahead-appointments}
use Rattle.machine_kernel.proofs.JumpLemmas.{first_ahead-script, first_ahead-most, jumped-run, jumped-later}

-- ---- how many ticks pass

first_tick-most : (bound : ℕ) (w : World) → first_tick bound w - w.time ≤ bound - w.time
unfolding first_ahead
first_tick-most bound w = let most : first_ahead bound w ≤ bound = first_ahead-most bound w in omega (arith, most)

ticks-by : (b : Bool) (left m : ℕ) → cond b (min left m) 0 ≤ m
ticks-by true left m = omega arith
ticks-by false left m = omega arith

module _ (p : Image) (bound : ℕ) (w : World) (n : TaskNo) where
  ticks_of_action-most : (t : Task) (left : Option ℕ) → ticks_of_action p bound w n t left ≤ first_tick bound w - w.time
  ticks_of_action-most t None = omega arith
  ticks_of_action-most t (Some left) = ticks-by (ltb 0 left && goes_on_alone p w n t && is_quiet w) left (first_tick bound w - w.time)

  ticks_of_task-most : (o : Option Task) → ticks_of_task p bound w n o ≤ first_tick bound w - w.time
  ticks_of_task-most None = omega arith
  ticks_of_task-most (Some t) = ticks_of_action-most t t.ticks_left

  busy_ticks-most : busy_ticks p bound w n ≤ bound - w.time
  busy_ticks-most = omega (arith, ticks_of_task-most (task_at w (who.Task n)), first_tick-most bound w)

-- ---- the time behind them

passes-within : (b : Bool) (bound ticks : ℕ) (n : TaskNo) (w : World) → ticks ≤ bound - w.time → w.time ≤ bound
    → (cond b w (behind_work ticks n w)).time ≤ bound
passes-within true bound ticks n w most a = a
passes-within false bound ticks n w most a = omega arith

passed_by-within : (p : Image) (bound : ℕ) (w : World) (ran : Option Who) → w.time ≤ bound → (passed_by p bound w ran).time ≤ bound
passed_by-within p bound w None a = a
passed_by-within p bound w (Some who.Agent) a = a
passed_by-within p bound w (Some (who.Task n)) a =
    passes-within (eqb (busy_ticks p bound w n) 0) bound (busy_ticks p bound w n) n w (busy_ticks-most p bound w n) a

pub worked_on_within : (p : Image) (bound : ℕ) (w : World) → w.time ≤ bound → (worked_on p bound w).time ≤ bound
unfolding worked_on
worked_on_within p bound w a = passed_by-within p bound w w.ran a

passes-later : (b : Bool) (ticks : ℕ) (n : TaskNo) (w : World) → w.time ≤ (cond b w (behind_work ticks n w)).time
passes-later true ticks n w = omega arith
passes-later false ticks n w = omega arith

passed_by-later : (p : Image) (bound : ℕ) (w : World) (ran : Option Who) → w.time ≤ (passed_by p bound w ran).time
passed_by-later p bound w None = omega arith
passed_by-later p bound w (Some who.Agent) = omega arith
passed_by-later p bound w (Some (who.Task n)) = passes-later (eqb (busy_ticks p bound w n) 0) (busy_ticks p bound w n) n w

worked_on-later : (p : Image) (bound : ℕ) (w : World) → w.time ≤ (worked_on p bound w).time
unfolding worked_on
worked_on-later p bound w = passed_by-later p bound w w.ran

pub passed-later : (p : Image) (bound : ℕ) (w : World) → w.time ≤ (passed p bound w).time
passed-later p bound w = omega (arith, jumped-later bound w, worked_on-later p bound (jumped bound w))

-- ---- a busy world

same-name : (a b : Who) → same_who a b ≡ true → a ≡ b
same-name (who.Task a) (who.Task b) e = let same : a.0 ≡ b.0 = eqb-true a.0 b.0 e in ap {B = Who} (λ x. who.Task (record { 0 = x })) same
same-name (who.Task a) who.Agent e = cc
same-name who.Agent (who.Task b) e = cc
same-name who.Agent who.Agent e = refl

chosen-is : (chosen : Option Who) (name : Who) → is_the same_who chosen name ≡ true → chosen ≡ Some name
chosen-is None name e = cc
chosen-is (Some x) name e = ap Some (same-name x name e)

not-so : (b : Bool) → not b ≡ true → b ≡ false
not-so true e = cc
not-so false e = refl

-- what a world is whose task goes on with its action, with so many ticks left of it
record Busy (p : Image) (w : World) (n : TaskNo) (t : Task) (left : ℕ) : Type 0 where
  pub here : task_at w (who.Task n) ≡ Some t
  pub ticks : t.ticks_left ≡ Some left
  pub ran : w.ran ≡ Some (who.Task n)
  pub chosen : choose w ≡ Some (who.Task n)
  pub group : t.budget ≡ None
  pub plain : is_robin_level p t.base ≡ false
  pub ended : w.ended ≡ None
  pub timers : w.timers_set ≡ []
  pub due : w.timers_due ≡ []
  pub budget : w.budget_due ≡ None

alone-parts : (p : Image) (w : World) (n : TaskNo) (t : Task) → goes_on_alone p w n t ≡ true
    → (choose w ≡ Some (who.Task n)) × (t.budget ≡ None) × (is_robin_level p t.base ≡ false)
alone-parts p w n t e =
    let a = and_parts (is_the same_who (choose w) (who.Task n) && is_none t.budget) (not (is_robin_level p t.base)) e in
    let b = and_parts (is_the same_who (choose w) (who.Task n)) (is_none t.budget) a.0 in
    (chosen-is (choose w) (who.Task n) b.0, none-given t.budget b.1, not-so (is_robin_level p t.base) a.1)

quiet-parts : (w : World) → is_quiet w ≡ true → (w.ended ≡ None) × (w.timers_set ≡ []) × (w.timers_due ≡ []) × (w.budget_due ≡ None)
quiet-parts w e =
    let a = and_parts (is_none w.ended && is_empty w.timers_set && is_empty w.timers_due) (is_none w.budget_due) e in
    let b = and_parts (is_none w.ended && is_empty w.timers_set) (is_empty w.timers_due) a.0 in
    let c = and_parts (is_none w.ended) (is_empty w.timers_set) b.0 in
    (none-given w.ended c.0, none-there w.timers_set c.1, none-there w.timers_due b.1, none-given w.budget_due a.1)

busy-world : (p : Image) (w : World) (n : TaskNo) (t : Task) (left : ℕ) → task_at w (who.Task n) ≡ Some t → t.ticks_left ≡ Some left → w.ran ≡ Some (who.Task n)
    → (ltb 0 left && goes_on_alone p w n t && is_quiet w) ≡ true → Busy p w n t left
busy-world p w n t left here ticks ran e =
    let a = and_parts (ltb 0 left && goes_on_alone p w n t) (is_quiet w) e in
    let b = and_parts (ltb 0 left) (goes_on_alone p w n t) a.0 in
    let alone = alone-parts p w n t b.1 in
    let quiet = quiet-parts w a.1 in
    record {
      here = here;
      ticks = ticks;
      ran = ran;
      chosen = alone.0;
      group = alone.1;
      plain = alone.2;
      ended = quiet.0;
      timers = quiet.1;
      due = quiet.2;
      budget = quiet.3;
    }

-- ---- the worlds of the law

-- who is set in the own place changes nothing
set-itself-from : {X : Type 0} (test : X → Bool) (b : Bool) (x y : X) (xs : List X) → (find test xs ≡ Some y → set_where test y xs ≡ xs)
    → cond b (Some x) (find test xs) ≡ Some y → cond b (y ∷ xs) (x ∷ set_where test y xs) ≡ x ∷ xs
set-itself-from test true x y xs k e = let same : y ≡ x = cc in ap (λ z. z ∷ xs) same
set-itself-from test false x y xs k e = ap (λ ys. x ∷ ys) (k e)

set-itself : {X : Type 0} (test : X → Bool) (y : X) (xs : List X) → find test xs ≡ Some y → set_where test y xs ≡ xs
set-itself test y [] e = refl
set-itself test y (x ∷ xs) e = set-itself-from test (test x) x y xs (set-itself test y xs) e

module _ (p : Image) (w : World) (n : TaskNo) (t : Task) (left : ℕ) (b : Busy p w n t left) where
  -- behind some ticks of the action
  worked-working : (ticks : ℕ) → worked ticks t ≡ working t (t.cpu_ticks + ticks) (left - ticks)
  worked-working ticks =
      ap {B = Task} (λ x. record t { cpu_ticks = t.cpu_ticks + ticks; ticks_left = fewer ticks x }) b.ticks
      ∙ ap {B = Task} (λ x. record t { cpu_ticks = t.cpu_ticks + ticks; ticks_left = Some (left - ticks); budget = x }) b.group

  rest-same : (now : ℕ) (u : Task)
      → record (with_task (who.Task n) u w) { time = now }
      ≡ record (with_task (who.Task n) u w) { time = now; ran = Some (who.Task n); ended = None; timers_set = []; timers_due = []; budget_due = None }
  rest-same now u =
      let v = with_task (who.Task n) u w in
      ap {B = World} (λ x. record v { time = now; ran = x }) b.ran
      ∙ ap {B = World} (λ x. record v { time = now; ran = Some (who.Task n); ended = x }) b.ended
      ∙ ap {B = World} (λ x. record v { time = now; ran = Some (who.Task n); ended = None; timers_set = x }) b.timers
      ∙ ap {B = World} (λ x. record v { time = now; ran = Some (who.Task n); ended = None; timers_set = []; timers_due = x }) b.due
      ∙ ap {B = World} (λ x. record v { time = now; ran = Some (who.Task n); ended = None; timers_set = []; timers_due = []; budget_due = x }) b.budget

  behind-busy : (ticks : ℕ) → behind_work ticks n w ≡ busy_at n w t (w.time + ticks) (t.cpu_ticks + ticks) (left - ticks)
  behind-busy ticks =
      ap {B = World} (λ o. record (edit_task_found (who.Task n) (worked ticks) w o) { time = w.time + ticks }) b.here
      ∙ ap {B = World} (λ u. record (with_task (who.Task n) u w) { time = w.time + ticks }) (worked-working ticks)
      ∙ rest-same (w.time + ticks) (working t (t.cpu_ticks + ticks) (left - ticks))

  itself-working : t ≡ working t t.cpu_ticks left
  itself-working =
      ap {B = Task} (λ x. record t { ticks_left = x }) b.ticks
      ∙ ap {B = Task} (λ x. record t { ticks_left = Some left; budget = x }) b.group

  itself-busy : w ≡ busy_at n w t w.time t.cpu_ticks left
  itself-busy =
      ap {B = World} (λ ts. record w { tasks = ts }) (sym (set-itself (is_who (who.Task n)) t w.tasks b.here))
      ∙ ap {B = World} (λ u. with_task (who.Task n) u w) itself-working
      ∙ rest-same w.time (working t t.cpu_ticks left)

  -- the rest of the run
  behind-run : (bound ticks : ℕ) → BusyStretches → 0 < ticks → ticks ≤ left → ticks ≤ first_tick bound w - w.time
      → run_from (suc (bound - (w.time + ticks))) p bound (behind_work ticks n w) ≡ run_from (suc (bound - w.time)) p bound w
  unfolding first_ahead
  behind-run bound ticks stretches some a ahead =
      let m = w.time + ticks in
      let most : first_ahead bound w ≤ bound = first_ahead-most bound w in
      let later : m ≤ first_ahead bound w = omega (arith, ahead, some) in
      let within : m ≤ bound = omega arith in
      let positive : 0 < m = omega arith in
      let all : ticks + (left - ticks) ≡ left = omega arith in
      let count : ticks + suc (bound - m) ≡ suc (bound - w.time) = omega arith in
      ap (run_from (suc (bound - m)) p bound) (behind-busy ticks)
      ∙ sym (stretches p bound n w t w.time t.cpu_ticks (left - ticks) ticks (suc (bound - m)) within b.here b.chosen b.plain
      (first_ahead-appointments m bound w positive later) (first_ahead-script m bound w positive later))
      ∙ ap (λ x. run_from x p bound (busy_at n w t w.time t.cpu_ticks (ticks + (left - ticks)))) count
      ∙ ap (λ x. run_from (suc (bound - w.time)) p bound (busy_at n w t w.time t.cpu_ticks x)) all
      ∙ ap (run_from (suc (bound - w.time)) p bound) (sym itself-busy)

-- ---- the rest of the run

module _ (stretches : BusyStretches) (p : Image) (bound : ℕ) (w : World) where
  IsRest : World → Type 0
  IsRest v = run_from (suc (bound - v.time)) p bound v ≡ run_from (suc (bound - w.time)) p bound w

  some-of : (ticks : ℕ) → eqb ticks 0 ≡ false → 0 < ticks
  some-of zero e = cc
  some-of (suc k) e = omega arith

  none-pass : (ticks : ℕ) (n : TaskNo) → 0 ≡ ticks → IsRest (work_passes ticks n w)
  unfolding IsRest
  none-pass ticks n e = ap (λ k. run_from (suc (bound - (work_passes k n w).time)) p bound (work_passes k n w)) (sym e)

  some-pass : (b : Bool) (n : TaskNo) (t : Task) (left ticks : ℕ) → eqb ticks 0 ≡ b → Busy p w n t left → min left (first_tick bound w - w.time) ≡ ticks
      → IsRest (cond b w (behind_work ticks n w))
  unfolding IsRest
  some-pass true n t left ticks e busy is = refl
  some-pass false n t left ticks e busy is =
      behind-run p w n t left busy bound ticks stretches (some-of ticks e) (omega (arith, is)) (omega (arith, is))

  action-pass : (c : Bool) (n : TaskNo) (t : Task) (left ticks : ℕ) → task_at w (who.Task n) ≡ Some t → t.ticks_left ≡ Some left → w.ran ≡ Some (who.Task n)
      → (ltb 0 left && goes_on_alone p w n t && is_quiet w) ≡ c → cond c (min left (first_tick bound w - w.time)) 0 ≡ ticks → IsRest (work_passes ticks n w)
  action-pass true n t left ticks here l ran e is = some-pass (eqb ticks 0) n t left ticks refl (busy-world p w n t left here l ran e) is
  action-pass false n t left ticks here l ran e is = none-pass ticks n is

  ticks-pass : (left : Option ℕ) (n : TaskNo) (t : Task) (ticks : ℕ) → task_at w (who.Task n) ≡ Some t → t.ticks_left ≡ left → w.ran ≡ Some (who.Task n)
      → ticks_of_action p bound w n t left ≡ ticks → IsRest (work_passes ticks n w)
  ticks-pass None n t ticks here l ran is = none-pass ticks n is
  ticks-pass (Some left) n t ticks here l ran is = action-pass (ltb 0 left && goes_on_alone p w n t && is_quiet w) n t left ticks here l ran refl is

  task-pass : (o : Option Task) (n : TaskNo) (ticks : ℕ) → task_at w (who.Task n) ≡ o → w.ran ≡ Some (who.Task n) → ticks_of_task p bound w n o ≡ ticks
      → IsRest (work_passes ticks n w)
  task-pass None n ticks here ran is = none-pass ticks n is
  task-pass (Some t) n ticks here ran is = ticks-pass t.ticks_left n t ticks here refl ran is

  ran-pass : (ran : Option Who) → w.ran ≡ ran → IsRest (passed_by p bound w ran)
  unfolding IsRest
  ran-pass None e = refl
  ran-pass (Some who.Agent) e = refl
  ran-pass (Some (who.Task n)) e = task-pass (task_at w (who.Task n)) n (busy_ticks p bound w n) refl e refl

  worked_on-run : run_from (suc (bound - (worked_on p bound w).time)) p bound (worked_on p bound w) ≡ run_from (suc (bound - w.time)) p bound w
  unfolding IsRest worked_on
  worked_on-run = ran-pass w.ran refl

-- the laws by which ticks pass at once
pub record QuietStretches : Type 0 where
  pub idle : IdleStretches
  pub busy : BusyStretches

pub quiet : IdleStretches → BusyStretches → QuietStretches
quiet idle busy = record { idle = idle; busy = busy }

pub passed-run : QuietStretches → (p : Image) (bound : ℕ) (w : World)
    → run_from (suc (bound - (passed p bound w).time)) p bound (passed p bound w) ≡ run_from (suc (bound - w.time)) p bound w
passed-run laws p bound w = worked_on-run laws.busy p bound (jumped bound w) ∙ jumped-run laws.idle p bound w
