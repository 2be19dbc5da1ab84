-- Beyond a busy period that is never overrun no window is.
use Rattle.std.proofs.Common.{◌≡◌, ◌≤◌, ℕ, zero, suc, ◌+◌, ◌-◌, List, [], ◌∷◌, Option, Some, None, arith, inl, inr, IfSome}
use Rattle.std.specs.List.{All}
use Rattle.std.specs.Int.{div_ceil}
use Rattle.std.proofs.lemmas.Bool.{cases_lt}
use Rattle.std.proofs.lemmas.List.Sums.{sum_by-cons}
use Rattle.std.proofs.Math.Nat.{mul-le-mul_left}
use Rattle.sched_tests.specs.declared.duties.Duty.{Duty}
use Rattle.sched_tests.specs.Least.{IsNever}
use Rattle.sched_tests.specs.Response.{asked_in}
use Rattle.sched_tests.specs.Demand.{deadlines_in, due_in, demand, busy_demand, IsOver, IsServed, IsBusyPeriod, NeverOverBeyond}
use Rattle.sched_tests.specs.Tables.{IsDuty}
use Rattle.sched_tests.proofs.Quotients.{covers}
use Rattle.sched_tests.proofs.Deadlines.{deadlines_below, next_is_later}

-- behind a busy period there are no more deadlines than it has releases, and those of what is left
deadlines_behind : (busy left : ℕ) (duty : Duty) → 1 ≤ duty.period → deadlines_in (busy + left) duty ≤ div_ceil busy duty.period + deadlines_in left duty
deadlines_behind busy left duty p =
    let later = next_is_later left duty p in
    let whole = covers busy duty.period p in
    deadlines_below (busy + left) (div_ceil busy duty.period + deadlines_in left duty) duty p (grind arith)

due_behind : (busy left : ℕ) (duty : Duty) → 1 ≤ duty.period → due_in (busy + left) duty ≤ asked_in busy duty + due_in left duty
due_behind busy left duty p =
    let more = mul-le-mul_left duty.cost (deadlines_behind busy left duty p) in
    grind arith

demand_behind : (busy left : ℕ) (duties : List Duty) → All IsDuty duties → demand duties (busy + left) ≤ busy_demand duties busy + demand duties left
demand_behind busy left [] h = omega arith
demand_behind busy left (duty ∷ duties) h =
    let whole = sum_by-cons (due_in (busy + left)) duty duties in
    let asked = sum_by-cons (asked_in busy) duty duties in
    let due = sum_by-cons (due_in left) duty duties in
    let first : IsDuty duty = h 0 duty (omega arith) in
    let one = due_behind busy left duty first.recurs in
    let rest = demand_behind busy left duties (λ k d low. h (suc k) d (omega arith)) in
    omega arith

-- windows up to a length, by windows that are shorter by the busy period
never_over : (duties : List Duty) (busy : ℕ) → All IsDuty duties → 1 ≤ busy → IsServed duties busy → IsNever (IsOver duties) busy → (longest window : ℕ)
    → window ≤ longest → 1 ≤ window → ¬ (IsOver duties window)
never_over duties busy each positive served never zero window small some over = omega arith
never_over duties busy each positive served never (suc longest) window small some over = elim (cases_lt busy window) [
  | inr within ↦ never.nowhere window some within over
  | inl beyond ↦
      let short : ¬ (IsOver duties (window - busy)) = never_over duties busy each positive served never longest (window - busy) (omega arith) (omega arith) in
      let more : demand duties (busy + (window - busy)) ≤ busy_demand duties busy + demand duties (window - busy) =
      demand_behind busy (window - busy) duties each in
      let same : busy + (window - busy) ≡ window = omega arith in
      let part : demand duties window ≤ busy_demand duties busy + demand duties (window - busy) = rw same at more in
      elim (cases_lt (window - busy) (demand duties (window - busy))) [
        | inl rest ↦ short rest
        | inr rest ↦ omega arith
      ]
]

pub busy_beyond : (duties : List Duty) (answer : Option ℕ) → All IsDuty duties → IsBusyPeriod duties answer → IfSome answer (NeverOverBeyond duties)
busy_beyond duties None each h = tt
busy_beyond duties (Some busy) each h = λ never window some. never_over duties busy each h.positive h.here never window window (omega arith) some
