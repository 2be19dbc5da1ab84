-- Where the deadlines of a duty lie.
use Rattle.std.proofs.Common.{◌≡◌, ◌≤◌, ◌<◌, ℕ, suc, ◌+◌, ◌-◌, ◌*◌, ◌/◌, List, [], ◌∷◌, arith, refl, ap, inl, inr}
use Rattle.std.specs.List.{All}
use Rattle.std.proofs.lemmas.List.Sums.{sum_by-cons}
use Rattle.std.proofs.lemmas.Bool.{cases_lt, le-leb, lt-leb}
use Rattle.std.proofs.lemmas.Nat.{div-add-mod', mod_below, div_below}
use Rattle.std.proofs.Math.Nat.{lt_of_mul-lt-mul_right}
use Rattle.sched_tests.specs.declared.duties.Duty.{Duty}
use Rattle.sched_tests.specs.Demand.{deadlines_in, due_in, demand}
use Rattle.sched_tests.specs.Tables.{IsDuty}

pub none_yet : (window : ℕ) (duty : Duty) → window < duty.deadline → deadlines_in window duty ≡ 0
none_yet window duty h = rw (lt-leb duty.deadline window h) refl

pub some_passed : (window : ℕ) (duty : Duty) → duty.deadline ≤ window → deadlines_in window duty ≡ 1 + (window - duty.deadline) / duty.period
some_passed window duty h = rw (le-leb duty.deadline window h) refl

-- a window that ends before the deadline behind q others has at most q
pub deadlines_below : (window q : ℕ) (duty : Duty) → 1 ≤ duty.period → window < duty.deadline + q * duty.period → deadlines_in window duty ≤ q
deadlines_below window q duty p h = elim (cases_lt window duty.deadline) [
  | inl before ↦ rw (none_yet window duty before) (omega arith)
  | inr behind ↦
      let short : window - duty.deadline < q * duty.period = omega arith in
      rw (some_passed window duty behind) (omega (arith, div_below (window - duty.deadline) duty.period q p short))
]

-- the next deadline lies behind the window
pub next_is_later : (window : ℕ) (duty : Duty) → 1 ≤ duty.period → window < duty.deadline + deadlines_in window duty * duty.period
next_is_later window duty p = elim (cases_lt window duty.deadline) [
  | inl before ↦ rw (none_yet window duty before) (omega arith)
  | inr behind ↦
      let whole = div-add-mod' (window - duty.deadline) duty.period in
      let part = mod_below (window - duty.deadline) duty.period p in
      rw (some_passed window duty behind) (grind arith)
]

-- and at most a period behind it
pub next_is_near : (window : ℕ) (duty : Duty) → IsDuty duty → duty.deadline + deadlines_in window duty * duty.period ≤ window + duty.period
next_is_near window duty h = elim (cases_lt window duty.deadline) [
  | inl before ↦ rw (none_yet window duty before) (omega (arith, h.in_time))
  | inr behind ↦
      let whole = div-add-mod' (window - duty.deadline) duty.period in
      rw (some_passed window duty behind) (grind arith)
]

-- a window has q deadlines where it ends before the one behind them, and at most a period before it
pub deadlines_are : (window q : ℕ) (duty : Duty) → 1 ≤ duty.period → window < duty.deadline + q * duty.period
    → duty.deadline + q * duty.period ≤ window + duty.period → deadlines_in window duty ≡ q
deadlines_are window q duty p before behind =
    let later = next_is_later window duty p in
    let close : q * duty.period < (deadlines_in window duty + 1) * duty.period = grind arith in
    let low : q < deadlines_in window duty + 1 = lt_of_mul-lt-mul_right duty.period close in
    omega (arith, deadlines_below window q duty p before)

-- up to the next deadline there are no more
pub deadlines_stay : (window later : ℕ) (duty : Duty) → IsDuty duty → window ≤ later → later < duty.deadline + deadlines_in window duty * duty.period
    → deadlines_in later duty ≡ deadlines_in window duty
deadlines_stay window later duty h order before =
    deadlines_are later (deadlines_in window duty) duty h.recurs before (omega (arith, next_is_near window duty h))

-- at it there is one more
pub deadlines_step : (window : ℕ) (duty : Duty) → IsDuty duty → window + 1 ≡ duty.deadline + deadlines_in window duty * duty.period
    → deadlines_in (window + 1) duty ≡ deadlines_in window duty + 1
deadlines_step window duty h e = deadlines_are (window + 1) (deadlines_in window duty + 1) duty h.recurs (grind (arith, h.recurs)) (grind arith)

-- a window that is longer by one has at most one more
pub deadlines_slow : (window : ℕ) (duty : Duty) → IsDuty duty → deadlines_in (window + 1) duty ≤ deadlines_in window duty + 1
deadlines_slow window duty h =
    let later = next_is_later window duty h.recurs in
    deadlines_below (window + 1) (deadlines_in window duty + 1) duty h.recurs (grind (arith, h.recurs))

-- nothing is due in a window of no length
pub demand_at_first : (duties : List Duty) → All IsDuty duties → demand duties 0 ≡ 0
demand_at_first [] h = refl
demand_at_first (duty ∷ duties) h =
    let first : IsDuty duty = h 0 duty (omega arith) in
    let none : due_in 0 duty ≡ duty.cost * 0 = ap (λ n. duty.cost * n) (none_yet 0 duty first.due) in
    omega (arith, sum_by-cons (due_in 0) duty duties, demand_at_first duties (λ k d low. h (suc k) d (omega arith)))
