-- What becomes due of a duty with each window behind a base.
use Rattle.std.proofs.Common.{◌≡◌, ◌≢◌, ◌≤◌, ◌<◌, ℕ, ◌+◌, ◌*◌, List, length, get_or, arith, refl, ap, sym, ◌∙◌, inl, inr, get_or-set_other, get_or-set_same}
use Rattle.std.proofs.Math.ListN.{set}
use Rattle.std.proofs.Math.Nat.{mul-le-mul_left}
use Rattle.std.proofs.lemmas.Bool.{cases_order}
use Rattle.sched_tests.specs.declared.duties.Duty.{Duty}
use Rattle.sched_tests.specs.declared.duties.TheConstants.{LONGEST}
use Rattle.sched_tests.specs.Demand.{deadlines_in, due_in}
use Rattle.sched_tests.specs.Tables.{IsDuty}
use Rattle.sched_tests.proofs.Deadlines.{deadlines_are, deadlines_stay, deadlines_step, deadlines_slow}

-- the next deadline behind a window ends the window behind this one
abbrev pub IsNext : ℕ → Duty → Type 0
IsNext window duty = window + 1 ≡ duty.deadline + deadlines_in window duty * duty.period

mul-add-one : (m n : ℕ) → m * (n + 1) ≡ m * n + m
mul-add-one m n = grind arith

pub due_stays : (window later : ℕ) (duty : Duty) → IsDuty duty → window ≤ later → later < duty.deadline + deadlines_in window duty * duty.period
    → due_in later duty ≡ due_in window duty
due_stays window later duty h order before = ap (λ n. duty.cost * n) (deadlines_stay window later duty h order before)

pub due_step : (window : ℕ) (duty : Duty) → IsDuty duty → IsNext window duty → due_in (window + 1) duty ≡ due_in window duty + duty.cost
due_step window duty h e = ap (λ n. duty.cost * n) (deadlines_step window duty h e) ∙ mul-add-one duty.cost (deadlines_in window duty)

pub due_slow : (window : ℕ) (duty : Duty) → IsDuty duty → due_in (window + 1) duty ≤ due_in window duty + LONGEST
due_slow window duty h = omega (arith, mul-le-mul_left duty.cost (deadlines_slow window duty h), mul-add-one duty.cost (deadlines_in window duty), h.cost)

-- a period behind the next deadline lies the one behind it
pub next_again : (window : ℕ) (duty : Duty) → IsDuty duty → IsNext window duty → IsNext (window + duty.period) duty
next_again window duty h e =
    let n : ℕ = deadlines_in window duty in
    let more : deadlines_in (window + duty.period) duty ≡ n + 1 =
    deadlines_are (window + duty.period) (n + 1) duty h.recurs (grind (arith, h.recurs)) (grind (arith, h.recurs)) in
    rw more (grind arith)

-- and nothing becomes due between the two
pub none_between : (window k : ℕ) (duty : Duty) → IsDuty duty → IsNext window duty → window < k → k < window + duty.period → due_in (k + 1) duty ≡ due_in k duty
none_between window k duty h e low high =
    let n : ℕ = deadlines_in window duty in
    let here : deadlines_in k duty ≡ n + 1 = deadlines_are k (n + 1) duty h.recurs (grind (arith, h.recurs)) (grind (arith, h.recurs)) in
    let there : deadlines_in (k + 1) duty ≡ n + 1 = deadlines_are (k + 1) (n + 1) duty h.recurs (grind (arith, h.recurs)) (grind (arith, h.recurs)) in
    ap (λ m. duty.cost * m) (there ∙ sym here)

-- What holds of a list to which the costs at the deadlines below a place have been added.
pub record HasAdded (base : ℕ) (duty : Duty) (before due : List ℕ) (at : ℕ) : Type 0 where
  pub deadline : IsNext (base + at) duty
  pub done : (k : ℕ) → k < at → k < length before → get_or due k 0 + due_in (base + k) duty ≡ get_or before k 0 + due_in (base + k + 1) duty
  pub ahead : (k : ℕ) → at ≤ k → k < length before → get_or due k 0 ≡ get_or before k 0

pub added_none : (base : ℕ) (duty : Duty) (before : List ℕ) (at : ℕ) → IsDuty duty → base + at + 1 ≡ duty.deadline + deadlines_in base duty * duty.period
    → HasAdded base duty before before at
added_none base duty before at h e = record {
  deadline =
      let same : deadlines_in (base + at) duty ≡ deadlines_in base duty = deadlines_stay base (base + at) duty h (omega arith) (omega arith) in
      rw same e;
  done = λ k low within.
      let here : due_in (base + k) duty ≡ due_in base duty = due_stays base (base + k) duty h (omega arith) (omega arith) in
      let there : due_in (base + k + 1) duty ≡ due_in base duty = due_stays base (base + k + 1) duty h (omega arith) (omega arith) in
      omega arith;
  ahead = λ k high within. refl;
}

added_at : (base : ℕ) (duty : Duty) (before due : List ℕ) (at : ℕ) → IsDuty duty → length due ≡ length before → at < length due
    → HasAdded base duty before due at → (k : ℕ) → k < at + duty.period → k < length before
    → get_or (set due at (get_or due at 0 + duty.cost)) k 0 + due_in (base + k) duty ≡ get_or before k 0 + due_in (base + k + 1) duty
added_at base duty before due at h long low added k high within = elim (cases_order k at) [
  | inl same ↦
      let step : due_in (base + at + 1) duty ≡ due_in (base + at) duty + duty.cost = due_step (base + at) duty h added.deadline in
      let was : get_or due at 0 ≡ get_or before at 0 = added.ahead at (omega arith) (omega arith) in
      rw (same, get_or-set_same) (omega arith)
  | inr (inl below) ↦ let other : k ≢ at = omega arith in rw get_or-set_other (added.done k below within)
  | inr (inr above) ↦
      let other : k ≢ at = omega arith in
      let was : get_or due k 0 ≡ get_or before k 0 = added.ahead k (omega arith) within in
      let none : due_in (base + k + 1) duty ≡ due_in (base + k) duty = none_between (base + at) (base + k) duty h added.deadline (omega arith) (omega arith) in
      rw get_or-set_other (omega arith)
]

pub added_more : (base : ℕ) (duty : Duty) (before due : List ℕ) (at : ℕ) → IsDuty duty → length due ≡ length before → at < length due
    → HasAdded base duty before due at → HasAdded base duty before (set due at (get_or due at 0 + duty.cost)) (at + duty.period)
added_more base duty before due at h long low added = record {
  deadline =
      let same : base + (at + duty.period) ≡ base + at + duty.period = omega arith in
      rw same (next_again (base + at) duty h added.deadline);
  done = added_at base duty before due at h long low added;
  ahead = λ k high within. let other : k ≢ at = omega (arith, h.recurs) in rw get_or-set_other (added.ahead k (omega arith) within);
}

pub added_bound : (base : ℕ) (duty : Duty) (before due : List ℕ) (at k : ℕ) → IsDuty duty → HasAdded base duty before due at → k < at → k < length before
    → get_or due k 0 ≤ get_or before k 0 + LONGEST
added_bound base duty before due at k h added low within = omega (arith, added.done k low within, due_slow (base + k) duty h)
