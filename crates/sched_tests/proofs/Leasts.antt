-- The least number is the one that a search from 1 on finds.
use Rattle.std.proofs.Common.{◌≡◌, ◌≤◌, ◌<◌, ℕ, zero, suc, ◌+◌, Bool, true, false, cond, nat_le}
use Rattle.std.proofs.Common.{nat_lt, Option, Some, None, arith, refl, ap, sym, subst, inl, inr}
use Rattle.std.specs.Bool.{Decides}
use Rattle.std.proofs.lemmas.Bool.{cases_lt}
use Rattle.std.proofs.lemmas.Bool.Decides.{nat_tests}
use Rattle.sched_tests.specs.Least.{IsLeastOrNone, first_from, least_up_to}

-- what a search finds among so many numbers
abbrev pub FirstOrNone : (ℕ → Type 0) → ℕ → ℕ → Option ℕ → Type 0
FirstOrNone true_of count from None = (k : ℕ) → from ≤ k → k < from + count → ¬ (true_of k)
FirstOrNone true_of count from (Some n) = (from ≤ n) × (n < from + count) × true_of n × ((k : ℕ) → from ≤ k → k < n → ¬ (true_of k))

-- one step of the search
first_here : (test : ℕ → Bool) (true_of : ℕ → Type 0) → ((k : ℕ) → Decides (test k) (true_of k))
    → (count from : ℕ) (rest : Option ℕ) (agrees : (answer : Option ℕ) → FirstOrNone true_of count (from + 1) answer → answer ≡ rest) (answer : Option ℕ)
    → FirstOrNone true_of (suc count) from answer → (here : Bool) → here ≡ test from → answer ≡ cond here (Some from) rest
first_here test true_of decides count from rest agrees None h true e = absurd (h from (omega arith) (omega arith) ((decides from).0 (sym e)))
first_here test true_of decides count from rest agrees (Some n) h true e =
    elim (cases_lt from n) [
      | inl later ↦ absurd (h.3 from (omega arith) later ((decides from).0 (sym e)))
      | inr here ↦ let same : n ≡ from = omega (arith, h.0) in ap Some same
    ]
first_here test true_of decides count from rest agrees None h false e = agrees None (λ k low high. h k (omega arith) (omega arith))
first_here test true_of decides count from rest agrees (Some n) h false e =
    elim (cases_lt from n) [
      | inl later ↦ agrees (Some n) (omega arith, omega (arith, h.1), h.2, λ k low high. h.3 k (omega arith) high)
      | inr here ↦
          let same : n ≡ from = omega (arith, h.0) in
          let yes : test from ≡ true = (decides from).1 (subst true_of same h.2) in
          cc
    ]

pub first_is : (test : ℕ → Bool) (true_of : ℕ → Type 0) → ((k : ℕ) → Decides (test k) (true_of k)) → (count from : ℕ) (answer : Option ℕ)
    → FirstOrNone true_of count from answer → answer ≡ first_from test count from
first_is test true_of decides zero from None h = refl
first_is test true_of decides zero from (Some n) h = absurd (omega (arith, h.0, h.1))
first_is test true_of decides (suc count) from answer h =
    first_here test true_of decides count from (first_from test count (from + 1)) (first_is test true_of decides count (from + 1)) answer h (test from) refl

-- the least number, or none, is what the search finds
pub least_is : (test : ℕ → Bool) (true_of : ℕ → Type 0) → ((k : ℕ) → Decides (test k) (true_of k)) → (most : ℕ) (answer : Option ℕ)
    → IsLeastOrNone true_of most answer → answer ≡ least_up_to test most
unfolding least_up_to
least_is test true_of decides most None h = first_is test true_of decides most 1 None (λ k low high. h.nowhere k low (omega arith))
least_is test true_of decides most (Some n) h = first_is test true_of decides most 1 (Some n) (h.positive, omega (arith, h.within), h.here, h.before)

pub decides_le : (m n : ℕ) → Decides (nat_le m n) (m ≤ n)
decides_le m n = (λ e. grind (arith, nat_tests), λ e. grind (arith, nat_tests))

pub decides_lt : (m n : ℕ) → Decides (nat_lt m n) (m < n)
decides_lt m n = (λ e. grind (arith, nat_tests), λ e. grind (arith, nat_tests))
