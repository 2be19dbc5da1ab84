-- What is needed does not fall as the window grows.
use Rattle.std.proofs.Common.{◌≡◌, ◌≤◌, ◌<◌, ℕ, suc, ◌+◌, Option, Some, None, List, ◌++◌, length, take}
use Rattle.std.proofs.Common.{drop, nat_le, get_or, zero, [], ◌∷◌, add-one, arith, refl, ap, sym}
use Rattle.std.specs.List.{filter, remove, slice_get}
use Rattle.std.proofs.Math.Nat.{mul-le-mul_left}
use Rattle.std.proofs.lemmas.List.Sums.{sum_by-le-sum_by, sum_by-append}
use Rattle.std.proofs.lemmas.List.Elements.{filter-append}
use Rattle.sched_tests.specs.declared.duties.Duty.{Duty}
use Rattle.sched_tests.specs.Response.{asked_in, interference, need_beside, need, deadline_at}
use Rattle.sched_tests.specs.Demand.{busy_demand}
use Rattle.sched_tests.proofs.Quotients.{div_ceil_rises}

pub asked_rises : (m n : ℕ) (duty : Duty) → m ≤ n → asked_in m duty ≤ asked_in n duty
asked_rises m n duty h = mul-le-mul_left duty.cost (div_ceil_rises m n duty.period h)

pub interference_rises : (m n priority : ℕ) (duties : List Duty) → m ≤ n → interference m priority duties ≤ interference n priority duties
interference_rises m n priority duties h =
    sum_by-le-sum_by (asked_in m) (asked_in n) (filter (λ duty. nat_le priority duty.priority) duties) (λ duty. asked_rises m n duty h)

need_beside_rises : (own : Option Duty) (others : List Duty) (m n : ℕ) → m ≤ n → need_beside own others m ≤ need_beside own others n
need_beside_rises None others m n h = omega arith
need_beside_rises (Some own) others m n h = omega (arith, interference_rises m n own.priority others h)

pub need_rises : (duties : List Duty) (place m n : ℕ) → m ≤ n → need duties place m ≤ need duties place n
need_rises duties place m n h = need_beside_rises (slice_get duties place) (remove duties place) m n h

pub busy_rises : (duties : List Duty) (m n : ℕ) → m ≤ n → busy_demand duties m ≤ busy_demand duties n
busy_rises duties m n h = sum_by-le-sum_by (asked_in m) (asked_in n) duties (λ duty. asked_rises m n duty h)

-- interference of joined lists
pub interference-append : (window priority : ℕ) (xs ys : List Duty)
    → interference window priority (xs ++ ys) ≡ interference window priority xs + interference window priority ys
interference-append window priority xs ys =
    rw filter-append (sum_by-append (asked_in window) (filter (λ duty. nat_le priority duty.priority) xs) (filter (λ duty. nat_le priority duty.priority) ys))

pub slice_get_is : (duties : List Duty) (place : ℕ) (duty : Duty) → place < length duties → duty ≡ get_or duties place duty → slice_get duties place ≡ Some duty
slice_get_is [] place duty h e = absurd (omega arith)
slice_get_is (first ∷ rest) zero duty h e = ap Some (sym e)
slice_get_is (first ∷ rest) (suc place) duty h e = slice_get_is rest place duty (omega arith) e

-- what is needed, by the parts of the table before and behind the duty
pub need_is : (duties : List Duty) (place window : ℕ) (own : Duty) → place < length duties → own ≡ get_or duties place own
    → need duties place window
    ≡ own.cost + own.blocking + interference window own.priority (take place duties) + interference window own.priority (drop (place + 1) duties)
need_is duties place window own h e =
    rw (slice_get_is duties place own h e)
    (rw (add-one place) (omega (arith, interference-append window own.priority (take place duties) (drop (suc place) duties))))

pub deadline_is : (duties : List Duty) (place : ℕ) (own : Duty) → place < length duties → own ≡ get_or duties place own
    → deadline_at duties place ≡ own.deadline
deadline_is duties place own h e = rw (slice_get_is duties place own h e) refl
