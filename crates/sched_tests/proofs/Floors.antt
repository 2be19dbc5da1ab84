-- A window in which duties ask for no more than there is time for is no shorter than their floor.
use Rattle.std.proofs.Common.{◌≡◌, ◌≤◌, ◌<◌, ℕ, ◌+◌, ◌-◌, ◌*◌, ◌/◌, List, [], ◌∷◌, nat_le, max, length, take, drop, get_or, arith, ap, ◌∙◌, inl, inr}
use Rattle.std.specs.List.{sum_by, filter}
use Rattle.std.specs.Int.{div_ceil}
use Rattle.std.proofs.lemmas.Bool.{cases_lt, le-leb, lt-leb}
use Rattle.std.proofs.lemmas.List.Sums.{sum_by-cons}
use Rattle.std.proofs.Math.Nat.{mul-le-mul_left, mul-le-mul_right, div-mul-le_self, div-zero, le-mul_of_pos_right, lt_of_mul-lt-mul_right}
use Rattle.sched_tests.specs.declared.responses.TheConstants.{SCALE}
use Rattle.sched_tests.specs.declared.duties.Duty.{Duty}
use Rattle.sched_tests.specs.Response.{asked_in, interference, need, IsEnough}
use Rattle.sched_tests.specs.Floors.{once_in, share_in, once_of, share_of}
use Rattle.sched_tests.proofs.Needs.{need_is, need_rises}
use Rattle.sched_tests.proofs.Quotients.{covers, least_cover}

-- a cost once is within the cost of each release
once_within : (cost scale k period : ℕ) → 1 ≤ k → 1 ≤ period → cost * scale ≤ cost * div_ceil k period * scale
once_within cost scale k period some positive =
    let whole : k ≤ div_ceil k period * period = covers k period positive in
    let more : 0 * period < div_ceil k period * period = omega arith in
    mul-le-mul_right scale (le-mul_of_pos_right cost (lt_of_mul-lt-mul_right period more))

share_step : (share k releases period cost scale : ℕ) → k ≤ releases * period → share * period ≤ cost * scale → share * k ≤ cost * releases * scale
share_step share k releases period cost scale long part =
    let whole : share * k ≤ share * (releases * period) = mul-le-mul_left share long in
    let each : share * period * releases ≤ cost * scale * releases = mul-le-mul_right releases part in
    grind arith

-- a share of the window is within the cost of each release
share_within : (cost scale k period : ℕ) → 1 ≤ period → cost * scale / period * k ≤ cost * div_ceil k period * scale
share_within cost scale k period positive =
    share_step (cost * scale / period) k (div_ceil k period) period cost scale (covers k period positive) (div-mul-le_self (cost * scale) period)

-- so is either where the duty's period is not 0
duty_floor : (window k : ℕ) (duty : Duty) → 1 ≤ window → window ≤ k → once_in window duty * SCALE + share_in window duty * k ≤ asked_in k duty * SCALE
duty_floor window k duty some long = elim (cases_lt duty.period window) [
  | inr slow ↦ rw (le-leb window duty.period slow) (omega (arith, once_within duty.cost SCALE k duty.period (omega arith) (omega arith)))
  | inl fast ↦ elim (cases_lt 0 duty.period) [
    | inl positive ↦ rw (lt-leb window duty.period fast) (omega (arith, share_within duty.cost SCALE k duty.period positive))
    | inr never ↦
        let none : duty.period ≡ 0 = omega arith in
        let share : duty.cost * SCALE / duty.period ≡ 0 = ap (λ n. duty.cost * SCALE / n) none ∙ div-zero (duty.cost * SCALE) in
        rw (lt-leb window duty.period fast, share) (omega arith)
  ]
]

both_floors : (a b c x y z scale k : ℕ) → a * scale + b * k ≤ c * scale → x * scale + y * k ≤ z * scale → (a + x) * scale + (b + y) * k ≤ (c + z) * scale
both_floors a b c x y z scale k one rest = grind arith

floor_within : (window k : ℕ) (duties : List Duty) → 1 ≤ window → window ≤ k
    → sum_by (once_in window) duties * SCALE + sum_by (share_in window) duties * k ≤ sum_by (asked_in k) duties * SCALE
floor_within window k [] some long = omega arith
floor_within window k (duty ∷ duties) some long =
    rw (sum_by-cons (once_in window) duty duties, sum_by-cons (share_in window) duty duties, sum_by-cons (asked_in k) duty duties)
    (both_floors (once_in window duty) (share_in window duty) (asked_in k duty) (sum_by (once_in window) duties) (sum_by (share_in window) duties)
    (sum_by (asked_in k) duties) SCALE k (duty_floor window k duty some long) (floor_within window k duties some long))

three_floors : (own a x b y c z scale k : ℕ) → a * scale + b * k ≤ c * scale → x * scale + y * k ≤ z * scale
    → (own + a + x) * scale + (b + y) * k ≤ (own + c + z) * scale
three_floors own a x b y c z scale k one rest = grind arith

split_product : (k m n : ℕ) → k * (m + n) ≡ k * m + n * k
split_product k m n = grind arith

-- what one duty needs, by the floors of the others before and behind it
pub need_floor : (duties : List Duty) (place window k : ℕ) (own : Duty) → place < length duties → own ≡ get_or duties place own → 1 ≤ window → window ≤ k
    → (own.cost + own.blocking + once_of window own.priority (take place duties) + once_of window own.priority (drop (place + 1) duties)) * SCALE
    + (share_of window own.priority (take place duties) + share_of window own.priority (drop (place + 1) duties)) * k
    ≤ need duties place k * SCALE
need_floor duties place window k own low e some long =
    let before = floor_within window k (filter (λ duty. nat_le own.priority duty.priority) (take place duties)) some long in
    let behind = floor_within window k (filter (λ duty. nat_le own.priority duty.priority) (drop (place + 1) duties)) some long in
    rw (need_is duties place k own low e)
    (three_floors (own.cost + own.blocking) (once_of window own.priority (take place duties)) (once_of window own.priority (drop (place + 1) duties))
    (share_of window own.priority (take place duties)) (share_of window own.priority (drop (place + 1) duties))
    (interference k own.priority (take place duties)) (interference k own.priority (drop (place + 1) duties)) SCALE k before behind)

-- a window that is enough is no shorter than the floor over what the share leaves
pub long_enough : (once share k asked scale : ℕ) → once * scale + share * k ≤ asked * scale → asked ≤ k → share < scale
    → div_ceil (once * scale) (scale - share) ≤ k
long_enough once share k asked scale floor enough less =
    let all : asked * scale ≤ k * scale = mul-le-mul_right scale enough in
    let parts : scale ≡ (scale - share) + share = omega arith in
    let split : k * scale ≡ k * (scale - share) + share * k = ap (λ n. k * n) parts ∙ split_product k (scale - share) share in
    least_cover (once * scale) (scale - share) k (omega arith) (omega arith)

-- and there is none where the share is the whole
pub never_enough : (once share k asked scale : ℕ) → once * scale + share * k ≤ asked * scale → asked ≤ k → scale ≤ share → 1 ≤ once → 1 ≤ scale → ⊥
never_enough once share k asked scale floor enough full some positive =
    let all : asked * scale ≤ k * scale = mul-le-mul_right scale enough in
    let taken : k * scale ≤ k * share = mul-le-mul_left k full in
    let cost : 1 * scale ≤ once * scale = mul-le-mul_right scale some in
    grind arith

-- windows below what is needed in one, or below a floor from it on, are not enough
pub passed : (duties : List Duty) (place window needed shortest next : ℕ) → ((k : ℕ) → 1 ≤ k → k < window → ¬ (IsEnough duties place k))
    → needed ≡ need duties place window → window < needed → ((k : ℕ) → window ≤ k → k < shortest → ¬ (IsEnough duties place k)) → next ≡ max needed shortest
    → (k : ℕ) → 1 ≤ k → k < next → ¬ (IsEnough duties place k)
passed duties place window needed shortest next before is more floor greatest k some below enough = elim (cases_lt k window) [
  | inl early ↦ before k some early enough
  | inr late ↦ elim (cases_lt k shortest) [
    | inl short ↦ floor k late short enough
    | inr long ↦ omega (arith, need_rises duties place window k late)
  ]
]
