-- Quotients that are rounded up.
use Rattle.std.proofs.Common.{◌≡◌, ◌≤◌, ◌<◌, ℕ, zero, suc, ◌+◌, ◌*◌, min, arith}
use Rattle.std.proofs.lemmas.Grind.{div_ceil_times}
use Rattle.std.proofs.Math.Nat.{div-zero, mod-zero, lt_of_mul-lt-mul_right}
use Rattle.std.specs.Int.{div_ceil}

-- the quotient, times the divisor, is no less
pub covers : (n k : ℕ) → 0 < k → n ≤ div_ceil n k * k
covers n k p = (div_ceil_times n k p).0

-- and it is the least such number
pub least_cover : (n k q : ℕ) → 0 < k → n ≤ q * k → div_ceil n k ≤ q
least_cover n k q p h =
    let above : div_ceil n k * k < n + k = (div_ceil_times n k p).1 in
    let close : div_ceil n k * k < (q + 1) * k = grind arith in
    let below : div_ceil n k < q + 1 = lt_of_mul-lt-mul_right k close in
    omega arith

pub div_ceil_zero : (n : ℕ) → div_ceil n 0 ≡ min 1 n
div_ceil_zero n = rw (div-zero, mod-zero) (omega arith)

-- it does not fall
pub div_ceil_rises : (m n k : ℕ) → m ≤ n → div_ceil m k ≤ div_ceil n k
div_ceil_rises m n zero h = rw (div_ceil_zero m, div_ceil_zero n) (omega arith)
div_ceil_rises m n (suc k) h = least_cover m (suc k) (div_ceil n (suc k)) (omega arith) (omega (arith, covers n (suc k) (omega arith)))
