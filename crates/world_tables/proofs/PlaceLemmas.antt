-- What stands at a place of a table, and what is found and left under its number.
use Rattle.std.proofs.Common.{◌≡◌, ℕ, ◌<◌, ◌≤◌, zero, suc, Bool, true, false, cond, ◌≢◌, ◌==◌, nat_lt, List, [], ◌∷◌, length, get_or, slice_set, Some, None, refl, ap, arith, insert}
use Rattle.std.proofs.lemmas.Bool.Decides.{nat_tests}
use Rattle.std.specs.List.Sorted.{IsPartitionPoint}
use borrow.Author.Tests.{ltb-true, ltb-false, eqb-true, eqb-false}
use Rattle.world_tables.specs.Tables.{item_at, with_item, put}
use Rattle.world_tables.specs.Rising.{StartsAbove, IsRising, Divides, Stands, Misses}

-- tests of two numbers
unequal : (m n : ℕ) → m < n → (m == n) ≡ false
unequal m n h = grind (arith, nat_tests)

past : (m n : ℕ) → n < m → (m == n) ≡ false
past m n h = grind (arith, nat_tests)

equal : (m n : ℕ) → m ≡ n → (m == n) ≡ true
equal m n h = grind (arith, nat_tests)

below : (m n : ℕ) → m < n → nat_lt m n ≡ true
below m n h = grind (arith, nat_tests)

not_below : (m n : ℕ) → n ≤ m → nat_lt m n ≡ false
not_below m n h = grind (arith, nat_tests)

module _ {X : Type 0} where
  -- the numbers at all places are above one that is below the first
  pub above-first : (n : ℕ) (es : List (ℕ × X)) (p : ℕ) (d : ℕ × X) → StartsAbove n es → IsRising es → p < length es → n < (get_or es p d).0
  above-first n [] p d start up within = absurd (omega arith)
  above-first n (e ∷ es) zero d start up within = start
  above-first n (e ∷ es) (suc p) d start up within =
      let next : e.0 < (get_or es p d).0 = above-first e.0 es p d up.0 up.1 (omega arith) in omega arith

  -- numbers rise from place to place
  pub rises-between : (es : List (ℕ × X)) (i j : ℕ) (d : ℕ × X) → IsRising es → i ≤ j → j < length es → (get_or es i d).0 ≤ (get_or es j d).0
  rises-between [] i j d up le within = absurd (omega arith)
  rises-between (e ∷ es) zero zero d up le within = omega arith
  rises-between (e ∷ es) zero (suc j) d up le within = let h = above-first e.0 es j d up.0 up.1 (omega arith) in omega arith
  rises-between (e ∷ es) (suc i) zero d up le within = absurd (omega arith)
  rises-between (e ∷ es) (suc i) (suc j) d up le within = rises-between es i j d up.1 (omega arith) (omega arith)

  -- where those below n end
  pub divides-from_point : (n : ℕ) (es : List (ℕ × X)) (p : ℕ) → p ≤ length es → IsPartitionPoint (λ e. nat_lt e.0 n ≡ true) (λ e. nat_lt e.0 n ≡ false) es p → Divides n es p
  divides-from_point n es p within point = record {
    within = within;
    below = λ k d lt. ltb-true _ n (point.0 k d (omega arith) lt);
    rest = λ d lt. ltb-false _ n (point.1 p d (omega arith) lt);
  }

  -- ---- n stands at the place p

  -- it stands among those behind the first, which is below it
  stands-behind : (n : ℕ) (e : ℕ × X) (es : List (ℕ × X)) (p : ℕ) → Stands n (e ∷ es) (suc p) → Stands n es p
  stands-behind n e es p s = record { within = let h = s.within in omega arith; number = s.number }

  before : (n : ℕ) (e : ℕ × X) (es : List (ℕ × X)) (p : ℕ) → IsRising (e ∷ es) → Stands n (e ∷ es) (suc p) → e.0 < n
  before n e es p up s =
      let within = s.within in let h = above-first e.0 es p e up.0 up.1 (omega arith) in let number = s.number e in omega arith

  pub item_at-stands : (n : ℕ) (es : List (ℕ × X)) (p : ℕ) (d : ℕ × X) → IsRising es → Stands n es p → item_at n es ≡ Some (get_or es p d).1
  unfolding item_at
  item_at-stands n [] p d up s = let within = s.within in absurd (omega arith)
  item_at-stands n (e ∷ es) zero d up s = rw (equal e.0 n (s.number d))
  item_at-stands n (e ∷ es) (suc p) d up s = rw (unequal e.0 n (before n e es p up s)) (item_at-stands n es p d up.1 (stands-behind n e es p s))

  pub with_item-stands : (n : ℕ) (x : X) (es : List (ℕ × X)) (p : ℕ) → IsRising es → Stands n es p → with_item n x es ≡ slice_set es p (n, x)
  unfolding with_item
  with_item-stands n x [] p up s = let within = s.within in absurd (omega arith)
  with_item-stands n x (e ∷ es) zero up s = let number = s.number e in rw (equal e.0 n number)
  with_item-stands n x (e ∷ es) (suc p) up s = rw (unequal e.0 n (before n e es p up s)) (ap (λ zs. e ∷ zs) (with_item-stands n x es p up.1 (stands-behind n e es p s)))

  pub put-stands : (n : ℕ) (x : X) (es : List (ℕ × X)) (p : ℕ) → IsRising es → Stands n es p → put n x es ≡ slice_set es p (n, x)
  unfolding put
  put-stands n x [] p up s = let within = s.within in absurd (omega arith)
  put-stands n x (e ∷ es) zero up s = let number = s.number e in rw (not_below e.0 n (omega arith), equal e.0 n number)
  put-stands n x (e ∷ es) (suc p) up s = rw (below e.0 n (before n e es p up s)) (ap (λ zs. e ∷ zs) (put-stands n x es p up.1 (stands-behind n e es p s)))

  -- ---- n is not there, and would stand at the place p

  misses-behind : (n : ℕ) (e : ℕ × X) (es : List (ℕ × X)) (p : ℕ) → Misses n (e ∷ es) (suc p) → Misses n es p
  misses-behind n e es p m = record {
    within = let h = m.within in omega arith;
    below = λ k d lt. m.below (suc k) d (omega arith);
    above = λ d lt. m.above d (omega arith);
  }

  item_at-above : (n m : ℕ) (es : List (ℕ × X)) → n ≤ m → StartsAbove m es → IsRising es → item_at n es ≡ None
  unfolding item_at
  item_at-above n m [] le start up = refl
  item_at-above n m (e ∷ es) le start up = rw (past e.0 n (omega arith)) (item_at-above n e.0 es (omega arith) up.0 up.1)

  pub item_at-misses : (n : ℕ) (es : List (ℕ × X)) (p : ℕ) → IsRising es → Misses n es p → item_at n es ≡ None
  unfolding item_at
  item_at-misses n [] p up m = refl
  item_at-misses n (e ∷ es) zero up m = let h = m.above e (omega arith) in rw (past e.0 n h) (item_at-above n e.0 es (omega arith) up.0 up.1)
  item_at-misses n (e ∷ es) (suc p) up m = rw (unequal e.0 n (m.below 0 e (omega arith))) (item_at-misses n es p up.1 (misses-behind n e es p m))

  pub put-misses : (n : ℕ) (x : X) (es : List (ℕ × X)) (p : ℕ) → IsRising es → Misses n es p → put n x es ≡ insert es p (n, x)
  unfolding put
  put-misses n x [] zero up m = refl
  put-misses n x [] (suc p) up m = let within = m.within in absurd (omega arith)
  put-misses n x (e ∷ es) zero up m = let h = m.above e (omega arith) in rw (not_below e.0 n (omega arith), past e.0 n h)
  put-misses n x (e ∷ es) (suc p) up m = rw (below e.0 n (m.below 0 e (omega arith))) (ap (λ zs. e ∷ zs) (put-misses n x es p up.1 (misses-behind n e es p m)))

  -- ---- the numbers still rise

  StartsAbove-put : (m n : ℕ) (x : X) (es : List (ℕ × X)) → m < n → StartsAbove m es → StartsAbove m (put n x es)
  unfolding put
  StartsAbove-put m n x [] lt start = lt
  StartsAbove-put m n x (e ∷ es) lt start = go (nat_lt e.0 n) (e.0 == n)
    where
      go : (b c : Bool) → StartsAbove m (cond b (e ∷ put n x es) (cond c ((n, x) ∷ es) ((n, x) ∷ e ∷ es)))
      go true c = start
      go false true = lt
      go false false = lt

  StartsAbove-weaker : (m n : ℕ) (es : List (ℕ × X)) → m ≤ n → StartsAbove n es → StartsAbove m es
  StartsAbove-weaker m n [] le start = tt
  StartsAbove-weaker m n (e ∷ es) le start = omega arith

  pub IsRising-put : (n : ℕ) (x : X) (es : List (ℕ × X)) → IsRising es → IsRising (put n x es)
  unfolding put
  IsRising-put n x [] up = (tt, tt)
  IsRising-put n x (e ∷ es) up = go (nat_lt e.0 n) (e.0 == n) refl refl (IsRising-put n x es up.1)
    where
      go : (b c : Bool) → nat_lt e.0 n ≡ b → (e.0 == n) ≡ c → IsRising (put n x es) → IsRising (cond b (e ∷ put n x es) (cond c ((n, x) ∷ es) ((n, x) ∷ e ∷ es)))
      go true c lt q more = (StartsAbove-put e.0 n x es (ltb-true _ _ lt) up.0, more)
      go false true ge q more = (StartsAbove-weaker n e.0 es (let h = eqb-true _ _ q in omega arith) up.0, up.1)
      go false false ge q more = ((let h = ltb-false _ _ ge in let k : e.0 ≢ n = eqb-false _ _ q in let gap : n < e.0 = omega arith in gap), up)

  StartsAbove-with_item : (m n : ℕ) (x : X) (es : List (ℕ × X)) → StartsAbove m es → StartsAbove m (with_item n x es)
  unfolding with_item
  StartsAbove-with_item m n x [] start = tt
  StartsAbove-with_item m n x (e ∷ es) start = go (e.0 == n) refl
    where
      go : (b : Bool) → (e.0 == n) ≡ b → StartsAbove m (cond b ((n, x) ∷ es) (e ∷ with_item n x es))
      go true q = let same = eqb-true _ _ q in let h : m < e.0 = start in let k : m < n = omega arith in k
      go false q = start

  pub IsRising-with_item : (n : ℕ) (x : X) (es : List (ℕ × X)) → IsRising es → IsRising (with_item n x es)
  unfolding with_item
  IsRising-with_item n x [] up = tt
  IsRising-with_item n x (e ∷ es) up = go (e.0 == n) refl (IsRising-with_item n x es up.1)
    where
      go : (b : Bool) → (e.0 == n) ≡ b → IsRising (with_item n x es) → IsRising (cond b ((n, x) ∷ es) (e ∷ with_item n x es))
      go true q more = (rw (← eqb-true _ _ q) up.0, up.1)
      go false q more = (StartsAbove-with_item e.0 n x es up.0, more)
