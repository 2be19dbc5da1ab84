-- What is found in a table after an item was set or put.
use Rattle.std.proofs.Common.{◌≡◌, ◌≢◌, ℕ, Bool, true, false, cond, ◌==◌, nat_lt, List, [], ◌∷◌, Some, refl, sym, ◌∙◌, arith}
use Rattle.std.proofs.lemmas.Bool.Decides.{nat_tests}
use borrow.Author.Tests.{ltb-true, eqb-true}
use Rattle.world_tables.specs.Tables.{item_at, with_item, put}

-- tests of two numbers
same : (n : ℕ) → (n == n) ≡ true
same n = grind (arith, nat_tests)

apart : (m n : ℕ) → m ≢ n → (m == n) ≡ false
apart m n h = grind (arith, nat_tests)

module _ {X : Type 0} where
  pub item_at-with_item : (n : ℕ) (x y : X) (es : List (ℕ × X)) → item_at n es ≡ Some y → item_at n (with_item n x es) ≡ Some x
  unfolding item_at with_item
  item_at-with_item n x y [] found = cc
  item_at-with_item n x y (e ∷ es) found = go (e.0 == n) refl found (item_at-with_item n x y es)
    where
      go : (b : Bool) → (e.0 == n) ≡ b → cond b (Some e.1) (item_at n es) ≡ Some y → (item_at n es ≡ Some y → item_at n (with_item n x es) ≡ Some x)
          → item_at n (cond b ((n, x) ∷ es) (e ∷ with_item n x es)) ≡ Some x
      go true q found more = rw (same n)
      go false q found more = rw q (more found)

  pub item_at-with_item-other : (m n : ℕ) (x : X) (es : List (ℕ × X)) → m ≢ n → item_at m (with_item n x es) ≡ item_at m es
  unfolding item_at with_item
  item_at-with_item-other m n x [] other = refl
  item_at-with_item-other m n x (e ∷ es) other = go (e.0 == n) refl (item_at-with_item-other m n x es other)
    where
      go : (b : Bool) → (e.0 == n) ≡ b → item_at m (with_item n x es) ≡ item_at m es
          → item_at m (cond b ((n, x) ∷ es) (e ∷ with_item n x es)) ≡ item_at m (e ∷ es)
      go true q more =
          let kept : e.0 ≢ m = λ h. other (sym h ∙ eqb-true _ _ q) in let other' : n ≢ m = λ h. other (sym h) in rw (apart n m other', apart e.0 m kept)
      go false q more = rw more

  pub item_at-put : (n : ℕ) (x : X) (es : List (ℕ × X)) → item_at n (put n x es) ≡ Some x
  unfolding item_at put
  item_at-put n x [] = rw (same n)
  item_at-put n x (e ∷ es) = go (nat_lt e.0 n) (e.0 == n) refl (item_at-put n x es)
    where
      go : (b c : Bool) → nat_lt e.0 n ≡ b → item_at n (put n x es) ≡ Some x
          → item_at n (cond b (e ∷ put n x es) (cond c ((n, x) ∷ es) ((n, x) ∷ e ∷ es))) ≡ Some x
      go true c lt more = let h : e.0 ≢ n = (let k = ltb-true _ _ lt in λ q. omega arith) in rw (apart e.0 n h) more
      go false true ge more = rw (same n)
      go false false ge more = rw (same n)

  pub item_at-put-other : (m n : ℕ) (x : X) (es : List (ℕ × X)) → m ≢ n → item_at m (put n x es) ≡ item_at m es
  unfolding item_at put
  item_at-put-other m n x [] other = rw (apart n m (λ h. other (sym h)))
  item_at-put-other m n x (e ∷ es) other = go (nat_lt e.0 n) (e.0 == n) refl (item_at-put-other m n x es other)
    where
      n-other : (n == m) ≡ false
      n-other = apart n m (λ h. other (sym h))

      go : (b c : Bool) → (e.0 == n) ≡ c → item_at m (put n x es) ≡ item_at m es
          → item_at m (cond b (e ∷ put n x es) (cond c ((n, x) ∷ es) ((n, x) ∷ e ∷ es))) ≡ item_at m (e ∷ es)
      go true c q more = rw more
      go false true q more = rw (n-other, eqb-true _ _ q, n-other)
      go false false q more = rw n-other
