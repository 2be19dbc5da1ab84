-- What a roster remembers: sums over all items but one, before and after that one is taken back or changed.
use Rattle.std.proofs.Common.{◌≡◌, ℕ, ◌+◌, ◌<◌, length, eqb, Bool, true, false, not, cond, ◌||◌, suc, zero, List, []}
use Rattle.std.proofs.Common.{◌∷◌, ◌++◌, Option, Some, None, remove, slice_set, map, take, sum_by, refl, sym, ap, ◌∙◌, subst, arith}
use Rattle.std.specs.List.{slice_get, list_any, IsItemAtMut}
use Rattle.std.specs.Option.{option_copied_mut, is_some, IsSome}
use Rattle.std.proofs.lemmas.Option.{gets, slice_get_within, get_or_from_slice_get}
use Rattle.std.proofs.lemmas.List.{take_more}
use Rattle.std.proofs.lemmas.Grind.{common_steps}
use Rattle.std.proofs.lemmas.Bool.{true≢false}
use Rattle.std.proofs.lemmas.Bool.Decides.{nat_tests}
use Rattle.std.specs.Borrow.{MutBor}
use Rattle.std.proofs.lemmas.List.Sums.{sum_by-cons, sum_by_push}
use Rattle.rosters.specs.RosterNotes.{others, part_at, part_of, one_if, IsSum, IsOrdered, IsInFront, AreRight}
use Rattle.rosters.specs.declared.roster.Numbered.{Ghosts}
use Rattle.rosters.specs.declared.roster_notes.Notes.{Notes}
use Rattle.rosters.specs.declared.roster_notes.Order.{Order}

none-step : (b : Bool) (n : ℕ) (any : Bool) → eqb n 0 ≡ not any → eqb (cond b 1 0 + n) 0 ≡ not (b || any)
none-step true n any e = grind (arith, nat_tests)
none-step false n any e = let zero_more : 0 + n ≡ n = omega arith in ap (λ m. eqb m 0) zero_more ∙ e

module _ {X : Type 0} where
  -- what a loan of one item shows
  pub lent-shows : (xs : List X) (p : ℕ) (r : Option (MutBor X)) → IsItemAtMut xs p r → option_copied_mut r ≡ slice_get xs p
  lent-shows xs p None h = grind (arith, common_steps, gets)
  lent-shows xs p (Some x) h = grind (arith, common_steps, gets)

  module _ (f : X → ℕ) where
    sum-remove : (xs : List X) (p : ℕ) → sum_by f (remove xs p) + part_of f (slice_get xs p) ≡ sum_by f xs
    sum-remove [] zero = refl
    sum-remove [] (suc p) = refl
    sum-remove (x ∷ xs) zero = omega (arith, sum_by-cons f x xs)
    sum-remove (x ∷ xs) (suc p) = omega (arith, sum-remove xs p, sum_by-cons f x xs, sum_by-cons f x (remove xs p))

    pub sum-others : (xs : List X) (lent : Option ℕ) → sum_by f (others xs lent) + part_at f xs lent ≡ sum_by f xs
    sum-others xs None = omega arith
    sum-others xs (Some p) = sum-remove xs p

    pub taken-back : (xs : List X) (lent known whole : Option ℕ) → IsSum known (sum_by f (others xs lent))
        → ((n : ℕ) → IsSum known n → IsSum whole (n + part_at f xs lent)) → IsSum whole (sum_by f xs)
    taken-back xs lent known whole is more = subst (IsSum whole) (sum-others xs lent) (more _ is)

    pub left-out : (xs : List X) (place : ℕ) (known rest : Option ℕ) → IsSum known (sum_by f xs)
        → ((n : ℕ) → IsSum known (n + part_at f xs (Some place)) → IsSum rest n) → IsSum rest (sum_by f (others xs (Some place)))
    left-out xs place known rest is less = less _ (subst (IsSum known) (sym (sum-others xs (Some place))) is)

    -- the sum of the others is known if that of all is
    pub left-known : (xs : List X) (place : ℕ) (known rest : Option ℕ) → IsSum known (sum_by f xs)
        → ((n : ℕ) → known ≡ Some (n + part_at f xs (Some place)) → rest ≡ Some n) → IsSome known → IsSome rest
    left-known xs place None rest is less e = absurd (true≢false (sym e))
    left-known xs place (Some m) rest is less e = ap is_some (less _ (ap Some (is ∙ sym (sum-others xs (Some place)))))

    -- one more item behind the others
    pub one-behind : (xs : List X) (x : X) (known grown : Option ℕ) → IsSum known (sum_by f xs) → ((n : ℕ) → IsSum known n → IsSum grown (n + f x))
        → IsSum grown (sum_by f (xs ++ x ∷ []))
    one-behind xs x known grown is more = subst (IsSum grown) (sym (sum_by_push f xs x)) (more _ is)

  module _ (stirs : X → Bool) where
    none-counted : (xs : List X) → eqb (sum_by (one_if stirs) xs) 0 ≡ not (list_any stirs xs)
    none-counted [] = refl
    none-counted (x ∷ xs) =
        ap (λ n. eqb n 0) (sum_by-cons (one_if stirs) x xs) ∙ none-step (stirs x) (sum_by (one_if stirs) xs) (list_any stirs xs) (none-counted xs)

    pub is-calm : (xs : List X) (n : ℕ) → n ≡ sum_by (one_if stirs) xs → eqb n 0 ≡ not (list_any stirs xs)
    is-calm xs n e = ap (λ m. eqb m 0) e ∙ none-counted xs

  -- where no item is lent, the notes speak of all of them
  module _ (numbered : Ghosts X) (xs : List X) where
    -- what the notes say of these items
    abbrev AreKnown : Option Order → Option ℕ → Option ℕ → Option ℕ → Type 0
    AreKnown order sizes stirring lent =
        IsOrdered order (map numbered.number (others xs lent))
        × (IsSum sizes (sum_by numbered.size (others xs lent)) × IsSum stirring (sum_by (one_if numbered.stirs) (others xs lent)))

    known-whole : (notes : Notes) → notes.lent ≡ None → AreRight numbered xs notes → AreKnown notes.order notes.size notes.stirring None
    known-whole notes none right = subst (AreKnown notes.order notes.size notes.stirring) none (right.order, (right.sizes, right.stirring))

    pub right-whole : (notes : Notes) → notes.lent ≡ None → IsOrdered notes.order (map numbered.number xs) → IsSum notes.size (sum_by numbered.size xs)
        → IsSum notes.stirring (sum_by (one_if numbered.stirs) xs) → AreRight numbered xs notes
    right-whole notes none order sizes stirring =
        let known = subst (AreKnown notes.order notes.size notes.stirring) (sym none) (order, (sizes, stirring)) in
        record { order = known.0; sizes = known.1.0; stirring = known.1.1; front = λ p e. cc }

    pub whole-order : (notes : Notes) → notes.lent ≡ None → AreRight numbered xs notes → IsOrdered notes.order (map numbered.number xs)
    whole-order notes none right = (known-whole notes none right).0

    pub whole-sizes : (notes : Notes) → notes.lent ≡ None → AreRight numbered xs notes → IsSum notes.size (sum_by numbered.size xs)
    whole-sizes notes none right = (known-whole notes none right).1.0

    pub whole-stirring : (notes : Notes) → notes.lent ≡ None → AreRight numbered xs notes → IsSum notes.stirring (sum_by (one_if numbered.stirs) xs)
    whole-stirring notes none right = (known-whole notes none right).1.1

-- the item at the lent place may become any other
others-set : {X : Type 0} (xs : List X) (p : ℕ) (w : X) → remove (slice_set xs p w) p ≡ remove xs p
others-set [] zero w = refl
others-set [] (suc p) w = refl
others-set (x ∷ xs) zero w = refl
others-set (x ∷ xs) (suc p) w = ap (λ ys. x ∷ ys) (others-set xs p w)

pub right-set : {X : Type 0} (numbered : Ghosts X) (xs : List X) (notes : Notes) (p : ℕ) (w : X) → notes.lent ≡ Some p → AreRight numbered xs notes
    → AreRight numbered (slice_set xs p w) notes
right-set numbered xs notes p w lent right =
    let same = ap (others xs) lent ∙ (sym (others-set xs p w) ∙ sym (ap (others (slice_set xs p w)) lent)) in
    record {
      order = subst (λ ys. IsOrdered notes.order (map numbered.number ys)) same right.order;
      sizes = subst (λ ys. IsSum notes.size (sum_by numbered.size ys)) same right.sizes;
      stirring = subst (λ ys. IsSum notes.stirring (sum_by (one_if numbered.stirs) ys)) same right.stirring;
      front = subst (λ ys. IsInFront notes.front notes.lent (map numbered.number ys)) same right.front;
    }

-- the items but the lent one are in the order that is remembered
pub others-in-order : {X : Type 0} (number : X → Option ℕ) (xs : List X) (known : Option Order) (lent : Option ℕ) (o : Order) (p : ℕ)
    → known ≡ Some o → lent ≡ Some p → IsOrdered known (map number (others xs lent)) → IsOrdered (Some o) (map number (remove xs p))
others-in-order number xs known lent o p e f h =
    subst (λ k. IsOrdered k (map number (remove xs p))) e (subst (λ l. IsOrdered known (map number (others xs l))) f h)

-- the items up to one that is there, that one among them
pub take-found : {X : Type 0} (xs : List X) (p : ℕ) (x : X) → Some x ≡ slice_get xs p → take (p + 1) xs ≡ take p xs ++ x ∷ []
take-found xs p x e =
    let within = slice_get_within xs p x (sym e) in
    take_more xs p x within ∙ ap (λ y. take p xs ++ y ∷ []) (get_or_from_slice_get xs p x x (sym e))

-- an item is there at each place within the list
pub none-within : {X : Type 0} (xs : List X) (p : ℕ) → p < length xs → None ≡ slice_get xs p → ⊥
none-within [] p lt e = absurd (omega arith)
none-within (x ∷ xs) zero lt e = cc
none-within (x ∷ xs) (suc p) lt e = none-within xs p (omega arith) e
