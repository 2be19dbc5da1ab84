-- The first item of a list for which a test holds, by its place.
use Rattle.std.proofs.Common.{◌≡◌, ℕ, ◌+◌, suc, Bool, true, false, not, cond, List, [], ◌∷◌, Option}
use Rattle.std.proofs.Common.{Some, None, refl, sym, ap, ◌∙◌, arith, slice_set, length, ltb}
use Rattle.std.specs.List.{slice_get, find, position_from, position_or_len}
use Rattle.std.proofs.lemmas.List.Folds.{find_at}
use Rattle.std.proofs.lemmas.Iterator.Adapters.{position_from-zero}
use Rattle.profile_image.specs.Words.{set_where}

set_onward : {X : Type 0} (x : X) (xs : List X) (n : ℕ) (w : X) → slice_set (x ∷ xs) (1 + n) w ≡ x ∷ slice_set xs n w
set_onward x xs n w = let e : 1 + n ≡ suc n = omega arith in ap (λ m. slice_set (x ∷ xs) m w) e

set_behind : {X : Type 0} (b : Bool) (x : X) (xs : List X) (n : ℕ) (w : X) (ys : List X) → slice_set xs n w ≡ ys
    → slice_set (x ∷ xs) (cond (not b) (1 + n) 0) w ≡ cond b (w ∷ xs) (x ∷ ys)
set_behind true x xs n w ys e = refl
set_behind false x xs n w ys e = set_onward x xs n w ∙ ap (λ zs. x ∷ zs) e

set_at : {X : Type 0} (test : X → Bool) (w : X) (xs : List X) → slice_set xs (position_or_len test xs) w ≡ set_where test w xs
set_at test w [] = refl
set_at test w (x ∷ xs) = set_behind (test x) x xs (position_or_len test xs) w (set_where test w xs) (set_at test w xs)

-- a place that is found is the first
first_place : (b : Bool) (n p : ℕ) → cond b (Some n) None ≡ Some p → n ≡ p
first_place true n p e = cc
first_place false n p e = cc

pub set_at_position : {X : Type 0} (test : X → Bool) (w : X) (xs : List X) (p : ℕ) → position_from test 0 xs ≡ Some p → slice_set xs p w ≡ set_where test w xs
set_at_position test w xs p e =
    ap (λ n. slice_set xs n w) (sym (first_place (ltb (position_or_len test xs) (length xs)) (position_or_len test xs) p (position_from-zero test xs ∙ e)))
    ∙ set_at test w xs

pub get_at_position : {X : Type 0} (test : X → Bool) (xs : List X) (p : ℕ) → position_from test 0 xs ≡ Some p → slice_get xs p ≡ find test xs
get_at_position test xs p e =
    ap (λ n. slice_get xs n) (sym (first_place (ltb (position_or_len test xs) (length xs)) (position_or_len test xs) p (position_from-zero test xs ∙ e)))
    ∙ sym (find_at test xs)

-- where no place is found, no item is
none_behind : {X : Type 0} (b : Bool) (x : X) (i : ℕ) (rest : Option ℕ) (found : Option X) → (rest ≡ None → found ≡ None) → cond b (Some i) rest ≡ None
    → cond b (Some x) found ≡ None
none_behind true x i rest found k e = cc
none_behind false x i rest found k e = k e

find_none_from : {X : Type 0} (test : X → Bool) (xs : List X) (i : ℕ) → position_from test i xs ≡ None → find test xs ≡ None
find_none_from test [] i e = refl
find_none_from test (x ∷ xs) i e = none_behind (test x) x i (position_from test (i + 1) xs) (find test xs) (find_none_from test xs (i + 1)) e

pub find_none : {X : Type 0} (test : X → Bool) (xs : List X) → position_from test 0 xs ≡ None → find test xs ≡ None
find_none test xs e = find_none_from test xs 0 e
