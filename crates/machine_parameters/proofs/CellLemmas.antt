-- Cells that are copied.
use Rattle.std.proofs.Common.{◌≡◌, ℕ, zero, suc, ◌+◌, ◌≤◌, ◌<◌, List, [], ◌∷◌, ◌++◌, Some, None, take, drop, length, get_or, sym, ap, ◌∙◌, arith, length-drop}
use Rattle.std.specs.List.{slice_get}
use Rattle.std.proofs.lemmas.List.{take_more, take_all, get_or-drop}
use Rattle.std.proofs.lemmas.Option.{slice_get_within, get_or_from_slice_get}
use Rattle.profile_image.specs.declared.values.Value.{Value}

pub take_found : (xs : List Value) (place i : ℕ) (v : Value) → slice_get xs (place + i) ≡ Some v
    → take (i + 1) (drop place xs) ≡ take i (drop place xs) ++ v ∷ []
take_found xs place i v e =
    let within : place + i < length xs = slice_get_within xs (place + i) v e in
    let is : get_or (drop place xs) i v ≡ v = get_or-drop place xs i v ∙ get_or_from_slice_get xs (place + i) v v e in
    take_more (drop place xs) i v (omega (arith, length-drop place xs)) ∙ ap (λ x. take i (drop place xs) ++ x ∷ []) is

none_past : (xs : List Value) (n : ℕ) → slice_get xs n ≡ None → length xs ≤ n
none_past [] n e = omega arith
none_past (x ∷ xs) zero e = cc
none_past (x ∷ xs) (suc n) e = let h = none_past xs n e in omega arith

pub take_none : (xs : List Value) (place i n : ℕ) → slice_get xs (place + i) ≡ None → i ≤ n → take i (drop place xs) ≡ take n (drop place xs)
take_none xs place i n e l =
    let past : length xs ≤ place + i = none_past xs (place + i) e in
    take_all i (drop place xs) (omega (arith, length-drop place xs)) ∙ sym (take_all n (drop place xs) (omega (arith, length-drop place xs)))

pub ruleset copied_laws = (take_found, take_none)
