-- The part of a name before the last.
use Rattle.std.proofs.Common.{◌≡◌, ℕ, ◌+◌, ◌<◌, List, [], ◌∷◌, Option, Some, drop, length, get_or, refl, ap, sym, ◌∙◌}
use Rattle.std.proofs.lemmas.List.{drop_more}
use Rattle.ada_tree.specs.declared.names.Identifier.{Identifier}
use Rattle.std.specs.Option.{option_or}
use Rattle.ada_image.specs.ImageOfExpressions.{before_last}

-- a part that is not the last leaves one before the last
there : (x y : Identifier) (rest : List Identifier) (a b : Option Identifier) → option_or (before_last x (y ∷ rest)) a ≡ option_or (before_last x (y ∷ rest)) b
there x y [] a b = refl
there x y (z ∷ rest) a b = there y z rest a b

-- the parts so far, then one more
before_next : (last x : Identifier) (rest : List Identifier) (before : Option Identifier)
    → option_or (before_last last (x ∷ rest)) before ≡ option_or (before_last x rest) (Some last)
before_next last x [] before = refl
before_next last x (y ∷ rest) before = there x y rest before (Some last)

-- the same, where the next part stands at a place of a list
pub before_at : (last x : Identifier) (parts : List Identifier) (i : ℕ) (before : Option Identifier) → i < length parts → x ≡ get_or parts i x
    → option_or (before_last x (drop (i + 1) parts)) (Some last) ≡ option_or (before_last last (drop i parts)) before
before_at last x parts i before l is =
    let cut : drop i parts ≡ x ∷ drop (i + 1) parts = drop_more parts i x l ∙ ap (λ y. y ∷ drop (i + 1) parts) (sym is) in
    sym (before_next last x (drop (i + 1) parts) before) ∙ ap (λ xs. option_or (before_last last xs) before) (sym cut)
