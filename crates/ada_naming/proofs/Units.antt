-- The predefined unit behind some parts of a name, one part further.
use Rattle.std.proofs.Common.{◌≡◌, ◌∙◌, ◌<◌, ◌+◌, ℕ, suc, List, [], ◌∷◌, Option, Some, None, ap, arith, drop, get_or, length, refl, sym}
use Rattle.std.proofs.Math.Seq.{drop-cons}
use Rattle.ada_tree.specs.declared.names.Identifier.{Identifier}
use Rattle.ada_regions.specs.declared.predefined.PredefinedUnit.{PredefinedUnit}
use Rattle.ada_regions.specs.Regions.{unit_behind}

behind_none : (rest : List Identifier) → None ≡ unit_behind None rest
behind_none [] = refl
behind_none (i ∷ rest) = refl

behind_part : (u : Option PredefinedUnit) (i : Identifier) (rest : List Identifier) → unit_behind u (i ∷ rest) ≡ unit_behind (unit_behind u (i ∷ [])) rest
behind_part None i rest = behind_none rest
behind_part (Some u) i rest = refl

pub part_further : (parts : List Identifier) (i : ℕ) (x : Identifier) (found : Option PredefinedUnit) (child : Option PredefinedUnit)
    (all : Option PredefinedUnit)
    → i < length parts
    → x ≡ get_or parts i x
    → child ≡ unit_behind found (x ∷ [])
    → unit_behind found (drop i parts) ≡ all
    → unit_behind child (drop (i + 1) parts) ≡ all
part_further parts i x found child all l is c h =
    let one : i + 1 ≡ suc i = omega arith in
    let front : drop i parts ≡ x ∷ drop (suc i) parts = drop-cons parts i x l ∙ ap (λ y. y ∷ drop (suc i) parts) (sym is) in
    let whole : x ∷ drop (i + 1) parts ≡ drop i parts = ap (λ n. x ∷ drop n parts) one ∙ sym front in
    ap (λ u. unit_behind u (drop (i + 1) parts)) c
    ∙ (sym (behind_part found x (drop (i + 1) parts)) ∙ (ap (unit_behind found) whole ∙ h))
