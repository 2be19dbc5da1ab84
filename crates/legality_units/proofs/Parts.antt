-- The last unit among parts of a name, one part at a time.
use Rattle.std.proofs.Common.{◌≡◌, ◌∷◌, ◌∙◌, [], List, None, Option, Some, ap, refl, sym}
use Rattle.ada_legality.specs.UnitsUsed.{unit_if, unit_in_parts}
use Rattle.ada_regions.specs.Names.{denoted_at}
use Rattle.std.specs.Option.{option_or}
use Rattle.ada_regions.specs.declared.entities.Denoted.{Denoted}
use Rattle.ada_regions.specs.declared.table.Names.{Names}
use Rattle.ada_tree.specs.declared.names.Identifier.{Identifier}
use Rattle.legality_units.specs.Parts.{unit_along}

else_else : (x : Option Denoted) (y : Option Denoted) (z : Option Denoted) → option_or x (option_or y z) ≡ option_or (option_or x y) z
else_else None y z = refl
else_else (Some x) y z = refl

else_none : (x : Option Denoted) → option_or x None ≡ x
else_none None = refl
else_none (Some x) = refl

no_parts : (n : Names) → unit_in_parts n [] ≡ None
unfolding unit_in_parts
no_parts n = refl

one_more : (n : Names) (i : Identifier) (rest : List Identifier)
    → unit_in_parts n (i ∷ rest) ≡ option_or (unit_in_parts n rest) (unit_if n (denoted_at n i.place))
unfolding unit_in_parts
one_more n i rest = refl

along : (n : Names) (parts : List Identifier) (before : Option Denoted) → unit_along n parts before ≡ option_or (unit_in_parts n parts) before
along n [] before = sym (ap (λ u. option_or u before) (no_parts n))
along n (i ∷ rest) before =
    along n rest (option_or (unit_if n (denoted_at n i.place)) before)
    ∙ (else_else (unit_in_parts n rest) (unit_if n (denoted_at n i.place)) before
    ∙ sym (ap (λ u. option_or u before) (one_more n i rest)))

pub parts_are : (n : Names) (parts : List Identifier) → unit_in_parts n parts ≡ unit_along n parts None
parts_are n parts = sym (along n parts None ∙ else_none (unit_in_parts n parts))
