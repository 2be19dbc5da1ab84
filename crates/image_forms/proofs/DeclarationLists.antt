-- Lists of declarations and of bodies, part by part.
use Rattle.std.proofs.Common.{◌≡◌, Bool, true, false, ◌&&◌, List, [], ◌∷◌, ◌++◌, refl, ap, sym, ◌∙◌}
use Rattle.ada_tree.specs.declared.declarations.Declaration.{Declaration}
use Rattle.ada_tree.specs.declared.declarations.OperationBody.{OperationBody}
use Rattle.ada_tree.specs.declared.declarations.OperationBody.TheVariants as body_of
use Rattle.ada_regions.specs.declared.table.Names.{Names}
use Rattle.ada_image.specs.BuiltExpressions.{Built}
use Rattle.ada_image.specs.BuiltSequences.{operations_built, declaration_built, declarations_built}

in_turn : (a b c : Bool) → (a && (b && c)) ≡ ((a && b) && c)
in_turn true b c = refl
in_turn false b c = refl

module _ {Q : Type 0} (sequence : Q → Built) (n : Names) where
  pub declarations_joined : (ds es : List (Declaration Q))
      → declarations_built sequence (ds ++ es) n ≡ (declarations_built sequence ds n && declarations_built sequence es n)
  declarations_joined [] es = refl
  declarations_joined (d ∷ ds) es =
      ap (λ b. declaration_built sequence d n && b) (declarations_joined ds es)
      ∙ in_turn (declaration_built sequence d n) (declarations_built sequence ds n) (declarations_built sequence es n)
