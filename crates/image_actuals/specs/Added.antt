-- What is made part by part: each part stands behind those before it.
use Rattle.std.specs.Prelude.{◌≡◌, ℕ, List, [], ◌∷◌, ◌++◌, Option, Some, None}
use Rattle.ada_tree.specs.declared.expressions.Expression.{Expression}
use Rattle.ada_tree.specs.declared.expressions.Argument.{Argument}
use Rattle.profile_image.specs.declared.statements.Actual.{Actual}
use Rattle.ada_regions.specs.declared.types.Formal.{Formal}
use Rattle.ada_image.specs.declared.making.Lists.{Lists}
use Rattle.ada_image.specs.declared.making.Within.{Within}
use Rattle.ada_image.specs.Making.{Making, ◌>>=◌, pure}
use Rattle.ada_image.specs.ImageOfExpressions.{arguments_from}
use Rattle.ada_image.specs.ImageOfCalls.{names_of, actual_made, actuals_made}

-- the step leads from the lists before to those behind, and what it gives stands behind what was there
abbrev pub Added : {X : Type 0} → Making (List X) → Lists → Lists → List X → List X → Type 0
Added step before after items more = (after ≡ (step before).0) × (more ≡ items ++ (step before).1)

-- what a step gives stands behind these items
abbrev pub behind : {X : Type 0} → List X → Lists × List X → Lists × List X
behind items given = (given.0, items ++ given.1)

-- the actual for a formal, where there is one
abbrev pub actual_if : Within → Formal → Option Expression → Making (List Actual)
actual_if within f None = pure []
actual_if within f (Some e) = do
  a ← actual_made within f e
  pure (a ∷ [])

-- the actuals for the formals from this number on
abbrev pub actuals_from : Within → ℕ → List Formal → List (Argument Expression) → Lists → Lists × List Actual
actuals_from within i formals arguments lists =
    actuals_made within formals (arguments_from i (names_of formals) arguments) lists
