-- Actuals and formals, one at a time.
use Rattle.std.specs.Prelude.{Bool, List, None, Option, Some, [], cond, false, take, ℕ, ◌+◌, ◌++◌, ◌||◌, ◌∷◌}
use Rattle.ada_legality.specs.Calls.{given_in_place, gives_name, is_for, is_for_a_formal, is_misnamed}
use Rattle.ada_legality.specs.Findings.{Found, broken_unless}
use Rattle.ada_legality.specs.declared.parts.ActualPart.{ActualPart}
use Rattle.ada_legality.specs.declared.parts.FormalPart.{FormalPart}
use Rattle.ada_legality.specs.declared.reading.Read.{Read}
use Rattle.ada_legality.specs.declared.rules.Rule.TheVariants as rule

-- the actuals that are for no formal, from a place on
abbrev pub stray_along : List FormalPart → List ActualPart → ℕ → List ActualPart → Found
stray_along formals actuals at [] = []
stray_along formals actuals at (a ∷ rest) =
    broken_unless rule.Actuals (is_for_a_formal formals (take at actuals) a.formal) a.place
    ++ stray_along formals actuals (at + 1) rest

-- those from this place on give the formal of this name already
abbrev pub given_along : List FormalPart → List ActualPart → ℕ → List ℕ → Bool
given_along formals [] at name = false
given_along formals (a ∷ before) at name =
    (gives_name name a || given_in_place formals a at name)
    || given_along formals before (at + 1) name

-- some actual is misnamed, from this place on
abbrev pub misnamed_along : List FormalPart → List ActualPart → ℕ → List ActualPart → Bool
misnamed_along formals actuals at [] = false
misnamed_along formals actuals at (a ∷ rest) =
    is_misnamed formals (take at actuals) a.formal
    || misnamed_along formals actuals (at + 1) rest

-- the actual for a formal, from this place on
abbrev pub actual_along : ℕ → List ℕ → ℕ → List ActualPart → Option Read
actual_along number name at [] = None
actual_along number name at (a ∷ rest) =
    cond (is_for number name at a.formal) (Some a.read) (actual_along number name (at + 1) rest)
