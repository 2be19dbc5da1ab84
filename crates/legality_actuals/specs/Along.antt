-- Actuals for formals, one at a time.
use Rattle.std.specs.Prelude.{List, [], ℕ, ◌+◌, ◌++◌, ◌∷◌}
use Rattle.ada_legality.specs.Calls.{actual_from}
use Rattle.ada_legality.specs.Findings.{Found}
use Rattle.ada_legality.specs.Reading.{actual_if}
use Rattle.ada_legality.specs.declared.parts.ActualPart.{ActualPart}
use Rattle.ada_legality.specs.declared.parts.FormalPart.{FormalPart}
use Rattle.ada_legality.specs.declared.standing.Known.{Known}

-- actuals for the formals from this number on
abbrev pub fitted_along : Known → ℕ → List FormalPart → List ActualPart → Found
fitted_along k number [] actuals = []
fitted_along k number (f ∷ fs) actuals =
    actual_if k f (actual_from number f.name 0 actuals) ++ fitted_along k (number + 1) fs actuals
