-- The cells of library packages, one declaration at a time.
use Rattle.std.specs.List.{flat_map}
use Rattle.std.specs.Prelude.{List, [], cond, ℕ, ◌++◌, ◌+◌, ◌∷◌}
use Rattle.ada_image.specs.Layout.{cells_of_declaration, is_in_scope}
use Rattle.ada_legality.specs.Findings.{Found}
use Rattle.ada_legality.specs.WholeSource.{cells_of, passes_cells}
use Rattle.ada_regions.specs.declared.table.Names.{Names}
use Rattle.ada_regions.specs.declared.table.NumberedDeclaration.{NumberedDeclaration}

-- what is told of a declaration with this number, with so many cells before it
abbrev pub told_of : Names → Found → ℕ → ℕ → NumberedDeclaration → Found
told_of n found number before d = cond (is_in_scope 0 d)
    (cond (passes_cells before (cells_of_declaration n d)) (flat_map (cells_of number) found) [])
    []

-- the cells behind it
abbrev pub cells_with : Names → ℕ → NumberedDeclaration → ℕ
cells_with n before d = cond (is_in_scope 0 d) (before + cells_of_declaration n d) before

-- the same of all declarations from one with this number on
abbrev pub passing_from : Names → Found → ℕ → ℕ → List NumberedDeclaration → Found
passing_from n found number before [] = []
passing_from n found number before (d ∷ ds) =
    told_of n found number before d
    ++ passing_from n found (number + 1) (cells_with n before d) ds
