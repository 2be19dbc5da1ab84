-- The cells of library packages, one declaration further.
use Rattle.std.proofs.Common.{◌≡◌, ◌∙◌, ◌++◌, ◌+◌, ◌∷◌, [], ℕ, suc, Bool, true, false, List, ap, arith, cond, refl}
use Rattle.std.specs.List.{flat_map}
use Rattle.ada_image.specs.Layout.{cells_of_declaration, is_in_scope}
use Rattle.ada_legality.specs.Findings.{Found}
use Rattle.ada_legality.specs.WholeSource.{cells_of, passes_cells, passing_cells}
use Rattle.ada_regions.specs.declared.table.Names.{Names}
use Rattle.ada_regions.specs.declared.table.NumberedDeclaration.{NumberedDeclaration}
use Rattle.legality_beside.specs.Passing.{cells_with, passing_from, told_of}

passing_more : (n : Names) (found : Found) (number before : ℕ) (d : NumberedDeclaration) (ds : List NumberedDeclaration)
    → passing_cells n found number before (d ∷ ds) ≡ told_of n found number before d ++ passing_cells n found (number + 1) (cells_with n before d) ds
unfolding passing_cells
passing_more n found number before d ds = by (is_in_scope 0 d)
  where
    cells : ℕ
    cells = cells_of_declaration n d

    told : Found
    told = cond (passes_cells before cells) (flat_map (cells_of number) found) []

    one : suc number ≡ number + 1
    one = omega arith

    by : (b : Bool)
        → cond b (told ++ passing_cells n found (suc number) (before + cells) ds) (passing_cells n found (suc number) before ds)
        ≡ cond b told [] ++ passing_cells n found (number + 1) (cond b (before + cells) before) ds
    by true = ap (λ k. told ++ passing_cells n found k (before + cells) ds) one
    by false = ap (λ k. passing_cells n found k before ds) one

passing_none : (n : Names) (found : Found) (number before : ℕ) → passing_cells n found number before [] ≡ []
unfolding passing_cells
passing_none n found number before = refl

-- the declarations one by one
pub passing_is : (n : Names) (found : Found) (number before : ℕ) (ds : List NumberedDeclaration)
    → passing_cells n found number before ds ≡ passing_from n found number before ds
passing_is n found number before [] = passing_none n found number before
passing_is n found number before (d ∷ ds) =
    passing_more n found number before d ds
    ∙ ap (λ rest. told_of n found number before d ++ rest) (passing_is n found (number + 1) (cells_with n before d) ds)
