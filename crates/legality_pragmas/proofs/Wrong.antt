-- What pragmas break, one pragma at a time.
use Rattle.std.proofs.Common.{◌≡◌, ◌++◌, ◌+◌, ◌∷◌, ◌∙◌, [], ℕ, suc, List, ap, arith, refl}
use Rattle.ada_legality.specs.Pragmas.{wrong_pragmas}
use Rattle.ada_tree.specs.declared.units.Pragma.{Pragma}
use Rattle.legality_pragmas.specs.Judging.{judged_along, pragma_judged}

one_more : (last : ℕ) (pragmas : List Pragma) (at : ℕ) (p : Pragma) (rest : List Pragma)
    → wrong_pragmas last pragmas at (p ∷ rest) ≡ pragma_judged last pragmas at p ++ wrong_pragmas last pragmas (at + 1) rest
unfolding wrong_pragmas
one_more last pragmas at p rest =
    let one : suc at ≡ at + 1 = omega arith in
    ap (λ k. pragma_judged last pragmas at p ++ wrong_pragmas last pragmas k rest) one

none : (last : ℕ) (pragmas : List Pragma) (at : ℕ) → wrong_pragmas last pragmas at [] ≡ []
unfolding wrong_pragmas
none last pragmas at = refl

pub wrong_is : (last : ℕ) (pragmas : List Pragma) (at : ℕ) (rest : List Pragma) → wrong_pragmas last pragmas at rest ≡ judged_along last pragmas at rest
wrong_is last pragmas at [] = none last pragmas at
wrong_is last pragmas at (p ∷ rest) =
    one_more last pragmas at p rest ∙ ap (λ more. pragma_judged last pragmas at p ++ more) (wrong_is last pragmas (at + 1) rest)
