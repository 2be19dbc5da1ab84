-- What findings break beside the others, one finding at a time.
use Rattle.std.proofs.Common.{◌≡◌, ◌++◌, ◌+◌, ◌∷◌, ◌∙◌, [], ℕ, suc, ap, arith, refl, take}
use Rattle.ada_legality.specs.Findings.{Found}
use Rattle.ada_legality.specs.WholeSource.{judged_beside, judged_from}
use Rattle.ada_legality.specs.declared.findings.Finding.{Finding}
use Rattle.ada_regions.specs.declared.table.Names.{Names}
use Rattle.legality_beside.specs.Judging.{judged_along}

one_more : (n : Names) (found : Found) (at : ℕ) (f : Finding) (rest : Found)
    → judged_from n found at (f ∷ rest) ≡ judged_beside n found (take at found) f ++ judged_from n found (at + 1) rest
unfolding judged_from
one_more n found at f rest =
    let one : suc at ≡ at + 1 = omega arith in
    ap (λ k. judged_beside n found (take at found) f ++ judged_from n found k rest) one

none : (n : Names) (found : Found) (at : ℕ) → judged_from n found at [] ≡ []
unfolding judged_from
none n found at = refl

pub judged_is : (n : Names) (found : Found) (at : ℕ) (rest : Found) → judged_from n found at rest ≡ judged_along n found at rest
judged_is n found at [] = none n found at
judged_is n found at (f ∷ rest) = one_more n found at f rest ∙ ap (λ more. judged_beside n found (take at found) f ++ more) (judged_is n found (at + 1) rest)
