-- Marks that are alike have the same natures.
use Rattle.std.proofs.Common.{◌≡◌, List, [], ◌∷◌, refl, ap, ◌∙◌}
use Rattle.profile_machine.specs.declared.world.marks.Frame.{Frame}
use Rattle.line_laws.proofs.Leaving.FineMoves.{Alike, nature, natures}

pub natures-of : (gs fs : List Frame) → Alike gs fs → natures gs ≡ natures fs
natures-of [] [] a = refl
natures-of [] (f ∷ fs) a = absurd a
natures-of (g ∷ gs) [] a = absurd a
natures-of (g ∷ gs) (f ∷ fs) a = ap (λ n. n ∷ natures gs) a.0 ∙ ap (λ ns. nature f.mark ∷ ns) (natures-of gs fs a.2)
