-- Actuals for formals, one at a time.
use Rattle.std.proofs.Common.{◌≡◌, ◌++◌, ◌+◌, ◌∷◌, ◌∙◌, [], List, ℕ, ap, arith, refl, suc}
use Rattle.ada_legality.specs.Calls.{actual_from}
use Rattle.ada_legality.specs.Reading.{actual_if, actuals_fitted}
use Rattle.ada_legality.specs.declared.parts.ActualPart.{ActualPart}
use Rattle.ada_legality.specs.declared.parts.FormalPart.{FormalPart}
use Rattle.ada_legality.specs.declared.standing.Known.{Known}
use Rattle.legality_actuals.specs.Along.{fitted_along}

no_formal : (k : Known) (number : ℕ) (actuals : List ActualPart) → actuals_fitted k number [] actuals ≡ []
unfolding actuals_fitted
no_formal k number actuals = refl

one_formal : (k : Known) (number : ℕ) (f : FormalPart) (fs : List FormalPart) (actuals : List ActualPart)
    → actuals_fitted k number (f ∷ fs) actuals ≡ actual_if k f (actual_from number f.name 0 actuals) ++ actuals_fitted k (number + 1) fs actuals
unfolding actuals_fitted
one_formal k number f fs actuals =
    let one : suc number ≡ number + 1 = omega arith in
    ap (λ n. actual_if k f (actual_from number f.name 0 actuals) ++ actuals_fitted k n fs actuals) one

pub fitted_is : (k : Known) (number : ℕ) (fs : List FormalPart) (actuals : List ActualPart)
    → actuals_fitted k number fs actuals ≡ fitted_along k number fs actuals
fitted_is k number [] actuals = no_formal k number actuals
fitted_is k number (f ∷ fs) actuals =
    one_formal k number f fs actuals
    ∙ ap (λ more. actual_if k f (actual_from number f.name 0 actuals) ++ more) (fitted_is k (number + 1) fs actuals)
