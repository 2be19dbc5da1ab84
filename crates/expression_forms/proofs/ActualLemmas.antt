-- The actuals of a call, one after another.
use Rattle.std.proofs.Common.{◌≡◌, ℕ, ◌+◌, ◌<◌, suc, Bool, true, false, ◌&&◌, List, ◌∷◌, drop, length, get_or, refl, ap, sym, ◌∙◌, arith}
use Rattle.std.proofs.lemmas.List.{drop_more}
use Rattle.ada_tree.specs.declared.expressions.Expression.{Expression}
use Rattle.ada_tree.specs.declared.expressions.Argument.{Argument}
use Rattle.ada_regions.specs.declared.types.Formal.{Formal}
use Rattle.ada_regions.specs.declared.table.Names.{Names}
use Rattle.ada_image.specs.ImageOfExpressions.{argument_from, arguments_from}
use Rattle.ada_image.specs.ImageOfCalls.{names_of}
use Rattle.ada_image.specs.BuiltStatements.{actual_built, actuals_built}

-- the actuals for the formals from this number on
abbrev pub actuals_from : ℕ → List Formal → List (Argument Expression) → Names → Bool
actuals_from number formals arguments n = actuals_built formals (arguments_from number (names_of formals) arguments) n

one_more : (number : ℕ) (f : Formal) (fs : List Formal) (arguments : List (Argument Expression)) (n : Names)
    → actuals_from number (f ∷ fs) arguments n ≡ (actual_built f (argument_from number f.name 0 arguments) n && actuals_from (suc number) fs arguments n)
unfolding arguments_from
one_more number f fs arguments n = refl

-- the actual for the next formal, and then those for the others
pub actuals_more : (number : ℕ) (formals : List Formal) (f : Formal) (arguments : List (Argument Expression)) (n : Names)
    → number < length formals → f ≡ get_or formals number f
    → actuals_from number (drop number formals) arguments n
    ≡ (actual_built f (argument_from number f.name 0 arguments) n && actuals_from (number + 1) (drop (number + 1) formals) arguments n)
actuals_more number formals f arguments n l is =
    let cut : drop number formals ≡ f ∷ drop (number + 1) formals = drop_more formals number f l ∙ ap (λ x. x ∷ drop (number + 1) formals) (sym is) in
    let next : suc number ≡ number + 1 = omega arith in
    ap (λ fs. actuals_from number fs arguments n) cut
    ∙ one_more number f (drop (number + 1) formals) arguments n
    ∙ ap (λ k. actual_built f (argument_from number f.name 0 arguments) n && actuals_from k (drop (number + 1) formals) arguments n) next

-- where the first is not built, all are not; where it is, the others decide
pub first_missing : {whole : Bool} (first others : Bool) → first ≡ false → (first && others) ≡ whole → false ≡ whole
first_missing first others is e = ap (λ b. b && others) (sym is) ∙ e

pub first_there : {whole : Bool} (first others : Bool) → first ≡ true → (first && others) ≡ whole → others ≡ whole
first_there first others is e = ap (λ b. b && others) (sym is) ∙ e
