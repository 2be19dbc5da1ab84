-- Actuals and formals, one at a time.
use Rattle.std.proofs.Common.{◌≡◌, ◌++◌, ◌+◌, ◌||◌, ◌∷◌, ◌∙◌, [], Bool, List, None, Some, cond, false, true, ℕ, ap, arith, refl, suc, take}
use Rattle.ada_legality.specs.Calls.{actual_from, given_before, given_in_place, gives_name, is_for}
use Rattle.ada_legality.specs.Calls.{is_for_a_formal, is_misnamed, some_are_misnamed, stray_actuals}
use Rattle.ada_legality.specs.Findings.{broken_unless}
use Rattle.ada_legality.specs.declared.parts.ActualPart.{ActualPart}
use Rattle.ada_legality.specs.declared.parts.FormalPart.{FormalPart}
use Rattle.ada_legality.specs.declared.rules.Rule.TheVariants as rule
use Rattle.legality_calls.specs.Along.{actual_along, given_along, misnamed_along, stray_along}

no_actual : (formals : List FormalPart) (actuals : List ActualPart) (at : ℕ) → stray_actuals formals actuals at [] ≡ []
unfolding stray_actuals
no_actual formals actuals at = refl

one_actual : (formals : List FormalPart) (actuals : List ActualPart) (at : ℕ) (a : ActualPart) (rest : List ActualPart)
    → stray_actuals formals actuals at (a ∷ rest)
    ≡ broken_unless rule.Actuals (is_for_a_formal formals (take at actuals) a.formal) a.place ++ stray_actuals formals actuals (at + 1) rest
unfolding stray_actuals
one_actual formals actuals at a rest =
    let one : suc at ≡ at + 1 = omega arith in
    ap (λ n. broken_unless rule.Actuals (is_for_a_formal formals (take at actuals) a.formal) a.place ++ stray_actuals formals actuals n rest) one

pub stray_is : (formals : List FormalPart) (actuals : List ActualPart) (at : ℕ) (rest : List ActualPart)
    → stray_actuals formals actuals at rest ≡ stray_along formals actuals at rest
stray_is formals actuals at [] = no_actual formals actuals at
stray_is formals actuals at (a ∷ rest) =
    one_actual formals actuals at a rest
    ∙ ap (λ more. broken_unless rule.Actuals (is_for_a_formal formals (take at actuals) a.formal) a.place ++ more) (stray_is formals actuals (at + 1) rest)

none_given : (formals : List FormalPart) (at : ℕ) (name : List ℕ) → given_before formals [] at name ≡ false
unfolding given_before
none_given formals at name = refl

one_given : (formals : List FormalPart) (a : ActualPart) (before : List ActualPart) (at : ℕ) (name : List ℕ)
    → given_before formals (a ∷ before) at name ≡ gives_name name a || (given_in_place formals a at name || given_before formals before (at + 1) name)
unfolding given_before
one_given formals a before at name =
    let one : suc at ≡ at + 1 = omega arith in
    ap (λ n. gives_name name a || (given_in_place formals a at name || given_before formals before n name)) one

grouped : (a b c : Bool) → a || (b || c) ≡ (a || b) || c
grouped true b c = refl
grouped false b c = refl

pub given_is : (formals : List FormalPart) (before : List ActualPart) (at : ℕ) (name : List ℕ)
    → given_before formals before at name ≡ given_along formals before at name
given_is formals [] at name = none_given formals at name
given_is formals (a ∷ before) at name =
    one_given formals a before at name
    ∙ (ap (λ more. gives_name name a || (given_in_place formals a at name || more)) (given_is formals before (at + 1) name)
    ∙ grouped (gives_name name a) (given_in_place formals a at name) (given_along formals before (at + 1) name))

none_misnamed : (formals : List FormalPart) (actuals : List ActualPart) (at : ℕ) → some_are_misnamed formals actuals at [] ≡ false
unfolding some_are_misnamed
none_misnamed formals actuals at = refl

one_misnamed : (formals : List FormalPart) (actuals : List ActualPart) (at : ℕ) (a : ActualPart) (rest : List ActualPart)
    → some_are_misnamed formals actuals at (a ∷ rest) ≡ is_misnamed formals (take at actuals) a.formal || some_are_misnamed formals actuals (at + 1) rest
unfolding some_are_misnamed
one_misnamed formals actuals at a rest =
    let one : suc at ≡ at + 1 = omega arith in
    ap (λ n. is_misnamed formals (take at actuals) a.formal || some_are_misnamed formals actuals n rest) one

pub misnamed_is : (formals : List FormalPart) (actuals : List ActualPart) (at : ℕ) (rest : List ActualPart)
    → some_are_misnamed formals actuals at rest ≡ misnamed_along formals actuals at rest
misnamed_is formals actuals at [] = none_misnamed formals actuals at
misnamed_is formals actuals at (a ∷ rest) =
    one_misnamed formals actuals at a rest
    ∙ ap (λ more. is_misnamed formals (take at actuals) a.formal || more) (misnamed_is formals actuals (at + 1) rest)

none_from : (number : ℕ) (name : List ℕ) (at : ℕ) → actual_from number name at [] ≡ None
unfolding actual_from
none_from number name at = refl

one_from : (number : ℕ) (name : List ℕ) (at : ℕ) (a : ActualPart) (rest : List ActualPart)
    → actual_from number name at (a ∷ rest) ≡ cond (is_for number name at a.formal) (Some a.read) (actual_from number name (at + 1) rest)
unfolding actual_from
one_from number name at a rest =
    let one : suc at ≡ at + 1 = omega arith in
    ap (λ n. cond (is_for number name at a.formal) (Some a.read) (actual_from number name n rest)) one

pub actual_is : (number : ℕ) (name : List ℕ) (at : ℕ) (rest : List ActualPart) → actual_from number name at rest ≡ actual_along number name at rest
actual_is number name at [] = none_from number name at
actual_is number name at (a ∷ rest) =
    one_from number name at a rest
    ∙ ap (λ more. cond (is_for number name at a.formal) (Some a.read) more) (actual_is number name (at + 1) rest)
