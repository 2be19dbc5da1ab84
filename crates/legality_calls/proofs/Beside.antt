-- A body beside the one around it, one construct at a time.
use Rattle.std.proofs.Common.{◌≡◌, ◌++◌, ◌∷◌, ◌∙◌, [], List, None, Some, ap, refl}
use Rattle.ada_regions.specs.declared.types.AdaType.{AdaType}
use Rattle.ada_legality.specs.declared.standing.Around.{Around}
use Rattle.ada_legality.specs.declared.standing.Around.TheVariants as around
use Rattle.ada_legality.specs.Reading.{function_in_unit, functions_of_unit}
use Rattle.legality_calls.specs.Beside.{functions_along}

nothing_beside : (t : AdaType) (a : Around) → function_in_unit t a [] ≡ []
nothing_beside t around.Package = refl
nothing_beside t around.Main = refl
nothing_beside t (around.Subprogram s) = refl
nothing_beside t (around.Task u) = refl
nothing_beside t (around.Protected u) = refl
nothing_beside t (around.Entry e) = refl
nothing_beside t (around.Accept e) = refl
nothing_beside t (around.Loop label) = refl
nothing_beside t around.Handler = refl
nothing_beside t around.AsynchronousSelect = refl

first_beside : (t : AdaType) (a x : Around) (xs : List Around) → function_in_unit t a (x ∷ xs) ≡ function_in_unit t a (x ∷ [])
first_beside t around.Package x xs = refl
first_beside t around.Main x xs = refl
first_beside t (around.Subprogram s) around.Package xs = refl
first_beside t (around.Subprogram s) around.Main xs = refl
first_beside t (around.Subprogram s) (around.Subprogram r) xs = refl
first_beside t (around.Subprogram s) (around.Task u) xs = refl
first_beside t (around.Subprogram s) (around.Protected u) xs = refl
first_beside t (around.Subprogram s) (around.Entry e) xs = refl
first_beside t (around.Subprogram s) (around.Accept e) xs = refl
first_beside t (around.Subprogram s) (around.Loop label) xs = refl
first_beside t (around.Subprogram s) around.Handler xs = refl
first_beside t (around.Subprogram s) around.AsynchronousSelect xs = refl
first_beside t (around.Task u) x xs = refl
first_beside t (around.Protected u) x xs = refl
first_beside t (around.Entry e) x xs = refl
first_beside t (around.Accept e) x xs = refl
first_beside t (around.Loop label) x xs = refl
first_beside t around.Handler x xs = refl
first_beside t around.AsynchronousSelect x xs = refl

no_function : (t : AdaType) → functions_of_unit t [] ≡ []
unfolding functions_of_unit
no_function t = refl

one_more : (t : AdaType) (a : Around) (outer : List Around) → functions_of_unit t (a ∷ outer) ≡ function_in_unit t a outer ++ functions_of_unit t outer
unfolding functions_of_unit
one_more t a outer = refl

behind : (t : AdaType) (a : Around) (outer : List Around) → functions_of_unit t (a ∷ outer) ≡ functions_along t (Some a) outer
behind t a [] =
    one_more t a []
    ∙ (ap (λ ws. ws ++ functions_of_unit t []) (nothing_beside t a) ∙ no_function t)
behind t a (x ∷ xs) =
    one_more t a (x ∷ xs)
    ∙ (ap (λ ws. ws ++ functions_of_unit t (x ∷ xs)) (first_beside t a x xs)
    ∙ ap (λ ws. function_in_unit t a (x ∷ []) ++ ws) (behind t x xs))

pub functions_are : (t : AdaType) (outer : List Around) → functions_of_unit t outer ≡ functions_along t None outer
functions_are t [] = no_function t
functions_are t (a ∷ outer) = behind t a outer
