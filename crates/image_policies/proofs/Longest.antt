-- The longest queue that arguments and pragmas give, one after another.
use Rattle.std.proofs.Common.{◌≡◌, ℕ, List, [], ◌∷◌, Option, Some, None, cond, refl, sym}
use Rattle.ada_tree.specs.declared.expressions.Argument.{Argument}
use Rattle.ada_tree.specs.declared.expressions.Expression.{Expression}
use Rattle.ada_tree.specs.declared.units.Pragma.{Pragma}
use Rattle.ada_image.specs.PoliciesOfImage.{is_longest, least_of, longest_in, longest_in_arguments, longest_of, number_of}
use Rattle.image_policies.proofs.Least.{least_of_none, least_of_three}

pub nothing_before : (a : Option ℕ) → least_of None a ≡ a
unfolding least_of
nothing_before a = refl

-- the first argument, and that none is left
pub argument_here : (a : Option ℕ) (x : Argument Expression) (xs : List (Argument Expression))
    → least_of a (longest_in_arguments (x ∷ xs)) ≡ least_of (least_of a (cond (is_longest x.formal) (Some (number_of x)) None)) (longest_in_arguments xs)
unfolding longest_in_arguments
argument_here a x xs = sym (least_of_three a (cond (is_longest x.formal) (Some (number_of x)) None) (longest_in_arguments xs))

pub no_argument : (a : Option ℕ) → least_of a (longest_in_arguments []) ≡ a
unfolding longest_in_arguments
no_argument a = least_of_none a

-- the first pragma, and that none is left
pub pragma_here : (a : Option ℕ) (p : Pragma) (ps : List Pragma) → least_of a (longest_of (p ∷ ps)) ≡ least_of (least_of a (longest_in p)) (longest_of ps)
unfolding longest_of
pragma_here a p ps = sym (least_of_three a (longest_in p) (longest_of ps))

pub no_pragma : (a : Option ℕ) → least_of a (longest_of []) ≡ a
unfolding longest_of
no_pragma a = least_of_none a

pub ruleset argument_laws = (argument_here, no_argument)

pub ruleset pragma_laws = (nothing_before, pragma_here, no_pragma)
