-- Restrictions that pragmas give, a pragma at a time.
use Rattle.std.proofs.Common.{◌≡◌, ◌∷◌, ◌∙◌, ◌&&◌, ◌||◌, [], ℕ, Bool, true, false, List, Option, Some, None, ap, cond, codes, filter, is_some, refl}
use Rattle.std.specs.List.{flat_map, list_any}
use Rattle.std.proofs.lemmas.List.Folds.{list_any-append}
use Rattle.ada_image.specs.PoliciesOfImage.{is_longest, least_of, longest_in, longest_in_arguments, longest_of, number_of}
use Rattle.ada_legality.specs.InForce.{gives_restriction, is_given, restriction_arguments}
use Rattle.ada_legality.specs.Pragmas.{is_pragma_named}
use Rattle.ada_regions.specs.Words.{all_of}
use Rattle.ada_tree.specs.declared.expressions.Argument.{Argument}
use Rattle.ada_tree.specs.declared.expressions.Expression.{Expression}
use Rattle.ada_tree.specs.declared.units.Pragma.{Pragma}
use Rattle.legality_pragmas.specs.Restrictions.{gives, gives_longest}

-- the arguments of the first pragma, where it is a pragma Restrictions, and of those behind it
any_in : (test : Argument Expression → Bool) (b : Bool) (p : Pragma) (ps : List Pragma) (given : Bool)
    → list_any test (flat_map (λ q. all_of q.arguments) ps) ≡ given
    → list_any test (flat_map (λ q. all_of q.arguments) (cond b (p ∷ ps) ps)) ≡ ((b && list_any test (all_of p.arguments)) || given)
any_in test true p ps given e =
    list_any-append test (all_of p.arguments) (flat_map (λ q. all_of q.arguments) ps) ∙ ap (λ c. list_any test (all_of p.arguments) || c) e
any_in test false p ps given e = e

any_of : (test : Argument Expression → Bool) (ps : List Pragma)
    → list_any test (flat_map (λ q. all_of q.arguments) (filter (is_pragma_named (codes "restrictions")) ps))
    ≡ list_any (λ p. is_pragma_named (codes "restrictions") p && list_any test (all_of p.arguments)) ps
any_of test [] = refl
any_of test (p ∷ ps) =
    any_in test (is_pragma_named (codes "restrictions") p) p (filter (is_pragma_named (codes "restrictions")) ps)
    (list_any (λ q. is_pragma_named (codes "restrictions") q && list_any test (all_of q.arguments)) ps) (any_of test ps)

-- a restriction is given where a pragma gives it
pub given_is : (pragmas : List Pragma) (name : List ℕ) → is_given (restriction_arguments pragmas) name ≡ list_any (gives name) pragmas
unfolding is_given restriction_arguments
given_is pragmas name = any_of (gives_restriction name) pragmas

some_of : (a b : Option ℕ) → is_some (least_of a b) ≡ (is_some a || is_some b)
unfolding least_of
some_of None b = refl
some_of (Some a) None = refl
some_of (Some a) (Some b) = refl

some_if : (b : Bool) (n : ℕ) → is_some (cond b (Some n) None) ≡ b
some_if true n = refl
some_if false n = refl

some_in : (arguments : List (Argument Expression)) → is_some (longest_in_arguments arguments) ≡ list_any (λ a. is_longest a.formal) arguments
unfolding longest_in_arguments
some_in [] = refl
some_in (a ∷ rest) =
    some_of (cond (is_longest a.formal) (Some (number_of a)) None) (longest_in_arguments rest)
    ∙ (ap (λ b. b || is_some (longest_in_arguments rest)) (some_if (is_longest a.formal) (number_of a))
    ∙ ap (λ b. is_longest a.formal || b) (some_in rest))

some_where : (b : Bool) (o : Option ℕ) (given : Bool) → is_some o ≡ given → is_some (cond b o None) ≡ (b && given)
some_where true o given e = e
some_where false o given e = refl

some_in_pragma : (p : Pragma) → is_some (longest_in p) ≡ gives_longest p
unfolding longest_in
some_in_pragma p =
    some_where (is_pragma_named (codes "restrictions") p) (longest_in_arguments (all_of p.arguments)) (list_any (λ a. is_longest a.formal) (all_of p.arguments))
    (some_in (all_of p.arguments))

-- the length of entry queues is limited where a pragma limits it
pub longest_is : (pragmas : List Pragma) → is_some (longest_of pragmas) ≡ list_any gives_longest pragmas
unfolding longest_of
longest_is [] = refl
longest_is (p ∷ ps) =
    some_of (longest_in p) (longest_of ps)
    ∙ (ap (λ b. b || is_some (longest_of ps)) (some_in_pragma p) ∙ ap (λ b. gives_longest p || b) (longest_is ps))
