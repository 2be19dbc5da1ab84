-- The least limits, one argument or pragma before.
use Rattle.std.proofs.Common.{◌≡◌, ℕ, ℤ, ◌-◌, ◌<◌, ◌≤◌, suc, Bool, true, false, List, [], ◌∷◌, ◌++◌, Option}
use Rattle.std.proofs.Common.{None, length, drop, get_or, refl, ap, ◌∙◌, arith, cond, codes, filter}
use Rattle.std.proofs.Math.Seq.{drop-cons}
use Rattle.std.proofs.lemmas.List.{drop_all}
use Rattle.std.specs.List.{flat_map}
use Rattle.ada_legality.specs.InForce.{least_limit, least_limit_in, limit_in, restriction_arguments}
use Rattle.ada_legality.specs.Pragmas.{is_pragma_named}
use Rattle.ada_regions.specs.Words.{all_of}
use Rattle.ada_tree.specs.declared.expressions.Argument.{Argument}
use Rattle.ada_tree.specs.declared.expressions.Expression.{Expression}
use Rattle.ada_tree.specs.declared.units.Pragma.{Pragma}
use Rattle.legality_pragmas.specs.Restrictions.{least_before, least_with}

-- where no argument is left
pub no_argument : (name : List ℕ) (arguments : List (Argument Expression)) (later : Option ℤ) (n : ℕ) → length arguments ≤ n
    → least_with name (drop n arguments) later ≡ later
no_argument name arguments later n l = ap (λ rest. least_with name rest later) (drop_all n arguments l)

argument_at : (name : List ℕ) (arguments : List (Argument Expression)) (later : Option ℤ) (i : ℕ) (d : Argument Expression) → i < length arguments
    → least_with name (drop i arguments) later ≡ least_limit (limit_in name (get_or arguments i d)) (least_with name (drop (suc i) arguments) later)
argument_at name arguments later i d l = ap (λ rest. least_with name rest later) (drop-cons arguments i d l)

-- one argument before those from a place on
pub argument_before : (name : List ℕ) (arguments : List (Argument Expression)) (later : Option ℤ) (n : ℕ) (d : Argument Expression) → 0 < n
    → n ≤ length arguments
    → least_with name (drop (n - 1) arguments) later ≡ least_limit (limit_in name (get_or arguments (n - 1) d)) (least_with name (drop n arguments) later)
argument_before name arguments later n d h l =
    let e : suc (n - 1) ≡ n = omega arith in
    argument_at name arguments later (n - 1) d (omega arith)
    ∙ ap (λ m. least_limit (limit_in name (get_or arguments (n - 1) d)) (least_with name (drop m arguments) later)) e

pub ruleset argument_laws = (no_argument, argument_before)

-- arguments before others
least_joined : (name : List ℕ) (before others : List (Argument Expression))
    → least_limit_in name (before ++ others) ≡ least_with name before (least_limit_in name others)
unfolding least_limit_in
least_joined name [] others = refl
least_joined name (a ∷ rest) others = ap (least_limit (limit_in name a)) (least_joined name rest others)

least_if : (name : List ℕ) (b : Bool) (p : Pragma) (ps : List Pragma)
    → least_limit_in name (flat_map (λ q. all_of q.arguments) (cond b (p ∷ ps) ps))
    ≡ cond b (least_with name (all_of p.arguments) (least_limit_in name (flat_map (λ q. all_of q.arguments) ps)))
    (least_limit_in name (flat_map (λ q. all_of q.arguments) ps))
least_if name true p ps = least_joined name (all_of p.arguments) (flat_map (λ q. all_of q.arguments) ps)
least_if name false p ps = refl

least_first : (name : List ℕ) (p : Pragma) (ps : List Pragma)
    → least_limit_in name (restriction_arguments (p ∷ ps)) ≡ least_before name p (least_limit_in name (restriction_arguments ps))
unfolding restriction_arguments
least_first name p ps = least_if name (is_pragma_named (codes "restrictions") p) p (filter (is_pragma_named (codes "restrictions")) ps)

nothing_given : (name : List ℕ) → least_limit_in name (restriction_arguments []) ≡ None
unfolding least_limit_in restriction_arguments
nothing_given name = refl

-- where no pragma is left
pub no_pragma : (name : List ℕ) (pragmas : List Pragma) (n : ℕ) → length pragmas ≤ n → least_limit_in name (restriction_arguments (drop n pragmas)) ≡ None
no_pragma name pragmas n l = ap (λ ps. least_limit_in name (restriction_arguments ps)) (drop_all n pragmas l) ∙ nothing_given name

pragma_at : (name : List ℕ) (pragmas : List Pragma) (i : ℕ) (d : Pragma) → i < length pragmas
    → least_limit_in name (restriction_arguments (drop i pragmas))
    ≡ least_before name (get_or pragmas i d) (least_limit_in name (restriction_arguments (drop (suc i) pragmas)))
pragma_at name pragmas i d l =
    ap (λ ps. least_limit_in name (restriction_arguments ps)) (drop-cons pragmas i d l)
    ∙ least_first name (get_or pragmas i d) (drop (suc i) pragmas)

-- one pragma before those from a place on
pub pragma_before : (name : List ℕ) (pragmas : List Pragma) (n : ℕ) (d : Pragma) → 0 < n → n ≤ length pragmas
    → least_limit_in name (restriction_arguments (drop (n - 1) pragmas))
    ≡ least_before name (get_or pragmas (n - 1) d) (least_limit_in name (restriction_arguments (drop n pragmas)))
pragma_before name pragmas n d h l =
    let e : suc (n - 1) ≡ n = omega arith in
    pragma_at name pragmas (n - 1) d (omega arith)
    ∙ ap (λ m. least_before name (get_or pragmas (n - 1) d) (least_limit_in name (restriction_arguments (drop m pragmas)))) e

pub ruleset pragma_laws = (no_pragma, pragma_before)
