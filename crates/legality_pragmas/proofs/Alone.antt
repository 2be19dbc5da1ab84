-- The ranges of pragmas, each taken alone.
use Rattle.std.proofs.Common.{◌≡◌, ◌++◌, ◌∷◌, ◌∙◌, [], ℕ, Bool, true, false, List, ap, cond, codes, filter, map, refl}
use Rattle.std.specs.List.{flat_map}
use Rattle.std.specs.Str.{bytes_eq}
use Rattle.ada_image.specs.PoliciesOfImage.{number_of, policies_of, policy_of, range_inserted, range_with}
use Rattle.ada_image.specs.PoliciesOfImage.{ranges_of_pragma, ranges_sorted, specific_range, whole_range_with}
use Rattle.ada_legality.specs.InForce.{deadline_ranges_of, deadline_ranges_of_pragma, is_by_deadline}
use Rattle.ada_legality.specs.Pragmas.{is_pragma_of_profile}
use Rattle.ada_legality.specs.declared.findings.DeadlineRange.{DeadlineRange}
use Rattle.ada_regions.specs.Numbered.{last_priority_of}
use Rattle.ada_tree.specs.declared.expressions.Argument.{Argument}
use Rattle.ada_tree.specs.declared.expressions.Expression.{Expression}
use Rattle.ada_tree.specs.declared.units.Pragma.{Pragma}
use Rattle.ann_base.specs.declared.places.Place.{Place}
use Rattle.profile_image.specs.declared.image.Dispatching.{Dispatching}
use Rattle.profile_image.specs.declared.image.DispatchingRange.{DispatchingRange}
use Rattle.legality_pragmas.specs.Deadlines.{deadlines_of, placed, told}
use Rattle.profile_image.specs.declared.image.Dispatching.TheVariants as dispatching

-- ---- a pragma gives at most one range, which stands in order

with_sorted : (d : Dispatching) (first last : ℕ) → ranges_sorted (range_with d first last ++ []) ≡ range_with d first last
unfolding range_with ranges_sorted range_inserted
with_sorted dispatching.FifoWithinPriorities first last = refl
with_sorted dispatching.RoundRobinWithinPriorities first last = refl
with_sorted dispatching.EdfAcrossPriorities first last = refl

whole_sorted : (last : ℕ) (d : Dispatching) → ranges_sorted (whole_range_with last d ++ []) ≡ whole_range_with last d
unfolding range_with whole_range_with ranges_sorted range_inserted
whole_sorted last dispatching.FifoWithinPriorities = refl
whole_sorted last dispatching.RoundRobinWithinPriorities = refl
whole_sorted last dispatching.EdfAcrossPriorities = refl

none_sorted : ranges_sorted [] ≡ []
unfolding ranges_sorted
none_sorted = refl

specific_sorted : (a : Argument Expression) (bounds : List (Argument Expression)) → ranges_sorted (specific_range a bounds ++ []) ≡ specific_range a bounds
unfolding specific_range
specific_sorted a [] = none_sorted
specific_sorted a (b ∷ []) = none_sorted
specific_sorted a (b ∷ c ∷ more) = with_sorted (policy_of a) (number_of b) (number_of c)

one_of_sorted : (a b : Bool) (xs ys : List DispatchingRange) → ranges_sorted (xs ++ []) ≡ xs → ranges_sorted (ys ++ []) ≡ ys
    → ranges_sorted (cond a xs (cond b ys []) ++ []) ≡ cond a xs (cond b ys [])
one_of_sorted true b xs ys x y = x
one_of_sorted false true xs ys x y = y
one_of_sorted false false xs ys x y = none_sorted

-- the ranges of a pragma that stands alone
alone_sorted : (last : ℕ) (p : Pragma) → ranges_sorted (flat_map (ranges_of_pragma last) (p ∷ [])) ≡ ranges_of_pragma last p
unfolding ranges_of_pragma
alone_sorted last p = one_of_sorted (bytes_eq p.name.text (codes "task_dispatching_policy")) (bytes_eq p.name.text (codes "priority_specific_dispatching"))
    (whole_range_with last (policy_of p.arguments.first)) (specific_range p.arguments.first p.arguments.others)
    (whole_sorted last (policy_of p.arguments.first)) (specific_sorted p.arguments.first p.arguments.others)

-- the same, as the policies of that pragma have them
pub alone_dispatching : (last : ℕ) (p : Pragma) → (policies_of last (p ∷ [])).dispatching ≡ ranges_of_pragma last p
unfolding policies_of
alone_dispatching last p = alone_sorted last p

-- ---- EDF ranges, from the first pragma to the last

told_if : (place : Place) (b : Bool) (r : DispatchingRange) (rs : List DispatchingRange) (rest : List DeadlineRange) → map (placed place) rs ≡ rest
    → map (placed place) (cond b (r ∷ rs) rs) ≡ cond b (placed place r ∷ []) [] ++ rest
told_if place true r rs rest e = ap (λ xs. placed place r ∷ xs) e
told_if place false r rs rest e = e

told_is : (place : Place) (rs : List DispatchingRange) → map (placed place) (filter (λ r. is_by_deadline r.policy) rs) ≡ flat_map (told place) rs
told_is place [] = refl
told_is place (r ∷ rs) = told_if place (is_by_deadline r.policy) r (filter (λ q. is_by_deadline q.policy) rs) (flat_map (told place) rs) (told_is place rs)

pragma_is : (last : ℕ) (p : Pragma) → deadline_ranges_of_pragma last p ≡ flat_map (told p.place) (ranges_of_pragma last p)
unfolding deadline_ranges_of_pragma
pragma_is last p = told_is p.place (ranges_of_pragma last p)

pragma_if : (last : ℕ) (b : Bool) (p : Pragma) (ps : List Pragma) (rest : List DeadlineRange) → flat_map (deadline_ranges_of_pragma last) ps ≡ rest
    → flat_map (deadline_ranges_of_pragma last) (cond b (p ∷ ps) ps) ≡ cond b (flat_map (told p.place) (ranges_of_pragma last p)) [] ++ rest
pragma_if last true p ps rest e =
    ap (λ xs. xs ++ flat_map (deadline_ranges_of_pragma last) ps) (pragma_is last p)
    ∙ ap (λ xs. flat_map (told p.place) (ranges_of_pragma last p) ++ xs) e
pragma_if last false p ps rest e = e

pragmas_are : (last : ℕ) (ps : List Pragma)
    → flat_map (deadline_ranges_of_pragma last) (filter (is_pragma_of_profile last) ps) ≡ flat_map (deadlines_of last) ps
pragmas_are last [] = refl
pragmas_are last (p ∷ ps) =
    pragma_if last (is_pragma_of_profile last p) p (filter (is_pragma_of_profile last) ps) (flat_map (deadlines_of last) ps) (pragmas_are last ps)

-- the EDF ranges of a source
pub ranges_are : (pragmas : List Pragma) → deadline_ranges_of pragmas ≡ flat_map (deadlines_of (last_priority_of pragmas)) pragmas
unfolding deadline_ranges_of
ranges_are pragmas = pragmas_are (last_priority_of pragmas) pragmas
