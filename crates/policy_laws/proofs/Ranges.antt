-- The ranges that pragmas ask for: those that are dispatched by deadlines end in Priority where they are judged to.
use Rattle.std.proofs.Common.{◌≡◌, ℕ, Bool, true, false, not, cond, ◌&&◌, ◌||◌, List, [], ◌∷◌, ◌++◌, filter, map, leb, codes, refl, sym, ap, ◌∙◌, arith}
use Rattle.std.specs.List.{flat_map, list_all}
use Rattle.std.specs.Str.{bytes_eq}
use Rattle.std.proofs.lemmas.Bool.{and_parts, le-leb}
use Rattle.std.proofs.lemmas.List.Folds.{list_all-append}
use Rattle.ann_base.specs.declared.places.Place.{Place}
use Rattle.ada_tree.specs.declared.units.Pragma.{Pragma}
use Rattle.profile_image.specs.declared.image.Dispatching.{Dispatching}
use Rattle.profile_image.specs.declared.image.Dispatching.TheVariants.{FifoWithinPriorities, RoundRobinWithinPriorities, EdfAcrossPriorities}
use Rattle.profile_image.specs.declared.image.DispatchingRange.{DispatchingRange}
use Rattle.profile_image.specs.Program.{is_edf_policy}
use Rattle.ada_image.specs.PoliciesOfImage.{policy_of, range_with, whole_range_with, specific_range, ranges_of_pragma, range_inserted, ranges_sorted}
use Rattle.ada_legality.specs.declared.findings.DeadlineRange.{DeadlineRange}
use Rattle.ada_legality.specs.InForce.{is_by_deadline, deadline_ranges_of_pragma}
use Rattle.ada_legality.specs.Pragmas.{is_pragma_of_profile}
use Rattle.ceiling_laws.specs.CeilingLaws.{is_below_interrupts}
use Rattle.policy_laws.proofs.Faultless.{ends_by}

-- ---- in their order

inserted : (test : DispatchingRange → Bool) (r : DispatchingRange) (rs : List DispatchingRange) → test r ≡ true → list_all test rs ≡ true
    → list_all test (range_inserted r rs) ≡ true
unfolding range_inserted
inserted test r [] one all = rw one refl
inserted test r (s ∷ rs) one all = let h = and_parts (test s) (list_all test rs) all in go (leb r.first s.first) h.0 (inserted test r rs one h.1)
  where
    go : (t : Bool) → test s ≡ true → list_all test (range_inserted r rs) ≡ true → list_all test (cond t (r ∷ s ∷ rs) (s ∷ range_inserted r rs)) ≡ true
    go true first later = ap (λ t. t && list_all test (s ∷ rs)) one ∙ all
    go false first later = ap (λ t. t && list_all test (range_inserted r rs)) first ∙ later

pub sorted : (test : DispatchingRange → Bool) (rs : List DispatchingRange) → list_all test rs ≡ true → list_all test (ranges_sorted rs) ≡ true
unfolding ranges_sorted
sorted test [] all = refl
sorted test (r ∷ rs) all = let h = and_parts (test r) (list_all test rs) all in inserted test r (ranges_sorted rs) h.0 (sorted test rs h.1)

-- ---- of pragmas, where this is the last Priority

-- a range with the place of its pragma
abbrev placed : Place → DispatchingRange → DeadlineRange
placed place r = record { place = place; low = r.first; high = r.last }

-- it is dispatched by deadlines
abbrev has_deadlines : DispatchingRange → Bool
has_deadlines r = is_by_deadline r.policy

module _ (last : ℕ) where
  -- one policy for all leaves the highest level out
  whole : (policy : Dispatching) → list_all (is_below_interrupts last) (whole_range_with last policy) ≡ true
  unfolding whole_range_with range_with
  whole FifoWithinPriorities = refl
  whole RoundRobinWithinPriorities = refl
  whole EdfAcrossPriorities = ap (λ t. t && true) (le-leb last last (omega arith))

  judged : (place : Place) (rs : List DispatchingRange) → list_all (ends_by last) (map (placed place) (filter has_deadlines rs)) ≡ true
      → list_all (is_below_interrupts last) rs ≡ true
  judged place [] all = refl
  judged place (r ∷ rs) all = go r.policy all (judged place rs)
    where
      later : List DispatchingRange
      later = filter has_deadlines rs

      go : (policy : Dispatching) → list_all (ends_by last) (map (placed place) (cond (is_by_deadline policy) (r ∷ later) later)) ≡ true
          → (list_all (ends_by last) (map (placed place) later) ≡ true → list_all (is_below_interrupts last) rs ≡ true)
          → ((not (is_edf_policy policy) || leb r.last last) && list_all (is_below_interrupts last) rs) ≡ true
      go FifoWithinPriorities h rest = rest h
      go RoundRobinWithinPriorities h rest = rest h
      go EdfAcrossPriorities h rest =
          let k = and_parts (leb r.last last) (list_all (ends_by last) (map (placed place) later)) h in
          ap (λ t. t && list_all (is_below_interrupts last) rs) k.0 ∙ rest k.1

  -- the ranges that are judged may be those of another last Priority
  of-pragma : (other : ℕ) (p : Pragma) → list_all (ends_by last) (deadline_ranges_of_pragma other p) ≡ true
      → list_all (is_below_interrupts last) (ranges_of_pragma last p) ≡ true
  unfolding deadline_ranges_of_pragma ranges_of_pragma
  of-pragma other p all = go (bytes_eq p.name.text (codes "task_dispatching_policy")) all
    where
      policy : Dispatching
      policy = policy_of p.arguments.first

      specific : List DispatchingRange
      specific = cond (bytes_eq p.name.text (codes "priority_specific_dispatching")) (specific_range p.arguments.first p.arguments.others) []

      go : (t : Bool) → list_all (ends_by last) (map (placed p.place) (filter has_deadlines (cond t (whole_range_with other policy) specific))) ≡ true
          → list_all (is_below_interrupts last) (cond t (whole_range_with last policy) specific) ≡ true
      go true h = whole policy
      go false h = judged p.place specific h

  pub of-pragmas : (other : ℕ) (ps : List Pragma) → list_all (is_pragma_of_profile other) ps ≡ true
      → list_all (ends_by last) (flat_map (deadline_ranges_of_pragma other) (filter (is_pragma_of_profile other) ps)) ≡ true
      → list_all (is_below_interrupts last) (flat_map (ranges_of_pragma last) ps) ≡ true
  of-pragmas other [] profile all = refl
  of-pragmas other (p ∷ ps) profile all =
      let h = and_parts (is_pragma_of_profile other p) (list_all (is_pragma_of_profile other) ps) profile in
      go (is_pragma_of_profile other p) h.0 all (of-pragmas other ps h.1)
    where
      later : List Pragma
      later = filter (is_pragma_of_profile other) ps

      mine : List DeadlineRange
      mine = deadline_ranges_of_pragma other p

      others : List DeadlineRange
      others = flat_map (deadline_ranges_of_pragma other) later

      go : (t : Bool) → t ≡ true → list_all (ends_by last) (flat_map (deadline_ranges_of_pragma other) (cond t (p ∷ later) later)) ≡ true
          → (list_all (ends_by last) others ≡ true → list_all (is_below_interrupts last) (flat_map (ranges_of_pragma last) ps) ≡ true)
          → list_all (is_below_interrupts last) (ranges_of_pragma last p ++ flat_map (ranges_of_pragma last) ps) ≡ true
      go true is h rest =
          let k = and_parts (list_all (ends_by last) mine) (list_all (ends_by last) others) (sym (list_all-append (ends_by last) mine others) ∙ h) in
          list_all-append (is_below_interrupts last) (ranges_of_pragma last p) (flat_map (ranges_of_pragma last) ps) ∙ rw (of-pragma other p k.0, rest k.1) refl
      go false is h rest = cc
