-- What a source without faults of legality has: pragmas of the profile, and ranges dispatched by deadlines that lie in Priority.
use Rattle.std.proofs.Common.{◌≡◌, ℕ, suc, Bool, true, false, not, ◌||◌, List, [], ◌∷◌, ◌++◌, None, leb, take, refl}
use Rattle.std.specs.List.{flat_map, list_all}
use Rattle.std.proofs.lemmas.Bool.{not-false}
use Rattle.ann_base.specs.declared.places.Place.{Place}
use Rattle.ada_tree.specs.declared.units.Pragma.{Pragma}
use Rattle.ada_tree.specs.declared.units.Unit.{Unit as Tree}
use Rattle.ada_regions.specs.NamesInUnits.{names_in_unit}
use Rattle.ada_regions.specs.Numbered.{last_priority_of, names_of, nothing_known}
use Rattle.ada_legality.specs.declared.findings.DeadlineRange.{DeadlineRange}
use Rattle.ada_legality.specs.declared.rules.Rule.{Rule}
use Rattle.ada_legality.specs.declared.rules.Rule.TheVariants as rule
use Rattle.ada_legality.specs.Faults.{faults_in, first_fault_of, found_of, walked}
use Rattle.ada_legality.specs.Findings.{Found, broken_if, broken_unless}
use Rattle.ada_legality.specs.InForce.{deadline_ranges_of}
use Rattle.ada_legality.specs.Packages.{packages_judged}
use Rattle.ada_legality.specs.Pragmas.{is_pragma_of_profile, is_wrong_pragma, pragmas_judged, wrong_pragmas}
use Rattle.ada_legality.specs.UnitsUsed.{found_from}
use Rattle.ada_legality.specs.WholeSource.{found_beside, in_deadline_range, judged_from, passing_cells, range_judged}
use Rattle.policy_laws.proofs.NothingFound.{none-found, none-of}

not-broken : (r : Rule) (t : Bool) (place : Place) → faults_in (broken_if r t place) ≡ [] → t ≡ false
unfolding faults_in
not-broken r true place e = cc
not-broken r false place e = refl

-- ---- pragmas

is-kept : (a b : Bool) → (not a || b) ≡ false → a ≡ true
is-kept true b e = refl
is-kept false b e = cc

of-profile : (last : ℕ) (pragmas before : List Pragma) (p : Pragma) → is_wrong_pragma last pragmas before p ≡ false → is_pragma_of_profile last p ≡ true
unfolding is_wrong_pragma
of-profile last pragmas before p e = is-kept (is_pragma_of_profile last p) _ e

all-of-profile : (last : ℕ) (pragmas : List Pragma) (at : ℕ) (ps : List Pragma) → faults_in (wrong_pragmas last pragmas at ps) ≡ []
    → list_all (is_pragma_of_profile last) ps ≡ true
unfolding wrong_pragmas
all-of-profile last pragmas at [] e = refl
all-of-profile last pragmas at (p ∷ ps) e =
    let wrong = is_wrong_pragma last pragmas (take at pragmas) p in
    let h = none-of (broken_if rule.ConfigurationPragma wrong p.place) (wrong_pragmas last pragmas (suc at) ps) e in
    rw (of-profile last pragmas (take at pragmas) p (not-broken rule.ConfigurationPragma wrong p.place h.0), all-of-profile last pragmas (suc at) ps h.1) refl

-- ---- ranges

-- a range ends at this priority or below
abbrev pub ends_by : ℕ → DeadlineRange → Bool
ends_by last r = leb r.high last

all-end : (last : ℕ) (found : Found) (rs : List DeadlineRange) → faults_in (flat_map (range_judged last found) rs) ≡ [] → list_all (ends_by last) rs ≡ true
unfolding range_judged
all-end last found [] e = refl
all-end last found (r ∷ rs) e =
    let h = none-of (range_judged last found r) (flat_map (range_judged last found) rs) e in
    let g = none-of (broken_unless rule.DeadlineScheduling (leb r.high last) r.place) (flat_map (in_deadline_range last found r) found) h.0 in
    rw (not-false (leb r.high last) (not-broken rule.DeadlineScheduling (not (leb r.high last)) r.place g.0), all-end last found rs h.1) refl

-- ---- a source

-- what is found of its pragmas, and of its ranges
pub record Faultless (unit : Tree) : Type 0 where
  pub profile : list_all (is_pragma_of_profile (last_priority_of unit.pragmas)) unit.pragmas ≡ true
  pub ranges : list_all (ends_by (names_of unit).last_priority) (deadline_ranges_of unit.pragmas) ≡ true

pub faultless : (unit : Tree) → first_fault_of unit ≡ None → Faultless unit
unfolding found_of found_beside pragmas_judged
faultless unit none =
    let n = names_of unit in
    let found = walked unit n (names_in_unit unit) in
    let beside = found_beside n (deadline_ranges_of unit.pragmas) found in
    let pragmas = pragmas_judged unit.pragmas in
    let others = packages_judged n unit.packages ++ found_from (names_in_unit unit) (nothing_known (last_priority_of unit.pragmas)) in
    let ranges = flat_map (range_judged n.last_priority found) (deadline_ranges_of unit.pragmas) in
    let a = none-of found (beside ++ (pragmas ++ others)) (none-found unit none) in
    let b = none-of beside (pragmas ++ others) a.1 in
    let c = none-of (judged_from n found 0 found) (ranges ++ passing_cells n found 0 0 n.declarations) b.0 in
    let d = none-of ranges (passing_cells n found 0 0 n.declarations) c.1 in
    let e = none-of pragmas others b.1 in
    record {
      profile = all-of-profile (last_priority_of unit.pragmas) unit.pragmas 0 unit.pragmas e.0;
      ranges = all-end n.last_priority found (deadline_ranges_of unit.pragmas) d.0;
    }
