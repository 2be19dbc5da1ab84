-- What the further parts of a use clause's name denote: children of predefined units, or nothing that a use clause may name.
use Rattle.std.proofs.Common.{◌≡◌, ◌⊎◌, inl, inr, ℕ, Bool, true, false, cond, ◌||◌, not, List, [], ◌∷◌}
use Rattle.std.proofs.Common.{map, Option, Some, None, is_some, option_map, refl, sym, ap, subst, ◌∙◌}
use Rattle.ann_base.specs.declared.places.Place.{Place}
use Rattle.ada_tree.specs.declared.names.Identifier.{Identifier}
use Rattle.ada_regions.specs.declared.predefined.Predefined.{Predefined}
use Rattle.ada_regions.specs.declared.predefined.PredefinedUnit.{PredefinedUnit}
use Rattle.ada_regions.specs.declared.entities.Denoted.{Denoted}
use Rattle.ada_regions.specs.declared.entities.Denoted.TheVariants as denotes
use Rattle.ada_regions.specs.declared.table.Names.{Names}
use Rattle.ada_regions.specs.Words.{same_place, last_from}
use Rattle.std.specs.Option.{option_or}
use Rattle.std.proofs.lemmas.Bool.{and_parts}
use Rattle.ada_regions.specs.PredefinedUnits.{child_unit, item_in}
use Rattle.ada_regions.specs.Names.{denoted_at}
use Rattle.ada_regions.specs.Visibility.{item_of}
use Rattle.ada_regions.specs.SelectedNames.{selected, selection_answered, parts_resolved}
use Rattle.source_laws.specs.DirectNames.{Meaning, is_unit, is_nothing}
use Rattle.source_laws.specs.UseClauses.{meaning_or, child_meaning}
use Rattle.source_laws.specs.Places.{place_of, is_among, all_differ}
use Rattle.source_laws.proofs.Names.PositionLemmas.{false-true}
use Rattle.source_laws.proofs.Names.Known.{known}
use Rattle.source_laws.proofs.Names.KnownBegun.{denoted-noted}
use Rattle.source_laws.proofs.Names.Noted.{same-selection}
use Rattle.source_laws.proofs.Names.Denoting.{same_place-path, same_place-itself, not-true}
use Rattle.source_laws.proofs.Names.ClausesKept.{Unowned, clauses-selection}
use Rattle.source_laws.proofs.Names.PackagesKept.{IsSound}
use Rattle.source_laws.proofs.Names.UsesKept.{used_package}
use Rattle.source_laws.proofs.Names.Selecting.{Plain, selected-plain}
use Rattle.source_laws.proofs.Names.Units.{child-none}

-- ---- meanings of prefixes

-- what stands behind it means nothing
abbrev pub Barren : Meaning → Type 0
Barren m = (i : Identifier) (rest : List Identifier) → child_meaning m (i ∷ rest) ≡ is_nothing

-- a prefix denotes by the table what it means by position, as far as clauses ask for it
abbrev pub Fits : Option Denoted → Meaning → Type 0
Fits None m = Barren m
Fits (Some (denotes.Entity e)) m = Barren m
Fits (Some (denotes.Unit u)) m = m ≡ is_unit u
Fits (Some (denotes.Item u i)) m = Barren m

-- the same of a name with further parts: a predefined unit, or nothing that a clause may name
abbrev pub Ends : Names → Option Denoted → Meaning → Type 0
Ends n x m =
    ((u : PredefinedUnit) × (x ≡ Some (denotes.Unit u)) × (m ≡ is_unit u))
    ⊎ ((m ≡ is_nothing) × (used_package n x ≡ None) × ((u : PredefinedUnit) → x ≡ Some (denotes.Unit u) → ⊥))

barren-nothing : Barren is_nothing
barren-nothing i rest = refl

ends-fits : (n : Names) (x : Option Denoted) (m : Meaning) → Ends n x m → Fits x m
ends-fits n None m (inl e) = cc
ends-fits n None m (inr e) = subst Barren (sym e.0) barren-nothing
ends-fits n (Some (denotes.Entity y)) m (inl e) = cc
ends-fits n (Some (denotes.Entity y)) m (inr e) = subst Barren (sym e.0) barren-nothing
ends-fits n (Some (denotes.Unit u)) m (inl e) = let same : u ≡ e.0 = cc in e.2 ∙ ap is_unit (sym same)
ends-fits n (Some (denotes.Unit u)) m (inr e) = absurd (e.2 u refl)
ends-fits n (Some (denotes.Item u i)) m (inl e) = cc
ends-fits n (Some (denotes.Item u i)) m (inr e) = subst Barren (sym e.0) barren-nothing

-- ---- one part

unused-plain : (n : Names) (x : Option Denoted) → Plain n x → (used_package n x ≡ None) × ((u : PredefinedUnit) → x ≡ Some (denotes.Unit u) → ⊥)
unused-plain n None plain = (refl, λ u e. cc)
unused-plain n (Some (denotes.Entity y)) plain = (ap (λ t. cond t (Some (denotes.Entity y)) None) plain, λ u e. cc)
unused-plain n (Some (denotes.Unit u)) plain = absurd plain
unused-plain n (Some (denotes.Item u i)) plain = absurd plain

-- behind a unit
unit-ends : (n : Names) (last : ℕ) (u : PredefinedUnit) (name : List ℕ)
    → Ends n (option_or (item_of last u name) (option_map denotes.Unit (child_unit u name))) (meaning_or is_nothing (option_map is_unit (child_unit u name)))
unfolding item_of
unit-ends n last u name = go (item_in last u name) refl
  where
    child : (x : Option PredefinedUnit) → Ends n (option_map denotes.Unit x) (meaning_or is_nothing (option_map is_unit x))
    child None = inr (refl, refl, λ v e. cc)
    child (Some v) = inl (v, refl, refl)

    go : (x : Option Predefined) → item_in last u name ≡ x
        → Ends n (option_or (option_map (denotes.Item u) x) (option_map denotes.Unit (child_unit u name)))
        (meaning_or is_nothing (option_map is_unit (child_unit u name)))
    go None e = child (child_unit u name)
    go (Some i) e = inr (ap (λ x. meaning_or is_nothing (option_map is_unit x)) (child-none last u name (ap is_some e)), refl, λ v q. cc)

-- what stands behind a prefix d, with the meaning that the rest is asked behind
record Next (n : Names) (d : Denoted) (m : Meaning) (i : Identifier) : Type 0 where
  next : Meaning
  further : (rest : List Identifier) → child_meaning m (i ∷ rest) ≡ child_meaning next rest
  ends : Ends n (selected n i.text d) next

barren-next : (n : Names) (d : Denoted) (m : Meaning) (i : Identifier) → Barren m → Plain n (selected n i.text d) → Next n d m i
barren-next n d m i barren plain =
    let unused = unused-plain n (selected n i.text d) plain in record { next = is_nothing; further = further; ends = inr (refl, unused.0, unused.1) }
  where
    further : (rest : List Identifier) → child_meaning m (i ∷ rest) ≡ child_meaning is_nothing rest
    further [] = barren i []
    further (j ∷ rest) = barren i (j ∷ rest)

next-part : (n : Names) (d : Denoted) (m : Meaning) (i : Identifier) → Fits (Some d) m → IsSound (known n) → Unowned n.frames → Next n d m i
unfolding selected
next-part n (denotes.Entity e) m i fits sound unowned = barren-next n (denotes.Entity e) m i fits (selected-plain n i.text e sound unowned)
next-part n (denotes.Unit u) m i fits sound unowned = record {
  next = meaning_or is_nothing (option_map is_unit (child_unit u i.text));
  further = λ rest. ap (λ z. child_meaning z (i ∷ rest)) fits;
  ends = unit-ends n n.last_priority u i.text;
}
next-part n (denotes.Item u x) m i fits sound unowned = barren-next n (denotes.Item u x) m i fits tt

-- ---- all further parts

known-selection : (i : Identifier) (x : Option Denoted) (n : Names) → known (selection_answered i x n) ≡ known n
known-selection i None n = refl
known-selection i (Some d) n = refl

used-selection : (i : Identifier) (x : Option Denoted) (n : Names) (y : Option Denoted) → used_package (selection_answered i x n) y ≡ used_package n y
used-selection i None n y = refl
used-selection i (Some d) n y = go y
  where
    go : (z : Option Denoted) → used_package (selection_answered i (Some d) n) z ≡ used_package n z
    go None = refl
    go (Some (denotes.Entity e)) = refl
    go (Some (denotes.Unit u)) = refl
    go (Some (denotes.Item u x)) = refl

denoted-selection : (i : Identifier) (x : Option Denoted) (n : Names) → denoted_at n i.place ≡ None → denoted_at (selection_answered i x n) i.place ≡ x
denoted-selection i None n none = none
denoted-selection i (Some d) n none = denoted-noted i.place d n.denotations

-- a part is kept at its own place
selection-other : (q : Place) (i : Identifier) (x : Option Denoted) (n : Names) → same_place q i.place ≡ false
    → denoted_at (selection_answered i x n) q ≡ denoted_at n q
selection-other q i x n other = same-selection q i x n other

-- nothing is kept yet of the places of these parts, which differ
abbrev pub Unnoted : Names → List Identifier → Type 0
Unnoted n parts = (all_differ (map place_of parts) ≡ true) × ((q : Place) → is_among q (map place_of parts) ≡ true → denoted_at n q ≡ None)

first-unnoted : (n : Names) (i : Identifier) (rest : List Identifier) → Unnoted n (i ∷ rest) → denoted_at n i.place ≡ None
first-unnoted n i rest u = u.1 i.place (ap (λ t. t || is_among i.place (map place_of rest)) (same_place-itself i.place))

rest-unnoted : (n : Names) (i : Identifier) (x : Option Denoted) (rest : List Identifier) → Unnoted n (i ∷ rest) → Unnoted (selection_answered i x n) rest
rest-unnoted n i x rest u = (both.1, others)
  where
    both : (not (is_among i.place (map place_of rest)) ≡ true) × (all_differ (map place_of rest) ≡ true)
    both = and_parts (not (is_among i.place (map place_of rest))) (all_differ (map place_of rest)) u.0

    also : (s t : Bool) → t ≡ true → (s || t) ≡ true
    also true t e = refl
    also false t e = e

    -- another place
    other : (q : Place) → is_among q (map place_of rest) ≡ true → (t : Bool) → same_place q i.place ≡ t → t ≡ false
    other q among true e =
        absurd (false-true
        (sym (not-true (is_among i.place (map place_of rest)) both.0) ∙ (ap (λ z. is_among z (map place_of rest)) (sym (same_place-path q i.place e)) ∙ among)))
    other q among false e = refl

    others : (q : Place) → is_among q (map place_of rest) ≡ true → denoted_at (selection_answered i x n) q ≡ None
    others q among =
        selection-other q i x n (other q among (same_place q i.place) refl) ∙ u.1 q (also (same_place q i.place) (is_among q (map place_of rest)) among)

last-unnoted : (n : Names) (i : Identifier) (rest : List Identifier) → Unnoted n (i ∷ rest) → denoted_at n (last_from i rest).place ≡ None
last-unnoted n i [] u = first-unnoted n i [] u
last-unnoted n i (j ∷ rest) u =
    last-unnoted n j rest (
      (and_parts _ (all_differ (map place_of (j ∷ rest))) u.0).1,
      λ q among. u.1 q (also (same_place q i.place) (is_among q (map place_of (j ∷ rest))) among),
    )
  where
    also : (s t : Bool) → t ≡ true → (s || t) ≡ true
    also true t e = refl
    also false t e = e

ends-as : (n : Names) (x y : Option Denoted) (m k : Meaning) → y ≡ x → k ≡ m → Ends n x m → Ends n y k
ends-as n x y m k e f ends = subst (λ z. Ends n z k) (sym e) (subst (λ z. Ends n x z) (sym f) ends)

-- in a table that says the same of packages
ends-at : (n m : Names) (x : Option Denoted) (k : Meaning) → ((y : Option Denoted) → used_package m y ≡ used_package n y) → Ends n x k → Ends m x k
ends-at n m x k same (inl e) = inl e
ends-at n m x k same (inr e) = inr (e.0, same x ∙ e.1, e.2)

pub parts-end : (x : Option Denoted) (m : Meaning) (i : Identifier) (rest : List Identifier) (n : Names) → Fits x m → IsSound (known n) → Unowned n.frames
    → Unnoted n (i ∷ rest)
    → Ends (parts_resolved x (i ∷ rest) n) (denoted_at (parts_resolved x (i ∷ rest) n) (last_from i rest).place) (child_meaning m (i ∷ rest))
parts-end None m i rest n fits sound unowned u =
    inr (fits i rest, ap (used_package n) (last-unnoted n i rest u), λ v e. (let h : None ≡ Some (denotes.Unit v) = sym (last-unnoted n i rest u) ∙ e in cc))
parts-end (Some d) m i [] n fits sound unowned u =
    let next = next-part n d m i fits sound unowned in
    let x = selected n i.text d in
    let n' = selection_answered i x n in
    ends-at n n' (denoted_at n' i.place) (child_meaning m (i ∷ [])) (used-selection i x n)
    (ends-as n x (denoted_at n' i.place) next.next (child_meaning m (i ∷ [])) (denoted-selection i x n (first-unnoted n i [] u))
    (next.further []) next.ends)
parts-end (Some d) m i (j ∷ rest) n fits sound unowned u =
    let next = next-part n d m i fits sound unowned in
    let x = selected n i.text d in
    let n' = selection_answered i x n in
    subst (λ z. Ends (parts_resolved x (j ∷ rest) n') (denoted_at (parts_resolved x (j ∷ rest) n') (last_from j rest).place) z) (sym (next.further (j ∷ rest)))
    (parts-end x next.next j rest n' (ends-fits n x next.next next.ends) (subst IsSound (sym (known-selection i x n)) sound)
    (subst Unowned (ap (λ c. c.frames) (sym (clauses-selection i x n))) unowned) (rest-unnoted n i x (j ∷ rest) u))
