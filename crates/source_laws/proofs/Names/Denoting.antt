-- What is kept of a direct name in the table of a source is what the regions around it declare.
use Rattle.std.proofs.Common.{◌≡◌, inl, inr, ℕ, Bool, true, false, not, ◌&&◌, ◌||◌, List, [], ◌∷◌, ◌++◌, map}
use Rattle.std.proofs.Common.{Option, Some, None, option_map, eqb, refl, sym, ap, ap₂, subst, ◌∙◌, eqb-true, eq-eqb}
use Rattle.std.proofs.lemmas.Bool.{and_parts, or_right}
use Rattle.world_tables.specs.Tables.{item_at}
use Rattle.ann_base.specs.declared.places.Place.{Place}
use Rattle.ada_tree.specs.declared.names.Identifier.{Identifier}
use Rattle.ada_regions.specs.declared.entities.Denoted.{Denoted}
use Rattle.ada_regions.specs.declared.table.Names.{Names}
use Rattle.ada_regions.specs.Words.{same_place}
use Rattle.ada_regions.specs.Names.{denoted_at}
use Rattle.ada_regions.specs.Visibility.{directly, used_around, found_if, found_or, sought, answered, resolved}
use Rattle.ada_regions.specs.SelectedNames.{name_resolved}
use Rattle.ada_regions.specs.Regions.{used}
use Rattle.ada_regions.specs.Occurrences.{Occurrence, mentions, mentions_simply, use_package}
use Rattle.ada_regions.specs.Numbered.{behind, last_priority_of}
use Rattle.source_laws.specs.Positions.{Before, Stands, end_of}
use Rattle.source_laws.specs.Tables.{table_at}
use Rattle.source_laws.specs.Denoted.{told_meaning}
use Rattle.source_laws.specs.Places.{place_of, places_in, places_before, is_among, all_differ, direct_name}
use Rattle.source_laws.specs.NameLaws.{DirectNamesByPosition}
use Rattle.source_laws.proofs.Names.PositionLemmas.{false-true, none-some, stands-here, stands-tail}
use Rattle.source_laws.proofs.Names.KeptUnits.{not-false}
use Rattle.source_laws.proofs.Names.KnownBegun.{denoted-noted}
use Rattle.source_laws.proofs.Names.Noted.{same-parts, same-used_if, same-behind, both-false}
use Rattle.source_laws.proofs.Names.Lawful.{table_at_the_end, kept-in, directly-meant}

-- ---- places that differ

pub same_place-path : (p q : Place) → same_place p q ≡ true → p ≡ q
same_place-path p q e =
    let both = and_parts (eqb p.line q.line) (eqb p.column q.column) e in
    ap₂ (λ l c. record { line = l; column = c }) (eqb-true p.line q.line both.0) (eqb-true p.column q.column both.1)

pub same_place-itself : (p : Place) → same_place p p ≡ true
same_place-itself p = ap₂ (λ a b. a && b) (eq-eqb p.line p.line refl) (eq-eqb p.column p.column refl)

pub among-append : (p : Place) (xs ys : List Place) → is_among p (xs ++ ys) ≡ (is_among p xs || is_among p ys)
among-append p [] ys = refl
among-append p (x ∷ xs) ys = go (same_place p x) (among-append p xs ys)
  where
    go : (t : Bool) → is_among p (xs ++ ys) ≡ (is_among p xs || is_among p ys) → (t || is_among p (xs ++ ys)) ≡ ((t || is_among p xs) || is_among p ys)
    go true e = refl
    go false e = e

differ-behind : (xs ys : List Place) → all_differ (xs ++ ys) ≡ true → all_differ ys ≡ true
differ-behind [] ys e = e
differ-behind (x ∷ xs) ys e = differ-behind xs ys (and_parts (not (is_among x (xs ++ ys))) (all_differ (xs ++ ys)) e).1

-- what is among the later ones is not among the first
pub differ-apart : (p : Place) (xs ys : List Place) → all_differ (xs ++ ys) ≡ true → is_among p ys ≡ true → is_among p xs ≡ false
differ-apart p [] ys e later = refl
differ-apart p (x ∷ xs) ys e later = go (same_place p x) refl (differ-apart p xs ys differ.1 later)
  where
    differ : (not (is_among x (xs ++ ys)) ≡ true) × (all_differ (xs ++ ys) ≡ true)
    differ = and_parts (not (is_among x (xs ++ ys))) (all_differ (xs ++ ys)) e

    go : (t : Bool) → same_place p x ≡ t → is_among p xs ≡ false → (t || is_among p xs) ≡ false
    go true q more = absurd (not-false (is_among x (xs ++ ys)) differ.0
        (among-append x xs ys ∙ or_right (is_among x xs) (is_among x ys) (ap (λ z. is_among z ys) (sym (same_place-path p x q)) ∙ later)))
    go false q more = more

-- ---- before the name, and behind it

-- of a place that no occurrence before has nothing is kept
pub never-noted : (last : ℕ) (p : Place) (before : Before) → is_among p (places_before before) ≡ false → denoted_at (table_at last before) p ≡ None
unfolding item_at
never-noted last p [] none = refl
never-noted last p (o ∷ before) none =
    let apart =
    both-false p (is_among p (places_in o)) (is_among p (places_before before)) (sym (among-append p (places_in o) (places_before before)) ∙ none) in
    same-behind p o (table_at last before) apart.0 ∙ never-noted last p before apart.1

pub place-before : (p : Place) (b before : Before) → Stands b before → is_among p (places_before b) ≡ true → is_among p (places_before before) ≡ true
place-before p b [] s among = ap (λ z. is_among p (places_before z)) (sym s) ∙ among
place-before p b (o ∷ before) (inl e) among = ap (λ z. is_among p (places_before z)) (sym e) ∙ among
place-before p b (o ∷ before) (inr s) among =
    among-append p (places_in o) (places_before before)
    ∙ or_right (is_among p (places_in o)) (is_among p (places_before before)) (place-before p b before s among)

-- what is kept of a place stays, where no two places are the same
pub stays-noted : (last : ℕ) (p : Place) (b before : Before) → Stands b before → all_differ (places_before before) ≡ true → is_among p (places_before b) ≡ true
    → denoted_at (table_at last before) p ≡ denoted_at (table_at last b) p
stays-noted last p b [] s differ among = ap (λ z. denoted_at (table_at last z) p) (sym s)
stays-noted last p b (o ∷ before) (inl e) differ among = ap (λ z. denoted_at (table_at last z) p) (sym e)
stays-noted last p b (o ∷ before) (inr s) differ among =
    same-behind p o (table_at last before) (differ-apart p (places_in o) (places_before before) differ (place-before p b before s among))
    ∙ stays-noted last p b before s (differ-behind (places_in o) (places_before before) differ) among

-- ---- at the name

-- what is visible directly is noted
directly-noted : (i : Identifier) (n : Names) (d : Option Denoted) → directly n i.text ≡ Some d → denoted_at n i.place ≡ None
    → denoted_at (resolved i n) i.place ≡ d
unfolding resolved sought
directly-noted i n d e none = ap (λ x. denoted_at (answered i (found_or (used_around n i.text n.frames) x) n) i.place) e ∙ go d
  where
    go : (x : Option Denoted) → denoted_at (answered i (found_if x) n) i.place ≡ x
    go None = none
    go (Some y) = denoted-noted i.place y n.denotations

-- the occurrence has the place of its direct name first
pub first-place : (o : Occurrence) (i : Identifier) → direct_name o ≡ Some i → (rest : List Place) × (places_in o ≡ i.place ∷ rest)
    × ((n : Names) → is_among i.place rest ≡ false → denoted_at (behind o n) i.place ≡ denoted_at (resolved i n) i.place)
unfolding behind name_resolved used
first-place (mentions name) i e =
    let same : name.parts.first ≡ i = cc in
    subst (λ z. (rest : List Place) × (places_in (mentions name) ≡ z.place ∷ rest)
    × ((n : Names) → is_among z.place rest ≡ false → denoted_at (behind (mentions name) n) z.place ≡ denoted_at (resolved z n) z.place)) same
    (map place_of name.parts.others, refl, λ n apart. same-parts name.parts.first.place _ name.parts.others (resolved name.parts.first n) apart)
first-place (mentions_simply j) i e =
    let same : j ≡ i = cc in
    subst (λ z. (rest : List Place) × (places_in (mentions_simply j) ≡ z.place ∷ rest)
    × ((n : Names) → is_among z.place rest ≡ false → denoted_at (behind (mentions_simply j) n) z.place ≡ denoted_at (resolved z n) z.place)) same
    ([], refl, λ n apart. refl)
first-place (use_package name) i e =
    let same : name.parts.first ≡ i = cc in
    subst (λ z. (rest : List Place) × (places_in (use_package name) ≡ z.place ∷ rest)
    × ((n : Names) → is_among z.place rest ≡ false → denoted_at (behind (use_package name) n) z.place ≡ denoted_at (resolved z n) z.place)) same (
      map place_of name.parts.others,
      refl,
      λ n apart.
          same-used_if name.parts.first.place _ (name_resolved name n)
          ∙ same-parts name.parts.first.place _ name.parts.others (resolved name.parts.first n) apart,
    )
first-place _ i e = absurd (none-some i e)

pub differ-at : (b before : Before) → Stands b before → all_differ (places_before before) ≡ true → all_differ (places_before b) ≡ true
differ-at b [] s e = ap (λ z. all_differ (places_before z)) s ∙ e
differ-at b (o ∷ before) (inl q) e = ap (λ z. all_differ (places_before z)) q ∙ e
differ-at b (o ∷ before) (inr s) e = differ-at b before s (differ-behind (places_in o) (places_before before) e)

pub not-true : (b : Bool) → not b ≡ true → b ≡ false
not-true true e = absurd (false-true e)
not-true false e = refl

some-mapped : {X Y : Type 0} (f : X → Y) (x : Option X) (y : Y) → option_map f x ≡ Some y → (z : X) × (x ≡ Some z) × (f z ≡ y)
some-mapped f None y e = absurd (none-some y e)
some-mapped f (Some z) y e = (z, refl, (let h : f z ≡ y = cc in h))

pub direct_names_by_position : DirectNamesByPosition
direct_names_by_position unit complete apart o c s i name m visible =
    let last = last_priority_of unit.pragmas in
    let end = end_of unit in
    let here : Stands c end = stands-tail o c end s in
    let first = first-place o i name in
    let rest = first.0 in
    let differ : all_differ (i.place ∷ (rest ++ places_before c)) ≡ true =
    ap (λ ps. all_differ (ps ++ places_before c)) (sym first.1) ∙ differ-at (o ∷ c) end s apart in
    let alone : is_among i.place (rest ++ places_before c) ≡ false =
    not-true (is_among i.place (rest ++ places_before c))
    (and_parts (not (is_among i.place (rest ++ places_before c))) (all_differ (rest ++ places_before c)) differ).0 in
    let both = both-false i.place (is_among i.place rest) (is_among i.place (places_before c)) (sym (among-append i.place rest (places_before c)) ∙ alone) in
    let found =
    some-mapped (told_meaning (table_at last end)) (directly (table_at last c) i.text) m
    (directly-meant last c end i.text here (kept-in unit c complete here) (kept-in unit end complete (stands-here end)) ∙ visible) in
    let among : is_among i.place (places_before (o ∷ c)) ≡ true =
    ap (λ ps. is_among i.place (ps ++ places_before c)) first.1 ∙ ap (λ t. t || is_among i.place (rest ++ places_before c)) (same_place-itself i.place) in
    ap (λ n. told_meaning n (denoted_at n i.place)) (sym (table_at_the_end unit))
    ∙ (ap (told_meaning (table_at last end)) (
    stays-noted last i.place (o ∷ c) end s apart among
    ∙ (first.2 (table_at last c) both.0 ∙ directly-noted i (table_at last c) found.0 found.1 (never-noted last i.place c both.1)))
    ∙ found.2)
