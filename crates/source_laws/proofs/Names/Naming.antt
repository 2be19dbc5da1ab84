-- Each direct name of a source denotes by its table what it means by its position.
use Rattle.std.proofs.Common.{◌≡◌, inl, inr, ℕ, Bool, true, false, not, ◌&&◌, ◌||◌, [], ◌∷◌, ◌++◌, Option, Some, None, option_map, refl, sym, ap, ◌∙◌}
use Rattle.std.proofs.lemmas.Bool.{and_parts}
use Rattle.ada_tree.specs.declared.names.Identifier.{Identifier}
use Rattle.ada_regions.specs.declared.entities.Denoted.TheVariants as denotes
use Rattle.ada_regions.specs.declared.entities.Entity.{Entity}
use Rattle.ada_regions.specs.declared.entities.Sought.{Sought}
use Rattle.ada_regions.specs.declared.entities.Sought.TheVariants as answer
use Rattle.ada_regions.specs.declared.table.Names.{Names}
use Rattle.ada_regions.specs.Names.{denoted_at, entity_at}
use Rattle.ada_regions.specs.Occurrences.{Occurrence, Occurrences, mentions, mentions_simply, use_package}
use Rattle.ada_regions.specs.NamesInUnits.{names_in_unit}
use Rattle.ada_regions.specs.Visibility.{sought}
use Rattle.ada_regions.specs.Numbered.{names_of, last_priority_of}
use Rattle.source_laws.specs.Positions.{Before, Stands, around, read_on, end_of}
use Rattle.source_laws.specs.DirectNames.{Meaning, meaning_if_seen}
use Rattle.source_laws.specs.UseClauses.{same_meaning, direct_name_means}
use Rattle.source_laws.specs.Tables.{table_at}
use Rattle.source_laws.specs.Denoted.{told_meaning, known_meaning, agrees_with, agrees_from}
use Rattle.source_laws.specs.Places.{places_before, is_among, all_differ, direct_name}
use Rattle.source_laws.specs.NameLaws.{MeaningsByPosition, NamesByPosition}
use Rattle.source_laws.proofs.Names.PositionLemmas.{none-some, stands-here, stands-tail}
use Rattle.source_laws.proofs.Names.Placing.{looks, Placed}
use Rattle.source_laws.proofs.Names.UnitTexts.{unit-text, unit-placed}
use Rattle.source_laws.proofs.Names.Noted.{both-false}
use Rattle.source_laws.proofs.Names.Lawful.{table_at_the_end}
use Rattle.source_laws.proofs.Names.Denoting.{same_place-itself, among-append, never-noted, stays-noted, first-place, differ-at, not-true}
use Rattle.source_laws.proofs.Names.Founders.{placed-stands}
use Rattle.source_laws.proofs.Names.Joined.{same_meaning-itself, meaning_sought}
use Rattle.source_laws.proofs.Names.UseNames.{found, found-noted, all-say}

-- direct names stand where names may
name-looks : (o : Occurrence) (i : Identifier) (c : Before) → direct_name o ≡ Some i → Placed o c → looks (around c) ≡ true
name-looks (mentions name) i c e p = p
name-looks (mentions_simply j) i c e p = p
name-looks (use_package name) i c e p = p
name-looks _ i c e p = absurd (none-some i e)

-- what was found and is kept means what was sought, but for several
found-told : (n : Names) (s : Sought) → told_meaning n (found s) ≡ known_meaning (meaning_sought (λ d. told_meaning n (Some d)) s)
found-told n answer.Unknown = refl
found-told n answer.Ambiguous = refl
found-told n (answer.Found (denotes.Unit u)) = refl
found-told n (answer.Found (denotes.Item u i)) = refl
found-told n (answer.Found (denotes.Entity e)) = go (entity_at n e)
  where
    go : (x : Option Entity) → meaning_if_seen (option_map (λ y. y.place) x) ≡ known_meaning (meaning_if_seen (option_map (λ y. y.place) x))
    go None = refl
    go (Some x) = refl

pub meanings_by_position : MeaningsByPosition
meanings_by_position unit complete apart o c s i name =
    let last = last_priority_of unit.pragmas in
    let end = end_of unit in
    let here : Stands c end = stands-tail o c end s in
    let first = first-place o i name in
    let rest = first.0 in
    let differ : all_differ (i.place ∷ (rest ++ places_before c)) ≡ true =
    ap (λ ps. all_differ (ps ++ places_before c)) (sym first.1) ∙ differ-at (o ∷ c) end s apart in
    let alone : is_among i.place (rest ++ places_before c) ≡ false =
    not-true (is_among i.place (rest ++ places_before c))
    (and_parts (not (is_among i.place (rest ++ places_before c))) (all_differ (rest ++ places_before c)) differ).0 in
    let both = both-false i.place (is_among i.place rest) (is_among i.place (places_before c)) (sym (among-append i.place rest (places_before c)) ∙ alone) in
    let among : is_among i.place (places_before (o ∷ c)) ≡ true =
    ap (λ ps. is_among i.place (ps ++ places_before c)) first.1 ∙ ap (λ t. t || is_among i.place (rest ++ places_before c)) (same_place-itself i.place) in
    ap (λ n. told_meaning n (denoted_at n i.place)) (sym (table_at_the_end unit))
    ∙ (ap (told_meaning (table_at last end)) (
    stays-noted last i.place (o ∷ c) end s apart among
    ∙ (first.2 (table_at last c) both.0 ∙ found-noted i (table_at last c) (never-noted last i.place c both.1)))
    ∙ (found-told (table_at last end) (sought (table_at last c) i.text)
    ∙ ap known_meaning
    (all-say last end (unit-text unit) (unit-placed unit) complete apart end (stands-here end) c here
    (name-looks o i c name (placed-stands (o ∷ c) end s (unit-placed unit)).0) i.text)))

-- ---- all names of a source, by computing

stands-on : (os : Occurrences) (b before : Before) → Stands b before → Stands b (read_on os before)
stands-on [] b before s = s
stands-on (o ∷ os) b before s = stands-on os b (o ∷ before) (inr s)

agrees-all : (n : Names) (last : ℕ) (os : Occurrences) (before : Before)
    → ((o : Occurrence) (c : Before) → Stands (o ∷ c) (read_on os before) → agrees_with n last o c ≡ true) → agrees_from n last before os ≡ true
agrees-all n last [] before all = refl
agrees-all n last (o ∷ os) before all =
    both (agrees_with n last o before) (agrees_from n last (o ∷ before) os) (all o before (stands-on os (o ∷ before) (o ∷ before) (inl refl)))
    (agrees-all n last os (o ∷ before) all)
  where
    both : (a b : Bool) → a ≡ true → b ≡ true → (a && b) ≡ true
    both true b e f = f
    both false b e f = e

same-meanings : (a b : Meaning) → a ≡ b → same_meaning a b ≡ true
same-meanings a b e = ap (λ z. same_meaning z b) e ∙ same_meaning-itself b

agrees-one : (n : Names) (last : ℕ) (o : Occurrence) (c : Before)
    → ((i : Identifier) → direct_name o ≡ Some i → told_meaning n (denoted_at n i.place) ≡ known_meaning (direct_name_means last i.text c))
    → agrees_with n last o c ≡ true
agrees-one n last (mentions name) c says = same-meanings _ _ (says name.parts.first refl)
agrees-one n last (mentions_simply i) c says = same-meanings _ _ (says i refl)
agrees-one n last (use_package name) c says = same-meanings _ _ (says name.parts.first refl)
agrees-one n last _ c says = refl

pub names_by_position : NamesByPosition
names_by_position unit complete apart =
    let last = last_priority_of unit.pragmas in
    agrees-all (names_of unit) last (names_in_unit unit) []
    (λ o c s. agrees-one (names_of unit) last o c (λ i name. meanings_by_position unit complete apart o c s i name))
