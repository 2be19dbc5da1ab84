-- No two names of a source stand at one place: there are no more of them there than identifiers of its spelling, so no more than
-- tokens.
use Rattle.std.proofs.Common.{◌≡◌, ℕ, ◌+◌, ◌≤◌, Bool, true, false, ◌||◌, List, [], ◌∷◌, Option, Some, None, refl, ap, arith}
use Rattle.std.specs.Prelude.{map}
use Rattle.ann_base.specs.declared.places.Place.{Place}
use Rattle.ada_lex.specs.declared.tokens.Token.{Token}
use Rattle.ada_tree.specs.Written.{Written, Lexeme, StandsAt, AllSpell, lexemes_of}
use Rattle.ada_tree.specs.Spelling.{unit_written}
use Rattle.ada_tree.specs.Shape.{is_shaped}
use Rattle.ada_regions.specs.Words.{same_place}
use Rattle.ada_regions.specs.Occurrences.{Occurrences}
use Rattle.ada_regions.specs.NamesInUnits.{names_in_unit}
use Rattle.grammar_laws.proofs.Reading.Whole.{read_is_spelt}
use Rattle.source_laws.specs.Positions.{Before, read_on, end_of}
use Rattle.source_laws.specs.Places.{places_in, places_before, is_among, all_differ}
use Rattle.source_laws.proofs.Names.Denoting.{same_place-itself}
use Rattle.source_laws.proofs.Names.Naming.{names_by_position}
use Rattle.source_laws.specs.SourceLaws.{NamesStandApart, ReadNamesByPosition}
use Rattle.source_laws.proofs.Sources.Counting.{one_if, count, names_at, identifier_at, written_at}
use Rattle.source_laws.proofs.Sources.Units.{covers-unit}
use Rattle.source_laws.proofs.Sources.Rising.{tokens-rise, rising-apart}
use Rattle.source_laws.proofs.Accepted.Counting.{count-append}

-- ---- identifiers of a spelling are tokens

one-spelt : (p : Place) (identifier : Bool) (at : Option Place) (place : Place) → StandsAt at place
    → identifier_at p identifier at ≤ one_if (same_place p place)
one-spelt p false at place stands = omega arith
one-spelt p true None place stands = omega arith
one-spelt p true (Some q) place stands = let h : one_if (same_place p q) ≡ one_if (same_place p place) = ap (λ x. one_if (same_place p x)) stands in omega arith

spelt-counted : (p : Place) (ws : List Written) (ls : List Lexeme) → AllSpell ws ls → written_at p ws ≤ count p (map (λ l. l.place) ls)
spelt-counted p [] [] s = omega arith
spelt-counted p [] (l ∷ ls) s = absurd s
spelt-counted p (w ∷ ws) [] s = absurd s
spelt-counted p (w ∷ ws) (l ∷ ls) s = let h = one-spelt p w.identifier w.place l.place s.0.place in let g = spelt-counted p ws ls s.1 in omega arith

pub lexemes-placed : (source : List ℕ) (tokens : List Token) → map (λ l. l.place) (lexemes_of source tokens) ≡ map (λ t. t.place) tokens
lexemes-placed source [] = refl
lexemes-placed source (t ∷ ts) = ap (λ ps. t.place ∷ ps) (lexemes-placed source ts)

-- ---- what stands at a place once at most differs

read-counted : (p : Place) (os : Occurrences) (before : Before) → count p (places_before (read_on os before)) ≡ names_at p os + count p (places_before before)
read-counted p [] before = omega arith
read-counted p (o ∷ os) before = let h = read-counted p os (o ∷ before) in let g = count-append p (places_in o) (places_before before) in omega arith

not-among : (p : Place) (ps : List Place) → count p ps ≤ 0 → is_among p ps ≡ false
not-among p [] none = refl
not-among p (q ∷ qs) none = go (same_place p q) none (not-among p qs)
  where
    go : (t : Bool) → one_if t + count p qs ≤ 0 → (count p qs ≤ 0 → is_among p qs ≡ false) → (t || is_among p qs) ≡ false
    go true less rest = absurd (omega arith)
    go false less rest = rest (omega arith)

once-differ : (ps : List Place) → ((p : Place) → count p ps ≤ 1) → all_differ ps ≡ true
once-differ [] once = refl
once-differ (q ∷ qs) once =
    let here : one_if (same_place q q) ≡ 1 = ap one_if (same_place-itself q) in
    let apart : is_among q qs ≡ false = not-among q qs (let h = once q in omega arith) in
    rw (apart, once-differ qs (λ p. (let h = once p in omega arith))) refl

pub names_stand_apart : NamesStandApart
unfolding is_shaped
names_stand_apart source unit read =
    let tokens = read.tokens in
    let spelt = read_is_spelt (lexemes_of source tokens) unit read.parsed in
    once-differ (places_before (end_of unit)) (λ p. (
    let names = (covers-unit 100 unit spelt.1).at p in
    let written = spelt-counted p (unit_written unit) (lexemes_of source tokens) spelt.0 in
    let placed : count p (map (λ l. l.place) (lexemes_of source tokens)) ≡ count p (map (λ t. t.place) tokens) = ap (count p) (lexemes-placed source tokens) in
    let once = rising-apart p tokens (tokens-rise source tokens read.lexed) in
    let all = read-counted p (names_in_unit unit) [] in
    omega arith))

pub read_names_by_position : ReadNamesByPosition
read_names_by_position source unit read complete = names_by_position unit complete (names_stand_apart source unit read)
