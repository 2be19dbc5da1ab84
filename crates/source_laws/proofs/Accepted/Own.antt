-- Each scope of a source that is read is its own: its constructs stand at places of tokens, each of which stands at a place of its own.
use Rattle.std.proofs.Common.{◌≡◌, ℕ, ◌+◌, ◌≤◌, Bool, true, false, List, [], ◌∷◌, Option, Some, None, refl, sym, ap, ◌∙◌, arith}
use Rattle.std.specs.Prelude.{map}
use Rattle.std.specs.List.{flat_map}
use Rattle.std.proofs.lemmas.Bool.{and_from}
use Rattle.ann_base.specs.declared.places.Place.{Place}
use Rattle.ada_tree.specs.Written.{Written, Lexeme, StandsAt, AllSpell, lexemes_of}
use Rattle.ada_tree.specs.Spelling.{unit_written}
use Rattle.ada_tree.specs.Shape.{is_shaped}
use Rattle.ada_tree.specs.declared.units.Unit.{Unit as Tree}
use Rattle.ada_regions.specs.Words.{same_place}
use Rattle.ada_regions.specs.NamesInUnits.{names_in_unit}
use Rattle.ada_regions.specs.Numbered.{no_place, names_of}
use Rattle.ada_image.specs.ImageOfStatements.{scope_at}
use Rattle.ada_image.specs.BuiltUnits.{unit_built}
use Rattle.image_laws.specs.OwnScopes.{are_own, is_built}
use Rattle.image_laws.specs.ScopesOfText.{scopes_begun}
use Rattle.image_laws.proofs.Images.Whole.{nothing_is_lost}
use Rattle.grammar_laws.proofs.Reading.Whole.{read_is_spelt}
use Rattle.source_laws.proofs.Names.Denoting.{same_place-path}
use Rattle.source_laws.specs.SourceLaws.{IsReadFrom}
use Rattle.source_laws.proofs.Sources.Counting.{one_if, count}
use Rattle.source_laws.proofs.Sources.Rising.{tokens-rise, rising-apart}
use Rattle.source_laws.specs.ScopeLaws.{ScopesAreOwn, NothingReadIsLost}
use Rattle.source_laws.proofs.Accepted.Beginning.{begun_by, places_of, places-of_all}
use Rattle.source_laws.proofs.Accepted.Positions.{position, position-of, places-own}
use Rattle.source_laws.proofs.Accepted.Counting.{begun-counted, stands_at, tokens_at}
use Rattle.source_laws.proofs.Accepted.Units.{begins-unit}
use Rattle.source_laws.proofs.Accepted.Lines.{none-on_no_line}
use Rattle.source_laws.proofs.Sources.Apart.{lexemes-placed}

-- ---- places of a spelling are those of tokens

one-spelt : (p : Place) (at : Option Place) (place : Place) → StandsAt at place → stands_at p at ≤ one_if (same_place p place)
one-spelt p None place stands = omega arith
one-spelt p (Some q) place stands = let h : one_if (same_place p q) ≡ one_if (same_place p place) = ap (λ x. one_if (same_place p x)) stands in omega arith

spelt-counted : (p : Place) (ws : List Written) (ls : List Lexeme) → AllSpell ws ls → tokens_at p ws ≤ count p (map (λ l. l.place) ls)
spelt-counted p [] [] s = omega arith
spelt-counted p [] (l ∷ ls) s = absurd s
spelt-counted p (w ∷ ws) [] s = absurd s
spelt-counted p (w ∷ ws) (l ∷ ls) s = let h = one-spelt p w.place l.place s.0.place in let g = spelt-counted p ws ls s.1 in omega arith

-- ---- the scope of the environment stands at no place, where no token stands

first-scope : (unit : Tree) → scope_at (names_of unit) no_place ≡ 0
unfolding scope_at
first-scope unit = position-of 0 no_place (names_of unit).scopes ∙ ap (position 0 no_place) (places-of_all unit)

once-with_none : (p : Place) (ts : List Place) → count p ts ≤ 1 → (p.line ≤ 0 → count p ts ≡ 0) → (k : ℕ) → k ≤ count p ts
    → one_if (same_place p no_place) + k ≤ 1
once-with_none p ts once none k le = go (same_place p no_place) refl
  where
    go : (b : Bool) → same_place p no_place ≡ b → one_if b + k ≤ 1
    go false e = omega arith
    go true e = let line : p.line ≡ 0 = ap (λ q. q.line) (same_place-path p no_place e) in let h = none (omega arith) in omega arith

-- ---- all together

pub scopes_are_own : ScopesAreOwn
unfolding is_shaped
scopes_are_own source unit read =
    let tokens = read.tokens in
    let n = names_of unit in
    let spelt = read_is_spelt (lexemes_of source tokens) unit read.parsed in
    let begun = begins-unit n 100 unit spelt.1 in
    let same : scopes_begun unit n ≡ map (scope_at n) (no_place ∷ begun.places) =
    ap (λ ss. 0 ∷ ss) begun.are ∙ ap (λ s. s ∷ map (scope_at n) begun.places) (sym (first-scope unit)) in
    ap (are_own n) same ∙ places-own n (no_place ∷ begun.places)
    (λ p. (
    let written = spelt-counted p (unit_written unit) (lexemes_of source tokens) spelt.0 in
    let placed : count p (map (λ l. l.place) (lexemes_of source tokens)) ≡ count p (map (λ t. t.place) tokens) = ap (count p) (lexemes-placed source tokens) in
    let few = begun.spelt p in
    once-with_none p (map (λ t. t.place) tokens) (rising-apart p tokens (tokens-rise source tokens read.lexed)) (none-on_no_line source tokens read.lexed p)
    (count p begun.places) (omega arith)))
    (λ p. (
    let told = begun.told p in
    let counted = begun-counted p (names_in_unit unit) in
    let there : count p (places_of n) ≡ count p (no_place ∷ flat_map begun_by (names_in_unit unit)) = ap (count p) (places-of_all unit) in
    omega arith))

-- a tree that is read is built where its forms are
pub read-built : (source : List ℕ) (unit : Tree) → IsReadFrom source unit → unit_built unit (names_of unit) ≡ true → is_built unit ≡ true
read-built source unit read forms = and_from _ _ forms (scopes_are_own source unit read)

pub nothing_read_is_lost : NothingReadIsLost
nothing_read_is_lost source unit read forms = nothing_is_lost unit (read-built source unit read forms)
