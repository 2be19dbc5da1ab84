-- How often names stand at a place: in what a text tells of names, and among the identifiers of a spelling.
use Rattle.std.proofs.Common.{◌≡◌, ℕ, ◌+◌, ◌≤◌, Bool, true, false, List, [], ◌∷◌, ◌++◌, Option, Some, None, refl, ap, ◌∙◌, arith}
use Rattle.std.specs.Prelude.{map, codes}
use Rattle.std.specs.List.{flat_map, list_all}
use Rattle.ann_base.specs.declared.places.Place.{Place}
use Rattle.ada_tree.specs.declared.names.Identifier.{Identifier}
use Rattle.ada_tree.specs.declared.names.Name.{Name}
use Rattle.ada_tree.specs.declared.names.OneOrMore.{OneOrMore}
use Rattle.ada_tree.specs.Written.{Written, delimiter, identifier_written, behind, separated, all_written}
use Rattle.ada_tree.specs.Written.{optional, enclosed, one_identifier, name_written, identifiers_written}
use Rattle.ada_tree.specs.ShapeExpressions.{all_fit, optional_fits}
use Rattle.ada_regions.specs.Words.{same_place}
use Rattle.ada_regions.specs.Occurrences.{Occurrence, Occurrences, Declared, Region, begins, ends, hides}
use Rattle.ada_regions.specs.Occurrences.{declares, in_all, if_there, one, within_region, hides_all, declares_all}
use Rattle.grammar_laws.proofs.Reading.Exact.{first_true, second_true}
use Rattle.source_laws.specs.Places.{place_of, places_of_parts, places_in}

abbrev pub one_if : Bool → ℕ
one_if true = 1
one_if false = 0

abbrev pub count : Place → List Place → ℕ
count p [] = 0
count p (q ∷ qs) = one_if (same_place p q) + count p qs

abbrev pub names_at : Place → Occurrences → ℕ
names_at p [] = 0
names_at p (o ∷ os) = count p (places_in o) + names_at p os

abbrev pub identifier_at : Place → Bool → Option Place → ℕ
identifier_at p false place = 0
identifier_at p true None = 0
identifier_at p true (Some q) = one_if (same_place p q)

abbrev pub written_at : Place → List Written → ℕ
written_at p [] = 0
written_at p (w ∷ ws) = identifier_at p w.identifier w.place + written_at p ws

pub names-append : (p : Place) (a b : Occurrences) → names_at p (a ++ b) ≡ names_at p a + names_at p b
names-append p [] b = omega arith
names-append p (o ∷ a) b = let h = names-append p a b in omega arith

pub written-append : (p : Place) (a b : List Written) → written_at p (a ++ b) ≡ written_at p a + written_at p b
written-append p [] b = omega arith
written-append p (w ∷ a) b = let h = written-append p a b in omega arith

-- ---- at no place stand more of these names, and of these labels, than identifiers of the spelling

pub record Covers (ls os : Occurrences) (ws : List Written) : Type 0 where
  pub at : (p : Place) → names_at p ls + names_at p os ≤ written_at p ws

pub covers-none : (ws : List Written) → Covers [] [] ws
covers-none ws = record { at = λ p. omega arith }

pub covers-both : {l m a b : Occurrences} {v w : List Written} → Covers l a v → Covers m b w → Covers (l ++ m) (a ++ b) (v ++ w)
covers-both {l} {m} {a} {b} {v} {w} x y = record {
  at = λ p. (let f = names-append p l m in let g = names-append p a b in let h = written-append p v w in let s = x.at p in let t = y.at p in omega arith);
}

-- first a part without labels
pub covers-then : {m a b : Occurrences} {v w : List Written} → Covers [] a v → Covers m b w → Covers m (a ++ b) (v ++ w)
covers-then {m} {a} {b} {v} {w} x y = record {
  at = λ p. (let g = names-append p a b in let h = written-append p v w in let s = x.at p in let t = y.at p in omega arith);
}

-- a token or tokens before, of which no name is needed; tokens behind
pub covers-skip : {l a : Occurrences} {ws : List Written} (w : Written) → Covers l a ws → Covers l a (w ∷ ws)
covers-skip w x = record { at = λ p. (let s = x.at p in omega arith) }

pub covers-past : {l a : Occurrences} {ws : List Written} (v : List Written) → Covers l a ws → Covers l a (v ++ ws)
covers-past {l} {a} {ws} v x = record { at = λ p. (let h = written-append p v ws in let s = x.at p in omega arith) }

pub covers-front : {l a : Occurrences} {v : List Written} (w : List Written) → Covers l a v → Covers l a (v ++ w)
covers-front {l} {a} {v} w x = record { at = λ p. (let h = written-append p v w in let s = x.at p in omega arith) }

-- an occurrence at no place; one at an identifier's, or at those of a name
pub covers-quiet : {l a : Occurrences} {ws : List Written} (o : Occurrence) → places_in o ≡ [] → Covers l a ws → Covers l (o ∷ a) ws
covers-quiet o none x = record { at = λ p. (let h : count p (places_in o) ≡ 0 = ap (count p) none in let s = x.at p in omega arith) }

one-place : (p : Place) (o : Occurrence) (i : Identifier) → places_in o ≡ i.place ∷ [] → count p (places_in o) ≡ one_if (same_place p i.place)
one-place p o i e = ap (count p) e ∙ omega arith

pub covers-name : {l a : Occurrences} {ws : List Written} (i : Identifier) (o : Occurrence) → places_in o ≡ i.place ∷ [] → Covers l a ws
    → Covers l (o ∷ a) (identifier_written i ∷ ws)
covers-name i o e x = record { at = λ p. (let h = one-place p o i e in let s = x.at p in omega arith) }

pub covers-label : {l a : Occurrences} {ws : List Written} (i : Identifier) (o : Occurrence) → places_in o ≡ i.place ∷ [] → Covers l a ws
    → Covers (o ∷ l) a (identifier_written i ∷ ws)
covers-label i o e x = record { at = λ p. (let h = one-place p o i e in let s = x.at p in omega arith) }

parts-counted : (p : Place) (xs : List Identifier) → count p (map place_of xs) ≡ written_at p (flat_map (behind (delimiter (codes ".")) one_identifier) xs)
parts-counted p [] = refl
parts-counted p (x ∷ xs) = let h = parts-counted p xs in omega arith

pub name-counted : (p : Place) (name : Name) → count p (places_of_parts name) ≡ written_at p (name_written name)
name-counted p name = let h = parts-counted p name.parts.others in omega arith

pub covers-mentions : {l a : Occurrences} {ws : List Written} (name : Name) (o : Occurrence) → places_in o ≡ places_of_parts name → Covers l a ws
    → Covers l (o ∷ a) (name_written name ++ ws)
covers-mentions {l} {a} {ws} name o e x = record {
  at =
      λ p. (let h : count p (places_in o) ≡ written_at p (name_written name) = ap (count p) e ∙ name-counted p name in
      let g = written-append p (name_written name) ws in let s = x.at p in omega arith);
}

-- a name with nothing behind it
pub covers-mention : (name : Name) (o : Occurrence) → places_in o ≡ places_of_parts name → Covers [] (o ∷ []) (name_written name)
covers-mention name o e = record {
  at = λ p. (let h : count p (places_in o) ≡ written_at p (name_written name) = ap (count p) e ∙ name-counted p name in omega arith);
}

-- ---- the order does not matter

pub covers-swap : {l : Occurrences} {ws : List Written} (a b : Occurrences) → Covers l (b ++ a) ws → Covers l (a ++ b) ws
covers-swap a b x = record { at = λ p. (let g = names-append p a b in let h = names-append p b a in let s = x.at p in omega arith) }

pub covers-last : {ws : List Written} (a b c : Occurrences) → Covers c (a ++ b) ws → Covers [] (a ++ (b ++ c)) ws
covers-last a b c x = record {
  at = λ p. (let f = names-append p a (b ++ c) in let g = names-append p b c in let h = names-append p a b in let s = x.at p in omega arith);
}

pub covers-last_of_four : {ws : List Written} (a b c d : Occurrences) → Covers d (a ++ (b ++ c)) ws → Covers [] (a ++ (b ++ (c ++ d))) ws
covers-last_of_four a b c d x = record {
  at =
      λ p. (let f = names-append p a (b ++ (c ++ d)) in
      let g = names-append p b (c ++ d) in
      let h = names-append p c d in let i = names-append p a (b ++ c) in let j = names-append p b c in let s = x.at p in omega arith);
}

pub covers-middle : {l : Occurrences} {ws : List Written} (a : Occurrences) (o : Occurrence) (b : Occurrences) → Covers l (o ∷ (a ++ b)) ws
    → Covers l (a ++ (o ∷ b)) ws
covers-middle a o b x = record { at = λ p. (let f = names-append p a (o ∷ b) in let g = names-append p a b in let s = x.at p in omega arith) }

pub covers-assoc : {l : Occurrences} {ws : List Written} (a b c : Occurrences) → Covers l ((a ++ b) ++ c) ws → Covers l (a ++ (b ++ c)) ws
covers-assoc a b c x = record {
  at =
      λ p. (let f = names-append p a (b ++ c) in
      let g = names-append p b c in let h = names-append p (a ++ b) c in let i = names-append p a b in let s = x.at p in omega arith);
}

-- labels among the names, or names as labels
pub covers-labels : {ws : List Written} (l a : Occurrences) → Covers l a ws → Covers [] (l ++ a) ws
covers-labels l a x = record { at = λ p. (let f = names-append p l a in let s = x.at p in omega arith) }

pub covers-turn : {a : Occurrences} {ws : List Written} → Covers [] a ws → Covers a [] ws
covers-turn x = record { at = λ p. (let s = x.at p in omega arith) }

pub covers-parts : {ws : List Written} (d l a : Occurrences) → Covers [] (d ++ (l ++ a)) ws → Covers l a ws
covers-parts d l a x = record { at = λ p. (let f = names-append p d (l ++ a) in let g = names-append p l a in let s = x.at p in omega arith) }

pub covers-beside : {l a : Occurrences} {v w : List Written} → Covers l [] v → Covers [] a w → Covers l a (v ++ w)
covers-beside {l} {a} {v} {w} x y = record { at = λ p. (let h = written-append p v w in let s = x.at p in let t = y.at p in omega arith) }

-- ---- regions

region-counted : (p : Place) (r : Region) (a : Occurrences) → names_at p (within_region r a) ≡ count p (places_in (begins r)) + names_at p a
region-counted p r a = let h = names-append p a (one ends) in omega arith

pub covers-region : {l a : Occurrences} {ws : List Written} (r : Region) → places_in (begins r) ≡ [] → Covers l a ws → Covers l (within_region r a) ws
covers-region {l} {a} r e x = record {
  at = λ p. (let h : count p (places_in (begins r)) ≡ 0 = ap (count p) e in let g = region-counted p r a in let s = x.at p in omega arith);
}

pub covers-named_region : {l a : Occurrences} {ws : List Written} (r : Region) (i : Identifier) → places_in (begins r) ≡ i.place ∷ [] → Covers l a ws
    → Covers l (within_region r a) (identifier_written i ∷ ws)
covers-named_region {l} {a} r i e x = record { at = λ p. (let h = one-place p (begins r) i e in let g = region-counted p r a in let s = x.at p in omega arith) }

-- ---- lists of parts

pub covers-each : {X : Type 0} (g f : X → Occurrences) (w : X → List Written) (fits : X → Bool) → ((x : X) → fits x ≡ true → Covers (g x) (f x) (w x))
    → (xs : List X) → list_all fits xs ≡ true → Covers (flat_map g xs) (flat_map f xs) (flat_map w xs)
covers-each g f w fits all [] e = covers-none []
covers-each g f w fits all (x ∷ xs) e =
    covers-both (all x (first_true (fits x) (list_all fits xs) e)) (covers-each g f w fits all xs (second_true (fits x) (list_all fits xs) e))

pub covers-all : {X : Type 0} (g f : X → Occurrences) (w : X → List Written) (fits : X → Bool) → ((x : X) → fits x ≡ true → Covers (g x) (f x) (w x))
    → (xs : OneOrMore X) → all_fit fits xs ≡ true → Covers (in_all g xs) (in_all f xs) (all_written w xs)
covers-all g f w fits all xs e =
    covers-both (all xs.first (first_true (fits xs.first) (list_all fits xs.others) e))
    (covers-each g f w fits all xs.others (second_true (fits xs.first) (list_all fits xs.others) e))

pub covers-separated : {X : Type 0} (separator : Written) (g f : X → Occurrences) (w : X → List Written) (fits : X → Bool)
    → ((x : X) → fits x ≡ true → Covers (g x) (f x) (w x))
    → (xs : OneOrMore X) → all_fit fits xs ≡ true → Covers (in_all g xs) (in_all f xs) (separated separator w xs)
covers-separated separator g f w fits all xs e =
    covers-both (all xs.first (first_true (fits xs.first) (list_all fits xs.others) e))
    (covers-each g f (behind separator w) fits (λ x r. covers-skip separator (all x r)) xs.others (second_true (fits xs.first) (list_all fits xs.others) e))

pub covers-there : {X : Type 0} (g f : X → Occurrences) (w : X → List Written) (fits : X → Bool) → ((x : X) → fits x ≡ true → Covers (g x) (f x) (w x))
    → (x : Option X) → optional_fits fits x ≡ true → Covers (if_there g x) (if_there f x) (optional w x)
covers-there g f w fits all None e = covers-none []
covers-there g f w fits all (Some x) e = all x e

-- the same of parts that have no labels, and that any shape has
pub covers-flat : {X : Type 0} (f : X → Occurrences) (w : X → List Written) → ((x : X) → Covers [] (f x) (w x)) → (xs : List X)
    → Covers [] (flat_map f xs) (flat_map w xs)
covers-flat f w all [] = covers-none []
covers-flat f w all (x ∷ xs) = covers-both (all x) (covers-flat f w all xs)

pub covers-in_all : {X : Type 0} (separator : Written) (f : X → Occurrences) (w : X → List Written) → ((x : X) → Covers [] (f x) (w x))
    → (xs : OneOrMore X) → Covers [] (in_all f xs) (separated separator w xs)
covers-in_all separator f w all xs = covers-both (all xs.first) (covers-flat f (behind separator w) (λ x. covers-skip separator (all x)) xs.others)

pub covers-all_of : {X : Type 0} (f : X → Occurrences) (w : X → List Written) → ((x : X) → Covers [] (f x) (w x)) → (xs : OneOrMore X)
    → Covers [] (in_all f xs) (all_written w xs)
covers-all_of f w all xs = covers-both (all xs.first) (covers-flat f w all xs.others)

pub covers-optional : {X : Type 0} (f : X → Occurrences) (w : X → List Written) → ((x : X) → Covers [] (f x) (w x)) → (x : Option X)
    → Covers [] (if_there f x) (optional w x)
covers-optional f w all None = covers-none []
covers-optional f w all (Some x) = all x

pub covers-enclosed : {X : Type 0} (opening separator : Written) (closing : List Written) (f : X → Occurrences) (w : X → List Written)
    → ((x : X) → Covers [] (f x) (w x))
    → (xs : List X) → Covers [] (flat_map f xs) (enclosed opening separator closing w xs)
covers-enclosed opening separator closing f w all [] = covers-none []
covers-enclosed opening separator closing f w all (x ∷ xs) =
    covers-skip opening (covers-then (all x) (covers-front closing (covers-flat f (behind separator w) (λ y. covers-skip separator (all y)) xs)))

-- ---- identifiers

pub covers-hides : {l a : Occurrences} {ws : List Written} (names : OneOrMore Identifier) → Covers l a ws → Covers l (hides_all names ++ a) ws
covers-hides {l} {a} names x = record {
  at = λ p. (let h = hidden p names.others in let g = names-append p (hides_all names) a in let s = x.at p in omega arith);
}
  where
    hidden : (p : Place) (is : List Identifier) → names_at p (flat_map (λ i. one (hides i)) is) ≡ 0
    hidden p [] = refl
    hidden p (i ∷ is) = let h = hidden p is in omega arith

pub covers-declares : (what : Declared) (names : OneOrMore Identifier) → Covers [] (declares_all what names) (identifiers_written names)
covers-declares what names =
    covers-in_all (delimiter (codes ",")) (λ i. one (declares i what)) one_identifier (λ i. covers-name i (declares i what) refl (covers-none [])) names

-- ---- lists of parts that have no labels

pub covers-each_plain : {X : Type 0} (f : X → Occurrences) (w : X → List Written) (fits : X → Bool) → ((x : X) → fits x ≡ true → Covers [] (f x) (w x))
    → (xs : List X) → list_all fits xs ≡ true → Covers [] (flat_map f xs) (flat_map w xs)
covers-each_plain f w fits all [] e = covers-none []
covers-each_plain f w fits all (x ∷ xs) e =
    covers-then (all x (first_true (fits x) (list_all fits xs) e)) (covers-each_plain f w fits all xs (second_true (fits x) (list_all fits xs) e))

pub covers-there_plain : {X : Type 0} (f : X → Occurrences) (w : X → List Written) (fits : X → Bool) → ((x : X) → fits x ≡ true → Covers [] (f x) (w x))
    → (x : Option X) → optional_fits fits x ≡ true → Covers [] (if_there f x) (optional w x)
covers-there_plain f w fits all None e = covers-none []
covers-there_plain f w fits all (Some x) e = all x e

-- nothing behind
pub covers-nothing : {l a : Occurrences} {ws : List Written} → Covers l a ws → Covers (l ++ []) (a ++ []) ws
covers-nothing {l} {a} x = record { at = λ p. (let f = names-append p l [] in let g = names-append p a [] in let s = x.at p in omega arith) }
