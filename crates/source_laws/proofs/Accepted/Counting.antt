-- How often constructs stand at a place: those that begin a scope, the scopes that a text numbers, and the tokens of a spelling.
use Rattle.std.proofs.Common.{◌≡◌, ℕ, ◌+◌, ◌≤◌, List, [], ◌∷◌, ◌++◌, map, Option, Some, None, refl, sym, ap, ◌∙◌, arith}
use Rattle.std.specs.List.{flat_map}
use Rattle.std.proofs.lemmas.List.{map-append}
use Rattle.ann_base.specs.declared.places.Place.{Place}
use Rattle.ada_tree.specs.Written.{Written, word_at}
use Rattle.ada_regions.specs.declared.table.Names.{Names}
use Rattle.ada_regions.specs.Words.{same_place}
use Rattle.ada_regions.specs.Occurrences.{Occurrence, Occurrences, Region, begins, ends, one, within_region}
use Rattle.ada_image.specs.ImageOfStatements.{scope_at}
use Rattle.source_laws.proofs.Sources.Counting.{one_if, count}
use Rattle.source_laws.proofs.Accepted.Beginning.{place_begun, begun_by}

pub count-append : (p : Place) (xs ys : List Place) → count p (xs ++ ys) ≡ count p xs + count p ys
count-append p [] ys = omega arith
count-append p (x ∷ xs) ys = let h = count-append p xs ys in omega arith

abbrev pub begun_at : Place → Occurrences → ℕ
begun_at p [] = 0
begun_at p (o ∷ os) = count p (begun_by o) + begun_at p os

pub begun-append : (p : Place) (a b : Occurrences) → begun_at p (a ++ b) ≡ begun_at p a + begun_at p b
begun-append p [] b = omega arith
begun-append p (o ∷ a) b = let h = begun-append p a b in omega arith

pub begun-counted : (p : Place) (os : Occurrences) → count p (flat_map begun_by os) ≡ begun_at p os
begun-counted p [] = refl
begun-counted p (o ∷ os) = let h = begun-counted p os in let g = count-append p (begun_by o) (flat_map begun_by os) in omega arith

abbrev pub stands_at : Place → Option Place → ℕ
stands_at p None = 0
stands_at p (Some q) = one_if (same_place p q)

abbrev pub tokens_at : Place → List Written → ℕ
tokens_at p [] = 0
tokens_at p (w ∷ ws) = stands_at p w.place + tokens_at p ws

pub tokens-append : (p : Place) (a b : List Written) → tokens_at p (a ++ b) ≡ tokens_at p a + tokens_at p b
tokens-append p [] b = omega arith
tokens-append p (w ∷ a) b = let h = tokens-append p a b in omega arith

-- ---- these scopes are those of places at each of which no more of them stand than begin in the text, and than tokens

pub record Begins (n : Names) (scopes : List ℕ) (os : Occurrences) (ws : List Written) : Type 0 where
  pub places : List Place
  pub are : scopes ≡ map (scope_at n) places
  pub told : (p : Place) → count p places ≤ begun_at p os
  pub spelt : (p : Place) → count p places ≤ tokens_at p ws

module _ {n : Names} where
  pub begins-none : (os : Occurrences) (ws : List Written) → Begins n [] os ws
  begins-none os ws = record { places = []; are = refl; told = λ p. omega arith; spelt = λ p. omega arith }

  pub begins-both : {s t : List ℕ} {a b : Occurrences} {v w : List Written} → Begins n s a v → Begins n t b w → Begins n (s ++ t) (a ++ b) (v ++ w)
  begins-both {s} {t} {a} {b} {v} {w} x y = record {
    places = x.places ++ y.places;
    are = ap (λ ss. ss ++ t) x.are ∙ (ap (λ ss. map (scope_at n) x.places ++ ss) y.are ∙ sym (map-append (scope_at n) x.places y.places));
    told = λ p. (let f = count-append p x.places y.places in let g = begun-append p a b in let h = x.told p in let i = y.told p in omega arith);
    spelt = λ p. (let f = count-append p x.places y.places in let g = tokens-append p v w in let h = x.spelt p in let i = y.spelt p in omega arith);
  }

  -- the later scopes first
  pub begins-turned : {s t : List ℕ} {a b : Occurrences} {v w : List Written} → Begins n s a v → Begins n t b w → Begins n (t ++ s) (a ++ b) (v ++ w)
  begins-turned {s} {t} {a} {b} {v} {w} x y = record {
    places = y.places ++ x.places;
    are = ap (λ ss. ss ++ s) y.are ∙ (ap (λ ss. map (scope_at n) y.places ++ ss) x.are ∙ sym (map-append (scope_at n) y.places x.places));
    told = λ p. (let f = count-append p y.places x.places in let g = begun-append p a b in let h = x.told p in let i = y.told p in omega arith);
    spelt = λ p. (let f = count-append p y.places x.places in let g = tokens-append p v w in let h = x.spelt p in let i = y.spelt p in omega arith);
  }

  -- ---- tokens and occurrences beside

  pub begins-skip : {s : List ℕ} {a : Occurrences} {ws : List Written} (w : Written) → Begins n s a ws → Begins n s a (w ∷ ws)
  begins-skip w x = record { places = x.places; are = x.are; told = x.told; spelt = λ p. (let h = x.spelt p in omega arith) }

  pub begins-past : {s : List ℕ} {a : Occurrences} {ws : List Written} (v : List Written) → Begins n s a ws → Begins n s a (v ++ ws)
  begins-past {s} {a} {ws} v x = record {
    places = x.places;
    are = x.are;
    told = x.told;
    spelt = λ p. (let g = tokens-append p v ws in let h = x.spelt p in omega arith);
  }

  pub begins-front : {s : List ℕ} {a : Occurrences} {v : List Written} (w : List Written) → Begins n s a v → Begins n s a (v ++ w)
  begins-front {s} {a} {v} w x = record {
    places = x.places;
    are = x.are;
    told = x.told;
    spelt = λ p. (let g = tokens-append p v w in let h = x.spelt p in omega arith);
  }

  pub begins-quiet : {s : List ℕ} {a : Occurrences} {ws : List Written} (o : Occurrence) → Begins n s a ws → Begins n s (o ∷ a) ws
  begins-quiet o x = record { places = x.places; are = x.are; told = λ p. (let h = x.told p in omega arith); spelt = x.spelt }

  pub begins-behind : {s : List ℕ} {b : Occurrences} {ws : List Written} (a : Occurrences) → Begins n s b ws → Begins n s (a ++ b) ws
  begins-behind {s} {b} a x = record {
    places = x.places;
    are = x.are;
    told = λ p. (let g = begun-append p a b in let h = x.told p in omega arith);
    spelt = x.spelt;
  }

  pub begins-before : {s : List ℕ} {a : Occurrences} {ws : List Written} (b : Occurrences) → Begins n s a ws → Begins n s (a ++ b) ws
  begins-before {s} {a} b x = record {
    places = x.places;
    are = x.are;
    told = λ p. (let g = begun-append p a b in let h = x.told p in omega arith);
    spelt = x.spelt;
  }

  pub begins-region : {s : List ℕ} {a : Occurrences} {ws : List Written} (r : Region) → Begins n s a ws → Begins n s (within_region r a) ws
  begins-region r x = begins-quiet (begins r) (begins-before (one ends) x)

  -- ---- a construct with a scope, whose place is that of a word

  pub begins-scope : {s : List ℕ} {a : Occurrences} {ws : List Written} (r : Region) (place : Place) (text : List ℕ) → place_begun r ≡ place ∷ []
      → Begins n s a ws
      → Begins n (scope_at n place ∷ s) (within_region r a) (word_at place text ∷ ws)
  begins-scope {s} {a} {ws} r place text e x = record {
    places = place ∷ x.places;
    are = ap (λ ss. scope_at n place ∷ ss) x.are;
    told =
        λ p.
        (let f : count p (place_begun r) ≡ count p (place ∷ []) = ap (count p) e in let g = begun-append p a (one ends) in let h = x.told p in omega arith);
    spelt = λ p. (let h = x.spelt p in omega arith);
  }

  -- where the word stands among others
  pub begins-among : {s : List ℕ} {a : Occurrences} {ws : List Written} (before : List Written) (w : Written) (others : List Written) → Begins n s a (w ∷ ws)
      → Begins n s a ((before ++ w ∷ others) ++ ws)
  begins-among {s} {a} {ws} before w others x = record {
    places = x.places;
    are = x.are;
    told = x.told;
    spelt = λ p. (let f = tokens-append p (before ++ w ∷ others) ws in let g = tokens-append p before (w ∷ others) in let h = x.spelt p in omega arith);
  }
