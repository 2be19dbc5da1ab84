-- Constructs at places of their own have scopes of their own, where the table has them all.
use Rattle.std.proofs.Common.{◌≡◌, ℕ, suc, ◌+◌, ◌≤◌, Bool, true, false, cond, not, ◌||◌, List, [], ◌∷◌}
use Rattle.std.proofs.Common.{length, map, Some, slice_get, eqb, ltb, refl, sym, ap, ◌∙◌, arith, eqb-true}
use Rattle.std.specs.List.{list_any, list_all}
use Rattle.std.proofs.lemmas.List.{length-map}
use Rattle.std.proofs.lemmas.Option.{slice_get_within}
use Rattle.std.proofs.lemmas.Bool.{and_from, lt-ltb}
use Rattle.ann_base.specs.declared.places.Place.{Place}
use Rattle.ada_regions.specs.declared.table.Names.{Names}
use Rattle.ada_regions.specs.declared.table.NumberedScope.{NumberedScope}
use Rattle.ada_regions.specs.Words.{same_place}
use Rattle.ada_image.specs.ImageOfStatements.{position_of_scope, scope_at}
use Rattle.image_laws.specs.OwnScopes.{are_apart, are_own}
use Rattle.source_laws.proofs.Names.Denoting.{same_place-path, same_place-itself}
use Rattle.source_laws.proofs.Sources.Counting.{one_if, count}
use Rattle.source_laws.proofs.Accepted.Beginning.{place_of_scope, places_of}

-- ---- the first scope at a place

abbrev pub position : ℕ → Place → List Place → ℕ
position number p [] = 0
position number p (q ∷ qs) = cond (same_place q p) number (position (suc number) p qs)

pub position-of : (number : ℕ) (p : Place) (ss : List NumberedScope) → position_of_scope number p ss ≡ position number p (map place_of_scope ss)
unfolding position_of_scope
position-of number p [] = refl
position-of number p (s ∷ ss) = ap (cond (same_place s.place p) number) (position-of (suc number) p ss)

turned : (p q : Place) → same_place q p ≡ false → same_place p q ≡ false
turned p q apart = go (same_place p q) refl
  where
    go : (b : Bool) → same_place p q ≡ b → same_place p q ≡ false
    go false e = e
    go true e = let h : same_place q p ≡ true = ap (λ x. same_place q x) (same_place-path p q e) ∙ same_place-itself q in cc

-- what a place has that is among these
abbrev StandsFrom : ℕ → Place → List Place → Type 0
StandsFrom number p qs = (j : ℕ) × (position number p qs ≡ number + j) × (slice_get qs j ≡ Some p)

stands-from : (number : ℕ) (p : Place) (qs : List Place) → 1 ≤ count p qs → StandsFrom number p qs
stands-from number p [] some = absurd (omega arith)
stands-from number p (q ∷ qs) some = go (same_place q p) refl (λ more. stands-from (suc number) p qs more)
  where
    go : (b : Bool) → same_place q p ≡ b → (1 ≤ count p qs → StandsFrom (suc number) p qs) → StandsFrom number p (q ∷ qs)
    go true e rest = (0, ap (λ t. cond t number (position (suc number) p qs)) e ∙ omega arith, ap Some (same_place-path q p e))
    go false e rest =
        let here : one_if (same_place p q) ≡ 0 = ap one_if (turned p q e) in
        let later = rest (omega arith) in
        (suc later.0, ap (λ t. cond t number (position (suc number) p qs)) e ∙ (later.1 ∙ omega arith), later.2)

-- ---- the scope of a place

module _ (n : Names) where
  abbrev Stands : Place → Type 0
  Stands p = slice_get (places_of n) (scope_at n p) ≡ Some p

  stands-at : (p : Place) → 1 ≤ count p (places_of n) → Stands p
  unfolding scope_at
  stands-at p some =
      let there = stands-from 0 p (places_of n) some in
      let here : scope_at n p ≡ there.0 = position-of 0 p n.scopes ∙ there.1 ∙ omega arith in
      ap (slice_get (places_of n)) here ∙ there.2

  in-table : (p : Place) → Stands p → ltb (scope_at n p) (length n.scopes) ≡ true
  in-table p stands =
      let within = slice_get_within (places_of n) (scope_at n p) p stands in
      let same : length (places_of n) ≡ length n.scopes = length-map n.scopes place_of_scope in
      lt-ltb (scope_at n p) (length n.scopes) (omega arith)

  -- those that are one have one place
  one-scope : (p q : Place) → Stands p → Stands q → eqb (scope_at n p) (scope_at n q) ≡ true → p ≡ q
  one-scope p q stands other e =
      let same : Some p ≡ Some q = sym stands ∙ (ap (slice_get (places_of n)) (eqb-true (scope_at n p) (scope_at n q) e) ∙ other) in
      cc

  -- ---- of places that are their own

  abbrev Standing : List Place → Type 0
  Standing ps = (p : Place) → 1 ≤ count p ps → Stands p

  later-stand : (q : Place) (ps : List Place) → Standing (q ∷ ps) → Standing ps
  later-stand q ps all p some = all p (omega arith)

  first-stands : (q : Place) (ps : List Place) → Standing (q ∷ ps) → Stands q
  first-stands q ps all = all q (let h : one_if (same_place q q) ≡ 1 = ap one_if (same_place-itself q) in omega arith)

  all-in_table : (ps : List Place) → Standing ps → list_all (λ s. ltb s (length n.scopes)) (map (scope_at n) ps) ≡ true
  all-in_table [] all = refl
  all-in_table (q ∷ ps) all = and_from _ _ (in-table q (first-stands q ps all)) (all-in_table ps (later-stand q ps all))

  none-same : (p : Place) → Stands p → (ps : List Place) → Standing ps → count p ps ≤ 0 → list_any (eqb (scope_at n p)) (map (scope_at n) ps) ≡ false
  none-same p stands [] all none = refl
  none-same p stands (q ∷ ps) all none = go (eqb (scope_at n p) (scope_at n q)) refl (none-same p stands ps (later-stand q ps all) (omega arith))
    where
      go : (b : Bool) → eqb (scope_at n p) (scope_at n q) ≡ b → list_any (eqb (scope_at n p)) (map (scope_at n) ps) ≡ false
          → (b || list_any (eqb (scope_at n p)) (map (scope_at n) ps)) ≡ false
      go false e rest = rest
      go true e rest =
          let same = one-scope p q stands (first-stands q ps all) e in
          let here : one_if (same_place p q) ≡ 1 = ap one_if (ap (λ x. same_place p x) (sym same) ∙ same_place-itself p) in
          absurd (omega arith)

  all-apart : (ps : List Place) → Standing ps → ((p : Place) → count p ps ≤ 1) → are_apart (map (scope_at n) ps) ≡ true
  all-apart [] all once = refl
  all-apart (q ∷ ps) all once =
      let here : one_if (same_place q q) ≡ 1 = ap one_if (same_place-itself q) in
      let none = none-same q (first-stands q ps all) ps (later-stand q ps all) (let h = once q in omega arith) in
      and_from _ _ (ap not none) (all-apart ps (later-stand q ps all) (λ p. (let h = once p in omega arith)))

  pub places-own : (ps : List Place) → ((p : Place) → count p ps ≤ 1) → ((p : Place) → count p ps ≤ count p (places_of n))
      → are_own n (map (scope_at n) ps) ≡ true
  places-own ps once table =
      let all : Standing ps = λ p some. stands-at p (let h = table p in omega arith) in
      and_from _ _ (all-in_table ps all) (all-apart ps all once)
