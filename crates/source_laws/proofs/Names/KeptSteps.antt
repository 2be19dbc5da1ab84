-- What each sort of occurrence keeps.
use Rattle.std.proofs.Common.{◌≡◌, ℕ, ◌≤◌, false, cond, List, [], ◌∷◌, ◌++◌, map, Option, Some, None, append-nil, refl, sym, ap, ◌∙◌, arith}
use Rattle.ada_tree.specs.declared.names.Identifier.{Identifier}
use Rattle.ada_regions.specs.Occurrences.{Occurrence, Region, begins, package_region}
use Rattle.source_laws.specs.Positions.{Before, around, around_outside, all_but_innermost, nearest}
use Rattle.source_laws.specs.Declarations.{declares_name, declaration, hides_name}
use Rattle.source_laws.specs.Regions.{number_of_innermost}
use Rattle.source_laws.proofs.Names.PositionLemmas.{stands-here}
use Rattle.source_laws.proofs.Names.Known.{Open, innermost, outside, first_again, exports_no_more}
use Rattle.source_laws.proofs.Names.KnownDeclared.{region_behind_it, more_regions}
use Rattle.source_laws.proofs.Names.Texts.{begins_next, IsAround}
use Rattle.source_laws.proofs.Names.Kept.{known_at, here_at, numbers_of, next_by, next_region, RegionsOpen}
use Rattle.source_laws.proofs.Names.Kept.{RegionsKept, Together, regions-stay, Outside, outside-of}
use Rattle.source_laws.proofs.Names.KeptBindings.{said_by, said, BindingsKept, bindings-stay}
use Rattle.source_laws.proofs.Names.KeptEntities.{EntitiesKept, entities-stay, BodiesKept, bodies-stay, ContextsKept, contexts-stay}

pub record Kept (last : ℕ) (before : Before) : Type 0 where
  pub regions : RegionsKept last before
  pub bindings : BindingsKept last before
  pub entities : EntitiesKept last before
  pub bodies : BodiesKept last before
  pub contexts : ContextsKept last before
  pub priority : (known_at last before).priority ≡ last

-- ---- lists of open regions

abbrev pub first : List ℕ → ℕ
first [] = 0
first (n ∷ ns) = n

abbrev pub rest : List ℕ → List ℕ
rest [] = []
rest (n ∷ ns) = ns

pub innermost-first : (os : List Open) → (innermost os).region ≡ first (numbers_of os)
innermost-first [] = refl
innermost-first (o ∷ os) = refl

pub outside-rest : (os : List Open) → numbers_of (outside os) ≡ rest (numbers_of os)
outside-rest [] = refl
outside-rest (o ∷ os) = refl

some-open : (ns : List ℕ) → [] ≡ ns ++ 0 ∷ [] → ⊥
some-open [] e = cc
some-open (n ∷ ns) e = cc

pub first_again-numbers : (os : List Open) (ns : List ℕ) → numbers_of os ≡ ns ++ 0 ∷ [] → numbers_of (first_again os) ≡ numbers_of os
first_again-numbers [] ns e = absurd (some-open ns e)
first_again-numbers (o ∷ os) ns e = refl

pub no_more-numbers : (os : List Open) (ns : List ℕ) → numbers_of os ≡ ns ++ 0 ∷ [] → numbers_of (exports_no_more os) ≡ numbers_of os
no_more-numbers [] ns e = absurd (some-open ns e)
no_more-numbers (o ∷ os) ns e = refl

pub next-settled : (last : ℕ) (before : Before) → begins_next before ≡ None → next_region last before ≡ (known_at last before).regions
next-settled last [] e = refl
next-settled last (o ∷ before) e = ap (λ r. next_by r (known_at last before).regions (known_at last (o ∷ before)).regions) e

-- ---- an occurrence that begins and ends no region

-- it stands in the same region as what stands before it
pub record StaysHere (last : ℕ) (o : Occurrence) (before : Before) : Type 0 where
  pub around : around (o ∷ before) ≡ around before
  pub numbers : numbers_of (known_at last (o ∷ before)).opened ≡ numbers_of (known_at last before).opened
  pub regions : (known_at last (o ∷ before)).regions ≡ more_regions (region_behind_it o) (known_at last before).regions

module _ (last : ℕ) (o : Occurrence) (before : Before) (settled : begins_next before ≡ None) (h : StaysHere last o before) where
  pub here-together : Together last before (o ∷ before) before
  here-together = record {
    stands = stands-here before;
    table = innermost-first (known_at last (o ∷ before)).opened ∙ (ap first h.numbers ∙ sym (innermost-first (known_at last before).opened));
    position = ap number_of_innermost h.around;
  }

  next-le : next_region last before ≤ next_region last (o ∷ before)
  next-le = go (region_behind_it o) h.regions (next-settled last before settled)
    where
      go : (r : Option Region) → (known_at last (o ∷ before)).regions ≡ more_regions r (known_at last before).regions
          → next_region last before ≡ (known_at last before).regions
          → next_region last before ≤ next_by r (known_at last before).regions (known_at last (o ∷ before)).regions
      go None e q = omega arith
      go (Some r) e q = omega arith

  pub here-regions : RegionsKept last before → RegionsKept last (o ∷ before)
  here-regions k =
      regions-stay last o before before k here-together next-le (h.numbers ∙ (k.opened ∙ ap (λ bs. map (here_at last) bs ++ 0 ∷ []) (sym h.around)))

-- it says nothing of names
pub record SaysNothing (last : ℕ) (o : Occurrence) (before : Before) : Type 0 where
  pub bindings : (known_at last (o ∷ before)).bindings ≡ (known_at last before).bindings
  pub entities : (known_at last (o ∷ before)).entities ≡ (known_at last before).entities
  pub bodies : (known_at last (o ∷ before)).bodies ≡ (known_at last before).bodies
  pub contexts : (known_at last (o ∷ before)).contexts ≡ (known_at last before).contexts
  pub priority : (known_at last (o ∷ before)).priority ≡ (known_at last before).priority
  pub declares : (region : ℕ) (name : List ℕ) → declares_name number_of_innermost region name o before ≡ false
  pub hides : (region : ℕ) (name : List ℕ) → hides_name number_of_innermost region name o before ≡ false
  pub no_package : (i : Identifier) → begins (package_region i) ≡ o → ⊥

module _ (last : ℕ) (o : Occurrence) (before : Before) where
  pub said-same : ((region : ℕ) (name : List ℕ) → declares_name number_of_innermost region name o before ≡ false)
      → ((region : ℕ) (name : List ℕ) → hides_name number_of_innermost region name o before ≡ false)
      → (region : ℕ) (name : List ℕ) → said last region name (o ∷ before) ≡ said last region name before
  said-same declares hides region name =
      ap (λ t. said_by last (cond t (Some (o ∷ before)) (declaration number_of_innermost region name before))
      (nearest (hides_name number_of_innermost region name) (o ∷ before)))
      (declares region name)
      ∙ ap (λ t. said_by last (declaration number_of_innermost region name before)
      (cond t (Some (o ∷ before)) (nearest (hides_name number_of_innermost region name) before)))
      (hides region name)

  bodies-same : (k : BodiesKept last before) (s : SaysNothing last o before) → BodiesKept last (o ∷ before)
  bodies-same k s = bodies-stay last o before [] k s.bodies (s.entities ∙ sym (append-nil (known_at last before).entities))

  -- with a position whose region this is
  pub nothing-together : (x : Before) → Together last x (o ∷ before) before → RegionsKept last (o ∷ before) → Kept last before → SaysNothing last o before
      → Kept last (o ∷ before)
  nothing-together x t regions k s = record {
    regions = regions;
    bindings = bindings-stay last o x before k.bindings t s.bindings (said-same s.declares s.hides);
    entities = entities-stay last o before k.entities s.entities s.declares;
    bodies = bodies-same k.bodies s;
    contexts = contexts-stay last o before k.contexts s.contexts s.no_package;
    priority = s.priority ∙ k.priority;
  }

  pub nothing-here : begins_next before ≡ None → StaysHere last o before → Kept last before → SaysNothing last o before → Kept last (o ∷ before)
  nothing-here settled h k s = nothing-together before (here-together last o before settled h) (here-regions last o before settled h k.regions) k s

  -- ---- a region ends

  pub nothing-ended : begins_next before ≡ None → IsAround (around before) → around (o ∷ before) ≡ around_outside before → region_behind_it o ≡ None
      → (known_at last (o ∷ before)).opened ≡ outside (known_at last before).opened → (known_at last (o ∷ before)).regions ≡ (known_at last before).regions
      → Kept last before → SaysNothing last o before → Kept last (o ∷ before)
  nothing-ended settled is_around ended none opened regions k s = nothing-together x.0 together kept-regions k s
    where
      x : (y : Before) × Outside last y before
      x = outside-of last before k.regions.opened

      together : Together last x.0 (o ∷ before) before
      together = record {
        stands = x.1.stands;
        table = ap (λ os. (innermost os).region) opened ∙ sym x.1.table;
        position = ap number_of_innermost ended ∙ sym x.1.position;
      }

      still-open : (bs : List Before) → around before ≡ bs → IsAround bs
          → rest (map (here_at last) bs ++ 0 ∷ []) ≡ map (here_at last) (all_but_innermost bs) ++ 0 ∷ []
      still-open [] e a = absurd a
      still-open (b ∷ bs) e a = refl

      kept-opened : RegionsOpen last (o ∷ before)
      kept-opened =
          ap numbers_of opened
          ∙ (outside-rest (known_at last before).opened
          ∙ (ap rest k.regions.opened ∙ (still-open (around before) refl is_around ∙ ap (λ bs. map (here_at last) bs ++ 0 ∷ []) (sym ended))))

      kept-regions : RegionsKept last (o ∷ before)
      kept-regions = regions-stay last o x.0 before k.regions together
          (let a : next_region last before ≡ (known_at last before).regions = next-settled last before settled in
          let b : next_region last (o ∷ before) ≡ (known_at last (o ∷ before)).regions = next-settled last (o ∷ before) none in omega arith) kept-opened
