-- What the beginning of a region keeps.
use Rattle.std.proofs.Common.{◌≡◌, ℕ, suc, [], ◌∷◌, ◌++◌, length, map, None, find, append-nil, refl, sym, ap, ◌∙◌, arith}
use Rattle.world_tables.specs.Tables.{item_at, put}
use Rattle.source_laws.proofs.Names.TableLemmas.{item_at-put, item_at-put-other}
use Rattle.ada_tree.specs.declared.names.Identifier.{Identifier}
use Rattle.ada_regions.specs.Words.{and_then}
use Rattle.ada_regions.specs.Names.{binding_in, binds}
use Rattle.ada_regions.specs.Occurrences.{Region, the_context, the_context_of, further_context, package_region, package_body, main_body, a_profile}
use Rattle.ada_regions.specs.Occurrences.{subprogram_body, a_unit, task_body, protected_body, entry_body, an_accept, a_block, a_loop, a_record, begins}
use Rattle.ada_regions.specs.Numbered.{behind}
use Rattle.source_laws.specs.Positions.{Before, Stands, around}
use Rattle.source_laws.specs.Regions.{number_of, number_of_region, number_of_innermost, region_of_position}
use Rattle.source_laws.specs.Tables.{table_at}
use Rattle.source_laws.proofs.Names.NumberLemmas.{number-beginning}
use Rattle.source_laws.proofs.Names.KnownBegun.{begun_anew, IsOwn, known-own, begun_apart}
use Rattle.source_laws.proofs.Names.Texts.{begins_next}
use Rattle.source_laws.proofs.Names.Kept.{known_at, here_at, numbers_of, next_region, RegionsOpen}
use Rattle.source_laws.proofs.Names.Kept.{RegionsKept, Together, regions-stay, BeginsAnew, regions-anew}
use Rattle.source_laws.proofs.Names.KeptBindings.{bindings-stay, bindings-anew, bindings-anew_same}
use Rattle.source_laws.proofs.Names.KeptEntities.{entities-stay, BodiesKept, bodies-stay, ContextsKept, contexts-stay}
use Rattle.source_laws.proofs.Names.KeptSteps.{Kept, innermost-first, first, next-settled}

-- ---- a region of its own

pub record OpensAnew (last : ℕ) (r : Region) (before : Before) : Type 0 where
  pub numbers : numbers_of (known_at last (begins r ∷ before)).opened ≡ next_region last before ∷ numbers_of (known_at last before).opened
  pub regions : (known_at last (begins r ∷ before)).regions ≡ suc (next_region last before)
  pub number : number_of (begins r ∷ before) ≡ suc (length before)
  pub entities : (known_at last (begins r ∷ before)).entities ≡ (known_at last before).entities
  pub bodies : (known_at last (begins r ∷ before)).bodies ≡ (known_at last before).bodies
  pub priority : (known_at last (begins r ∷ before)).priority ≡ (known_at last before).priority

module _ (last : ℕ) (r : Region) (before : Before) where
  begins-anew : OpensAnew last r before → BeginsAnew last (begins r) before
  begins-anew h = record {
    table = innermost-first (known_at last (begins r ∷ before)).opened ∙ ap first h.numbers;
    position = h.number;
    next = h.regions;
  }

  opens-anew : OpensAnew last r before → RegionsKept last before → RegionsOpen last (begins r ∷ before)
  opens-anew h k =
      h.numbers ∙ (ap (λ ns. next_region last before ∷ ns) k.opened ∙ ap (λ n. n ∷ (map (here_at last) (around before) ++ 0 ∷ [])) (sym (begins-anew h).table))

  bodies-same : BodiesKept last before → (known_at last (begins r ∷ before)).entities ≡ (known_at last before).entities
      → (known_at last (begins r ∷ before)).bodies ≡ (known_at last before).bodies → BodiesKept last (begins r ∷ before)
  bodies-same k entities bodies = bodies-stay last (begins r) before [] k bodies (entities ∙ sym (append-nil (known_at last before).entities))

  -- the table binds nothing more
  pub kept-anew : Kept last before → OpensAnew last r before → (known_at last (begins r ∷ before)).bindings ≡ (known_at last before).bindings
      → ContextsKept last (begins r ∷ before) → Kept last (begins r ∷ before)
  kept-anew k h same contexts = record {
    regions = regions-anew last (begins r) before k.regions (begins-anew h) (opens-anew h k.regions);
    bindings = bindings-anew_same last (begins r) before k.regions k.bindings (begins-anew h) same (λ region name. refl);
    entities = entities-stay last (begins r) before k.entities h.entities (λ region name. refl);
    bodies = bodies-same k.bodies h.entities h.bodies;
    contexts = contexts;
    priority = h.priority ∙ k.priority;
  }

  -- the table has an empty list of bindings for it
  pub kept-apart : Kept last before → OpensAnew last r before
      → (known_at last (begins r ∷ before)).bindings ≡ put (next_region last before) [] (known_at last before).bindings → ContextsKept last (begins r ∷ before)
      → Kept last (begins r ∷ before)
  kept-apart k h more contexts = record {
    regions = regions-anew last (begins r) before k.regions (begins-anew h) (opens-anew h k.regions);
    bindings = bindings-anew last (begins r) before k.regions k.bindings (begins-anew h)
        (λ n other. ap (item_at n) more ∙ item_at-put-other n (next_region last before) [] (known_at last before).bindings other)
        (λ name. ap (λ bs. binding_in bs (next_region last before) name) more
        ∙ ap (λ z. and_then z (find (binds name))) (item_at-put (next_region last before) [] (known_at last before).bindings))
        (λ region name. refl);
    entities = entities-stay last (begins r) before k.entities h.entities (λ region name. refl);
    bodies = bodies-same k.bodies h.entities h.bodies;
    contexts = contexts;
    priority = h.priority ∙ k.priority;
  }

  -- ---- the region of a position u that stands before

  pub record OpensAgain (u : Before) : Type 0 where
    pub stands : Stands u before
    pub numbers : numbers_of (known_at last (begins r ∷ before)).opened ≡ here_at last u ∷ numbers_of (known_at last before).opened
    pub number : number_of (begins r ∷ before) ≡ region_of_position u
    pub regions : (known_at last (begins r ∷ before)).regions ≡ (known_at last before).regions
    pub bindings : (known_at last (begins r ∷ before)).bindings ≡ (known_at last before).bindings
    pub entities : (known_at last (begins r ∷ before)).entities ≡ (known_at last before).entities
    pub priority : (known_at last (begins r ∷ before)).priority ≡ (known_at last before).priority

  together-again : (u : Before) → OpensAgain u → Together last u (begins r ∷ before) before
  together-again u h = record {
    stands = h.stands;
    table = innermost-first (known_at last (begins r ∷ before)).opened ∙ ap first h.numbers;
    position = h.number;
  }

  pub kept-again : (u : Before) → begins_next before ≡ None → Kept last before → OpensAgain u → BodiesKept last (begins r ∷ before)
      → ContextsKept last (begins r ∷ before) → Kept last (begins r ∷ before)
  kept-again u settled k h bodies contexts = record {
    regions = regions-stay last (begins r) u before k.regions (together-again u h)
        (let a : next_region last before ≡ (known_at last before).regions = next-settled last before settled in
        let b : (known_at last (begins r ∷ before)).regions ≡ (known_at last before).regions = h.regions in omega arith)
        (h.numbers
        ∙ (ap (λ ns. here_at last u ∷ ns) k.regions.opened
        ∙ ap (λ n. n ∷ (map (here_at last) (around before) ++ 0 ∷ [])) (sym (together-again u h).table)));
    bindings = bindings-stay last (begins r) u before k.bindings (together-again u h) h.bindings (λ region name. refl);
    entities = entities-stay last (begins r) before k.entities h.entities (λ region name. refl);
    bodies = bodies;
    contexts = contexts;
    priority = h.priority ∙ k.priority;
  }

-- ---- regions that are always their own

own-number : (r : Region) (before : Before) → IsOwn r → number_of_region number_of_innermost r before ≡ suc (length before)
own-number the_context before own = refl
own-number (the_context_of i) before own = absurd own
own-number further_context before own = refl
own-number (package_region i) before own = refl
own-number (package_body i) before own = absurd own
own-number (main_body i place) before own = refl
own-number a_profile before own = refl
own-number (subprogram_body place is_function) before own = refl
own-number (a_unit i) before own = refl
own-number (task_body i place) before own = absurd own
own-number (protected_body i) before own = absurd own
own-number (entry_body i place barrier) before own = refl
own-number (an_accept i place) before own = refl
own-number (a_block label place) before own = refl
own-number (a_loop label) before own = refl
own-number (a_record i) before own = refl

own-no_package : (r : Region) → IsOwn r → (i : Identifier) → begins (package_region i) ≡ begins r → ⊥
own-no_package (package_region i) own j e = own
own-no_package _ own j e = cc

pub kept-own : (last : ℕ) (r : Region) (before : Before) → IsOwn r → begins_next before ≡ None → Kept last before → Kept last (begins r ∷ before)
unfolding behind
kept-own last r before own settled k =
    let e : known_at last (begins r ∷ before) ≡ begun_anew (known_at last before) = known-own r (table_at last before) own in
    let next : next_region last before ≡ (known_at last before).regions = next-settled last before settled in
    kept-anew last r before k
    (record {
      numbers = ap (λ x. numbers_of x.opened) e ∙ ap (λ n. n ∷ numbers_of (known_at last before).opened) (sym next);
      regions = ap (λ x. x.regions) e ∙ ap suc (sym next);
      number = number-beginning (begins r) before ∙ own-number r before own;
      entities = ap (λ x. x.entities) e;
      bodies = ap (λ x. x.bodies) e;
      priority = ap (λ x. x.priority) e;
    })
    (ap (λ x. x.bindings) e)
    (contexts-stay last (begins r) before k.contexts (ap (λ x. x.contexts) e) (own-no_package r own))

-- ---- the contexts of packages' bodies that are no package: a region of their own too

pub kept-anew_context : (last : ℕ) (r : Region) (before : Before) → begins_next before ≡ None
    → known_at last (begins r ∷ before) ≡ begun_anew (known_at last before)
    → number_of_region number_of_innermost r before ≡ suc (length before) → ((i : Identifier) → begins (package_region i) ≡ begins r → ⊥) → Kept last before
    → Kept last (begins r ∷ before)
kept-anew_context last r before settled e number no_package k =
    let next : next_region last before ≡ (known_at last before).regions = next-settled last before settled in
    kept-anew last r before k
    (record {
      numbers = ap (λ x. numbers_of x.opened) e ∙ ap (λ n. n ∷ numbers_of (known_at last before).opened) (sym next);
      regions = ap (λ x. x.regions) e ∙ ap suc (sym next);
      number = number-beginning (begins r) before ∙ number;
      entities = ap (λ x. x.entities) e;
      bodies = ap (λ x. x.bodies) e;
      priority = ap (λ x. x.priority) e;
    })
    (ap (λ x. x.bindings) e)
    (contexts-stay last (begins r) before k.contexts (ap (λ x. x.contexts) e) no_package)

pub kept-apart_body : (last : ℕ) (r : Region) (before : Before) → begins_next before ≡ None
    → known_at last (begins r ∷ before) ≡ begun_apart (known_at last before)
    → number_of_region number_of_innermost r before ≡ suc (length before) → ((i : Identifier) → begins (package_region i) ≡ begins r → ⊥) → Kept last before
    → Kept last (begins r ∷ before)
kept-apart_body last r before settled e number no_package k =
    let next : next_region last before ≡ (known_at last before).regions = next-settled last before settled in
    kept-apart last r before k
    (record {
      numbers = ap (λ x. numbers_of x.opened) e ∙ ap (λ n. n ∷ numbers_of (known_at last before).opened) (sym next);
      regions = ap (λ x. x.regions) e ∙ ap suc (sym next);
      number = number-beginning (begins r) before ∙ number;
      entities = ap (λ x. x.entities) e;
      bodies = ap (λ x. x.bodies) e;
      priority = ap (λ x. x.priority) e;
    })
    (ap (λ x. x.bindings) e ∙ ap (λ n. put n [] (known_at last before).bindings) (sym next))
    (contexts-stay last (begins r) before k.contexts (ap (λ x. x.contexts) e) no_package)
