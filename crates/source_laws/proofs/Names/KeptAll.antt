-- On the way through a text whose bodies complete something the table keeps all that positions say.
use Rattle.std.proofs.Common.{◌≡◌, ℕ, Bool, true, false, cond, not, ◌&&◌, List, [], ◌∷◌, length, map, Option, Some, None, is_some}
use Rattle.std.proofs.Common.{option_map, slice_get, eqb, bytes_eq, refl, sym, ap, subst, ◌∙◌, arith, eqb-true, ◌⊎◌, inl, inr}
use Rattle.std.proofs.lemmas.Option.{slice_get_within}
use Rattle.std.proofs.lemmas.Slice.Eq.{bytes_eq-Decides}
use Rattle.std.proofs.lemmas.Bool.{and_parts}
use Rattle.world_tables.specs.Tables.{item_at}
use Rattle.ada_tree.specs.declared.names.Identifier.{Identifier}
use Rattle.ada_tree.specs.declared.declarations.SubprogramSpecification.{SubprogramSpecification}
use Rattle.ada_regions.specs.declared.entities.Entity.{Entity}
use Rattle.ada_regions.specs.declared.entities.UnitKind.TheVariants as unit
use Rattle.ada_regions.specs.declared.table.Binding.{Binding}
use Rattle.ada_regions.specs.declared.table.Names.{Names}
use Rattle.ada_regions.specs.Words.{and_then}
use Rattle.ada_regions.specs.Names.{binding_in, bound_in, region_here}
use Rattle.ada_regions.specs.Occurrences.{Occurrence, Declared, Region, the_package, the_main_procedure, a_subprogram, a_derived_type}
use Rattle.ada_regions.specs.Occurrences.{a_task, a_protected, the_context, the_context_of, further_context, package_region, package_body}
use Rattle.ada_regions.specs.Occurrences.{main_body, a_profile, subprogram_body, a_unit, task_body, protected_body, entry_body, an_accept}
use Rattle.ada_regions.specs.Occurrences.{a_block, a_loop, a_record, begins, ends, private_from_here, hides, heads, declares, declares_unit}
use Rattle.ada_regions.specs.Occurrences.{completes, is_called, mentions, mentions_simply, mentions_entry, with_unit, use_package}
use Rattle.ada_regions.specs.Declaring.{hidden}
use Rattle.ada_regions.specs.Completions.{entity_bound, is_specified, specified_number, completed_in, headed}
use Rattle.ada_regions.specs.Regions.{library_unit}
use Rattle.ada_regions.specs.Numbered.{behind}
use Rattle.source_laws.specs.Positions.{Before, around, around_outside, nearest}
use Rattle.source_laws.specs.Declarations.{is_subprogram, declares_here, starts_as_subprogram, body_completes, declares_name, declaration, hides_name}
use Rattle.source_laws.specs.Regions.{number_of_innermost, region_of_position, completes_if_body, bodies_complete_before}
use Rattle.source_laws.specs.Tables.{table_at}
use Rattle.source_laws.proofs.Names.PositionLemmas.{none-some, some-none, stands-here, stands-start, outside-behind}
use Rattle.source_laws.proofs.Names.NumberLemmas.{number-start}
use Rattle.source_laws.proofs.Names.Known.{Open, known, innermost, outside, with_bound, known-resolved, known-name_resolved, known-entry_mentioned}
use Rattle.source_laws.proofs.Names.Known.{known-withed, known-used, known-ended, known-made_private, known-named_as, known-hidden}
use Rattle.source_laws.proofs.Names.KnownDeclared.{region_behind_it, region_given, more_regions, Enters, IsInner, known-declared, known-package_declared}
use Rattle.source_laws.proofs.Names.KnownDeclared.{known-main_declared, outer, outer-opened, known-completed, known-body_declared}
use Rattle.source_laws.proofs.Names.Texts.{BeginsAlone, FitsBehind, FitsHere, begins_next, IsText}
use Rattle.source_laws.proofs.Names.Kept.{known_at, here_at, numbers_of, Outside, outside-of}
use Rattle.source_laws.proofs.Names.KeptBindings.{told_of, said_by, said, bindings-stay}
use Rattle.source_laws.proofs.Names.KeptEntities.{not_package, EntityThere, entities-stay, bodies-more, contexts-stay}
use Rattle.source_laws.proofs.Names.KeptSteps.{Kept, StaysHere, here-together, here-regions, said-same}
use Rattle.source_laws.proofs.Names.KeptSteps.{nothing-here, nothing-ended, first_again-numbers, no_more-numbers}
use Rattle.source_laws.proofs.Names.KeptNames.{hidden-again, hidden-first, declared-more}
use Rattle.source_laws.proofs.Names.KeptBegun.{kept-own}
use Rattle.source_laws.proofs.Names.KeptWaiting.{region-here, kept-task, kept-protected, kept-derived, kept-package}
use Rattle.source_laws.proofs.Names.KeptBodies.{joined, bound-said, found-nearest, no_start}
use Rattle.source_laws.proofs.Names.KeptUnits.{kept-package_body, kept-context_of, task-opens, protected-opens, kept-unit_body}
use Rattle.source_laws.proofs.Names.Flags.{some-region}

-- ---- at the start

kept-start : (last : ℕ) → Kept last []
unfolding item_at
kept-start last = record {
  regions = record {
    opened = refl;
    below = λ c e. (let h : here_at last c ≡ 0 = ap (here_at last) e in omega arith);
    same = λ c d e f q. ap region_of_position (e ∙ sym f);
    alike = λ c d e f q. ap (here_at last) (e ∙ sym f);
  };
  bindings = record { unbound = λ r no. refl; binds = λ c e name. refl };
  entities = record {
    grow = λ c e. (let h : length (known_at last c).entities ≡ 0 = ap (λ b. length (known_at last b).entities) e in omega arith);
    there = λ o b e region name q. cc;
  };
  bodies = record { within = λ e any. cc; begun = λ e region any there. cc };
  contexts = record { there = λ i b e. cc };
  priority = refl;
}

-- ---- occurrences that say nothing of regions and declarations

module _ (last : ℕ) (o : Occurrence) (before : Before) (settled : begins_next before ≡ None) (k : Kept last before) where
  quiet : known_at last (o ∷ before) ≡ known_at last before → region_behind_it o ≡ None → around (o ∷ before) ≡ around before
      → ((region : ℕ) (name : List ℕ) → declares_name number_of_innermost region name o before ≡ false)
      → ((region : ℕ) (name : List ℕ) → hides_name number_of_innermost region name o before ≡ false)
      → ((i : Identifier) → begins (package_region i) ≡ o → ⊥) → Kept last (o ∷ before)
  quiet e next stays undeclared unhidden other = nothing-here last o before settled
      (record {
        around = stays;
        numbers = ap (λ x. numbers_of x.opened) e;
        regions = ap (λ x. x.regions) e ∙ ap (λ r. more_regions r (known_at last before).regions) (sym next);
      }) k
      (record {
        bindings = ap (λ x. x.bindings) e;
        entities = ap (λ x. x.entities) e;
        bodies = ap (λ x. x.bodies) e;
        contexts = ap (λ x. x.contexts) e;
        priority = ap (λ x. x.priority) e;
        declares = undeclared;
        hides = unhidden;
        no_package = other;
      })

  -- the same, but for what is said of the innermost region
  quiet-here : (os : List Open) → known_at last (o ∷ before) ≡ record (known_at last before) { opened = os }
      → numbers_of os ≡ numbers_of (known_at last before).opened → region_behind_it o ≡ None → around (o ∷ before) ≡ around before
      → ((region : ℕ) (name : List ℕ) → declares_name number_of_innermost region name o before ≡ false)
      → ((region : ℕ) (name : List ℕ) → hides_name number_of_innermost region name o before ≡ false)
      → ((i : Identifier) → begins (package_region i) ≡ o → ⊥) → Kept last (o ∷ before)
  quiet-here os e same next stays undeclared unhidden other = nothing-here last o before settled
      (record {
        around = stays;
        numbers = ap (λ x. numbers_of x.opened) e ∙ same;
        regions = ap (λ x. x.regions) e ∙ ap (λ r. more_regions r (known_at last before).regions) (sym next);
      }) k
      (record {
        bindings = ap (λ x. x.bindings) e;
        entities = ap (λ x. x.entities) e;
        bodies = ap (λ x. x.bodies) e;
        contexts = ap (λ x. x.contexts) e;
        priority = ap (λ x. x.priority) e;
        declares = undeclared;
        hides = unhidden;
        no_package = other;
      })

  -- ---- a name is hidden

  hide-here : (i : Identifier) → around (o ∷ before) ≡ around before → region_behind_it o ≡ None
      → ((region : ℕ) (name : List ℕ) → declares_name number_of_innermost region name o before ≡ false)
      → ((region : ℕ) (name : List ℕ) → hides_name number_of_innermost region name o before ≡ (bytes_eq i.text name && eqb (region_of_position before) region))
      → ((j : Identifier) → begins (package_region j) ≡ o → ⊥)
      → (x : Option Binding) → binding_in (known_at last before).bindings (here_at last before) i.text ≡ x
      → known_at last (o ∷ before)
      ≡ cond (is_some x) (known_at last before) (with_bound (innermost (known_at last before).opened) i.text None (known_at last before))
      → Kept last (o ∷ before)
  hide-here i stays next undeclared hidden-as other (Some b) there e = hidden-again last i o before settled
      (record {
        around = stays;
        numbers = ap (λ x. numbers_of x.opened) e;
        regions = ap (λ x. x.regions) e ∙ ap (λ r. more_regions r (known_at last before).regions) (sym next);
      }) k
      (record {
        entities = ap (λ x. x.entities) e;
        bodies = ap (λ x. x.bodies) e;
        contexts = ap (λ x. x.contexts) e;
        priority = ap (λ x. x.priority) e;
        declares = undeclared;
        hides = hidden-as;
        no_package = other;
      })
      (ap (λ x. x.bindings) e) (λ none. some-none b.entity (ap told_of (sym there) ∙ none))
  hide-here i stays next undeclared hidden-as other None there e = hidden-first last i o before settled
      (record {
        around = stays;
        numbers = ap (λ x. numbers_of x.opened) e;
        regions = ap (λ x. x.regions) e ∙ ap (λ r. more_regions r (known_at last before).regions) (sym next);
      }) k
      (record {
        entities = ap (λ x. x.entities) e;
        bodies = ap (λ x. x.bodies) e;
        contexts = ap (λ x. x.contexts) e;
        priority = ap (λ x. x.priority) e;
        declares = undeclared;
        hides = hidden-as;
        no_package = other;
      })
      (innermost (known_at last before).opened).exports (ap (λ x. x.bindings) e) (ap told_of there)

kept-hides : (last : ℕ) (i : Identifier) (before : Before) → begins_next before ≡ None → Kept last before → Kept last (hides i ∷ before)
unfolding behind
kept-hides last i before settled k =
    hide-here last (hides i) before settled k i refl refl (λ region name. refl) (λ region name. refl) (not_package _ refl)
    (binding_in (known_at last before).bindings (here_at last before) i.text) refl (known-hidden i (table_at last before))

kept-heads : (last : ℕ) (i : Identifier) (before : Before) → begins_next before ≡ None → Kept last before → Kept last (heads i ∷ before)
unfolding behind headed completed_in
kept-heads last i before settled k = go (completed_in n (region_here n) i.text) refl
  where
    n : Names
    n = table_at last before

    here-bound : Option Binding
    here-bound = binding_in (known_at last before).bindings (here_at last before) i.text

    heads-here : known_at last (heads i ∷ before)
        ≡ cond (is_some here-bound) (known_at last before) (with_bound (innermost (known_at last before).opened) i.text None (known_at last before))
        → Kept last (heads i ∷ before)
    heads-here e = hide-here last (heads i) before settled k i refl refl (λ region name. refl) (λ region name. refl) (not_package _ refl) here-bound refl e

    -- what is completed is bound
    bound-if : (x : Option Binding) (e : ℕ) → and_then (and_then x (λ b. b.entity)) (λ e. cond (is_specified (table_at last before) e) (Some e) None) ≡ Some e
        → is_some x ≡ true
    bound-if None e q = cc
    bound-if (Some b) e q = refl

    go : (x : Option ℕ) → completed_in (table_at last before) (region_here (table_at last before)) i.text ≡ x → Kept last (heads i ∷ before)
    go (Some e) q =
        let bound : is_some here-bound ≡ true =
        bound-if here-bound e (ap (λ r. completed_in (table_at last before) r i.text) (sym (region-here last before)) ∙ q) in
        heads-here (ap (λ x. known (cond (is_some x) (table_at last before) (hidden i (table_at last before)))) q
        ∙ ap (λ t. cond t (known_at last before) (with_bound (innermost (known_at last before).opened) i.text None (known_at last before))) (sym bound))
    go None q =
        heads-here (ap (λ x. known (cond (is_some x) (table_at last before) (hidden i (table_at last before)))) q ∙ known-hidden i (table_at last before))

-- ---- declarations

kept-declares : (last : ℕ) (i : Identifier) (what : Declared) (before : Before) → IsInner what → begins_next before ≡ None → Kept last before
    → Kept last (declares i what ∷ before)
unfolding behind
kept-declares last i what before inner settled k =
    let d = known-declared i what (table_at last before) inner in
    let e = d.2 in
    declared-more last i (declares i what) before before d.0 (innermost (known_at last before).opened).exports settled
    (record { around = refl; numbers = ap (λ x. numbers_of x.opened) e; regions = ap (λ x. x.regions) e }) k
    (record {
      stands = stands-here before;
      declared = d.1;
      entities = ap (λ x. x.entities) e;
      bodies = ap (λ x. x.bodies) e;
      contexts = ap (λ x. x.contexts) e;
      priority = ap (λ x. x.priority) e;
      declares = λ region name. refl;
      hides = λ region name. refl;
      no_package = not_package _ refl;
    }) (ap (λ x. x.bindings) e)

kept-unit_declared : (last : ℕ) (i : Identifier) (what : Declared) (before : Before)
    → Enters (declares_unit i what) (record { region = 0; exports = false }) i (table_at last before) (table_at last (declares_unit i what ∷ before))
    → begins_next before ≡ None → Kept last before → Kept last (declares_unit i what ∷ before)
kept-unit_declared last i what before d settled k =
    let e = d.2 in
    declared-more last i (declares_unit i what) [] before d.0 false settled
    (record { around = refl; numbers = ap (λ x. numbers_of x.opened) e; regions = ap (λ x. x.regions) e }) k
    (record {
      stands = stands-start before;
      declared = d.1;
      entities = ap (λ x. x.entities) e;
      bodies = ap (λ x. x.bodies) e;
      contexts = ap (λ x. x.contexts) e;
      priority = ap (λ x. x.priority) e;
      declares = λ region name. ap (λ z. bytes_eq i.text name && eqb z region) (sym number-start);
      hides = λ region name. refl;
      no_package = not_package _ refl;
    }) (ap (λ x. x.bindings) e)

kept-library_unit : (last : ℕ) (i : Identifier) (what : Declared) (before : Before) → FitsHere (declares_unit i what) before → begins_next before ≡ None
    → Kept last before → Kept last (declares_unit i what ∷ before)
unfolding behind
kept-library_unit last i the_package before fits settled k =
    kept-unit_declared last i the_package before (known-package_declared i (table_at last before)) settled k
kept-library_unit last i the_main_procedure before fits settled k =
    kept-unit_declared last i the_main_procedure before (known-main_declared i (table_at last before)) settled k
kept-library_unit last i _ before fits settled k = absurd fits

-- ---- bodies of subprograms

-- it is the same to ask for the nearest declaration among those and among those with bodies that declare
completes-agree : (region : ℕ) (name : List ℕ) (before : Before)
    → starts_as_subprogram (nearest (declares_here number_of_innermost region name) before)
    ≡ starts_as_subprogram (declaration number_of_innermost region name before)
completes-agree region name [] = refl
completes-agree region name (completes i s ∷ before) =
    go (bytes_eq i.text name) (eqb (number_of_innermost (around_outside before)) region) (body_completes number_of_innermost region name before) refl
    (completes-agree region name before)
  where
    go : (named home completed : Bool) → body_completes number_of_innermost region name before ≡ completed
        → starts_as_subprogram (nearest (declares_here number_of_innermost region name) before)
        ≡ starts_as_subprogram (declaration number_of_innermost region name before)
        → starts_as_subprogram (nearest (declares_here number_of_innermost region name) before)
        ≡ starts_as_subprogram (cond (named && (home && not completed)) (Some (completes i s ∷ before)) (declaration number_of_innermost region name before))
    go true true true c more = more
    go true true false c more = c
    go true false completed c more = more
    go false home completed c more = more
completes-agree region name (o ∷ before) = go (declares_here number_of_innermost region name o before) (completes-agree region name before)
  where
    go : (t : Bool)
        → starts_as_subprogram (nearest (declares_here number_of_innermost region name) before)
        ≡ starts_as_subprogram (declaration number_of_innermost region name before)
        → starts_as_subprogram (cond t (Some (o ∷ before)) (nearest (declares_here number_of_innermost region name) before))
        ≡ starts_as_subprogram (cond t (Some (o ∷ before)) (declaration number_of_innermost region name before))
    go true more = refl
    go false more = more

no_region-subprogram : (o : Occurrence) → is_subprogram o ≡ true → region_behind_it o ≡ None
no_region-subprogram (declares i (a_subprogram s)) e = refl
no_region-subprogram _ e = cc

module _ (last : ℕ) (i : Identifier) (s : SubprogramSpecification) (before : Before) (settled : begins_next before ≡ None) (k : Kept last before) where
  abbrev pub beyond : (y : Before) × Outside last y before
  beyond = outside-of last before k.regions.opened

  abbrev pub home : ℕ
  home = region_of_position beyond.0

  outer-here : (outer (table_at last before)).region ≡ here_at last beyond.0
  outer-here = ap (λ (o : Open). o.region) (outer-opened (table_at last before)) ∙ sym beyond.1.table

  outer-bound : entity_bound (table_at last before) (outer (table_at last before)).region i.text ≡ joined (said last home i.text before)
  outer-bound = ap (λ r. entity_bound (table_at last before) r i.text) outer-here ∙ bound-said last before beyond.0 i.text k beyond.1.stands

  -- what a body is of the name in the region outside
  names-outside : (t : Bool) → body_completes number_of_innermost home i.text before ≡ t → (region : ℕ) (name : List ℕ)
      → declares_name number_of_innermost region name (completes i s) before ≡ (bytes_eq i.text name && (eqb home region && not t))
  names-outside t e region name =
      ap (λ n. bytes_eq i.text name && (eqb n region && not (body_completes number_of_innermost region name before))) (sym beyond.1.position)
      ∙ go (bytes_eq i.text name) (eqb home region) refl refl
    where
      go : (named there : Bool) → bytes_eq i.text name ≡ named → eqb home region ≡ there
          → (named && (there && not (body_completes number_of_innermost region name before))) ≡ (named && (there && not t))
      go true true n h =
          ap not (ap (λ z. body_completes number_of_innermost region z before) (sym ((bytes_eq-Decides i.text name).0 n))
          ∙ (ap (λ z. body_completes number_of_innermost z i.text before) (sym (eqb-true home region h)) ∙ e))
      go true false n h = refl
      go false there n h = refl

  -- it completes one that is there
  completes-there : (e : ℕ) (x : Entity) → completed_in (table_at last before) (outer (table_at last before)).region i.text ≡ Some e
      → body_completes number_of_innermost home i.text before ≡ true
      → slice_get (known_at last before).entities e ≡ Some x → x.region ≡ None → Kept last (completes i s ∷ before)
  unfolding behind
  completes-there e x found complete there none =
      let q = known-completed i s (table_at last before) e found in
      let numbers = first_again-numbers (known_at last before).opened (map (here_at last) (around before)) k.regions.opened in
      let stays : StaysHere last (completes i s) before =
      record { around = refl; numbers = ap (λ y. numbers_of y.opened) q ∙ numbers; regions = ap (λ y. y.regions) q } in
      let never : (region : ℕ) (name : List ℕ) → declares_name number_of_innermost region name (completes i s) before ≡ false =
      λ region name. names-outside true complete region name ∙ none-named (bytes_eq i.text name) (eqb home region) in
      record {
        regions = here-regions last (completes i s) before settled stays k.regions;
        bindings =
            bindings-stay last (completes i s) before before k.bindings (here-together last (completes i s) before settled stays) (ap (λ y. y.bindings) q)
            (said-same last (completes i s) before never (λ region name. refl));
        entities = entities-stay last (completes i s) before k.entities (ap (λ y. y.entities) q) never;
        bodies =
            bodies-more last (completes i s) before e k.bodies (ap (λ y. y.bodies) q) (ap (λ y. y.entities) q)
            (slice_get_within (known_at last before).entities e x there)
            (λ region r. absurd (none-some region (sym none ∙ (ap (λ y. and_then y (λ (z : Entity). z.region)) (sym there) ∙ r))));
        contexts = contexts-stay last (completes i s) before k.contexts (ap (λ y. y.contexts) q) (not_package _ refl);
        priority = ap (λ y. y.priority) q ∙ k.priority;
      }
    where
      none-named : (named there : Bool) → (named && (there && false)) ≡ false
      none-named true true = refl
      none-named true false = refl
      none-named false there = refl

  -- it declares
  completes-anew : completed_in (table_at last before) (outer (table_at last before)).region i.text ≡ None
      → body_completes number_of_innermost home i.text before ≡ false → Kept last (completes i s ∷ before)
  unfolding behind
  completes-anew found complete =
      let d = known-body_declared i s (table_at last before) found in
      let q = d.2 in
      let numbers = first_again-numbers (known_at last before).opened (map (here_at last) (around before)) k.regions.opened in
      declared-more last i (completes i s) beyond.0 before d.0 (innermost (outside (known_at last before).opened)).exports settled
      (record { around = refl; numbers = ap (λ y. numbers_of y.opened) q ∙ numbers; regions = ap (λ y. y.regions) q }) k
      (record {
        stands = beyond.1.stands;
        declared = d.1;
        entities = ap (λ y. y.entities) q;
        bodies = ap (λ y. y.bodies) q;
        contexts = ap (λ y. y.contexts) q;
        priority = ap (λ y. y.priority) q;
        declares = λ region name. names-outside false complete region name ∙ also-true (bytes_eq i.text name) (eqb home region);
        hides = λ region name. refl;
        no_package = not_package _ refl;
      })
      (ap (λ y. y.bindings) q
      ∙ ap (λ r. bound_in r
      (record {
        name = i.text;
        entity = Some (length (known_at last before).entities);
        exported = (innermost (outside (known_at last before).opened)).exports;
      })
      (known_at last before).bindings)
      (sym beyond.1.table))
    where
      also-true : (named there : Bool) → (named && (there && true)) ≡ (named && there)
      also-true true true = refl
      also-true true false = refl
      also-true false there = refl

  completed-as : (e : Option ℕ) → joined (said last home i.text before) ≡ e
      → completed_in (table_at last before) (outer (table_at last before)).region i.text
      ≡ and_then e (λ x. cond (is_specified (table_at last before) x) (Some x) None)
  unfolding completed_in
  completed-as e q = ap (λ y. and_then y (λ x. cond (is_specified (table_at last before) x) (Some x) None)) (outer-bound ∙ q)

  declared-there : (o : Occurrence) (b : Before) → declaration number_of_innermost home i.text before ≡ Some (o ∷ b) → (t : Bool) → is_subprogram o ≡ t
      → Kept last (completes i s ∷ before)
  declared-there o b e t is =
      let f = found-nearest last home i.text before o b k e in
      let x = f.there in
      let specified : is_specified (table_at last before) (length (known_at last b).entities) ≡ t =
      ap (λ y. is_some (and_then (option_map (λ (z : Entity). z.kind) y) specified_number)) x.1 ∙ (x.2.subprogram ∙ is) in
      let table =
      completed-as (Some (length (known_at last b).entities)) f.bound ∙ ap (λ u. cond u (Some (length (known_at last b).entities)) None) specified in
      let position : body_completes number_of_innermost home i.text before ≡ t = completes-agree home i.text before ∙ (ap starts_as_subprogram e ∙ is) in
      go t is table position x
    where
      go : (t : Bool) → is_subprogram o ≡ t
          → completed_in (table_at last before) (outer (table_at last before)).region i.text ≡ cond t (Some (length (known_at last b).entities)) None
          → body_completes number_of_innermost home i.text before ≡ t → EntityThere last o b (known_at last before).entities
          → Kept last (completes i s ∷ before)
      go true is table position x =
          completes-there (length (known_at last b).entities) x.0 table position x.1
          (x.2.region ∙ ap (λ r. region_given r (known_at last b).regions) (no_region-subprogram o is))
      go false is table position x = completes-anew table position

  kept-completes : Kept last (completes i s ∷ before)
  kept-completes = go (declaration number_of_innermost home i.text before) refl
    where
      hidden-none : (h : Option Before) → joined (said_by last None h) ≡ None
      hidden-none None = refl
      hidden-none (Some h) = refl

      go : (d : Option Before) → declaration number_of_innermost home i.text before ≡ d → Kept last (completes i s ∷ before)
      go None e = completes-anew
          (completed-as None
          (ap (λ d. joined (said_by last d (nearest (hides_name number_of_innermost home i.text) before))) e
          ∙ hidden-none (nearest (hides_name number_of_innermost home i.text) before)))
          (completes-agree home i.text before ∙ ap starts_as_subprogram e)
      go (Some []) e = absurd (no_start (declares_name number_of_innermost home i.text) before e)
      go (Some (o ∷ b)) e = declared-there o b e (is_subprogram o) refl

  -- it completes one or it declares, by the table and by position
  abbrev pub Completing : Type 0
  Completing =
      ((e : ℕ) × (completed_in (table_at last before) (outer (table_at last before)).region i.text ≡ Some e)
      × (body_completes number_of_innermost home i.text before ≡ true))
      ⊎ ((completed_in (table_at last before) (outer (table_at last before)).region i.text ≡ None)
      × (body_completes number_of_innermost home i.text before ≡ false))

  completing-there : (o : Occurrence) (b : Before) → declaration number_of_innermost home i.text before ≡ Some (o ∷ b) → (t : Bool) → is_subprogram o ≡ t
      → Completing
  completing-there o b e t is =
      let f = found-nearest last home i.text before o b k e in
      let x = f.there in
      let specified : is_specified (table_at last before) (length (known_at last b).entities) ≡ t =
      ap (λ y. is_some (and_then (option_map (λ (z : Entity). z.kind) y) specified_number)) x.1 ∙ (x.2.subprogram ∙ is) in
      let table =
      completed-as (Some (length (known_at last b).entities)) f.bound ∙ ap (λ u. cond u (Some (length (known_at last b).entities)) None) specified in
      let position : body_completes number_of_innermost home i.text before ≡ t = completes-agree home i.text before ∙ (ap starts_as_subprogram e ∙ is) in
      go t table position
    where
      go : (t : Bool)
          → completed_in (table_at last before) (outer (table_at last before)).region i.text ≡ cond t (Some (length (known_at last b).entities)) None
          → body_completes number_of_innermost home i.text before ≡ t → Completing
      go true table position = inl (length (known_at last b).entities, table, position)
      go false table position = inr (table, position)

  pub completed-cases : Completing
  completed-cases = go (declaration number_of_innermost home i.text before) refl
    where
      unnamed : (h : Option Before) → joined (said_by last None h) ≡ None
      unnamed None = refl
      unnamed (Some h) = refl

      go : (d : Option Before) → declaration number_of_innermost home i.text before ≡ d → Completing
      go None e = inr (
        completed-as None
            (ap (λ d. joined (said_by last d (nearest (hides_name number_of_innermost home i.text) before))) e
            ∙ unnamed (nearest (hides_name number_of_innermost home i.text) before)),
        completes-agree home i.text before ∙ ap starts_as_subprogram e,
      )
      go (Some []) e = absurd (no_start (declares_name number_of_innermost home i.text) before e)
      go (Some (o ∷ b)) e = completing-there o b e (is_subprogram o) refl

-- ---- all occurrences

kept-region : (last : ℕ) (r : Region) (before : Before) → BeginsAlone r → completes_if_body (begins r) before ≡ true → IsText before → begins_next before ≡ None
    → Kept last before → Kept last (begins r ∷ before)
kept-region last (the_context_of i) before alone complete t settled k = kept-context_of last i before t settled k
kept-region last (package_region i) before alone complete t settled k = absurd alone
kept-region last (package_body i) before alone complete t settled k = kept-package_body last i before t settled k
kept-region last (a_unit i) before alone complete t settled k = absurd alone
kept-region last (task_body i place) before alone complete t settled k =
    kept-unit_body last unit.Task i (task_body i place) before t settled k complete tt refl (task-opens last i place before) (not_package _ refl)
kept-region last (protected_body i) before alone complete t settled k =
    kept-unit_body last unit.Protected i (protected_body i) before t settled k complete tt refl (protected-opens last i before) (not_package _ refl)
kept-region last (a_record i) before alone complete t settled k = absurd alone
kept-region last the_context before alone complete t settled k = kept-own last the_context before tt settled k
kept-region last further_context before alone complete t settled k = kept-own last further_context before tt settled k
kept-region last (main_body i place) before alone complete t settled k = kept-own last (main_body i place) before tt settled k
kept-region last a_profile before alone complete t settled k = kept-own last a_profile before tt settled k
kept-region last (subprogram_body place is_function) before alone complete t settled k = kept-own last (subprogram_body place is_function) before tt settled k
kept-region last (entry_body i place barrier) before alone complete t settled k = kept-own last (entry_body i place barrier) before tt settled k
kept-region last (an_accept i place) before alone complete t settled k = kept-own last (an_accept i place) before tt settled k
kept-region last (a_block label place) before alone complete t settled k = kept-own last (a_block label place) before tt settled k
kept-region last (a_loop label) before alone complete t settled k = kept-own last (a_loop label) before tt settled k

kept-settled : (last : ℕ) (o : Occurrence) (before : Before) → FitsBehind None o → FitsHere o before → completes_if_body o before ≡ true → IsText before
    → begins_next before ≡ None → Kept last before → Kept last (o ∷ before)
unfolding behind
kept-settled last (begins r) before behind-it here complete t settled k = kept-region last r before behind-it complete t settled k
kept-settled last ends before behind-it here complete t settled k =
    let e = known-ended (table_at last before) in
    nothing-ended last ends before settled here (sym (outside-behind before)) refl (ap (λ x. x.opened) e) (ap (λ x. x.regions) e) k
    (record {
      bindings = refl;
      entities = refl;
      bodies = refl;
      contexts = refl;
      priority = refl;
      declares = λ region name. refl;
      hides = λ region name. refl;
      no_package = not_package _ refl;
    })
kept-settled last private_from_here before behind-it here complete t settled k =
    quiet-here last private_from_here before settled k _ (known-made_private (table_at last before))
    (no_more-numbers (known_at last before).opened (map (here_at last) (around before)) k.regions.opened) refl refl
    (λ region name. refl) (λ region name. refl) (not_package _ refl)
kept-settled last (hides i) before behind-it here complete t settled k = kept-hides last i before settled k
kept-settled last (heads i) before behind-it here complete t settled k = kept-heads last i before settled k
kept-settled last (declares i what) before behind-it here complete t settled k = kept-declares last i what before here settled k
kept-settled last (declares_unit i what) before behind-it here complete t settled k = kept-library_unit last i what before here settled k
kept-settled last (completes i s) before behind-it here complete t settled k = kept-completes last i s before settled k
kept-settled last (is_called i) before behind-it here complete t settled k =
    quiet-here last (is_called i) before settled k _ (known-named_as i (table_at last before))
    (first_again-numbers (known_at last before).opened (map (here_at last) (around before)) k.regions.opened) refl refl
    (λ region name. refl) (λ region name. refl) (not_package _ refl)
kept-settled last (mentions name) before behind-it here complete t settled k =
    quiet last (mentions name) before settled k (known-name_resolved name (table_at last before)) refl refl (λ region n. refl) (λ region n. refl)
    (not_package _ refl)
kept-settled last (mentions_simply i) before behind-it here complete t settled k =
    quiet last (mentions_simply i) before settled k (known-resolved i (table_at last before)) refl refl (λ region n. refl) (λ region n. refl)
    (not_package _ refl)
kept-settled last (mentions_entry i) before behind-it here complete t settled k =
    quiet last (mentions_entry i) before settled k (known-entry_mentioned i (table_at last before)) refl refl (λ region n. refl) (λ region n. refl)
    (not_package _ refl)
kept-settled last (with_unit name) before behind-it here complete t settled k =
    quiet last (with_unit name) before settled k (known-withed name (library_unit (table_at last before) name) (table_at last before)) refl refl
    (λ region n. refl) (λ region n. refl) (not_package _ refl)
kept-settled last (use_package name) before behind-it here complete t settled k =
    quiet last (use_package name) before settled k (known-used name (table_at last before)) refl refl (λ region n. refl) (λ region n. refl) (not_package _ refl)

-- a region begins behind its declaration
kept-next : (last : ℕ) (d : Occurrence) (b : Before) (r : Region) → region_behind_it d ≡ Some r → Kept last b → Kept last (d ∷ b) → Kept last (begins r ∷ d ∷ b)
kept-next last (declares i (a_task is_type aspects)) b r e older k =
    subst (λ z. Kept last (begins z ∷ declares i (a_task is_type aspects) ∷ b)) (some-region (a_unit i) r e) (kept-task last i is_type aspects b k)
kept-next last (declares i (a_protected is_type aspects)) b r e older k =
    subst (λ z. Kept last (begins z ∷ declares i (a_protected is_type aspects) ∷ b)) (some-region (a_unit i) r e) (kept-protected last i is_type aspects b k)
kept-next last (declares i (a_derived_type parent)) b r e older k =
    subst (λ z. Kept last (begins z ∷ declares i (a_derived_type parent) ∷ b)) (some-region (a_record i) r e) (kept-derived last i parent b k)
kept-next last (declares_unit i the_package) b r e older k =
    subst (λ z. Kept last (begins z ∷ declares_unit i the_package ∷ b)) (some-region (package_region i) r e) (kept-package last i b older k)
kept-next last _ b r e older k = absurd (none-some r e)

kept-by : (last : ℕ) (o d : Occurrence) (b : Before) → IsText (o ∷ d ∷ b) → completes_if_body o (d ∷ b) ≡ true → Kept last (d ∷ b) → Kept last b
    → (r : Option Region) → region_behind_it d ≡ r → Kept last (o ∷ d ∷ b)
kept-by last o d b t complete k older None e = kept-settled last o (d ∷ b) (subst (λ r. FitsBehind r o) e t.0) t.1 complete t.2 e k
kept-by last o d b t complete k older (Some r) e =
    let begun : o ≡ begins r = subst (λ z. FitsBehind z o) e t.0 in subst (λ z. Kept last (z ∷ d ∷ b)) (sym begun) (kept-next last d b r e older k)

pub kept : (last : ℕ) (before : Before) → IsText before → bodies_complete_before before ≡ true → Kept last before
kept last [] t complete = kept-start last
kept last (o ∷ []) t complete = kept-settled last o [] t.0 t.1 (and_parts _ _ complete).0 tt refl (kept-start last)
kept last (o ∷ d ∷ b) t complete =
    let c = and_parts _ _ complete in
    let k = kept last (d ∷ b) t.2 c.1 in
    let older = kept last b t.2.2 (and_parts _ _ c.1).1 in
    kept-by last o d b t c.0 k older (region_behind_it d) refl
