-- What the table keeps of the name at a place changes with the occurrences that have a name at this place, and with no others.
use Rattle.std.proofs.Common.{◌≡◌, ℕ, Bool, true, false, cond, ◌&&◌, ◌||◌, List, [], ◌∷◌, length}
use Rattle.std.proofs.Common.{map, Option, Some, None, is_some, eqb, refl, sym, ap, ◌∙◌, eqb-true}
use borrow.Author.Tests.{eqb-false}
use Rattle.world_tables.specs.Tables.{item_at, put, with_item}
use Rattle.source_laws.proofs.Names.TableLemmas.{item_at-put, item_at-put-other, item_at-with_item, item_at-with_item-other}
use Rattle.ann_base.specs.declared.places.Place.{Place}
use Rattle.ada_tree.specs.declared.names.Identifier.{Identifier}
use Rattle.ada_tree.specs.declared.names.Name.{Name}
use Rattle.ada_tree.specs.declared.declarations.SubprogramSpecification.{SubprogramSpecification}
use Rattle.ada_tree.specs.declared.expressions.Expression.{Expression}
use Rattle.profile_image.specs.declared.numbers.EntryNo.{EntryNo}
use Rattle.profile_image.specs.declared.numbers.SubprogramNo.{SubprogramNo}
use Rattle.ada_regions.specs.declared.types.AdaType.{AdaType}
use Rattle.ada_regions.specs.declared.types.AdaType.TheVariants as types
use Rattle.ada_regions.specs.declared.entities.Denoted.{Denoted}
use Rattle.ada_regions.specs.declared.entities.Denoted.TheVariants as denotes
use Rattle.ada_regions.specs.declared.entities.EntityKind.{EntityKind}
use Rattle.ada_regions.specs.declared.entities.Sought.{Sought}
use Rattle.ada_regions.specs.declared.entities.Sought.TheVariants as answer
use Rattle.ada_regions.specs.declared.entities.UnitKind.{UnitKind}
use Rattle.ada_regions.specs.declared.entities.UnitKind.TheVariants as unit
use Rattle.ada_regions.specs.declared.table.Binding.{Binding}
use Rattle.ada_regions.specs.declared.table.Enclosure.{Enclosure}
use Rattle.ada_regions.specs.declared.table.Frame.{Frame}
use Rattle.ada_regions.specs.declared.table.PackageContext.{PackageContext}
use Rattle.ada_regions.specs.declared.table.Names.{Names}
use Rattle.ada_regions.specs.Words.{and_then, same_place}
use Rattle.ada_regions.specs.Names.{Denotations, noted, noted_among, noted_in, denoted_in, denoted_at, last_part}
use Rattle.ada_regions.specs.Names.{enclosure_here, region_here, scope_in, kind_at, region_of_entity, entity_denoted}
use Rattle.ada_regions.specs.Occurrences.{Occurrence, Declared, Region, the_package, the_main_procedure, an_object, a_component, a_parameter}
use Rattle.ada_regions.specs.Occurrences.{a_loop_parameter, an_enumeration, a_literal, an_array, a_derived_type, a_subtype, an_exception, a_label}
use Rattle.ada_regions.specs.Occurrences.{a_subprogram, an_entry, a_task, a_protected, the_context, the_context_of, further_context, package_region}
use Rattle.ada_regions.specs.Occurrences.{package_body, main_body, a_profile, subprogram_body, a_unit, task_body, protected_body, entry_body}
use Rattle.ada_regions.specs.Occurrences.{an_accept, a_block, a_loop, a_record, begins, ends, private_from_here, hides, heads, declares}
use Rattle.ada_regions.specs.Occurrences.{declares_unit, completes, is_called, mentions, mentions_simply, mentions_entry, with_unit, use_package}
use Rattle.ada_regions.specs.Visibility.{sought, answered, resolved}
use Rattle.ada_regions.specs.SelectedNames.{selected, selection_answered, parts_resolved, name_resolved}
use Rattle.ada_regions.specs.Declaring.{hidden, with_binding, entered, entered_here, entered_as_unit, is_taken, type_of_kind, declared}
use Rattle.ada_regions.specs.Declaring.{object_declared, component_declared, parameter_declared, loop_parameter_declared, enumeration_declared}
use Rattle.ada_regions.specs.Declaring.{literal_declared, array_declared, derived_declared, subtype_declared, exception_declared}
use Rattle.ada_regions.specs.Declaring.{subprogram_declared, entry_declared, unit_entered, task_declared, protected_declared, numbered}
use Rattle.ada_regions.specs.Completions.{specified_number, headed, completed_in, owned, numbered_if, body_of_declared, completed_or_declared, completed}
use Rattle.ada_regions.specs.Completions.{is_unit, has_body, task_scoped, task_numbered, body_of_unit, first_body, later_body, body_here, body_elsewhere}
use Rattle.ada_regions.specs.Completions.{body_sought, body_begun_at, body_begun, body_apart, seen_again, entity_bound, entry_noted, entry_mentioned}
use Rattle.ada_regions.specs.Regions.{scope_begun, context_again, package_opened, package_begun, package_body_begun, with_context}
use Rattle.ada_regions.specs.Regions.{opened_if, unit_begun, record_begun, entry_owner, entry_body_numbered, entry_body_begun}
use Rattle.ada_regions.specs.Regions.{begun, with_scope, next_scope, withed, library_unit, used_if, is_used_package, used}
use Rattle.ada_regions.specs.Numbered.{behind}
use Rattle.source_laws.specs.Places.{place_of, places_of_parts, places_in, is_among}

-- ---- one place is noted

noted-other : (q p : Place) (d : Denoted) (lines : Denotations) → same_place p q ≡ false → denoted_in (noted_in q d lines) p ≡ denoted_in lines p
unfolding item_at
noted-other q p d lines other = by_line (eqb p.line q.line) refl
  where
    -- on the line of q, in another column
    on_line : p.line ≡ q.line → (p.column ≡ q.column → ⊥) → (x : Option (List (ℕ × Denoted))) → item_at q.line lines ≡ x
        → denoted_in (noted_among x q d lines) p ≡ and_then x (item_at p.column)
    on_line same column None e =
        ap (λ l. and_then (item_at l (put q.line (put q.column d []) lines)) (item_at p.column)) same
        ∙ (ap (λ y. and_then y (item_at p.column)) (item_at-put q.line (put q.column d []) lines) ∙ item_at-put-other p.column q.column d [] column)
    on_line same column (Some columns) e =
        ap (λ l. and_then (item_at l (with_item q.line (put q.column d columns) lines)) (item_at p.column)) same
        ∙ (ap (λ y. and_then y (item_at p.column)) (item_at-with_item q.line (put q.column d columns) columns lines e)
        ∙ item_at-put-other p.column q.column d columns column)

    on_other : (p.line ≡ q.line → ⊥) → (x : Option (List (ℕ × Denoted))) → denoted_in (noted_among x q d lines) p ≡ denoted_in lines p
    on_other line None = ap (λ y. and_then y (item_at p.column)) (item_at-put-other p.line q.line (put q.column d []) lines line)
    on_other line (Some columns) = ap (λ y. and_then y (item_at p.column)) (item_at-with_item-other p.line q.line (put q.column d columns) lines line)

    by_line : (t : Bool) → eqb p.line q.line ≡ t → denoted_in (noted_in q d lines) p ≡ denoted_in lines p
    by_line true e =
        let same : p.line ≡ q.line = eqb-true p.line q.line e in
        let column : eqb p.column q.column ≡ false = ap (λ t. t && eqb p.column q.column) (sym e) ∙ other in
        on_line same (eqb-false p.column q.column column) (item_at q.line lines) refl ∙ ap (λ l. and_then (item_at l lines) (item_at p.column)) (sym same)
    by_line false e = on_other (eqb-false p.line q.line e) (item_at q.line lines)

-- ---- an occurrence leaves what is kept of a place

-- what m keeps of p is what n does
abbrev Same : Place → Names → Names → Type 0
Same p n m = denoted_at m p ≡ denoted_at n p

module _ (p : Place) where
  same-answered : (i : Identifier) (s : Sought) (n : Names) → same_place p i.place ≡ false → Same p n (answered i s n)
  same-answered i (answer.Found d) n other = noted-other i.place p d n.denotations other
  same-answered i answer.Unknown n other = refl
  same-answered i answer.Ambiguous n other = refl

  pub same-resolved : (i : Identifier) (n : Names) → same_place p i.place ≡ false → Same p n (resolved i n)
  unfolding resolved
  same-resolved i n other = same-answered i (sought n i.text) n other

  pub same-selection : (i : Identifier) (d : Option Denoted) (n : Names) → same_place p i.place ≡ false → Same p n (selection_answered i d n)
  same-selection i None n other = refl
  same-selection i (Some d) n other = noted-other i.place p d n.denotations other

  pub both-false : (a b : Bool) → (a || b) ≡ false → (a ≡ false) × (b ≡ false)
  both-false true b e = cc
  both-false false b e = (refl, e)

  pub same-parts : (prefix : Option Denoted) (parts : List Identifier) (n : Names) → is_among p (map place_of parts) ≡ false
      → Same p n (parts_resolved prefix parts n)
  same-parts prefix [] n others = refl
  same-parts None (i ∷ rest) n others = refl
  same-parts (Some d) (i ∷ rest) n others =
      let apart = both-false (same_place p i.place) (is_among p (map place_of rest)) others in
      same-parts (selected n i.text d) rest (selection_answered i (selected n i.text d) n) apart.1 ∙ same-selection i (selected n i.text d) n apart.0

  same-name : (name : Name) (n : Names) → is_among p (places_of_parts name) ≡ false → Same p n (name_resolved name n)
  unfolding name_resolved
  same-name name n others =
      let apart = both-false (same_place p name.parts.first.place) (is_among p (map place_of name.parts.others)) others in
      same-parts _ name.parts.others (resolved name.parts.first n) apart.1 ∙ same-resolved name.parts.first n apart.0

  pub same-used_if : (d : Option Denoted) (n : Names) → Same p n (used_if d n)
  same-used_if None n = refl
  same-used_if (Some d) n = go (is_used_package n d) _ refl
    where
      go : (b : Bool) (m : Names) → Same p n m → Same p n (cond b m n)
      go true m e = e
      go false m e = refl

  same-withed : (name : Name) (d : Option Denoted) (n : Names) → same_place p (last_part name).place ≡ false → Same p n (withed name d n)
  unfolding withed
  same-withed name None n other = refl
  same-withed name (Some d) n other = noted-other (last_part name).place p d n.denotations other

  same-entry_noted : (e : Option ℕ) (i : Identifier) (n : Names) → same_place p i.place ≡ false → Same p n (entry_noted e i n)
  same-entry_noted (Some e) i n other = noted-other i.place p (denotes.Entity e) n.denotations other
  same-entry_noted None i n other = same-resolved i n other

  -- ---- declarations

  same-entered : (f : Enclosure) (taken : Bool) (i : Identifier) (kind : EntityKind) (region : Option ℕ) (n : Names) → same_place p i.place ≡ false
      → Same p n (entered f taken i kind region n)
  unfolding entered
  same-entered f true i kind region n other = noted-other i.place p (denotes.Entity (length n.entities)) n.denotations other
  same-entered f false i kind region n other = noted-other i.place p (denotes.Entity (length n.entities)) n.denotations other

  same-here : (i : Identifier) (kind : EntityKind) (region : Option ℕ) (n m last : Names) → last ≡ entered_here i kind region m → Same p n m
      → same_place p i.place ≡ false → Same p n last
  unfolding entered_here
  same-here i kind region n m last e same other =
      ap (λ z. denoted_at z p) e ∙ (same-entered (enclosure_here m) (is_taken m (region_here m) i.text) i kind region m other ∙ same)

  same-as_unit : (i : Identifier) (kind : EntityKind) (region : Option ℕ) (n m last : Names) → last ≡ entered_as_unit i kind region m → Same p n m
      → same_place p i.place ≡ false → Same p n last
  unfolding entered_as_unit
  same-as_unit i kind region n m last e same other = ap (λ z. denoted_at z p) e ∙ (same-entered _ _ i kind region m other ∙ same)

  same-subprogram : (f : Enclosure) (specified : Bool) (scope : ℕ) (i : Identifier) (s : SubprogramSpecification) (n : Names) → same_place p i.place ≡ false
      → Same p n (subprogram_declared f specified scope i s n)
  unfolding subprogram_declared
  same-subprogram f specified scope i s n other = same-entered f (is_taken n f.region i.text) i _ None _ other

  same-declared : (i : Identifier) (what : Declared) (n : Names) → same_place p i.place ≡ false → Same p n (declared i what n)
  unfolding declared object_declared component_declared parameter_declared loop_parameter_declared enumeration_declared literal_declared array_declared
      derived_declared subtype_declared exception_declared entry_declared unit_entered task_declared protected_declared numbered
  same-declared i the_package n other = same-as_unit i _ _ n _ _ refl refl other
  same-declared i the_main_procedure n other = same-as_unit i _ _ n _ _ refl refl other
  same-declared i (an_object o) n other = same-here i _ _ n _ _ refl refl other
  same-declared i (a_component c) n other = same-here i _ _ n _ _ refl refl other
  same-declared i (a_parameter true q) n other = same-here i _ _ n _ _ refl refl other
  same-declared i (a_parameter false q) n other = same-here i _ _ n _ _ refl refl other
  same-declared i a_loop_parameter n other = same-here i _ _ n _ _ refl refl other
  same-declared i (an_enumeration literals) n other = same-here i _ _ n _ _ refl refl other
  same-declared i a_literal n other = same-here i _ _ n _ _ refl refl other
  same-declared i (an_array low high component) n other = same-here i _ _ n _ _ refl refl other
  same-declared i (a_derived_type parent) n other = same-here i _ _ n _ _ refl refl other
  same-declared i (a_subtype m) n other = same-here i _ _ n _ _ refl refl other
  same-declared i an_exception n other = same-here i _ _ n _ _ refl refl other
  same-declared i a_label n other = same-here i _ _ n _ _ refl refl other
  same-declared i (a_subprogram s) n other = same-subprogram (enclosure_here n) true 0 i s n other
  same-declared i (an_entry parameters) n other = same-here i _ _ n _ _ refl refl other
  same-declared i (a_task true aspects) n other = same-here i _ _ n _ _ refl refl other
  same-declared i (a_task false aspects) n other = same-here i _ _ n _ _ refl refl other
  same-declared i (a_protected true aspects) n other = same-here i _ _ n _ _ refl refl other
  same-declared i (a_protected false aspects) n other = same-here i _ _ n _ _ refl refl other

  same-hidden : (i : Identifier) (n : Names) → Same p n (hidden i n)
  unfolding hidden
  same-hidden i n = go _
    where
      go : (b : Bool) → Same p n (cond b n (with_binding (enclosure_here n) i.text None n))
      go true = refl
      go false = refl

  same-headed : (i : Identifier) (n : Names) → Same p n (headed i n)
  unfolding headed
  same-headed i n = go (is_some (completed_in n (region_here n) i.text))
    where
      go : (b : Bool) → Same p n (cond b n (hidden i n))
      go true = refl
      go false = same-hidden i n

  same-numbered_if : (s : SubprogramSpecification) (n : Names) (number : Option SubprogramNo) → Same p n (numbered_if s n number)
  unfolding numbered_if
  same-numbered_if s n None = refl
  same-numbered_if s n (Some number) = refl

  same-completed_or : (f : Enclosure) (e : Option ℕ) (i : Identifier) (s : SubprogramSpecification) (n : Names) → same_place p i.place ≡ false
      → Same p n (completed_or_declared f e i s n)
  unfolding completed_or_declared body_of_declared
  same-completed_or f (Some e) i s n other =
      noted-other i.place p (denotes.Entity e) (numbered_if s n (and_then (kind_at n e) specified_number)).denotations other
      ∙ same-numbered_if s n (and_then (kind_at n e) specified_number)
  same-completed_or f None i s n other = same-subprogram f false (scope_in n.frames) i s n other

  same-completed : (i : Identifier) (s : SubprogramSpecification) (n : Names) → same_place p i.place ≡ false → Same p n (completed i s n)
  unfolding completed owned
  same-completed i s n other = same-completed_or _ (completed_in n _ i.text) i s n other

  -- ---- beginnings of regions

  same-entry_body : (place : Place) (e : Option ℕ) (barrier : Expression) (n : Names) (number : Option EntryNo)
      → Same p n (scope_begun place false e None (entry_body_numbered barrier n number))
  unfolding scope_begun entry_body_numbered
  same-entry_body place e barrier n None = refl
  same-entry_body place e barrier n (Some number) = refl

  same-opened_if : (f : Option Frame) (n : Names) → Same p n (opened_if f n)
  same-opened_if None n = refl
  same-opened_if (Some f) n = refl

  same-context_again : (c : Option PackageContext) (n : Names) → Same p n (context_again c n)
  unfolding context_again
  same-context_again None n = refl
  same-context_again (Some c) n = refl

  same-package_opened : (e : ℕ) (i : Identifier) (exports : Bool) (region : Option ℕ) (n : Names) → Same p n (package_opened e i exports region n)
  unfolding body_apart
  same-package_opened e i exports None n = refl
  same-package_opened e i exports (Some region) n = refl

  same-package_begun : (e : Option ℕ) (i : Identifier) (n : Names) → Same p n (package_begun e i n)
  unfolding package_begun body_apart
  same-package_begun None i n = refl
  same-package_begun (Some e) i n = same-package_opened e i true (region_of_entity n e) (with_context e n)

  same-package_body : (e : Option ℕ) (i : Identifier) (n : Names) → same_place p i.place ≡ false → Same p n (package_body_begun e i n)
  unfolding package_body_begun body_apart
  same-package_body None i n other = refl
  same-package_body (Some e) i n other =
      same-package_opened e i false (region_of_entity n e) (noted i.place (denotes.Entity e) n) ∙ noted-other i.place p (denotes.Entity e) n.denotations other

  same-task_numbered : (t : AdaType) (scope : ℕ) (n : Names) → Same p n (task_numbered t scope n)
  same-task_numbered (types.Task u) scope n = refl
  same-task_numbered _ scope n = refl

  same-task_scoped : (t : Option AdaType) (scope : Option ℕ) (n : Names) → Same p n (task_scoped t scope n)
  unfolding task_scoped
  same-task_scoped None scope n = refl
  same-task_scoped (Some t) None n = refl
  same-task_scoped (Some t) (Some scope) n = same-task_numbered t scope n

  same-body_of_unit : (e region : ℕ) (i : Identifier) (scope : Option ℕ) (n : Names) → Same p n (body_of_unit e region i scope n)
  unfolding body_of_unit
  same-body_of_unit e region i scope n = same-task_scoped (and_then (kind_at n e) type_of_kind) scope _

  same-apart : (e : Option ℕ) (i : Identifier) (scope : Option ℕ) (seen : List Binding) (n : Names) → Same p n (body_apart e i scope seen n)
  unfolding body_apart
  same-apart e i scope seen n = refl

  same-first_body : (e : ℕ) (region : Option ℕ) (i : Identifier) (scope : Option ℕ) (n : Names) → Same p n (first_body e region i scope n)
  unfolding first_body
  same-first_body e None i scope n = same-apart None i scope [] n
  same-first_body e (Some region) i scope n = go (has_body n e)
    where
      go : (b : Bool) → Same p n (cond b (body_apart (Some e) i scope (seen_again n region) n) (body_of_unit e region i scope n))
      go true = same-apart (Some e) i scope (seen_again n region) n
      go false = same-body_of_unit e region i scope n

  same-later_body : (e : ℕ) (region : Option ℕ) (i : Identifier) (scope : Option ℕ) (n : Names) → Same p n (later_body e region i scope n)
  unfolding later_body
  same-later_body e None i scope n = same-apart None i scope [] n
  same-later_body e (Some region) i scope n = same-apart (Some e) i scope (seen_again n region) n

  same-body_here : (kind : UnitKind) (e : ℕ) (i : Identifier) (scope : Option ℕ) (n : Names) → same_place p i.place ≡ false
      → Same p n (body_here kind e i scope n)
  unfolding body_here
  same-body_here kind e i scope n other = go (is_unit kind n e)
    where
      go : (b : Bool) → Same p n (cond b (first_body e (region_of_entity n e) i scope (noted i.place (denotes.Entity e) n)) (body_apart None i scope [] n))
      go true =
          same-first_body e (region_of_entity n e) i scope (noted i.place (denotes.Entity e) n) ∙ noted-other i.place p (denotes.Entity e) n.denotations other
      go false = same-apart None i scope [] n

  same-body_elsewhere : (kind : UnitKind) (e : Option ℕ) (i : Identifier) (scope : Option ℕ) (n : Names) → Same p n (body_elsewhere kind e i scope n)
  unfolding body_elsewhere
  same-body_elsewhere kind None i scope n = same-apart None i scope [] n
  same-body_elsewhere kind (Some e) i scope n = go (is_unit kind n e)
    where
      go : (b : Bool) → Same p n (cond b (later_body e (region_of_entity n e) i scope n) (body_apart None i scope [] n))
      go true = same-later_body e (region_of_entity n e) i scope n
      go false = same-apart None i scope [] n

  same-body_begun : (kind : UnitKind) (i : Identifier) (scope : Option ℕ) (n : Names) → same_place p i.place ≡ false → Same p n (body_begun kind i scope n)
  unfolding body_begun body_sought
  same-body_begun kind i scope n other = go (entity_bound n (region_here n) i.text)
    where
      go : (e : Option ℕ) → Same p n (body_begun_at kind e i scope n)
      go (Some e) = same-body_here kind e i scope n other
      go None = same-body_elsewhere kind (entity_denoted (resolved i n) i.place) i scope (resolved i n) ∙ same-resolved i n other

  same-begun : (r : Region) (n : Names) → is_among p (places_in (begins r)) ≡ false → Same p n (begun r n)
  unfolding begun scope_begun entry_body_begun unit_begun record_begun
  same-begun the_context n others = refl
  same-begun (the_context_of i) n others = same-context_again _ n
  same-begun further_context n others = refl
  same-begun (package_region i) n others = same-package_begun _ i n
  same-begun (package_body i) n others = same-package_body _ i n (both-false (same_place p i.place) false others).0
  same-begun (main_body i place) n others = refl
  same-begun a_profile n others = refl
  same-begun (subprogram_body place is_function) n others = refl
  same-begun (a_unit i) n others = same-opened_if _ n
  same-begun (task_body i place) n others =
      same-body_begun unit.Task i (next_scope n) (with_scope place false false n) (both-false (same_place p i.place) false others).0
  same-begun (protected_body i) n others = same-body_begun unit.Protected i None n (both-false (same_place p i.place) false others).0
  same-begun (entry_body i place barrier) n others = same-entry_body place (entry_owner n (entity_denoted n i.place)) barrier n _
  same-begun (an_accept i place) n others = refl
  same-begun (a_block label place) n others = refl
  same-begun (a_loop label) n others = refl
  same-begun (a_record i) n others = same-opened_if _ n

  pub same-behind : (o : Occurrence) (n : Names) → is_among p (places_in o) ≡ false → Same p n (behind o n)
  unfolding behind entry_mentioned used
  same-behind (begins r) n others = same-begun r n others
  same-behind ends n others = refl
  same-behind private_from_here n others = refl
  same-behind (hides i) n others = same-hidden i n
  same-behind (heads i) n others = same-headed i n
  same-behind (declares i what) n others = same-declared i what n (both-false (same_place p i.place) false others).0
  same-behind (declares_unit i what) n others = same-declared i what n (both-false (same_place p i.place) false others).0
  same-behind (completes i s) n others = same-completed i s n (both-false (same_place p i.place) false others).0
  same-behind (is_called i) n others = refl
  same-behind (mentions name) n others = same-name name n others
  same-behind (mentions_simply i) n others = same-resolved i n (both-false (same_place p i.place) false others).0
  same-behind (mentions_entry i) n others = same-entry_noted (entity_bound n (region_here n) i.text) i n (both-false (same_place p i.place) false others).0
  same-behind (with_unit name) n others = same-withed name (library_unit n name) n (both-false (same_place p (last_part name).place) false others).0
  same-behind (use_package name) n others = same-used_if _ (name_resolved name n) ∙ same-name name n others
