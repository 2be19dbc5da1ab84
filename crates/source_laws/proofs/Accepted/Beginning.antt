-- The scopes of a table stand in the order of the regions that begin with a scope: each occurrence adds its own.
use Rattle.std.proofs.Common.{◌≡◌, ℕ, Bool, true, false, List, [], ◌∷◌, ◌++◌, map, Option, Some, None, refl, sym, ap, ◌∙◌, append_assoc, append-nil}
use Rattle.std.specs.List.{flat_map}
use Rattle.std.proofs.lemmas.List.{map-append}
use Rattle.ann_base.specs.declared.places.Place.{Place}
use Rattle.ada_tree.specs.declared.names.Identifier.{Identifier}
use Rattle.ada_tree.specs.declared.expressions.Expression.{Expression}
use Rattle.ada_tree.specs.declared.units.Unit.{Unit as Tree}
use Rattle.profile_image.specs.declared.numbers.EntryNo.{EntryNo}
use Rattle.ada_regions.specs.declared.types.AdaType.{AdaType}
use Rattle.ada_regions.specs.declared.types.AdaType.TheVariants as types
use Rattle.ada_regions.specs.declared.entities.Denoted.TheVariants as denotes
use Rattle.ada_regions.specs.declared.entities.UnitKind.{UnitKind}
use Rattle.ada_regions.specs.declared.entities.UnitKind.TheVariants as unit
use Rattle.ada_regions.specs.declared.table.Binding.{Binding}
use Rattle.ada_regions.specs.declared.table.Frame.{Frame}
use Rattle.ada_regions.specs.declared.table.Names.{Names}
use Rattle.ada_regions.specs.declared.table.NumberedScope.{NumberedScope}
use Rattle.ada_regions.specs.declared.table.PackageContext.{PackageContext}
use Rattle.ada_regions.specs.Words.{and_then}
use Rattle.ada_regions.specs.Names.{noted, region_of_entity, region_here, entity_denoted, kind_at}
use Rattle.ada_regions.specs.Occurrences.{Occurrence, Occurrences, Region, the_context, the_context_of, further_context, package_region}
use Rattle.ada_regions.specs.Occurrences.{package_body, main_body, a_profile, subprogram_body, a_unit, task_body, protected_body, entry_body}
use Rattle.ada_regions.specs.Occurrences.{an_accept, a_block, a_loop, a_record, begins, ends, private_from_here, hides, heads, declares}
use Rattle.ada_regions.specs.Occurrences.{declares_unit, completes, is_called, mentions, mentions_simply, mentions_entry, with_unit, use_package}
use Rattle.ada_regions.specs.NamesInUnits.{names_in_unit}
use Rattle.ada_regions.specs.Visibility.{resolved}
use Rattle.ada_regions.specs.Declaring.{type_of_kind}
use Rattle.ada_regions.specs.Completions.{is_unit, has_body, task_numbered, task_scoped, body_of_unit, first_body, later_body, body_here}
use Rattle.ada_regions.specs.Completions.{body_elsewhere, body_sought, body_begun_at, body_begun, body_apart, seen_again, entity_bound}
use Rattle.ada_regions.specs.Regions.{scope_begun, with_scope, next_scope, context_again, package_opened, package_begun}
use Rattle.ada_regions.specs.Regions.{package_body_begun, package_named, with_context, opened_if, unit_begun, record_begun}
use Rattle.ada_regions.specs.Regions.{entry_number, entry_body_numbered, entry_body_begun, entry_owner, begun, library_unit}
use Rattle.ada_regions.specs.Numbered.{behind, behind_all, no_place, nothing_known, last_priority_of, names_of}
use Rattle.source_laws.proofs.Accepted.Numbering.{SameScopes, scopes-resolved, scopes-name_resolved, scopes-entry_mentioned, scopes-withed}
use Rattle.source_laws.proofs.Accepted.Numbering.{scopes-either, scopes-used, scopes-hidden, scopes-headed, scopes-declared, scopes-completed}

-- ---- the places of the scopes

abbrev pub place_of_scope : NumberedScope → Place
place_of_scope s = s.place

abbrev pub places_of : Names → List Place
places_of n = map place_of_scope n.scopes

-- the place of the scope that begins with a region, if one does
abbrev pub place_begun : Region → List Place
place_begun (main_body i place) = place ∷ []
place_begun (subprogram_body place is_function) = place ∷ []
place_begun (task_body i place) = place ∷ []
place_begun (entry_body i place barrier) = place ∷ []
place_begun (an_accept i place) = place ∷ []
place_begun (a_block label place) = place ∷ []
place_begun _ = []

abbrev pub begun_by : Occurrence → List Place
begun_by (begins r) = place_begun r
begun_by _ = []

abbrev Adds : List Place → Names → Names → Type 0
Adds places n m = places_of m ≡ places_of n ++ places

adds-none : (n m : Names) → SameScopes n m → Adds [] n m
adds-none n m same = ap (map place_of_scope) same ∙ sym (append-nil (places_of n))

adds-one : (place : Place) (is_function is_accept : Bool) (n m : Names) → SameScopes (with_scope place is_function is_accept n) m → Adds (place ∷ []) n m
adds-one place is_function is_accept n m same = ap (map place_of_scope) same ∙ map-append place_of_scope n.scopes _

-- ---- bodies of units

scopes-task_numbered : (t : AdaType) (scope : ℕ) (n : Names) → SameScopes n (task_numbered t scope n)
scopes-task_numbered (types.Task u) scope n = refl
scopes-task_numbered _ scope n = refl

scopes-task_scoped : (t : Option AdaType) (scope : Option ℕ) (n : Names) → SameScopes n (task_scoped t scope n)
unfolding task_scoped
scopes-task_scoped None scope n = refl
scopes-task_scoped (Some t) None n = refl
scopes-task_scoped (Some t) (Some scope) n = scopes-task_numbered t scope n

scopes-apart : (e : Option ℕ) (i : Identifier) (scope : Option ℕ) (seen : List Binding) (n : Names) → SameScopes n (body_apart e i scope seen n)
unfolding body_apart
scopes-apart e i scope seen n = refl

scopes-body_of_unit : (e region : ℕ) (i : Identifier) (scope : Option ℕ) (n : Names) → SameScopes n (body_of_unit e region i scope n)
unfolding body_of_unit
scopes-body_of_unit e region i scope n = scopes-task_scoped (and_then (kind_at n e) type_of_kind) scope _

scopes-first : (e : ℕ) (region : Option ℕ) (i : Identifier) (scope : Option ℕ) (n : Names) → SameScopes n (first_body e region i scope n)
unfolding first_body
scopes-first e None i scope n = scopes-apart None i scope [] n
scopes-first e (Some region) i scope n =
    scopes-either (has_body n e) n (body_apart (Some e) i scope (seen_again n region) n) (body_of_unit e region i scope n)
    (scopes-apart (Some e) i scope (seen_again n region) n) (scopes-body_of_unit e region i scope n)

scopes-later : (e : ℕ) (region : Option ℕ) (i : Identifier) (scope : Option ℕ) (n : Names) → SameScopes n (later_body e region i scope n)
unfolding later_body
scopes-later e None i scope n = scopes-apart None i scope [] n
scopes-later e (Some region) i scope n = scopes-apart (Some e) i scope (seen_again n region) n

scopes-here : (kind : UnitKind) (e : ℕ) (i : Identifier) (scope : Option ℕ) (n : Names) → SameScopes n (body_here kind e i scope n)
unfolding body_here
scopes-here kind e i scope n =
    scopes-either (is_unit kind n e) n (first_body e (region_of_entity n e) i scope (noted i.place (denotes.Entity e) n)) (body_apart None i scope [] n)
    (scopes-first e (region_of_entity n e) i scope (noted i.place (denotes.Entity e) n)) (scopes-apart None i scope [] n)

scopes-elsewhere : (kind : UnitKind) (e : Option ℕ) (i : Identifier) (scope : Option ℕ) (n : Names) → SameScopes n (body_elsewhere kind e i scope n)
unfolding body_elsewhere
scopes-elsewhere kind None i scope n = scopes-apart None i scope [] n
scopes-elsewhere kind (Some e) i scope n =
    scopes-either (is_unit kind n e) n (later_body e (region_of_entity n e) i scope n) (body_apart None i scope [] n)
    (scopes-later e (region_of_entity n e) i scope n) (scopes-apart None i scope [] n)

scopes-body : (kind : UnitKind) (i : Identifier) (scope : Option ℕ) (n : Names) → SameScopes n (body_begun kind i scope n)
unfolding body_begun body_sought
scopes-body kind i scope n = go (entity_bound n (region_here n) i.text)
  where
    go : (e : Option ℕ) → SameScopes n (body_begun_at kind e i scope n)
    go (Some e) = scopes-here kind e i scope n
    go None = scopes-elsewhere kind (entity_denoted (resolved i n) i.place) i scope (resolved i n) ∙ scopes-resolved i n

-- ---- the other regions

scopes-opened : (e : ℕ) (i : Identifier) (exports : Bool) (region : Option ℕ) (n : Names) → SameScopes n (package_opened e i exports region n)
scopes-opened e i exports None n = scopes-apart None i None [] n
scopes-opened e i exports (Some region) n = refl

scopes-package : (e : Option ℕ) (i : Identifier) (n : Names) → SameScopes n (package_begun e i n)
unfolding package_begun
scopes-package None i n = scopes-apart None i None [] n
scopes-package (Some e) i n = scopes-opened e i true (region_of_entity n e) (with_context e n)

scopes-package_body : (e : Option ℕ) (i : Identifier) (n : Names) → SameScopes n (package_body_begun e i n)
unfolding package_body_begun
scopes-package_body None i n = scopes-apart None i None [] n
scopes-package_body (Some e) i n = scopes-opened e i false (region_of_entity n e) (noted i.place (denotes.Entity e) n)

scopes-context : (c : Option PackageContext) (n : Names) → SameScopes n (context_again c n)
unfolding context_again
scopes-context None n = refl
scopes-context (Some c) n = refl

scopes-opened_if : (f : Option Frame) (n : Names) → SameScopes n (opened_if f n)
scopes-opened_if None n = refl
scopes-opened_if (Some f) n = refl

scopes-barrier : (barrier : Expression) (n : Names) (number : Option EntryNo) → SameScopes n (entry_body_numbered barrier n number)
unfolding entry_body_numbered
scopes-barrier barrier n None = refl
scopes-barrier barrier n (Some number) = refl

adds-barrier : (e : Option ℕ) (place : Place) (barrier : Expression) (n m : Names) → SameScopes n m → Adds (place ∷ []) n (scope_begun place false e None m)
unfolding scope_begun
adds-barrier e place barrier n m same =
    adds-one place false false m (scope_begun place false e None m) refl ∙ ap (λ ss. map place_of_scope ss ++ place ∷ []) same

adds-region : (r : Region) (n : Names) → Adds (place_begun r) n (begun r n)
unfolding begun scope_begun entry_body_begun unit_begun record_begun
adds-region the_context n = adds-none n (begun the_context n) refl
adds-region (the_context_of i) n = adds-none n (begun (the_context_of i) n) (scopes-context _ n)
adds-region further_context n = adds-none n (begun further_context n) refl
adds-region (package_region i) n = adds-none n (begun (package_region i) n) (scopes-package (entity_denoted n i.place) i n)
adds-region (package_body i) n = adds-none n (begun (package_body i) n) (scopes-package_body (package_named n i.text) i n)
adds-region (main_body i place) n = adds-one place false false n (begun (main_body i place) n) refl
adds-region a_profile n = adds-none n (begun a_profile n) refl
adds-region (subprogram_body place is_function) n = adds-one place is_function false n (begun (subprogram_body place is_function) n) refl
adds-region (a_unit i) n = adds-none n (begun (a_unit i) n) (scopes-opened_if _ n)
adds-region (task_body i place) n =
    adds-one place false false n (begun (task_body i place) n) (scopes-body unit.Task i (next_scope n) (with_scope place false false n))
adds-region (protected_body i) n = adds-none n (begun (protected_body i) n) (scopes-body unit.Protected i None n)
adds-region (entry_body i place barrier) n =
    let owner = entry_owner n (entity_denoted n i.place) in
    let number = and_then owner (λ x. and_then (kind_at n x) entry_number) in
    adds-barrier owner place barrier n (entry_body_numbered barrier n number) (scopes-barrier barrier n number)
adds-region (an_accept i place) n = adds-one place false true n (begun (an_accept i place) n) refl
adds-region (a_block label place) n = adds-one place false false n (begun (a_block label place) n) refl
adds-region (a_loop label) n = adds-none n (begun (a_loop label) n) refl
adds-region (a_record i) n = adds-none n (begun (a_record i) n) (scopes-opened_if _ n)

-- ---- all occurrences

adds-occurrence : (o : Occurrence) (n : Names) → Adds (begun_by o) n (behind o n)
unfolding behind
adds-occurrence (begins r) n = adds-region r n
adds-occurrence ends n = adds-none n (behind ends n) refl
adds-occurrence private_from_here n = adds-none n (behind private_from_here n) refl
adds-occurrence (hides i) n = adds-none n (behind (hides i) n) (scopes-hidden i n)
adds-occurrence (heads i) n = adds-none n (behind (heads i) n) (scopes-headed i n)
adds-occurrence (declares i what) n = adds-none n (behind (declares i what) n) (scopes-declared i what n)
adds-occurrence (declares_unit i what) n = adds-none n (behind (declares_unit i what) n) (scopes-declared i what n)
adds-occurrence (completes i s) n = adds-none n (behind (completes i s) n) (scopes-completed i s n)
adds-occurrence (is_called i) n = adds-none n (behind (is_called i) n) refl
adds-occurrence (mentions name) n = adds-none n (behind (mentions name) n) (scopes-name_resolved name n)
adds-occurrence (mentions_simply i) n = adds-none n (behind (mentions_simply i) n) (scopes-resolved i n)
adds-occurrence (mentions_entry i) n = adds-none n (behind (mentions_entry i) n) (scopes-entry_mentioned i n)
adds-occurrence (with_unit name) n = adds-none n (behind (with_unit name) n) (scopes-withed name (library_unit n name) n)
adds-occurrence (use_package name) n = adds-none n (behind (use_package name) n) (scopes-used name n)

adds-all : (os : Occurrences) (n : Names) → Adds (flat_map begun_by os) n (behind_all os n)
adds-all [] n = sym (append-nil (places_of n))
adds-all (o ∷ os) n =
    adds-all os (behind o n) ∙ ap (λ ps. ps ++ flat_map begun_by os) (adds-occurrence o n) ∙ append_assoc (places_of n) (begun_by o) (flat_map begun_by os)

-- that of the environment stands first
pub places-of_all : (unit : Tree) → places_of (names_of unit) ≡ no_place ∷ flat_map begun_by (names_in_unit unit)
places-of_all unit = adds-all (names_in_unit unit) (nothing_known (last_priority_of unit.pragmas))
