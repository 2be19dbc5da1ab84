-- What each occurrence changes of the use and with clauses that a table keeps, and of the regions that are open.
use Rattle.std.proofs.Common.{◌≡◌, ℕ, Bool, true, false, cond, List, [], ◌∷◌, Option, Some, None, is_some, refl, sym, ap, subst, ◌∙◌}
use Rattle.ann_base.specs.declared.places.Place.{Place}
use Rattle.ada_tree.specs.declared.names.Identifier.{Identifier}
use Rattle.ada_tree.specs.declared.names.Name.{Name}
use Rattle.ada_tree.specs.declared.declarations.SubprogramSpecification.{SubprogramSpecification}
use Rattle.ada_tree.specs.declared.expressions.Expression.{Expression}
use Rattle.world_tables.specs.Lists.{rest_of}
use Rattle.profile_image.specs.declared.numbers.EntryNo.{EntryNo}
use Rattle.profile_image.specs.declared.numbers.SubprogramNo.{SubprogramNo}
use Rattle.ada_regions.specs.declared.types.AdaType.{AdaType}
use Rattle.ada_regions.specs.declared.types.AdaType.TheVariants as types
use Rattle.ada_regions.specs.declared.entities.Denoted.{Denoted}
use Rattle.ada_regions.specs.declared.entities.Denoted.TheVariants as denotes
use Rattle.ada_regions.specs.declared.entities.EntityKind.{EntityKind}
use Rattle.ada_regions.specs.declared.entities.Sought.{Sought}
use Rattle.ada_regions.specs.declared.entities.Sought.TheVariants as answer
use Rattle.ada_regions.specs.declared.entities.UnitKind.{UnitKind}
use Rattle.ada_regions.specs.declared.entities.UnitKind.TheVariants as unit
use Rattle.ada_regions.specs.declared.table.Binding.{Binding}
use Rattle.ada_regions.specs.declared.table.Enclosure.{Enclosure}
use Rattle.ada_regions.specs.declared.table.Frame.{Frame}
use Rattle.ada_regions.specs.declared.table.PackageContext.{PackageContext}
use Rattle.ada_regions.specs.declared.table.UseClause.{UseClause}
use Rattle.ada_regions.specs.declared.table.Names.{Names}
use Rattle.ada_regions.specs.Words.{and_then}
use Rattle.ada_regions.specs.Names.{noted, innermost_frame, enclosure_of, enclosure_here, region_here}
use Rattle.ada_regions.specs.Names.{scope_in, kind_at, region_of_entity, entity_denoted, denoted_by}
use Rattle.ada_regions.specs.Occurrences.{Occurrence, Declared, Region, the_package, the_main_procedure, an_object, a_component, a_parameter}
use Rattle.ada_regions.specs.Occurrences.{a_loop_parameter, an_enumeration, a_literal, an_array, a_derived_type, a_subtype, an_exception, a_label}
use Rattle.ada_regions.specs.Occurrences.{a_subprogram, an_entry, a_task, a_protected, the_context, the_context_of, further_context, package_region}
use Rattle.ada_regions.specs.Occurrences.{package_body, main_body, a_profile, subprogram_body, a_unit, task_body, protected_body, entry_body}
use Rattle.ada_regions.specs.Occurrences.{an_accept, a_block, a_loop, a_record, begins, ends, private_from_here, hides, heads, declares}
use Rattle.ada_regions.specs.Occurrences.{declares_unit, completes, is_called, mentions, mentions_simply, mentions_entry, with_unit, use_package}
use Rattle.ada_regions.specs.Visibility.{sought, answered, resolved}
use Rattle.ada_regions.specs.SelectedNames.{selected, selection_answered, parts_resolved, name_resolved}
use Rattle.ada_regions.specs.Declaring.{hidden, with_binding, entered, entered_here, entered_as_unit, is_taken, type_of_kind, declared}
use Rattle.ada_regions.specs.Declaring.{object_declared, component_declared, parameter_declared, loop_parameter_declared, enumeration_declared}
use Rattle.ada_regions.specs.Declaring.{literal_declared, array_declared, derived_declared, subtype_declared, exception_declared}
use Rattle.ada_regions.specs.Declaring.{subprogram_declared, entry_declared, unit_entered, task_declared, protected_declared, numbered}
use Rattle.ada_regions.specs.Completions.{specified_number, headed, completed_in, owned, numbered_if, body_of_declared, completed_or_declared, completed}
use Rattle.ada_regions.specs.Completions.{is_unit, has_body, task_scoped, task_numbered, body_of_unit, first_body, later_body, body_here, body_elsewhere}
use Rattle.ada_regions.specs.Completions.{body_sought, body_begun_at, body_begun, body_apart, seen_again, entity_bound, entry_noted, entry_mentioned}
use Rattle.ada_regions.specs.Regions.{scope_begun, context_again, package_opened, package_begun, package_body_begun, with_context}
use Rattle.ada_regions.specs.Regions.{opened_if, unit_begun, record_begun, entry_owner, entry_body_numbered, entry_body_begun}
use Rattle.ada_regions.specs.Regions.{begun, with_scope, next_scope, withed, library_unit, used_if, is_used_package, used}
use Rattle.ada_regions.specs.Numbered.{behind}

pub record Clauses : Type 0 where
  pub uses : List UseClause
  pub withs : List Denoted
  pub frames : List Frame

abbrev pub clauses : Names → Clauses
clauses n = record { uses = n.uses; withs = n.withs; frames = n.frames }

-- ---- names that are used

clauses-answered : (i : Identifier) (s : Sought) (n : Names) → clauses (answered i s n) ≡ clauses n
clauses-answered i (answer.Found d) n = refl
clauses-answered i answer.Unknown n = refl
clauses-answered i answer.Ambiguous n = refl

pub clauses-resolved : (i : Identifier) (n : Names) → clauses (resolved i n) ≡ clauses n
unfolding resolved
clauses-resolved i n = clauses-answered i (sought n i.text) n

pub clauses-selection : (i : Identifier) (d : Option Denoted) (n : Names) → clauses (selection_answered i d n) ≡ clauses n
clauses-selection i None n = refl
clauses-selection i (Some d) n = refl

clauses-parts : (prefix : Option Denoted) (parts : List Identifier) (n : Names) → clauses (parts_resolved prefix parts n) ≡ clauses n
clauses-parts prefix [] n = refl
clauses-parts None (i ∷ rest) n = refl
clauses-parts (Some d) (i ∷ rest) n =
    clauses-parts (selected n i.text d) rest (selection_answered i (selected n i.text d) n) ∙ clauses-selection i (selected n i.text d) n

pub clauses-name_resolved : (name : Name) (n : Names) → clauses (name_resolved name n) ≡ clauses n
unfolding name_resolved
clauses-name_resolved name n = clauses-parts _ name.parts.others (resolved name.parts.first n) ∙ clauses-resolved name.parts.first n

clauses-entry_noted : (e : Option ℕ) (i : Identifier) (n : Names) → clauses (entry_noted e i n) ≡ clauses n
clauses-entry_noted (Some e) i n = refl
clauses-entry_noted None i n = clauses-resolved i n

-- ---- declarations

clauses-hidden : (i : Identifier) (n : Names) → clauses (hidden i n) ≡ clauses n
unfolding hidden
clauses-hidden i n = go _
  where
    go : (b : Bool) → clauses (cond b n (with_binding (enclosure_here n) i.text None n)) ≡ clauses n
    go true = refl
    go false = refl

clauses-headed : (i : Identifier) (n : Names) → clauses (headed i n) ≡ clauses n
unfolding headed
clauses-headed i n = go (is_some (completed_in n (region_here n) i.text))
  where
    go : (b : Bool) → clauses (cond b n (hidden i n)) ≡ clauses n
    go true = refl
    go false = clauses-hidden i n

clauses-entered : (f : Enclosure) (taken : Bool) (i : Identifier) (kind : EntityKind) (region : Option ℕ) (n : Names)
    → clauses (entered f taken i kind region n) ≡ clauses n
unfolding entered
clauses-entered f true i kind region n = refl
clauses-entered f false i kind region n = refl

clauses-here : (i : Identifier) (kind : EntityKind) (region : Option ℕ) (n m last : Names) → last ≡ entered_here i kind region m → clauses m ≡ clauses n
    → clauses last ≡ clauses n
unfolding entered_here
clauses-here i kind region n m last e same = ap clauses e ∙ (clauses-entered (enclosure_here m) (is_taken m (region_here m) i.text) i kind region m ∙ same)

clauses-as_unit : (i : Identifier) (kind : EntityKind) (region : Option ℕ) (n m last : Names) → last ≡ entered_as_unit i kind region m → clauses m ≡ clauses n
    → clauses last ≡ clauses n
unfolding entered_as_unit
clauses-as_unit i kind region n m last e same = ap clauses e ∙ (clauses-entered _ _ i kind region m ∙ same)

clauses-subprogram : (f : Enclosure) (specified : Bool) (scope : ℕ) (i : Identifier) (s : SubprogramSpecification) (n : Names)
    → clauses (subprogram_declared f specified scope i s n) ≡ clauses n
unfolding subprogram_declared
clauses-subprogram f specified scope i s n = clauses-entered f (is_taken n f.region i.text) i _ None _

clauses-declared : (i : Identifier) (what : Declared) (n : Names) → clauses (declared i what n) ≡ clauses n
unfolding declared object_declared component_declared parameter_declared loop_parameter_declared enumeration_declared literal_declared array_declared
    derived_declared subtype_declared exception_declared entry_declared unit_entered task_declared protected_declared numbered
clauses-declared i the_package n = clauses-as_unit i _ _ n _ _ refl refl
clauses-declared i the_main_procedure n = clauses-as_unit i _ _ n _ _ refl refl
clauses-declared i (an_object o) n = clauses-here i _ _ n _ _ refl refl
clauses-declared i (a_component c) n = clauses-here i _ _ n _ _ refl refl
clauses-declared i (a_parameter true q) n = clauses-here i _ _ n _ _ refl refl
clauses-declared i (a_parameter false q) n = clauses-here i _ _ n _ _ refl refl
clauses-declared i a_loop_parameter n = clauses-here i _ _ n _ _ refl refl
clauses-declared i (an_enumeration literals) n = clauses-here i _ _ n _ _ refl refl
clauses-declared i a_literal n = clauses-here i _ _ n _ _ refl refl
clauses-declared i (an_array low high component) n = clauses-here i _ _ n _ _ refl refl
clauses-declared i (a_derived_type parent) n = clauses-here i _ _ n _ _ refl refl
clauses-declared i (a_subtype m) n = clauses-here i _ _ n _ _ refl refl
clauses-declared i an_exception n = clauses-here i _ _ n _ _ refl refl
clauses-declared i a_label n = clauses-here i _ _ n _ _ refl refl
clauses-declared i (a_subprogram s) n = clauses-subprogram (enclosure_here n) true 0 i s n
clauses-declared i (an_entry parameters) n = clauses-here i _ _ n _ _ refl refl
clauses-declared i (a_task true aspects) n = clauses-here i _ _ n _ _ refl refl
clauses-declared i (a_task false aspects) n = clauses-here i _ _ n _ _ refl refl
clauses-declared i (a_protected true aspects) n = clauses-here i _ _ n _ _ refl refl
clauses-declared i (a_protected false aspects) n = clauses-here i _ _ n _ _ refl refl

clauses-numbered_if : (s : SubprogramSpecification) (n : Names) (number : Option SubprogramNo) → clauses (numbered_if s n number) ≡ clauses n
unfolding numbered_if
clauses-numbered_if s n None = refl
clauses-numbered_if s n (Some number) = refl

clauses-completed_or : (f : Enclosure) (e : Option ℕ) (i : Identifier) (s : SubprogramSpecification) (n : Names)
    → clauses (completed_or_declared f e i s n) ≡ clauses n
unfolding completed_or_declared body_of_declared
clauses-completed_or f (Some e) i s n = clauses-numbered_if s n (and_then (kind_at n e) specified_number)
clauses-completed_or f None i s n = clauses-subprogram f false (scope_in n.frames) i s n

-- the innermost region gets an owner
abbrev pub with_owner : Option ℕ → List ℕ → Clauses → Clauses
with_owner e name c = record c { frames = record (innermost_frame c.frames) { owner = e; name = Some name } ∷ rest_of c.frames }

pub clauses-completed : (i : Identifier) (s : SubprogramSpecification) (n : Names)
    → (e : Option ℕ) × (clauses (completed i s n) ≡ with_owner e i.text (clauses n))
unfolding completed owned
clauses-completed i s n = (
  entity_denoted
      (completed_or_declared (enclosure_of (innermost_frame (rest_of n.frames)))
      (completed_in n (enclosure_of (innermost_frame (rest_of n.frames))).region i.text) i s n) i.place,
  ap (with_owner _ i.text)
      (clauses-completed_or (enclosure_of (innermost_frame (rest_of n.frames)))
      (completed_in n (enclosure_of (innermost_frame (rest_of n.frames))).region i.text) i s n),
)

-- ---- regions that begin

-- m has one more region open than n
abbrev pub Opens : Names → Names → Type 0
Opens n m = (f : Frame) × (clauses m ≡ record (clauses n) { frames = f ∷ n.frames })

opens-same : (n p m : Names) → clauses n ≡ clauses p → Opens n m → Opens p m
opens-same n p m e o = (o.0, o.1 ∙ ap (λ (c : Clauses). record c { frames = o.0 ∷ c.frames }) e)

opens-apart : (e : Option ℕ) (i : Identifier) (scope : Option ℕ) (seen : List Binding) (n : Names) → Opens n (body_apart e i scope seen n)
unfolding body_apart
opens-apart e i scope seen n = (_, refl)

opens-entry_body : (place : Place) (e : Option ℕ) (barrier : Expression) (n : Names) (number : Option EntryNo)
    → Opens n (scope_begun place false e None (entry_body_numbered barrier n number))
unfolding scope_begun entry_body_numbered
opens-entry_body place e barrier n None = (_, refl)
opens-entry_body place e barrier n (Some number) = (_, refl)

opens-if : (f : Option Frame) (n : Names) → Opens n (opened_if f n)
opens-if None n = (_, refl)
opens-if (Some f) n = (_, refl)

opens-package : (e : ℕ) (i : Identifier) (exports : Bool) (region : Option ℕ) (n : Names) → Opens n (package_opened e i exports region n)
opens-package e i exports None n = opens-apart None i None [] n
opens-package e i exports (Some region) n = (_, refl)

opens-package_begun : (e : Option ℕ) (i : Identifier) (n : Names) → Opens n (package_begun e i n)
unfolding package_begun
opens-package_begun None i n = opens-apart None i None [] n
opens-package_begun (Some e) i n =
    opens-same (with_context e n) n (package_opened e i true (region_of_entity n e) (with_context e n)) refl
    (opens-package e i true (region_of_entity n e) (with_context e n))

opens-package_body : (e : Option ℕ) (i : Identifier) (n : Names) → Opens n (package_body_begun e i n)
unfolding package_body_begun
opens-package_body None i n = opens-apart None i None [] n
opens-package_body (Some e) i n =
    opens-same (noted i.place (denotes.Entity e) n) n (package_opened e i false (region_of_entity n e) (noted i.place (denotes.Entity e) n)) refl
    (opens-package e i false (region_of_entity n e) (noted i.place (denotes.Entity e) n))

clauses-task_numbered : (t : AdaType) (scope : ℕ) (n : Names) → clauses (task_numbered t scope n) ≡ clauses n
clauses-task_numbered (types.Task u) scope n = refl
clauses-task_numbered _ scope n = refl

clauses-task_scoped : (t : Option AdaType) (scope : Option ℕ) (n : Names) → clauses (task_scoped t scope n) ≡ clauses n
unfolding task_scoped
clauses-task_scoped None scope n = refl
clauses-task_scoped (Some t) None n = refl
clauses-task_scoped (Some t) (Some scope) n = clauses-task_numbered t scope n

opens-body_of_unit : (e region : ℕ) (i : Identifier) (scope : Option ℕ) (n : Names) → Opens n (body_of_unit e region i scope n)
unfolding body_of_unit
opens-body_of_unit e region i scope n = (_, clauses-task_scoped (and_then (kind_at n e) type_of_kind) scope _)

opens-first_body : (e : ℕ) (region : Option ℕ) (i : Identifier) (scope : Option ℕ) (n : Names) → Opens n (first_body e region i scope n)
unfolding first_body
opens-first_body e None i scope n = opens-apart None i scope [] n
opens-first_body e (Some region) i scope n = go (has_body n e)
  where
    go : (b : Bool) → Opens n (cond b (body_apart (Some e) i scope (seen_again n region) n) (body_of_unit e region i scope n))
    go true = opens-apart (Some e) i scope (seen_again n region) n
    go false = opens-body_of_unit e region i scope n

opens-later_body : (e : ℕ) (region : Option ℕ) (i : Identifier) (scope : Option ℕ) (n : Names) → Opens n (later_body e region i scope n)
unfolding later_body
opens-later_body e None i scope n = opens-apart None i scope [] n
opens-later_body e (Some region) i scope n = opens-apart (Some e) i scope (seen_again n region) n

opens-body_here : (kind : UnitKind) (e : ℕ) (i : Identifier) (scope : Option ℕ) (n : Names) → Opens n (body_here kind e i scope n)
unfolding body_here
opens-body_here kind e i scope n = go (is_unit kind n e)
  where
    go : (b : Bool) → Opens n (cond b (first_body e (region_of_entity n e) i scope (noted i.place (denotes.Entity e) n)) (body_apart None i scope [] n))
    go true = opens-same (noted i.place (denotes.Entity e) n) n (first_body e (region_of_entity n e) i scope (noted i.place (denotes.Entity e) n)) refl
        (opens-first_body e (region_of_entity n e) i scope (noted i.place (denotes.Entity e) n))
    go false = opens-apart None i scope [] n

opens-body_elsewhere : (kind : UnitKind) (e : Option ℕ) (i : Identifier) (scope : Option ℕ) (n : Names) → Opens n (body_elsewhere kind e i scope n)
unfolding body_elsewhere
opens-body_elsewhere kind None i scope n = opens-apart None i scope [] n
opens-body_elsewhere kind (Some e) i scope n = go (is_unit kind n e)
  where
    go : (b : Bool) → Opens n (cond b (later_body e (region_of_entity n e) i scope n) (body_apart None i scope [] n))
    go true = opens-later_body e (region_of_entity n e) i scope n
    go false = opens-apart None i scope [] n

opens-body_begun : (kind : UnitKind) (i : Identifier) (scope : Option ℕ) (n : Names) → Opens n (body_begun kind i scope n)
unfolding body_begun body_sought
opens-body_begun kind i scope n = go (entity_bound n (region_here n) i.text)
  where
    go : (e : Option ℕ) → Opens n (body_begun_at kind e i scope n)
    go (Some e) = opens-body_here kind e i scope n
    go None =
        opens-same (resolved i n) n (body_elsewhere kind (entity_denoted (resolved i n) i.place) i scope (resolved i n)) (clauses-resolved i n)
        (opens-body_elsewhere kind (entity_denoted (resolved i n) i.place) i scope (resolved i n))

-- no context of a library unit
abbrev pub IsInnerRegion : Region → Type 0
IsInnerRegion the_context = ⊥
IsInnerRegion (the_context_of i) = ⊥
IsInnerRegion _ = Unit {0}

pub clauses-begun : (r : Region) (n : Names) → IsInnerRegion r → Opens n (begun r n)
unfolding begun scope_begun entry_body_begun unit_begun record_begun
clauses-begun the_context n inner = absurd inner
clauses-begun (the_context_of i) n inner = absurd inner
clauses-begun further_context n inner = (_, refl)
clauses-begun (package_region i) n inner = opens-package_begun _ i n
clauses-begun (package_body i) n inner = opens-package_body _ i n
clauses-begun (main_body i place) n inner = (_, refl)
clauses-begun a_profile n inner = (_, refl)
clauses-begun (subprogram_body place is_function) n inner = (_, refl)
clauses-begun (a_unit i) n inner = opens-if _ n
clauses-begun (task_body i place) n inner =
    opens-same (with_scope place false false n) n (body_begun unit.Task i (next_scope n) (with_scope place false false n)) refl
    (opens-body_begun unit.Task i (next_scope n) (with_scope place false false n))
clauses-begun (protected_body i) n inner = opens-body_begun unit.Protected i None n
clauses-begun (entry_body i place barrier) n inner = opens-entry_body place (entry_owner n (entity_denoted n i.place)) barrier n _
clauses-begun (an_accept i place) n inner = (_, refl)
clauses-begun (a_block label place) n inner = (_, refl)
clauses-begun (a_loop label) n inner = (_, refl)
clauses-begun (a_record i) n inner = opens-if _ n

-- with these with clauses
abbrev pub OpensWith : List Denoted → Names → Names → Type 0
OpensWith withs n m = (f : Frame) × (clauses m ≡ record { uses = n.uses; withs = withs; frames = f ∷ n.frames })

abbrev pub withs_of : Option PackageContext → List Denoted
withs_of None = []
withs_of (Some c) = c.withs

pub clauses-context : (n : Names) → OpensWith [] n (begun the_context n)
unfolding begun
clauses-context n = (_, refl)

pub clauses-context_again : (c : Option PackageContext) (n : Names) → OpensWith (withs_of c) n (context_again c n)
unfolding context_again
clauses-context_again None n = (_, refl)
clauses-context_again (Some c) n = (_, refl)

-- ---- what is kept behind each occurrence

-- with clauses
abbrev pub IsCalm : Occurrence → Type 0
IsCalm (begins r) = IsInnerRegion r
IsCalm (with_unit name) = ⊥
IsCalm _ = Unit {0}

clauses-used_if : (d : Option Denoted) (n : Names) → ((used_if d n).withs ≡ n.withs) × ((used_if d n).frames ≡ n.frames)
clauses-used_if None n = (refl, refl)
clauses-used_if (Some d) n = go (is_used_package n d) _ refl refl
  where
    go : (b : Bool) (m : Names) → m.withs ≡ n.withs → m.frames ≡ n.frames → ((cond b m n).withs ≡ n.withs) × ((cond b m n).frames ≡ n.frames)
    go true m w f = (w, f)
    go false m w f = (refl, refl)

pub withs-behind : (o : Occurrence) (n : Names) → IsCalm o → (behind o n).withs ≡ n.withs
unfolding behind entry_mentioned used
withs-behind (begins r) n calm = ap (λ c. c.withs) (clauses-begun r n calm).1
withs-behind ends n calm = refl
withs-behind private_from_here n calm = refl
withs-behind (hides i) n calm = ap (λ c. c.withs) (clauses-hidden i n)
withs-behind (heads i) n calm = ap (λ c. c.withs) (clauses-headed i n)
withs-behind (declares i what) n calm = ap (λ c. c.withs) (clauses-declared i what n)
withs-behind (declares_unit i what) n calm = ap (λ c. c.withs) (clauses-declared i what n)
withs-behind (completes i s) n calm = ap (λ c. c.withs) (clauses-completed i s n).1
withs-behind (is_called i) n calm = refl
withs-behind (mentions name) n calm = ap (λ c. c.withs) (clauses-name_resolved name n)
withs-behind (mentions_simply i) n calm = ap (λ c. c.withs) (clauses-resolved i n)
withs-behind (mentions_entry i) n calm = ap (λ c. c.withs) (clauses-entry_noted (entity_bound n (region_here n) i.text) i n)
withs-behind (with_unit name) n calm = absurd calm
withs-behind (use_package name) n calm =
    (clauses-used_if (denoted_by (name_resolved name n) name) (name_resolved name n)).0 ∙ ap (λ c. c.withs) (clauses-name_resolved name n)

-- use clauses
abbrev pub IsNoUse : Occurrence → Type 0
IsNoUse (use_package name) = ⊥
IsNoUse _ = Unit {0}

clauses-withed : (name : Name) (d : Option Denoted) (n : Names) → ((withed name d n).uses ≡ n.uses) × ((withed name d n).frames ≡ n.frames)
unfolding withed
clauses-withed name None n = (refl, refl)
clauses-withed name (Some d) n = (refl, refl)

uses-begun : (r : Region) (n : Names) → (begun r n).uses ≡ n.uses
unfolding begun
uses-begun the_context n = ap (λ c. c.uses) (clauses-context n).1
uses-begun (the_context_of i) n = ap (λ c. c.uses) (clauses-context_again _ n).1
uses-begun further_context n = ap (λ c. c.uses) (clauses-begun further_context n tt).1
uses-begun (package_region i) n = ap (λ c. c.uses) (clauses-begun (package_region i) n tt).1
uses-begun (package_body i) n = ap (λ c. c.uses) (clauses-begun (package_body i) n tt).1
uses-begun (main_body i place) n = ap (λ c. c.uses) (clauses-begun (main_body i place) n tt).1
uses-begun a_profile n = ap (λ c. c.uses) (clauses-begun a_profile n tt).1
uses-begun (subprogram_body place is_function) n = ap (λ c. c.uses) (clauses-begun (subprogram_body place is_function) n tt).1
uses-begun (a_unit i) n = ap (λ c. c.uses) (clauses-begun (a_unit i) n tt).1
uses-begun (task_body i place) n = ap (λ c. c.uses) (clauses-begun (task_body i place) n tt).1
uses-begun (protected_body i) n = ap (λ c. c.uses) (clauses-begun (protected_body i) n tt).1
uses-begun (entry_body i place barrier) n = ap (λ c. c.uses) (clauses-begun (entry_body i place barrier) n tt).1
uses-begun (an_accept i place) n = ap (λ c. c.uses) (clauses-begun (an_accept i place) n tt).1
uses-begun (a_block label place) n = ap (λ c. c.uses) (clauses-begun (a_block label place) n tt).1
uses-begun (a_loop label) n = ap (λ c. c.uses) (clauses-begun (a_loop label) n tt).1
uses-begun (a_record i) n = ap (λ c. c.uses) (clauses-begun (a_record i) n tt).1

pub uses-behind : (o : Occurrence) (n : Names) → IsNoUse o → (behind o n).uses ≡ n.uses
unfolding behind entry_mentioned
uses-behind (begins r) n no_use = uses-begun r n
uses-behind ends n no_use = refl
uses-behind private_from_here n no_use = refl
uses-behind (hides i) n no_use = ap (λ c. c.uses) (clauses-hidden i n)
uses-behind (heads i) n no_use = ap (λ c. c.uses) (clauses-headed i n)
uses-behind (declares i what) n no_use = ap (λ c. c.uses) (clauses-declared i what n)
uses-behind (declares_unit i what) n no_use = ap (λ c. c.uses) (clauses-declared i what n)
uses-behind (completes i s) n no_use = ap (λ c. c.uses) (clauses-completed i s n).1
uses-behind (is_called i) n no_use = refl
uses-behind (mentions name) n no_use = ap (λ c. c.uses) (clauses-name_resolved name n)
uses-behind (mentions_simply i) n no_use = ap (λ c. c.uses) (clauses-resolved i n)
uses-behind (mentions_entry i) n no_use = ap (λ c. c.uses) (clauses-entry_noted (entity_bound n (region_here n) i.text) i n)
uses-behind (with_unit name) n no_use = (clauses-withed name (library_unit n name) n).0
uses-behind (use_package name) n no_use = absurd no_use

-- ---- open regions with an owner are not that of Standard

abbrev pub Unowned : List Frame → Type 0
Unowned [] = Unit {0}
Unowned (f ∷ fs) = (is_some f.owner ≡ true → f.region ≡ 0 → ⊥) × Unowned fs

-- the region that begins, or whose body completes, is not that of Standard
abbrev pub RegionApart : Occurrence → Names → Type 0
RegionApart (begins r) n = region_here (behind (begins r) n) ≡ 0 → ⊥
RegionApart (completes i s) n = region_here n ≡ 0 → ⊥
RegionApart _ n = Unit {0}

unowned-outside : (fs : List Frame) → Unowned fs → Unowned (rest_of fs)
unowned-outside [] u = tt
unowned-outside (f ∷ fs) u = u.1

unowned-private : (fs : List Frame) → Unowned fs → Unowned (record (innermost_frame fs) { exports = false } ∷ rest_of fs)
unowned-private [] u = ((λ e q. cc), tt)
unowned-private (f ∷ fs) u = u

unowned-called : (name : List ℕ) (fs : List Frame) → Unowned fs → Unowned (record (innermost_frame fs) { name = Some name } ∷ rest_of fs)
unowned-called name [] u = ((λ e q. cc), tt)
unowned-called name (f ∷ fs) u = u

unowned-owned : (e : Option ℕ) (name : List ℕ) (fs : List Frame) → ((innermost_frame fs).region ≡ 0 → ⊥) → Unowned fs
    → Unowned (record (innermost_frame fs) { owner = e; name = Some name } ∷ rest_of fs)
unowned-owned e name [] other u = ((λ q r. other r), tt)
unowned-owned e name (f ∷ fs) other u = ((λ q r. other r), u.1)

unowned-as : (fs gs : List Frame) → gs ≡ fs → Unowned fs → Unowned gs
unowned-as fs gs e u = subst Unowned (sym e) u

unowned-begun : (n m : Names) → (f : Frame) × (m.frames ≡ f ∷ n.frames) → (region_here m ≡ 0 → ⊥) → Unowned n.frames → Unowned m.frames
unowned-begun n m o other u = unowned-as (o.0 ∷ n.frames) m.frames o.1 ((λ q r. other (ap (λ fs. (innermost_frame fs).region) o.1 ∙ r)), u)

frames-begun : (r : Region) (n : Names) → (f : Frame) × ((begun r n).frames ≡ f ∷ n.frames)
unfolding begun
frames-begun the_context n = (_, ap (λ c. c.frames) (clauses-context n).1)
frames-begun (the_context_of i) n = (_, ap (λ c. c.frames) (clauses-context_again _ n).1)
frames-begun further_context n = (_, ap (λ c. c.frames) (clauses-begun further_context n tt).1)
frames-begun (package_region i) n = (_, ap (λ c. c.frames) (clauses-begun (package_region i) n tt).1)
frames-begun (package_body i) n = (_, ap (λ c. c.frames) (clauses-begun (package_body i) n tt).1)
frames-begun (main_body i place) n = (_, ap (λ c. c.frames) (clauses-begun (main_body i place) n tt).1)
frames-begun a_profile n = (_, ap (λ c. c.frames) (clauses-begun a_profile n tt).1)
frames-begun (subprogram_body place is_function) n = (_, ap (λ c. c.frames) (clauses-begun (subprogram_body place is_function) n tt).1)
frames-begun (a_unit i) n = (_, ap (λ c. c.frames) (clauses-begun (a_unit i) n tt).1)
frames-begun (task_body i place) n = (_, ap (λ c. c.frames) (clauses-begun (task_body i place) n tt).1)
frames-begun (protected_body i) n = (_, ap (λ c. c.frames) (clauses-begun (protected_body i) n tt).1)
frames-begun (entry_body i place barrier) n = (_, ap (λ c. c.frames) (clauses-begun (entry_body i place barrier) n tt).1)
frames-begun (an_accept i place) n = (_, ap (λ c. c.frames) (clauses-begun (an_accept i place) n tt).1)
frames-begun (a_block label place) n = (_, ap (λ c. c.frames) (clauses-begun (a_block label place) n tt).1)
frames-begun (a_loop label) n = (_, ap (λ c. c.frames) (clauses-begun (a_loop label) n tt).1)
frames-begun (a_record i) n = (_, ap (λ c. c.frames) (clauses-begun (a_record i) n tt).1)

pub unowned-behind : (o : Occurrence) (n : Names) → RegionApart o n → Unowned n.frames → Unowned (behind o n).frames
unfolding behind entry_mentioned used
unowned-behind (begins r) n other u = unowned-begun n (begun r n) (frames-begun r n) other u
unowned-behind ends n other u = unowned-outside n.frames u
unowned-behind private_from_here n other u = unowned-private n.frames u
unowned-behind (hides i) n other u = unowned-as n.frames _ (ap (λ c. c.frames) (clauses-hidden i n)) u
unowned-behind (heads i) n other u = unowned-as n.frames _ (ap (λ c. c.frames) (clauses-headed i n)) u
unowned-behind (declares i what) n other u = unowned-as n.frames _ (ap (λ c. c.frames) (clauses-declared i what n)) u
unowned-behind (declares_unit i what) n other u = unowned-as n.frames _ (ap (λ c. c.frames) (clauses-declared i what n)) u
unowned-behind (completes i s) n other u =
    unowned-as _ _ (ap (λ c. c.frames) (clauses-completed i s n).1) (unowned-owned (clauses-completed i s n).0 i.text n.frames other u)
unowned-behind (is_called i) n other u = unowned-called i.text n.frames u
unowned-behind (mentions name) n other u = unowned-as n.frames _ (ap (λ c. c.frames) (clauses-name_resolved name n)) u
unowned-behind (mentions_simply i) n other u = unowned-as n.frames _ (ap (λ c. c.frames) (clauses-resolved i n)) u
unowned-behind (mentions_entry i) n other u = unowned-as n.frames _ (ap (λ c. c.frames) (clauses-entry_noted (entity_bound n (region_here n) i.text) i n)) u
unowned-behind (with_unit name) n other u = unowned-as n.frames _ (clauses-withed name (library_unit n name) n).1 u
unowned-behind (use_package name) n other u =
    unowned-as n.frames _
    ((clauses-used_if (denoted_by (name_resolved name n) name) (name_resolved name n)).1 ∙ ap (λ c. c.frames) (clauses-name_resolved name n)) u
