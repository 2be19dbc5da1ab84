-- Names that are used, hidden or declared number no scope.
use Rattle.std.proofs.Common.{◌≡◌, ℕ, Bool, true, false, cond, List, [], ◌∷◌, Option, Some, None, is_some, refl, ap, ◌∙◌}
use Rattle.ada_tree.specs.declared.names.Identifier.{Identifier}
use Rattle.ada_tree.specs.declared.names.Name.{Name}
use Rattle.ada_tree.specs.declared.declarations.SubprogramSpecification.{SubprogramSpecification}
use Rattle.world_tables.specs.Lists.{rest_of}
use Rattle.profile_image.specs.declared.numbers.SubprogramNo.{SubprogramNo}
use Rattle.ada_regions.specs.declared.entities.Denoted.{Denoted}
use Rattle.ada_regions.specs.declared.entities.EntityKind.{EntityKind}
use Rattle.ada_regions.specs.declared.entities.Sought.{Sought}
use Rattle.ada_regions.specs.declared.entities.Sought.TheVariants as answer
use Rattle.ada_regions.specs.declared.table.Enclosure.{Enclosure}
use Rattle.ada_regions.specs.declared.table.Names.{Names}
use Rattle.ada_regions.specs.Words.{and_then}
use Rattle.ada_regions.specs.Names.{binding_in, innermost_frame, enclosure_of, enclosure_here, region_here, denoted_at, denoted_by, kind_at}
use Rattle.ada_regions.specs.Occurrences.{Declared, the_package, the_main_procedure, an_object, a_component, a_parameter, a_loop_parameter, an_enumeration}
use Rattle.ada_regions.specs.Occurrences.{a_literal, an_array, a_derived_type, a_subtype, an_exception, a_label, a_subprogram, an_entry, a_task, a_protected}
use Rattle.ada_regions.specs.Visibility.{sought, answered, resolved}
use Rattle.ada_regions.specs.SelectedNames.{selected, selection_answered, parts_resolved, name_resolved}
use Rattle.ada_regions.specs.Declaring.{hidden, entered, entered_here, entered_as_unit, with_binding, is_taken, unit_is_taken, library_frame, declared}
use Rattle.ada_regions.specs.Declaring.{object_declared, component_declared, parameter_declared, loop_parameter_declared, enumeration_declared}
use Rattle.ada_regions.specs.Declaring.{literal_declared, array_declared, derived_declared, subtype_declared, exception_declared, subprogram_declared}
use Rattle.ada_regions.specs.Declaring.{entry_declared, unit_entered, task_declared, protected_declared, numbered}
use Rattle.ada_regions.specs.Completions.{headed, owned, entry_noted, entry_mentioned, entity_bound, specified_number}
use Rattle.ada_regions.specs.Completions.{completed_in, numbered_if, body_of_declared, completed_or_declared, completed}
use Rattle.ada_regions.specs.Regions.{withed, used_if, is_used_package, used}

-- m has the scopes of n
abbrev pub SameScopes : Names → Names → Type 0
SameScopes n m = m.scopes ≡ n.scopes

-- ---- names that are used

scopes-answered : (i : Identifier) (s : Sought) (n : Names) → SameScopes n (answered i s n)
scopes-answered i (answer.Found d) n = refl
scopes-answered i answer.Unknown n = refl
scopes-answered i answer.Ambiguous n = refl

pub scopes-resolved : (i : Identifier) (n : Names) → SameScopes n (resolved i n)
unfolding resolved
scopes-resolved i n = scopes-answered i (sought n i.text) n

scopes-selection : (i : Identifier) (d : Option Denoted) (n : Names) → SameScopes n (selection_answered i d n)
scopes-selection i None n = refl
scopes-selection i (Some d) n = refl

scopes-parts : (prefix : Option Denoted) (parts : List Identifier) (n : Names) → SameScopes n (parts_resolved prefix parts n)
scopes-parts prefix [] n = refl
scopes-parts None (i ∷ rest) n = refl
scopes-parts (Some d) (i ∷ rest) n =
    scopes-parts (selected n i.text d) rest (selection_answered i (selected n i.text d) n) ∙ scopes-selection i (selected n i.text d) n

pub scopes-name_resolved : (name : Name) (n : Names) → SameScopes n (name_resolved name n)
unfolding name_resolved
scopes-name_resolved name n =
    scopes-parts (denoted_at (resolved name.parts.first n) name.parts.first.place) name.parts.others (resolved name.parts.first n)
    ∙ scopes-resolved name.parts.first n

scopes-entry_noted : (e : Option ℕ) (i : Identifier) (n : Names) → SameScopes n (entry_noted e i n)
scopes-entry_noted (Some e) i n = refl
scopes-entry_noted None i n = scopes-resolved i n

pub scopes-entry_mentioned : (i : Identifier) (n : Names) → SameScopes n (entry_mentioned i n)
unfolding entry_mentioned
scopes-entry_mentioned i n = scopes-entry_noted (entity_bound n (region_here n) i.text) i n

pub scopes-withed : (name : Name) (d : Option Denoted) (n : Names) → SameScopes n (withed name d n)
unfolding withed
scopes-withed name None n = refl
scopes-withed name (Some d) n = refl

-- one of two tables
pub scopes-either : (b : Bool) (n m k : Names) → SameScopes n m → SameScopes n k → SameScopes n (cond b m k)
scopes-either true n m k same other = same
scopes-either false n m k same other = other

scopes-used_if : (d : Option Denoted) (n : Names) → SameScopes n (used_if d n)
scopes-used_if None n = refl
scopes-used_if (Some d) n = scopes-either (is_used_package n d) n _ n refl refl

pub scopes-used : (name : Name) (n : Names) → SameScopes n (used name n)
unfolding used
scopes-used name n = scopes-used_if (denoted_by (name_resolved name n) name) (name_resolved name n) ∙ scopes-name_resolved name n

-- ---- names that are hidden and declared

pub scopes-hidden : (i : Identifier) (n : Names) → SameScopes n (hidden i n)
unfolding hidden
scopes-hidden i n = scopes-either (is_some (binding_in n.bindings (region_here n) i.text)) n n (with_binding (enclosure_here n) i.text None n) refl refl

pub scopes-headed : (i : Identifier) (n : Names) → SameScopes n (headed i n)
unfolding headed
scopes-headed i n = scopes-either (is_some (completed_in n (region_here n) i.text)) n n (hidden i n) refl (scopes-hidden i n)

scopes-entered : (f : Enclosure) (taken : Bool) (i : Identifier) (kind : EntityKind) (region : Option ℕ) (n : Names)
    → SameScopes n (entered f taken i kind region n)
unfolding entered
scopes-entered f true i kind region n = refl
scopes-entered f false i kind region n = refl

entered-here : (i : Identifier) (n m last : Names) (kind : EntityKind) (region : Option ℕ) → last ≡ entered_here i kind region m → SameScopes n m
    → SameScopes n last
unfolding entered_here
entered-here i n m last kind region e same = ap (λ t. t.scopes) e ∙ scopes-entered (enclosure_here m) (is_taken m (region_here m) i.text) i kind region m ∙ same

entered-unit : (i : Identifier) (n m last : Names) (kind : EntityKind) (region : Option ℕ) → last ≡ entered_as_unit i kind region m → SameScopes n m
    → SameScopes n last
unfolding entered_as_unit
entered-unit i n m last kind region e same = ap (λ t. t.scopes) e ∙ scopes-entered (enclosure_of library_frame) (unit_is_taken m i.text) i kind region m ∙ same

scopes-subprogram : (f : Enclosure) (specified : Bool) (scope : ℕ) (i : Identifier) (s : SubprogramSpecification) (n : Names)
    → SameScopes n (subprogram_declared f specified scope i s n)
unfolding subprogram_declared
scopes-subprogram f specified scope i s n = scopes-entered f (is_taken n f.region i.text) i _ None _

pub scopes-declared : (i : Identifier) (what : Declared) (n : Names) → SameScopes n (declared i what n)
unfolding declared object_declared component_declared parameter_declared loop_parameter_declared enumeration_declared literal_declared array_declared
    derived_declared subtype_declared exception_declared entry_declared unit_entered task_declared protected_declared numbered
scopes-declared i the_package n = entered-unit i n _ _ _ _ refl refl
scopes-declared i the_main_procedure n = entered-unit i n _ _ _ _ refl refl
scopes-declared i (an_object o) n = entered-here i n _ _ _ _ refl refl
scopes-declared i (a_component c) n = entered-here i n _ _ _ _ refl refl
scopes-declared i (a_parameter true p) n = entered-here i n _ _ _ _ refl refl
scopes-declared i (a_parameter false p) n = entered-here i n _ _ _ _ refl refl
scopes-declared i a_loop_parameter n = entered-here i n _ _ _ _ refl refl
scopes-declared i (an_enumeration literals) n = entered-here i n _ _ _ _ refl refl
scopes-declared i a_literal n = entered-here i n _ _ _ _ refl refl
scopes-declared i (an_array low high component) n = entered-here i n _ _ _ _ refl refl
scopes-declared i (a_derived_type parent) n = entered-here i n _ _ _ _ refl refl
scopes-declared i (a_subtype m) n = entered-here i n _ _ _ _ refl refl
scopes-declared i an_exception n = entered-here i n _ _ _ _ refl refl
scopes-declared i a_label n = entered-here i n _ _ _ _ refl refl
scopes-declared i (a_subprogram s) n = scopes-subprogram (enclosure_here n) true 0 i s n
scopes-declared i (an_entry parameters) n = entered-here i n _ _ _ _ refl refl
scopes-declared i (a_task true aspects) n = entered-here i n _ _ _ _ refl refl
scopes-declared i (a_task false aspects) n = entered-here i n _ _ _ _ refl refl
scopes-declared i (a_protected true aspects) n = entered-here i n _ _ _ _ refl refl
scopes-declared i (a_protected false aspects) n = entered-here i n _ _ _ _ refl refl

-- ---- bodies of subprograms

scopes-numbered_if : (s : SubprogramSpecification) (n : Names) (number : Option SubprogramNo) → SameScopes n (numbered_if s n number)
unfolding numbered_if
scopes-numbered_if s n None = refl
scopes-numbered_if s n (Some number) = refl

scopes-completed_or : (outer : Enclosure) (e : Option ℕ) (i : Identifier) (s : SubprogramSpecification) (n : Names)
    → SameScopes n (completed_or_declared outer e i s n)
unfolding completed_or_declared body_of_declared
scopes-completed_or outer (Some e) i s n = scopes-numbered_if s n (and_then (kind_at n e) specified_number)
scopes-completed_or outer None i s n = scopes-subprogram outer false _ i s n

pub scopes-completed : (i : Identifier) (s : SubprogramSpecification) (n : Names) → SameScopes n (completed i s n)
unfolding completed owned
scopes-completed i s n =
    let outer = enclosure_of (innermost_frame (rest_of n.frames)) in
    scopes-completed_or outer (completed_in n outer.region i.text) i s n
