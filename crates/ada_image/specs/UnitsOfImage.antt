-- Task and protected units, entries and controlled types (7.6, 9.1, 9.4, 9.5.2, C.3.1, D.1, D.3).
use Rattle.std.specs.Prelude.{ℕ, suc, pos, Bool, true, false, cond, ◌&&◌, List, [], ◌∷◌, ◌++◌}
use Rattle.std.specs.Prelude.{Option, Some, None, unwrap_or, map, eqb, leb, codes, is_none}
use Rattle.std.specs.Str.{bytes_eq}
use Rattle.ada_tree.specs.declared.expressions.Expression.{Expression}
use Rattle.ada_tree.specs.declared.declarations.Aspect.{Aspect}
use Rattle.profile_image.specs.declared.numbers.DeclNo.{DeclNo}
use Rattle.profile_image.specs.declared.numbers.ExprNo.{ExprNo}
use Rattle.profile_image.specs.declared.numbers.EntryNo.{EntryNo}
use Rattle.profile_image.specs.declared.numbers.SubprogramNo.{SubprogramNo}
use Rattle.profile_image.specs.declared.values.Value.{Value}
use Rattle.profile_image.specs.declared.values.Value.TheVariants as value
use Rattle.profile_image.specs.declared.declarations.TaskUnit.{TaskUnit}
use Rattle.profile_image.specs.declared.declarations.Attachment.{Attachment}
use Rattle.profile_image.specs.declared.declarations.ProtectedUnit.{ProtectedUnit}
use Rattle.profile_image.specs.declared.declarations.EntryUnit.{EntryUnit}
use Rattle.profile_image.specs.declared.declarations.EntryUnit.TheVariants as entry_unit
use Rattle.profile_image.specs.declared.declarations.EntryBody.{EntryBody}
use Rattle.profile_image.specs.declared.declarations.Entry.{Entry}
use Rattle.profile_image.specs.declared.declarations.ControlledType.{ControlledType}
use Rattle.ada_regions.specs.declared.types.AdaType.{AdaType}
use Rattle.ada_regions.specs.declared.types.AdaType.TheVariants as types
use Rattle.ada_regions.specs.declared.types.Formal.{Formal}
use Rattle.ada_regions.specs.declared.types.Mode.{Mode}
use Rattle.ada_regions.specs.declared.types.Mode.TheVariants as mode
use Rattle.ada_regions.specs.declared.entities.ComponentOwner.{ComponentOwner}
use Rattle.ada_regions.specs.declared.entities.ComponentOwner.TheVariants as owner
use Rattle.ada_regions.specs.Words.{and_then}
use Rattle.std.specs.Option.{option_or}
use Rattle.ada_regions.specs.declared.table.Names.{Names}
use Rattle.ada_regions.specs.declared.table.NumberedDeclaration.{NumberedDeclaration}
use Rattle.ada_regions.specs.declared.table.NumberedSubprogram.{NumberedSubprogram}
use Rattle.ada_regions.specs.declared.table.NumberedTask.{NumberedTask}
use Rattle.ada_regions.specs.declared.table.NumberedProtected.{NumberedProtected}
use Rattle.ada_regions.specs.declared.table.NumberedControlled.{NumberedControlled}
use Rattle.ada_regions.specs.declared.table.NumberedEntry.{NumberedEntry}
use Rattle.ada_regions.specs.declared.table.NumberedEntryBody.{NumberedEntryBody}
use Rattle.ada_regions.specs.Statics.{static_value}
use Rattle.ada_regions.specs.SelectedNames.{is_owned_by}
use Rattle.ada_image.specs.declared.making.Within.{Within}
use Rattle.ada_image.specs.Making.{Making, ◌>>=◌, pure}
use Rattle.ada_image.specs.Layout.{is_component_of, formal_made, scope_no, subtype_is}
use Rattle.ada_image.specs.ImageOfExpressions.{expression_made, optional_value}

-- ---- aspects (13.1.1)

unfoldable pub level_of : Value → Option ℕ
level_of (value.Whole (pos n)) = Some n
level_of _ = None

unfoldable pub aspect_value : List ℕ → List Aspect → Option Expression
aspect_value name [] = None
aspect_value name (a ∷ rest) = cond (bytes_eq a.name.text name) a.value (aspect_value name rest)

unfoldable pub static_aspect : Names → List ℕ → List Aspect → Option ℕ
static_aspect n name aspects = and_then (aspect_value name aspects) (λ e. and_then (static_value n e) level_of)

-- Priority or Interrupt_Priority
unfoldable pub priority_of : Names → List Aspect → Option ℕ
priority_of n aspects =
    option_or (static_aspect n (codes "priority") aspects) (static_aspect n (codes "interrupt_priority") aspects)

-- ---- entries, in the order of the text

unfoldable pub same_entry_unit : EntryUnit → EntryUnit → Bool
same_entry_unit (entry_unit.Task a) (entry_unit.Task b) = eqb a.0 b.0
same_entry_unit (entry_unit.Task a) (entry_unit.Protected b) = false
same_entry_unit (entry_unit.Protected a) (entry_unit.Task b) = false
same_entry_unit (entry_unit.Protected a) (entry_unit.Protected b) = eqb a.0 b.0

abbrev pub entry_no : ℕ → EntryNo
entry_no e = record { 0 = e }

unfoldable pub entries_from : ℕ → EntryUnit → List NumberedEntry → List EntryNo
entries_from number unit [] = []
entries_from number unit (e ∷ es) =
    cond (same_entry_unit e.unit unit) (entry_no number
    ∷ entries_from (suc number) unit es) (entries_from (suc number) unit es)

unfoldable pub entries_of : Names → EntryUnit → List EntryNo
entries_of n unit = entries_from 0 unit n.entries

-- ---- task units

unfoldable pub task_unit_with : Names → ℕ → NumberedTask → Option ExprNo → TaskUnit
task_unit_with n number t deadline = record {
  scope = scope_no t.scope;
  priority = priority_of n t.aspects;
  relative_deadline = deadline;
  entries = entries_of n (entry_unit.Task (record { 0 = number }));
}

unfoldable pub task_units_made : Within → ℕ → List NumberedTask → Making (List TaskUnit)
task_units_made within number [] = pure []
task_units_made within number (t ∷ ts) = do
  deadline ← optional_value within (aspect_value (codes "relative_deadline") t.aspects)
  others ← task_units_made within (suc number) ts
  pure (task_unit_with within.names number t deadline ∷ others)

-- ---- entries

unfoldable pub place_among : EntryUnit → List NumberedEntry → ℕ
place_among unit [] = 0
place_among unit (e ∷ es) = cond (same_entry_unit e.unit unit) (suc (place_among unit es)) (place_among unit es)

unfoldable pub entry_with : Names → List NumberedEntry → NumberedEntry → Option EntryBody → Entry
entry_with n before e body = record {
  name = e.name;
  unit = e.unit;
  place = place_among e.unit before;
  formals = map (formal_made n) e.formals;
  body = body;
}

unfoldable pub entry_body_made : Within → Option NumberedEntryBody → Making (Option EntryBody)
entry_body_made within None = pure None
entry_body_made within (Some b) = do
  barrier ← expression_made b.barrier within
  pure (Some (record { barrier = barrier; scope = scope_no b.scope }))

unfoldable pub entries_made : Within → List NumberedEntry → List NumberedEntry → Making (List Entry)
entries_made within before [] = pure []
entries_made within before (e ∷ es) = do
  body ← entry_body_made within e.body
  others ← entries_made within (before ++ e ∷ []) es
  pure (entry_with within.names before e body ∷ others)

-- ---- components of units and types

abbrev pub decl_no : ℕ → DeclNo
decl_no d = record { 0 = d }

unfoldable pub components_from : ℕ → ComponentOwner → List NumberedDeclaration → List DeclNo
components_from number o [] = []
components_from number o (d ∷ ds) =
    cond (is_component_of o d.sort) (decl_no number
    ∷ components_from (suc number) o ds) (components_from (suc number) o ds)

unfoldable pub component_numbers : Names → ComponentOwner → List DeclNo
component_numbers n o = components_from 0 o n.declarations

-- ---- protected units: what is attached to an interrupt, by the numbers of the interrupts

abbrev pub subprogram_no : ℕ → SubprogramNo
subprogram_no s = record { 0 = s }

unfoldable pub inserted : Attachment → List Attachment → List Attachment
inserted a [] = a ∷ []
inserted a (b ∷ bs) = cond (leb a.interrupt b.interrupt) (a ∷ b ∷ bs) (b ∷ inserted a bs)

unfoldable pub attached_interrupt : Names → ℕ → NumberedSubprogram → Option ℕ
attached_interrupt n u s = cond (is_owned_by u s.unit) (static_aspect n (codes "attach_handler") s.aspects) None

unfoldable pub inserted_if : Option ℕ → ℕ → List Attachment → List Attachment
inserted_if None number attached = attached
inserted_if (Some interrupt) number attached =
    inserted (record { interrupt = interrupt; handler = subprogram_no number }) attached

unfoldable pub attachments_from : Names → ℕ → ℕ → List NumberedSubprogram → List Attachment
attachments_from n u number [] = []
attachments_from n u number (s ∷ ss) =
    inserted_if (attached_interrupt n u s) number (attachments_from n u (suc number) ss)

unfoldable pub attachments_of : Names → ℕ → List Attachment
attachments_of n u = attachments_from n u 0 n.subprograms

-- without an aspect the ceiling is the last Priority, and the one above where a handler is attached (this profile's)
unfoldable pub default_ceiling : ℕ → List Attachment → ℕ
default_ceiling last [] = last
default_ceiling last (a ∷ rest) = suc last

unfoldable pub protected_unit_made : Names → ℕ → NumberedProtected → ProtectedUnit
protected_unit_made n number p = record {
  ceiling = unwrap_or (priority_of n p.aspects) (default_ceiling n.last_priority (attachments_of n number));
  entries = entries_of n (entry_unit.Protected (record { 0 = number }));
  components = component_numbers n (owner.Protected (record { 0 = number }));
  attached = attachments_of n number;
}

unfoldable pub protected_units_made : Names → ℕ → List NumberedProtected → List ProtectedUnit
protected_units_made n number [] = []
protected_units_made n number (p ∷ ps) = protected_unit_made n number p ∷ protected_units_made n (suc number) ps

-- ---- controlled types: a procedure of this name in the same part overrides, with one `in out` parameter of the type
-- (7.6)

abbrev pub is_derived : ℕ → AdaType → Bool
is_derived c (types.Derived d) = eqb d.0 c
is_derived c _ = false

abbrev pub is_in_out : Mode → Bool
is_in_out mode.In = false
is_in_out mode.Out = false
is_in_out mode.InOut = true

unfoldable pub is_of_type : ℕ → Formal → Bool
is_of_type c f = is_in_out f.mode && subtype_is (is_derived c) f.subtype

unfoldable pub has_one_of_type : ℕ → List Formal → Bool
has_one_of_type c [] = false
has_one_of_type c (f ∷ []) = is_of_type c f
has_one_of_type c (f ∷ g ∷ more) = false

unfoldable pub overrides : ℕ → NumberedControlled → List ℕ → NumberedSubprogram → Bool
overrides number t name s =
    bytes_eq s.name name && (is_none s.result
    && (is_none s.unit && (eqb s.part t.part && has_one_of_type number s.formals)))

unfoldable pub overriding_from : ℕ → NumberedControlled → List ℕ → ℕ → List NumberedSubprogram → Option SubprogramNo
overriding_from c t name number [] = None
overriding_from c t name number (s ∷ ss) =
    option_or (overriding_from c t name (suc number) ss)
    (cond (overrides c t name s) (Some (subprogram_no number)) None)

unfoldable pub overriding : Names → ℕ → NumberedControlled → List ℕ → Option SubprogramNo
overriding n c t name = overriding_from c t name 0 n.subprograms

abbrev pub unless_limited : Bool → Option SubprogramNo → Option SubprogramNo
unless_limited true s = None
unless_limited false s = s

unfoldable pub controlled_type_made : Names → ℕ → NumberedControlled → ControlledType
controlled_type_made n number t = record {
  components = component_numbers n (owner.Controlled (record { 0 = number }));
  initialize = overriding n number t (codes "initialize");
  finalize = overriding n number t (codes "finalize");
  adjust = unless_limited t.is_limited (overriding n number t (codes "adjust"));
}

unfoldable pub controlled_types_made : Names → ℕ → List NumberedControlled → List ControlledType
controlled_types_made n number [] = []
controlled_types_made n number (t ∷ ts) = controlled_type_made n number t ∷ controlled_types_made n (suc number) ts
