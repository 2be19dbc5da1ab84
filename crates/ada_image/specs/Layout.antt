-- Declarations and scopes of the image: the cells that each takes (own), where they stand, and what they hold at first.
use Rattle.std.specs.Prelude.{ℕ, zero, suc, ◌+◌, ◌-◌, ℤ, pos, ◌-ℤ◌, nat_abs, int_lt, Bool, true, false, cond, ◌&&◌}
use Rattle.std.specs.Prelude.{List, [], ◌∷◌, ◌++◌, Option, Some, None, eqb, slice_get, option_map, map, unwrap_or}
use Rattle.std.specs.List.{filter, list_any, find}
use Rattle.std.specs.Char.{to_ascii_uppercase}
use Rattle.profile_image.specs.declared.limits.TheConstants.{CONTROLLED_CELLS, PROTECTED_CELLS}
use Rattle.profile_image.specs.declared.numbers.ScopeNo.{ScopeNo}
use Rattle.profile_image.specs.declared.numbers.ProtectedUnitNo.{ProtectedUnitNo}
use Rattle.profile_image.specs.declared.values.Value.{Value}
use Rattle.profile_image.specs.declared.values.Value.TheVariants as value
use Rattle.profile_image.specs.declared.values.Constraint.{Constraint}
use Rattle.profile_image.specs.declared.values.Constraint.TheVariants as constraint
use Rattle.profile_image.specs.declared.values.CellRun.{CellRun}
use Rattle.profile_image.specs.declared.declarations.Scope.{Scope}
use Rattle.profile_image.specs.declared.declarations.Formal.{Formal as FormalCell}
use Rattle.profile_image.specs.declared.declarations.Subprogram.{Subprogram}
use Rattle.profile_image.specs.declared.declarations.Enumeration.{Enumeration}
use Rattle.ada_regions.specs.declared.types.AdaType.{AdaType}
use Rattle.ada_regions.specs.declared.types.AdaType.TheVariants as types
use Rattle.ada_regions.specs.declared.types.ArrayType.{ArrayType}
use Rattle.ada_regions.specs.declared.types.Formal.{Formal}
use Rattle.ada_regions.specs.declared.types.Subtype.{Subtype}
use Rattle.ada_regions.specs.declared.entities.ComponentOwner.{ComponentOwner}
use Rattle.ada_regions.specs.declared.entities.ComponentOwner.TheVariants as owner
use Rattle.ada_regions.specs.Words.{and_then}
use Rattle.ada_regions.specs.declared.table.Names.{Names}
use Rattle.ada_regions.specs.declared.table.NumberedDeclaration.{NumberedDeclaration}
use Rattle.ada_regions.specs.declared.table.NumberedScope.{NumberedScope}
use Rattle.ada_regions.specs.declared.table.NumberedSubprogram.{NumberedSubprogram}
use Rattle.ada_regions.specs.declared.table.Sort.{Sort}
use Rattle.ada_regions.specs.declared.table.Sort.TheVariants as sort
use Rattle.ada_image.specs.declared.making.FirstAction.{FirstAction}

-- ---- kinds of types

-- objects of these types stand for themselves, and are named rather than copied
abbrev pub is_thing : AdaType → Bool
is_thing types.Integer = false
is_thing types.Boolean = false
is_thing types.Duration = false
is_thing (types.Enumeration e) = false
is_thing (types.Array a) = false
is_thing types.Time = false
is_thing types.TimeSpan = false
is_thing types.CpuTime = false
is_thing types.TaskId = false
is_thing types.TimingEvent = true
is_thing types.Timer = true
is_thing types.GroupBudget = true
is_thing types.LimitedControlled = true
is_thing types.Controlled = true
is_thing (types.Derived c) = true
is_thing (types.Task u) = true
is_thing (types.Protected u) = true

abbrev pub subtype_is : (AdaType → Bool) → Option Subtype → Bool
subtype_is test None = false
subtype_is test (Some s) = test s.of_type

abbrev pub is_kept : AdaType → Bool
is_kept (types.Derived c) = true
is_kept (types.Task u) = true
is_kept _ = false

-- ---- ranges and first values (3.5; the first value is this profile's)

unfoldable pub array_of : Names → AdaType → Option ArrayType
array_of n (types.Array a) = slice_get n.arrays a
array_of n _ = None

abbrev pub scalar_of : Option ArrayType → Subtype → Option Subtype
scalar_of None s = Some s
scalar_of (Some a) s = a.component

-- the subtype itself, or that of an array's components
unfoldable pub cell_subtype : Names → Subtype → Option Subtype
cell_subtype n s = scalar_of (array_of n s.of_type) s

unfoldable pub range_of_cells : Names → Option Subtype → Constraint
range_of_cells n s = unwrap_or (option_map (λ t. t.range) (and_then s (cell_subtype n))) constraint.Free

unfoldable pub index_range : Names → Option Subtype → Option Constraint
index_range n s = and_then s (λ t. option_map (λ a. a.index) (array_of n t.of_type))

-- the number of a range that is nearest to zero
abbrev pub nearest : ℤ → ℤ → ℤ
nearest low high = cond (int_lt (pos 0) low) low (cond (int_lt high (pos 0)) high (pos 0))

abbrev pub first_of_free : AdaType → Value
first_of_free types.Integer = value.Whole (pos 0)
first_of_free types.Boolean = value.Truth false
first_of_free types.Duration = value.Ticks (pos 0)
first_of_free (types.Enumeration e) = value.Literal 0
first_of_free (types.Array a) = value.Whole (pos 0)
first_of_free types.Time = value.Ticks (pos 0)
first_of_free types.TimeSpan = value.Ticks (pos 0)
first_of_free types.CpuTime = value.Ticks (pos 0)
first_of_free types.TaskId = value.Task None
first_of_free types.TimingEvent = value.Whole (pos 0)
first_of_free types.Timer = value.Whole (pos 0)
first_of_free types.GroupBudget = value.Whole (pos 0)
first_of_free types.LimitedControlled = value.Whole (pos 0)
first_of_free types.Controlled = value.Whole (pos 0)
first_of_free (types.Derived c) = value.Whole (pos 0)
first_of_free (types.Task u) = value.Whole (pos 0)
first_of_free (types.Protected u) = value.Whole (pos 0)

unfoldable pub first_in : Constraint → AdaType → Value
first_in constraint.Free t = first_of_free t
first_in (constraint.Whole low high) t = value.Whole (nearest low high)
first_in (constraint.Truth low high) t = value.Truth low
first_in (constraint.Literal low high) t = value.Literal low
first_in (constraint.Ticks low high) t = value.Ticks (nearest low high)

abbrev pub first_of_subtype : Subtype → Value
first_of_subtype s = first_in s.range s.of_type

unfoldable pub first_value : Names → Option Subtype → Value
first_value n s = unwrap_or (option_map first_of_subtype (and_then s (cell_subtype n))) (value.Whole (pos 0))

-- ---- cells: a scalar has one, an array one for each component, a protected object 16 and a controlled one 1 more than
-- its components; a loop has two

abbrev pub width_between : ℤ → ℤ → ℕ
width_between low high = cond (int_lt high low) 0 (suc (nat_abs (high -ℤ low)))

abbrev pub truth_width : Bool → Bool → ℕ
truth_width true false = 0
truth_width true true = 1
truth_width false true = 2
truth_width false false = 1

unfoldable pub width : Constraint → ℕ
width constraint.Free = 1
width (constraint.Whole low high) = width_between low high
width (constraint.Truth low high) = truth_width low high
width (constraint.Literal low high) = suc high - low
width (constraint.Ticks low high) = 1

unfoldable pub width_of_array : Option ArrayType → ℕ
width_of_array None = 1
width_of_array (Some a) = width a.index

-- a scalar's or an array's
unfoldable pub width_of_subtype : Names → Option Subtype → ℕ
width_of_subtype n s = unwrap_or (option_map (λ t. width_of_array (array_of n t.of_type)) s) 1

abbrev pub same_owner : ComponentOwner → ComponentOwner → Bool
same_owner (owner.Protected a) (owner.Protected b) = eqb a.0 b.0
same_owner (owner.Protected a) (owner.Controlled b) = false
same_owner (owner.Controlled a) (owner.Protected b) = false
same_owner (owner.Controlled a) (owner.Controlled b) = eqb a.0 b.0

abbrev pub is_component_of : ComponentOwner → Sort → Bool
is_component_of o sort.Object = false
is_component_of o (sort.Component p) = same_owner o p
is_component_of o sort.Parameter = false
is_component_of o sort.LoopParameter = false
is_component_of o sort.Exception = false

unfoldable pub components_of_owner : Names → ComponentOwner → List NumberedDeclaration
components_of_owner n o = filter (λ d. is_component_of o d.sort) n.declarations

abbrev pub total : List ℕ → ℕ
total [] = 0
total (x ∷ xs) = x + total xs

unfoldable pub width_of_components : Names → ComponentOwner → ℕ
width_of_components n o = total (map (λ d. width_of_subtype n d.subtype) (components_of_owner n o))

unfoldable pub width_of_type : Names → AdaType → ℕ
width_of_type n types.Integer = 1
width_of_type n types.Boolean = 1
width_of_type n types.Duration = 1
width_of_type n (types.Enumeration e) = 1
width_of_type n (types.Array a) = width_of_array (slice_get n.arrays a)
width_of_type n types.Time = 1
width_of_type n types.TimeSpan = 1
width_of_type n types.CpuTime = 1
width_of_type n types.TaskId = 1
width_of_type n types.TimingEvent = 1
width_of_type n types.Timer = 1
width_of_type n types.GroupBudget = 1
width_of_type n types.LimitedControlled = 1
width_of_type n types.Controlled = 1
width_of_type n (types.Derived c) = CONTROLLED_CELLS + width_of_components n (owner.Controlled c)
width_of_type n (types.Task u) = 1
width_of_type n (types.Protected u) = PROTECTED_CELLS + width_of_components n (owner.Protected u)

unfoldable pub width_of_object : Names → Option Subtype → ℕ
width_of_object n s = unwrap_or (option_map (λ t. width_of_type n t.of_type) s) 1

unfoldable pub cells_of_sort : Names → Sort → Option Subtype → ℕ
cells_of_sort n sort.Object s = width_of_object n s
cells_of_sort n (sort.Component o) s = width_of_subtype n s
cells_of_sort n sort.Parameter s = width_of_object n s
cells_of_sort n sort.LoopParameter s = 2
cells_of_sort n sort.Exception s = 0

unfoldable pub cells_of_declaration : Names → NumberedDeclaration → ℕ
cells_of_declaration n d = cells_of_sort n d.sort d.subtype

-- ---- places: behind those before it in its scope, or among the components of its owner

abbrev pub stands_in_scope : Sort → Bool
stands_in_scope sort.Object = true
stands_in_scope (sort.Component o) = false
stands_in_scope sort.Parameter = true
stands_in_scope sort.LoopParameter = true
stands_in_scope sort.Exception = false

abbrev pub is_in_scope : ℕ → NumberedDeclaration → Bool
is_in_scope scope d = stands_in_scope d.sort && eqb d.scope scope

unfoldable pub stands_beside : NumberedDeclaration → Sort → NumberedDeclaration → Bool
stands_beside d sort.Object e = is_in_scope d.scope e
stands_beside d (sort.Component o) e = is_component_of o e.sort
stands_beside d sort.Parameter e = is_in_scope d.scope e
stands_beside d sort.LoopParameter e = is_in_scope d.scope e
stands_beside d sort.Exception e = false

-- the place of a declaration, where those before it are given
unfoldable pub place_behind : Names → List NumberedDeclaration → NumberedDeclaration → ℕ
place_behind n before d = total (map (cells_of_declaration n) (filter (stands_beside d d.sort) before))

-- ---- a scope's first values, where they are not `Whole (pos 0)`

abbrev pub is_plain_zero : Value → Bool
is_plain_zero (value.Whole (pos zero)) = true
is_plain_zero _ = false

unfoldable pub run_of : ℕ → ℕ → Value → List CellRun
run_of place count v = cond (is_plain_zero v) [] (record { place = place; count = count; value = v } ∷ [])

unfoldable pub runs_of_components : Names → ℕ → List NumberedDeclaration → List CellRun
runs_of_components n place [] = []
runs_of_components n place (c ∷ cs) =
    run_of place (width_of_subtype n c.subtype) (first_value n c.subtype)
    ++ runs_of_components n (place + width_of_subtype n c.subtype) cs

unfoldable pub runs_of_type : Names → ℕ → Option Subtype → AdaType → List CellRun
runs_of_type n place s types.Integer = run_of place (width_of_object n s) (first_value n s)
runs_of_type n place s types.Boolean = run_of place (width_of_object n s) (first_value n s)
runs_of_type n place s types.Duration = run_of place (width_of_object n s) (first_value n s)
runs_of_type n place s (types.Enumeration e) = run_of place (width_of_object n s) (first_value n s)
runs_of_type n place s (types.Array a) = run_of place (width_of_object n s) (first_value n s)
runs_of_type n place s types.Time = run_of place (width_of_object n s) (first_value n s)
runs_of_type n place s types.TimeSpan = run_of place (width_of_object n s) (first_value n s)
runs_of_type n place s types.CpuTime = run_of place (width_of_object n s) (first_value n s)
runs_of_type n place s types.TaskId = run_of place (width_of_object n s) (first_value n s)
runs_of_type n place s types.TimingEvent = []
runs_of_type n place s types.Timer = []
runs_of_type n place s types.GroupBudget = []
runs_of_type n place s types.LimitedControlled = []
runs_of_type n place s types.Controlled = []
runs_of_type n place s (types.Derived c) =
    runs_of_components n (place + CONTROLLED_CELLS) (components_of_owner n (owner.Controlled c))
runs_of_type n place s (types.Task u) = []
runs_of_type n place s (types.Protected u) =
    runs_of_components n (place + PROTECTED_CELLS) (components_of_owner n (owner.Protected u))

unfoldable pub runs_of_subtype : Names → ℕ → Option Subtype → List CellRun
runs_of_subtype n place None = []
runs_of_subtype n place (Some s) = runs_of_type n place (Some s) s.of_type

-- an object that stands for itself in a parameter has no components of its own
unfoldable pub runs_of_parameter : Names → ℕ → Option Subtype → List CellRun
runs_of_parameter n place s = cond (subtype_is is_thing s) [] (runs_of_subtype n place s)

unfoldable pub runs_of_sort : Names → ℕ → Option Subtype → Sort → List CellRun
runs_of_sort n place s sort.Object = runs_of_subtype n place s
runs_of_sort n place s (sort.Component o) = []
runs_of_sort n place s sort.Parameter = runs_of_parameter n place s
runs_of_sort n place s sort.LoopParameter = []
runs_of_sort n place s sort.Exception = []

unfoldable pub runs_from : Names → ℕ → List NumberedDeclaration → List CellRun
runs_from n place [] = []
runs_from n place (d ∷ ds) = runs_of_sort n place d.subtype d.sort ++ runs_from n (place + cells_of_declaration n d) ds

-- ---- scopes

unfoldable pub declarations_in_scope : Names → ℕ → List NumberedDeclaration
declarations_in_scope n scope = filter (is_in_scope scope) n.declarations

abbrev pub extra_cell : Bool → ℕ
extra_cell true = 1
extra_cell false = 0

unfoldable pub keeps : Sort → Option Subtype → Bool
keeps sort.Object s = subtype_is is_kept s
keeps (sort.Component o) s = false
keeps sort.Parameter s = false
keeps sort.LoopParameter s = false
keeps sort.Exception s = false

unfoldable pub first_action : List FirstAction → ℕ → Option FirstAction
first_action firsts scope = find (λ f. eqb f.scope scope) firsts

abbrev pub scope_no : ℕ → ScopeNo
scope_no s = record { 0 = s }

unfoldable pub scope_made : Names → List FirstAction → ℕ → NumberedScope → Scope
scope_made n firsts number s =
    let ds = declarations_in_scope n number in
    record {
      outer = option_map scope_no s.outer;
      size = total (map (cells_of_declaration n) ds) + extra_cell s.is_function;
      cells = runs_from n 0 ds;
      kept = list_any (λ d. keeps d.sort d.subtype) ds;
      first = and_then (first_action firsts number) (λ f. f.action);
    }

unfoldable pub scopes_made : Names → List FirstAction → ℕ → List NumberedScope → List Scope
scopes_made n firsts number [] = []
scopes_made n firsts number (s ∷ ss) = scope_made n firsts number s ∷ scopes_made n firsts (suc number) ss

-- ---- subprograms and enumerations

unfoldable pub formal_made : Names → Formal → FormalCell
formal_made n f =
    cond (subtype_is is_thing f.subtype) (record { constraint = constraint.Free; initial = value.Whole (pos 0) })
    (record { constraint = range_of_cells n f.subtype; initial = first_value n f.subtype })

abbrev pub unit_no : ℕ → ProtectedUnitNo
unit_no u = record { 0 = u }

unfoldable pub subprogram_made : Names → NumberedSubprogram → Subprogram
subprogram_made n s = record {
  name = s.name;
  scope = scope_no s.scope;
  formals = map (formal_made n) s.formals;
  result = option_map (range_of_cells n) s.result;
  unit = option_map unit_no s.unit;
}

unfoldable pub enumeration_made : List (List ℕ) → Enumeration
enumeration_made literals = record { literals = map (map to_ascii_uppercase) literals }
