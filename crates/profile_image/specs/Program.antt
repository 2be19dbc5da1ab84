-- The items of an image by their numbers. A number that names no item leads to one that does nothing.
use Rattle.std.specs.Prelude.{ℕ, ◌+◌, leb, Bool, true, false, cond, ◌&&◌, List, [], ◌∷◌, Option}
use Rattle.std.specs.Prelude.{Some, None, slice_index_or, pos, replicate, ◌++◌, take, drop, find}
use Rattle.std.specs.List.{list_any}
use Rattle.profile_image.specs.declared.numbers.DeclNo.{DeclNo}
use Rattle.profile_image.specs.declared.numbers.ExprNo.{ExprNo}
use Rattle.profile_image.specs.declared.numbers.StatementNo.{StatementNo}
use Rattle.profile_image.specs.declared.numbers.ScopeNo.{ScopeNo}
use Rattle.profile_image.specs.declared.numbers.SubprogramNo.{SubprogramNo}
use Rattle.profile_image.specs.declared.numbers.TaskUnitNo.{TaskUnitNo}
use Rattle.profile_image.specs.declared.numbers.ProtectedUnitNo.{ProtectedUnitNo}
use Rattle.profile_image.specs.declared.numbers.EntryNo.{EntryNo}
use Rattle.profile_image.specs.declared.numbers.ControlledNo.{ControlledNo}
use Rattle.profile_image.specs.declared.numbers.EnumerationNo.{EnumerationNo}
use Rattle.profile_image.specs.declared.image.Image.{Image}
use Rattle.profile_image.specs.declared.image.Dispatching.{Dispatching}
use Rattle.profile_image.specs.declared.image.Dispatching.TheVariants.{FifoWithinPriorities}
use Rattle.profile_image.specs.declared.image.Dispatching.TheVariants.{RoundRobinWithinPriorities, EdfAcrossPriorities}
use Rattle.profile_image.specs.declared.image.DispatchingRange.{DispatchingRange}
use Rattle.profile_image.specs.declared.declarations.Declaration.{Declaration}
use Rattle.profile_image.specs.declared.declarations.DeclarationKind.TheVariants.{Other}
use Rattle.profile_image.specs.declared.declarations.Scope.{Scope}
use Rattle.profile_image.specs.declared.declarations.Subprogram.{Subprogram}
use Rattle.profile_image.specs.declared.declarations.TaskUnit.{TaskUnit}
use Rattle.profile_image.specs.declared.declarations.ProtectedUnit.{ProtectedUnit}
use Rattle.profile_image.specs.declared.declarations.Entry.{Entry}
use Rattle.profile_image.specs.declared.declarations.EntryUnit.TheVariants as unit
use Rattle.profile_image.specs.declared.declarations.ControlledType.{ControlledType}
use Rattle.profile_image.specs.declared.expressions.Expression.{Expression}
use Rattle.profile_image.specs.declared.expressions.Expression.TheVariants.{Known}
use Rattle.profile_image.specs.declared.statements.Statement.{Statement}
use Rattle.profile_image.specs.declared.statements.StatementForm.{StatementForm}
use Rattle.profile_image.specs.declared.statements.StatementForm.TheVariants as form
use Rattle.profile_image.specs.declared.values.Value.{Value}
use Rattle.profile_image.specs.declared.values.Value.TheVariants.{Whole}
use Rattle.profile_image.specs.declared.values.CellRun.{CellRun}
use Rattle.profile_image.specs.declared.values.Constraint.TheVariants.{Free}

-- ---- look-ups

abbrev pub no_declaration : Declaration
no_declaration = record {
  name = [];
  expanded = [];
  kind = Other;
  scope = record { 0 = 0 };
  place = 0;
  cells = 0;
  constraint = Free;
  index = None;
}

abbrev pub declaration_of : Image → DeclNo → Declaration
declaration_of p d = slice_index_or p.declarations d.0 no_declaration

abbrev pub expression_of : List Expression → ExprNo → Expression
expression_of es e = slice_index_or es e.0 (Known (Whole (pos 0)))

abbrev pub no_statement : Statement
no_statement = record { form = form.Null; signs = 0; next = None }

abbrev pub statement_of : Image → StatementNo → Statement
statement_of p s = slice_index_or p.statements s.0 no_statement

abbrev pub form_of : Image → StatementNo → StatementForm
form_of p s = (statement_of p s).form

abbrev pub next_of : Image → StatementNo → Option StatementNo
next_of p s = (statement_of p s).next

abbrev pub no_scope : Scope
no_scope = record { outer = None; size = 0; cells = []; kept = false; first = None }

abbrev pub scope_of : Image → ScopeNo → Scope
scope_of p s = slice_index_or p.scopes s.0 no_scope

abbrev pub no_subprogram : Subprogram
no_subprogram = record { name = []; scope = record { 0 = 0 }; formals = []; result = None; unit = None }

abbrev pub subprogram_of : Image → SubprogramNo → Subprogram
subprogram_of p s = slice_index_or p.subprograms s.0 no_subprogram

-- how many cells the scope of a subprogram's body has
abbrev pub size_of_body : Image → SubprogramNo → ℕ
size_of_body p f = (scope_of p (subprogram_of p f).scope).size

abbrev pub no_task_unit : TaskUnit
no_task_unit = record { scope = record { 0 = 0 }; priority = None; relative_deadline = None; entries = [] }

abbrev pub task_unit_of : Image → TaskUnitNo → TaskUnit
task_unit_of p u = slice_index_or p.task_units u.0 no_task_unit

abbrev pub no_protected_unit : ProtectedUnit
no_protected_unit = record { ceiling = 0; entries = []; components = []; attached = [] }

abbrev pub protected_unit_of : Image → ProtectedUnitNo → ProtectedUnit
protected_unit_of p u = slice_index_or p.protected_units u.0 no_protected_unit

abbrev pub no_entry : Entry
no_entry = record { name = []; unit = unit.Task (record { 0 = 0 }); place = 0; formals = []; body = None }

abbrev pub entry_of : Image → EntryNo → Entry
entry_of p e = slice_index_or p.entries e.0 no_entry

abbrev pub no_controlled : ControlledType
no_controlled = record { components = []; initialize = None; finalize = None; adjust = None }

abbrev pub controlled_of : Image → ControlledNo → ControlledType
controlled_of p c = slice_index_or p.controlled_types c.0 no_controlled

abbrev pub literals_of : Image → EnumerationNo → List (List ℕ)
literals_of p e = (slice_index_or p.enumerations e.0 (record { literals = [] })).literals

-- ---- cells

-- these cells begin with this value
abbrev pub with_run : CellRun → List Value → List Value
with_run run cells = take run.place cells ++ replicate run.count run.value ++ drop (run.place + run.count) cells

abbrev pub with_runs : List CellRun → List Value → List Value
with_runs [] cells = cells
with_runs (run ∷ runs) cells = with_runs runs (with_run run cells)

-- the cells of a scope as it begins: scalars hold the value of their subtype nearest to 0, False, the first literal or
-- Null_Task_Id, and the first cell of any other object `Whole(0)` (own)
abbrev pub initial_cells : Scope → List Value
initial_cells scope = take scope.size (with_runs scope.cells (replicate scope.size (Whole (pos 0))))

-- ---- what opens with a scope

-- whether a sequence with handlers begins here
abbrev pub opens_handled : StatementForm → Bool
opens_handled (form.Handled handlers first) = true
opens_handled _ = false

-- how many marks one effect opens with a body or a block: the scope, and its sequence with handlers where that comes
-- first
abbrev pub marks_with : Image → Option StatementNo → ℕ
marks_with p None = 1
marks_with p (Some s) = cond (opens_handled (form_of p s)) 2 1

abbrev pub marks_of : Image → ScopeNo → ℕ
marks_of p s = marks_with p (scope_of p s).first

-- ---- policies (D.2.2)

abbrev pub is_in_range : ℕ → DispatchingRange → Bool
is_in_range level range = leb range.first level && leb level range.last

abbrev pub range_of : List DispatchingRange → ℕ → Option DispatchingRange
range_of ranges level = find (is_in_range level) ranges

abbrev pub policy_of_range : Option DispatchingRange → Dispatching
policy_of_range None = FifoWithinPriorities
policy_of_range (Some range) = range.policy

abbrev pub policy_of : Image → ℕ → Dispatching
policy_of p level = policy_of_range (range_of p.policies.dispatching level)

abbrev pub is_edf_policy : Dispatching → Bool
is_edf_policy FifoWithinPriorities = false
is_edf_policy RoundRobinWithinPriorities = false
is_edf_policy EdfAcrossPriorities = true

abbrev pub is_robin_policy : Dispatching → Bool
is_robin_policy FifoWithinPriorities = false
is_robin_policy RoundRobinWithinPriorities = true
is_robin_policy EdfAcrossPriorities = false

abbrev pub is_edf_level : Image → ℕ → Bool
is_edf_level p level = is_edf_policy (policy_of p level)

abbrev pub is_robin_level : Image → ℕ → Bool
is_robin_level p level = is_robin_policy (policy_of p level)

-- the first priority of the EDF range in which the level lies
abbrev pub edf_low_of : Option DispatchingRange → Option ℕ
edf_low_of None = None
edf_low_of (Some range) = cond (is_edf_policy range.policy) (Some range.first) None

abbrev pub edf_low : Image → ℕ → Option ℕ
edf_low p level = edf_low_of (range_of p.policies.dispatching level)

abbrev pub has_edf_range : List DispatchingRange → Bool
has_edf_range ranges = list_any (λ range. is_edf_policy range.policy) ranges

abbrev pub has_edf : Image → Bool
has_edf p = has_edf_range p.policies.dispatching

-- the priority of interrupts, the last of all
abbrev pub interrupt_priority : Image → ℕ
interrupt_priority p = p.policies.last_priority + 1
