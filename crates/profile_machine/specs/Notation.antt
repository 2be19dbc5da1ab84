-- Shorthands with which the data of programs and the lines of traces are written.
use Rattle.std.specs.Prelude.{ℕ, Bool, List, Option}
use Rattle.ann_base.specs.declared.identities.TaskNo.{TaskNo}
use Rattle.ann_base.specs.declared.identities.CallNo.{CallNo}
use Rattle.ann_base.specs.declared.identities.ObjectNo.{ObjectNo}
use Rattle.ann_base.specs.declared.identities.RegionNo.{RegionNo}
use Rattle.trace_text.specs.declared.events.Who.{Who}
use Rattle.trace_text.specs.declared.events.Who.TheVariants as subject
use Rattle.trace_text.specs.declared.events.EntryName.{EntryName}
use Rattle.trace_text.specs.declared.events.EntryName.TheVariants as called
use Rattle.profile_image.specs.declared.numbers.DeclNo.{DeclNo}
use Rattle.profile_image.specs.declared.numbers.ExprNo.{ExprNo}
use Rattle.profile_image.specs.declared.numbers.StatementNo.{StatementNo}
use Rattle.profile_image.specs.declared.numbers.ScopeNo.{ScopeNo}
use Rattle.profile_image.specs.declared.numbers.SubprogramNo.{SubprogramNo}
use Rattle.profile_image.specs.declared.numbers.TaskUnitNo.{TaskUnitNo}
use Rattle.profile_image.specs.declared.numbers.ProtectedUnitNo.{ProtectedUnitNo}
use Rattle.profile_image.specs.declared.numbers.EntryNo.{EntryNo}
use Rattle.profile_image.specs.declared.numbers.ControlledNo.{ControlledNo}
use Rattle.profile_image.specs.declared.numbers.EnumerationNo.{EnumerationNo}
use Rattle.profile_image.specs.declared.values.Value.{Value}
use Rattle.profile_image.specs.declared.values.Constraint.{Constraint}
use Rattle.profile_image.specs.declared.values.CellRun.{CellRun}
use Rattle.profile_image.specs.declared.expressions.ObjectName.{ObjectName}
use Rattle.profile_image.specs.declared.expressions.VariableName.{VariableName}
use Rattle.profile_image.specs.declared.declarations.Declaration.{Declaration}
use Rattle.profile_image.specs.declared.declarations.DeclarationKind.{DeclarationKind}
use Rattle.profile_image.specs.declared.declarations.Scope.{Scope}
use Rattle.profile_image.specs.declared.declarations.Formal.{Formal}
use Rattle.profile_image.specs.declared.declarations.Subprogram.{Subprogram}
use Rattle.profile_image.specs.declared.declarations.TaskUnit.{TaskUnit}
use Rattle.profile_image.specs.declared.declarations.Attachment.{Attachment}
use Rattle.profile_image.specs.declared.declarations.ProtectedUnit.{ProtectedUnit}
use Rattle.profile_image.specs.declared.declarations.EntryUnit.{EntryUnit}
use Rattle.profile_image.specs.declared.declarations.EntryBody.{EntryBody}
use Rattle.profile_image.specs.declared.declarations.Entry.{Entry}
use Rattle.profile_image.specs.declared.declarations.ControlledType.{ControlledType}
use Rattle.profile_image.specs.declared.declarations.Enumeration.{Enumeration}
use Rattle.profile_image.specs.declared.declarations.ExceptionChoice.{ExceptionChoice}
use Rattle.profile_image.specs.declared.declarations.Handler.{Handler}
use Rattle.profile_image.specs.declared.statements.Statement.{Statement}
use Rattle.profile_image.specs.declared.statements.StatementForm.{StatementForm}
use Rattle.profile_image.specs.declared.statements.Choice.{Choice}
use Rattle.profile_image.specs.declared.statements.CaseAlternative.{CaseAlternative}
use Rattle.profile_image.specs.declared.statements.SelectAlternative.{SelectAlternative}
use Rattle.profile_image.specs.declared.statements.SelectKind.{SelectKind}
use Rattle.profile_image.specs.declared.statements.HandlerName.{HandlerName}
use Rattle.profile_image.specs.declared.image.Dispatching.{Dispatching}
use Rattle.profile_image.specs.declared.image.DispatchingRange.{DispatchingRange}
use Rattle.profile_image.specs.declared.image.Queuing.{Queuing}
use Rattle.profile_image.specs.declared.image.Policies.{Policies}
use Rattle.profile_image.specs.declared.image.MainProcedure.{MainProcedure}

-- ---- numbers

abbrev pub decl : ℕ → DeclNo
decl n = record { 0 = n }

abbrev pub expr : ℕ → ExprNo
expr n = record { 0 = n }

abbrev pub stmt : ℕ → StatementNo
stmt n = record { 0 = n }

abbrev pub scope : ℕ → ScopeNo
scope n = record { 0 = n }

abbrev pub subprogram : ℕ → SubprogramNo
subprogram n = record { 0 = n }

abbrev pub task_unit : ℕ → TaskUnitNo
task_unit n = record { 0 = n }

abbrev pub protected_unit : ℕ → ProtectedUnitNo
protected_unit n = record { 0 = n }

abbrev pub entry : ℕ → EntryNo
entry n = record { 0 = n }

abbrev pub controlled_type : ℕ → ControlledNo
controlled_type n = record { 0 = n }

abbrev pub enumeration : ℕ → EnumerationNo
enumeration n = record { 0 = n }

abbrev pub task : ℕ → TaskNo
task n = record { 0 = n }

abbrev pub call : ℕ → CallNo
call n = record { 0 = n }

abbrev pub p : ℕ → ObjectNo
p n = record { 0 = n }

abbrev pub region : ℕ → RegionNo
region n = record { 0 = n }

-- ---- subjects and entries in lines

abbrev pub t : ℕ → Who
t n = subject.Task (task n)

abbrev pub agent : Who
agent = subject.Agent

abbrev pub of_task : ℕ → List ℕ → EntryName
of_task n name = called.OfTask (task n) name

abbrev pub of_object : ℕ → List ℕ → EntryName
of_object n name = called.OfObject (p n) name

-- ---- the items of an image, by their fields in order

abbrev pub declaration : List ℕ → List ℕ → DeclarationKind → ScopeNo → ℕ → ℕ → Constraint → Option Constraint
    → Declaration
declaration name expanded kind scope place cells constraint index = record {
  name = name;
  expanded = expanded;
  kind = kind;
  scope = scope;
  place = place;
  cells = cells;
  constraint = constraint;
  index = index;
}

abbrev pub variable : ObjectName → Option ExprNo → VariableName
variable object index = record { object = object; index = index }

abbrev pub statement : StatementForm → ℕ → Option StatementNo → Statement
statement form signs next = record { form = form; signs = signs; next = next }

abbrev pub alternative : List Choice → StatementNo → CaseAlternative
alternative choices first = record { choices = choices; first = first }

abbrev pub select_alternative : Option ExprNo → SelectKind → SelectAlternative
select_alternative guard kind = record { guard = guard; kind = kind }

abbrev pub handler : List ExceptionChoice → StatementNo → Handler
handler choices first = record { choices = choices; first = first }

abbrev pub handler_name : DeclNo → SubprogramNo → HandlerName
handler_name object procedure = record { object = object; procedure = procedure }

abbrev pub cell_run : ℕ → ℕ → Value → CellRun
cell_run place count value = record { place = place; count = count; value = value }

abbrev pub scope_text : Option ScopeNo → ℕ → List CellRun → Bool → Option StatementNo → Scope
scope_text outer size cells kept first = record {
  outer = outer;
  size = size;
  cells = cells;
  kept = kept;
  first = first;
}

abbrev pub formal : Constraint → Value → Formal
formal constraint initial = record { constraint = constraint; initial = initial }

abbrev pub subprogram_text : List ℕ → ScopeNo → List Formal → Option Constraint → Option ProtectedUnitNo → Subprogram
subprogram_text name scope formals result unit = record {
  name = name;
  scope = scope;
  formals = formals;
  result = result;
  unit = unit;
}

abbrev pub task_unit_text : ScopeNo → Option ℕ → Option ExprNo → List EntryNo → TaskUnit
task_unit_text scope priority relative_deadline entries = record {
  scope = scope;
  priority = priority;
  relative_deadline = relative_deadline;
  entries = entries;
}

abbrev pub attachment : ℕ → SubprogramNo → Attachment
attachment interrupt handler = record { interrupt = interrupt; handler = handler }

abbrev pub protected_unit_text : ℕ → List EntryNo → List DeclNo → List Attachment → ProtectedUnit
protected_unit_text ceiling entries components attached = record {
  ceiling = ceiling;
  entries = entries;
  components = components;
  attached = attached;
}

abbrev pub entry_body : ExprNo → ScopeNo → EntryBody
entry_body barrier scope = record { barrier = barrier; scope = scope }

abbrev pub entry_text : List ℕ → EntryUnit → ℕ → List Formal → Option EntryBody → Entry
entry_text name unit place formals body = record {
  name = name;
  unit = unit;
  place = place;
  formals = formals;
  body = body;
}

abbrev pub controlled_text : List DeclNo → Option SubprogramNo → Option SubprogramNo → Option SubprogramNo
    → ControlledType
controlled_text components initialize finalize adjust = record {
  components = components;
  initialize = initialize;
  finalize = finalize;
  adjust = adjust;
}

abbrev pub enumeration_text : List (List ℕ) → Enumeration
enumeration_text literals = record { literals = literals }

abbrev pub dispatching_range : Dispatching → ℕ → ℕ → DispatchingRange
dispatching_range policy first last = record { policy = policy; first = first; last = last }

abbrev pub policies : List DispatchingRange → Queuing → Option ℕ → ℕ → Policies
policies dispatching queuing longest_queue last_priority = record {
  dispatching = dispatching;
  queuing = queuing;
  longest_queue = longest_queue;
  last_priority = last_priority;
}

abbrev pub main_procedure : List ℕ → ℕ → ScopeNo → MainProcedure
main_procedure name priority scope = record { name = name; priority = priority; scope = scope }
