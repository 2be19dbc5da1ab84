-- The formals of what is called (6.1, 9.5.2, annex D), and which actual is for which formal
-- (6.4.1).
use Rattle.ada_legality.specs.Findings.{Found, broken_unless}
use Rattle.ada_legality.specs.Types.{is_of_time}
use Rattle.ada_legality.specs.Values.{denoted_kind, operation_of}
use Rattle.ada_legality.specs.declared.parts.ActualPart.{ActualPart}
use Rattle.ada_legality.specs.declared.parts.FormalPart.{FormalPart}
use Rattle.ada_legality.specs.declared.parts.Wanted.{Wanted}
use Rattle.ada_legality.specs.declared.reading.Read.{Read}
use Rattle.ada_legality.specs.declared.reading.Typed.{Typed}
use Rattle.ada_legality.specs.declared.standing.Known.{Known}
use Rattle.ada_regions.specs.PredefinedUnits.{names_of_formals}
use Rattle.ada_regions.specs.Words.{and_then}
use Rattle.ada_regions.specs.declared.entities.Denoted.{Denoted}
use Rattle.ada_regions.specs.declared.entities.EntityKind.{EntityKind}
use Rattle.ada_regions.specs.declared.predefined.Operation.{Operation}
use Rattle.ada_regions.specs.declared.types.AdaType.{AdaType}
use Rattle.ada_regions.specs.declared.types.Formal.{Formal}
use Rattle.ada_regions.specs.declared.types.Mode.{Mode}
use Rattle.ada_regions.specs.declared.types.Subtype.{Subtype}
use Rattle.ada_regions.specs.TypeKinds.{is_span_type}
use Rattle.ann_base.specs.declared.places.Place.{Place}
use Rattle.std.specs.List.{list_all, list_any}
use Rattle.std.specs.Prelude.{Bool, List, None, Option, Some, [], codes, cond, eqb, false}
use Rattle.std.specs.Prelude.{is_none, is_some, length, ltb, map, not, option_map, slice_get}
use Rattle.std.specs.Prelude.{suc, take, true, unwrap_or, ℕ, ◌&&◌, ◌++◌, ◌||◌, ◌∷◌}
use Rattle.std.specs.Str.{bytes_eq}
use Rattle.ada_regions.specs.declared.entities.Denoted.TheVariants as denotes
use Rattle.ada_regions.specs.declared.entities.EntityKind.TheVariants as entity
use Rattle.ada_regions.specs.declared.types.Mode.TheVariants as mode
use Rattle.ada_regions.specs.declared.predefined.Operation.TheVariants as operations
use Rattle.ada_legality.specs.declared.rules.Rule.TheVariants as rule
use Rattle.ada_regions.specs.declared.types.AdaType.TheVariants as types
use Rattle.ada_legality.specs.declared.reading.Typed.TheVariants as typing
use Rattle.ada_legality.specs.declared.parts.Wanted.TheVariants as wanting

-- ---- formals

abbrev pub wanted_subtype : Option Subtype → Wanted
wanted_subtype s = wanting.OfType (option_map (λ x. x.of_type) s)

-- a formal of the source
abbrev pub formal_part : Formal → FormalPart
formal_part f =
    record {
      name = f.name;
      mode = f.mode;
      wanted = wanted_subtype f.subtype;
      may_be_omitted = false;
    }

-- the formals of a subprogram or an entry
unfoldable pub formals_of_kind : EntityKind → List FormalPart
formals_of_kind (entity.Subprogram number is_function specified formals unit) =
    map formal_part formals
formals_of_kind (entity.Entry number unit formals) = map formal_part formals
formals_of_kind _ = []

-- an index and the argument of Image have no name
abbrev pub without_name : Option AdaType → List FormalPart
without_name t =
    record { name = []; mode = mode.In; wanted = wanting.OfType t; may_be_omitted = false } ∷ []

-- a formal of mode in
abbrev pub input : AdaType → Mode × Wanted
input t = (mode.In, wanting.OfType (Some t))

-- a formal of mode out
abbrev pub output : AdaType → Mode × Wanted
output t = (mode.Out, wanting.OfType (Some t))

-- a formal of mode in out
abbrev pub changed : AdaType → Mode × Wanted
changed t = (mode.InOut, wanting.OfType (Some t))

-- a formal for a handler
abbrev pub handler_for : AdaType → Mode × Wanted
handler_for t = (mode.In, wanting.HandlerOf t)

-- modes and types of the formals of predefined subprograms; a moment where it is a span
unfoldable pub parts_of_operation : Operation → Bool → List (Mode × Wanted)
parts_of_operation operations.PutLine is_span = (mode.In, wanting.OfType None) ∷ []
parts_of_operation operations.Clock is_span = []
parts_of_operation operations.Microseconds is_span = input types.Integer ∷ []
parts_of_operation operations.Milliseconds is_span = input types.Integer ∷ []
parts_of_operation operations.Seconds is_span = input types.Integer ∷ []
parts_of_operation operations.Minutes is_span = input types.Integer ∷ []
parts_of_operation operations.ToDuration is_span = input types.TimeSpan ∷ []
parts_of_operation operations.ToTimeSpan is_span = input types.Duration ∷ []
parts_of_operation operations.SetEvent is_span =
    changed types.TimingEvent ∷ input (cond is_span types.TimeSpan types.Time)
    ∷ handler_for types.TimingEvent ∷ []
parts_of_operation operations.CancelEvent is_span =
    changed types.TimingEvent ∷ output types.Boolean ∷ []
parts_of_operation operations.TimeOfEvent is_span = input types.TimingEvent ∷ []
parts_of_operation operations.ExecutionClock is_span = input types.TaskId ∷ []
parts_of_operation operations.SetTimer is_span =
    changed types.Timer ∷ input (cond is_span types.TimeSpan types.CpuTime)
    ∷ handler_for types.Timer ∷ []
parts_of_operation operations.CancelTimer is_span = changed types.Timer ∷ output types.Boolean ∷ []
parts_of_operation operations.TimeRemaining is_span = input types.Timer ∷ []
parts_of_operation operations.AddTask is_span = changed types.GroupBudget ∷ input types.TaskId ∷ []
parts_of_operation operations.RemoveTask is_span =
    changed types.GroupBudget ∷ input types.TaskId ∷ []
parts_of_operation operations.Replenish is_span =
    changed types.GroupBudget ∷ input types.TimeSpan ∷ []
parts_of_operation operations.Add is_span = changed types.GroupBudget ∷ input types.TimeSpan ∷ []
parts_of_operation operations.BudgetHasExpired is_span = input types.GroupBudget ∷ []
parts_of_operation operations.BudgetRemaining is_span = input types.GroupBudget ∷ []
parts_of_operation operations.SetBudget is_span =
    changed types.GroupBudget ∷ handler_for types.GroupBudget ∷ []
parts_of_operation operations.CancelBudget is_span =
    changed types.GroupBudget ∷ output types.Boolean ∷ []
parts_of_operation operations.SetPriority is_span = input types.Integer ∷ input types.TaskId ∷ []
parts_of_operation operations.GetPriority is_span = input types.TaskId ∷ []
parts_of_operation operations.CurrentTask is_span = []
parts_of_operation operations.SetQuantum is_span = input types.Integer ∷ input types.TimeSpan ∷ []
parts_of_operation operations.SetDeadline is_span = input types.Time ∷ input types.TaskId ∷ []
parts_of_operation operations.GetDeadline is_span = input types.TaskId ∷ []
parts_of_operation operations.DelayUntilAndSetDeadline is_span =
    input types.Time ∷ input types.TimeSpan ∷ []
parts_of_operation operations.PortValue is_span = input types.Integer ∷ []

-- the task of these is the one that calls, where it is not given
abbrev pub has_own_task : Operation → Bool
has_own_task operations.ExecutionClock = true
has_own_task operations.SetPriority = true
has_own_task operations.GetPriority = true
has_own_task operations.SetDeadline = true
has_own_task operations.GetDeadline = true
has_own_task _ = false

-- the names of the formals, where the moment has the name for a span or that for a moment
abbrev pub moment_name : Bool → List ℕ
moment_name true = codes "in_time"
moment_name false = codes "at_time"

-- the names of a predefined subprogram's formals
unfoldable pub formal_names : Operation → Bool → List (List ℕ)
formal_names operations.SetEvent is_span =
    codes "event" ∷ moment_name is_span ∷ codes "handler" ∷ []
formal_names operations.SetTimer is_span = codes "tm" ∷ moment_name is_span ∷ codes "handler" ∷ []
formal_names o is_span = names_of_formals o

-- the last formal may be omitted
abbrev pub last_omitted : Bool → List (List ℕ) → Bool
last_omitted own_task [] = own_task
last_omitted own_task (n ∷ rest) = false

-- formals from their names and parts
unfoldable pub named_parts : Bool → List (List ℕ) → List (Mode × Wanted) → List FormalPart
named_parts own_task [] parts = []
named_parts own_task (n ∷ ns) [] = []
named_parts own_task (n ∷ ns) (p ∷ ps) =
    record { name = n; mode = p.0; wanted = p.1; may_be_omitted = last_omitted own_task ns }
    ∷ named_parts own_task ns ps

-- the formals of a predefined subprogram
unfoldable pub formals_of_operation : Operation → Bool → List FormalPart
formals_of_operation o is_span =
    named_parts (has_own_task o) (formal_names o is_span) (parts_of_operation o is_span)

-- ---- the moment of a Set_Handler (D.14.1, D.15): told by its name, else by the second actual's
-- type

-- an actual is given by this name
abbrev pub gives_name : List ℕ → ActualPart → Bool
gives_name name a = unwrap_or (option_map (bytes_eq name) a.formal) false

-- some actual is given by this name
unfoldable pub has_named : List ℕ → List ActualPart → Bool
has_named name actuals = list_any (gives_name name) actuals

-- the type of an actual without a name
abbrev pub positional : ActualPart → Option Typed
positional a = cond (is_some a.formal) None (Some a.read.typed)

-- the type of the second actual, where it has no name
abbrev pub second_positional : List ActualPart → Option Typed
second_positional actuals = and_then (slice_get actuals 1) positional

-- where nothing tells it, a timer has a span and an event a moment
abbrev pub has_span_first : Operation → Bool
has_span_first operations.SetTimer = true
has_span_first _ = false

-- a span, where the type tells it
abbrev pub span_if_typed : Bool → Typed → Bool
span_if_typed first (typing.OfSubtype s) =
    cond (is_span_type s.of_type) true (cond (is_of_time s.of_type) false first)
span_if_typed first _ = first

-- a span, by the names that are there or by the second actual
abbrev pub span_by : Bool → Bool → Bool → Option Typed → Bool
span_by first true at_time second = true
span_by first false true second = false
span_by first false false second = unwrap_or (option_map (span_if_typed first) second) first

-- the moment of a Set_Handler is a span
unfoldable pub moment_is_span : Operation → List ActualPart → Bool
moment_is_span o actuals =
    span_by (has_span_first o) (has_named (moment_name true) actuals)
    (has_named (moment_name false) actuals) (second_positional actuals)

-- ---- the formals of what is called

-- those of a predefined subprogram
unfoldable pub formals_of_item : Option Operation → List ActualPart → List FormalPart
formals_of_item None actuals = []
formals_of_item (Some o) actuals = formals_of_operation o (moment_is_span o actuals)

-- those of what is denoted
unfoldable pub formals_denoted : Known → List ActualPart → Denoted → List FormalPart
formals_denoted k actuals (denotes.Item u item) = formals_of_item (operation_of item) actuals
formals_denoted k actuals d =
    unwrap_or (option_map formals_of_kind (denoted_kind k.names d)) []

-- ---- actuals and formals by number and name (6.4.1)

abbrev pub is_formal_named : List ℕ → FormalPart → Bool
is_formal_named name f = bytes_eq f.name name

-- a name is one of the formals'
abbrev pub names_formal : List FormalPart → List ℕ → Bool
names_formal formals name = list_any (is_formal_named name) formals

-- the name of the formal in this place, where it is given in place
abbrev pub formal_at : List FormalPart → ℕ → List ℕ
formal_at formals at = unwrap_or (option_map (λ f. f.name) (slice_get formals at)) []

-- an actual gives the formal of this name by its place
abbrev pub given_in_place : List FormalPart → ActualPart → ℕ → List ℕ → Bool
given_in_place formals a at name = is_none a.formal && bytes_eq (formal_at formals at) name

-- those before give the formal of this name already, in its place or by its name
unfoldable pub given_before : List FormalPart → List ActualPart → ℕ → List ℕ → Bool
given_before formals [] at name = false
given_before formals (a ∷ before) at name =
    gives_name name a
    || (given_in_place formals a at name || given_before formals before (suc at) name)

-- a name stands before
abbrev pub some_are_named : List ActualPart → Bool
some_are_named before = list_any (λ a. is_some a.formal) before

-- an actual is for one formal, which no other before it is for; one without a name stands before
-- those with one
unfoldable pub is_for_a_formal : List FormalPart → List ActualPart → Option (List ℕ) → Bool
is_for_a_formal formals before None =
    not (some_are_named before) && ltb (length before) (length formals)
is_for_a_formal formals before (Some name) =
    names_formal formals name && not (given_before formals before 0 name)

-- the actuals that are for no formal, from this place on
unfoldable pub stray_actuals : List FormalPart → List ActualPart → ℕ → List ActualPart → Found
stray_actuals formals actuals at [] = []
stray_actuals formals actuals at (a ∷ rest) =
    broken_unless rule.Actuals (is_for_a_formal formals (take at actuals) a.formal) a.place
    ++ stray_actuals formals actuals (suc at) rest

-- an actual that has a name and no formal, or that stands in no place
unfoldable pub is_misnamed : List FormalPart → List ActualPart → Option (List ℕ) → Bool
is_misnamed formals before None = some_are_named before
is_misnamed formals before (Some name) = not (is_for_a_formal formals before (Some name))

-- some actual is misnamed, from this place on
unfoldable pub some_are_misnamed : List FormalPart → List ActualPart → ℕ → List ActualPart → Bool
some_are_misnamed formals actuals at [] = false
some_are_misnamed formals actuals at (a ∷ rest) =
    is_misnamed formals (take at actuals) a.formal
    || some_are_misnamed formals actuals (suc at) rest

-- a formal has its actual, or may be omitted
abbrev pub is_given : List FormalPart → List ActualPart → FormalPart → Bool
is_given formals actuals f = f.may_be_omitted || given_before formals actuals 0 f.name

-- each formal has its actual
unfoldable pub all_given : List FormalPart → List ActualPart → Bool
all_given formals actuals = list_all (is_given formals actuals) formals

-- actuals that do not fit formals by number and name: a stray one, and the call where some are too
-- few
unfoldable pub wrong_actuals : Place → List FormalPart → List ActualPart → Found
wrong_actuals call formals actuals =
    broken_unless rule.Actuals
    (all_given formals actuals || some_are_misnamed formals actuals 0 actuals) call
    ++ stray_actuals formals actuals 0 actuals

-- an actual is for the formal of this number and name
abbrev pub is_for : ℕ → List ℕ → ℕ → Option (List ℕ) → Bool
is_for number name at None = eqb at number
is_for number name at (Some formal) = bytes_eq formal name

-- the actual for a formal, from this place on
unfoldable pub actual_from : ℕ → List ℕ → ℕ → List ActualPart → Option Read
actual_from number name at [] = None
actual_from number name at (a ∷ rest) =
    cond (is_for number name at a.formal) (Some a.read) (actual_from number name (suc at) rest)
