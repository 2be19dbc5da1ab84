-- The predefined units, as one table: which units stand in which, and what each declares (annex A, C.7.1, annex D). The
-- numbers that the standard leaves open are this profile's: 31 levels of Priority, or 98 where the range is wide, and
-- times of 2^62 microseconds on both sides of the start.
use Rattle.std.specs.Prelude.{ℕ, suc, ℤ, pos, Bool, true, false, cond, List, [], ◌∷◌, Option, Some, None, codes, eqb}
use Rattle.profile_image.specs.declared.limits.TheConstants.{INTEGER_FIRST, INTEGER_LAST, TIME_FIRST, TIME_LAST}
use Rattle.ann_base.specs.declared.exceptions.Raised.TheVariants as raised
use Rattle.profile_image.specs.declared.values.Value.TheVariants as value
use Rattle.profile_image.specs.declared.values.Constraint.{Constraint}
use Rattle.profile_image.specs.declared.values.Constraint.TheVariants as constraint
use Rattle.ada_regions.specs.declared.types.AdaType.{AdaType}
use Rattle.ada_regions.specs.declared.types.AdaType.TheVariants as types
use Rattle.ada_regions.specs.declared.types.Subtype.{Subtype}
use Rattle.ada_regions.specs.declared.predefined.TheConstants.{DEFAULT_PRIORITY, DEFAULT_WIDE_PRIORITY}
use Rattle.ada_regions.specs.declared.predefined.TheConstants.{LAST_WIDE_PRIORITY}
use Rattle.ada_regions.specs.declared.predefined.PredefinedUnit.{PredefinedUnit}
use Rattle.ada_regions.specs.declared.predefined.PredefinedUnit.TheVariants as units
use Rattle.ada_regions.specs.declared.predefined.Operation.{Operation}
use Rattle.ada_regions.specs.declared.predefined.Operation.TheVariants as operations
use Rattle.ada_regions.specs.declared.predefined.Predefined.{Predefined}
use Rattle.ada_regions.specs.declared.predefined.Predefined.TheVariants as items
use Rattle.ada_regions.specs.Words.{entry_named}

-- ---- units

abbrev pub unit_number : PredefinedUnit → ℕ
unit_number units.Standard = 0
unit_number units.Ada = 1
unit_number units.System = 2
unit_number units.TextIo = 3
unit_number units.RealTime = 4
unit_number units.TimingEvents = 5
unit_number units.ExecutionTime = 6
unit_number units.Timers = 7
unit_number units.GroupBudgets = 8
unit_number units.DynamicPriorities = 9
unit_number units.TaskIdentification = 10
unit_number units.Dispatching = 11
unit_number units.RoundRobin = 12
unit_number units.Edf = 13
unit_number units.Finalization = 14
unit_number units.ScriptPorts = 15

unfoldable pub same_unit : PredefinedUnit → PredefinedUnit → Bool
same_unit a b = eqb (unit_number a) (unit_number b)

-- the units that stand in no other
abbrev pub root_units : List (List ℕ × PredefinedUnit)
root_units =
    (codes "standard", units.Standard) ∷ (codes "ada", units.Ada) ∷ (codes "system", units.System)
    ∷ (codes "script_ports", units.ScriptPorts) ∷ []

-- the children of a unit (10.1.1)
abbrev pub child_units : PredefinedUnit → List (List ℕ × PredefinedUnit)
child_units units.Standard = []
child_units units.Ada =
    (codes "text_io", units.TextIo) ∷ (codes "real_time", units.RealTime)
    ∷ (codes "execution_time", units.ExecutionTime)
    ∷ (codes "dynamic_priorities", units.DynamicPriorities) ∷ (codes "task_identification", units.TaskIdentification)
    ∷ (codes "dispatching", units.Dispatching) ∷ (codes "finalization", units.Finalization) ∷ []
child_units units.System = []
child_units units.TextIo = []
child_units units.RealTime = (codes "timing_events", units.TimingEvents) ∷ []
child_units units.TimingEvents = []
child_units units.ExecutionTime = (codes "timers", units.Timers) ∷ (codes "group_budgets", units.GroupBudgets) ∷ []
child_units units.Timers = []
child_units units.GroupBudgets = []
child_units units.DynamicPriorities = []
child_units units.TaskIdentification = []
child_units units.Dispatching = (codes "round_robin", units.RoundRobin) ∷ (codes "edf", units.Edf) ∷ []
child_units units.RoundRobin = []
child_units units.Edf = []
child_units units.Finalization = []
child_units units.ScriptPorts = []

unfoldable pub child_unit : PredefinedUnit → List ℕ → Option PredefinedUnit
child_unit unit name = entry_named name (child_units unit)

unfoldable pub root_unit : List ℕ → Option PredefinedUnit
root_unit name = entry_named name root_units

-- a unit itself, or one in which it stands
unfoldable pub parent_unit : PredefinedUnit → Option PredefinedUnit
parent_unit units.Standard = None
parent_unit units.Ada = None
parent_unit units.System = None
parent_unit units.TextIo = Some units.Ada
parent_unit units.RealTime = Some units.Ada
parent_unit units.TimingEvents = Some units.RealTime
parent_unit units.ExecutionTime = Some units.Ada
parent_unit units.Timers = Some units.ExecutionTime
parent_unit units.GroupBudgets = Some units.ExecutionTime
parent_unit units.DynamicPriorities = Some units.Ada
parent_unit units.TaskIdentification = Some units.Ada
parent_unit units.Dispatching = Some units.Ada
parent_unit units.RoundRobin = Some units.Dispatching
parent_unit units.Edf = Some units.Dispatching
parent_unit units.Finalization = Some units.Ada
parent_unit units.ScriptPorts = None

-- ---- subtypes

abbrev pub subtype_with : AdaType → Constraint → Subtype
subtype_with t range = record { of_type = t; range = range }

abbrev pub free : AdaType → Predefined
free t = items.Mark (subtype_with t constraint.Free)

abbrev pub integers : ℤ → ℤ → Predefined
integers low high = items.Mark (subtype_with types.Integer (constraint.Whole low high))

abbrev pub whole_integer : Subtype
whole_integer = subtype_with types.Integer (constraint.Whole INTEGER_FIRST INTEGER_LAST)

abbrev pub whole_boolean : Subtype
whole_boolean = subtype_with types.Boolean (constraint.Truth false true)

abbrev pub whole_duration : Subtype
whole_duration = subtype_with types.Duration (constraint.Ticks TIME_FIRST TIME_LAST)

-- ---- what each unit declares, where the last Priority is given

abbrev pub default_priority : ℕ → ℕ
default_priority last = cond (eqb last LAST_WIDE_PRIORITY) DEFAULT_WIDE_PRIORITY DEFAULT_PRIORITY

unfoldable pub declared_in_standard : List (List ℕ × Predefined)
declared_in_standard =
    (codes "integer", items.Mark whole_integer) ∷ (codes "natural", integers (pos 0) INTEGER_LAST)
    ∷ (codes "positive", integers (pos 1) INTEGER_LAST)
    ∷ (codes "boolean", items.Mark whole_boolean) ∷ (codes "false", items.Truth false)
    ∷ (codes "true", items.Truth true)
    ∷ (codes "duration", items.Mark whole_duration) ∷ (codes "constraint_error", items.Exception raised.Constraint)
    ∷ (codes "program_error", items.Exception raised.Program) ∷ (codes "storage_error", items.Exception raised.Storage)
    ∷ (codes "tasking_error", items.Exception raised.Tasking) ∷ []

unfoldable pub declared_in_system : ℕ → List (List ℕ × Predefined)
declared_in_system last =
    (codes "any_priority", integers (pos 0) (pos (suc last))) ∷ (codes "priority", integers (pos 0) (pos last))
    ∷ (codes "interrupt_priority", integers (pos (suc last)) (pos (suc last)))
    ∷ (codes "default_priority", items.Constant types.Integer (value.Whole (pos (default_priority last)))) ∷ []

unfoldable pub declared_in_text_io : List (List ℕ × Predefined)
declared_in_text_io = (codes "put_line", items.Operation operations.PutLine) ∷ []

unfoldable pub declared_in_real_time : List (List ℕ × Predefined)
declared_in_real_time =
    (codes "time", free types.Time) ∷ (codes "time_span", free types.TimeSpan)
    ∷ (codes "time_first", items.Constant types.Time (value.Ticks (pos 0)))
    ∷ (codes "time_last", items.Constant types.Time (value.Ticks TIME_LAST))
    ∷ (codes "time_span_zero", items.Constant types.TimeSpan (value.Ticks (pos 0)))
    ∷ (codes "clock", items.Operation operations.Clock)
    ∷ (codes "microseconds", items.Operation operations.Microseconds)
    ∷ (codes "milliseconds", items.Operation operations.Milliseconds)
    ∷ (codes "seconds", items.Operation operations.Seconds) ∷ (codes "minutes", items.Operation operations.Minutes)
    ∷ (codes "to_duration", items.Operation operations.ToDuration)
    ∷ (codes "to_time_span", items.Operation operations.ToTimeSpan) ∷ []

unfoldable pub declared_in_timing_events : List (List ℕ × Predefined)
declared_in_timing_events =
    (codes "timing_event", free types.TimingEvent) ∷ (codes "set_handler", items.Operation operations.SetEvent)
    ∷ (codes "cancel_handler", items.Operation operations.CancelEvent)
    ∷ (codes "time_of_event", items.Operation operations.TimeOfEvent) ∷ []

unfoldable pub declared_in_execution_time : List (List ℕ × Predefined)
declared_in_execution_time = (codes "cpu_time", free types.CpuTime)
    ∷ (codes "clock", items.Operation operations.ExecutionClock) ∷ []

unfoldable pub declared_in_timers : List (List ℕ × Predefined)
declared_in_timers =
    (codes "timer", free types.Timer) ∷ (codes "set_handler", items.Operation operations.SetTimer)
    ∷ (codes "cancel_handler", items.Operation operations.CancelTimer)
    ∷ (codes "time_remaining", items.Operation operations.TimeRemaining)
    ∷ (codes "timer_resource_error", items.Exception raised.TimerResource) ∷ []

unfoldable pub declared_in_group_budgets : List (List ℕ × Predefined)
declared_in_group_budgets =
    (codes "group_budget", free types.GroupBudget) ∷ (codes "add_task", items.Operation operations.AddTask)
    ∷ (codes "remove_task", items.Operation operations.RemoveTask)
    ∷ (codes "replenish", items.Operation operations.Replenish)
    ∷ (codes "add", items.Operation operations.Add)
    ∷ (codes "budget_has_expired", items.Operation operations.BudgetHasExpired)
    ∷ (codes "budget_remaining", items.Operation operations.BudgetRemaining)
    ∷ (codes "set_handler", items.Operation operations.SetBudget)
    ∷ (codes "cancel_handler", items.Operation operations.CancelBudget)
    ∷ (codes "group_budget_error", items.Exception raised.GroupBudget) ∷ []

unfoldable pub declared_in_dynamic_priorities : List (List ℕ × Predefined)
declared_in_dynamic_priorities =
    (codes "set_priority", items.Operation operations.SetPriority)
    ∷ (codes "get_priority", items.Operation operations.GetPriority) ∷ []

unfoldable pub declared_in_task_identification : List (List ℕ × Predefined)
declared_in_task_identification =
    (codes "task_id", free types.TaskId) ∷ (codes "null_task_id", items.Constant types.TaskId (value.Task None))
    ∷ (codes "current_task", items.Operation operations.CurrentTask) ∷ []

unfoldable pub declared_in_dispatching : List (List ℕ × Predefined)
declared_in_dispatching = (codes "dispatching_policy_error", items.Exception raised.DispatchingPolicy) ∷ []

unfoldable pub declared_in_round_robin : List (List ℕ × Predefined)
declared_in_round_robin = (codes "set_quantum", items.Operation operations.SetQuantum) ∷ []

unfoldable pub declared_in_edf : List (List ℕ × Predefined)
declared_in_edf =
    (codes "set_deadline", items.Operation operations.SetDeadline)
    ∷ (codes "get_deadline", items.Operation operations.GetDeadline)
    ∷ (codes "delay_until_and_set_deadline", items.Operation operations.DelayUntilAndSetDeadline) ∷ []

unfoldable pub declared_in_finalization : List (List ℕ × Predefined)
declared_in_finalization = (codes "limited_controlled", free types.LimitedControlled)
    ∷ (codes "controlled", free types.Controlled) ∷ []

unfoldable pub declared_in_script_ports : List (List ℕ × Predefined)
declared_in_script_ports = (codes "value", items.Operation operations.PortValue) ∷ []

abbrev pub declared_in : ℕ → PredefinedUnit → List (List ℕ × Predefined)
declared_in last units.Standard = declared_in_standard
declared_in last units.Ada = []
declared_in last units.System = declared_in_system last
declared_in last units.TextIo = declared_in_text_io
declared_in last units.RealTime = declared_in_real_time
declared_in last units.TimingEvents = declared_in_timing_events
declared_in last units.ExecutionTime = declared_in_execution_time
declared_in last units.Timers = declared_in_timers
declared_in last units.GroupBudgets = declared_in_group_budgets
declared_in last units.DynamicPriorities = declared_in_dynamic_priorities
declared_in last units.TaskIdentification = declared_in_task_identification
declared_in last units.Dispatching = declared_in_dispatching
declared_in last units.RoundRobin = declared_in_round_robin
declared_in last units.Edf = declared_in_edf
declared_in last units.Finalization = declared_in_finalization
declared_in last units.ScriptPorts = declared_in_script_ports

unfoldable pub item_in : ℕ → PredefinedUnit → List ℕ → Option Predefined
item_in last unit name = entry_named name (declared_in last unit)

-- ---- the formals of predefined subprograms, by name; those that may be left out stand last

abbrev pub names_of_formals : Operation → List (List ℕ)
names_of_formals operations.PutLine = codes "item" ∷ []
names_of_formals operations.Clock = []
names_of_formals operations.Microseconds = codes "us" ∷ []
names_of_formals operations.Milliseconds = codes "ms" ∷ []
names_of_formals operations.Seconds = codes "s" ∷ []
names_of_formals operations.Minutes = codes "m" ∷ []
names_of_formals operations.ToDuration = codes "ts" ∷ []
names_of_formals operations.ToTimeSpan = codes "d" ∷ []
names_of_formals operations.SetEvent = codes "event" ∷ codes "at_time" ∷ codes "handler" ∷ []
names_of_formals operations.CancelEvent = codes "event" ∷ codes "cancelled" ∷ []
names_of_formals operations.TimeOfEvent = codes "event" ∷ []
names_of_formals operations.ExecutionClock = codes "t" ∷ []
names_of_formals operations.SetTimer = codes "tm" ∷ codes "in_time" ∷ codes "handler" ∷ []
names_of_formals operations.CancelTimer = codes "tm" ∷ codes "cancelled" ∷ []
names_of_formals operations.TimeRemaining = codes "tm" ∷ []
names_of_formals operations.AddTask = codes "gb" ∷ codes "t" ∷ []
names_of_formals operations.RemoveTask = codes "gb" ∷ codes "t" ∷ []
names_of_formals operations.Replenish = codes "gb" ∷ codes "to" ∷ []
names_of_formals operations.Add = codes "gb" ∷ codes "interval" ∷ []
names_of_formals operations.BudgetHasExpired = codes "gb" ∷ []
names_of_formals operations.BudgetRemaining = codes "gb" ∷ []
names_of_formals operations.SetBudget = codes "gb" ∷ codes "handler" ∷ []
names_of_formals operations.CancelBudget = codes "gb" ∷ codes "cancelled" ∷ []
names_of_formals operations.SetPriority = codes "priority" ∷ codes "t" ∷ []
names_of_formals operations.GetPriority = codes "t" ∷ []
names_of_formals operations.CurrentTask = []
names_of_formals operations.SetQuantum = codes "pri" ∷ codes "quantum" ∷ []
names_of_formals operations.SetDeadline = codes "d" ∷ codes "t" ∷ []
names_of_formals operations.GetDeadline = codes "t" ∷ []
names_of_formals operations.DelayUntilAndSetDeadline = codes "delay_until_time" ∷ codes "deadline_offset" ∷ []
names_of_formals operations.PortValue = codes "n" ∷ []
