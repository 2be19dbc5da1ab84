-- The value of an expression, or its exception (clause 4).
use Rattle.std.specs.Prelude.{ℕ, zero, suc, ◌+◌, ℤ, pos, ◌-ℤ◌, ◌*ℤ◌, int_le, nat_abs, Bool, true, false, cond, ◌&&◌}
use Rattle.std.specs.Prelude.{List, [], Option, Some, None, Ok, Err, eqb, find, length, option_and_then, slice_index_or}
use Rattle.profile_image.specs.declared.limits.TheConstants.{LAST_OUTSIDE_LINE}
use Rattle.ann_base.specs.Results.{◌>>=◌}
use Rattle.ann_base.specs.declared.identities.TaskNo.{TaskNo}
use Rattle.ann_base.specs.declared.identities.ObjectNo.{ObjectNo}
use Rattle.ann_base.specs.declared.identities.CallNo.{CallNo}
use Rattle.ann_base.specs.declared.exceptions.Raised.TheVariants as exception
use Rattle.trace_text.specs.declared.events.Who.{Who}
use Rattle.trace_text.specs.declared.events.Who.TheVariants as who
use Rattle.profile_image.specs.declared.limits.TheConstants.{PROTECTED_CELLS, CONTROLLED_CELLS}
use Rattle.profile_image.specs.declared.numbers.DeclNo.{DeclNo}
use Rattle.profile_image.specs.declared.numbers.ExprNo.{ExprNo}
use Rattle.profile_image.specs.declared.numbers.ProtectedUnitNo.{ProtectedUnitNo}
use Rattle.profile_image.specs.declared.image.Image.{Image}
use Rattle.profile_image.specs.declared.declarations.DeclarationKind.{DeclarationKind}
use Rattle.profile_image.specs.declared.declarations.DeclarationKind.TheVariants as kind
use Rattle.profile_image.specs.declared.declarations.Entry.{Entry}
use Rattle.profile_image.specs.declared.declarations.EntryUnit.{EntryUnit}
use Rattle.profile_image.specs.declared.declarations.EntryUnit.TheVariants as unit
use Rattle.profile_image.specs.declared.expressions.Expression.{Expression}
use Rattle.profile_image.specs.declared.expressions.Expression.TheVariants as of
use Rattle.profile_image.specs.declared.expressions.ObjectName.{ObjectName}
use Rattle.profile_image.specs.declared.expressions.ObjectName.TheVariants.{Declared, OwnComponent, Component}
use Rattle.profile_image.specs.declared.expressions.VariableName.{VariableName}
use Rattle.profile_image.specs.declared.expressions.BinaryOperator.{BinaryOperator}
use Rattle.profile_image.specs.declared.values.Value.{Value}
use Rattle.profile_image.specs.declared.values.Value.TheVariants.{Whole, Truth, Literal, Ticks, Task, Thing}
use Rattle.profile_machine.specs.declared.world.World.{World}
use Rattle.profile_machine.specs.declared.world.scopes.ScopeId.{ScopeId}
use Rattle.profile_machine.specs.declared.world.scopes.ScopeInUse.{ScopeInUse}
use Rattle.profile_machine.specs.declared.world.scopes.Located.{Located}
use Rattle.profile_machine.specs.declared.world.scopes.Variable.{Variable}
use Rattle.profile_machine.specs.declared.world.objects.Object.{Object}
use Rattle.profile_machine.specs.declared.world.appointments.Appointment.{Appointment}
use Rattle.profile_machine.specs.declared.world.appointments.Due.{Due}
use Rattle.profile_machine.specs.declared.world.appointments.Timer.{Timer}
use Rattle.profile_machine.specs.declared.world.appointments.TimerSetting.{TimerSetting}
use Rattle.profile_machine.specs.declared.world.appointments.Budget.{Budget}
use Rattle.profile_machine.specs.declared.world.appointments.Due.TheVariants as due_for
use Rattle.profile_machine.specs.declared.world.tasks.Task as world
use Rattle.profile_image.specs.Words.{same_object}
use Rattle.profile_image.specs.Program.{declaration_of, expression_of, entry_of}
use Rattle.profile_machine.specs.Tasks.{task_of, found_task, number_of}
use Rattle.profile_machine.specs.Scopes.{home, read_cell, scope_in_use, first_outwards, innermost}
use Rattle.profile_machine.specs.Operators.{Valued, unless, misfit, ticks, component_place}
use Rattle.profile_machine.specs.Operators.{unary_value, binary_value, decides}

-- what an expression sees: the program, the world, who evaluates it, the scope in use round it, and for a barrier
-- the object of which it is one
pub record Seen : Type 0 where
  pub program : Image
  pub world : World
  pub who : Who
  pub within : Option ScopeId
  pub object : Option ObjectNo

-- as somebody sees it at the first item of the own rest
abbrev pub seen_by : Image → World → Who → Seen
seen_by p w name = record { program = p; world = w; who = name; within = innermost w name; object = None }

-- ---- protected objects

abbrev pub is_object : ObjectNo → Object → Bool
is_object number o = same_object number o.number

abbrev pub object_of : World → ObjectNo → Option Object
object_of w number = find (is_object number) w.objects

abbrev pub is_of_unit : ProtectedUnitNo → Option Object → Bool
is_of_unit u None = false
is_of_unit u (Some o) = eqb u.0 o.unit.0

abbrev pub works_on_unit : World → ProtectedUnitNo → ScopeInUse → Bool
works_on_unit w u s = is_of_unit u (option_and_then (object_of w) s.object)

-- the object of the unit in whose body a name stands: the barrier's, or that of the nearest such body round it
abbrev pub own_object : Seen → ProtectedUnitNo → Option ObjectNo
own_object q u =
    elim (is_of_unit u (option_and_then (object_of q.world) q.object)) [
      | true ↦ q.object
      | false ↦ option_and_then (λ s. s.object) (first_outwards q.world (works_on_unit q.world u) q.within)
    ]

-- ---- names (4.1)

abbrev pub or_misfit : {X : Type 0} → Option X → Valued X
or_misfit None = misfit
or_misfit (Some x) = Ok x

-- a task is asked for: Null_Task_Id raises Program_Error (C.7.1, D.14.1)
abbrev pub must_be_task : Option TaskNo → Valued TaskNo
must_be_task None = Err exception.Program
must_be_task (Some t) = Ok t

abbrev pub home_of : Seen → DeclNo → Valued ScopeId
home_of q d = or_misfit (home q.world (declaration_of q.program d).scope q.within)

abbrev pub first_cell : Seen → DeclNo → ScopeId → Value
first_cell q d id = read_cell q.world id (declaration_of q.program d).place

-- a use of an object before its declaration's action raises Program_Error (own)
abbrev pub declared_already : Value → Valued Value
declared_already (Whole n) = Err exception.Program
declared_already (Truth b) = Ok (Truth b)
declared_already (Literal n) = Ok (Literal n)
declared_already (Ticks n) = Ok (Ticks n)
declared_already (Task t) = Ok (Task t)
declared_already (Thing n) = Ok (Thing n)

-- the task, or the number of the object, that a name denotes
abbrev pub thing : Seen → DeclNo → Valued Value
thing q d = home_of q d >>= λ id. declared_already (first_cell q d id)

abbrev pub thing_number : Value → ℕ
thing_number (Thing n) = n
thing_number _ = 0

abbrev pub number_of_thing : Seen → DeclNo → Valued ℕ
number_of_thing q d = thing q d >>= λ v. Ok (thing_number v)

abbrev pub task_in : Value → Option TaskNo
task_in (Task t) = t
task_in _ = None

abbrev pub object_number : Seen → DeclNo → Valued ObjectNo
object_number q d = number_of_thing q d >>= λ n. Ok (record { 0 = n })

-- where a controlled object stands: a parameter leads to the object on which its operation works
abbrev pub located_in : DeclNo → ScopeId → Option Located → Located
located_in d id (Some subject) = subject
located_in d id None = record { within = id; declared = d }

abbrev pub subject_of : Option ScopeInUse → Option Located
subject_of None = None
subject_of (Some s) = s.subject

abbrev pub is_parameter_kind : DeclarationKind → Bool
is_parameter_kind kind.Parameter = true
is_parameter_kind _ = false

abbrev pub is_parameter : Image → DeclNo → Bool
is_parameter p d = is_parameter_kind (declaration_of p d).kind

abbrev pub located : Seen → DeclNo → Valued Located
located q d =
    home_of q d >>= λ id. declared_already (first_cell q d id) >>= λ v.
    Ok (cond (is_parameter q.program d) (located_in d id (subject_of (scope_in_use q.world id)))
    (record { within = id; declared = d }))

-- the place of the first cell of a component: behind the cells that its object has of its own
abbrev pub component_at : Image → ℕ → Located → DeclNo → Variable
component_at p own_cells object component = record {
  within = object.within;
  place = (declaration_of p object.declared).place + own_cells + (declaration_of p component).place;
  declared = component;
}

abbrev pub component_of_own : Image → DeclNo → Option Object → Valued Variable
component_of_own p component None = misfit
component_of_own p component (Some o) = Ok (component_at p PROTECTED_CELLS o.located component)

-- the first cell of the object that has this name
abbrev pub object_cell : Seen → ObjectName → Valued Variable
object_cell q (Declared d) = home_of q d
    >>= λ id. Ok (record { within = id; place = (declaration_of q.program d).place; declared = d })
object_cell q (OwnComponent u component) =
    component_of_own q.program component (option_and_then (object_of q.world) (own_object q u))
object_cell q (Component d component) = located q d >>= λ l. Ok (component_at q.program CONTROLLED_CELLS l component)

abbrev pub shifted : ℕ → Variable → Variable
shifted by v = record v { place = v.place + by }

-- the component of an array with this index (4.1.1)
abbrev pub component_cell : Seen → Variable → Value → Valued Variable
component_cell q v index =
    or_misfit ((declaration_of q.program v.declared).index) >>= λ range. component_place range index
    >>= λ at. Ok (shifted at v)

abbrev pub indexed : (ExprNo → Valued Value) → Seen → Option ExprNo → Variable → Valued Variable
indexed value q None v = Ok v
indexed value q (Some e) v = value e >>= component_cell q v

-- the variable that has this name, by the values of its index
abbrev pub variable_by : (ExprNo → Valued Value) → Seen → VariableName → Valued Variable
variable_by value q name = object_cell q name.object >>= indexed value q name.index

abbrev pub read : World → Variable → Value
read w v = read_cell w v.within v.place

-- ---- what an expression may ask of tasks (D.5.1, D.14, D.2.6; own)

-- Null_Task_Id raises Program_Error, and a task that has terminated Tasking_Error
abbrev pub live_task : World → Option TaskNo → Valued world.Task
live_task w None = Err exception.Program
live_task w (Some t) = elim (found_task (who.Task t) w.tasks) [ None ↦ Err exception.Tasking | Some found ↦ Ok found ]

-- an omitted task is the calling one; in a handler there is none
abbrev pub named_task : (ExprNo → Valued Value) → Seen → Option ExprNo → Valued (Option TaskNo)
named_task value q None = Ok (number_of q.who)
named_task value q (Some e) = value e >>= λ v. Ok (task_in v)

abbrev pub of_task_by : (world.Task → Value) → (ExprNo → Valued Value) → Seen → Option ExprNo → Valued Value
of_task_by f value q task = named_task value q task >>= λ t. live_task q.world t >>= λ found. Ok (f found)

-- ---- events, timers, budgets and ports

abbrev pub is_event : ℕ → Due → Bool
is_event e (due_for.Event n handler) = eqb e n
is_event e (due_for.Delay t) = false
is_event e (due_for.Timeout c) = false
is_event e (due_for.Trigger t depth) = false

abbrev pub moment_of : Option Appointment → ℤ
moment_of None = pos 0
moment_of (Some a) = a.moment

-- the moment for which an event is set, or 0
abbrev pub event_moment : World → ℕ → ℤ
event_moment w e = moment_of (find (λ a. is_event e a.due) w.appointments)

abbrev pub no_timer : Timer
no_timer = record { task = record { 0 = 0 }; setting = None }

abbrev pub timer_of : World → ℕ → Timer
timer_of w k = slice_index_or w.timers k no_timer

-- what a set timer has left, or 0
abbrev pub time_left : Option TimerSetting → ℕ → ℤ
time_left None clock = pos 0
time_left (Some s) clock = s.value -ℤ pos clock

abbrev pub no_budget : Budget
no_budget = record { remaining = pos 0; handler = None }

abbrev pub budget_of : World → ℕ → Budget
budget_of w b = slice_index_or w.budgets b no_budget

-- the value of a port; they are numbered from 0
abbrev pub port_value : World → Value → Valued Value
port_value w (Whole n) =
    unless (int_le (pos 0) n
    && int_le n (pos LAST_OUTSIDE_LINE)) exception.Constraint (Whole (slice_index_or w.ports (nat_abs n) (pos 0)))
port_value w _ = misfit

-- ---- 'Count (9.9): of the object in whose body the name stands, or of the task that runs

abbrev pub queue_at : List (List CallNo) → ℕ → List CallNo
queue_at queues place = slice_index_or queues place []

abbrev pub queues_of : Option Object → List (List CallNo)
queues_of None = []
queues_of (Some o) = o.queues

abbrev pub own_queues : Seen → EntryUnit → List (List CallNo)
own_queues q (unit.Protected u) = queues_of (option_and_then (object_of q.world) (own_object q u))
own_queues q (unit.Task u) = (task_of q.world q.who).queues

abbrev pub count_of_entry : Seen → Entry → Value
count_of_entry q e = Whole (pos (length (queue_at (own_queues q e.unit) e.place)))

-- ---- expressions: operands from left to right

abbrev pub span : ℤ → Value → Valued Value
span factor (Whole n) = ticks (factor *ℤ n)
span factor _ = misfit

abbrev pub both_values : (ExprNo → Valued Value) → BinaryOperator → ExprNo → Value → Valued Value
both_values value operator right left =
    elim (decides operator left) [ true ↦ Ok left | false ↦ value right >>= λ v. binary_value operator left v ]

abbrev pub form_value : (ExprNo → Valued Value) → Seen → Expression → Valued Value
form_value value q (of.Known v) = Ok v
form_value value q (of.Variable name) = variable_by value q name >>= λ v. Ok (read q.world v)
form_value value q (of.Thing d) = thing q d
form_value value q (of.Unary operator operand) = value operand >>= unary_value operator
form_value value q (of.Binary operator left right) = value left >>= both_values value operator right
form_value value q (of.Count e) = Ok (count_of_entry q (entry_of q.program e))
form_value value q of.Clock = Ok (Ticks (pos q.world.time))
form_value value q (of.Span factor count) = value count >>= span factor
form_value value q (of.SameTicks e) = value e
form_value value q of.CurrentTask = Ok (Task (number_of q.who))
form_value value q (of.ExecutionTime task) = of_task_by (λ t. Ticks (pos t.cpu_ticks)) value q task
form_value value q (of.Priority task) = of_task_by (λ t. Whole (pos t.base)) value q task
form_value value q (of.Deadline task) = of_task_by (λ t. Ticks t.deadline) value q task
form_value value q (of.TimeOfEvent d) = number_of_thing q d >>= λ n. Ok (Ticks (event_moment q.world n))
form_value value q (of.TimeRemaining d) =
    number_of_thing q d >>= λ n. live_task q.world (Some (timer_of q.world n).task) >>= λ t.
    Ok (Ticks (time_left (timer_of q.world n).setting t.cpu_ticks))
form_value value q (of.BudgetHasExpired d) = number_of_thing q d
    >>= λ n. Ok (Truth (int_le (budget_of q.world n).remaining (pos 0)))
form_value value q (of.BudgetRemaining d) = number_of_thing q d >>= λ n. Ok (Ticks (budget_of q.world n).remaining)
form_value value q (of.PortValue n) = value n >>= port_value q.world

-- the fuel is the number of expressions, for an operand has a number of its own
abbrev pub value_by : ℕ → List Expression → Seen → ExprNo → Valued Value
value_by zero expressions q e = misfit
value_by (suc fuel) expressions q e = form_value (value_by fuel expressions q) q (expression_of expressions e)

abbrev pub value : Seen → ExprNo → Valued Value
value q e = value_by (suc (length q.program.expressions)) q.program.expressions q e

abbrev pub variable : Seen → VariableName → Valued Variable
variable q name = variable_by (value q) q name

abbrev pub optional_task : Seen → Option ExprNo → Valued (Option TaskNo)
optional_task q task = named_task (value q) q task

-- conditions and moments
abbrev pub truth_in : Value → Bool
truth_in (Truth b) = b
truth_in _ = false

abbrev pub ticks_in : Value → ℤ
ticks_in (Ticks n) = n
ticks_in _ = pos 0

abbrev pub whole_in : Value → ℤ
whole_in (Whole n) = n
whole_in _ = pos 0

abbrev pub condition : Seen → ExprNo → Valued Bool
condition q e = value q e >>= λ v. Ok (truth_in v)

abbrev pub moment : Seen → ExprNo → Valued ℤ
moment q e = value q e >>= λ v. Ok (ticks_in v)
