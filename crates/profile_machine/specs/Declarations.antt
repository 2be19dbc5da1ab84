-- The declaration of an object (3.3.1, 7.6, 9.4, D.14, D.15).
use Rattle.std.specs.Prelude.{ℕ, suc, not, List, [], ◌∷◌, ◌++◌, Option, Some, None, Ok, leb, length, take, drop, map}
use Rattle.ann_base.specs.Results.{◌>>=◌}
use Rattle.ann_base.specs.declared.identities.TaskNo.{TaskNo}
use Rattle.ann_base.specs.declared.exceptions.Raised.TheVariants as exception
use Rattle.profile_machine.specs.declared.world.lines.Line.TheVariants as line
use Rattle.trace_text.specs.declared.events.Created.TheVariants as created
use Rattle.trace_text.specs.declared.events.Who.{Who}
use Rattle.profile_image.specs.declared.limits.TheConstants.{PROTECTED_CELLS, CONTROLLED_CELLS, MOST_TIMERS}
use Rattle.profile_image.specs.declared.image.Image.{Image}
use Rattle.profile_image.specs.declared.numbers.DeclNo.{DeclNo}
use Rattle.profile_image.specs.declared.numbers.ControlledNo.{ControlledNo}
use Rattle.profile_image.specs.declared.numbers.ProtectedUnitNo.{ProtectedUnitNo}
use Rattle.profile_image.specs.declared.numbers.StatementNo.{StatementNo}
use Rattle.profile_image.specs.declared.declarations.DeclarationKind.{DeclarationKind}
use Rattle.profile_image.specs.declared.declarations.DeclarationKind.TheVariants as kind
use Rattle.profile_image.specs.declared.declarations.Initial.{Initial}
use Rattle.profile_image.specs.declared.declarations.Initial.TheVariants as initial
use Rattle.profile_image.specs.declared.expressions.ObjectName.TheVariants.{Declared}
use Rattle.profile_image.specs.declared.values.Value.{Value}
use Rattle.profile_image.specs.declared.values.Value.TheVariants.{Thing}
use Rattle.profile_machine.specs.declared.world.World.{World}
use Rattle.profile_machine.specs.declared.world.scopes.ScopeInUse.{ScopeInUse}
use Rattle.profile_machine.specs.declared.world.scopes.Located.{Located}
use Rattle.profile_machine.specs.declared.world.scopes.Variable.{Variable}
use Rattle.profile_machine.specs.declared.world.objects.Object.{Object}
use Rattle.profile_machine.specs.declared.world.Drawn.{Drawn}
use Rattle.profile_image.specs.Program.{declaration_of, next_of, scope_of}
use Rattle.profile_image.specs.Program.{protected_unit_of, controlled_of, initial_cells}
use Rattle.profile_machine.specs.declared.world.lines.Part.TheVariants.{Own}
use Rattle.profile_machine.specs.Steps.{Step, says, changes, looks, ◌▷◌}
use Rattle.profile_machine.specs.Frames.{goes, given}
use Rattle.profile_machine.specs.Scopes.{write_cell, edit_cells, scope_in_use, put_cells}
use Rattle.profile_machine.specs.Operators.{Valued, unless}
use Rattle.profile_machine.specs.Values.{Seen, value, object_cell, home_of, component_at}
use Rattle.profile_machine.specs.Values.{no_budget, first_cell, task_in, must_be_task}
use Rattle.profile_machine.specs.Statements.{sees, copy_cells}
use Rattle.profile_machine.specs.CallEnds.{store}

-- ---- initial values

-- without an initial value the cells get those with which their scope began, whatever they hold by now (own)
abbrev pub first_cells : Image → Option ScopeInUse → List Value
first_cells p None = []
first_cells p (Some s) = initial_cells (scope_of p s.scope)

abbrev pub default_cells : Image → World → Variable → List Value
default_cells p w v =
    take (declaration_of p v.declared).cells (drop v.place (first_cells p (scope_in_use w v.within)))

abbrev pub set_defaults : Image → Variable → World → World
set_defaults p v w = edit_cells v.within (put_cells v.place (default_cells p w v)) w

-- the cells of an object or component get its initial value; a failed range raises Constraint_Error
abbrev pub initialized : Seen → Variable → Initial → World → Valued World
initialized q v initial.Default w = Ok (set_defaults q.program v w)
initialized q v (initial.Scalar e) w = value q e >>= λ x. store q.program v x w
initialized q v (initial.Array source) w = object_cell q source >>= λ f. Ok (copy_cells q.program v f w)

abbrev pub initial_of : DeclarationKind → Initial
initial_of (kind.Object i) = i
initial_of (kind.Task u) = initial.Default
initial_of (kind.Protected u) = initial.Default
initial_of (kind.Controlled c) = initial.Default
initial_of kind.Event = initial.Default
initial_of (kind.Timer d) = initial.Default
initial_of kind.Budget = initial.Default
initial_of kind.Parameter = initial.Default
initial_of kind.Other = initial.Default

-- the components of a protected or controlled object, in order
abbrev pub components_initialized : Seen → ℕ → Located → List DeclNo → World → Valued World
components_initialized q own_cells l [] w = Ok w
components_initialized q own_cells l (c ∷ cs) w =
    initialized q (component_at q.program own_cells l c) (initial_of (declaration_of q.program c).kind) w
    >>= components_initialized q own_cells l cs

-- ---- by kind

abbrev pub located_here : Seen → DeclNo → Valued Located
located_here q d = home_of q d >>= λ id. Ok (record { within = id; declared = d })

abbrev pub set_thing : Image → Located → Value → World → World
set_thing p l v = write_cell l.within (declaration_of p l.declared).place v

-- the world behind the declaration: an object
abbrev pub object_declared : Seen → DeclNo → Initial → Valued World
object_declared q d i = object_cell q (Declared d) >>= λ v. initialized q v i q.world

-- a protected object draws its number once its components have their values
abbrev pub object_drawn : Drawn → Drawn
object_drawn d = record d { objects = suc d.objects }

abbrev pub no_calls : {X Y : Type 0} → List X → List (List Y)
no_calls xs = map (λ _. []) xs

abbrev pub new_object : Image → Located → ProtectedUnitNo → ℕ → Object
new_object p l u n = record {
  number = record { 0 = n };
  unit = u;
  located = l;
  ceiling = (protected_unit_of p u).ceiling;
  actions = [];
  queues = no_calls (protected_unit_of p u).entries;
}

abbrev pub with_object : Image → Located → ProtectedUnitNo → World → World
with_object p l u w =
    let n = suc w.drawn.objects in
    set_thing p l (Thing n) (record w { objects = new_object p l u n ∷ w.objects; drawn = object_drawn w.drawn })

-- `new` with the ceiling
unfoldable pub says_object : Image → Located → ProtectedUnitNo → Step
says_object p l u =
    looks (λ w. says Own (line.New (created.Object (record { 0 = w.drawn.objects })) (Some l.declared)
    (protected_unit_of p u).ceiling))

unfoldable pub declare_protected : Image → Who → StatementNo → DeclNo → ProtectedUnitNo → Step
declare_protected p name s d u =
    sees p name (λ q. given Own name (located_here q d) (λ l.
    given Own name (components_initialized q PROTECTED_CELLS l (protected_unit_of p u).components q.world) (λ next.
    changes (λ _. next) ▷ goes name (next_of p s) ▷ changes (with_object p l u) ▷ says_object p l u)))

-- a controlled object is made; it is registered behind its Initialize
abbrev pub controlled_declared : Seen → DeclNo → ControlledNo → Valued World
controlled_declared q d c =
    located_here q d >>= λ l. components_initialized q CONTROLLED_CELLS l (controlled_of q.program c).components
    q.world >>= λ next.
    Ok (set_thing q.program l (Thing 0) next)

abbrev pub event_drawn : Drawn → Drawn
event_drawn d = record d { events = suc d.events }

abbrev pub event_declared : Seen → DeclNo → Valued World
event_declared q d =
    located_here q d >>= λ l. Ok (set_thing q.program l (Thing q.world.drawn.events)
    (record q.world { drawn = event_drawn q.world.drawn }))

abbrev pub with_budget : World → World
with_budget w = record w { budgets = w.budgets ++ no_budget ∷ [] }

abbrev pub budget_declared : Seen → DeclNo → Valued World
budget_declared q d = located_here q d
    >>= λ l. Ok (set_thing q.program l (Thing (length q.world.budgets)) (with_budget q.world))

abbrev pub timed_task : Seen → DeclNo → Valued TaskNo
timed_task q d = home_of q d >>= λ id. must_be_task (task_in (first_cell q d id))

abbrev pub with_timer : TaskNo → World → World
with_timer t w = record w { timers = w.timers ++ record { task = t; setting = None } ∷ [] }

abbrev pub timer_declared : Seen → DeclNo → DeclNo → Valued World
timer_declared q d task =
    timed_task q task >>= λ t. unless (not (leb MOST_TIMERS (length q.world.timers))) exception.TimerResource t >>= λ u.
    located_here q d >>= λ l. Ok (set_thing q.program l (Thing (length q.world.timers)) (with_timer u q.world))

abbrev pub declared : Seen → DeclNo → DeclarationKind → Valued World
declared q d (kind.Object i) = object_declared q d i
declared q d (kind.Task u) = Ok q.world
declared q d (kind.Protected u) = Ok q.world
declared q d (kind.Controlled c) = controlled_declared q d c
declared q d kind.Event = event_declared q d
declared q d (kind.Timer task) = timer_declared q d task
declared q d kind.Budget = budget_declared q d
declared q d kind.Parameter = Ok q.world
declared q d kind.Other = Ok q.world

unfoldable pub declare_quietly : Image → Who → StatementNo → DeclNo → Step
declare_quietly p name s d =
    sees p name (λ q. given Own name (declared q d (declaration_of p d).kind) (λ next. changes (λ _. next)
    ▷ goes name (next_of p s)))

unfoldable pub declare_by : Image → Who → StatementNo → DeclNo → DeclarationKind → Step
declare_by p name s d (kind.Protected u) = declare_protected p name s d u
declare_by p name s d (kind.Object i) = declare_quietly p name s d
declare_by p name s d (kind.Task u) = declare_quietly p name s d
declare_by p name s d (kind.Controlled c) = declare_quietly p name s d
declare_by p name s d kind.Event = declare_quietly p name s d
declare_by p name s d (kind.Timer task) = declare_quietly p name s d
declare_by p name s d kind.Budget = declare_quietly p name s d
declare_by p name s d kind.Parameter = declare_quietly p name s d
declare_by p name s d kind.Other = declare_quietly p name s d

unfoldable pub declare : Image → Who → StatementNo → DeclNo → Step
declare p name s d = declare_by p name s d (declaration_of p d).kind
