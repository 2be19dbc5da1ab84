-- Declarations of objects: each step keeps the cells right.
use Rattle.std.specs.Prelude.{ℕ, suc, not, List, [], ◌∷◌, Ok, leb, length}
use Rattle.ann_base.specs.Results.{◌>>=◌}
use Rattle.ann_base.specs.declared.identities.TaskNo.{TaskNo}
use Rattle.ann_base.specs.declared.exceptions.Raised.TheVariants as exception
use Rattle.trace_text.specs.declared.events.Who.{Who}
use Rattle.profile_image.specs.declared.limits.TheConstants.{CONTROLLED_CELLS}
use Rattle.profile_image.specs.declared.image.Image.{Image}
use Rattle.profile_image.specs.declared.numbers.DeclNo.{DeclNo}
use Rattle.profile_image.specs.declared.numbers.ControlledNo.{ControlledNo}
use Rattle.profile_image.specs.declared.numbers.ProtectedUnitNo.{ProtectedUnitNo}
use Rattle.profile_image.specs.declared.numbers.StatementNo.{StatementNo}
use Rattle.profile_image.specs.declared.declarations.DeclarationKind.{DeclarationKind}
use Rattle.profile_image.specs.declared.declarations.DeclarationKind.TheVariants as kind
use Rattle.profile_image.specs.declared.declarations.Initial.{Initial}
use Rattle.profile_image.specs.declared.declarations.Initial.TheVariants as initial
use Rattle.profile_image.specs.declared.expressions.ObjectName.TheVariants.{Declared}
use Rattle.profile_image.specs.declared.values.Value.{Value}
use Rattle.profile_image.specs.declared.values.Value.TheVariants.{Thing}
use Rattle.profile_machine.specs.declared.world.World.{World}
use Rattle.profile_machine.specs.declared.world.scopes.Located.{Located}
use Rattle.profile_machine.specs.declared.world.scopes.Variable.{Variable}
use Rattle.profile_image.specs.Program.{declaration_of, controlled_of}
use Rattle.profile_machine.specs.Operators.{unless}
use Rattle.profile_machine.specs.Values.{Seen, value, object_cell, component_at}
use Rattle.profile_machine.specs.Statements.{copy_cells}
use Rattle.profile_machine.specs.CallEnds.{store}
use Rattle.profile_machine.specs.Declarations.{default_cells, set_defaults, initialized, initial_of, components_initialized, located_here}
use Rattle.profile_machine.specs.Declarations.{set_thing, object_declared, object_drawn, new_object, with_object, says_object, declare_protected}
use Rattle.profile_machine.specs.Declarations.{controlled_declared, event_drawn, event_declared, with_budget, budget_declared, timed_task}
use Rattle.profile_machine.specs.Declarations.{with_timer, timer_declared, declared, declare_quietly, declare_by, declare}
use Rattle.world_laws.proofs.Cells.RightCells.{Right, Keeps, Alters, Gives, then-keeps, changes-keeps, says-keeps}
use Rattle.world_laws.proofs.Cells.RightCells.{looks-keeps, sees-keeps, next-alters, ok-gives, bind-gives, next-gives}
use Rattle.world_laws.proofs.Cells.Kept.Frames.{goes-keeps, given-keeps, given_right-keeps}
use Rattle.world_laws.proofs.Cells.Kept.Scopes.{put_cells-alters, write_cell-alters}
use Rattle.world_laws.proofs.Cells.Kept.CallEnds.{store-gives}
use Rattle.world_laws.proofs.Cells.Kept.Statements.{copy_cells-alters}

-- ---- initial values

pub set_defaults-alters : {p : Image} (text : Image) (v : Variable) → Alters p (set_defaults text v)
set_defaults-alters text v = record { at = λ w right. (put_cells-alters v.within v.place (default_cells text w v)).at w right }

initialized-gives : {p : Image} (q : Seen) (v : Variable) (i : Initial) (w : World) → Right p w → Gives p (initialized q v i w)
initialized-gives q v initial.Default w right = ok-gives (set_defaults q.program v w) ((set_defaults-alters q.program v).at w right)
initialized-gives q v (initial.Scalar e) w right = bind-gives (value q e) (λ x. store q.program v x w) (λ x. store-gives q.program v x w right)
initialized-gives q v (initial.Array source) w right =
    bind-gives (object_cell q source) (λ f. Ok (copy_cells q.program v f w))
    (λ f. ok-gives (copy_cells q.program v f w) ((copy_cells-alters q.program v f).at w right))

components_initialized-gives : {p : Image} (q : Seen) (own_cells : ℕ) (l : Located) (cs : List DeclNo) (w : World) → Right p w
    → Gives p (components_initialized q own_cells l cs w)
components_initialized-gives q own_cells l [] w right = ok-gives w right
components_initialized-gives q own_cells l (c ∷ cs) w right =
    let v = component_at q.program own_cells l c in
    let i = initial_of (declaration_of q.program c).kind in
    next-gives (initialized q v i w) (components_initialized q own_cells l cs) (initialized-gives q v i w right) (components_initialized-gives q own_cells l cs)

-- ---- by kind

pub set_thing-alters : {p : Image} (text : Image) (l : Located) (v : Value) → Alters p (set_thing text l v)
set_thing-alters text l v = write_cell-alters l.within (declaration_of text l.declared).place v

pub with_object-alters : (p : Image) (l : Located) (u : ProtectedUnitNo) → Alters p (with_object p l u)
unfolding Right
with_object-alters p l u = record {
  at = λ w right.
      let n = suc w.drawn.objects in
      (set_thing-alters {p = p} p l (Thing n)).at (record w { objects = new_object p l u n ∷ w.objects; drawn = object_drawn w.drawn }) right;
}

pub says_object-keeps : (p : Image) (l : Located) (u : ProtectedUnitNo) → Keeps p (says_object p l u)
unfolding says_object
says_object-keeps p l u = search (looks-keeps, says-keeps)

pub declare_protected-keeps : (p : Image) (name : Who) (s : StatementNo) (d : DeclNo) (u : ProtectedUnitNo) → Keeps p (declare_protected p name s d u)
unfolding declare_protected
declare_protected-keeps p name s d u =
    search (
      given_right-keeps,
      sees-keeps,
      given-keeps,
      changes-keeps,
      then-keeps,
      goes-keeps,
      with_object-alters,
      says_object-keeps,
      next-alters,
      components_initialized-gives,
    ) depth 14

pub with_budget-alters : {p : Image} → Alters p with_budget
unfolding Right
with_budget-alters = record { at = λ w right. right }

pub with_timer-alters : {p : Image} (t : TaskNo) → Alters p (with_timer t)
unfolding Right
with_timer-alters t = record { at = λ w right. right }

object_declared-gives : {p : Image} (q : Seen) (d : DeclNo) (i : Initial) → Right p q.world → Gives p (object_declared q d i)
object_declared-gives q d i right = bind-gives (object_cell q (Declared d)) (λ v. initialized q v i q.world) (λ v. initialized-gives q v i q.world right)

-- an object is located, and its first cell names it
thing_declared-gives : {p : Image} (q : Seen) (d : DeclNo) (v : Value) (next : World) → Right p next
    → Gives p (located_here q d >>= λ l. Ok (set_thing q.program l v next))
thing_declared-gives q d v next right =
    bind-gives (located_here q d) (λ l. Ok (set_thing q.program l v next))
    (λ l. ok-gives (set_thing q.program l v next) ((set_thing-alters q.program l v).at next right))

controlled_declared-gives : {p : Image} (q : Seen) (d : DeclNo) (c : ControlledNo) → Right p q.world → Gives p (controlled_declared q d c)
controlled_declared-gives q d c right =
    let components = (controlled_of q.program c).components in
    bind-gives (located_here q d) (λ l. components_initialized q CONTROLLED_CELLS l components q.world >>= λ next. Ok (set_thing q.program l (Thing 0) next))
    (λ l.
    next-gives (components_initialized q CONTROLLED_CELLS l components q.world) (λ next. Ok (set_thing q.program l (Thing 0) next))
    (components_initialized-gives q CONTROLLED_CELLS l components q.world right)
    (λ next right_next. ok-gives (set_thing q.program l (Thing 0) next) ((set_thing-alters q.program l (Thing 0)).at next right_next)))

-- what else a world has stands beside its scopes
event_drawn-right : (p : Image) (w : World) → Right p w → Right p (record w { drawn = event_drawn w.drawn })
unfolding Right
event_drawn-right p w right = right

event_declared-gives : {p : Image} (q : Seen) (d : DeclNo) → Right p q.world → Gives p (event_declared q d)
event_declared-gives {p = p} q d right =
    thing_declared-gives q d (Thing q.world.drawn.events) (record q.world { drawn = event_drawn q.world.drawn }) (event_drawn-right p q.world right)

budget_declared-gives : {p : Image} (q : Seen) (d : DeclNo) → Right p q.world → Gives p (budget_declared q d)
budget_declared-gives q d right = thing_declared-gives q d (Thing (length q.world.budgets)) (with_budget q.world) (with_budget-alters.at q.world right)

timer_declared-gives : {p : Image} (q : Seen) (d task : DeclNo) → Right p q.world → Gives p (timer_declared q d task)
timer_declared-gives q d task right =
    let number = Thing (length q.world.timers) in
    bind-gives (timed_task q task)
    (λ t. unless (not (leb 256 (length q.world.timers))) exception.TimerResource t >>= λ u.
    located_here q d >>= λ l. Ok (set_thing q.program l number (with_timer u q.world)))
    (λ t.
    bind-gives (unless (not (leb 256 (length q.world.timers))) exception.TimerResource t)
    (λ u. located_here q d >>= λ l. Ok (set_thing q.program l number (with_timer u q.world))) (λ u.
    thing_declared-gives q d number (with_timer u q.world) ((with_timer-alters u).at q.world right)))

declared-gives : {p : Image} (q : Seen) (d : DeclNo) (kind : DeclarationKind) → Right p q.world → Gives p (declared q d kind)
declared-gives q d (kind.Object i) right = object_declared-gives q d i right
declared-gives q d (kind.Task u) right = ok-gives q.world right
declared-gives q d (kind.Protected u) right = ok-gives q.world right
declared-gives q d (kind.Controlled c) right = controlled_declared-gives q d c right
declared-gives q d kind.Event right = event_declared-gives q d right
declared-gives q d (kind.Timer task) right = timer_declared-gives q d task right
declared-gives q d kind.Budget right = budget_declared-gives q d right
declared-gives q d kind.Parameter right = ok-gives q.world right
declared-gives q d kind.Other right = ok-gives q.world right

pub declare_quietly-keeps : (p : Image) (name : Who) (s : StatementNo) (d : DeclNo) → Keeps p (declare_quietly p name s d)
unfolding declare_quietly
declare_quietly-keeps p name s d =
    search (given_right-keeps, sees-keeps, given-keeps, changes-keeps, then-keeps, goes-keeps, next-alters, declared-gives) depth 8

pub declare_by-keeps : (p : Image) (name : Who) (s : StatementNo) (d : DeclNo) (kind : DeclarationKind) → Keeps p (declare_by p name s d kind)
unfolding declare_by
declare_by-keeps p name s d (kind.Protected u) = search (declare_protected-keeps)
declare_by-keeps p name s d (kind.Object i) = search (declare_quietly-keeps)
declare_by-keeps p name s d (kind.Task u) = search (declare_quietly-keeps)
declare_by-keeps p name s d (kind.Controlled c) = search (declare_quietly-keeps)
declare_by-keeps p name s d kind.Event = search (declare_quietly-keeps)
declare_by-keeps p name s d (kind.Timer task) = search (declare_quietly-keeps)
declare_by-keeps p name s d kind.Budget = search (declare_quietly-keeps)
declare_by-keeps p name s d kind.Parameter = search (declare_quietly-keeps)
declare_by-keeps p name s d kind.Other = search (declare_quietly-keeps)

pub declare-keeps : (p : Image) (name : Who) (s : StatementNo) (d : DeclNo) → Keeps p (declare p name s d)
unfolding declare
declare-keeps p name s d = search (declare_by-keeps)
