-- Declarations of objects: each step keeps a relation that its parts keep.
use Rattle.std.proofs.Common.{refl}
use Rattle.std.specs.Prelude.{ℕ, suc, not, List, [], ◌∷◌, Some, Ok, leb, length}
use Rattle.ann_base.specs.Results.{◌>>=◌}
use Rattle.ann_base.specs.declared.exceptions.Raised.TheVariants as exception
use Rattle.profile_machine.specs.declared.world.lines.Line.TheVariants as line
use Rattle.trace_text.specs.declared.events.Created.TheVariants as created
use Rattle.trace_text.specs.declared.events.Who.{Who}
use Rattle.profile_image.specs.declared.limits.TheConstants.{PROTECTED_CELLS, CONTROLLED_CELLS}
use Rattle.profile_image.specs.declared.image.Image.{Image}
use Rattle.profile_image.specs.declared.numbers.DeclNo.{DeclNo}
use Rattle.profile_image.specs.declared.numbers.ControlledNo.{ControlledNo}
use Rattle.profile_image.specs.declared.numbers.ProtectedUnitNo.{ProtectedUnitNo}
use Rattle.profile_image.specs.declared.numbers.StatementNo.{StatementNo}
use Rattle.profile_image.specs.declared.declarations.DeclarationKind.{DeclarationKind}
use Rattle.profile_image.specs.declared.declarations.DeclarationKind.TheVariants as kind
use Rattle.profile_image.specs.declared.declarations.Initial.{Initial}
use Rattle.profile_image.specs.declared.declarations.Initial.TheVariants as initial
use Rattle.profile_image.specs.declared.expressions.ObjectName.TheVariants.{Declared}
use Rattle.profile_image.specs.declared.values.Value.{Value}
use Rattle.profile_image.specs.declared.values.Value.TheVariants.{Thing}
use Rattle.profile_machine.specs.declared.world.World.{World}
use Rattle.profile_machine.specs.declared.world.scopes.Located.{Located}
use Rattle.profile_machine.specs.declared.world.scopes.Variable.{Variable}
use Rattle.profile_image.specs.Program.{declaration_of, next_of, protected_unit_of, controlled_of}
use Rattle.profile_machine.specs.declared.world.lines.Part.TheVariants.{Own}
use Rattle.profile_machine.specs.Steps.{changes, ◌▷◌}
use Rattle.profile_machine.specs.Frames.{goes}
use Rattle.profile_machine.specs.Operators.{unless}
use Rattle.profile_machine.specs.Values.{Seen, value, object_cell, component_at}
use Rattle.profile_machine.specs.Statements.{copy_cells}
use Rattle.profile_machine.specs.Scopes.{put_cells}
use Rattle.profile_machine.specs.CallEnds.{store}
use Rattle.profile_machine.specs.Declarations.{default_cells, set_defaults, initialized, initial_of, components_initialized, located_here}
use Rattle.profile_machine.specs.Declarations.{set_thing, object_declared, object_drawn, new_object, with_object, says_object, declare_protected}
use Rattle.profile_machine.specs.Declarations.{controlled_declared, event_drawn, event_declared, with_budget, budget_declared, timed_task}
use Rattle.profile_machine.specs.Declarations.{with_timer, timer_declared, declared, declare_quietly, declare_by, declare}
use Rattle.profile_machine.specs.Values.{seen_by}
use Rattle.world_laws.proofs.Queues.Arrivals.{adds_object-calm}
use Rattle.world_laws.proofs.Queues.Calming.{same-calm}
use Rattle.world_laws.proofs.Queues.Kept.Combinators.{Alters, Gives, Keeps, Quiets, bind-gives, changes-keeps, looks-from}
use Rattle.world_laws.proofs.Queues.Kept.Combinators.{looks-keeps, next-gives, ok-gives, says-keeps, stays-calm, then-keeps}
use Rattle.world_laws.proofs.Queues.Kept.Frames.{edit_cells-quiets, given-from, given_world-from, goes-keeps, store-gives, write_cell-quiets}
use Rattle.world_laws.proofs.Queues.Kept.Statements.{copy_cells-quiets}
use Rattle.world_laws.proofs.Queues.Standing.{Calm, Kind, calm-then}

set_defaults-quiets : {E : Kind} (p : Image) (v : Variable) → Quiets E (set_defaults p v)
set_defaults-quiets p v = record { at = λ w. (edit_cells-quiets v.within (put_cells v.place (default_cells p w v))).at w }

initialized-gives : {E : Kind} (q : Seen) (v : Variable) (i : Initial) (w : World) → Gives E w (initialized q v i w)
initialized-gives q v initial.Default w = ok-gives w (set_defaults q.program v w) ((set_defaults-quiets q.program v).at w)
initialized-gives q v (initial.Scalar e) w = bind-gives (value q e) (λ x. store q.program v x w) w (λ x. store-gives q.program v x w)
initialized-gives q v (initial.Array source) w =
    bind-gives (object_cell q source) (λ f. Ok (copy_cells q.program v f w)) w
    (λ f. ok-gives w (copy_cells q.program v f w) ((copy_cells-quiets q.program v f).at w))

components_initialized-gives : {E : Kind} (q : Seen) (own_cells : ℕ) (l : Located) (cs : List DeclNo) (w : World)
    → Gives E w (components_initialized q own_cells l cs w)
components_initialized-gives q own_cells l [] w = ok-gives w w (stays-calm w)
components_initialized-gives q own_cells l (c ∷ cs) w =
    let v = component_at q.program own_cells l c in
    let i = initial_of (declaration_of q.program c).kind in
    next-gives (initialized q v i w) (components_initialized q own_cells l cs) w (initialized-gives q v i w) (components_initialized-gives q own_cells l cs)

pub set_thing-quiets : {E : Kind} (p : Image) (l : Located) (v : Value) → Quiets E (set_thing p l v)
set_thing-quiets p l v = record { at = λ w. (write_cell-quiets l.within _ v).at w }

object_declared-gives : {E : Kind} (q : Seen) (d : DeclNo) (i : Initial) → Gives E q.world (object_declared q d i)
object_declared-gives q d i =
    bind-gives (object_cell q (Declared d)) (λ v. initialized q v i q.world) q.world (λ v. initialized-gives q v i q.world)

with_object-alters : {E : Kind} {name : Who} (p : Image) (l : Located) (u : ProtectedUnitNo) → Alters E name (with_object p l u)
with_object-alters p l u =
    record {
      at = λ w good.
          let n = suc w.drawn.objects in
          let added = record w { objects = new_object p l u n ∷ w.objects; drawn = object_drawn w.drawn } in
          calm-then w added (with_object p l u w) (adds_object-calm p l u w) ((set_thing-quiets p l (Thing n)).at added);
    }

says_object-keeps : {E : Kind} {name : Who} (p : Image) (l : Located) (u : ProtectedUnitNo) → Keeps E name (says_object p l u)
unfolding says_object
says_object-keeps p l u =
    looks-keeps _ (λ w. says-keeps Own (line.New (created.Object (record { 0 = w.drawn.objects })) (Some l.declared) (protected_unit_of p u).ceiling))

pub declare_protected-keeps : {E : Kind} (p : Image) (name : Who) (s : StatementNo) (d : DeclNo) (u : ProtectedUnitNo)
    → Keeps E name (declare_protected p name s d u)
unfolding declare_protected
declare_protected-keeps p name s d u =
    looks-from _ (λ w good. let q = seen_by p w name in
    given-from Own name (located_here q d) _ w (λ l.
    given_world-from Own name (components_initialized q PROTECTED_CELLS l (protected_unit_of p u).components w)
    (λ _. goes name (next_of p s) ▷ changes (with_object p l u) ▷ says_object p l u) w good
    (components_initialized-gives q PROTECTED_CELLS l (protected_unit_of p u).components w)
    (λ _. search (then-keeps, goes-keeps, changes-keeps, with_object-alters, says_object-keeps))))

controlled_declared-gives : {E : Kind} (q : Seen) (d : DeclNo) (c : ControlledNo) → Gives E q.world (controlled_declared q d c)
controlled_declared-gives q d c =
    let components = (controlled_of q.program c).components in
    bind-gives (located_here q d)
    (λ l. components_initialized q CONTROLLED_CELLS l components q.world >>= λ next. Ok (set_thing q.program l (Thing 0) next)) q.world (λ l.
    next-gives (components_initialized q CONTROLLED_CELLS l components q.world) (λ next. Ok (set_thing q.program l (Thing 0) next)) q.world
    (components_initialized-gives q CONTROLLED_CELLS l components q.world)
    (λ next. ok-gives next (set_thing q.program l (Thing 0) next) ((set_thing-quiets q.program l (Thing 0)).at next)))

-- an object is located, and its first cell names it in a world that stands rightly to the one before
thing_declared-gives : {E : Kind} (q : Seen) (d : DeclNo) (v : Value) (next : World) → Calm E q.world next
    → Gives E q.world (located_here q d >>= λ l. Ok (set_thing q.program l v next))
thing_declared-gives q d v next a =
    bind-gives (located_here q d) (λ l. Ok (set_thing q.program l v next)) q.world (λ l.
    ok-gives q.world (set_thing q.program l v next) (calm-then q.world next (set_thing q.program l v next) a ((set_thing-quiets q.program l v).at next)))

event_declared-gives : {E : Kind} (q : Seen) (d : DeclNo) → Gives E q.world (event_declared q d)
event_declared-gives q d =
    thing_declared-gives q d (Thing q.world.drawn.events) (record q.world { drawn = event_drawn q.world.drawn })
    (same-calm q.world (record q.world { drawn = event_drawn q.world.drawn }) refl refl refl refl refl refl refl refl)

budget_declared-gives : {E : Kind} (q : Seen) (d : DeclNo) → Gives E q.world (budget_declared q d)
budget_declared-gives q d =
    thing_declared-gives q d (Thing (length q.world.budgets)) (with_budget q.world)
    (same-calm q.world (with_budget q.world) refl refl refl refl refl refl refl refl)

timer_declared-gives : {E : Kind} (q : Seen) (d task : DeclNo) → Gives E q.world (timer_declared q d task)
timer_declared-gives q d task =
    let number = Thing (length q.world.timers) in
    bind-gives (timed_task q task)
    (λ t. unless (not (leb 256 (length q.world.timers))) exception.TimerResource t >>= λ u.
    located_here q d >>= λ l. Ok (set_thing q.program l number (with_timer u q.world))) q.world
    (λ t.
    bind-gives (unless (not (leb 256 (length q.world.timers))) exception.TimerResource t)
    (λ u. located_here q d >>= λ l. Ok (set_thing q.program l number (with_timer u q.world))) q.world (λ u.
    thing_declared-gives q d number (with_timer u q.world) (same-calm q.world (with_timer u q.world) refl refl refl refl refl refl refl refl)))

declared-gives : {E : Kind} (q : Seen) (d : DeclNo) (kind : DeclarationKind) → Gives E q.world (declared q d kind)
declared-gives q d (kind.Object i) = object_declared-gives q d i
declared-gives q d (kind.Task u) = ok-gives q.world q.world (stays-calm q.world)
declared-gives q d (kind.Protected u) = ok-gives q.world q.world (stays-calm q.world)
declared-gives q d (kind.Controlled c) = controlled_declared-gives q d c
declared-gives q d kind.Event = event_declared-gives q d
declared-gives q d (kind.Timer task) = timer_declared-gives q d task
declared-gives q d kind.Budget = budget_declared-gives q d
declared-gives q d kind.Parameter = ok-gives q.world q.world (stays-calm q.world)
declared-gives q d kind.Other = ok-gives q.world q.world (stays-calm q.world)

pub declare_quietly-keeps : {E : Kind} (p : Image) (name : Who) (s : StatementNo) (d : DeclNo) → Keeps E name (declare_quietly p name s d)
unfolding declare_quietly
declare_quietly-keeps p name s d =
    looks-from _ (λ w good.
    given_world-from Own name (declared (seen_by p w name) d (declaration_of p d).kind) (λ _. goes name (next_of p s)) w good
    (declared-gives (seen_by p w name) d (declaration_of p d).kind) (λ _. goes-keeps name (next_of p s)))

pub declare_by-keeps : {E : Kind} (p : Image) (name : Who) (s : StatementNo) (d : DeclNo) (kind : DeclarationKind) → Keeps E name (declare_by p name s d kind)
unfolding declare_by
declare_by-keeps p name s d (kind.Protected u) = search (declare_protected-keeps)
declare_by-keeps p name s d (kind.Object i) = search (declare_quietly-keeps)
declare_by-keeps p name s d (kind.Task u) = search (declare_quietly-keeps)
declare_by-keeps p name s d (kind.Controlled c) = search (declare_quietly-keeps)
declare_by-keeps p name s d kind.Event = search (declare_quietly-keeps)
declare_by-keeps p name s d (kind.Timer task) = search (declare_quietly-keeps)
declare_by-keeps p name s d kind.Budget = search (declare_quietly-keeps)
declare_by-keeps p name s d kind.Parameter = search (declare_quietly-keeps)
declare_by-keeps p name s d kind.Other = search (declare_quietly-keeps)

pub declare-keeps : {E : Kind} (p : Image) (name : Who) (s : StatementNo) (d : DeclNo) → Keeps E name (declare p name s d)
unfolding declare
declare-keeps p name s d = search (declare_by-keeps)
