-- Declarations of objects, but of protected ones: each step keeps what its parts keep.
use Rattle.ann_base.specs.Results.{◌>>=◌}
use Rattle.ann_base.specs.declared.exceptions.Raised.TheVariants as exception
use Rattle.ceiling_laws.proofs.Fine.Kept.Frames.{Gives, bind-gives, given-leads_at, given_world-keeps, goes-keeps, next-gives, ok-gives}
use Rattle.ceiling_laws.proofs.Fine.Kept.Scopes.{cells-same, copy_cells-same}
use Rattle.ceiling_laws.proofs.Fine.Kept.Statements.{store-gives}
use Rattle.ceiling_laws.proofs.Fine.LevelMoves.{Silences}
use Rattle.ceiling_laws.proofs.Fine.SameLemmas.{same_self, same_then}
use Rattle.ceiling_laws.proofs.Runs.Triples.{Keeps, State, looks-with, then-keeps}
use Rattle.ceiling_laws.proofs.Fine.Cores.{Same}
use Rattle.profile_machine.specs.CallEnds.{store}
use Rattle.profile_machine.specs.Declarations.{budget_declared, components_initialized, controlled_declared, declare, declare_by}
use Rattle.profile_machine.specs.Declarations.{declare_protected, declare_quietly, declared, default_cells, event_declared, event_drawn}
use Rattle.profile_machine.specs.Declarations.{initial_of, initialized, located_here, object_declared, says_object, set_defaults}
use Rattle.profile_machine.specs.Declarations.{set_thing, timed_task, timer_declared, with_budget, with_object, with_timer}
use Rattle.profile_machine.specs.Frames.{goes}
use Rattle.profile_machine.specs.Operators.{unless}
use Rattle.profile_image.specs.Program.{controlled_of, declaration_of, next_of, protected_unit_of}
use Rattle.profile_machine.specs.Statements.{copy_cells}
use Rattle.profile_machine.specs.Scopes.{put_cells}
use Rattle.profile_machine.specs.Steps.{changes, ◌▷◌}
use Rattle.profile_machine.specs.Values.{Seen, component_at, object_cell, seen_by, value}
use Rattle.profile_image.specs.declared.limits.TheConstants.{PROTECTED_CELLS, CONTROLLED_CELLS}
use Rattle.profile_image.specs.declared.declarations.DeclarationKind.{DeclarationKind}
use Rattle.profile_image.specs.declared.declarations.DeclarationKind.TheVariants as kind
use Rattle.profile_image.specs.declared.declarations.Initial.{Initial}
use Rattle.profile_image.specs.declared.declarations.Initial.TheVariants as initial
use Rattle.profile_image.specs.declared.expressions.ObjectName.TheVariants.{Declared}
use Rattle.profile_image.specs.declared.image.Image.{Image}
use Rattle.profile_image.specs.declared.numbers.ControlledNo.{ControlledNo}
use Rattle.profile_image.specs.declared.numbers.DeclNo.{DeclNo}
use Rattle.profile_image.specs.declared.numbers.ProtectedUnitNo.{ProtectedUnitNo}
use Rattle.profile_image.specs.declared.numbers.StatementNo.{StatementNo}
use Rattle.profile_image.specs.declared.values.Value.{Value}
use Rattle.profile_image.specs.declared.values.Value.TheVariants.{Thing}
use Rattle.profile_machine.specs.declared.world.World.{World}
use Rattle.profile_machine.specs.declared.world.lines.Part.TheVariants.{Own}
use Rattle.profile_machine.specs.declared.world.scopes.Located.{Located}
use Rattle.profile_machine.specs.declared.world.scopes.Variable.{Variable}
use Rattle.std.proofs.Common.{refl}
use Rattle.std.specs.Prelude.{List, Ok, [], leb, length, not, slice_set, ℕ, ◌∷◌}
use Rattle.trace_text.specs.declared.events.Who.{Who}

set_defaults-same : (p : Image) (v : Variable) (w : World) → Same w (set_defaults p v w)
set_defaults-same p v w = cells-same v.within (put_cells v.place (default_cells p w v)) w

initialized-gives : (q : Seen) (v : Variable) (i : Initial) (w : World) → Gives w (initialized q v i w)
initialized-gives q v initial.Default w = ok-gives w (set_defaults q.program v w) (set_defaults-same q.program v w)
initialized-gives q v (initial.Scalar e) w = bind-gives (value q e) (λ x. store q.program v x w) w (λ x. store-gives q.program v x w)
initialized-gives q v (initial.Array source) w =
    bind-gives (object_cell q source) (λ f. Ok (copy_cells q.program v f w)) w (λ f. ok-gives w (copy_cells q.program v f w) (copy_cells-same q.program v f w))

pub components_initialized-gives : (q : Seen) (own_cells : ℕ) (l : Located) (cs : List DeclNo) (w : World) → Gives w (components_initialized q own_cells l cs w)
components_initialized-gives q own_cells l [] w = ok-gives w w (same_self w)
components_initialized-gives q own_cells l (c ∷ cs) w =
    let v = component_at q.program own_cells l c in
    let i = initial_of (declaration_of q.program c).kind in
    next-gives (initialized q v i w) (components_initialized q own_cells l cs) w (initialized-gives q v i w) (components_initialized-gives q own_cells l cs)

pub set_thing-same : (p : Image) (l : Located) (v : Value) (w : World) → Same w (set_thing p l v w)
set_thing-same p l v w = cells-same l.within (λ cells. slice_set cells (declaration_of p l.declared).place v) w

object_declared-gives : (q : Seen) (d : DeclNo) (i : Initial) → Gives q.world (object_declared q d i)
object_declared-gives q d i =
    bind-gives (object_cell q (Declared d)) (λ v. initialized q v i q.world) q.world (λ v. initialized-gives q v i q.world)

controlled_declared-gives : (q : Seen) (d : DeclNo) (c : ControlledNo) → Gives q.world (controlled_declared q d c)
controlled_declared-gives q d c =
    let components = (controlled_of q.program c).components in
    bind-gives (located_here q d)
    (λ l. components_initialized q CONTROLLED_CELLS l components q.world >>= λ next. Ok (set_thing q.program l (Thing 0) next)) q.world (λ l.
    next-gives (components_initialized q CONTROLLED_CELLS l components q.world) (λ next. Ok (set_thing q.program l (Thing 0) next)) q.world
    (components_initialized-gives q CONTROLLED_CELLS l components q.world)
    (λ next. ok-gives next (set_thing q.program l (Thing 0) next) (set_thing-same q.program l (Thing 0) next)))

-- an object is located, and its first cell names it in a world that stands rightly to the one before
thing_declared-gives : (q : Seen) (d : DeclNo) (v : Value) (next : World) → Same q.world next
    → Gives q.world (located_here q d >>= λ l. Ok (set_thing q.program l v next))
thing_declared-gives q d v next a =
    bind-gives (located_here q d) (λ l. Ok (set_thing q.program l v next)) q.world (λ l.
    ok-gives q.world (set_thing q.program l v next) (same_then q.world next (set_thing q.program l v next) a (set_thing-same q.program l v next)))

event_declared-gives : (q : Seen) (d : DeclNo) → Gives q.world (event_declared q d)
event_declared-gives q d =
    thing_declared-gives q d (Thing q.world.drawn.events) (record q.world { drawn = event_drawn q.world.drawn })
    (record { tasks = refl; agent = refl; objects = refl; drawn_tasks = refl; drawn_objects = refl; callers = λ c n k. k; delays = λ t e. e })

budget_declared-gives : (q : Seen) (d : DeclNo) → Gives q.world (budget_declared q d)
budget_declared-gives q d =
    thing_declared-gives q d (Thing (length q.world.budgets)) (with_budget q.world)
    (record { tasks = refl; agent = refl; objects = refl; drawn_tasks = refl; drawn_objects = refl; callers = λ c n k. k; delays = λ t e. e })

timer_declared-gives : (q : Seen) (d task : DeclNo) → Gives q.world (timer_declared q d task)
timer_declared-gives q d task =
    let number = Thing (length q.world.timers) in
    bind-gives (timed_task q task)
    (λ t. unless (not (leb 256 (length q.world.timers))) exception.TimerResource t >>= λ u.
    located_here q d >>= λ l. Ok (set_thing q.program l number (with_timer u q.world))) q.world
    (λ t.
    bind-gives (unless (not (leb 256 (length q.world.timers))) exception.TimerResource t)
    (λ u. located_here q d >>= λ l. Ok (set_thing q.program l number (with_timer u q.world))) q.world (λ u.
    thing_declared-gives q d number (with_timer u q.world)
    (record { tasks = refl; agent = refl; objects = refl; drawn_tasks = refl; drawn_objects = refl; callers = λ c n k. k; delays = λ t e. e })))

declared-gives : (q : Seen) (d : DeclNo) (kind : DeclarationKind) → Gives q.world (declared q d kind)
declared-gives q d (kind.Object i) = object_declared-gives q d i
declared-gives q d (kind.Task u) = ok-gives q.world q.world (same_self q.world)
declared-gives q d (kind.Protected u) = ok-gives q.world q.world (same_self q.world)
declared-gives q d (kind.Controlled c) = controlled_declared-gives q d c
declared-gives q d kind.Event = event_declared-gives q d
declared-gives q d (kind.Timer task) = timer_declared-gives q d task
declared-gives q d kind.Budget = budget_declared-gives q d
declared-gives q d kind.Parameter = ok-gives q.world q.world (same_self q.world)
declared-gives q d kind.Other = ok-gives q.world q.world (same_self q.world)

module _ {X : State} (quiet : Silences X) where
  pub declare_quietly-keeps : (p : Image) (name : Who) (s : StatementNo) (d : DeclNo) → Keeps X (declare_quietly p name s d)
  unfolding declare_quietly
  declare_quietly-keeps p name s d =
      looks-with _ (λ w said h.
      given_world-keeps quiet Own name w (declared (seen_by p w name) d (declaration_of p d).kind) (λ _. goes name (next_of p s))
      (declared-gives (seen_by p w name) d (declaration_of p d).kind) (λ _. goes-keeps quiet name (next_of p s)))

  module _ (p : Image) (makes : (l : Located) (u : ProtectedUnitNo) → Keeps X (changes (with_object p l u) ▷ says_object p l u)) where
    pub declare_protected-keeps : (name : Who) (s : StatementNo) (d : DeclNo) (u : ProtectedUnitNo) → Keeps X (declare_protected p name s d u)
    unfolding declare_protected
    declare_protected-keeps name s d u =
        looks-with _ (λ w said h. let q = seen_by p w name in
        given-leads_at quiet Own name w (located_here q d) _ (λ l.
        given_world-keeps quiet Own name w (components_initialized q PROTECTED_CELLS l (protected_unit_of p u).components w)
        (λ _. goes name (next_of p s) ▷ changes (with_object p l u) ▷ says_object p l u)
        (components_initialized-gives q PROTECTED_CELLS l (protected_unit_of p u).components w)
        (λ _. then-keeps _ _ (goes-keeps quiet name (next_of p s)) (makes l u))))

    pub declare_by-keeps : (name : Who) (s : StatementNo) (d : DeclNo) (kind : DeclarationKind) → Keeps X (declare_by p name s d kind)
    unfolding declare_by
    declare_by-keeps name s d (kind.Protected u) = declare_protected-keeps name s d u
    declare_by-keeps name s d (kind.Object i) = declare_quietly-keeps p name s d
    declare_by-keeps name s d (kind.Task u) = declare_quietly-keeps p name s d
    declare_by-keeps name s d (kind.Controlled c) = declare_quietly-keeps p name s d
    declare_by-keeps name s d kind.Event = declare_quietly-keeps p name s d
    declare_by-keeps name s d (kind.Timer task) = declare_quietly-keeps p name s d
    declare_by-keeps name s d kind.Budget = declare_quietly-keeps p name s d
    declare_by-keeps name s d kind.Parameter = declare_quietly-keeps p name s d
    declare_by-keeps name s d kind.Other = declare_quietly-keeps p name s d

    pub declare-keeps : (name : Who) (s : StatementNo) (d : DeclNo) → Keeps X (declare p name s d)
    unfolding declare
    declare-keeps name s d = declare_by-keeps name s d (declaration_of p d).kind
