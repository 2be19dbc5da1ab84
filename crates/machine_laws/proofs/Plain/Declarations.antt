-- Declarations of objects: each step keeps a relation that its parts keep.
use Rattle.std.specs.Prelude.{ℕ, suc, not, List, [], ◌∷◌, Ok, leb, length}
use Rattle.ann_base.specs.Results.{◌>>=◌}
use Rattle.ann_base.specs.declared.exceptions.Raised.TheVariants as exception
use Rattle.trace_text.specs.declared.events.Who.{Who}
use Rattle.profile_image.specs.declared.limits.TheConstants.{PROTECTED_CELLS, CONTROLLED_CELLS}
use Rattle.profile_image.specs.declared.image.Image.{Image}
use Rattle.profile_image.specs.declared.numbers.DeclNo.{DeclNo}
use Rattle.profile_image.specs.declared.numbers.ControlledNo.{ControlledNo}
use Rattle.profile_image.specs.declared.numbers.ProtectedUnitNo.{ProtectedUnitNo}
use Rattle.profile_image.specs.declared.numbers.StatementNo.{StatementNo}
use Rattle.profile_image.specs.declared.declarations.DeclarationKind.{DeclarationKind}
use Rattle.profile_image.specs.declared.declarations.DeclarationKind.TheVariants as kind
use Rattle.profile_image.specs.declared.declarations.Initial.{Initial}
use Rattle.profile_image.specs.declared.declarations.Initial.TheVariants as initial
use Rattle.profile_image.specs.declared.expressions.ObjectName.TheVariants.{Declared}
use Rattle.profile_image.specs.declared.values.Value.{Value}
use Rattle.profile_image.specs.declared.values.Value.TheVariants.{Thing}
use Rattle.profile_machine.specs.declared.world.World.{World}
use Rattle.profile_machine.specs.declared.world.scopes.Located.{Located}
use Rattle.profile_machine.specs.declared.world.scopes.Variable.{Variable}
use Rattle.profile_image.specs.Program.{declaration_of, next_of, protected_unit_of, controlled_of}
use Rattle.profile_machine.specs.declared.world.lines.Part.TheVariants.{Own}
use Rattle.profile_machine.specs.Steps.{changes, ◌▷◌}
use Rattle.profile_machine.specs.Frames.{goes}
use Rattle.profile_machine.specs.Operators.{unless}
use Rattle.profile_machine.specs.Values.{Seen, value, object_cell, component_at, seen_by}
use Rattle.profile_machine.specs.Statements.{copy_cells}
use Rattle.profile_machine.specs.Scopes.{put_cells}
use Rattle.profile_machine.specs.CallEnds.{store}
use Rattle.profile_machine.specs.Declarations.{default_cells, set_defaults, initialized, initial_of, components_initialized, located_here}
use Rattle.profile_machine.specs.Declarations.{set_thing, object_declared, object_drawn, new_object, with_object, says_object, declare_protected}
use Rattle.profile_machine.specs.Declarations.{controlled_declared, event_drawn, event_declared, with_budget, budget_declared, timed_task}
use Rattle.profile_machine.specs.Declarations.{with_timer, timer_declared, declared, declare_quietly, declare_by, declare}
use Rattle.machine_laws.proofs.Moves.{StepRelation}
use Rattle.machine_laws.proofs.FineMoves.{GoodWorld, Naming}
use Rattle.machine_laws.proofs.Kept.Combinators.{Alters, Gives, Keeps, bind-gives, changes-keeps, looks-from, looks-keeps, next-gives, ok-gives, then-keeps}
use Rattle.machine_laws.proofs.Plain.Cells.{copy_cells-alters, store-gives, write_cell-alters}
use Rattle.machine_laws.proofs.Plain.Frames.{given-from, given_world-from}
use Rattle.machine_laws.proofs.Plain.PlainSteps.{PlainSteps}

module _ {G : GoodWorld} {Goes : Naming} {R : StepRelation} (plain : PlainSteps G Goes R) where
  set_defaults-alters : (p : Image) (v : Variable) → Alters G R (set_defaults p v)
  unfolding Alters
  set_defaults-alters p v w good = plain.edits_cells v.within (put_cells v.place (default_cells p w v)) w good

  initialized-gives : (q : Seen) (v : Variable) (i : Initial) (w : World) → G w → Gives R w (initialized q v i w)
  unfolding Alters
  initialized-gives q v initial.Default w good = ok-gives plain.chains w (set_defaults q.program v w) (set_defaults-alters q.program v w good)
  initialized-gives q v (initial.Scalar e) w good =
      bind-gives plain.chains (value q e) (λ x. store q.program v x w) w (λ x. store-gives plain q.program v x w good)
  initialized-gives q v (initial.Array source) w good =
      bind-gives plain.chains (object_cell q source) (λ f. Ok (copy_cells q.program v f w)) w
      (λ f. ok-gives plain.chains w (copy_cells q.program v f w) (copy_cells-alters plain q.program v f w good))

  components_initialized-gives : (q : Seen) (own_cells : ℕ) (l : Located) (cs : List DeclNo) (w : World) → G w
      → Gives R w (components_initialized q own_cells l cs w)
  components_initialized-gives q own_cells l [] w good = ok-gives plain.chains w w (plain.chains.stays w good)
  components_initialized-gives q own_cells l (c ∷ cs) w good =
      let v = component_at q.program own_cells l c in
      let i = initial_of (declaration_of q.program c).kind in
      next-gives plain.chains (initialized q v i w) (components_initialized q own_cells l cs) w (initialized-gives q v i w good)
      (components_initialized-gives q own_cells l cs)

  pub set_thing-alters : (p : Image) (l : Located) (v : Value) → Alters G R (set_thing p l v)
  set_thing-alters p l v = search (write_cell-alters)

  object_declared-gives : (q : Seen) (d : DeclNo) (i : Initial) → G q.world → Gives R q.world (object_declared q d i)
  object_declared-gives q d i good =
      bind-gives plain.chains (object_cell q (Declared d)) (λ v. initialized q v i q.world) q.world (λ v. initialized-gives q v i q.world good)

  with_object-alters : (p : Image) (l : Located) (u : ProtectedUnitNo) → Alters G R (with_object p l u)
  unfolding Alters
  with_object-alters p l u w good =
      let n = suc w.drawn.objects in
      let added = record w { objects = new_object p l u n ∷ w.objects; drawn = object_drawn w.drawn } in
      let first = plain.adds_object p l u w good in
      plain.chains.goes_on w added (with_object p l u w) first (set_thing-alters p l (Thing n) added (plain.chains.behind w added first))

  says_object-keeps : (p : Image) (l : Located) (u : ProtectedUnitNo) → Keeps G R (says_object p l u)
  unfolding says_object
  says_object-keeps p l u = looks-keeps plain.chains _ (λ w. plain.says_object (record { 0 = w.drawn.objects }) l.declared (protected_unit_of p u).ceiling)

  pub declare_protected-keeps : (p : Image) (name : Who) (s : StatementNo) (d : DeclNo) (u : ProtectedUnitNo) → Goes name
      → Keeps G R (declare_protected p name s d u)
  unfolding declare_protected
  declare_protected-keeps p name s d u may =
      looks-from plain.chains _ (λ w good. let q = seen_by p w name in
      given-from plain Own name (located_here q d) _ w good (λ l.
      given_world-from plain Own name (components_initialized q PROTECTED_CELLS l (protected_unit_of p u).components w)
      (λ _. goes name (next_of p s) ▷ changes (with_object p l u) ▷ says_object p l u) w good
      (components_initialized-gives q PROTECTED_CELLS l (protected_unit_of p u).components w good)
      (λ _. search (then-keeps, plain.goes, changes-keeps, with_object-alters, says_object-keeps, plain.chains))))

  controlled_declared-gives : (q : Seen) (d : DeclNo) (c : ControlledNo) → G q.world → Gives R q.world (controlled_declared q d c)
  unfolding Alters
  controlled_declared-gives q d c good =
      let components = (controlled_of q.program c).components in
      bind-gives plain.chains (located_here q d)
      (λ l. components_initialized q CONTROLLED_CELLS l components q.world >>= λ next. Ok (set_thing q.program l (Thing 0) next)) q.world (λ l.
      next-gives plain.chains (components_initialized q CONTROLLED_CELLS l components q.world) (λ next. Ok (set_thing q.program l (Thing 0) next)) q.world
      (components_initialized-gives q CONTROLLED_CELLS l components q.world good)
      (λ next good_next. ok-gives plain.chains next (set_thing q.program l (Thing 0) next) (set_thing-alters q.program l (Thing 0) next good_next)))

  -- an object is located, and its first cell names it in a world that stands rightly to the one before
  thing_declared-gives : (q : Seen) (d : DeclNo) (v : Value) (next : World) → R q.world [] next
      → Gives R q.world (located_here q d >>= λ l. Ok (set_thing q.program l v next))
  unfolding Alters
  thing_declared-gives q d v next a =
      bind-gives plain.chains (located_here q d) (λ l. Ok (set_thing q.program l v next)) q.world (λ l.
      ok-gives plain.chains q.world (set_thing q.program l v next)
      (plain.chains.goes_on q.world next (set_thing q.program l v next) a (set_thing-alters q.program l v next (plain.chains.behind q.world next a))))

  event_declared-gives : (q : Seen) (d : DeclNo) → G q.world → Gives R q.world (event_declared q d)
  event_declared-gives q d good =
      thing_declared-gives q d (Thing q.world.drawn.events) (record q.world { drawn = event_drawn q.world.drawn }) (plain.draws_event q.world good)

  budget_declared-gives : (q : Seen) (d : DeclNo) → G q.world → Gives R q.world (budget_declared q d)
  budget_declared-gives q d good = thing_declared-gives q d (Thing (length q.world.budgets)) (with_budget q.world) (plain.adds_budget q.world good)

  timer_declared-gives : (q : Seen) (d task : DeclNo) → G q.world → Gives R q.world (timer_declared q d task)
  timer_declared-gives q d task good =
      let number = Thing (length q.world.timers) in
      bind-gives plain.chains (timed_task q task)
      (λ t. unless (not (leb 256 (length q.world.timers))) exception.TimerResource t >>= λ u.
      located_here q d >>= λ l. Ok (set_thing q.program l number (with_timer u q.world))) q.world
      (λ t.
      bind-gives plain.chains (unless (not (leb 256 (length q.world.timers))) exception.TimerResource t)
      (λ u. located_here q d >>= λ l. Ok (set_thing q.program l number (with_timer u q.world))) q.world (λ u.
      thing_declared-gives q d number (with_timer u q.world) (plain.adds_timer u q.world good)))

  declared-gives : (q : Seen) (d : DeclNo) (kind : DeclarationKind) → G q.world → Gives R q.world (declared q d kind)
  declared-gives q d (kind.Object i) good = object_declared-gives q d i good
  declared-gives q d (kind.Task u) good = ok-gives plain.chains q.world q.world (plain.chains.stays q.world good)
  declared-gives q d (kind.Protected u) good = ok-gives plain.chains q.world q.world (plain.chains.stays q.world good)
  declared-gives q d (kind.Controlled c) good = controlled_declared-gives q d c good
  declared-gives q d kind.Event good = event_declared-gives q d good
  declared-gives q d (kind.Timer task) good = timer_declared-gives q d task good
  declared-gives q d kind.Budget good = budget_declared-gives q d good
  declared-gives q d kind.Parameter good = ok-gives plain.chains q.world q.world (plain.chains.stays q.world good)
  declared-gives q d kind.Other good = ok-gives plain.chains q.world q.world (plain.chains.stays q.world good)

  pub declare_quietly-keeps : (p : Image) (name : Who) (s : StatementNo) (d : DeclNo) → Goes name → Keeps G R (declare_quietly p name s d)
  unfolding declare_quietly
  declare_quietly-keeps p name s d may =
      looks-from plain.chains _ (λ w good.
      given_world-from plain Own name (declared (seen_by p w name) d (declaration_of p d).kind) (λ _. goes name (next_of p s)) w good
      (declared-gives (seen_by p w name) d (declaration_of p d).kind good) (λ _. plain.goes name (next_of p s) may))

  pub declare_by-keeps : (p : Image) (name : Who) (s : StatementNo) (d : DeclNo) (kind : DeclarationKind) → Goes name → Keeps G R (declare_by p name s d kind)
  unfolding declare_by
  declare_by-keeps p name s d (kind.Protected u) may = search (declare_protected-keeps)
  declare_by-keeps p name s d (kind.Object i) may = search (declare_quietly-keeps)
  declare_by-keeps p name s d (kind.Task u) may = search (declare_quietly-keeps)
  declare_by-keeps p name s d (kind.Controlled c) may = search (declare_quietly-keeps)
  declare_by-keeps p name s d kind.Event may = search (declare_quietly-keeps)
  declare_by-keeps p name s d (kind.Timer task) may = search (declare_quietly-keeps)
  declare_by-keeps p name s d kind.Budget may = search (declare_quietly-keeps)
  declare_by-keeps p name s d kind.Parameter may = search (declare_quietly-keeps)
  declare_by-keeps p name s d kind.Other may = search (declare_quietly-keeps)

  pub declare-keeps : (p : Image) (name : Who) (s : StatementNo) (d : DeclNo) → Goes name → Keeps G R (declare p name s d)
  unfolding declare
  declare-keeps p name s d may = search (declare_by-keeps)
