-- What changes that the machine makes of a world, and the lines that it says with them, keep: of all steps but those by which
-- somebody is placed, blocks, or gets another priority or deadline.
use Rattle.ceiling_laws.proofs.Runs.Triples.{Leads, State, With}
use Rattle.ceiling_laws.proofs.Fine.Cores.{Same}
use Rattle.profile_machine.specs.Dispatching.{ready}
use Rattle.profile_machine.specs.Inheritance.{inherit, same_cause}
use Rattle.profile_machine.specs.Scopes.{end_scope}
use Rattle.profile_machine.specs.Tasks.{task_of}
use Rattle.profile_image.specs.declared.image.Image.{Image}
use Rattle.profile_machine.specs.declared.world.World.{World}
use Rattle.profile_machine.specs.declared.world.lines.Line.{Line}
use Rattle.profile_machine.specs.declared.world.lines.Part.{Part}
use Rattle.profile_machine.specs.declared.world.lines.Said.{Said}
use Rattle.profile_machine.specs.declared.world.scopes.ScopeId.{ScopeId}
use Rattle.profile_machine.specs.declared.world.tasks.Cause.{Cause}
use Rattle.profile_machine.specs.declared.world.tasks.Cause.TheVariants as inherited_by
use Rattle.std.proofs.Common.{List, [], false, true, ℕ, ◌++◌, ◌∷◌, ◌≡◌}
use Rattle.trace_text.specs.declared.events.Who.{Who}
use Rattle.ceiling_laws.proofs.Runs.LevelMoves.{Fitting, Sleeping, is_apart, is_blocked, said_so}

-- it is kept by changes that touch nothing by which somebody is placed, and by other lines
pub record Silences (X : State) : Type 0 where
  pub silently : (a b : World) (said : List Said) → Same a b → X a said → X b said
  pub says : (part : Part) (line : Line) (w : World) (said : List Said) → is_apart line ≡ false → X w said → X w (said ++ said_so part line ∷ [])
  pub ends_scope : (id : ScopeId) (w : World) (said : List Said) → X w said → X (end_scope id w) said

-- of some names alone

-- the same, and by who waits and becomes ready, or inherits a priority, but by its activation
pub record BaseMoves (p : Image) (Fits : Fitting) (Sleeps : Sleeping) (X : State) : Type 0 where
  pub quiet : Silences X
  pub inherits : (name : Who) (cause : Cause) (level : ℕ) (w : World) (said : List Said) → same_cause inherited_by.Activation cause ≡ false → Sleeps w name
      → X w said → X (inherit name cause level w) said
  pub sleeps : (w : World) (name : Who) → is_blocked (task_of w name).state ≡ true → Sleeps w name
  pub sleeps_on : (a b : World) (name : Who) → Same a b → Sleeps a name → Sleeps b name
  pub sleeps_behind : (id : ScopeId) (w : World) (name : Who) → Sleeps w name → Sleeps (end_scope id w) name
  pub sleeps_heir : (heir : Who) (cause : Cause) (level : ℕ) (w : World) (name : Who) → Sleeps w name → Sleeps (inherit heir cause level w) name
  pub wakes : (part : Part) (name : Who) → Fits part name → Leads (With X (λ w. Sleeps w name)) X (ready p part name)
