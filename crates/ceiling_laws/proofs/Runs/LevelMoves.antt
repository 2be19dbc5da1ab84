-- What changes that the machine makes of a world, and the lines that it says with them, keep: of all steps but those by which
-- somebody is placed, blocks, or gets another priority.
use Rattle.ceiling_laws.proofs.Runs.Triples.{Leads, State, With}
use Rattle.ceiling_laws.specs.Cores.{Same}
use Rattle.profile_machine.specs.Declarations.{declared}
use Rattle.profile_machine.specs.Dispatching.{ready}
use Rattle.profile_machine.specs.Inheritance.{inherit, same_cause}
use Rattle.profile_machine.specs.Scopes.{end_scope}
use Rattle.profile_machine.specs.Tasks.{task_of}
use Rattle.profile_image.specs.declared.image.Image.{Image}
use Rattle.profile_machine.specs.declared.world.World.{World}
use Rattle.profile_machine.specs.declared.world.lines.Line.{Line}
use Rattle.profile_machine.specs.declared.world.lines.Line.TheVariants as line
use Rattle.profile_machine.specs.declared.world.lines.Part.{Part}
use Rattle.profile_machine.specs.declared.world.lines.Said.{Said}
use Rattle.profile_machine.specs.declared.world.scopes.ScopeId.{ScopeId}
use Rattle.profile_machine.specs.declared.world.tasks.Cause.{Cause}
use Rattle.profile_machine.specs.declared.world.tasks.Cause.TheVariants as inherited_by
use Rattle.profile_machine.specs.declared.world.tasks.State as tasks
use Rattle.profile_machine.specs.declared.world.tasks.State.TheVariants.{Blocked, Made, Runnable}
use Rattle.profile_machine.specs.declared.world.tasks.Task.{Task}
use Rattle.std.proofs.Common.{Bool, List, [], false, true, ℕ, ◌++◌, ◌∷◌, ◌≡◌}
use Rattle.trace_text.specs.declared.events.Who.{Who}

-- the lines that are said only together with what they tell
abbrev pub is_apart : Line → Bool
is_apart (line.New what declared level) = true
is_apart (line.Ready who level end deadline) = true
is_apart (line.Block who waits) = true
is_apart (line.Base task level) = true
is_apart (line.Done task) = true
is_apart (line.Enter who object mode) = true
is_apart (line.Exit who object) = true
is_apart (line.Held who object mode) = true
is_apart _ = false

abbrev pub is_blocked : tasks.State → Bool
is_blocked Made = false
is_blocked Runnable = false
is_blocked (Blocked waiting) = true

abbrev pub said_so : Part → Line → Said
said_so part line = record { part = part; line = line }

-- it is kept by changes that touch no level, and by other lines
pub record Silences (X : State) : Type 0 where
  pub silently : (a b : World) (said : List Said) → Same a b → X a said → X b said
  pub says : (part : Part) (line : Line) (w : World) (said : List Said) → is_apart line ≡ false → X w said → X w (said ++ said_so part line ∷ [])
  pub ends_scope : (id : ScopeId) (w : World) (said : List Said) → X w said → X (end_scope id w) said

-- in which parts lines may place somebody
abbrev pub Fitting : Type 1
Fitting = Part → Who → Type 0

abbrev pub FitsAll : Fitting → Part → Type 0
FitsAll Fits part = (name : Who) → Fits part name

-- of some names alone

-- each of these tasks
abbrev pub EachTask : (Task → Type 0) → List Task → Type 0
EachTask Is [] = Unit {0}
EachTask Is (t ∷ ts) = Is t × EachTask Is ts

-- who waits in a world
abbrev pub Sleeping : Type 1
Sleeping = World → Who → Type 0

-- the same, and by who becomes ready and waited, or inherits a priority, but by its activation
pub record BaseMoves (p : Image) (Fits : Fitting) (Sleeps : Sleeping) (X : State) : Type 0 where
  pub quiet : Silences X
  pub inherits : (name : Who) (cause : Cause) (level : ℕ) (w : World) (said : List Said) → same_cause inherited_by.Activation cause ≡ false → X w said
      → X (inherit name cause level w) said
  pub sleeps : (w : World) (name : Who) → is_blocked (task_of w name).state ≡ true → Sleeps w name
  pub sleeps_on : (a b : World) (name : Who) → Same a b → Sleeps a name → Sleeps b name
  pub sleeps_behind : (id : ScopeId) (w : World) (name : Who) → Sleeps w name → Sleeps (end_scope id w) name
  pub sleeps_heir : (heir : Who) (cause : Cause) (level : ℕ) (w : World) (name : Who) → Sleeps w name → Sleeps (inherit heir cause level w) name
  pub wakes : (part : Part) (name : Who) → Fits part name → Leads (With X (λ w. Sleeps w name)) X (ready p part name)
