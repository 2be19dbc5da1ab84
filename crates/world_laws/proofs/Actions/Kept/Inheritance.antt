-- Inherited priorities: each step leaves worlds good where its parts do.
use Rattle.std.specs.Prelude.{ℕ, ◌≡◌, false}
use Rattle.trace_text.specs.declared.events.Who.{Who}
use Rattle.profile_image.specs.declared.image.Image.{Image}
use Rattle.profile_machine.specs.declared.world.tasks.Cause.{Cause}
use Rattle.profile_machine.specs.Inheritance.{inherit, lose, inherit_running, lose_running}
use Rattle.world_laws.proofs.Actions.FineMoves.{FineMoves, chains}
use Rattle.world_laws.proofs.Actions.SoundActions.{is_ceiling}
use Rattle.world_laws.proofs.Actions.Kept.Dispatching.{to_head-keeps}
use Rattle.machine_laws.proofs.FineMoves.{GoodWorld, Naming}
use Rattle.machine_laws.proofs.Kept.Combinators.{Alters, Keeps, changes-keeps, looks-keeps, then-keeps, when-keeps}
use Rattle.world_laws.proofs.Behind.{Behind}

module _ {G : GoodWorld} {F : Naming} (moves : FineMoves G F) where
  pub inherit-alters : (name : Who) (cause : Cause) (level : ℕ) → Alters G (Behind G) (inherit name cause level)
  unfolding Alters
  inherit-alters name cause level w good = moves.inherits name cause level w good

  pub lose-alters : (name : Who) (cause : Cause) → is_ceiling cause ≡ false → Alters G (Behind G) (lose name cause)
  unfolding Alters
  lose-alters name cause is w good = moves.loses name cause w good is

  pub inherit_running-keeps : (p : Image) (name : Who) (cause : Cause) (level : ℕ) → Keeps G (Behind G) (inherit_running p name cause level)
  unfolding inherit_running
  inherit_running-keeps p name cause level = search (looks-keeps, changes-keeps, inherit-alters, then-keeps, when-keeps, to_head-keeps, chains) depth 7

  pub lose_running-keeps : (p : Image) (name : Who) (cause : Cause) → is_ceiling cause ≡ false → Keeps G (Behind G) (lose_running p name cause)
  unfolding lose_running
  lose_running-keeps p name cause is = search (looks-keeps, changes-keeps, lose-alters, then-keeps, when-keeps, to_head-keeps, chains) depth 7
