-- Inherited priorities: each step keeps a relation that its parts keep.
use Rattle.std.specs.Prelude.{ℕ}
use Rattle.trace_text.specs.declared.events.Who.{Who}
use Rattle.profile_image.specs.declared.image.Image.{Image}
use Rattle.profile_machine.specs.declared.world.tasks.Cause.{Cause}
use Rattle.profile_machine.specs.Inheritance.{inherit, lose, inherit_running, lose_running}
use Rattle.machine_laws.proofs.FineMoves.{GoodWorld, Naming}
use Rattle.world_laws.proofs.Sequences.FineMoves.{FineMoves, chains}
use Rattle.world_laws.proofs.Behind.{Behind}
use Rattle.world_laws.proofs.Sequences.Kept.Tasks.{edit_task-alters}
use Rattle.world_laws.proofs.Sequences.Kept.Dispatching.{to_head-keeps}
use Rattle.machine_laws.proofs.Kept.Combinators.{Alters, Keeps, changes-keeps, looks-keeps, then-keeps, when-keeps}

module _ {p : Image} {G : GoodWorld} {May Other : Naming} (moves : FineMoves p G May Other) where
  pub inherit-alters : (name : Who) (cause : Cause) (level : ℕ) → Alters G (Behind G) (inherit name cause level)
  inherit-alters name cause level = search (edit_task-alters)

  pub lose-alters : (name : Who) (cause : Cause) → Alters G (Behind G) (lose name cause)
  lose-alters name cause = search (edit_task-alters)

  pub inherit_running-keeps : (name : Who) (cause : Cause) (level : ℕ) → Keeps G (Behind G) (inherit_running p name cause level)
  unfolding inherit_running
  inherit_running-keeps name cause level = search (looks-keeps, changes-keeps, inherit-alters, then-keeps, when-keeps, to_head-keeps, chains) depth 7

  pub lose_running-keeps : (name : Who) (cause : Cause) → Keeps G (Behind G) (lose_running p name cause)
  unfolding lose_running
  lose_running-keeps name cause = search (looks-keeps, changes-keeps, lose-alters, then-keeps, when-keeps, to_head-keeps, chains) depth 7
