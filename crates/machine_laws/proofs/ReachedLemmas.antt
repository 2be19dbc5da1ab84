-- What the opening has, and instants and tocks keep, holds of every world that a run reaches.
use Rattle.std.proofs.Common.{ℕ, ℤ, List}
use Rattle.profile_image.specs.declared.image.Image.{Image}
use Rattle.profile_image.specs.declared.script_items.Item.{Item}
use Rattle.profile_machine.specs.declared.world.World.{World}
use Rattle.profile_machine.specs.Instant.{instant}
use Rattle.profile_machine.specs.Run.{opening, tock}
use Rattle.machine_laws.specs.Reached.{Comes, opened, ticked, Reached, before, behind}

pub record Lasts (P : World → Type 0) : Type 0 where
  pub at_opening : (p : Image) (script : List (ℤ × Item)) → P (opening p script).0
  pub at_instant : (p : Image) (w : World) → P w → P (instant p w).0
  pub at_tock : (p : Image) (w : World) → P w → P (tock p w).0

module _ {P : World → Type 0} (lasts : Lasts P) where
  comes-lasts : (p : Image) (script : List (ℤ × Item)) (bound : ℕ) (w : World) → Comes p script bound w → P w
  comes-lasts p script bound _ opened = lasts.at_opening p script
  comes-lasts p script bound _ (ticked w c e) = lasts.at_tock p (instant p w).0 (lasts.at_instant p w (comes-lasts p script bound w c))

  pub reached-lasts : (p : Image) (script : List (ℤ × Item)) (bound : ℕ) (w : World) → Reached p script bound w → P w
  reached-lasts p script bound _ (before w c) = comes-lasts p script bound w c
  reached-lasts p script bound _ (behind w c) = lasts.at_instant p w (comes-lasts p script bound w c)
