-- The cells of the scopes in use in every world that a run reaches (3.1, 3.3.1).
use Rattle.std.specs.Prelude.{IsTrue, ℕ, ℤ, List}
use Rattle.profile_image.specs.declared.image.Image.{Image}
use Rattle.profile_image.specs.declared.script_items.Item.{Item}
use Rattle.profile_machine.specs.declared.world.World.{World}
use Rattle.machine_laws.specs.Reached.{Reached}
use Rattle.profile_machine.specs.WellFormed.{cells_are_right}

-- each scope in use has as many cells as its text says
abbrev pub ReachedCellsAreRight : Type 0
ReachedCellsAreRight = (p : Image) (script : List (ℤ × Item)) (bound : ℕ) (w : World) → Reached p script bound w
    → IsTrue (cells_are_right p w)
