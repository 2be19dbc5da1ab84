-- Who stands in the ready queues in every world that a run reaches (D.2.1).
use Rattle.std.specs.Prelude.{IsTrue, ℕ, ℤ, List}
use Rattle.profile_image.specs.declared.image.Image.{Image}
use Rattle.profile_image.specs.declared.script_items.Item.{Item}
use Rattle.profile_machine.specs.declared.world.World.{World}
use Rattle.machine_laws.specs.Reached.{Reached}
use Rattle.profile_machine.specs.WellFormed.{places_are_right}

-- whoever is ready, each once, in order, at its active priority and with its deadline
abbrev pub ReachedPlacesAreRight : Type 0
ReachedPlacesAreRight = (p : Image) (script : List (ℤ × Item)) (bound : ℕ) (w : World) → Reached p script bound w
    → IsTrue (places_are_right p w)
