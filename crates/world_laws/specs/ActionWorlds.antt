-- The protected actions that are open in every world that a run reaches (9.5.1, D.3).
use Rattle.std.specs.Prelude.{IsTrue, ℕ, ℤ, List}
use Rattle.profile_image.specs.declared.image.Image.{Image}
use Rattle.profile_image.specs.declared.script_items.Item.{Item}
use Rattle.profile_machine.specs.declared.world.World.{World}
use Rattle.machine_laws.specs.Reached.{Reached}
use Rattle.profile_machine.specs.WellFormed.{actions_are_right}

-- the open actions are those of the marks; whoever has one is ready and has at least the ceiling as its active priority
abbrev pub ReachedActionsAreRight : Type 0
ReachedActionsAreRight = (p : Image) (script : List (ℤ × Item)) (bound : ℕ) (w : World) → Reached p script bound w
    → IsTrue (actions_are_right p w)
