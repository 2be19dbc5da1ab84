-- The scopes in use in every world that a run reaches (3.1, 7.6.1, 8.2).
use Rattle.std.specs.Prelude.{IsTrue, ℕ, ℤ, List}
use Rattle.profile_image.specs.declared.image.Image.{Image}
use Rattle.profile_image.specs.declared.script_items.Item.{Item}
use Rattle.profile_machine.specs.declared.world.World.{World}
use Rattle.machine_laws.specs.Reached.{Reached}
use Rattle.profile_machine.specs.WellFormed.{scopes_are_right}

-- the scopes in use are those of the marks that are open, each of the task whose mark it is, the newest first
abbrev pub ReachedScopesAreRight : Type 0
ReachedScopesAreRight = (p : Image) (script : List (ℤ × Item)) (bound : ℕ) (w : World) → Reached p script bound w
    → IsTrue (scopes_are_right w)
