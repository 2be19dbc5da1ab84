-- The worlds that a run reaches: before each of its instants, and behind it.
use Rattle.std.specs.Prelude.{◌≡◌, ℕ, ℤ, List, None}
use Rattle.profile_image.specs.declared.image.Image.{Image}
use Rattle.profile_image.specs.declared.script_items.Item.{Item}
use Rattle.profile_machine.specs.declared.world.World.{World}
use Rattle.profile_machine.specs.Instant.{instant}
use Rattle.profile_machine.specs.Run.{opening, stop, tock}

-- before an instant: the opening world, and behind the tock of each instant at which the run does not stop
pub data Comes (p : Image) (script : List (ℤ × Item)) (bound : ℕ) : World → Type 0 where
  opened : Comes p script bound (opening p script).0
  ticked : (w : World) → Comes p script bound w → stop p bound (instant p w).0 ≡ None
      → Comes p script bound (tock p (instant p w).0).0

pub data Reached (p : Image) (script : List (ℤ × Item)) (bound : ℕ) : World → Type 0 where
  before : (w : World) → Comes p script bound w → Reached p script bound w
  behind : (w : World) → Comes p script bound w → Reached p script bound (instant p w).0

-- what holds of every world that any run reaches
abbrev pub AllReached : (World → Type 0) → Type 0
AllReached P = (p : Image) (script : List (ℤ × Item)) (bound : ℕ) (w : World) → Reached p script bound w → P w
