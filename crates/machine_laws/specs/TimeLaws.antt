-- Time: a run begins at 0, an instant takes none, a tock takes one tick.
use Rattle.std.specs.Prelude.{◌≡◌, suc, ℤ, List}
use Rattle.profile_image.specs.declared.image.Image.{Image}
use Rattle.profile_image.specs.declared.script_items.Item.{Item}
use Rattle.profile_machine.specs.declared.world.World.{World}
use Rattle.profile_machine.specs.Instant.{instant}
use Rattle.profile_machine.specs.Run.{tock, opening}

-- a run begins at 0
abbrev pub RunsBeginAtZero : Type 0
RunsBeginAtZero = (p : Image) (script : List (ℤ × Item)) → (opening p script).0.time ≡ 0

-- no instant changes the time
abbrev pub InstantsTakeNoTime : Type 0
InstantsTakeNoTime = (p : Image) (w : World) → (instant p w).0.time ≡ w.time

-- a tock takes one tick
abbrev pub TocksTakeOneTick : Type 0
TocksTakeOneTick = (p : Image) (w : World) → (tock p w).0.time ≡ suc w.time
