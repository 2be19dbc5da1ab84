-- The items of the script: no instant leaves the first that is ahead where its moment has come, so the fuel with which
-- an instant takes them never runs out (own).
use Rattle.std.specs.Prelude.{ℕ, ℤ, pos, int_lt, Bool, true, IsTrue, List, [], ◌∷◌}
use Rattle.profile_image.specs.declared.image.Image.{Image}
use Rattle.profile_image.specs.declared.script_items.Item.{Item}
use Rattle.profile_machine.specs.declared.world.World.{World}
use Rattle.profile_machine.specs.Instant.{instant}

-- nothing is ahead, or what is first is later than now
abbrev pub first_is_later : ℕ → List (ℤ × Item) → Bool
first_is_later now [] = true
first_is_later now (x ∷ xs) = int_lt (pos now) x.0

abbrev pub no_item_due : World → Bool
no_item_due w = first_is_later w.time w.script

-- of any world
abbrev pub InstantsLeaveNoItemDue : Type 0
InstantsLeaveNoItemDue = (p : Image) (w : World) → IsTrue (no_item_due (instant p w).0)
