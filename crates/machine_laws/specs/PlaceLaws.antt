-- The ready queues of a world are what the lines say: `ready` places, `block` and `done` take out, and nothing else
-- moves anybody.
use Rattle.std.specs.Prelude.{◌≡◌, ℤ, Bool, not, List, [], IsTrue}
use Rattle.profile_image.specs.declared.image.Image.{Image}
use Rattle.profile_image.specs.declared.script_items.Item.{Item}
use Rattle.profile_machine.specs.declared.world.World.{World}
use Rattle.profile_image.specs.Words.{same_who}
use Rattle.profile_machine.specs.Steps.{places_after_all, is_above}
use Rattle.profile_machine.specs.Instant.{instant}
use Rattle.profile_machine.specs.Run.{opening, tock}
use Rattle.profile_machine.specs.WellFormed.{all_adjacent, all_differ}
use Rattle.machine_laws.specs.Reached.{AllReached}

abbrev pub OpeningsPlaceByLines : Type 0
OpeningsPlaceByLines = (p : Image) (script : List (ℤ × Item))
    → (opening p script).0.places ≡ places_after_all (opening p script).1 []

abbrev pub InstantsPlaceByLines : Type 0
InstantsPlaceByLines = (p : Image) (w : World) → (instant p w).0.places ≡ places_after_all (instant p w).1 w.places

-- a tock moves nobody
abbrev pub TocksPlaceNobody : Type 0
TocksPlaceNobody = (p : Image) (w : World) → (tock p w).0.places ≡ w.places

-- nobody is in the ready queues twice
abbrev pub places_differ : World → Bool
places_differ w = all_differ (λ x y. same_who x.who y.who) w.places

abbrev pub NobodyIsPlacedTwice : Type 0
NobodyIsPlacedTwice = AllReached (λ w. IsTrue (places_differ w))

-- they stand by level, and of one level by deadline
abbrev pub places_fall : World → Bool
places_fall w = all_adjacent (λ x y. not (is_above y x)) w.places

abbrev pub PlacesAreInOrder : Type 0
PlacesAreInOrder = AllReached (λ w. IsTrue (places_fall w))
