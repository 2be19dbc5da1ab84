-- Appointments: no instant leaves one that is due, so no run comes to a world with one before now (9.6, D.15).
use Rattle.std.specs.Prelude.{pos, Bool, IsTrue, int_lt, int_le}
use Rattle.std.specs.List.{list_all}
use Rattle.profile_image.specs.declared.image.Image.{Image}
use Rattle.profile_machine.specs.declared.world.World.{World}
use Rattle.profile_machine.specs.Instant.{instant}
use Rattle.machine_laws.specs.Reached.{AllReached}

abbrev pub all_later : World → Bool
all_later w = list_all (λ a. int_lt (pos w.time) a.moment) w.appointments

-- of any world
abbrev pub InstantsLeaveNoneDue : Type 0
InstantsLeaveNoneDue = (p : Image) (w : World) → IsTrue (all_later (instant p w).0)

abbrev pub none_before : World → Bool
none_before w = list_all (λ a. int_le (pos w.time) a.moment) w.appointments

abbrev pub NoneIsBeforeNow : Type 0
NoneIsBeforeNow = AllReached (λ w. IsTrue (none_before w))
