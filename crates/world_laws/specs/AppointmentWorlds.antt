-- The appointments of every world that a run reaches (9.6, 9.7, D.15).
use Rattle.std.specs.Prelude.{IsTrue, ℕ, ℤ, pos, int_le, Bool, true, List, ◌&&◌}
use Rattle.std.specs.List.{list_all}
use Rattle.profile_image.specs.declared.image.Image.{Image}
use Rattle.profile_image.specs.declared.script_items.Item.{Item}
use Rattle.profile_machine.specs.declared.world.World.{World}
use Rattle.machine_laws.specs.Reached.{Reached}
use Rattle.profile_machine.specs.declared.world.appointments.Due.{Due}
use Rattle.profile_machine.specs.declared.world.appointments.Due.TheVariants as due_for
use Rattle.profile_machine.specs.WellFormed.{all_adjacent, is_awaited}

-- what is appointed for the end of a delay is awaited; of other appointments nothing is asked
abbrev pub delay_is_awaited : Image → World → Due → Bool
delay_is_awaited p w (due_for.Event n h) = true
delay_is_awaited p w (due_for.Delay t) = is_awaited p w (due_for.Delay t)
delay_is_awaited p w (due_for.Timeout c) = true
delay_is_awaited p w (due_for.Trigger t depth) = true

-- appointments stand by moment, and none of them is before now
abbrev pub ReachedAppointmentsAreInOrder : Type 0
ReachedAppointmentsAreInOrder = (p : Image) (script : List (ℤ × Item)) (bound : ℕ) (w : World)
    → Reached p script bound w → IsTrue (all_adjacent (λ a b. int_le a.moment b.moment) w.appointments
    && list_all (λ a. int_le (pos w.time) a.moment) w.appointments)

-- whose delay is appointed waits for that delay
abbrev pub ReachedDelaysAreAwaited : Type 0
ReachedDelaysAreAwaited = (p : Image) (script : List (ℤ × Item)) (bound : ℕ) (w : World) → Reached p script bound w
    → IsTrue (list_all (λ a. delay_is_awaited p w a.due) w.appointments)
