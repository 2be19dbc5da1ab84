-- Idle ticks: behind a tock with nobody ready and nothing due, the time becomes the first tick at which something is
-- due.
use Rattle.std.specs.Prelude.{ℕ, ℤ, pos, negsuc, min, max, Bool, not, ◌&&◌, cond, List, [], ◌∷◌, is_none}
use Rattle.profile_image.specs.declared.script_items.Item.{Item}
use Rattle.profile_machine.specs.declared.world.World.{World}
use Rattle.profile_machine.specs.declared.world.appointments.Appointment.{Appointment}
use Rattle.ann_base.specs.Lists.{is_empty}

-- the tick of a moment, or another tick where that is sooner
abbrev pub sooner : ℤ → ℕ → ℕ
sooner (pos at) tick = min at tick
sooner (negsuc before) tick = 0

-- the first moment of appointments, or a tick that is sooner
abbrev pub first_appointed : List Appointment → ℕ → ℕ
first_appointed [] tick = tick
first_appointed (a ∷ rest) tick = first_appointed rest (sooner a.moment tick)

-- the moment of the script's first item, or a tick that is sooner
abbrev pub first_item : List (ℤ × Item) → ℕ → ℕ
first_item [] tick = tick
first_item (x ∷ rest) tick = sooner x.0 tick

-- nobody is ready or ran, the tick before made nothing due, and something is ahead
abbrev pub is_idle : World → Bool
is_idle w =
    is_empty w.places && is_none w.ran && is_none w.ended && is_empty w.timers_due && is_none w.budget_due
    && not (is_empty w.appointments && is_empty w.script)

-- the first of the bound, the appointments and the script's next item, and no tick that is past
abbrev pub first_tick : ℕ → World → ℕ
first_tick bound w = max w.time (first_item w.script (first_appointed w.appointments bound))

-- an idle world goes on at the first tick at which something is due, or at the bound
unfoldable pub jumped : ℕ → World → World
jumped bound w = cond (is_idle w) (record w { time = first_tick bound w }) w
