-- Idle stretches: while nobody is ready and nothing is due, only the time goes on.
use Rattle.std.specs.Prelude.{◌≡◌, ℕ, ◌+◌, ◌≤◌, ℤ, pos, ◌≤ℤ◌, false, ◌&&◌, List, [], ◌∷◌, None}
use Rattle.profile_image.specs.declared.image.Image.{Image}
use Rattle.profile_image.specs.declared.script_items.Item.{Item}
use Rattle.profile_machine.specs.declared.world.World.{World}
use Rattle.profile_machine.specs.declared.world.appointments.Appointment.{Appointment}
use Rattle.ann_base.specs.Lists.{is_empty}
use Rattle.profile_machine.specs.Run.{run_from}

-- the world at this tick, with nobody ready, nobody who ran, and nothing that the tick before made due
abbrev pub idle_at : World → ℕ → World
idle_at w n = record w { time = n; ran = None; places = []; ended = None; timers_due = []; budget_due = None }

-- no appointment is before this tick
abbrev pub NoneBefore : ℕ → List Appointment → Type 0
NoneBefore n [] = Unit {0}
NoneBefore n (a ∷ rest) = (pos n ≤ℤ a.moment) × NoneBefore n rest

-- nothing is ahead in the script, or what is first is not before this tick: no other item comes before it
abbrev pub FirstNotBefore : ℕ → List (ℤ × Item) → Type 0
FirstNotBefore n [] = Unit {0}
FirstNotBefore n (x ∷ rest) = pos n ≤ℤ x.0

-- what is left of a run from an idle world with something ahead is what is left of it from the same world at any later
-- tick up to the first appointment, the next item of the script and the bound
abbrev pub IdleStretches : Type 0
IdleStretches = (p : Image) (bound : ℕ) (w : World) (n k fuel : ℕ) → n + k ≤ bound
    → (is_empty w.appointments && is_empty w.script) ≡ false → NoneBefore (n + k) w.appointments
    → FirstNotBefore (n + k) w.script → run_from (k + fuel) p bound (idle_at w n)
    ≡ run_from fuel p bound (idle_at w (n + k))
