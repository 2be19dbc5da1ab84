-- In every world that a run reaches whose delay is appointed waits for that delay.
use Rattle.std.proofs.Common.{◌≡◌, true, List, [], ◌∷◌, refl, eq-eqb}
use Rattle.std.specs.List.{list_all, list_any}
use Rattle.std.proofs.lemmas.Bool.{and_from, or_left, or_right}
use Rattle.ann_base.specs.declared.identities.TaskNo.{TaskNo}
use Rattle.profile_image.specs.declared.image.Image.{Image}
use Rattle.profile_machine.specs.declared.world.World.{World}
use Rattle.profile_machine.specs.declared.world.appointments.Appointment.{Appointment}
use Rattle.profile_machine.specs.declared.world.appointments.Due.{Due}
use Rattle.profile_machine.specs.declared.world.appointments.Due.TheVariants as due_for
use Rattle.profile_machine.specs.Appointments.{is_delay_of}
use Rattle.world_laws.proofs.Appointments.DelayRuns.{reached-good}
use Rattle.world_laws.proofs.Appointments.Delays.{Awaited}
use Rattle.world_laws.specs.AppointmentWorlds.{delay_is_awaited, ReachedDelaysAreAwaited}

-- what is appointed for a task among others is appointed for it

due-awaited : (p : Image) (w : World) (due : Due) → Awaited w
    → ((t : TaskNo) → is_delay_of t due ≡ true → list_any (λ a. is_delay_of t a.due) w.appointments ≡ true) → delay_is_awaited p w due ≡ true
due-awaited p w (due_for.Event n h) awaited among = refl
due-awaited p w (due_for.Delay t) awaited among = awaited t (among t (eq-eqb t.0 t.0 refl))
due-awaited p w (due_for.Timeout c) awaited among = refl
due-awaited p w (due_for.Trigger t depth) awaited among = refl

all-awaited : (p : Image) (w : World) (xs : List Appointment) → Awaited w
    → ((t : TaskNo) → list_any (λ a. is_delay_of t a.due) xs ≡ true → list_any (λ a. is_delay_of t a.due) w.appointments ≡ true)
    → list_all (λ a. delay_is_awaited p w a.due) xs ≡ true
all-awaited p w [] awaited among = refl
all-awaited p w (x ∷ xs) awaited among =
    and_from (delay_is_awaited p w x.due) (list_all (λ a. delay_is_awaited p w a.due) xs)
    (due-awaited p w x.due awaited (λ t e. among t (or_left (is_delay_of t x.due) (list_any (λ a. is_delay_of t a.due) xs) e)))
    (all-awaited p w xs awaited (λ t e. among t (or_right (is_delay_of t x.due) (list_any (λ a. is_delay_of t a.due) xs) e)))

pub reached_delays_are_awaited : ReachedDelaysAreAwaited
reached_delays_are_awaited p script bound w r = all-awaited p w w.appointments (reached-good p script bound w r).awaited (λ t e. e)
