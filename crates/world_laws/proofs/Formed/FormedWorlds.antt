-- The parts of a well-formed world, one after the other.
use Rattle.std.proofs.Common.{◌≡◌, ℕ, ℤ, pos, Bool, true, ◌&&◌, List, [], ◌∷◌, refl}
use Rattle.std.specs.Prelude.{int_le}
use Rattle.std.specs.List.{list_all}
use Rattle.std.proofs.lemmas.Bool.{and_from, and_parts}
use Rattle.profile_image.specs.declared.image.Image.{Image}
use Rattle.profile_image.specs.declared.script_items.Item.{Item}
use Rattle.profile_machine.specs.declared.world.World.{World}
use Rattle.profile_machine.specs.declared.world.appointments.Appointment.{Appointment}
use Rattle.profile_machine.specs.declared.world.appointments.Due.{Due}
use Rattle.profile_machine.specs.declared.world.appointments.Due.TheVariants as due_for
use Rattle.profile_machine.specs.WellFormed.{all_adjacent, is_awaited, appointments_are_right, places_are_right, tasks_are_numbered}
use Rattle.profile_machine.specs.WellFormed.{registered_are_numbered, releases_are_numbered, scopes_are_right, cells_are_right}
use Rattle.profile_machine.specs.WellFormed.{actions_are_right, queues_are_right, marks_are_right, sequences_are_open}
use Rattle.machine_laws.specs.Reached.{Reached}
use Rattle.machine_laws.proofs.NumberLemmas.{reached_tasks, reached_registered, reached_releases}
use Rattle.world_laws.proofs.Places.PlaceWorlds.{reached_places_are_right}
use Rattle.world_laws.proofs.Scopes.ScopeWorlds.{reached_scopes_are_right}
use Rattle.world_laws.proofs.Cells.CellWorlds.{reached_cells_are_right}
use Rattle.world_laws.proofs.Actions.ActionWorlds.{reached_actions_are_right}
use Rattle.world_laws.proofs.Queues.QueueWorlds.{reached_queues_are_right, reached_timeouts_are_awaited}
use Rattle.world_laws.specs.QueueWorlds.{is_timeout_awaited}
use Rattle.world_laws.proofs.Marks.MarkWorlds.{reached_marks_are_right}
use Rattle.world_laws.proofs.Marks.TriggerWorlds.{reached_triggers_are_awaited}
use Rattle.world_laws.specs.MarkWorlds.{trigger_is_awaited}
use Rattle.world_laws.proofs.Appointments.AppointmentWorlds.{reached_appointments_are_in_order}
use Rattle.world_laws.proofs.Appointments.DelayWorlds.{reached_delays_are_awaited}
use Rattle.world_laws.specs.AppointmentWorlds.{delay_is_awaited}
use Rattle.world_laws.proofs.Sequences.SequenceWorlds.{reached_sequences_are_open}
use Rattle.world_laws.specs.FormedWorlds.{ReachedWorldsAreWellFormed}

-- ---- appointments: whatever one is for is awaited, by the three laws of delays, time-outs and triggers

due-awaited : (p : Image) (w : World) (d : Due) → delay_is_awaited p w d ≡ true → is_timeout_awaited p w d ≡ true → trigger_is_awaited p w d ≡ true
    → is_awaited p w d ≡ true
due-awaited p w (due_for.Event n h) delay timeout trigger = refl
due-awaited p w (due_for.Delay t) delay timeout trigger = delay
due-awaited p w (due_for.Timeout c) delay timeout trigger = timeout
due-awaited p w (due_for.Trigger t depth) delay timeout trigger = trigger

all-awaited : (p : Image) (w : World) (xs : List Appointment) → list_all (λ a. delay_is_awaited p w a.due) xs ≡ true
    → list_all (λ a. is_timeout_awaited p w a.due) xs ≡ true → list_all (λ a. trigger_is_awaited p w a.due) xs ≡ true
    → list_all (λ a. is_awaited p w a.due) xs ≡ true
all-awaited p w [] delays timeouts triggers = refl
all-awaited p w (x ∷ xs) delays timeouts triggers =
    let delayed = list_all (λ a. delay_is_awaited p w a.due) xs in
    let timed = list_all (λ a. is_timeout_awaited p w a.due) xs in
    let triggered = list_all (λ a. trigger_is_awaited p w a.due) xs in
    and_from (is_awaited p w x.due) (list_all (λ a. is_awaited p w a.due) xs)
    (due-awaited p w x.due ((and_parts (delay_is_awaited p w x.due) delayed delays).0) ((and_parts (is_timeout_awaited p w x.due) timed timeouts).0)
    ((and_parts (trigger_is_awaited p w x.due) triggered triggers).0))
    (all-awaited p w xs ((and_parts (delay_is_awaited p w x.due) delayed delays).1) ((and_parts (is_timeout_awaited p w x.due) timed timeouts).1)
    ((and_parts (trigger_is_awaited p w x.due) triggered triggers).1))

reached_appointments_are_right : (p : Image) (script : List (ℤ × Item)) (bound : ℕ) (w : World) → Reached p script bound w → appointments_are_right p w ≡ true
reached_appointments_are_right p script bound w r =
    and_from (all_adjacent (λ a b. int_le a.moment b.moment) w.appointments && list_all (λ a. int_le (pos w.time) a.moment) w.appointments)
    (list_all (λ a. is_awaited p w a.due) w.appointments)
    (reached_appointments_are_in_order p script bound w r)
    (all-awaited p w w.appointments (reached_delays_are_awaited p script bound w r) (reached_timeouts_are_awaited p script bound w r)
    (reached_triggers_are_awaited p script bound w r))

-- ---- the whole

all_eleven : (a b c d e f g h i j k : Bool) → a ≡ true → b ≡ true → c ≡ true → d ≡ true → e ≡ true → f ≡ true → g ≡ true → h ≡ true → i ≡ true → j ≡ true
    → k ≡ true → (a && b && c && d && e && f && g && h && i && j && k) ≡ true
all_eleven a b c d e f g h i j k ta tb tc td te tf tg th ti tj tk =
    and_from _ k (and_from _ j
    (and_from _ i
    (and_from _ h (and_from _ g (and_from _ f (and_from _ e (and_from _ d (and_from _ c (and_from a b ta tb) tc) td) te) tf) tg) th) ti) tj) tk

pub reached_worlds_are_well_formed : ReachedWorldsAreWellFormed
reached_worlds_are_well_formed p fits script bound w r =
    all_eleven (places_are_right p w) (tasks_are_numbered w) (registered_are_numbered w) (releases_are_numbered w) (scopes_are_right w) (cells_are_right p w)
    (actions_are_right p w) (queues_are_right p w) (appointments_are_right p w) (marks_are_right w) (sequences_are_open p w)
    (reached_places_are_right p script bound w r) (reached_tasks p script bound w r) (reached_registered p script bound w r)
    (reached_releases p script bound w r) (reached_scopes_are_right p script bound w r) (reached_cells_are_right p script bound w r)
    (reached_actions_are_right p script bound w r) (reached_queues_are_right p script bound w r) (reached_appointments_are_right p script bound w r)
    (reached_marks_are_right p script bound w r) (reached_sequences_are_open p fits script bound w r)
