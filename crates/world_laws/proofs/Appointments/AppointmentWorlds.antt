-- Appointments stand by moment, and none of them is before now: what instants and tocks keep of both, joined.
use Rattle.std.specs.List.{list_all}
use Rattle.std.specs.Prelude.{int_le, pos}
use Rattle.std.proofs.lemmas.Bool.{and_from}
use Rattle.profile_machine.specs.WellFormed.{all_adjacent}
use Rattle.machine_laws.proofs.DueLemmas.{none_is_before_now}
use Rattle.machine_laws.proofs.NumberLemmas.{reached_appointments}
use Rattle.world_laws.specs.AppointmentWorlds.{ReachedAppointmentsAreInOrder}

pub reached_appointments_are_in_order : ReachedAppointmentsAreInOrder
reached_appointments_are_in_order p script bound w r =
    and_from (all_adjacent (λ a b. int_le a.moment b.moment) w.appointments) (list_all (λ a. int_le (pos w.time) a.moment) w.appointments)
    (reached_appointments p script bound w r) (none_is_before_now p script bound w r)
