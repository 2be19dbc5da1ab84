-- What an appointment is for, without the handler that an event has.
use Rattle.std.specs.Prelude.{Bool}
use Rattle.profile_machine.specs.declared.world.appointments.Due.{Due}
use Rattle.profile_machine.specs.Appointments.{is_delay_of, is_timeout_of, is_trigger_of}
use Rattle.profile_machine.specs.Values.{is_event}
use Rattle.profile_machine.specs.declared.world.agenda.DueOf.{DueOf}
use Rattle.profile_machine.specs.declared.world.agenda.DueOf.TheVariants as of

abbrev pub is_due_of : DueOf → Due → Bool
is_due_of (of.Event n) = is_event n
is_due_of (of.Delay t) = is_delay_of t
is_due_of (of.Timeout c) = is_timeout_of c
is_due_of (of.Trigger t depth) = is_trigger_of t depth
