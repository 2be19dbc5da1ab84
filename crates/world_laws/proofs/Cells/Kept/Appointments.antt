-- Appointments: each change keeps the cells right.
use Rattle.std.specs.Prelude.{ℤ, Bool}
use Rattle.trace_text.specs.declared.events.Who.{Who}
use Rattle.trace_text.specs.declared.events.Who.TheVariants as who
use Rattle.profile_machine.specs.declared.world.appointments.Due.{Due}
use Rattle.profile_machine.specs.Appointments.{appoint, drop_appointment, drop_delay}
use Rattle.profile_image.specs.declared.image.Image.{Image}
use Rattle.world_laws.proofs.Cells.RightCells.{Right, Alters, unchanged-alters}

pub appoint-alters : {p : Image} (due : Due) (moment : ℤ) → Alters p (appoint due moment)
unfolding Right
appoint-alters due moment = record { at = λ w right. right }

pub drop_appointment-alters : {p : Image} (test : Due → Bool) → Alters p (drop_appointment test)
unfolding Right
drop_appointment-alters test = record { at = λ w right. right }

pub drop_delay-alters : {p : Image} (name : Who) → Alters p (drop_delay name)
drop_delay-alters (who.Task t) = search (drop_appointment-alters)
drop_delay-alters who.Agent = search (unchanged-alters)
