-- Appointments that are set and dropped: each step keeps a relation that its parts keep.
use Rattle.profile_image.specs.declared.image.Image.{Image}
use Rattle.std.proofs.Common.{ℤ, Bool}
use Rattle.trace_text.specs.declared.events.Who.{Who}
use Rattle.trace_text.specs.declared.events.Who.TheVariants as who
use Rattle.profile_machine.specs.declared.world.World.{World}
use Rattle.profile_machine.specs.declared.world.appointments.Due.{Due}
use Rattle.profile_machine.specs.Steps.{changes}
use Rattle.profile_machine.specs.Appointments.{appoint, drop_appointment, drop_delay}
use Rattle.machine_laws.proofs.FineMoves.{GoodWorld, Naming}
use Rattle.world_laws.proofs.Sequences.FineMoves.{FineMoves, chains}
use Rattle.world_laws.proofs.Behind.{Behind}
use Rattle.machine_laws.proofs.Kept.Combinators.{Alters, From, changes-from, unchanged-alters}

module _ {p : Image} {G : GoodWorld} {May Other : Naming} (moves : FineMoves p G May Other) where
  pub appoint-from : (due : Due) (moment : ℤ) (w : World) → G w → From (Behind G) w (changes (appoint due moment))
  appoint-from due moment w good = changes-from (chains moves) (appoint due moment) w (moves.appoints due moment w good)

  pub drop_appointment-alters : (test : Due → Bool) → Alters G (Behind G) (drop_appointment test)
  unfolding Alters
  drop_appointment-alters test w good = moves.drops_appointment test w good

  pub drop_delay-alters : (name : Who) → Alters G (Behind G) (drop_delay name)
  drop_delay-alters (who.Task t) = search (drop_appointment-alters)
  drop_delay-alters who.Agent = search (unchanged-alters, chains)
