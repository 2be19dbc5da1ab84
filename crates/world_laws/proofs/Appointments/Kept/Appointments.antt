-- Appointments that are set and dropped: each step keeps a relation that its parts keep.
use Rattle.std.proofs.Common.{◌≡◌, ℤ, Bool, false}
use Rattle.ann_base.specs.declared.identities.TaskNo.{TaskNo}
use Rattle.trace_text.specs.declared.events.Who.{Who}
use Rattle.trace_text.specs.declared.events.Who.TheVariants as who
use Rattle.profile_machine.specs.declared.world.World.{World}
use Rattle.profile_machine.specs.declared.world.appointments.Due.{Due}
use Rattle.profile_machine.specs.Appointments.{is_delay_of, appoint, drop_appointment, drop_delay}
use Rattle.profile_machine.specs.Steps.{◌▷◌, Step, changes}
use Rattle.machine_laws.proofs.Moves.{StepRelation, MoveRelation}
use Rattle.world_laws.proofs.Appointments.DelayEdits.{dropped-idle}
use Rattle.world_laws.proofs.Appointments.Delays.{Idle}
use Rattle.world_laws.proofs.Appointments.FineMoves.{FineMoves, chains}
use Rattle.machine_laws.proofs.FineMoves.{GoodWorld, Naming}
use Rattle.machine_laws.proofs.Kept.Combinators.{Alters, From, changes_then-from}

module _ {G : GoodWorld} {May : Naming} {R : StepRelation} {Q : MoveRelation} (moves : FineMoves G May R Q) where
  -- of what is no end of a delay
  pub appoint-alters : (due : Due) (moment : ℤ) → ((t : TaskNo) → is_delay_of t due ≡ false) → Alters G R (appoint due moment)
  unfolding Alters
  appoint-alters due moment other w good = moves.appoints due moment w good other

  pub drop_appointment-alters : (test : Due → Bool) → Alters G R (drop_appointment test)
  unfolding Alters
  drop_appointment-alters test w good = moves.drops_appointment test w good

  -- behind it none is appointed for it
  pub drops_then-from : (name : Who) (g : Step) (w : World) → G w → ((v : World) → G v → Idle name v → From R v g) → From R w (changes (drop_delay name) ▷ g)
  drops_then-from (who.Task t) g w good k =
      let dropped = moves.drops_appointment (is_delay_of t) w good in
      changes_then-from (chains moves) (drop_appointment (is_delay_of t)) g w dropped
      (k (drop_appointment (is_delay_of t) w) (moves.behind w (drop_appointment (is_delay_of t) w) dropped) (dropped-idle t w))
  drops_then-from who.Agent g w good k = changes_then-from (chains moves) (λ v. v) g w (moves.stays w good) (k w good tt)
