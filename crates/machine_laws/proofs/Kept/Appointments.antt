-- Appointments that are set and dropped: each step keeps a relation that its parts keep.
use Rattle.std.proofs.Common.{◌≡◌, ℕ, ℤ, Bool, true, false, arith, refl}
use Rattle.std.specs.Prelude.{int_le, int_lt, pos}
use Rattle.std.proofs.lemmas.Int.{ints}
use Rattle.trace_text.specs.declared.events.Who.{Who}
use Rattle.trace_text.specs.declared.events.Who.TheVariants as who
use Rattle.profile_machine.specs.declared.world.World.{World}
use Rattle.profile_machine.specs.declared.world.appointments.Due.{Due}
use Rattle.profile_machine.specs.Steps.{changes}
use Rattle.profile_machine.specs.Appointments.{appoint, drop_appointment, drop_delay, is_delay_of, is_an_event}
use Rattle.machine_laws.proofs.Moves.{StepRelation, MoveRelation}
use Rattle.machine_laws.proofs.FineMoves.{GoodWorld, Naming}
use Rattle.machine_laws.proofs.FinestMoves.{FinestMoves, SparesEvents, chains}
use Rattle.machine_laws.proofs.Kept.Combinators.{Alters, From, changes-from, unchanged-alters}

-- a moment that is not past is later
pub is_later : (now : ℕ) (moment : ℤ) → int_le moment (pos now) ≡ false → int_lt (pos now) moment ≡ true
is_later now moment h = grind (arith, ints)

module _ {G : GoodWorld} {May Other : Naming} {R : StepRelation} {Q : MoveRelation} (moves : FinestMoves G May Other R Q) where
  pub appoint-from : (due : Due) (moment : ℤ) (w : World) → G w → is_an_event due ≡ false → int_lt (pos w.time) moment ≡ true
      → From R w (changes (appoint due moment))
  appoint-from due moment w good other later = changes-from (chains moves) (appoint due moment) w (moves.appoints due moment w good other later)

  pub drop_appointment-alters : (test : Due → Bool) → SparesEvents test → Alters G R (drop_appointment test)
  unfolding Alters
  drop_appointment-alters test spares w good = moves.drops_appointment test w good spares

  pub drop_delay-alters : (name : Who) → Alters G R (drop_delay name)
  drop_delay-alters (who.Task t) = drop_appointment-alters (is_delay_of t) (λ n h. refl)
  drop_delay-alters who.Agent = search (unchanged-alters, chains)
