-- Bodies of subprograms that begin: each step keeps a relation that its parts keep.
use Rattle.std.specs.Prelude.{List}
use Rattle.trace_text.specs.declared.events.Who.{Who}
use Rattle.profile_machine.specs.declared.world.scopes.Handed.{Handed}
use Rattle.profile_image.specs.declared.image.Image.{Image}
use Rattle.profile_image.specs.declared.numbers.StatementNo.{StatementNo}
use Rattle.profile_image.specs.declared.numbers.SubprogramNo.{SubprogramNo}
use Rattle.profile_image.specs.declared.statements.Actual.{Actual}
use Rattle.profile_image.specs.declared.statements.Destination.{Destination}
use Rattle.profile_machine.specs.declared.world.marks.ResultTo.{ResultTo}
use Rattle.profile_machine.specs.declared.world.scopes.Beginning.{Beginning}
use Rattle.profile_machine.specs.Subprograms.{begin_body, call_subprogram}
use Rattle.machine_laws.proofs.Moves.{StepRelation, MoveRelation}
use Rattle.line_laws.proofs.Leaving.FineMoves.{FineMoves, chains}
use Rattle.line_laws.proofs.Leaving.Kept.Frames.{goes-keeps, plain_steps}
use Rattle.line_laws.proofs.Leaving.Kept.Scopes.{open_scope-alters}
use Rattle.machine_laws.proofs.FineMoves.{GoodWorld, Naming}
use Rattle.machine_laws.proofs.Kept.Combinators.{Keeps, changes-keeps, sees-keeps, then-keeps}
use Rattle.machine_laws.proofs.Plain.Frames.{with_room-keeps}
use Rattle.machine_laws.proofs.Plain.Subprograms.{handing-keeps}

module _ {G : GoodWorld} {May Acts Pushes : Naming} {Stops : Type 0} {R : StepRelation} {Q : MoveRelation} (moves : FineMoves G May Acts Pushes Stops R Q) where
  pub begin_body-keeps : (p : Image) (name : Who) (s : StatementNo) (f : SubprogramNo) (b : Beginning) (h : Handed) (to : ResultTo) → May name
      → Keeps G R (begin_body p name s f b h to)
  unfolding begin_body
  begin_body-keeps p name s f b h to may = search (goes-keeps, then-keeps, changes-keeps, open_scope-alters, chains)

  pub call_subprogram-keeps : (p : Image) (name : Who) (s : StatementNo) (f : SubprogramNo) (actuals : List Actual) (to : Destination) → May name
      → Keeps G R (call_subprogram p name s f actuals to)
  unfolding call_subprogram
  call_subprogram-keeps p name s f actuals to may = search (with_room-keeps, handing-keeps, sees-keeps, begin_body-keeps, chains, plain_steps)
