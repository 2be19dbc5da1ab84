-- Put_Line and blocks: each step keeps a relation that its parts keep.
use Rattle.std.proofs.Common.{refl}
use Rattle.std.specs.Prelude.{List}
use Rattle.trace_text.specs.declared.events.Who.{Who}
use Rattle.profile_image.specs.declared.image.Image.{Image}
use Rattle.profile_image.specs.declared.numbers.ScopeNo.{ScopeNo}
use Rattle.profile_image.specs.declared.numbers.StatementNo.{StatementNo}
use Rattle.profile_image.specs.declared.statements.Piece.{Piece}
use Rattle.profile_machine.specs.declared.world.lines.Line.TheVariants as line
use Rattle.profile_machine.specs.declared.world.lines.Part.TheVariants.{Own}
use Rattle.profile_image.specs.Program.{next_of}
use Rattle.profile_machine.specs.Statements.{block_statement, text_of_pieces, put_line}
use Rattle.machine_laws.proofs.Moves.{StepRelation, MoveRelation}
use Rattle.world_laws.proofs.Appointments.FineMoves.{FineMoves, chains, says-keeps}
use Rattle.world_laws.proofs.Appointments.Kept.Frames.{goes-keeps, plain_steps}
use Rattle.world_laws.proofs.Appointments.Kept.Scopes.{open_scope-alters}
use Rattle.machine_laws.proofs.FineMoves.{GoodWorld, Naming}
use Rattle.machine_laws.proofs.Kept.Combinators.{Keeps, changes-keeps, looks-keeps, sees-keeps, then-keeps}
use Rattle.machine_laws.proofs.Plain.Frames.{given-keeps, with_room-keeps}

module _ {G : GoodWorld} {May : Naming} {R : StepRelation} {Q : MoveRelation} (moves : FineMoves G May R Q) where
  pub put_line-keeps : (p : Image) (name : Who) (s : StatementNo) (pieces : List Piece) → Keeps G R (put_line p name s pieces)
  unfolding put_line
  put_line-keeps p name s pieces =
      sees-keeps (chains moves) p name _
      (λ q. given-keeps (plain_steps moves) Own name (text_of_pieces q pieces) _
      (λ text. then-keeps (chains moves) _ _ (goes-keeps moves name (next_of p s)) (says-keeps moves Own (line.Put name text) refl)))

module _ {G : GoodWorld} {May : Naming} {R : StepRelation} {Q : MoveRelation} (moves : FineMoves G May R Q) where
  pub block_statement-keeps : (p : Image) (name : Who) (s : StatementNo) (scope : ScopeNo) → Keeps G R (block_statement p name s scope)
  unfolding block_statement
  block_statement-keeps p name s scope = search (with_room-keeps, goes-keeps, then-keeps, looks-keeps, changes-keeps, open_scope-alters, chains, plain_steps)
