-- Scopes that begin and end: each step keeps a relation that its parts keep.
use Rattle.trace_text.specs.declared.events.Who.{Who}
use Rattle.profile_image.specs.declared.image.Image.{Image}
use Rattle.profile_image.specs.declared.numbers.ScopeNo.{ScopeNo}
use Rattle.profile_machine.specs.declared.world.marks.Purpose.{Purpose}
use Rattle.profile_machine.specs.declared.world.scopes.ScopeId.{ScopeId}
use Rattle.profile_machine.specs.declared.world.scopes.Beginning.{Beginning}
use Rattle.profile_machine.specs.Scopes.{open_scope, end_scope}
use Rattle.machine_laws.proofs.Moves.{StepRelation, MoveRelation}
use Rattle.machine_laws.proofs.FineMoves.{GoodWorld, Naming}
use Rattle.machine_laws.proofs.FinestMoves.{FinestMoves, MarkOpenings}
use Rattle.machine_laws.proofs.Kept.Combinators.{Alters}

module _ {G : GoodWorld} {May Other : Naming} {R : StepRelation} {Q : MoveRelation} (moves : FinestMoves G May Other R Q) where
  pub end_scope-alters : (id : ScopeId) → Alters G R (end_scope id)
  unfolding Alters
  end_scope-alters id w good = moves.ends_scope id w good

module _ {G : GoodWorld} {May Other : Naming} {R : StepRelation} (openings : MarkOpenings G May Other R) where
  pub open_scope-alters : (p : Image) (name : Who) (scope : ScopeNo) (b : Beginning) (purpose : Purpose) → May name
      → Alters G R (open_scope p name scope b purpose)
  unfolding Alters
  open_scope-alters p name scope b purpose may w good = openings.opens_scope p name scope b purpose w good may
