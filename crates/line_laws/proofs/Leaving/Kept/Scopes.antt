-- Scopes that begin and end: each step keeps a relation that its parts keep.
use Rattle.trace_text.specs.declared.events.Who.{Who}
use Rattle.profile_image.specs.declared.image.Image.{Image}
use Rattle.profile_image.specs.declared.numbers.ScopeNo.{ScopeNo}
use Rattle.profile_machine.specs.declared.world.marks.Purpose.{Purpose}
use Rattle.profile_machine.specs.declared.world.scopes.ScopeId.{ScopeId}
use Rattle.profile_machine.specs.declared.world.scopes.Beginning.{Beginning}
use Rattle.profile_machine.specs.Scopes.{open_scope, end_scope}
use Rattle.machine_laws.proofs.Moves.{StepRelation, MoveRelation}
use Rattle.line_laws.proofs.Leaving.FineMoves.{FineMoves}
use Rattle.machine_laws.proofs.FineMoves.{GoodWorld, Naming}
use Rattle.machine_laws.proofs.Kept.Combinators.{Alters}

module _ {G : GoodWorld} {May Acts Pushes : Naming} {Stops : Type 0} {R : StepRelation} {Q : MoveRelation} (moves : FineMoves G May Acts Pushes Stops R Q) where
  pub end_scope-alters : (id : ScopeId) → Alters G R (end_scope id)
  unfolding Alters
  end_scope-alters id w good = moves.ends_scope id w good

  -- who may go on opens a scope
  pub open_scope-alters : (p : Image) (name : Who) (scope : ScopeNo) (b : Beginning) (purpose : Purpose) → May name
      → Alters G R (open_scope p name scope b purpose)
  unfolding Alters
  open_scope-alters p name scope b purpose may w good =
      moves.opens_scope p name scope b purpose w good (moves.may_pushes name may) (moves.may_free name w good may)
