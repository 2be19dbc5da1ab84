-- Scopes that begin: each step keeps a relation that its parts keep.
use Rattle.std.specs.Prelude.{◌≡◌, false}
use Rattle.trace_text.specs.declared.events.Who.{Who}
use Rattle.profile_image.specs.declared.image.Image.{Image}
use Rattle.profile_image.specs.declared.numbers.ScopeNo.{ScopeNo}
use Rattle.profile_machine.specs.declared.world.marks.Purpose.{Purpose}
use Rattle.profile_machine.specs.declared.world.scopes.Beginning.{Beginning}
use Rattle.profile_machine.specs.Scopes.{open_scope}
use Rattle.machine_laws.proofs.Moves.{StepRelation}
use Rattle.world_laws.proofs.Scopes.FineMoves.{Openings}
use Rattle.profile_machine.specs.Tasking.{is_task_scope}
use Rattle.machine_laws.proofs.FineMoves.{GoodWorld, Naming}
use Rattle.machine_laws.proofs.Kept.Combinators.{Alters}

module _ {G : GoodWorld} {Acts : Naming} {R : StepRelation} (openings : Openings G Acts R) where
  pub open_scope-alters : (p : Image) (name : Who) (scope : ScopeNo) (b : Beginning) (purpose : Purpose) → Acts name → is_task_scope purpose ≡ false
      → Alters G R (open_scope p name scope b purpose)
  unfolding Alters
  open_scope-alters p name scope b purpose acts other w good = openings.opens_scope p name scope b purpose w good acts other
