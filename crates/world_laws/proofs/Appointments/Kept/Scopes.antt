-- Scopes that begin and end: each step keeps a relation that its parts keep.
use Rattle.std.proofs.Common.{refl}
use Rattle.std.specs.Prelude.{false, true, Bool}
use Rattle.trace_text.specs.declared.events.Who.{Who}
use Rattle.profile_image.specs.declared.image.Image.{Image}
use Rattle.profile_image.specs.declared.numbers.ScopeNo.{ScopeNo}
use Rattle.profile_machine.specs.declared.world.marks.Purpose.{Purpose}
use Rattle.profile_machine.specs.declared.world.scopes.Beginning.{Beginning}
use Rattle.profile_machine.specs.declared.world.scopes.ScopeId.{ScopeId}
use Rattle.profile_machine.specs.Frames.{push, new_frame}
use Rattle.profile_image.specs.Program.{scope_of}
use Rattle.profile_machine.specs.Scopes.{region_of_next, next_id, new_scope_mark, draw_region, begin_scope, open_scope, end_scope}
use Rattle.machine_laws.proofs.Moves.{StepRelation, MoveRelation}
use Rattle.machine_laws.proofs.FineMoves.{GoodWorld, Naming}
use Rattle.machine_laws.proofs.Kept.Combinators.{Alters}
use Rattle.world_laws.proofs.Appointments.FineMoves.{FineMoves}
use Rattle.world_laws.proofs.Appointments.Kept.Frames.{push-alters}

module _ {G : GoodWorld} {May : Naming} {R : StepRelation} {Q : MoveRelation} (moves : FineMoves G May R Q) where
  pub end_scope-alters : (id : ScopeId) → Alters G R (end_scope id)
  unfolding Alters
  end_scope-alters id w good = moves.ends_scope id w good

  draw_region-alters : (kept : Bool) → Alters G R (draw_region kept)
  unfolding Alters
  draw_region-alters true w good = moves.draws_region w good
  draw_region-alters false w good = moves.stays w good

  pub open_scope-alters : (p : Image) (name : Who) (scope : ScopeNo) (b : Beginning) (purpose : Purpose) → Alters G R (open_scope p name scope b purpose)
  unfolding Alters
  open_scope-alters p name scope b purpose w good =
      let begun = begin_scope p name scope b w in
      let drawn = draw_region (scope_of p scope).kept begun in
      let f = new_frame (new_scope_mark (next_id w) (region_of_next (scope_of p scope).kept w) purpose) (scope_of p scope).first in
      let first = moves.begins_scope p name scope b w good in
      let second = draw_region-alters (scope_of p scope).kept begun (moves.behind w begun first) in
      moves.goes_on w drawn (push name f drawn) (moves.goes_on w begun drawn first second)
      (push-alters moves name f refl drawn (moves.behind begun drawn second))
