-- Scopes that begin and end: each step leaves worlds good where its parts do.
use Rattle.trace_text.specs.declared.events.Who.{Who}
use Rattle.profile_image.specs.declared.image.Image.{Image}
use Rattle.profile_image.specs.declared.numbers.ScopeNo.{ScopeNo}
use Rattle.profile_machine.specs.declared.world.marks.Purpose.{Purpose}
use Rattle.profile_machine.specs.declared.world.scopes.ScopeId.{ScopeId}
use Rattle.profile_machine.specs.declared.world.scopes.Beginning.{Beginning}
use Rattle.profile_machine.specs.Scopes.{open_scope, end_scope}
use Rattle.world_laws.proofs.Actions.FineMoves.{FineMoves}
use Rattle.profile_machine.specs.Tasking.{is_task_scope}
use Rattle.std.proofs.Common.{◌≡◌, true, false, sym, ◌∙◌}
use Rattle.std.proofs.lemmas.Bool.{false≢true}
use Rattle.machine_laws.proofs.FineMoves.{GoodWorld, Naming}
use Rattle.machine_laws.proofs.Kept.Combinators.{Alters}
use Rattle.world_laws.proofs.Behind.{Behind}

module _ {G : GoodWorld} {F : Naming} (moves : FineMoves G F) where
  pub end_scope-alters : (id : ScopeId) → Alters G (Behind G) (end_scope id)
  unfolding Alters
  end_scope-alters id w good = moves.ends_scope id w good

  pub open_scope-alters : (p : Image) (name : Who) (scope : ScopeNo) (b : Beginning) (purpose : Purpose) → (is_task_scope purpose ≡ true → F name)
      → Alters G (Behind G) (open_scope p name scope b purpose)
  unfolding Alters
  open_scope-alters p name scope b purpose free w good = moves.opens_scope p name scope b purpose w good free

  -- of a body or a block
  pub opens-alters : (p : Image) (name : Who) (scope : ScopeNo) (b : Beginning) (purpose : Purpose) → is_task_scope purpose ≡ false
      → Alters G (Behind G) (open_scope p name scope b purpose)
  opens-alters p name scope b purpose is = open_scope-alters p name scope b purpose (λ e. absurd (false≢true (sym is ∙ e)))
