-- Calls that are looked up: each step keeps a relation that its parts keep.
use Rattle.profile_machine.specs.declared.world.World.{World}
use Rattle.ann_base.specs.declared.identities.CallNo.{CallNo}
use Rattle.profile_image.specs.declared.image.Image.{Image}
use Rattle.profile_machine.specs.declared.world.calls.Call.{Call}
use Rattle.profile_machine.specs.Steps.{Step, nothing, for_some}
use Rattle.profile_machine.specs.Calls.{with_call, call_of}
use Rattle.std.proofs.Common.{◌≡◌, refl, None, Some, Option}
use Rattle.machine_laws.proofs.FineMoves.{GoodWorld, Naming}
use Rattle.world_laws.proofs.Sequences.FineMoves.{FineMoves, chains}
use Rattle.world_laws.proofs.Behind.{Behind}
use Rattle.machine_laws.proofs.Kept.Combinators.{From, Keeps, keeps-from, looks-from, nothing-keeps}

module _ {p : Image} {G : GoodWorld} {May Other : Naming} (moves : FineMoves p G May Other) where
  -- a call that is found
  found-from : (found : Option Call) (f : Call → Step) (w : World) → G w → ((x : Call) → found ≡ Some x → Keeps G (Behind G) (f x))
      → From (Behind G) w (for_some found f)
  found-from None f w good kept = keeps-from (chains moves) nothing w good (nothing-keeps (chains moves))
  found-from (Some d) f w good kept = keeps-from (chains moves) (f d) w good (kept d refl)

  pub with_call_known-keeps : (c : CallNo) (f : Call → Step) → ((w : World) → G w → (x : Call) → call_of w c ≡ Some x → Keeps G (Behind G) (f x))
      → Keeps G (Behind G) (with_call c f)
  with_call_known-keeps c f kept = looks-from (chains moves) _ (λ w good. found-from (call_of w c) f w good (kept w good))
