-- The queues of entries on which no call is queued.
use Rattle.std.proofs.Common.{◌≡◌, List, [], ◌∷◌, length, refl, ap}
use Rattle.std.specs.Prelude.{replicate}
use Rattle.profile_machine.specs.Declarations.{no_calls}

pub no_calls_of : {X Y : Type 0} (xs : List X) → no_calls {X = X} {Y = Y} xs ≡ replicate (length xs) []
no_calls_of [] = refl
no_calls_of (x ∷ xs) = ap (λ qs. [] ∷ qs) (no_calls_of xs)
