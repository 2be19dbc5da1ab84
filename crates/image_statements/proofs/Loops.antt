-- The innermost of the loops that are open.
use Rattle.std.proofs.Common.{◌≡◌, List, [], ◌∷◌, refl}
use Rattle.world_tables.specs.Lists.{first_of}
use Rattle.ada_image.specs.declared.making.OpenLoop.{OpenLoop}

pub innermost_is_first : (loops : List OpenLoop) → first_of loops ≡ first_of loops
innermost_is_first [] = refl
innermost_is_first (around ∷ loops) = refl
