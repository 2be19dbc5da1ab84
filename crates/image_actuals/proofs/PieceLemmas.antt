-- What is made in two parts.
use Rattle.std.proofs.Common.{◌≡◌, List, refl}
use Rattle.ada_image.specs.declared.making.Lists.{Lists}

pub both_parts : {X : Type 0} (p : Lists × List X) (lists : Lists) (items : List X) → lists ≡ p.0 → items ≡ p.1 → p ≡ (lists, items)
both_parts p lists items first second = rw (first, second) refl
