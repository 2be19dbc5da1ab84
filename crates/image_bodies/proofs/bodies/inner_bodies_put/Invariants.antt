use Rattle.std.proofs.Common.{◌≡◌, drop}
use Rattle.ada_image.specs.ImageOfDeclarations.{inner_bodies_put}
use Rattle.image_bodies.proofs.bodies.inner_bodies_put.Given as goal

-- the bodies that are to come give what all gave at the beginning
abbrev pub invariant-loop-declaration : goal.invariant-loop-declaration
invariant-loop-declaration g l =
    inner_bodies_put g.Q.MakeSequence.making l.within (drop l.declaration-index l.declarations) l.lists
    ≡ inner_bodies_put g.Q.MakeSequence.making l.within l.declarations l.fn.lists
