use Rattle.std.proofs.Common.{◌≡◌, drop}
use Rattle.ada_image.specs.ImageOfDeclarations.{operation_bodies_put}
use Rattle.image_bodies.proofs.bodies.operation_bodies_put.Given as goal

-- the bodies that are to come give what all gave at the beginning
abbrev pub invariant-loop-operation : goal.invariant-loop-operation
invariant-loop-operation g l =
    operation_bodies_put g.Q.MakeSequence.making l.within (drop l.operation-index l.operations) l.lists
    ≡ operation_bodies_put g.Q.MakeSequence.making l.within l.operations l.fn.lists
