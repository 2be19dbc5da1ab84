use Rattle.std.proofs.Common.{◌≡◌, drop}
use Rattle.ada_image.specs.PoliciesOfImage.{queuing_of}
use Rattle.image_policies.proofs.queuing.queuing_of.Given as goal

-- the pragmas that are to come ask for what all of them ask for
abbrev pub invariant-loop-pragma : goal.invariant-loop-pragma
invariant-loop-pragma l = queuing_of (drop l.pragma-index l.pragmas) ≡ queuing_of l.pragmas
