use Rattle.std.proofs.Common.{◌≡◌, drop}
use Rattle.ada_image.specs.PoliciesOfImage.{least_of, longest_of}
use Rattle.image_policies.proofs.queuing.longest_of.Given as goal

-- the least so far and that of the pragmas that are to come
abbrev pub invariant-loop-pragma : goal.invariant-loop-pragma
invariant-loop-pragma l = least_of l.least (longest_of (drop l.pragma-index l.pragmas)) ≡ longest_of l.pragmas
