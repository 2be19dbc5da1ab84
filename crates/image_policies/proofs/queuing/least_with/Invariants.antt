use Rattle.std.proofs.Common.{◌≡◌, drop}
use Rattle.ada_image.specs.PoliciesOfImage.{least_of, longest_in_arguments}
use Rattle.image_policies.proofs.queuing.least_with.Given as goal

-- the least so far and that of the arguments that are to come
abbrev pub invariant-loop-argument : goal.invariant-loop-argument
invariant-loop-argument l =
    least_of l.least (longest_in_arguments (drop l.argument-index l.arguments)) ≡ least_of l.fn.before (longest_in_arguments l.arguments)
