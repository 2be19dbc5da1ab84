use Rattle.std.proofs.Common.{◌≡◌, drop, option_copied}
use Rattle.std.specs.Option.{option_or}
use Rattle.ada_image.specs.ImageOfExpressions.{before_last}
use Rattle.image_layout.proofs.names.prefix_part.Given as goal

-- what stands before the last of the parts that are to come, and else what stands before the last so far
abbrev pub invariant-loop-part : goal.invariant-loop-part
invariant-loop-part l =
    option_or (before_last l.last (drop l.part-index l.name.parts.others)) (option_copied l.before) ≡ before_last l.name.parts.first l.name.parts.others
