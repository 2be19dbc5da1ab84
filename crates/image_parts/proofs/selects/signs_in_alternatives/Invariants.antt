use Rattle.std.proofs.Common.{◌≡◌, ◌∷◌, ◌+◌, drop}
use Rattle.ada_image.specs.ImageOfStatements.{signs_in_alternatives}
use Rattle.image_parts.proofs.selects.signs_in_alternatives.Given as goal

-- the signs so far, and those to come, are all of them
abbrev pub invariant-loop-alternative : goal.invariant-loop-alternative
invariant-loop-alternative g l =
    l.signs + signs_in_alternatives l.within (drop l.alternative-index l.fn.alternatives.others)
    ≡ signs_in_alternatives l.within (l.fn.alternatives.first ∷ l.fn.alternatives.others)
