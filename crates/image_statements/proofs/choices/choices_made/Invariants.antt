use Rattle.std.proofs.Common.{◌≡◌, ◌∷◌, ◌++◌, drop, map}
use Rattle.ada_image.specs.ImageOfStatements.{choice_made}
use Rattle.image_statements.proofs.choices.choices_made.Given as goal

-- the choices so far, and those to come, are all of them
abbrev pub invariant-loop-choice : goal.invariant-loop-choice
invariant-loop-choice l =
    l.made ++ map (choice_made l.within) (drop l.choice-index l.fn.choices.others)
    ≡ choice_made l.within l.fn.choices.first ∷ map (choice_made l.within) l.fn.choices.others
