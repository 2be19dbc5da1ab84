use Rattle.std.proofs.Common.{◌≡◌, ◌∷◌, ◌++◌, drop, map}
use Rattle.ada_image.specs.ImageOfExpressions.{thing_named}
use Rattle.image_statements.proofs.entries.tasks_named.Given as goal

-- the tasks so far, and those to come, are all of them
abbrev pub invariant-loop-name : goal.invariant-loop-name
invariant-loop-name l =
    l.tasks ++ map (thing_named l.within) (drop l.name-index l.fn.names.others)
    ≡ thing_named l.within l.fn.names.first ∷ map (thing_named l.within) l.fn.names.others
