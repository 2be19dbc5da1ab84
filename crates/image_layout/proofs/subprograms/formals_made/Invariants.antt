use Rattle.std.proofs.Common.{◌≡◌, ◌++◌, drop, map}
use Rattle.ada_image.specs.Layout.{formal_made}
use Rattle.image_layout.proofs.subprograms.formals_made.Given as goal

-- the cells so far and those of the formals that are to come are all of them
abbrev pub invariant-loop-formal : goal.invariant-loop-formal
invariant-loop-formal l = l.made ++ map (formal_made l.names) (drop l.formal-index l.formals) ≡ map (formal_made l.names) l.formals
