use Rattle.std.proofs.Common.{◌≡◌, drop}
use Rattle.std.specs.List.{list_any}
use Rattle.ada_image.specs.ImageOfDeclarations.{makes_task}
use Rattle.image_objects.proofs.declarations.make_tasks.Given as goal

-- the declarations that are to come give what all of them give
abbrev pub invariant-loop-declaration : goal.invariant-loop-declaration
invariant-loop-declaration g l = list_any (makes_task l.within) (drop l.declaration-index l.declarations) ≡ list_any (makes_task l.within) l.declarations
