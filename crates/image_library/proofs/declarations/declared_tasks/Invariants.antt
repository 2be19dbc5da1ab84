use Rattle.std.proofs.Common.{◌≡◌, drop}
use Rattle.ada_image.specs.ImageOfUnits.{declared_by_package}
use Rattle.image_library.proofs.declarations.declared_tasks.Given as goal

-- the packages that are to come declare what all of them declare under this name
abbrev pub invariant-loop-library : goal.invariant-loop-library
invariant-loop-library l = declared_by_package (drop l.library-index l.packages) l.name ≡ declared_by_package l.packages l.name
