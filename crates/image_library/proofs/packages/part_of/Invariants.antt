use Rattle.std.proofs.Common.{◌≡◌, drop}
use Rattle.ada_image.specs.ImageOfUnits.{part_from}
use Rattle.image_library.proofs.packages.part_of.Given as goal

-- the packages that are to come give what all of them give
abbrev pub invariant-loop-library : goal.invariant-loop-library
invariant-loop-library l = part_from l.number (drop l.library-index l.packages) l.name ≡ part_from 1 l.packages l.name
