use Rattle.std.proofs.Common.{◌≡◌, drop}
use Rattle.ada_image.specs.UnitsOfImage.{aspect_value}
use Rattle.image_units.proofs.aspects.aspect_value.Given as goal

-- the aspects that are to come have the value that all of them have under this name
abbrev pub invariant-loop-aspect : goal.invariant-loop-aspect
invariant-loop-aspect l = aspect_value l.name (drop l.aspect-index l.aspects) ≡ aspect_value l.name l.aspects
