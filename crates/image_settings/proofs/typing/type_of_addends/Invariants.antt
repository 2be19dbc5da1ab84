use Rattle.std.proofs.Common.{◌≡◌, drop}
use Rattle.ada_image.specs.TypesOfExpressions.{type_of_addends}
use Rattle.image_settings.proofs.typing.type_of_addends.Given as goal

-- the terms that are to come give what all of them give
abbrev pub invariant-loop-addend : goal.invariant-loop-addend
invariant-loop-addend g l =
    type_of_addends g.E.Typed.typing l.sum (drop l.addend-index l.addends) l.names ≡ type_of_addends g.E.Typed.typing l.fn.left l.addends l.names
