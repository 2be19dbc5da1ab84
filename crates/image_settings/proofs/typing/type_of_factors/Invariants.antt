use Rattle.std.proofs.Common.{◌≡◌, drop}
use Rattle.ada_image.specs.TypesOfExpressions.{type_of_factors}
use Rattle.image_settings.proofs.typing.type_of_factors.Given as goal

-- the factors that are to come give what all of them give
abbrev pub invariant-loop-factor : goal.invariant-loop-factor
invariant-loop-factor g l =
    type_of_factors g.E.Typed.typing l.product (drop l.factor-index l.factors) l.names ≡ type_of_factors g.E.Typed.typing l.fn.left l.factors l.names
