-- One level more is evaluated, where there is fuel.
use Rattle.std.proofs.Common.{◌≡◌, ◌≢◌, ℕ, suc, ◌-◌, List, ap, arith}
use Rattle.profile_image.specs.declared.expressions.Expression.{Expression}
use Rattle.profile_image.specs.declared.numbers.ExprNo.{ExprNo}
use Rattle.profile_image.specs.Program.{expression_of}
use Rattle.profile_machine.specs.Values.{Seen, value_by, form_value}

pub value_more : (fuel : ℕ) (expressions : List Expression) (q : Seen) (e : ExprNo) → fuel ≢ 0
    → value_by fuel expressions q e ≡ form_value (value_by (fuel - 1) expressions q) q (expression_of expressions e)
value_more fuel expressions q e h = let n : fuel ≡ suc (fuel - 1) = omega arith in ap (λ m. value_by m expressions q e) n
