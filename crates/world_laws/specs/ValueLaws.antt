-- The value of an expression is found by those of its operands, which have numbers of their own.
use Rattle.std.specs.Prelude.{◌≡◌, ℕ, suc, ◌+◌, length, Bool, true, ◌&&◌, List, [], ◌∷◌, ltb, IsTrue, option_to_list}
use Rattle.std.specs.List.{list_all}
use Rattle.profile_image.specs.declared.numbers.ExprNo.{ExprNo}
use Rattle.profile_image.specs.declared.image.Image.{Image}
use Rattle.profile_image.specs.declared.expressions.Expression.{Expression}
use Rattle.profile_image.specs.declared.expressions.Expression.TheVariants as of
use Rattle.profile_machine.specs.Values.{Seen, value_by, value}

-- ---- operands

abbrev pub operands : Expression → List ExprNo
operands (of.Variable name) = option_to_list name.index
operands (of.Unary operator operand) = operand ∷ []
operands (of.Binary operator left right) = left ∷ right ∷ []
operands (of.Span factor count) = count ∷ []
operands (of.SameTicks e) = e ∷ []
operands (of.ExecutionTime task) = option_to_list task
operands (of.Priority task) = option_to_list task
operands (of.Deadline task) = option_to_list task
operands (of.PortValue n) = n ∷ []
operands _ = []

-- each operand of the expression with this number has a smaller one
abbrev pub operands_before : ℕ → Expression → Bool
operands_before n e = list_all (λ operand. ltb operand.0 n) (operands e)

abbrev pub operands_rise_from : ℕ → List Expression → Bool
operands_rise_from n [] = true
operands_rise_from n (e ∷ es) = operands_before n e && operands_rise_from (suc n) es

-- of a program: its operands are made before what they stand in
abbrev pub operands_rise : Image → Bool
operands_rise p = operands_rise_from 0 p.expressions

-- the machine counts down from one more than there are expressions; counted from more, a value is the same
abbrev pub ValuesEnd : Type 0
ValuesEnd = (q : Seen) → IsTrue (operands_rise q.program) → (e : ExprNo) (more : ℕ)
    → value_by (suc (length q.program.expressions) + more) q.program.expressions q e ≡ value q e
