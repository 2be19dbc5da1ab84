-- Operands have smaller numbers, so a value needs no more turns than its number.
use Rattle.std.proofs.Common.{◌≡◌, ℕ, zero, suc, ◌+◌, ◌<◌, ◌≤◌, length, Bool, true, false, List, [], ◌∷◌}
use Rattle.std.proofs.Common.{Option, Some, None, refl, sym, ap, subst, ◌∙◌, arith, ltb, slice_index_or}
use Rattle.std.specs.Prelude.{Ok, Err, pos, option_to_list}
use Rattle.std.specs.List.{list_all}
use Rattle.std.proofs.lemmas.Bool.{and_parts, ltb-true, ltb-false}
use Rattle.std.proofs.lemmas.List.{get_or_past}
use Rattle.ann_base.specs.Results.{◌>>=◌}
use Rattle.profile_image.specs.declared.numbers.ExprNo.{ExprNo}
use Rattle.profile_image.specs.declared.expressions.Expression.{Expression}
use Rattle.profile_image.specs.declared.expressions.Expression.TheVariants as of
use Rattle.profile_image.specs.declared.expressions.BinaryOperator.{BinaryOperator}
use Rattle.profile_image.specs.declared.values.Value.{Value}
use Rattle.profile_image.specs.declared.values.Value.TheVariants.{Whole, Ticks}
use Rattle.profile_machine.specs.declared.world.scopes.Variable.{Variable}
use Rattle.profile_machine.specs.declared.world.tasks.Task as world
use Rattle.profile_image.specs.Program.{expression_of}
use Rattle.profile_machine.specs.Operators.{Valued, unary_value, binary_value, decides}
use Rattle.profile_machine.specs.Values.{Seen, object_cell, indexed, component_cell, variable_by, read, live_task, named_task}
use Rattle.profile_machine.specs.Values.{task_in, of_task_by, port_value, span, both_values, form_value, value_by}
use Rattle.world_laws.specs.ValueLaws.{operands, operands_before, operands_rise_from, ValuesEnd}

abbrev Values : Type 0
Values = ExprNo → Valued Value

-- ---- what is the same for operands is the same for the form

abbrev Agree : Values → Values → List ExprNo → Type 0
Agree u v [] = Unit {0}
Agree u v (e ∷ es) = (u e ≡ v e) × Agree u v es

then-same : {X Y : Type 0} (a b : Valued X) (f : X → Valued Y) → a ≡ b → (a >>= f) ≡ (b >>= f)
then-same a b f e = ap (λ x. x >>= f) e

then-each : {X Y : Type 0} (a : Valued X) (f g : X → Valued Y) → ((x : X) → f x ≡ g x) → (a >>= f) ≡ (a >>= g)
then-each (Ok x) f g h = h x
then-each (Err e) f g h = refl

module _ (u v : Values) (q : Seen) where
  indexed-same : (index : Option ExprNo) (x : Variable) → Agree u v (option_to_list index) → indexed u q index x ≡ indexed v q index x
  indexed-same None x h = refl
  indexed-same (Some e) x h = then-same (u e) (v e) (component_cell q x) h.0

  named-same : (task : Option ExprNo) → Agree u v (option_to_list task) → named_task u q task ≡ named_task v q task
  named-same None h = refl
  named-same (Some e) h = then-same (u e) (v e) (λ x. Ok (task_in x)) h.0

  task-same : (f : world.Task → Value) (task : Option ExprNo) → Agree u v (option_to_list task) → of_task_by f u q task ≡ of_task_by f v q task
  task-same f task h = then-same (named_task u q task) (named_task v q task) (λ t. live_task q.world t >>= λ found. Ok (f found)) (named-same task h)

  both-same : (operator : BinaryOperator) (right : ExprNo) (decided : Bool) (left : Value) → u right ≡ v right
      → elim decided as (λ _. Valued Value) [ true ↦ Ok left | false ↦ u right >>= λ x. binary_value operator left x ]
      ≡ elim decided as (λ _. Valued Value) [ true ↦ Ok left | false ↦ v right >>= λ x. binary_value operator left x ]
  both-same operator right true left h = refl
  both-same operator right false left h = then-same (u right) (v right) (λ x. binary_value operator left x) h

  form-same : (e : Expression) → Agree u v (operands e) → form_value u q e ≡ form_value v q e
  form-same (of.Known x) h = refl
  form-same (of.Variable name) h =
      then-same (variable_by u q name) (variable_by v q name) (λ x. Ok (read q.world x))
      (then-each (object_cell q name.object) (indexed u q name.index) (indexed v q name.index) (λ x. indexed-same name.index x h))
  form-same (of.Thing d) h = refl
  form-same (of.Unary operator operand) h = then-same (u operand) (v operand) (unary_value operator) h.0
  form-same (of.Binary operator left right) h =
      then-same (u left) (v left) (both_values u operator right) h.0
      ∙ then-each (v left) (both_values u operator right) (both_values v operator right) (λ x. both-same operator right (decides operator x) x h.1.0)
  form-same (of.Count e) h = refl
  form-same of.Clock h = refl
  form-same (of.Span factor count) h = then-same (u count) (v count) (span factor) h.0
  form-same (of.SameTicks e) h = h.0
  form-same of.CurrentTask h = refl
  form-same (of.ExecutionTime task) h = task-same (λ t. Ticks (pos t.cpu_ticks)) task h
  form-same (of.Priority task) h = task-same (λ t. Whole (pos t.base)) task h
  form-same (of.Deadline task) h = task-same (λ t. Ticks t.deadline) task h
  form-same (of.TimeOfEvent d) h = refl
  form-same (of.TimeRemaining d) h = refl
  form-same (of.BudgetHasExpired d) h = refl
  form-same (of.BudgetRemaining d) h = refl
  form-same (of.PortValue n) h = then-same (u n) (v n) (port_value q.world) h.0

-- ---- operands of each expression

abbrev default : Expression
default = of.Known (Whole (pos 0))

operands-of : (es : List Expression) (n i : ℕ) → operands_rise_from n es ≡ true → operands_before (n + i) (slice_index_or es i default) ≡ true
operands-of [] n i h = refl
operands-of (e ∷ es) n zero h = subst (λ m. operands_before m e ≡ true) (omega arith) (and_parts (operands_before n e) (operands_rise_from (suc n) es) h).0
operands-of (e ∷ es) n (suc i) h =
    subst (λ m. operands_before m (slice_index_or es i default) ≡ true) (omega arith)
    (operands-of es (suc n) i (and_parts (operands_before n e) (operands_rise_from (suc n) es) h).1)

operands-rise : (es : List Expression) (e : ExprNo) → operands_rise_from 0 es ≡ true → operands_before e.0 (expression_of es e) ≡ true
operands-rise es e h = subst (λ m. operands_before m (expression_of es e) ≡ true) (omega arith) (operands-of es 0 e.0 h)

all-agree : (u v : Values) (n : ℕ) (es : List ExprNo) → list_all (λ operand. ltb operand.0 n) es ≡ true → ((e : ExprNo) → e.0 < n → u e ≡ v e) → Agree u v es
all-agree u v n [] h k = tt
all-agree u v n (e ∷ es) h k =
    let both = and_parts (ltb e.0 n) (list_all (λ operand. ltb operand.0 n) es) h in
    (k e (ltb-true e.0 n both.0), all-agree u v n es both.1 k)

-- ---- the count is enough

module _ (q : Seen) (es : List Expression) (rise : operands_rise_from 0 es ≡ true) where
  values-enough : (count other : ℕ) → count ≤ other → (e : ExprNo) → e.0 < count → value_by other es q e ≡ value_by count es q e
  values-enough zero other within e few = absurd (omega (arith, few))
  values-enough (suc count) zero within e few = absurd (omega (arith, within))
  values-enough (suc count) (suc other) within e few =
      form-same (value_by other es q) (value_by count es q) q (expression_of es e)
      (all-agree (value_by other es q) (value_by count es q) e.0 (operands (expression_of es e)) (operands-rise es e rise)
      (λ o less. values-enough count other (omega (arith, within)) o (omega (arith, few, less))))

  -- of a number that is none of an expression, the value is the same in one turn
  values-past : (count other : ℕ) (e : ExprNo) → length es ≤ e.0 → value_by (suc other) es q e ≡ value_by (suc count) es q e
  values-past count other e past =
      let is : expression_of es e ≡ default = get_or_past es e.0 default past in
      ap (form_value (value_by other es q) q) is ∙ sym (ap (form_value (value_by count es q) q) is)

  values-tested : (other : ℕ) → suc (length es) ≤ suc other → (e : ExprNo) (known : Bool) → ltb e.0 (length es) ≡ known
      → value_by (suc other) es q e ≡ value_by (suc (length es)) es q e
  values-tested other within e true is =
      let low : e.0 < length es = ltb-true e.0 (length es) is in values-enough (suc (length es)) (suc other) within e (omega (arith, low))
  values-tested other within e false is = values-past (length es) other e (ltb-false e.0 (length es) is)

  values-all : (other : ℕ) → suc (length es) ≤ other → (e : ExprNo) → value_by other es q e ≡ value_by (suc (length es)) es q e
  values-all zero within e = absurd (omega (arith, within))
  values-all (suc other) within e = values-tested other within e (ltb e.0 (length es)) refl

pub values_end : ValuesEnd
values_end q rise e more = values-all q q.program.expressions rise (suc (length q.program.expressions) + more) (omega arith) e
