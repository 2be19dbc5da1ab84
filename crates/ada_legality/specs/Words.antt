-- Small words for rules: static numbers, what is named, and what stands around a construct.
use Rattle.ada_legality.specs.Types.{fits, has_type}
use Rattle.ada_legality.specs.declared.reading.Typed.{Typed}
use Rattle.ada_legality.specs.declared.standing.Around.{Around}
use Rattle.ada_legality.specs.declared.standing.Known.{Known}
use Rattle.ada_lex.specs.Meaning.{decimals_of, whole_of}
use Rattle.ada_regions.specs.Names.{denoted_by, last_part}
use Rattle.ada_regions.specs.PredefinedUnits.{same_unit}
use Rattle.ada_regions.specs.Statics.{literal_of, micros_of, static_value}
use Rattle.ada_regions.specs.Words.{and_then}
use Rattle.ann_base.specs.Lists.{is_empty}
use Rattle.std.specs.Option.{option_or}
use Rattle.ada_regions.specs.declared.entities.Denoted.{Denoted}
use Rattle.ada_regions.specs.declared.table.Names.{Names}
use Rattle.ada_regions.specs.declared.types.AdaType.{AdaType}
use Rattle.ada_tree.specs.declared.expressions.Expression.{Expression}
use Rattle.ada_tree.specs.declared.expressions.Expression.TheViews.{out-Expression}
use Rattle.ada_tree.specs.declared.expressions.ExpressionForm.{ExpressionForm}
use Rattle.ada_tree.specs.declared.names.Name.{Name}
use Rattle.profile_image.specs.declared.values.Value.{Value}
use Rattle.std.specs.Prelude.{Bool, List, None, Option, Some, [], cond, eqb, false, find, int_le}
use Rattle.std.specs.Prelude.{is_some, neg_ℤ, option_map, pos, true, ℕ, ℤ, ◌&&◌, ◌||◌, ◌∷◌}
use Rattle.std.specs.Str.{bytes_eq}
use Rattle.ada_legality.specs.declared.standing.Around.TheVariants as around
use Rattle.ada_regions.specs.declared.entities.Denoted.TheVariants as denotes
use Rattle.ada_tree.specs.declared.expressions.ExpressionForm.TheVariants as form
use Rattle.ada_tree.specs.declared.operators.Sign.TheVariants as sign
use Rattle.profile_image.specs.declared.values.Value.TheVariants as value

-- ---- values as numbers

abbrev pub truth_number : Bool → ℤ
truth_number false = pos 0
truth_number true = pos 1

-- the place of a value in the order of its type; a Task_Id has none
abbrev pub number_of_value : Value → Option ℤ
number_of_value (value.Whole n) = Some n
number_of_value (value.Truth b) = Some (truth_number b)
number_of_value (value.Literal n) = Some (pos n)
number_of_value (value.Ticks n) = Some n
number_of_value (value.Task t) = None
number_of_value (value.Thing n) = Some (pos n)

-- a number that is known lies in a range
abbrev pub lies_between : ℤ → ℤ → Option ℤ → Bool
lies_between low high None = false
lies_between low high (Some n) = int_le low n && int_le n high

-- ---- static expressions (4.9)

-- the number of a literal by its text, which may lie outside its type
unfoldable pub number_of_literal : List ℕ → ℤ
number_of_literal literal =
    pos (cond (is_empty (decimals_of literal)) (whole_of literal) (micros_of literal))

-- the number of a literal, or of minus a literal
unfoldable pub literal_number : ExpressionForm Expression → Option ℤ
literal_number (form.Signed place sign.Minus operand) =
    option_map (λ l. neg_ℤ (number_of_literal l)) (literal_of (out-Expression operand).form)
literal_number f = option_map number_of_literal (literal_of f)

-- the number of an expression that has one: a literal outside its type has no value
unfoldable pub number_of_expression : Known → Expression → Option ℤ
number_of_expression k e =
    option_or (literal_number (out-Expression e).form)
    (and_then (static_value k.names e) number_of_value)

-- an expression is static
abbrev pub is_static : Known → Expression → Bool
is_static k e = is_some (number_of_expression k e)

-- the number of a static expression, which is of this type
unfoldable pub static_number : Known → AdaType → Expression → Typed → Option ℤ
static_number k t e typed =
    cond (fits typed t && has_type typed) (number_of_expression k e) None

-- ---- what is named

abbrev pub same_entity_or_item : Option Denoted → Option Denoted → Bool → Bool
same_entity_or_item (Some (denotes.Entity a)) (Some (denotes.Entity b)) same_word = eqb a b
same_entity_or_item (Some (denotes.Item u a)) (Some (denotes.Item v b)) same_word =
    same_unit u v && same_word
same_entity_or_item a b same_word = false

-- two names denote the same declaration
unfoldable pub same_named : Names → Name → Name → Bool
same_named n a b =
    same_entity_or_item (denoted_by n a) (denoted_by n b)
    (bytes_eq (last_part a).text (last_part b).text)

-- ---- the construct around: the innermost body or accept statement, and the innermost body

abbrev pub is_body : Around → Bool
is_body around.Package = true
is_body around.Main = true
is_body (around.Subprogram s) = true
is_body (around.Task u) = true
is_body (around.Protected u) = true
is_body (around.Entry e) = true
is_body (around.Accept e) = false
is_body (around.Loop label) = false
is_body around.Handler = false
is_body around.AsynchronousSelect = false

-- an accept statement is open
abbrev pub is_accept : Around → Bool
is_accept (around.Accept e) = true
is_accept a = false

-- the innermost body
abbrev pub body_around : List Around → Option Around
body_around outer = find is_body outer

-- the innermost body or accept statement
abbrev pub sequence_around : List Around → Option Around
sequence_around outer = find (λ a. is_body a || is_accept a) outer

-- something stands around, inside the innermost body
unfoldable pub any_in_body : (Around → Bool) → List Around → Bool
any_in_body test [] = false
any_in_body test (a ∷ outer) = cond (is_body a) false (test a || any_in_body test outer)

-- something stands around, inside the innermost body or accept statement
unfoldable pub any_in_sequence : (Around → Bool) → List Around → Bool
any_in_sequence test [] = false
any_in_sequence test (a ∷ outer) =
    cond (is_body a || is_accept a) false (test a || any_in_sequence test outer)
