-- What is found in case statements (5.4): choices are static, distinct and complete.
use Rattle.ada_legality.specs.CallStatements.{not_static}
use Rattle.ada_legality.specs.Findings.{Found, broken_if, broken_unless}
use Rattle.ada_legality.specs.ReadExpressions.{read_expression}
use Rattle.ada_legality.specs.Reading.{call_inside, expected, integer_literal}
use Rattle.ada_legality.specs.Reading.{is_discrete_or_refused, literal_in, other_pointed_literal}
use Rattle.ada_legality.specs.Types.{discrete_if, operand_type}
use Rattle.ada_legality.specs.Words.{static_number, truth_number}
use Rattle.ada_legality.specs.declared.parts.ChoicePart.{ChoicePart}
use Rattle.ada_legality.specs.declared.parts.Span.{Span}
use Rattle.ada_legality.specs.declared.reading.Read.{Read}
use Rattle.ada_legality.specs.declared.reading.Shape.{Shape}
use Rattle.ada_legality.specs.declared.reading.Typed.{Typed}
use Rattle.ada_legality.specs.declared.standing.Known.{Known}
use Rattle.ada_regions.specs.Words.{and_then}
use Rattle.ada_regions.specs.declared.table.Names.{Names}
use Rattle.ada_regions.specs.declared.types.AdaType.{AdaType}
use Rattle.ada_tree.specs.declared.expressions.Expression.{Expression}
use Rattle.ada_tree.specs.declared.statements.Choice.{Choice}
use Rattle.ann_base.specs.declared.places.Place.{Place}
use Rattle.profile_image.specs.declared.values.Constraint.{Constraint}
use Rattle.std.specs.List.{list_all, list_any}
use Rattle.profile_image.specs.declared.limits.TheConstants.{INTEGER_FIRST, INTEGER_LAST}
use Rattle.std.specs.Prelude.{Bool, List, None, Option, Some, [], cond, false, int_le, int_lt, is_some, length, not}
use Rattle.std.specs.Prelude.{option_map, pos, slice_get, true, unwrap_or, ℤ, ◌&&◌, ◌++◌, ◌+ℤ◌, ◌-◌, ◌||◌, ◌∷◌}
use Rattle.ada_legality.specs.declared.reading.Asked.TheVariants as asking
use Rattle.ada_tree.specs.declared.statements.Choice.TheVariants as choice
use Rattle.profile_image.specs.declared.values.Constraint.TheVariants as constraint
use Rattle.ada_legality.specs.declared.rules.Rule.TheVariants as rule
use Rattle.ada_legality.specs.declared.reading.Shape.TheVariants as shapes
use Rattle.ada_regions.specs.declared.types.AdaType.TheVariants as types
use Rattle.ada_legality.specs.declared.reading.Typed.TheVariants as typing

-- ---- selectors

abbrev pub type_of_selector : Typed → Option AdaType
type_of_selector t = and_then (operand_type t) discrete_if

-- what a case selects by: a value of a discrete type
unfoldable pub selector_judged : Read → Typed → Found
selector_judged r typing.OfWholeNumber = integer_literal (literal_in r)
selector_judged r typing.OfPointedNumber = other_pointed_literal (literal_in r)
selector_judged r t = broken_unless rule.ExpectedType (is_discrete_or_refused t) r.place

-- ---- the parts of choices

-- one value
abbrev pub one_value : ℤ → Span
one_value n = record { low = n; high = n }

-- two ends that are there
abbrev pub both_ends : Option ℤ → Option ℤ → Option Span
both_ends (Some low) (Some high) = Some (record { low = low; high = high })
both_ends low high = None

-- the number of an expression where the selector has this type
unfoldable pub choice_number : Known → Option AdaType → Expression → Typed → Option ℤ
choice_number k None e typed = None
choice_number k (Some t) e typed = static_number k t e typed

-- a choice with one value
unfoldable pub value_choice : Option AdaType → Expression → Known → ChoicePart × Found
value_choice t e k =
    let r = read_expression e k in (
      record {
        place = r.0.place;
        is_others = false;
        values = option_map one_value (choice_number k t e r.0.typed);
      },
      r.1 ++ (expected asking.ForValue t r.0
          ++ not_static rule.ConditionsAndChoices k e r.0.place),
    )

-- a choice with a range of values
unfoldable pub range_choice : Option AdaType → Expression → Expression → Known
    → ChoicePart × Found
range_choice t low high k =
    let l = read_expression low k in
    let h = read_expression high k in (
      record {
        place = l.0.place;
        is_others = false;
        values =
            both_ends (choice_number k t low l.0.typed) (choice_number k t high h.0.typed);
      },
      l.1 ++ (h.1 ++ (expected asking.ForValue t l.0 ++ (expected asking.ForValue t h.0
          ++ (not_static rule.ConditionsAndChoices k low l.0.place
          ++ not_static rule.ConditionsAndChoices k high h.0.place)))),
    )

-- a choice
unfoldable pub choice_read : Option AdaType → Choice → Known → ChoicePart × Found
choice_read t (choice.Value e) k = value_choice t e k
choice_read t (choice.Range low high) k = range_choice t low high k
choice_read t (choice.Others place) k =
    (record { place = place; is_others = true; values = None }, [])

-- choices in their order
unfoldable pub choices_read : Option AdaType → List Choice → Known → List ChoicePart × Found
choices_read t [] k = ([], [])
choices_read t (c ∷ cs) k =
    let part = choice_read t c k in
    let rest = choices_read t cs k in
    (part.0 ∷ rest.0, part.1 ++ rest.1)

-- ---- distinct: of two with a value in common the second is broken

abbrev pub meet_in : Span → Span → Bool
meet_in a b =
    (int_le a.low a.high && int_le b.low b.high) && (int_le a.low b.high && int_le b.low a.high)

-- two ranges have a value in common
unfoldable pub meet : Option Span → Option Span → Bool
meet (Some a) (Some b) = meet_in a b
meet a b = false

-- a range has a value in common with one of these
unfoldable pub meets_before : Option Span → List (Option Span) → Bool
meets_before r before = list_any (meet r) before

-- of those that meet, the first alone counts for the later ones
abbrev pub kept_range : Bool → Option Span → List (Option Span) → List (Option Span)
kept_range true r before = before
kept_range false r before = r ∷ before

-- the choices that meet an earlier one
unfoldable pub repeated_choices : List (Option Span) → List ChoicePart → Found
repeated_choices before [] = []
repeated_choices before (c ∷ cs) =
    broken_if rule.ConditionsAndChoices (meets_before c.values before) c.place
    ++ repeated_choices (kept_range (meets_before c.values before) c.values before) cs

-- a choice for all others before the last
unfoldable pub others_not_last : List ChoicePart → Found
others_not_last [] = []
others_not_last (c ∷ []) = []
others_not_last (c ∷ d ∷ rest) =
    broken_if rule.ConditionsAndChoices c.is_others c.place ++ others_not_last (d ∷ rest)

-- ---- complete: every value is that of a choice; of a name the values of its subtype, else those of
-- its type

-- the values from one to another
abbrev pub span : ℤ → ℤ → Span
span low high = record { low = low; high = high }

-- the ends of a range, as numbers
unfoldable pub ends_of : Constraint → Option Span
ends_of constraint.Free = None
ends_of (constraint.Whole low high) = Some (span low high)
ends_of (constraint.Truth low high) = Some (span (truth_number low) (truth_number high))
ends_of (constraint.Literal low high) = Some (span (pos low) (pos high))
ends_of (constraint.Ticks low high) = Some (span low high)

-- the values of a type
unfoldable pub whole_range_of : Names → AdaType → Span
whole_range_of n types.Integer = span INTEGER_FIRST INTEGER_LAST
whole_range_of n types.Boolean = span (pos 0) (pos 1)
whole_range_of n (types.Enumeration e) =
    span (pos 0) (pos (length (unwrap_or (slice_get n.enumerations e.0) []) - 1))
whole_range_of n t = span (pos 0) (pos 0)

-- a name, an element or a call: its choices are those of its subtype
abbrev pub is_name : Shape → Bool
is_name (shapes.Name n) = true
is_name shapes.Number = false
is_name shapes.Other = false

-- the values that the choices have to cover
unfoldable pub range_typed : Names → Bool → Typed → AdaType → Span
range_typed n true (typing.OfSubtype s) t = unwrap_or (ends_of s.range) (whole_range_of n t)
range_typed n is_name typed t = whole_range_of n t

-- the value behind a range that holds one, else that one
unfoldable pub behind_range : ℤ → Option Span → ℤ
behind_range from None = from
behind_range from (Some r) = cond (int_le r.low from && int_le from r.high) (r.high +ℤ pos 1) from

-- the value behind all ranges that hold it, in their order
unfoldable pub behind_ranges : ℤ → List ChoicePart → ℤ
behind_ranges from [] = from
behind_ranges from (c ∷ cs) = behind_ranges (behind_range from c.values) cs

-- each turn goes past one range at least, so as many turns as there are choices are enough
unfoldable pub reached : List ChoicePart → List ChoicePart → ℤ → ℤ
reached choices [] from = from
reached choices (turn ∷ turns) from = reached choices turns (behind_ranges from choices)

-- every value of a range is that of a choice
unfoldable pub covers : List ChoicePart → Span → Bool
covers choices whole = int_lt whole.high (reached choices choices whole.low)

-- a choice whose values are known
abbrev pub is_clear_choice : ChoicePart → Bool
is_clear_choice c = c.is_others || is_some c.values

-- where a choice is refused, completeness is not asked
unfoldable pub is_complete : Span → List ChoicePart → Bool
is_complete whole choices =
    list_any (λ c. c.is_others) choices
    || (not (list_all is_clear_choice choices) || covers choices whole)

-- choices that meet, or that leave a value out
unfoldable pub wrong_choices : Names → Place → Read → List ChoicePart → Option AdaType → Found
wrong_choices n place r choices None = []
wrong_choices n place r choices (Some t) =
    repeated_choices [] choices
    ++ broken_unless rule.ConditionsAndChoices
    (is_complete (range_typed n (is_name r.shape) r.typed t) choices) place

-- a case, of which the selector and the choices are read
unfoldable pub case_judged : Known → Place → Read → List ChoicePart → Found
case_judged k place r choices =
    call_inside r ++ (selector_judged r r.typed
    ++ (others_not_last choices
    ++ wrong_choices k.names place r choices (type_of_selector r.typed)))
