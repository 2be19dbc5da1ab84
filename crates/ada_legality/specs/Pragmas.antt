-- Configuration pragmas (2.8, D.2.2, D.3, D.4, D.7).
use Rattle.ada_image.specs.PoliciesOfImage.{policy_words}
use Rattle.ada_legality.specs.Choices.{ends_of, meet, span}
use Rattle.ada_legality.specs.Findings.{Found, broken_if}
use Rattle.ada_legality.specs.Words.{lies_between}
use Rattle.ada_regions.specs.declared.predefined.TheConstants.{LAST_PRIORITY}
use Rattle.ada_legality.specs.declared.parts.Span.{Span}
use Rattle.ada_lex.specs.Meaning.{decimals_of, whole_of}
use Rattle.ada_regions.specs.Numbered.{last_priority_of}
use Rattle.ada_regions.specs.PredefinedUnits.{item_in}
use Rattle.ada_regions.specs.Statics.{subtype_of_item}
use Rattle.profile_image.specs.declared.limits.TheConstants.{INTEGER_LAST}
use Rattle.ada_regions.specs.Words.{all_of, and_then, entry_named}
use Rattle.ann_base.specs.Lists.{is_empty}
use Rattle.ada_regions.specs.declared.types.Subtype.{Subtype}
use Rattle.ada_tree.specs.declared.expressions.Argument.{Argument}
use Rattle.ada_tree.specs.declared.expressions.Expression.{Expression}
use Rattle.ada_tree.specs.declared.expressions.Expression.TheViews.{out-Expression}
use Rattle.ada_tree.specs.declared.expressions.ExpressionForm.{ExpressionForm}
use Rattle.ada_tree.specs.declared.names.Identifier.{Identifier}
use Rattle.ada_tree.specs.declared.names.Name.{Name}
use Rattle.ada_tree.specs.declared.operators.Attribute.{Attribute}
use Rattle.ada_tree.specs.declared.units.Pragma.{Pragma}
use Rattle.profile_image.specs.declared.values.Constraint.{Constraint}
use Rattle.std.specs.List.{list_all, list_any}
use Rattle.std.specs.Prelude.{Bool, List, None, Option, Some, [], codes, cond, false, int_le, is_some, map}
use Rattle.std.specs.Prelude.{neg_ℤ, not, option_map, pos, suc, take, unwrap_or, ℕ, ℤ, ◌&&◌, ◌++◌, ◌||◌, ◌∷◌}
use Rattle.std.specs.Str.{bytes_eq}
use Rattle.ada_tree.specs.declared.operators.Attribute.TheVariants as attribute
use Rattle.ada_tree.specs.declared.expressions.ExpressionForm.TheVariants as form
use Rattle.ada_legality.specs.declared.rules.Rule.TheVariants as rule
use Rattle.ada_tree.specs.declared.operators.Sign.TheVariants as sign
use Rattle.ada_regions.specs.declared.predefined.PredefinedUnit.TheVariants as units

-- ---- arguments: a word, or a static number

abbrev pub lone_word : Name → Option (List ℕ)
lone_word name = cond (is_empty name.parts.others) (Some name.parts.first.text) None

-- a form that is a word alone
unfoldable pub plain_word : ExpressionForm Expression → Option (List ℕ)
plain_word (form.Named name None []) = lone_word name
plain_word f = None

-- an argument that is a word alone
unfoldable pub word_in : Argument Expression → Option (List ℕ)
word_in a = cond (is_some a.formal) None (plain_word (out-Expression a.value).form)

-- the words of a pragma
abbrev pub words_in : Pragma → List (Option (List ℕ))
words_in p = map word_in (all_of p.arguments)

-- a literal without a point
unfoldable pub whole_literal : ExpressionForm Expression → Option ℤ
whole_literal (form.Number place literal) =
    cond (is_empty (decimals_of literal)) (Some (pos (whole_of literal))) None
whole_literal f = None

-- First and Last of Integer, Natural and Positive
abbrev pub integer_names : List (List ℕ)
integer_names = codes "integer" ∷ codes "natural" ∷ codes "positive" ∷ []

-- Integer, Natural or Positive
unfoldable pub integer_named : List ℕ → Option Subtype
integer_named word =
    cond (list_any (bytes_eq word) integer_names)
    (and_then (item_in LAST_PRIORITY units.Standard word) subtype_of_item) None

-- the same, perhaps behind Standard
abbrev pub integer_behind : Identifier → List Identifier → Option Subtype
integer_behind i [] = integer_named i.text
integer_behind i (j ∷ []) = cond (bytes_eq i.text (codes "standard")) (integer_named j.text) None
integer_behind i (j ∷ l ∷ rest) = None

-- the end of a range that the attribute asks for
unfoldable pub end_of_range : Attribute → Constraint → Option ℤ
end_of_range attribute.First r = option_map (λ e. e.low) (ends_of r)
end_of_range attribute.Last r = option_map (λ e. e.high) (ends_of r)
end_of_range a r = None

-- a literal, minus a literal, First or Last
unfoldable pub number_of_form : ExpressionForm Expression → Option ℤ
number_of_form (form.Number place literal) = whole_literal (form.Number place literal)
number_of_form (form.Signed place sign.Minus operand) =
    option_map neg_ℤ (whole_literal (out-Expression operand).form)
number_of_form (form.Named name (Some a) []) =
    and_then (integer_behind name.parts.first name.parts.others)
    (λ s. end_of_range a.attribute s.range)
number_of_form f = None

-- the number of an argument
abbrev pub number_in : Argument Expression → Option ℤ
number_in a = number_of_form (out-Expression a.value).form

-- ---- pragmas of the profile, with their arguments

unfoldable pub is_one_word : List (List ℕ) → List (Option (List ℕ)) → Bool
is_one_word allowed (Some w ∷ []) = list_any (bytes_eq w) allowed
is_one_word allowed words = false

-- the dispatching policies
abbrev pub policy_names : List (List ℕ)
policy_names = map (λ p. p.0) policy_words

-- the queuing policies
abbrev pub queuing_names : List (List ℕ)
queuing_names = codes "fifo_queuing" ∷ codes "priority_queuing" ∷ []

-- an argument is a dispatching policy
abbrev pub is_policy : Argument Expression → Bool
is_policy a = unwrap_or (option_map (λ w. list_any (bytes_eq w) policy_names) (word_in a)) false

-- two priorities in order
abbrev pub is_range_of_priorities : ℕ → Option ℤ → Option ℤ → Bool
is_range_of_priorities last (Some low) (Some high) =
    int_le (pos 0) low && (int_le low high && int_le high (pos (suc last)))
is_range_of_priorities last low high = false

-- a policy and two priorities
unfoldable pub is_specific : ℕ → List (Argument Expression) → Bool
is_specific last (a ∷ b ∷ c ∷ []) =
    is_policy a && is_range_of_priorities last (number_in b) (number_in c)
is_specific last arguments = false

-- restrictions that forbid
abbrev pub restrictions_without_number : List (List ℕ)
restrictions_without_number =
    codes "no_task_hierarchy" ∷ codes "no_abort_statements" ∷ codes "no_dynamic_priorities"
    ∷ codes "no_relative_delay"
    ∷ codes "no_select_statements" ∷ codes "no_terminate_alternatives" ∷ codes "simple_barriers"
    ∷ []

-- restrictions that limit
abbrev pub restrictions_with_number : List (List ℕ)
restrictions_with_number =
    codes "max_task_entries" ∷ codes "max_protected_entries" ∷ codes "max_select_alternatives"
    ∷ codes "max_entry_queue_length" ∷ []

-- a restriction with its number
abbrev pub is_numbered_restriction : Argument Expression → Identifier → Bool
is_numbered_restriction a i =
    list_any (bytes_eq i.text) restrictions_with_number
    && lies_between (pos 0) INTEGER_LAST (number_in a)

-- a restriction of the profile
unfoldable pub is_restriction : Argument Expression → Bool
is_restriction a = unwrap_or (option_map (is_numbered_restriction a) a.formal)
    (unwrap_or (option_map (λ w. list_any (bytes_eq w) restrictions_without_number) (word_in a))
    false)

-- the pragma's name and its arguments
unfoldable pub is_of_profile : ℕ → Pragma → List (List ℕ × Bool)
is_of_profile last p =
    (codes "task_dispatching_policy", is_one_word policy_names (words_in p))
    ∷ (codes "priority_specific_dispatching", is_specific last (all_of p.arguments))
    ∷ (codes "locking_policy", is_one_word (codes "ceiling_locking" ∷ []) (words_in p))
    ∷ (codes "queuing_policy", is_one_word queuing_names (words_in p))
    ∷ (codes "restrictions", list_all is_restriction (all_of p.arguments))
    ∷ (codes "priority_range", is_one_word (codes "wide" ∷ []) (words_in p)) ∷ []

-- a pragma of the profile with its arguments
unfoldable pub is_pragma_of_profile : ℕ → Pragma → Bool
is_pragma_of_profile last p = unwrap_or (entry_named p.name.text (is_of_profile last p)) false

-- ---- a policy is given once, ranges do not overlap, and one policy for all does not stand beside
-- one for some

abbrev pub given_once : List (List ℕ)
given_once =
    codes "task_dispatching_policy" ∷ codes "locking_policy" ∷ codes "queuing_policy"
    ∷ codes "priority_range" ∷ []

-- a pragma has this name
abbrev pub is_pragma_named : List ℕ → Pragma → Bool
is_pragma_named name p = bytes_eq p.name.text name

-- a policy that an earlier pragma gives
unfoldable pub is_given_again : List Pragma → Pragma → Bool
is_given_again before p =
    list_any (bytes_eq p.name.text) given_once && list_any (is_pragma_named p.name.text) before

-- the priorities of a pragma
abbrev pub specific_numbers : Pragma → List (Option ℤ)
specific_numbers p = map number_in p.arguments.others

-- two numbers that are known
abbrev pub pair_of : List (Option ℤ) → Option Span
pair_of (Some low ∷ Some high ∷ []) = Some (span low high)
pair_of numbers = None

-- the range of a pragma for some priorities
unfoldable pub range_of_pragma : ℕ → Pragma → Option Span
range_of_pragma last p =
    cond (is_pragma_named (codes "priority_specific_dispatching") p && is_pragma_of_profile last p)
    (pair_of (specific_numbers p)) None

-- a range that meets an earlier one
unfoldable pub overlaps_before : ℕ → List Pragma → Pragma → Bool
overlaps_before last before p =
    list_any (λ q. meet (range_of_pragma last p) (range_of_pragma last q)) before

-- one policy for all beside one for some
unfoldable pub stands_beside_specific : List Pragma → Pragma → Bool
stands_beside_specific pragmas p =
    is_pragma_named (codes "task_dispatching_policy") p
    && list_any (is_pragma_named (codes "priority_specific_dispatching")) pragmas

-- a pragma that is none of the profile, or clashes
unfoldable pub is_wrong_pragma : ℕ → List Pragma → List Pragma → Pragma → Bool
is_wrong_pragma last pragmas before p =
    not (is_pragma_of_profile last p)
    || (is_given_again before p
    || (overlaps_before last before p || stands_beside_specific pragmas p))

-- such pragmas, from this place on
unfoldable pub wrong_pragmas : ℕ → List Pragma → ℕ → List Pragma → Found
wrong_pragmas last pragmas at [] = []
wrong_pragmas last pragmas at (p ∷ ps) =
    broken_if rule.ConfigurationPragma (is_wrong_pragma last pragmas (take at pragmas) p) p.place
    ++ wrong_pragmas last pragmas (suc at) ps

-- the rule on pragmas
unfoldable pub pragmas_judged : List Pragma → Found
pragmas_judged pragmas = wrong_pragmas (last_priority_of pragmas) pragmas 0 pragmas
