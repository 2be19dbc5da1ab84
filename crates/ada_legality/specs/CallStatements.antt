-- What is found in expressions of statements, in subtype indications, parameters and calls (clauses 3.2.2, 6).
use Rattle.ada_image.specs.Making.{in_unit}
use Rattle.ada_legality.specs.Calls.{actual_from, formals_denoted}
use Rattle.ada_legality.specs.Findings.{Found, broken, broken_if, broken_unless}
use Rattle.ada_legality.specs.Places.{place_of}
use Rattle.ada_legality.specs.ReadExpressions.{arguments_read, is_unclear_mark, read_expression, unless_denoted}
use Rattle.ada_legality.specs.Reading.{actuals_judged, expected, fitted, literal_in, other_pointed_literal}
use Rattle.ada_legality.specs.Types.{has_ranges, is_event_timer_or_budget, is_pointed}
use Rattle.ada_legality.specs.Types.{is_root_controlled, is_scalar, is_scalar_or_array, is_timer}
use Rattle.ada_legality.specs.Values.{denotes_procedure, is_kind}
use Rattle.ada_legality.specs.Words.{is_static, static_number}
use Rattle.ada_legality.specs.declared.limits.TheConstants.{MOST_PARAMETERS}
use Rattle.ada_legality.specs.declared.parts.ActualPart.{ActualPart}
use Rattle.ada_legality.specs.declared.parts.IndicationUse.{IndicationUse}
use Rattle.ada_legality.specs.declared.reading.Read.{Read}
use Rattle.ada_legality.specs.declared.rules.Rule.{Rule}
use Rattle.ada_legality.specs.declared.standing.Known.{Known}
use Rattle.ada_regions.specs.Names.{denoted_by}
use Rattle.ada_regions.specs.Subtypes.{indicated_subtype}
use Rattle.ada_regions.specs.Words.{all_of}
use Rattle.ada_regions.specs.declared.entities.Denoted.{Denoted}
use Rattle.ada_regions.specs.declared.types.AdaType.{AdaType}
use Rattle.ada_regions.specs.TypeKinds.{is_controlled_type}
use Rattle.ada_tree.specs.declared.declarations.Constraint.{Constraint as Indicated}
use Rattle.ada_tree.specs.declared.declarations.Parameter.{Parameter}
use Rattle.ada_tree.specs.declared.declarations.SubtypeIndication.{SubtypeIndication}
use Rattle.ada_tree.specs.declared.expressions.Expression.{Expression}
use Rattle.ada_tree.specs.declared.names.Identifier.{Identifier}
use Rattle.ada_tree.specs.declared.names.Name.{Name}
use Rattle.ada_tree.specs.declared.statements.Call.{Call}
use Rattle.ann_base.specs.declared.places.Place.{Place}
use Rattle.std.specs.List.{flat_map}
use Rattle.std.specs.Prelude.{Bool, List, None, Option, Some, [], codes, cond, false, int_lt, is_some}
use Rattle.std.specs.Prelude.{not, option_map, slice_get, true, unwrap_or, ℕ, ℤ, ◌&&◌, ◌++◌, ◌||◌, ◌∷◌}
use Rattle.ada_legality.specs.declared.reading.Asked.TheVariants as asking
use Rattle.ada_regions.specs.declared.entities.Denoted.TheVariants as denotes
use Rattle.ada_tree.specs.declared.declarations.Constraint.TheVariants as indicated
use Rattle.ada_regions.specs.declared.predefined.Predefined.TheVariants as items
use Rattle.ada_regions.specs.declared.predefined.Operation.TheVariants as operations
use Rattle.ada_legality.specs.declared.rules.Rule.TheVariants as rule
use Rattle.ada_regions.specs.declared.types.AdaType.TheVariants as types
use Rattle.ada_legality.specs.declared.parts.IndicationUse.TheVariants as uses

-- ---- expressions in statements

-- a value, in which a function's call may not stand
unfoldable pub value_found : Option AdaType → Expression → Known → Found
value_found t e k =
    let r = read_expression e k in
    r.1 ++ expected asking.ForValue t r.0

-- a value that may be a function's call
unfoldable pub value_alone_found : Option AdaType → Expression → Known → Found
value_alone_found t e k =
    let r = read_expression e k in
    r.1 ++ fitted asking.ForValue t r.0

-- a condition (5.3, 5.5, 5.7): Boolean
unfoldable pub condition_found : Expression → Known → Found
condition_found e k =
    let r = read_expression e k in
    r.1 ++ expected asking.ForCondition (Some types.Boolean) r.0

-- what is there
abbrev pub found_if : {X : Type 0} → (X → Known → Found) → Option X → Known → Found
found_if f None k = []
found_if f (Some x) k = f x k

-- all items of a list
abbrev pub all_found : {X : Type 0} → (X → Known → Found) → List X → Known → Found
all_found f xs k = flat_map (λ x. f x k) xs

-- ---- bounds (3.5): each is static, and the low one is not above the high one

-- an expression that is not static
abbrev pub not_static : Rule → Known → Expression → Place → Found
not_static r k e place = broken_unless r (is_static k e) place

-- the first number is above the second
abbrev pub is_above : Option ℤ → Option ℤ → Bool
is_above (Some low) (Some high) = int_lt high low
is_above a b = false

-- a pair of bounds of this type
unfoldable pub pair_judged : Known → AdaType → Expression → Read → Expression → Read → Found
pair_judged k t low l high h =
    not_static rule.StaticBounds k low l.place
    ++ (not_static rule.StaticBounds k high h.place
    ++ broken_if rule.StaticBounds
    (is_above (static_number k t low l.typed) (static_number k t high h.typed)) l.place)

-- bounds of this type, which are read
unfoldable pub bounds_judged : Known → AdaType → Expression → Read → Expression → Read → Found
bounds_judged k t low l high h =
    pair_judged k t low l high h
    ++ (expected asking.ForValue (Some t) l ++ expected asking.ForValue (Some t) h)

-- bounds of this type
unfoldable pub bounds_found : AdaType → Expression → Expression → Known → Found
bounds_found t low high k =
    let l = read_expression low k in
    let h = read_expression high k in
    l.1 ++ (h.1 ++ bounds_judged k t low l.0 high h.0)

-- bounds, where the type has ranges
unfoldable pub bounds_if : Option AdaType → Expression → Expression → Known → Found
bounds_if None low high k = value_found None low k ++ value_found None high k
bounds_if (Some t) low high k = cond (has_ranges t) (bounds_found t low high k) []

-- ---- subtype indications (3.2.2)

-- the type that is indicated
unfoldable pub type_of_mark : Known → SubtypeIndication → Option AdaType
type_of_mark k m = option_map (λ s. s.of_type) (indicated_subtype k.names m)

-- what restricts a subtype mark
abbrev pub constraint_found : Option AdaType → Option Indicated → Known → Found
constraint_found t None k = []
constraint_found t (Some (indicated.Access name)) k = []
constraint_found t (Some (indicated.Range low high)) k = bounds_if t low high k

-- a range stands behind the mark
abbrev pub has_range : Option Indicated → Bool
has_range None = false
has_range (Some (indicated.Access name)) = false
has_range (Some (indicated.Range low high)) = true

-- a discriminant stands behind the mark (3.7)
abbrev pub has_access : Option Indicated → Bool
has_access None = false
has_access (Some (indicated.Access name)) = true
has_access (Some (indicated.Range low high)) = false

-- subtype marks: a type that is no root of controlled types, of which a range may be taken where
-- one stands
unfoldable pub may_be_indicated : IndicationUse → AdaType → Bool
may_be_indicated uses.ForObject t = true
may_be_indicated uses.ForSubtype t = true
may_be_indicated uses.ForResult t = is_scalar t
may_be_indicated uses.ForArrayComponent t = true
may_be_indicated uses.ForComponent t = is_scalar_or_array t
may_be_indicated (uses.ForProtectedComponent place) t = true
may_be_indicated (uses.ForParameter in_unit overrides) t =
    is_scalar t || ((in_unit && is_event_timer_or_budget t) || (overrides && is_controlled_type t))

-- a range stands behind a type of which one may be taken alone
abbrev pub range_fits : Option Indicated → AdaType → Bool
range_fits m t = not (has_range m) || has_ranges t

-- a type may be indicated there
unfoldable pub type_fits_indication : IndicationUse → Option Indicated → AdaType → Bool
type_fits_indication purpose m t =
    not (is_root_controlled t) && (range_fits m t && may_be_indicated purpose t)

-- a mark whose own definition names no type is broken there
unfoldable pub is_fitting_mark : Known → IndicationUse → SubtypeIndication → Option AdaType → Bool
is_fitting_mark k purpose m t =
    is_kind is_unclear_mark k m.name
    || unwrap_or (option_map (type_fits_indication purpose m.constraint) t) false

-- discriminants (3.7): that of a Timer alone, in its object's declaration
abbrev pub may_have_access : IndicationUse → AdaType → Bool
may_have_access uses.ForObject t = is_timer t
may_have_access purpose t = false

-- a mark with a discriminant that its type has not
unfoldable pub has_other_discriminant : IndicationUse → Option Indicated → AdaType → Bool
has_other_discriminant purpose m t =
    has_access m && not (may_have_access purpose t || is_root_controlled t)

-- protected components (9.4) are scalars or arrays
unfoldable pub component_judged : IndicationUse → AdaType → Found
component_judged (uses.ForProtectedComponent place) t =
    broken_unless rule.ProtectedComponents (is_scalar_or_array t || is_root_controlled t) place
component_judged purpose t = []

-- a mark of this type
unfoldable pub mark_judged : IndicationUse → Name → Option Indicated → AdaType → Found
mark_judged purpose name m t =
    component_judged purpose t
    ++ broken_if rule.Discriminant (has_other_discriminant purpose m t) (place_of name)

-- the same, where the type is known
abbrev pub mark_judged_if : IndicationUse → Name → Option Indicated → Option AdaType → Found
mark_judged_if purpose name m None = []
mark_judged_if purpose name m (Some t) = mark_judged purpose name m t

-- a subtype indication
unfoldable pub indication_found : IndicationUse → SubtypeIndication → Known → Found
indication_found purpose m k =
    let t = type_of_mark k m in
    broken_unless rule.KindOfName (is_fitting_mark k purpose m t) (place_of m.name)
    ++ (mark_judged_if purpose m.name m.constraint t ++ constraint_found t m.constraint k)

-- ---- parameters (6.1)

-- parameters with one subtype
unfoldable pub parameter_found : Bool → Bool → Parameter → Known → Found
parameter_found in_unit overrides p k =
    indication_found
    (uses.ForParameter (in_unit && (p.is_in && p.is_out)) (overrides && (p.is_in && p.is_out)))
    p.subtype k

-- the names of parameters
unfoldable pub formal_names_of : List Parameter → List Identifier
formal_names_of parameters = flat_map (λ p. all_of p.names) parameters

-- whether the items are one
abbrev pub is_one : {X : Type 0} → List X → Bool
is_one [] = false
is_one (x ∷ []) = true
is_one (x ∷ y ∷ more) = false

-- the item with which a list has more than that
abbrev pub beyond : {X : Type 0} → Rule → (X → Place) → ℕ → List X → Found
beyond r place most xs =
    unwrap_or (option_map (λ x. broken r (place x) ∷ []) (slice_get xs most)) []

-- a profile's parameters (own)
unfoldable pub parameters_found : Bool → Bool → List Parameter → Known → Found
parameters_found in_unit overrides parameters k =
    let names = formal_names_of parameters in
    beyond rule.Limit (λ i. i.place) MOST_PARAMETERS names
    ++ all_found (parameter_found (in_unit && is_one names) (overrides && is_one names)) parameters k

-- ---- calls (6.4, 9.5.3)

-- Put_Line
abbrev pub is_put_line : Denoted → Bool
is_put_line (denotes.Item u (items.Operation operations.PutLine)) = true
is_put_line d = false

-- Put_Line (A.10.7; own): a text, an Image, or these joined by `&`, of at most 1,000 bytes; of a
-- number with a point its point alone is told
unfoldable pub line_judged : Place → Option Read → Found
line_judged at None = []
line_judged at (Some r) = cond (is_pointed r.typed) (other_pointed_literal (literal_in r))
    (broken_unless rule.PutLineForm (is_some r.line) at)

-- the line that is put
abbrev pub line_if_put : Place → List ActualPart → Denoted → Found
line_if_put at actuals d =
    cond (is_put_line d) (line_judged at (actual_from 0 (codes "item") 0 actuals)) []

-- a call, by what its name denotes
unfoldable pub call_judged : Known → Place → List ActualPart → Denoted → Found
call_judged k at actuals d = cond (denotes_procedure k d)
    (line_if_put at actuals d ++ actuals_judged k at (formals_denoted k actuals d) actuals) []

-- a call statement
unfoldable pub call_found : Call → Known → Found
call_found c k =
    let actuals = arguments_read read_expression c.arguments k in
    unless_denoted (denotes_procedure k) k c.name
    ++ (actuals.1
    ++ unwrap_or
    (option_map (call_judged k (place_of c.name) actuals.0) (denoted_by k.names c.name)) [])
