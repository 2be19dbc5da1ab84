-- Where statements have values, these are built: conditions, delays, the bounds of loops, and what a case selects by.
use Rattle.std.proofs.Common.{◌≡◌, Bool, true, false, not, [], Option, Some, None, refl, ap}
use Rattle.std.specs.Prelude.{⊤, unwrap_or}
use Rattle.std.proofs.lemmas.Bool.{and_from, and_parts, false≢true}
use Rattle.ada_tree.specs.declared.expressions.Expression.{Expression}
use Rattle.ada_tree.specs.declared.statements.Iteration.TheVariants as iteration
use Rattle.std.specs.Option.{option_or}
use Rattle.ada_regions.specs.declared.types.AdaType.{AdaType}
use Rattle.ada_regions.specs.declared.types.AdaType.TheVariants as types
use Rattle.ada_image.specs.Layout.{is_thing}
use Rattle.ada_legality.specs.declared.reading.Asked.TheVariants as asking
use Rattle.ada_legality.specs.declared.reading.Read.{Read}
use Rattle.ada_legality.specs.declared.reading.Typed.{Typed}
use Rattle.ada_legality.specs.declared.reading.Typed.TheVariants as typing
use Rattle.ada_legality.specs.declared.standing.Known.{Known}
use Rattle.ada_legality.specs.Faults.{faults_in}
use Rattle.ada_legality.specs.Types.{is_discrete, discrete_if, has_type, type_of_bounds, type_of_low, typed_is}
use Rattle.ada_legality.specs.Reading.{expected, is_discrete_or_refused}
use Rattle.ada_legality.specs.ReadExpressions.{read_expression}
use Rattle.ada_legality.specs.CallStatements.{condition_found, value_found}
use Rattle.ada_legality.specs.Choices.{case_judged, selector_judged}
use Rattle.ada_legality.specs.SimpleStatements.{delay_found, delay_type, iteration_found}
use Rattle.ada_image.specs.BuiltExpressions.{expression_built}
use Rattle.image_laws.specs.Clear.{has_values, expression_clear}
use Rattle.image_laws.specs.Laws.{ReadConditionsBuilt, ReadDelaysBuilt, ReadIterationsBuilt, ReadSelectorsBuilt}
use Rattle.image_laws.proofs.Forms.Nothing.{none-of, unless-none}
use Rattle.image_laws.proofs.Forms.Actuals.{fitted-values}
use Rattle.image_laws.proofs.Forms.Operands.{no-call}
use Rattle.image_laws.proofs.Forms.Expressions.{expression-law, expected_expressions_built}

-- ---- conditions and delays

pub read_conditions_built : ReadConditionsBuilt
unfolding condition_found
read_conditions_built k e c f = expected_expressions_built k e asking.ForCondition types.Boolean c refl f

delay-thing : (until : Bool) → is_thing (delay_type until) ≡ false
delay-thing true = refl
delay-thing false = refl

pub read_delays_built : ReadDelaysBuilt
unfolding delay_found value_found
read_delays_built k d c f = expected_expressions_built k d.value asking.ForValue (delay_type d.until) c (delay-thing d.until) (none-of _ _ f).1

-- ---- loops

discrete-thing : (t : AdaType) → is_discrete t ≡ true → is_thing t ≡ false
discrete-thing types.Integer e = refl
discrete-thing types.Boolean e = refl
discrete-thing (types.Enumeration n) e = refl
discrete-thing _ e = absurd (false≢true e)

abbrev NoThing : Option AdaType → Type 0
NoThing None = ⊤
NoThing (Some t) = is_thing t ≡ false

discrete-if : (t : AdaType) → NoThing (discrete_if t)
discrete-if types.Integer = refl
discrete-if types.Boolean = refl
discrete-if (types.Enumeration n) = refl
discrete-if _ = tt

low-thing : (t : Typed) → NoThing (type_of_low t)
unfolding type_of_low
low-thing (typing.OfSubtype s) = discrete-if s.of_type
low-thing typing.OfWholeNumber = refl
low-thing _ = tt

bounds-thing : (low high : Typed) → is_thing (type_of_bounds low high) ≡ false
unfolding type_of_bounds
bounds-thing low high = go (type_of_low low) (type_of_low high) (low-thing low) (low-thing high)
  where
    go : (a b : Option AdaType) → NoThing a → NoThing b → is_thing (unwrap_or (option_or a b) types.Integer) ≡ false
    go (Some a) b p q = p
    go None (Some b) p q = q
    go None None p q = refl

bound-built : (k : Known) (e : Expression) (t : AdaType) → expression_clear e k ≡ true → is_thing t ≡ false → faults_in (read_expression e k).1 ≡ []
    → faults_in (expected asking.ForValue (Some t) (read_expression e k).0) ≡ [] → expression_built e k.names ≡ true
unfolding expected
bound-built k e t c h f g =
    let q = none-of _ _ g in
    let w = (expression-law e).at k f c in
    w.built (fitted-values asking.ForValue (read_expression e k).0 t h q.1 w.typed) (no-call (read_expression e k).0 q.0)

pub read_iterations_built : ReadIterationsBuilt
unfolding iteration_found
read_iterations_built k place iteration.Forever c f = refl
read_iterations_built k place (iteration.While at condition) c f = read_conditions_built k condition c f
read_iterations_built k place (iteration.For at i reverse low high) c f =
    let parts = and_parts _ _ c in
    let t = type_of_bounds (read_expression low k).0.typed (read_expression high k).0.typed in
    let h = bounds-thing (read_expression low k).0.typed (read_expression high k).0.typed in
    let p = none-of _ _ (none-of _ _ f).1 in
    let q = none-of _ _ p.1 in
    let r = none-of _ _ q.1 in
    and_from _ _ (bound-built k low t parts.0 h p.0 r.0) (bound-built k high t parts.1 h q.0 r.1)

-- ---- what a case selects by

discrete-values : (t : Typed) → is_discrete_or_refused t ≡ true → has_type t ≡ true → has_values t ≡ true
unfolding typed_is
discrete-values typing.WithoutType d h = absurd (false≢true h)
discrete-values (typing.OfSubtype s) d h = ap not (discrete-thing s.of_type d)
discrete-values typing.OfWholeNumber d h = refl
discrete-values typing.OfPointedNumber d h = refl
discrete-values typing.OfText d h = absurd (false≢true d)
discrete-values typing.OfNull d h = absurd (false≢true d)
discrete-values (typing.OfHandler e) d h = absurd (false≢true d)

selector-values : (r : Read) (t : Typed) → faults_in (selector_judged r t) ≡ [] → has_type t ≡ true → has_values t ≡ true
unfolding selector_judged
selector-values r typing.OfWholeNumber f h = refl
selector-values r typing.OfPointedNumber f h = refl
selector-values r typing.WithoutType f h = absurd (false≢true h)
selector-values r (typing.OfSubtype s) f h = discrete-values (typing.OfSubtype s) (unless-none _ _ r.place f) h
selector-values r typing.OfText f h = discrete-values typing.OfText (unless-none _ _ r.place f) h
selector-values r typing.OfNull f h = discrete-values typing.OfNull (unless-none _ _ r.place f) h
selector-values r (typing.OfHandler e) f h = discrete-values (typing.OfHandler e) (unless-none _ _ r.place f) h

pub read_selectors_built : ReadSelectorsBuilt
unfolding case_judged
read_selectors_built k place e choices c f =
    let p = none-of _ _ f in
    let q = none-of _ _ p.1 in
    let w = (expression-law e).at k p.0 c in
    w.built (selector-values (read_expression e k).0 (read_expression e k).0.typed (none-of _ _ q.1).0 w.typed) (no-call (read_expression e k).0 q.0)
