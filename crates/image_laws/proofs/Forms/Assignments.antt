-- Assignments of values, and returns, are built, where no rule is broken.
use Rattle.std.proofs.Common.{◌≡◌, Bool, true, false, cond, [], Option, Some, None, is_some, refl}
use Rattle.std.proofs.lemmas.Bool.{and_from, and_parts, false≢true, not-true}
use Rattle.ada_tree.specs.declared.expressions.Expression.{Expression}
use Rattle.ada_tree.specs.declared.statements.Assignment.{Assignment}
use Rattle.ada_regions.specs.declared.types.AdaType.{AdaType}
use Rattle.ada_regions.specs.declared.types.AdaType.TheVariants as types
use Rattle.ada_image.specs.Layout.{is_kept, subtype_is}
use Rattle.ada_regions.specs.Statics.{subtype_of_name}
use Rattle.ada_regions.specs.TypeKinds.{is_array_type}
use Rattle.ada_legality.specs.declared.reading.Asked.TheVariants as asking
use Rattle.ada_legality.specs.declared.reading.Typed.{Typed}
use Rattle.ada_legality.specs.declared.reading.Typed.TheVariants as typing
use Rattle.ada_legality.specs.declared.standing.Known.{Known}
use Rattle.ada_legality.specs.Faults.{faults_in}
use Rattle.ada_legality.specs.Types.{operand_type}
use Rattle.ada_legality.specs.Reading.{fitted}
use Rattle.ada_legality.specs.ReadExpressions.{read_expression}
use Rattle.ada_legality.specs.CallStatements.{found_if, value_found, value_alone_found}
use Rattle.ada_legality.specs.SimpleStatements.{assignment_found, assignment_judged, function_around}
use Rattle.ada_legality.specs.SimpleStatements.{result_expected, return_found, type_of_index_of, typed_target}
use Rattle.ada_image.specs.BuiltExpressions.{expression_built}
use Rattle.ada_image.specs.BuiltStatements.{assigned_built, source_built}
use Rattle.image_laws.specs.Clear.{has_values}
use Rattle.image_laws.specs.Laws.{ReadAssignmentsBuilt, ReadReturnsBuilt, has_value_type, source_clear, target_index_clear}
use Rattle.image_laws.proofs.Forms.Nothing.{none-of}
use Rattle.image_laws.proofs.Forms.Expressions.{expected_expressions_built}
use Rattle.image_laws.proofs.Forms.Sources.{source-sound}

typed-source : (k : Known) (e : Expression) (t : Typed) → has_values t ≡ true → source_clear e k ≡ true → faults_in (read_expression e k).1 ≡ []
    → faults_in (fitted asking.ForValue (operand_type t) (read_expression e k).0) ≡ [] → source_built e k.names ≡ true
typed-source k e (typing.OfSubtype s) v c f g = let p = and_parts _ _ c in source-sound k e s.of_type p.0 p.1 (not-true _ v) f g
typed-source k e typing.OfWholeNumber v c f g = let p = and_parts _ _ c in source-sound k e types.Integer p.0 p.1 refl f g
typed-source k e typing.OfPointedNumber v c f g = let p = and_parts _ _ c in source-sound k e types.Duration p.0 p.1 refl f g
typed-source k e _ v c f g = absurd (false≢true v)

whole-sound : (b c x : Bool) → x ≡ true → cond b true (cond c true x) ≡ true
whole-sound true c x e = refl
whole-sound false true x e = refl
whole-sound false false x e = e

index-sound : (k : Known) (t : Option AdaType) (i : Expression) → target_index_clear t (Some i) k ≡ true → faults_in (value_found t i k) ≡ []
    → expression_built i k.names ≡ true
unfolding value_found
index-sound k None i c f = absurd (false≢true c)
index-sound k (Some t) i c f = let p = and_parts _ _ c in expected_expressions_built k i asking.ForValue t p.1 (not-true _ p.0) f

target-sound : (k : Known) (a : Assignment) (i : Option Expression) → source_built a.value k.names ≡ true
    → target_index_clear (type_of_index_of k a.target) i k ≡ true
    → faults_in (found_if (value_found (type_of_index_of k a.target)) i k) ≡ [] → assigned_built a i k.names ≡ true
target-sound k a None s c f =
    whole-sound (subtype_is is_kept (subtype_of_name k.names a.target)) (subtype_is is_array_type (subtype_of_name k.names a.target)) _ s
target-sound k a (Some i) s c f = and_from _ _ (index-sound k (type_of_index_of k a.target) i c f) s

pub read_assignments_built : ReadAssignmentsBuilt
unfolding assignment_found assignment_judged
read_assignments_built k a c f =
    let clear = and_parts _ _ c in
    let parts = and_parts _ _ clear.1 in
    let p = none-of _ _ f in
    let q = none-of _ _ p.1 in
    let r = none-of _ _ q.1 in
    let s = none-of _ _ (none-of _ _ r.1).1 in
    target-sound k a a.index (typed-source k a.value (typed_target k a.target (is_some a.index)) clear.0 parts.0 r.0 s.1) parts.1 q.0

-- ---- returns

returned-sound : (k : Known) (t : Option AdaType) (e : Expression) → has_value_type t ≡ true → source_clear e k ≡ true
    → faults_in (value_alone_found t e k) ≡ [] → source_built e k.names ≡ true
unfolding value_alone_found
returned-sound k None e h c f = absurd (false≢true h)
returned-sound k (Some t) e h c f = let p = and_parts _ _ c in let q = none-of _ _ f in source-sound k e t p.0 p.1 (not-true _ h) q.0 q.1

pub read_returns_built : ReadReturnsBuilt
unfolding return_found
read_returns_built k place None c f = refl
read_returns_built k place (Some e) c f = let p = and_parts _ _ c in returned-sound k (result_expected (function_around k)) e p.0 p.1 (none-of _ _ f).1
