-- Assignments that break no rule are built, where the table is clear.
use Rattle.std.proofs.Common.{◌≡◌, ℕ, Bool, true, false, cond, not, ◌&&◌, ◌||◌, List, [], Option, Some, None, option_map, is_some, refl, sym, ap, ◌∙◌}
use Rattle.std.specs.Prelude.{unwrap_or}
use Rattle.std.proofs.lemmas.Bool.{false≢true, and_from, and_parts, or_left, or_right}
use Rattle.ada_tree.specs.declared.expressions.Expression.{Expression}
use Rattle.ada_tree.specs.declared.names.Name.{Name}
use Rattle.ada_tree.specs.declared.statements.Assignment.{Assignment}
use Rattle.ada_regions.specs.declared.entities.Denoted.{Denoted}
use Rattle.ada_regions.specs.declared.entities.Denoted.TheVariants as denotes
use Rattle.ada_regions.specs.declared.entities.EntityKind.{EntityKind}
use Rattle.ada_regions.specs.declared.entities.EntityKind.TheVariants as entity
use Rattle.ada_regions.specs.declared.predefined.Predefined.{Predefined}
use Rattle.ada_regions.specs.declared.predefined.Predefined.TheVariants as items
use Rattle.ada_regions.specs.declared.predefined.PredefinedUnit.{PredefinedUnit}
use Rattle.ada_regions.specs.declared.table.Names.{Names}
use Rattle.ada_regions.specs.declared.types.AdaType.{AdaType}
use Rattle.ada_regions.specs.declared.types.AdaType.TheVariants as types
use Rattle.ada_regions.specs.declared.types.Subtype.{Subtype}
use Rattle.ada_regions.specs.Completions.{holds_of}
use Rattle.ada_regions.specs.Names.{denoted_by, kind_at}
use Rattle.ada_regions.specs.NamesInExpressions.{names_in_expression}
use Rattle.ada_regions.specs.NamesInStatements.{names_in_assignment}
use Rattle.ada_regions.specs.Occurrences.{if_there}
use Rattle.ada_regions.specs.Statics.{subtype_denoted, subtype_of_kind, subtype_of_name}
use Rattle.ada_regions.specs.TypeKinds.{is_array_type}
use Rattle.ada_regions.specs.Words.{and_then}
use Rattle.ada_image.specs.BuiltStatements.{assigned_built, assignment_built, source_built}
use Rattle.ada_image.specs.Layout.{is_kept, is_thing, subtype_is}
use Rattle.ada_legality.specs.declared.reading.Read.{Read}
use Rattle.ada_legality.specs.declared.reading.Typed.TheVariants as typing
use Rattle.ada_legality.specs.declared.standing.Known.{Known}
use Rattle.ada_legality.specs.Attributes.{ends_of_object, is_variable, is_variable_kind, prefix_is_variable}
use Rattle.ada_legality.specs.CallStatements.{found_if, value_found}
use Rattle.ada_legality.specs.Faults.{faults_in}
use Rattle.ada_legality.specs.Places.{place_of}
use Rattle.ada_legality.specs.ReadExpressions.{index_fits, is_unclear_object, may_be_value}
use Rattle.ada_legality.specs.SimpleStatements.{assignment_found, assignment_judged, is_wrong_target, may_be_target}
use Rattle.ada_legality.specs.SimpleStatements.{target_judged, type_of_index_of, typed_target}
use Rattle.ada_legality.specs.Types.{has_type, is_discrete, is_limited, is_root_controlled, typed_by, typed_is}
use Rattle.ada_legality.specs.Values.{denoted_kind, denotes_function, denotes_object, denotes_value, is_function_kind}
use Rattle.ada_legality.specs.Values.{is_object_kind, is_predefined_constant, subtype_of_entity}
use Rattle.ada_legality.specs.Values.{subtype_of_loop, subtype_of_object, subtype_with_index, type_of_constant}
use Rattle.ada_legality.specs.Values.{typed_call, typed_denoted, typed_name, typed_value}
use Rattle.image_laws.specs.Clear.{has_values, index_clear}
use Rattle.image_laws.specs.Laws.{has_value_type, source_clear, target_index_clear}
use Rattle.image_laws.proofs.Forms.Actuals.{or-second}
use Rattle.image_laws.proofs.Forms.Assignments.{read_assignments_built}
use Rattle.image_laws.proofs.Forms.Nothing.{none-of, if-none, unless-none}
use Rattle.form_laws.specs.Tables.{ClearTable, denoted_stands, kind_clear, kind_stands, loop_clear, loops_stand, object_clear}
use Rattle.form_laws.specs.Loops.{names_held}
use Rattle.form_laws.proofs.Names.{component-values, denoted-typed, ends-known, unclear-object}
use Rattle.form_laws.proofs.Expressions.{expression-known, stands-parts}
use Rattle.form_laws.proofs.Parts.{function-known}
use Rattle.form_laws.proofs.Standing.{Standing, names-stand}

-- ---- the types of targets

kept-or_value : (n : Names) (t : AdaType) → not (is_root_controlled t) ≡ true → is_limited n t ≡ false → (not (is_thing t) || is_kept t) ≡ true
unfolding is_limited
kept-or_value n types.TimingEvent r l = absurd (false≢true (sym l))
kept-or_value n types.Timer r l = absurd (false≢true (sym l))
kept-or_value n types.GroupBudget r l = absurd (false≢true (sym l))
kept-or_value n (types.Protected u) r l = absurd (false≢true (sym l))
kept-or_value n types.LimitedControlled r l = absurd (false≢true r)
kept-or_value n types.Controlled r l = absurd (false≢true r)
kept-or_value n _ r l = refl

target-alone : (n : Names) (x : Option Subtype) → object_clear x ≡ true → typed_is (is_limited n) (typed_by x) ≡ false
    → (has_values (typed_by x) || subtype_is is_kept x) ≡ true
unfolding typed_is
target-alone n None c l = absurd (false≢true c)
target-alone n (Some x) c l = kept-or_value n x.of_type c l

pub discrete-value : (t : AdaType) → is_discrete t ≡ true → not (is_thing t) ≡ true
discrete-value types.Integer h = refl
discrete-value types.Boolean h = refl
discrete-value (types.Enumeration e) h = refl
discrete-value _ h = absurd (false≢true h)

loop-alone : (x : Option Subtype) → loop_clear x ≡ true → has_values (typed_by x) ≡ true
loop-alone None c = absurd (false≢true c)
loop-alone (Some x) c = discrete-value x.of_type c

object-no_function : (kind : Option EntityKind) → holds_of is_object_kind kind ≡ true → holds_of is_function_kind kind ≡ false
object-no_function None h = refl
object-no_function (Some (entity.Subprogram number is_function specified formals unit)) h = absurd (false≢true h)
object-no_function (Some _) h = refl

item-value : (k : Known) (u : PredefinedUnit) (item : Predefined) → is_predefined_constant item ≡ true → denotes_value k (denotes.Item u item) ≡ true
unfolding denotes_value type_of_constant
item-value k u (items.Constant of_type x) h = refl
item-value k u _ h = absurd (false≢true h)

wrong-target : (a b c : Bool) → a ≡ true → b ≡ false → (a && (not b || c)) ≡ false → ⊥
wrong-target true false c p q h = false≢true (sym h)
wrong-target true true c p q h = false≢true (sym q)
wrong-target false b c p q h = false≢true p

value-type : (t : Option AdaType) → is_some t ≡ true → index_clear t ≡ true → has_value_type t ≡ true
value-type None s c = absurd (false≢true s)
value-type (Some t) s c = c

module _ (k : Known) (t : ClearTable k) where
  kind-alone : (e : ℕ) (kind : Option EntityKind) → kind_clear k.names kind ≡ true → kind_stands k e kind ≡ true → holds_of is_object_kind kind ≡ true
      → typed_is (is_limited k.names) (typed_by (and_then kind (subtype_of_object k e))) ≡ false
      → (has_values (typed_by (and_then kind (subtype_of_object k e))) || subtype_is is_kept (and_then kind subtype_of_kind)) ≡ true
  unfolding subtype_of_object
  kind-alone e None c s h l = absurd (false≢true h)
  kind-alone e (Some (entity.Object x constant v declaration)) c s h l = target-alone k.names x (and_parts _ _ c).0 l
  kind-alone e (Some (entity.Parameter x mode declaration)) c s h l = target-alone k.names x c l
  kind-alone e (Some (entity.Component x owner declaration)) c s h l = target-alone k.names x c l
  kind-alone e (Some (entity.LoopParameter declaration)) c s h l = or_left _ _ (loop-alone (subtype_of_loop k.loops e) s)
  kind-alone e (Some _) c s h l = absurd (false≢true h)

  entity-target : (e : ℕ) (has : Bool) → holds_of is_object_kind (kind_at k.names e) ≡ true
      → typed_denoted k has (denotes.Entity e) ≡ typed_by (subtype_with_index k.names has (and_then (kind_at k.names e) (subtype_of_object k e)))
  unfolding typed_denoted denotes_function typed_value subtype_of_entity
  entity-target e has h =
      ap (λ b. cond b (typed_call k (denotes.Entity e)) (typed_by (subtype_with_index k.names has (and_then (kind_at k.names e) (subtype_of_object k e)))))
      (object-no_function (kind_at k.names e) h)

  module _ (name : Name) where
    target-type : (has : Bool) (d : Denoted) → denoted_by k.names name ≡ Some d → denotes_object k d ≡ true
        → typed_target k name has ≡ typed_denoted k has d
    unfolding typed_target typed_name
    target-type has d q m =
        ap (λ x.
        cond (unwrap_or (option_map (denotes_object k) x) false) (unwrap_or (option_map (typed_denoted k has) x) typing.WithoutType) typing.WithoutType) q
        ∙ ap (λ b. cond b (typed_denoted k has d) typing.WithoutType) m

    -- an index stands behind an array
    ends-there : (e : ℕ) → denoted_stands k (Some (denotes.Entity e)) ≡ true → index_fits k true (denotes.Entity e) ≡ true
        → is_some (ends_of_object k (denotes.Entity e)) ≡ true
    unfolding index_fits
    ends-there e s m = or-second (is_unclear_object k (denotes.Entity e)) _ m (unclear-object k t (denotes.Entity e) s)

    entity-holds : (e : ℕ) (has : Bool) → denoted_by k.names name ≡ Some (denotes.Entity e) → denoted_stands k (Some (denotes.Entity e)) ≡ true
        → holds_of is_object_kind (kind_at k.names e) ≡ true → index_fits k has (denotes.Entity e) ≡ true
        → typed_target k name has ≡ typed_by (subtype_with_index k.names has (and_then (kind_at k.names e) (subtype_of_object k e)))
        → typed_is (is_limited k.names) (typed_target k name has) ≡ false
        → (has_values (typed_target k name has) || (not has && subtype_is is_kept (subtype_of_name k.names name))) ≡ true
    unfolding subtype_with_index ends_of_object subtype_of_entity subtype_denoted
    entity-holds e true q s h i same l =
        or_left _ _ (ap has_values same ∙ component-values k t (and_then (kind_at k.names e) (subtype_of_object k e)) (ends-there e s i))
    entity-holds e false q s h i same l =
        ap (λ x. has_values x || subtype_is is_kept (and_then (denoted_by k.names name) (subtype_denoted k.names))) same
        ∙ (ap (λ x. has_values (typed_by (and_then (kind_at k.names e) (subtype_of_object k e))) || subtype_is is_kept (and_then x (subtype_denoted k.names))) q
        ∙ kind-alone e (kind_at k.names e) (t.kinds e) s h (sym (ap (typed_is (is_limited k.names)) same) ∙ l))

    no-variable : (u : PredefinedUnit) (item : Predefined) → denoted_by k.names name ≡ Some (denotes.Item u item) → is_variable k name ≡ false
    unfolding is_variable
    no-variable u item q = ap (λ d. holds_of is_variable_kind (and_then d (denoted_kind k.names)) && prefix_is_variable k name) q

    item-none : (u : PredefinedUnit) (item : Predefined) (has : Bool) (r : Read) → denoted_by k.names name ≡ Some (denotes.Item u item)
        → is_predefined_constant item ≡ true → index_fits k has (denotes.Item u item) ≡ true
        → is_wrong_target k name (typed_target k name has) r ≡ false → ⊥
    unfolding is_wrong_target may_be_value denotes_object
    item-none u item has r q m i w =
        wrong-target _ _ _
        (ap has_type (target-type has (denotes.Item u item) q m)
        ∙ denoted-typed k t has (denotes.Item u item) refl (or_right _ _ (and_from _ _ (item-value k u item m) i)))
        (no-variable u item q) w

    target-holds : (has : Bool) (r : Read) → denoted_stands k (denoted_by k.names name) ≡ true → faults_in (target_judged k name has) ≡ []
        → faults_in (assignment_judged k name (typed_target k name has) r) ≡ []
        → (has_values (typed_target k name has) || (not has && subtype_is is_kept (subtype_of_name k.names name))) ≡ true
    unfolding target_judged assignment_judged denotes_object
    target-holds has r s f g =
        let w = if-none _ _ (place_of name) (none-of _ _ g).0 in
        let l = if-none _ _ (place_of name) (none-of _ _ (none-of _ _ g).1).0 in
        go (denoted_by k.names name) refl s (unless-none _ _ (place_of name) (none-of _ _ f).0) w l
      where
        go : (d : Option Denoted) → denoted_by k.names name ≡ d → denoted_stands k d ≡ true → unwrap_or (option_map (may_be_target k has) d) false ≡ true
            → is_wrong_target k name (typed_target k name has) r ≡ false → typed_is (is_limited k.names) (typed_target k name has) ≡ false
            → (has_values (typed_target k name has) || (not has && subtype_is is_kept (subtype_of_name k.names name))) ≡ true
        go None q s m w l = absurd (false≢true m)
        go (Some (denotes.Unit u)) q s m w l = absurd (false≢true m)
        go (Some (denotes.Item u item)) q s m w l = let p = and_parts _ _ m in absurd (item-none u item has r q p.0 p.1 w)
        go (Some (denotes.Entity e)) q s m w l =
            let p = and_parts _ _ m in
            entity-holds e has q s p.0 p.1 (target-type has (denotes.Entity e) q p.0 ∙ entity-target e has p.0) l

    index-type : denoted_stands k (denoted_by k.names name) ≡ true → faults_in (target_judged k name true) ≡ []
        → has_value_type (type_of_index_of k name) ≡ true
    unfolding target_judged type_of_index_of denotes_object index_fits is_unclear_object ends_of_object subtype_of_entity
    index-type s f = go (denoted_by k.names name) s (unless-none _ _ (place_of name) (none-of _ _ f).0)
      where
        go : (d : Option Denoted) → denoted_stands k d ≡ true → unwrap_or (option_map (may_be_target k true) d) false ≡ true
            → has_value_type (and_then d (ends_of_object k)) ≡ true
        go None s m = absurd (false≢true m)
        go (Some (denotes.Unit u)) s m = absurd (false≢true m)
        go (Some (denotes.Item u item)) s m = absurd (false≢true (and_parts _ _ m).1)
        go (Some (denotes.Entity e)) s m = value-type _ (ends-there e s (and_parts _ _ m).1) (ends-known k t (denotes.Entity e))

  -- ---- the index and the value

  index-known : (name : Name) (i : Option Expression) → denoted_stands k (denoted_by k.names name) ≡ true
      → loops_stand k (if_there names_in_expression i) ≡ true
      → faults_in (target_judged k name (is_some i)) ≡ [] → faults_in (found_if (value_found (type_of_index_of k name)) i k) ≡ []
      → target_index_clear (type_of_index_of k name) i k ≡ true
  unfolding value_found
  index-known name None d s f g = refl
  index-known name (Some i) d s f g = and_from _ _ (index-type name d f) ((expression-known i).at k t s (none-of _ _ g).0)

  kept-built : (a : Assignment) (i : Option Expression) → (not (is_some i) && subtype_is is_kept (subtype_of_name k.names a.target)) ≡ true
      → assigned_built a i k.names ≡ true
  kept-built a None h =
      ap (λ b. cond b true (cond (subtype_is is_array_type (subtype_of_name k.names a.target)) true (source_built a.value k.names))) h
  kept-built a (Some i) h = absurd (false≢true h)

pub assignment-sound : (k : Known) (es : List ℕ) → Standing k es → (a : Assignment) → names_held (names_in_assignment a) k.names es ≡ true
    → faults_in (assignment_found a k) ≡ [] → assignment_built a k.names ≡ true
unfolding assignment_found
assignment-sound k es s a h f =
    let stand = and_parts _ _ (names-stand k es s (names_in_assignment a) h) in
    let parts = stands-parts k (if_there names_in_expression a.index) (names_in_expression a.value) stand.1 in
    let p = none-of _ _ f in
    let q = none-of _ _ p.1 in
    let r = none-of _ _ q.1 in
    let source = and_from _ _ ((expression-known a.value).at k s.table parts.1 r.0) (function-known k s.table a.value) in
    let index = index-known k s.table a.target a.index stand.0 parts.0 p.0 q.0 in
    go (has_values (typed_target k a.target (is_some a.index))) refl source index (target-holds k s.table a.target (is_some a.index) _ stand.0 p.0 r.1)
  where
    go : (b : Bool) → has_values (typed_target k a.target (is_some a.index)) ≡ b → source_clear a.value k ≡ true
        → target_index_clear (type_of_index_of k a.target) a.index k ≡ true
        → (has_values (typed_target k a.target (is_some a.index)) || (not (is_some a.index) && subtype_is is_kept (subtype_of_name k.names a.target))) ≡ true
        → assignment_built a k.names ≡ true
    go true q source index w = read_assignments_built k a (and_from _ _ q (and_from _ _ source index)) f
    go false q source index w = kept-built k s.table a a.index (or-second _ _ w q)
