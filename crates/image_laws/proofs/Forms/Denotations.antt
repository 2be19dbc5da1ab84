-- A name without attribute that is a value is built: what it denotes, where no rule is broken.
use Rattle.std.proofs.Common.{◌≡◌, ℕ, Bool, true, false, cond, not, ◌&&◌, ◌||◌, List, [], ◌∷◌, map}
use Rattle.std.proofs.Common.{Option, Some, None, option_map, is_some, is_none, refl, sym, ap, ◌∙◌}
use Rattle.std.specs.Prelude.{unwrap_or}
use Rattle.std.proofs.lemmas.Bool.{false≢true, not-true}
use Rattle.ann_base.specs.declared.places.Place.{Place}
use Rattle.ada_tree.specs.declared.expressions.Argument.{Argument}
use Rattle.ada_regions.specs.declared.entities.Denoted.{Denoted}
use Rattle.ada_regions.specs.declared.entities.Denoted.TheVariants as denotes
use Rattle.ada_regions.specs.declared.predefined.Operation.{Operation}
use Rattle.ada_regions.specs.declared.predefined.Predefined.{Predefined}
use Rattle.ada_regions.specs.declared.predefined.Predefined.TheVariants as items
use Rattle.ada_regions.specs.declared.predefined.PredefinedUnit.{PredefinedUnit}
use Rattle.ada_regions.specs.declared.predefined.PredefinedUnit.TheVariants as units
use Rattle.ada_regions.specs.declared.types.AdaType.{AdaType}
use Rattle.ada_regions.specs.Names.{kind_at}
use Rattle.ada_regions.specs.PredefinedUnits.{names_of_formals}
use Rattle.ada_regions.specs.Words.{and_then}
use Rattle.ann_base.specs.Lists.{is_empty}
use Rattle.ada_regions.specs.Completions.{holds_of}
use Rattle.ada_image.specs.ImageOfExpressions.{actuals_for}
use Rattle.ada_legality.specs.declared.reading.Asked.TheVariants as asking
use Rattle.ada_legality.specs.declared.reading.Typed.{Typed}
use Rattle.ada_legality.specs.declared.reading.Typed.TheVariants as typing
use Rattle.ada_legality.specs.declared.standing.Known.{Known}
use Rattle.ada_legality.specs.Faults.{faults_in}
use Rattle.ada_legality.specs.Types.{typed_by}
use Rattle.ada_legality.specs.Calls.{formals_denoted, formals_of_item, moment_is_span}
use Rattle.ada_legality.specs.Values.{denoted_kind, denotes_function, is_function_kind, is_function_operation, subtype_of_entity, subtype_of_object}
use Rattle.ada_legality.specs.Values.{subtype_with_index, type_of_constant, typed_call, typed_constant, typed_denoted, typed_value, unless_index}
use Rattle.ada_legality.specs.Attributes.{ends_of_object}
use Rattle.ada_legality.specs.Reading.{Reading, actuals_judged}
use Rattle.ada_legality.specs.ReadExpressions.{arguments_read, denoted_judged, element_judged, index_fits, is_unclear_object, may_be_value}
use Rattle.ada_image.specs.BuiltExpressions.{Built, same_built, denoted_built, entity_built, item_built, operation_built}
use Rattle.image_laws.proofs.Images.Expressions.{argument_of}
use Rattle.image_laws.specs.Clear.{Clear, has_values, constant_clear, denoted_clear, index_clear, item_clear}
use Rattle.image_laws.proofs.Forms.Nothing.{none-of}
use Rattle.image_laws.proofs.Forms.Operands.{ReadLaw, OperandWell, ArgumentsWell}
use Rattle.image_laws.proofs.Forms.Actuals.{actuals_of, fitted-values, operation-well}
use Rattle.image_laws.proofs.Forms.Entities.{entity-alone, entity-indexed, subtype-there}

no-constant : (k : Known) (u : PredefinedUnit) → has_values (typed_constant k u None) ≡ false
unfolding typed_constant
no-constant k units.System = refl
no-constant k _ = refl

no-index : (has : Bool) → unless_index has None ≡ None
no-index true = refl
no-index false = refl

without-type : (k : Known) (u : PredefinedUnit) (has : Bool) → has_values (typed_constant k u (unless_index has None)) ≡ true → ⊥
without-type k u has v = false≢true (sym (no-constant k u) ∙ sym (ap (λ t. has_values (typed_constant k u t)) (no-index has)) ∙ v)

module _ {E : Type 0} (reading : E → Reading) (clear : E → Clear) (built : E → Built) (law : (e : E) → ReadLaw (reading e) (clear e) (built e)) (k : Known)
    (place : Place) where
  -- what is asked of what a name denotes
  abbrev DenotedWell : Bool → List (Argument E) → Option Denoted → Type 0
  DenotedWell has xs d =
      has_values (unwrap_or (option_map (typed_denoted k has) d) typing.WithoutType) ≡ true
      → holds_of is_function_kind (and_then d (denoted_kind k.names)) ≡ false
      → constant_clear d ≡ true → denoted_clear k d ≡ true → unwrap_or (option_map (may_be_value k has) d) false ≡ true
      → faults_in (unwrap_or (option_map (denoted_judged k place (actuals_of reading built k xs)) d) []) ≡ []
      → denoted_built same_built (map (argument_of built) xs) d k.names ≡ true

  module _ (xs : List (Argument E)) (w : ArgumentsWell reading clear built law xs k) where
    -- ---- predefined names

    operation-denoted : (has : Bool) (u : PredefinedUnit) (o : Operation) → has_values (typed_denoted k has (denotes.Item u (items.Operation o))) ≡ true
        → faults_in (denoted_judged k place (actuals_of reading built k xs) (denotes.Item u (items.Operation o))) ≡ []
        → operation_built same_built o (actuals_for (names_of_formals o) (map (argument_of built) xs)) k.names ≡ true
    unfolding typed_denoted denotes_function typed_value type_of_constant denoted_judged formals_denoted formals_of_item
    operation-denoted has u o v f = go (is_function_operation o) refl v f
      where
        go : (b : Bool) → is_function_operation o ≡ b
            → has_values (cond b (typed_call k (denotes.Item u (items.Operation o))) (typed_constant k u (unless_index has None))) ≡ true
            → faults_in (cond b
            (actuals_judged k place (formals_denoted k (actuals_of reading built k xs) (denotes.Item u (items.Operation o)))
            (actuals_of reading built k xs))
            (cond (is_empty (actuals_of reading built k xs)) []
            (element_judged k place (actuals_of reading built k xs) (ends_of_object k (denotes.Item u (items.Operation o))))))
            ≡ []
            → operation_built same_built o (actuals_for (names_of_formals o) (map (argument_of built) xs)) k.names ≡ true
        go true q v f = operation-well reading built k clear law place (moment_is_span o (actuals_of reading built k xs)) xs w o q f
        go false q v f = absurd (without-type k u has v)

    item-denoted : (has : Bool) (u : PredefinedUnit) (item : Predefined) → has_values (typed_denoted k has (denotes.Item u item)) ≡ true
        → item_clear item ≡ true
        → faults_in (denoted_judged k place (actuals_of reading built k xs) (denotes.Item u item)) ≡ []
        → item_built same_built item (map (argument_of built) xs) k.names ≡ true
    unfolding typed_denoted denotes_function typed_value type_of_constant
    item-denoted has u (items.Mark s) v c f = absurd (without-type k u has v)
    item-denoted has u (items.Constant of_type x) v c f = c
    item-denoted has u (items.Truth t) v c f = refl
    item-denoted has u (items.Exception raised) v c f = absurd (without-type k u has v)
    item-denoted has u (items.Operation o) v c f = operation-denoted has u o v f

  -- ---- entities

  abbrev typed_if_not : Bool → ℕ → Bool → Typed
  typed_if_not b e has =
      cond b (typed_call k (denotes.Entity e)) (typed_by (subtype_with_index k.names has (and_then (kind_at k.names e) (subtype_of_object k e))))

  entity-typed : (e : ℕ) (has : Bool) → has_values (typed_denoted k has (denotes.Entity e)) ≡ true → holds_of is_function_kind (kind_at k.names e) ≡ false
      → has_values (typed_by (subtype_with_index k.names has (and_then (kind_at k.names e) (subtype_of_object k e)))) ≡ true
  unfolding typed_denoted denotes_function typed_value subtype_of_entity
  entity-typed e has v n = sym (ap (λ b. has_values (typed_if_not b e has)) n) ∙ v

  alone-typed : (e : ℕ) → has_values (typed_denoted k false (denotes.Entity e)) ≡ true → holds_of is_function_kind (kind_at k.names e) ≡ false
      → has_values (typed_by (and_then (kind_at k.names e) (subtype_of_object k e))) ≡ true
  unfolding subtype_with_index
  alone-typed e v n = entity-typed e false v n

  unit-none : (has : Bool) (u : PredefinedUnit) → has_values (typed_denoted k has (denotes.Unit u)) ≡ true → ⊥
  unfolding typed_denoted denotes_function typed_value subtype_of_entity subtype_with_index
  unit-none true u v = false≢true v
  unit-none false u v = false≢true v

  alone-well : (d : Option Denoted) → DenotedWell false [] d
  alone-well None v n c i m f = absurd (false≢true v)
  alone-well (Some (denotes.Entity e)) v n c i m f = entity-alone k e (kind_at k.names e) (alone-typed e v n)
  alone-well (Some (denotes.Unit u)) v n c i m f = absurd (unit-none false u v)
  alone-well (Some (denotes.Item u item)) v n c i m f = item-denoted [] tt false u item v c f

  -- the index of an element is a value
  index-well : (a : Argument E) (rest : List (Argument E)) (t : Option AdaType) → OperandWell (reading a.value k).0 (built a.value k.names) → is_some t ≡ true
      → index_clear t ≡ true
      → faults_in (element_judged k place (actuals_of reading built k (a ∷ rest)) t) ≡ [] → built a.value k.names ≡ true
  unfolding element_judged arguments_read
  index-well a rest None w s i f = absurd (false≢true s)
  index-well a rest (Some t) w s i f = w.built (fitted-values asking.ForValue (reading a.value k).0 t (not-true _ i) (none-of _ _ f).1 w.typed)

  ends-there : (e : ℕ) → holds_of is_function_kind (kind_at k.names e) ≡ false → is_none (subtype_of_entity k (denotes.Entity e)) ≡ false
      → may_be_value k true (denotes.Entity e) ≡ true → is_some (ends_of_object k (denotes.Entity e)) ≡ true
  unfolding may_be_value index_fits is_unclear_object denotes_function
  ends-there e n s m = go _ _ _ _ _ n s m
    where
      go : (b c o s x : Bool) → b ≡ false → s ≡ false → (b || (c && ((o && s) || x))) ≡ true → x ≡ true
      go false true true false x p q h = h
      go false true false false x p q h = h
      go false false o s x p q h = absurd (false≢true h)
      go false true o true x p q h = absurd (false≢true (sym q))
      go true c o s x p q h = absurd (false≢true (sym p))

  pub element-well : (a : Argument E) (rest : List (Argument E)) (e : ℕ) → OperandWell (reading a.value k).0 (built a.value k.names)
      → is_none (subtype_of_entity k (denotes.Entity e)) ≡ false
      → holds_of is_function_kind (kind_at k.names e) ≡ false → index_clear (ends_of_object k (denotes.Entity e)) ≡ true
      → may_be_value k true (denotes.Entity e) ≡ true
      → faults_in (denoted_judged k place (actuals_of reading built k (a ∷ rest)) (denotes.Entity e)) ≡ [] → built a.value k.names ≡ true
  unfolding denoted_judged denotes_function arguments_read
  element-well a rest e w s n i m f =
      index-well a rest (ends_of_object k (denotes.Entity e)) w (ends-there e n s m) i
      (sym (ap (λ b. faults_in
      (cond b
      (actuals_judged k place (formals_denoted k (actuals_of reading built k (a ∷ rest)) (denotes.Entity e)) (actuals_of reading built k (a ∷ rest)))
      (element_judged k place (actuals_of reading built k (a ∷ rest)) (ends_of_object k (denotes.Entity e))))) n)
      ∙ f)

  entity-there : (e : ℕ) → has_values (typed_denoted k true (denotes.Entity e)) ≡ true → holds_of is_function_kind (kind_at k.names e) ≡ false
      → is_none (subtype_of_entity k (denotes.Entity e)) ≡ false
  unfolding subtype_of_entity
  entity-there e v n = subtype-there k.names (and_then (kind_at k.names e) (subtype_of_object k e)) (entity-typed e true v n)

  indexed-well : (a : Argument E) (rest : List (Argument E)) → ArgumentsWell reading clear built law (a ∷ rest) k → (d : Option Denoted)
      → DenotedWell true (a ∷ rest) d
  indexed-well a rest w None v n c i m f = absurd (false≢true v)
  indexed-well a rest w (Some (denotes.Entity e)) v n c i m f =
      ap (λ b. unwrap_or (option_map (λ x. entity_built x b) (kind_at k.names e)) false) (element-well a rest e w.0 (entity-there e v n) n i m f)
      ∙ entity-indexed k e (kind_at k.names e) (entity-typed e true v n)
  indexed-well a rest w (Some (denotes.Unit u)) v n c i m f = absurd (unit-none true u v)
  indexed-well a rest w (Some (denotes.Item u item)) v n c i m f = item-denoted (a ∷ rest) w true u item v c f

  pub denoted-well : (xs : List (Argument E)) → ArgumentsWell reading clear built law xs k → (d : Option Denoted)
      → DenotedWell (not (is_empty (actuals_of reading built k xs))) xs d
  unfolding arguments_read
  denoted-well [] w d = alone-well d
  denoted-well (a ∷ rest) w d = indexed-well a rest w d
