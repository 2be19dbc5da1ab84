-- The calls of predefined procedures are built, where no rule is broken.
use Rattle.std.proofs.Common.{◌≡◌, ℕ, suc, Bool, true, false, cond, not, List, [], ◌∷◌, ◌++◌}
use Rattle.std.proofs.Common.{Option, Some, None, option_map, is_some, refl, sym, ap, subst, ◌∙◌}
use Rattle.std.specs.Prelude.{unwrap_or, codes}
use Rattle.std.proofs.lemmas.Bool.{and_from, and_parts, false≢true}
use Rattle.ann_base.specs.declared.places.Place.{Place}
use Rattle.ada_tree.specs.declared.expressions.Expression.{Expression}
use Rattle.ada_tree.specs.declared.expressions.Argument.{Argument}
use Rattle.ada_regions.specs.declared.entities.Denoted.{Denoted}
use Rattle.ada_regions.specs.declared.entities.Denoted.TheVariants as denotes
use Rattle.ada_regions.specs.declared.predefined.Operation.{Operation}
use Rattle.ada_regions.specs.declared.predefined.Operation.TheVariants as operations
use Rattle.ada_regions.specs.declared.predefined.Predefined.{Predefined}
use Rattle.ada_regions.specs.declared.predefined.Predefined.TheVariants as items
use Rattle.ada_regions.specs.declared.predefined.PredefinedUnit.{PredefinedUnit}
use Rattle.ada_regions.specs.declared.types.AdaType.TheVariants as types
use Rattle.ada_regions.specs.Names.{denoted_by}
use Rattle.ada_regions.specs.PredefinedUnits.{names_of_formals}
use Rattle.ada_image.specs.TypesOfExpressions.{type_of_operation}
use Rattle.ada_image.specs.ImageOfExpressions.{actuals_for, argument_from, arguments_from, is_for}
use Rattle.ada_image.specs.ImageOfProcedures.{moment_of}
use Rattle.ada_image.specs.BuiltStatements.{denoted_call_built, item_call_built, procedure_built, text_built, value_there}
use Rattle.ada_legality.specs.declared.parts.FormalPart.{FormalPart}
use Rattle.ada_legality.specs.declared.reading.Read.{Read}
use Rattle.ada_legality.specs.declared.rules.Rule.TheVariants as rule
use Rattle.ada_legality.specs.declared.standing.Known.{Known}
use Rattle.ada_legality.specs.Calls.{actual_from, formal_names, formals_denoted, formals_of_item, formals_of_operation}
use Rattle.ada_legality.specs.Calls.{moment_is_span, named_parts, parts_of_operation, stray_actuals, wrong_actuals}
use Rattle.ada_legality.specs.CallStatements.{call_found, call_judged, line_if_put, line_judged}
use Rattle.ada_legality.specs.Faults.{faults_in}
use Rattle.ada_legality.specs.Findings.{broken_unless}
use Rattle.ada_legality.specs.Places.{place_of}
use Rattle.ada_legality.specs.Reading.{actuals_judged, actuals_numbered, literal_in, other_pointed_literal}
use Rattle.ada_legality.specs.ReadExpressions.{arguments_read, read_expression}
use Rattle.ada_legality.specs.Types.{is_pointed}
use Rattle.ada_legality.specs.Values.{denotes_procedure}
use Rattle.image_laws.specs.Clear.{arguments_clear, expression_clear}
use Rattle.image_laws.specs.Laws.{ReadProceduresBuilt, is_predefined}
use Rattle.image_laws.proofs.Forms.Nothing.{none-of, if-none, unless-none}
use Rattle.image_laws.proofs.Forms.Operators.{Some-same}
use Rattle.image_laws.proofs.Forms.Calls.{Sounds, actuals_of, found-from, read_of, sounds}
use Rattle.image_laws.proofs.Forms.Formals.{all-fit, value-fits, value-if-fits, variable-fits}
use Rattle.image_laws.proofs.Forms.Moments.{moment-built, span-built}
use Rattle.image_laws.proofs.Forms.Texts.{text-well}

module _ (k : Known) where
  -- ---- each argument is read without a fault

  record Heard (e : Expression) : Type 0 where
    pub found : faults_in (read_expression e k).1 ≡ []
    pub clear : expression_clear e k ≡ true

  heard : (number : ℕ) (name : List ℕ) (at : ℕ) (xs : List (Argument Expression)) → faults_in (arguments_read read_expression xs k).1 ≡ []
      → arguments_clear expression_clear xs k ≡ true
      → (e : Expression) → argument_from number name at xs ≡ Some e → Heard e
  unfolding argument_from arguments_read
  heard number name at [] f c e q = absurd cc
  heard number name at (a ∷ rest) f c e q =
      let p = none-of _ _ f in
      let parts = and_parts _ _ c in
      go (is_for number name at a.formal) (record { found = p.0; clear = parts.0 }) (heard number name (suc at) rest (none-of _ _ p.1).1 parts.1 e) q
    where
      go : (b : Bool) → Heard a.value → (argument_from number name (suc at) rest ≡ Some e → Heard e)
          → cond b (Some a.value) (argument_from number name (suc at) rest) ≡ Some e → Heard e
      go true here later h = subst Heard (Some-same h) here
      go false here later h = later h

  -- ---- Put_Line

  line-there : (place : Place) (r : Read) → faults_in (line_judged place (Some r)) ≡ [] → is_some r.line ≡ true
  unfolding line_judged
  line-there place r f = go (is_pointed r.typed) f
    where
      go : (b : Bool) → faults_in (cond b (other_pointed_literal (literal_in r)) (broken_unless rule.PutLineForm (is_some r.line) place)) ≡ []
          → is_some r.line ≡ true
      go true f = absurd (false≢true (sym (if-none rule.DurationLiteral true (literal_in r).number_place f)))
      go false f = unless-none _ _ place f

module _ (k : Known) (place : Place) (xs : List (Argument Expression)) (a : arguments_clear expression_clear xs k ≡ true)
    (f : faults_in (arguments_read read_expression xs k).1 ≡ []) where
  abbrev well : Sounds k xs
  well = sounds k xs f a

  abbrev Judged : List FormalPart → Type 0
  Judged formals = faults_in (actuals_judged k place formals (actuals_of k xs)) ≡ []

  abbrev formals : Operation → Bool → List FormalPart
  formals o is_span = formals_of_operation o is_span

  line-well : faults_in (line_judged place (actual_from 0 (codes "item") 0 (actuals_of k xs))) ≡ [] → is_some (argument_from 0 (codes "item") 0 xs) ≡ true
      → text_built (argument_from 0 (codes "item") 0 xs) k.names ≡ true
  line-well l there = go (argument_from 0 (codes "item") 0 xs) refl
    where
      go : (e : Option Expression) → argument_from 0 (codes "item") 0 xs ≡ e → text_built e k.names ≡ true
      go None q = absurd (false≢true (sym (ap is_some q) ∙ there))
      go (Some e) q =
          let h = heard k 0 (codes "item") 0 xs f a e q in
          text-well e k h.found h.clear
          (line-there k place (read_of k e)
          (sym (ap (λ r. faults_in (line_judged place r)) (found-from k 0 (codes "item") 0 xs ∙ ap (option_map (read_of k)) q)) ∙ l))

  -- ---- Set_Handler

  no-strays : (whole : List FormalPart) → Judged whole → faults_in (stray_actuals whole (actuals_of k xs) 0 (actuals_of k xs)) ≡ []
  unfolding actuals_judged actuals_numbered wrong_actuals
  no-strays whole g =
      let p = none-of _ _ g in
      let q = none-of _ _ p.0 in
      (none-of _ _ q.0).1

  event-moment : (is_span : Bool) → Judged (formals operations.SetEvent is_span) → value_there (moment_of xs) k.names ≡ true
  unfolding formals_of_operation named_parts formal_names parts_of_operation
  event-moment true g =
      span-built k (formals operations.SetEvent true) refl xs (no-strays (formals operations.SetEvent true) g)
      (value-fits k xs well 1 (codes "in_time") types.TimeSpan false refl refl (all-fit k xs well place (formals operations.SetEvent true) refl g).1.0)
  event-moment false g =
      moment-built xs k.names
      (value-fits k xs well 1 (codes "at_time") types.Time false refl refl (all-fit k xs well place (formals operations.SetEvent false) refl g).1.0)

  timer-moment : (is_span : Bool) → Judged (formals operations.SetTimer is_span) → value_there (moment_of xs) k.names ≡ true
  unfolding formals_of_operation named_parts formal_names parts_of_operation
  timer-moment true g =
      span-built k (formals operations.SetTimer true) refl xs (no-strays (formals operations.SetTimer true) g)
      (value-fits k xs well 1 (codes "in_time") types.TimeSpan false refl refl (all-fit k xs well place (formals operations.SetTimer true) refl g).1.0)
  timer-moment false g =
      moment-built xs k.names
      (value-fits k xs well 1 (codes "at_time") types.CpuTime false refl refl (all-fit k xs well place (formals operations.SetTimer false) refl g).1.0)

  -- ---- all procedures

  procedure-well : (u : PredefinedUnit) (o : Operation) (is_span : Bool) → not (is_some (type_of_operation o)) ≡ true
      → faults_in (line_if_put place (actuals_of k xs) (denotes.Item u (items.Operation o))) ≡ [] → Judged (formals o is_span)
      → procedure_built o xs (actuals_for (names_of_formals o) xs) k.names ≡ true
  unfolding actuals_for arguments_from formals_of_operation named_parts formal_names parts_of_operation
  procedure-well u operations.PutLine s m l g = line-well l ((all-fit k xs well place (formals operations.PutLine s) refl g).0.there refl)
  procedure-well u operations.SetEvent s m l g = event-moment s g
  procedure-well u operations.SetTimer s m l g = timer-moment s g
  procedure-well u operations.CancelEvent s m l g =
      variable-fits k xs well 1 (codes "cancelled") types.Boolean false refl (all-fit k xs well place (formals operations.CancelEvent s) refl g).1.0
  procedure-well u operations.CancelTimer s m l g =
      variable-fits k xs well 1 (codes "cancelled") types.Boolean false refl (all-fit k xs well place (formals operations.CancelTimer s) refl g).1.0
  procedure-well u operations.CancelBudget s m l g =
      variable-fits k xs well 1 (codes "cancelled") types.Boolean false refl (all-fit k xs well place (formals operations.CancelBudget s) refl g).1.0
  procedure-well u operations.AddTask s m l g =
      value-fits k xs well 1 (codes "t") types.TaskId false refl refl (all-fit k xs well place (formals operations.AddTask s) refl g).1.0
  procedure-well u operations.RemoveTask s m l g =
      value-fits k xs well 1 (codes "t") types.TaskId false refl refl (all-fit k xs well place (formals operations.RemoveTask s) refl g).1.0
  procedure-well u operations.Replenish s m l g =
      value-fits k xs well 1 (codes "to") types.TimeSpan false refl refl (all-fit k xs well place (formals operations.Replenish s) refl g).1.0
  procedure-well u operations.Add s m l g =
      value-fits k xs well 1 (codes "interval") types.TimeSpan false refl refl (all-fit k xs well place (formals operations.Add s) refl g).1.0
  procedure-well u operations.SetBudget s m l g = refl
  procedure-well u operations.SetPriority s m l g =
      let w = all-fit k xs well place (formals operations.SetPriority s) refl g in
      and_from _ _ (value-fits k xs well 0 (codes "priority") types.Integer false refl refl w.0)
      (value-if-fits k xs well 1 (codes "t") types.TaskId true refl w.1.0)
  procedure-well u operations.SetDeadline s m l g =
      let w = all-fit k xs well place (formals operations.SetDeadline s) refl g in
      and_from _ _ (value-fits k xs well 0 (codes "d") types.Time false refl refl w.0) (value-if-fits k xs well 1 (codes "t") types.TaskId true refl w.1.0)
  procedure-well u operations.SetQuantum s m l g =
      let w = all-fit k xs well place (formals operations.SetQuantum s) refl g in
      and_from _ _ (value-fits k xs well 0 (codes "pri") types.Integer false refl refl w.0)
      (value-fits k xs well 1 (codes "quantum") types.TimeSpan false refl refl w.1.0)
  procedure-well u operations.DelayUntilAndSetDeadline s m l g =
      let w = all-fit k xs well place (formals operations.DelayUntilAndSetDeadline s) refl g in
      and_from _ _ (value-fits k xs well 0 (codes "delay_until_time") types.Time false refl refl w.0)
      (value-fits k xs well 1 (codes "deadline_offset") types.TimeSpan false refl refl w.1.0)
  procedure-well u _ s m l g = absurd cc

  item-called : (u : PredefinedUnit) (item : Predefined) → denotes_procedure k (denotes.Item u item) ≡ true
      → faults_in (line_if_put place (actuals_of k xs) (denotes.Item u item)
      ++ actuals_judged k place (formals_denoted k (actuals_of k xs) (denotes.Item u item)) (actuals_of k xs))
      ≡ []
      → item_call_built item xs k.names ≡ true
  unfolding denotes_procedure formals_denoted formals_of_item
  item-called u (items.Operation o) m g = let p = none-of _ _ g in procedure-well u o (moment_is_span o (actuals_of k xs)) m p.0 p.1
  item-called u _ m g = absurd (false≢true m)

  denoted-called : (d : Option Denoted) → is_predefined d ≡ true → unwrap_or (option_map (denotes_procedure k) d) false ≡ true
      → faults_in (unwrap_or (option_map (call_judged k place (actuals_of k xs)) d) []) ≡ []
      → denoted_call_built xs d k.names ≡ true
  unfolding call_judged
  denoted-called (Some (denotes.Item u item)) c m g =
      item-called u item m
      (sym (ap (λ b. faults_in
      (cond b (line_if_put place (actuals_of k xs) (denotes.Item u item)
      ++ actuals_judged k place (formals_denoted k (actuals_of k xs) (denotes.Item u item)) (actuals_of k xs)) [])) m)
      ∙ g)
  denoted-called _ c m g = absurd (false≢true c)

pub read_procedures_built : ReadProceduresBuilt
unfolding call_found
read_procedures_built k c is clear f =
    let p = none-of _ _ f in
    let q = none-of _ _ p.1 in
    denoted-called k (place_of c.name) c.arguments clear q.0 (denoted_by k.names c.name) is (unless-none _ _ _ p.0) q.1
