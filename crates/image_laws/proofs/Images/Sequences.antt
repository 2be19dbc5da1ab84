-- Each sequence that is built reads as its text, by induction over the tree.
use Rattle.std.proofs.Common.{◌≡◌, ℕ, Bool, true, List, [], ◌∷◌, map, Option, Some, None, sym, ap, subst, ◌∙◌}
use Rattle.std.specs.Bool.{then_some}
use Rattle.std.proofs.lemmas.Bool.{and_from, and_parts}
use Rattle.ada_tree.specs.declared.statements.Handler.{Handler}
use Rattle.ada_tree.specs.declared.statements.Sequence.{Sequence}
use Rattle.ada_tree.specs.declared.statements.Sequence.TheOpen.{Sequence-F}
use Rattle.ada_tree.specs.declared.statements.Sequence.TheViews.{roll-Sequence}
use Rattle.ada_tree.specs.declared.statements.Sequence.TheFolds.{ind-Sequence, map-Sequence, fold-roll-Sequence}
use Rattle.ada_tree.specs.declared.statements.SequenceParts.{SequenceParts}
use Rattle.profile_image.specs.declared.image.Image.{Image}
use Rattle.profile_image.specs.declared.numbers.StatementNo.{StatementNo}
use Rattle.profile_image.specs.declared.declarations.Handler.{Handler as ExceptionHandler}
use Rattle.profile_image.specs.declared.statements.StatementForm.TheVariants as action
use Rattle.ada_image.specs.declared.making.Within.{Within}
use Rattle.ada_image.specs.declared.making.SequencePlace.{SequencePlace}
use Rattle.ada_image.specs.declared.making.SequencePlace.TheVariants as sequence_place
use Rattle.ada_image.specs.Making.{◌>>=◌, ◌>>◌, pure, the_action, in_construct}
use Rattle.ada_image.specs.ImageOfStatements.{SequenceMaking, statements_put, handlers_put}
use Rattle.ada_image.specs.ImageOfDeclarations.{same_making, sequence_put, making_layer, declarations_put, make_tasks, activation_put, end_of_activation_put}
use Rattle.ada_image.specs.ImageOfDeclarations.{inner_bodies_put, unhandled_put, with_handlers_put, handled_put, whole_put, parts_put}
use Rattle.ada_image.specs.ReadStatements.{same_next, statements_stand, handlers_stand}
use Rattle.ada_image.specs.NothingLost.{SequenceReading, same_sequence_reading, sequence_reading_layer, sequence_reads}
use Rattle.ada_image.specs.NothingLost.{and_behind, reads_on, is_end_of_activation, action_if, unhandled_reads}
use Rattle.ada_image.specs.NothingLost.{handled_form_reads, with_handlers_reads, handled_reads, whole_reads, parts_read}
use Rattle.ada_image.specs.BuiltExpressions.{Built}
use Rattle.ada_image.specs.BuiltSequences.{statements_built, handlers_built, parts_built, same_sequence_built, sequence_built_layer, sequence_built}
use Rattle.image_laws.proofs.Images.Steps.{Step, step-so, step-then, step-pure, Filled, filled-step}
use Rattle.image_laws.proofs.Images.Actuals.{same-next}
use Rattle.image_laws.proofs.Images.Layers.{mapped, mapped_declaration, Ends, Begins, SequenceLaw}
use Rattle.image_laws.proofs.Images.Statements.{handlers-step}
use Rattle.image_laws.proofs.Images.AllStatements.{all-step}
use Rattle.image_laws.proofs.Images.Declarations.{declarations-step, tasks-same, activation-step, end-step}
use Rattle.image_laws.proofs.Images.Bodies.{layer-inners}

first-is : (x : Option StatementNo) (s : StatementNo) → x ≡ Some s → x ≡ Some (the_action x)
first-is x s e = e ∙ ap (λ y. Some (the_action y)) (sym e)

-- one layer, whose sequences are those that g gives
module _ {E : Type 0} (g : E → Sequence) (law : (e : E) → SequenceLaw (sequence_put (g e)) (λ p. sequence_reads p (g e)) (sequence_built (g e))) where
  abbrev made : SequenceParts E → SequenceParts SequenceMaking
  made s = mapped sequence_put (mapped g s)

  abbrev read : Image → SequenceParts E → SequenceParts SequenceReading
  read p s = mapped (sequence_reads p) (mapped g s)

  abbrev built : SequenceParts E → SequenceParts Built
  built s = mapped sequence_built (mapped g s)

  abbrev StatementsBuilt : SequenceParts E → Within → Type 0
  StatementsBuilt s within = statements_built same_sequence_built ((built s).statements.first ∷ (built s).statements.others) within.names ≡ true

  -- ---- the activation stands before the statements

  abbrev Unhandled : Within → Option ℕ → SequenceParts E → Option StatementNo → Image → Option StatementNo → Type 0
  Unhandled within part s next p x = ((t : StatementNo) × (x ≡ Some t)) × (unhandled_reads p same_sequence_reading within part (read p s) x next ≡ true)

  unhandled-step : (s : SequenceParts E) (part : Option ℕ) (next : Option StatementNo) (within : Within) → StatementsBuilt s within
      → Step (unhandled_put same_making within part (made s) next) (Unhandled within part s next)
  unfolding unhandled_put
  unhandled-step s part next within b =
      step-then (statements_put same_making within ((made s).statements.first ∷ (made s).statements.others) next) (λ first. activation_put part first)
      (all-step g law s.statements.first s.statements.others next within b)
      (λ first. step-so (λ p x h k. (
        h.1 k.0.0 k.0.1,
        ap (reads_on (λ y. statements_stand p same_sequence_reading within ((read p s).statements.first ∷ (read p s).statements.others) y next)) h.0 ∙ k.1,
      )) (activation-step part first))

  -- ---- the statements stand inside the handlers

  abbrev Guarded : Within → Option ℕ → SequenceParts E → Option StatementNo → StatementNo → Image → Option StatementNo × List ExceptionHandler → Type 0
  Guarded within part s next h p x =
      Unhandled (in_construct h within) part s None p x.0 × (handlers_stand p same_sequence_reading within (read p s).handlers next x.1 ≡ true)

  guarded-step : (s : SequenceParts E) (part : Option ℕ) (next : Option StatementNo) (within : Within) → StatementsBuilt s within
      → handlers_built same_sequence_built (built s).handlers within.names ≡ true
      → Step (with_handlers_put same_making within part (made s) next)
      (Filled (λ h (x : Option StatementNo × List ExceptionHandler). action.Handled x.1 (the_action x.0)) next (Guarded within part s next))
  unfolding with_handlers_put
  guarded-step s part next within b c =
      filled-step (λ h. unhandled_put same_making (in_construct h within) part (made s) None
      >>= (λ first. handlers_put same_making within (made s).handlers next >>= (λ handlers. pure (first, handlers))))
      (λ h (x : Option StatementNo × List ExceptionHandler). action.Handled x.1 (the_action x.0)) 0 next (Guarded within part s next)
      (λ h. step-then (unhandled_put same_making (in_construct h within) part (made s) None)
      (λ first. handlers_put same_making within (made s).handlers next >>= (λ handlers. pure (first, handlers)))
      (unhandled-step s part None (in_construct h within) b)
      (λ first.
      step-then (handlers_put same_making within (made s).handlers next) (λ handlers. pure (first, handlers)) (handlers-step g law s.handlers next within c)
      (λ handlers. step-pure (first, handlers) _ (λ p k l. (l, k)))))

  guarded-reads : (s : SequenceParts E) (part : Option ℕ) (next : Option StatementNo) (within : Within) (p : Image) (x : Option StatementNo)
      → Filled (λ h (x : Option StatementNo × List ExceptionHandler). action.Handled x.1 (the_action x.0)) next (Guarded within part s next) p x
      → with_handlers_reads p same_sequence_reading within part (read p s) x next ≡ true
  guarded-reads s part next within p x h =
      ap (λ y. with_handlers_reads p same_sequence_reading within part (read p s) y next) h.is
      ∙ ap (handled_form_reads p same_sequence_reading within part (read p s) h.at next) h.stands.form
      ∙ and_from _ _ (ap (λ n. same_next n next) h.stands.next ∙ same-next next)
      (and_from _ _
      (ap (λ y. unhandled_reads p same_sequence_reading (in_construct h.at within) part (read p s) y None)
      (sym (first-is h.made.0 h.reads.0.0.0 h.reads.0.0.1))
      ∙ h.reads.0.1) h.reads.1)

  abbrev with_handlers : SequenceParts E → List (Handler E) → SequenceParts E
  with_handlers s hs = record { declarations = s.declarations; statements = s.statements; handlers = hs }

  handled-step : (s : SequenceParts E) (hs : List (Handler E)) (part : Option ℕ) (next : Option StatementNo) (within : Within) → StatementsBuilt s within
      → handlers_built same_sequence_built (built (with_handlers s hs)).handlers within.names ≡ true
      → Step (handled_put same_making within part (made (with_handlers s hs)) (made (with_handlers s hs)).handlers next)
      (λ p x. handled_reads p same_sequence_reading within part (read p (with_handlers s hs)) (read p (with_handlers s hs)).handlers x next ≡ true)
  unfolding handled_put
  handled-step s [] part next within b c = step-so (λ p x h. h.1) (unhandled-step (with_handlers s []) part next within b)
  handled-step s (h ∷ hs) part next within b c =
      step-so (λ p x k. guarded-reads (with_handlers s (h ∷ hs)) part next within p x k) (guarded-step (with_handlers s (h ∷ hs)) part next within b c)

  -- ---- all of a body

  part-same : (s : SequenceParts E) (within : Within) (p : Image) → make_tasks within (read p s).declarations ≡ make_tasks within (made s).declarations
  part-same s within p = tasks-same (sequence_reads p) sequence_put within (map (mapped_declaration g) s.declarations)

  whole-step : (s : SequenceParts E) (is_task_body : Bool) (within : Within) → parts_built same_sequence_built (built s) within.names ≡ true
      → Step (whole_put same_making within is_task_body (made s)) (λ p x. whole_reads p same_sequence_reading within is_task_body (read p s) x None ≡ true)
  unfolding whole_put
  whole-step s is_task_body within b =
      let parts = and_parts _ _ b in let more = and_parts _ _ parts.1 in
      let part = then_some (make_tasks within (made s).declarations) 0 in
      step-then (inner_bodies_put same_making within (made s).declarations)
      (λ u. handled_put same_making within part (made s) (made s).handlers None
      >>= (λ first. end_of_activation_put is_task_body first >>= (λ ended. declarations_put within 0 (made s).declarations ended)))
      (layer-inners g law s.declarations within parts.0)
      (λ u. step-then (handled_put same_making within part (made s) (made s).handlers None)
      (λ first. end_of_activation_put is_task_body first >>= (λ ended. declarations_put within 0 (made s).declarations ended))
      (handled-step s s.handlers part None within more.0 more.1)
      (λ first.
      step-then (end_of_activation_put is_task_body first) (λ ended. declarations_put within 0 (made s).declarations ended) (end-step is_task_body first)
      (λ ended. step-so (λ p x h k l i. and_from _ _ i
      (ap (λ z. reads_on
      (λ rest.
      handled_reads p same_sequence_reading within (then_some (make_tasks within (read p s).declarations) 0) (read p s) (read p s).handlers rest None)
      (and_behind z (action_if p is_task_body is_end_of_activation))) h
      ∙ ap (reads_on
      (λ rest.
      handled_reads p same_sequence_reading within (then_some (make_tasks within (read p s).declarations) 0) (read p s) (read p s).handlers rest None)) k
      ∙ ap (λ t. handled_reads p same_sequence_reading within (then_some t 0) (read p s) (read p s).handlers first None) (part-same s within p) ∙ l))
      (declarations-step sequence_put (λ p. sequence_reads p) sequence_built 0 (map (mapped_declaration g) s.declarations) ended within parts.0))))

  whole-to : (s : SequenceParts E) (is_task_body : Bool) (within : Within) (next : Option StatementNo) → next ≡ None
      → parts_built same_sequence_built (built s) within.names ≡ true
      → Step (whole_put same_making within is_task_body (made s))
      (λ p x. Unit {0} × (whole_reads p same_sequence_reading within is_task_body (read p s) x next ≡ true))
  whole-to s is_task_body within next ends b =
      subst (λ n. Step (whole_put same_making within is_task_body (made s))
      (λ p x. Unit {0} × (whole_reads p same_sequence_reading within is_task_body (read p s) x n ≡ true)))
      (sym ends)
      (step-so (λ p x h. (tt, h)) (whole-step s is_task_body within b))

  parts-at : (s : SequenceParts E) (place : SequencePlace) (within : Within) (next : Option StatementNo) → Ends place next
      → parts_built same_sequence_built (built s) within.names ≡ true
      → Step (parts_put same_making (made s) place within next)
      (λ p r. Begins place r × (parts_read p same_sequence_reading (read p s) place within r next ≡ true))
  unfolding parts_put
  parts-at s sequence_place.StatementsAlone within next ends b =
      all-step g law s.statements.first s.statements.others next within (and_parts _ _ (and_parts _ _ b).1).0
  parts-at s (sequence_place.BehindDeclarations part) within next ends b =
      let more = and_parts _ _ (and_parts _ _ b).1 in step-so (λ p x h. (tt, h)) (handled-step s s.handlers part next within more.0 more.1)
  parts-at s (sequence_place.AsBody is_task_body) within next ends b = whole-to s is_task_body within next ends b

  pub parts-law : (s : SequenceParts E)
      → SequenceLaw (parts_put same_making (made s)) (λ p. parts_read p same_sequence_reading (read p s)) (parts_built same_sequence_built (built s))
  parts-law s = record { reads = parts-at s }

-- ---- sequences

abbrev pub Lawful : Sequence → Type 0
Lawful s = SequenceLaw (sequence_put s) (λ p. sequence_reads p s) (sequence_built s)

law-of_reading : {make : SequenceMaking} {r t : Image → SequenceReading} {built : Built} → ((p : Image) → r p ≡ t p) → SequenceLaw make r built
    → SequenceLaw make t built
law-of_reading same law = record {
  reads =
      λ place within next ends b.
      step-so (λ p x h. (h.0, ap (λ (q : SequenceReading). q place within x next) (sym (same p)) ∙ h.1)) (law.reads place within next ends b);
}

module _ (y : Sequence-F ((s : Sequence) × Lawful s)) where
  abbrev g : (s : Sequence) × Lawful s → Sequence
  g e = e.0

  abbrev opened : Sequence-F Sequence
  opened = map-Sequence ((s : Sequence) × Lawful s) Sequence g y

  rolled-law : Lawful (roll-Sequence opened)
  rolled-law =
      subst (λ make. SequenceLaw make (λ p. sequence_reads p (roll-Sequence opened)) (sequence_built (roll-Sequence opened)))
      (sym (fold-roll-Sequence SequenceMaking making_layer opened))
      (subst (λ built. SequenceLaw (parts_put same_making (mapped sequence_put (mapped g y.parts))) (λ p. sequence_reads p (roll-Sequence opened)) built)
      (sym (fold-roll-Sequence Built sequence_built_layer opened))
      (law-of_reading (λ p. sym (fold-roll-Sequence SequenceReading (sequence_reading_layer p) opened)) (parts-law g (λ e. e.1) y.parts)))

pub sequence-law : (s : Sequence) → Lawful s
sequence-law = ind-Sequence Lawful (λ x y is. subst (λ z. Lawful (roll-Sequence z)) is (rolled-law y))
