-- Where a sequence that reads leads: behind its last statement, or behind the action that opens its handlers.
use Rattle.std.proofs.Common.{◌≡◌, ℕ, suc, true, length, List, [], ◌∷◌, Option, Some, None, refl, sym, ap, ◌∙◌}
use Rattle.std.specs.Option.{option_flatten}
use Rattle.std.proofs.lemmas.Bool.{and_parts, false≢true, eqb-true}
use Rattle.std.proofs.lemmas.List.{length-map}
use Rattle.ada_tree.specs.declared.statements.Handler.{Handler}
use Rattle.ada_tree.specs.declared.statements.Sequence.{Sequence}
use Rattle.ada_tree.specs.declared.statements.Sequence.TheViews.{out-Sequence}
use Rattle.ada_tree.specs.declared.statements.Sequence.TheFolds.{fold_out-Sequence}
use Rattle.ada_tree.specs.declared.statements.SequenceParts.{SequenceParts}
use Rattle.ada_tree.specs.declared.statements.Statement.{Statement}
use Rattle.profile_image.specs.declared.image.Image.{Image}
use Rattle.profile_image.specs.declared.numbers.StatementNo.{StatementNo}
use Rattle.profile_image.specs.declared.statements.StatementForm.{StatementForm}
use Rattle.profile_image.specs.declared.statements.StatementForm.TheVariants as action
use Rattle.profile_image.specs.Program.{form_of, next_of}
use Rattle.ada_image.specs.declared.making.Within.{Within}
use Rattle.ada_image.specs.declared.making.SequencePlace.{SequencePlace}
use Rattle.ada_image.specs.declared.making.SequencePlace.TheVariants as sequence_place
use Rattle.ada_image.specs.ReadStatements.{Reading, same_next, statements_stand}
use Rattle.ada_image.specs.NothingLost.{Rest, SequenceReading, same_sequence_reading, sequence_reading_layer, sequence_reads, reads_on, activation_read}
use Rattle.ada_image.specs.NothingLost.{unhandled_reads, handled_form_reads, with_handlers_reads, handled_reads, skipped, behind_parts, behind_statements}
use Rattle.image_laws.proofs.Images.Layers.{mapped}

next-is : (a b : Option StatementNo) → same_next a b ≡ true → a ≡ b
next-is None None h = refl
next-is None (Some b) h = absurd (false≢true h)
next-is (Some a) None h = absurd (false≢true h)
next-is (Some a) (Some b) h = ap (λ n. Some (record { 0 = n })) (eqb-true a.0 b.0 h)

module _ (p : Image) {Q : Type 0} (sequence : Q → SequencePlace → Within → Reading) (within : Within) (part : Option ℕ) where
  statements-lead : (xs : List (Statement Q)) (from to : Option StatementNo) → statements_stand p sequence within xs from to ≡ true
      → skipped p (length xs) from ≡ to
  statements-lead [] from to h = next-is from to h
  statements-lead (x ∷ xs) None to h = absurd (false≢true h)
  statements-lead (x ∷ xs) (Some s) to h = statements-lead xs (next_of p s) to (and_parts _ _ h).1

  rest-leads : (xs : List (Statement Q)) (rest : Rest) (to : Option StatementNo)
      → reads_on (λ first. statements_stand p sequence within xs first to) rest ≡ true → skipped p (length xs) (option_flatten rest) ≡ to
  rest-leads xs None to h = absurd (false≢true h)
  rest-leads xs (Some first) to h = statements-lead xs first to h

  unhandled-leads : (s : SequenceParts Q) (from to : Option StatementNo) → unhandled_reads p sequence within part s from to ≡ true
      → skipped p (suc (length s.statements.others)) (option_flatten (activation_read p part from)) ≡ to
  unhandled-leads s from to h = rest-leads (s.statements.first ∷ s.statements.others) (activation_read p part from) to h

  form-leads : (s : SequenceParts Q) (h : StatementNo) (to : Option StatementNo) (f : StatementForm) → handled_form_reads p sequence within part s h to f ≡ true
      → same_next (next_of p h) to ≡ true
  form-leads s h to (action.Handled handlers first) e = (and_parts _ _ e).0
  form-leads s h to _ e = absurd (false≢true e)

  guarded-leads : (s : SequenceParts Q) (from to : Option StatementNo) → with_handlers_reads p sequence within part s from to ≡ true → skipped p 1 from ≡ to
  guarded-leads s None to h = absurd (false≢true h)
  guarded-leads s (Some at) to h = next-is (next_of p at) to (form-leads s at to (form_of p at) h)

module _ (p : Image) (within : Within) (part : Option ℕ) where
  abbrev with_handlers : SequenceParts Sequence → List (Handler Sequence) → SequenceParts Sequence
  with_handlers s hs = record { declarations = s.declarations; statements = s.statements; handlers = hs }

  abbrev read : SequenceParts Sequence → SequenceParts SequenceReading
  read s = mapped (sequence_reads p) s

  parts-lead : (s : SequenceParts Sequence) (hs : List (Handler Sequence)) (from to : Option StatementNo)
      → handled_reads p same_sequence_reading within part (read (with_handlers s hs)) (read (with_handlers s hs)).handlers from to ≡ true
      → behind_parts p part (with_handlers s hs) hs from ≡ to
  parts-lead s [] from to h =
      ap (λ n. skipped p (suc n) (option_flatten (activation_read p part from))) (sym (length-map s.statements.others _))
      ∙ unhandled-leads p same_sequence_reading within part (read (with_handlers s [])) from to h
  parts-lead s (h ∷ hs) from to e = guarded-leads p same_sequence_reading within part (read (with_handlers s (h ∷ hs))) from to e

  pub sequence-leads : (s : Sequence) (from to : Option StatementNo) → sequence_reads p s (sequence_place.BehindDeclarations part) within from to ≡ true
      → behind_statements p part (Some s) from ≡ to
  sequence-leads s from to h =
      parts-lead (out-Sequence s).parts (out-Sequence s).parts.handlers from to
      (sym (ap (λ (q : SequenceReading). q (sequence_place.BehindDeclarations part) within from to)
      (fold_out-Sequence SequenceReading (sequence_reading_layer p) s))
      ∙ h)
