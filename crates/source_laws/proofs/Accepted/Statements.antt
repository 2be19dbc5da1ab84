-- The scopes of a statement are those of places at which no more of them stand than the text numbers, and than tokens, where that
-- holds of the sequences in it.
use Rattle.std.proofs.Common.{◌≡◌, ℕ, ◌≤◌, Bool, true, false, List, [], ◌∷◌, Option, Some, None, refl, arith}
use Rattle.std.specs.Prelude.{codes}
use Rattle.std.specs.List.{flat_map, list_all}
use Rattle.ann_base.specs.declared.places.Place.{Place}
use Rattle.ada_tree.specs.declared.names.Identifier.{Identifier}
use Rattle.ada_tree.specs.declared.statements.SequenceRole.TheVariants as role
use Rattle.ada_tree.specs.declared.statements.Sequence.{Sequence}
use Rattle.ada_tree.specs.declared.statements.Statement.{Statement}
use Rattle.ada_tree.specs.declared.statements.Statement.TheVariants as statement
use Rattle.ada_tree.specs.declared.statements.If.{If}
use Rattle.ada_tree.specs.declared.statements.Elsif.{Elsif}
use Rattle.ada_tree.specs.declared.statements.Case.{Case}
use Rattle.ada_tree.specs.declared.statements.CaseAlternative.{CaseAlternative}
use Rattle.ada_tree.specs.declared.statements.Loop.{Loop}
use Rattle.ada_tree.specs.declared.statements.Block.{Block}
use Rattle.ada_tree.specs.declared.statements.Handler.{Handler}
use Rattle.ada_tree.specs.declared.statements.Accept.{Accept}
use Rattle.ada_tree.specs.declared.statements.AcceptBody.{AcceptBody}
use Rattle.ada_tree.specs.declared.selects.SelectForm.{SelectForm}
use Rattle.ada_tree.specs.declared.selects.SelectForm.TheVariants as select
use Rattle.ada_tree.specs.declared.selects.SelectAlternative.{SelectAlternative}
use Rattle.ada_tree.specs.declared.selects.Alternative.{Alternative}
use Rattle.ada_tree.specs.declared.selects.Alternative.TheVariants as alternative
use Rattle.ada_tree.specs.Written.{word, behind, optional}
use Rattle.ada_tree.specs.SpellingStatements.{call_written, delay_written, trigger_written, statements_written, elsif_written, else_written}
use Rattle.ada_tree.specs.SpellingStatements.{case_alternative_written, block_opened, handler_written, accept_body_written, accept_written}
use Rattle.ada_tree.specs.SpellingStatements.{alternative_written, select_alternative_written, select_form_written, statement_written}
use Rattle.ada_tree.specs.Spelling.{sequence_written}
use Rattle.ada_tree.specs.ShapeExpressions.{optional_fits}
use Rattle.ada_tree.specs.ShapeStatements.{statements_fit, elsif_fits, if_fits, case_alternative_fits, case_fits, loop_fits, block_role, block_fits}
use Rattle.ada_tree.specs.ShapeStatements.{accept_body_fits, accept_fits, accept_opens, alternative_fits, select_alternative_fits, select_form_fits, parts_fit}
use Rattle.ada_tree.specs.Shape.{sequence_fits}
use Rattle.ada_regions.specs.declared.table.Names.{Names}
use Rattle.ada_regions.specs.Occurrences.{an_accept, a_block, mentions_simply, if_there, within_region, in_body}
use Rattle.ada_regions.specs.NamesInStatements.{names_in_call, names_in_delay, names_in_trigger, label_name, names_in_statements, names_in_elsif}
use Rattle.ada_regions.specs.NamesInStatements.{names_in_case_alternative, names_in_handler, names_in_accept_body, names_in_accept}
use Rattle.ada_regions.specs.NamesInStatements.{names_in_alternative, names_in_select_alternative, names_in_select, names_in_statement}
use Rattle.ada_regions.specs.NamesInUnits.{names_in_sequence}
use Rattle.ada_image.specs.declared.making.SequencePlace.TheVariants as sequence_place
use Rattle.image_laws.specs.ScopesOfText.{inside_scopes, scopes_if, body_scopes, elsif_scopes, case_scopes, accept_body_scopes, accept_scopes}
use Rattle.image_laws.specs.ScopesOfText.{alternative_scopes, alternatives_scopes, select_scopes, statement_scopes, sequence_scopes}
use Rattle.grammar_laws.proofs.Reading.Exact.{first_true, second_true}
use Rattle.source_laws.proofs.Sources.Statements.{opened}
use Rattle.source_laws.proofs.Accepted.Counting.{Begins, begins-none, begins-both, begins-turned, begins-skip, begins-past}
use Rattle.source_laws.proofs.Accepted.Counting.{begins-front, begins-quiet, begins-behind, begins-region, begins-scope}

-- statements, those behind declarations, and all of a body or block, where so many levels are left
pub record SequencesBegin (n : Names) (left : ℕ) : Type 0 where
  pub statements : (q : Sequence) → sequence_fits q role.Statements left ≡ true
      → Begins n (sequence_scopes q sequence_place.StatementsAlone n) (names_in_statements names_in_sequence q) (sequence_written q role.Statements)
  pub handled : (q : Sequence) → sequence_fits q role.Handled left ≡ true
      → Begins n (sequence_scopes q (sequence_place.BehindDeclarations None) n) (names_in_statements names_in_sequence q) (sequence_written q role.Handled)
  pub bare : (q : Sequence) (is_task_body : Bool) → sequence_fits q role.Handled left ≡ true
      → Begins n (sequence_scopes q (sequence_place.AsBody is_task_body) n) (in_body (names_in_sequence q)) (sequence_written q role.Handled)
  pub body : (q : Sequence) (is_task_body : Bool) → sequence_fits q role.Body left ≡ true
      → Begins n (sequence_scopes q (sequence_place.AsBody is_task_body) n) (in_body (names_in_sequence q)) (sequence_written q role.Body)

pub begins-handler : {n : Names} (h : Handler Sequence)
    → Begins n (inside_scopes sequence_scopes h.statements n) (names_in_statements names_in_sequence h.statements)
    (statements_written sequence_written h.statements)
    → Begins n (inside_scopes sequence_scopes h.statements n) (names_in_handler names_in_sequence h) (handler_written sequence_written h)
begins-handler h inside = begins-skip _ (begins-past _ (begins-skip _ (begins-behind _ inside)))

module _ (n : Names) (left : ℕ) (all : (m : ℕ) → m ≤ left → SequencesBegin n m) where
  here : SequencesBegin n left
  here = all left (omega arith)

  begins-statements : (q : Sequence) → statements_fit sequence_fits left q ≡ true
      → Begins n (inside_scopes sequence_scopes q n) (names_in_statements names_in_sequence q) (statements_written sequence_written q)
  begins-statements q e = here.statements q e

  begins-then : (o : Option Sequence) → optional_fits (statements_fit sequence_fits left) o ≡ true
      → Begins n (scopes_if sequence_scopes o n) (if_there (names_in_statements names_in_sequence) o) (optional (statements_written sequence_written) o)
  begins-then None e = begins-none _ _
  begins-then (Some q) e = begins-statements q e

  begins-otherwise : (o : Option Sequence) → optional_fits (statements_fit sequence_fits left) o ≡ true
      → Begins n (scopes_if sequence_scopes o n) (if_there (names_in_statements names_in_sequence) o) (optional (else_written sequence_written) o)
  begins-otherwise None e = begins-none _ _
  begins-otherwise (Some q) e = begins-skip _ (begins-statements q e)

  -- ---- if, case, loops, blocks

  begins-elsif : (e : Elsif Sequence) → elsif_fits sequence_fits left e ≡ true
      → Begins n (inside_scopes sequence_scopes e.statements n) (names_in_elsif names_in_sequence e) (elsif_written sequence_written e)
  begins-elsif e fits = begins-skip _ (begins-past _ (begins-skip _ (begins-behind _ (begins-statements e.statements (second_true _ _ fits)))))

  begins-elsifs : (es : List (Elsif Sequence)) → list_all (elsif_fits sequence_fits left) es ≡ true
      → Begins n (elsif_scopes sequence_scopes es n) (flat_map (names_in_elsif names_in_sequence) es) (flat_map (elsif_written sequence_written) es)
  begins-elsifs [] fits = begins-none _ _
  begins-elsifs (e ∷ es) fits = begins-both (begins-elsif e (first_true _ _ fits)) (begins-elsifs es (second_true _ _ fits))

  begins-if : (i : If Sequence) → if_fits sequence_fits left i ≡ true
      → Begins n (statement_scopes sequence_scopes (statement.If i) n) (names_in_statement names_in_sequence (statement.If i))
      (statement_written sequence_written (statement.If i))
  begins-if i fits =
      let behind = second_true _ _ fits in
      let further = second_true _ _ behind in
      begins-skip _ (begins-past _ (begins-skip _ (begins-behind _ (begins-both (begins-statements i.statements (first_true _ _ behind))
      (begins-both (begins-elsifs i.elsifs (first_true _ _ further)) (begins-front _ (begins-otherwise i.otherwise (second_true _ _ further))))))))

  begins-case_alternative : (a : CaseAlternative Sequence) → case_alternative_fits sequence_fits left a ≡ true
      → Begins n (inside_scopes sequence_scopes a.statements n) (names_in_case_alternative names_in_sequence a) (case_alternative_written sequence_written a)
  begins-case_alternative a fits = begins-skip _ (begins-past _ (begins-skip _ (begins-behind _ (begins-statements a.statements (second_true _ _ fits)))))

  begins-cases : (xs : List (CaseAlternative Sequence)) → list_all (case_alternative_fits sequence_fits left) xs ≡ true
      → Begins n (case_scopes sequence_scopes xs n) (flat_map (names_in_case_alternative names_in_sequence) xs)
      (flat_map (case_alternative_written sequence_written) xs)
  begins-cases [] fits = begins-none _ _
  begins-cases (x ∷ xs) fits = begins-turned (begins-case_alternative x (first_true _ _ fits)) (begins-cases xs (second_true _ _ fits))

  begins-case : (c : Case Sequence) → case_fits sequence_fits left c ≡ true
      → Begins n (statement_scopes sequence_scopes (statement.Case c) n) (names_in_statement names_in_sequence (statement.Case c))
      (statement_written sequence_written (statement.Case c))
  begins-case c fits =
      begins-skip _
      (begins-past _ (begins-skip _ (begins-behind _ (begins-front _ (begins-cases (c.alternatives.first ∷ c.alternatives.others) (second_true _ _ fits))))))

  begins-loop : (l : Loop Sequence) → loop_fits sequence_fits left l ≡ true
      → Begins n (statement_scopes sequence_scopes (statement.Loop l) n) (names_in_statement names_in_sequence (statement.Loop l))
      (statement_written sequence_written (statement.Loop l))
  begins-loop l fits =
      begins-past _ (begins-region _ (begins-behind _ (begins-past _ (begins-skip _ (begins-front _ (begins-statements l.statements (second_true _ _ fits)))))))

  begins-opened : (declare : Bool) (label : Option Identifier) (place : Place) (q : Sequence) → sequence_fits q (block_role sequence_fits declare) left ≡ true
      → Begins n (body_scopes sequence_scopes place false q n) (within_region (a_block label place) (in_body (names_in_sequence q)))
      (block_opened sequence_written declare place q)
  begins-opened true label place q e = begins-scope (a_block label place) place (codes "declare") refl (here.body q false e)
  begins-opened false label place q e = begins-scope (a_block label place) place (codes "begin") refl (here.bare q false e)

  begins-block : (b : Block Sequence) → block_fits sequence_fits left b ≡ true
      → Begins n (statement_scopes sequence_scopes (statement.Block b) n) (names_in_statement names_in_sequence (statement.Block b))
      (statement_written sequence_written (statement.Block b))
  begins-block b fits = begins-past _ (begins-front _ (begins-opened b.declare (label_name b.label) b.place b.sequence fits))

  -- ---- accepts and selects: the accept of a select is a statement of its own

  begins-accept_body : (m : ℕ) → m ≤ left → (name : Identifier) (b : Option (AcceptBody Sequence)) → optional_fits (accept_body_fits sequence_fits m) b ≡ true
      → Begins n (accept_body_scopes sequence_scopes b n) (if_there (names_in_accept_body names_in_sequence) b)
      (optional (accept_body_written sequence_written name) b)
  begins-accept_body m le name None e = begins-none _ _
  begins-accept_body m le name (Some b) e = begins-skip _ (begins-front _ ((all m le).handled b.sequence e))

  begins-accept : (m : ℕ) → m ≤ left → (a : Accept Sequence) → accept_fits sequence_fits m a ≡ true
      → Begins n (accept_scopes sequence_scopes a.place a.body n) (names_in_accept names_in_sequence a) (accept_written sequence_written a)
  begins-accept m le a fits =
      begins-quiet (mentions_simply a.entry) (begins-scope (an_accept a.entry a.place) a.place (codes "accept") refl
      (begins-skip _ (begins-past _ (begins-front _ (begins-behind _ (begins-accept_body m le a.entry a.body (second_true _ _ fits)))))))

  begins-alternative : (a : Alternative Sequence) → alternative_fits sequence_fits left a ≡ true
      → Begins n (alternative_scopes sequence_scopes a n) (names_in_alternative names_in_sequence a) (alternative_written sequence_written a)
  begins-alternative (alternative.Accept accept statements) fits =
      let inside = opened left (accept_opens sequence_fits accept) (first_true _ _ fits) in
      begins-both (begins-accept inside.inner (let h = inside.less in omega arith) accept inside.holds) (begins-then statements (second_true _ _ fits))
  begins-alternative (alternative.Delay delay statements) fits =
      begins-behind (names_in_delay delay) (begins-past (delay_written delay) (begins-then statements (second_true _ _ fits)))
  begins-alternative (alternative.Terminate place) fits = begins-none _ _

  begins-select_alternative : (a : SelectAlternative Sequence) → select_alternative_fits sequence_fits left a ≡ true
      → Begins n (alternative_scopes sequence_scopes a.alternative n) (names_in_select_alternative names_in_sequence a)
      (select_alternative_written sequence_written a)
  begins-select_alternative a fits = begins-behind _ (begins-past _ (begins-alternative a.alternative (second_true _ _ fits)))

  begins-others : (xs : List (SelectAlternative Sequence)) → list_all (select_alternative_fits sequence_fits left) xs ≡ true
      → Begins n (alternatives_scopes sequence_scopes xs n) (flat_map (names_in_select_alternative names_in_sequence) xs)
      (flat_map (behind (word (codes "or")) (select_alternative_written sequence_written)) xs)
  begins-others [] fits = begins-none _ _
  begins-others (x ∷ xs) fits = begins-turned (begins-skip _ (begins-select_alternative x (first_true _ _ fits))) (begins-others xs (second_true _ _ fits))

  begins-select : (s : SelectForm Sequence) → select_form_fits sequence_fits left s ≡ true
      → Begins n (select_scopes sequence_scopes s n) (names_in_select names_in_sequence s) (select_form_written sequence_written s)
  begins-select (select.SelectiveAccept s) fits =
      let inside = first_true _ _ fits in
      begins-turned
      (begins-turned (begins-select_alternative s.alternatives.first (first_true _ _ inside))
      (begins-others s.alternatives.others (second_true _ _ inside)))
      (begins-otherwise s.otherwise (second_true _ _ fits))
  begins-select (select.TimedEntryCall t) fits =
      let further = second_true _ _ fits in
      begins-behind (names_in_call t.call) (begins-past (call_written t.call) (begins-turned (begins-then t.statements (first_true _ _ further))
      (begins-skip _
      (begins-behind (names_in_delay t.delay)
      (begins-past (delay_written t.delay) (begins-then t.delay_statements (second_true _ _ (second_true _ _ further))))))))
  begins-select (select.ConditionalEntryCall c) fits =
      let further = second_true _ _ fits in
      begins-behind (names_in_call c.call)
      (begins-past (call_written c.call)
      (begins-turned (begins-then c.statements (first_true _ _ further)) (begins-skip _ (begins-statements c.otherwise (second_true _ _ further)))))
  begins-select (select.AsynchronousSelect s) fits =
      let further = second_true _ _ fits in
      begins-behind (names_in_trigger s.trigger)
      (begins-past (trigger_written s.trigger)
      (begins-turned (begins-then s.statements (first_true _ _ further))
      (begins-skip _ (begins-skip _ (begins-statements s.abortable (second_true _ _ further))))))

  -- ---- all statements

  pub begins-statement : (s : Statement Sequence) → parts_fit sequence_fits s left ≡ true
      → Begins n (statement_scopes sequence_scopes s n) (names_in_statement names_in_sequence s) (statement_written sequence_written s)
  begins-statement (statement.Null place) fits = begins-none _ _
  begins-statement (statement.Assignment a) fits = begins-none _ _
  begins-statement (statement.Call c) fits = begins-none _ _
  begins-statement (statement.Delay d) fits = begins-none _ _
  begins-statement (statement.If i) fits = begins-if i fits
  begins-statement (statement.Case c) fits = begins-case c fits
  begins-statement (statement.Loop l) fits = begins-loop l fits
  begins-statement (statement.Exit e) fits = begins-none _ _
  begins-statement (statement.Block b) fits = begins-block b fits
  begins-statement (statement.Return place value) fits = begins-none _ _
  begins-statement (statement.Raise place exception) fits = begins-none _ _
  begins-statement (statement.Abort place tasks) fits = begins-none _ _
  begins-statement (statement.Accept a) fits = begins-accept left (omega arith) a fits
  begins-statement (statement.Requeue place entry with_abort) fits = begins-none _ _
  begins-statement (statement.Select s) fits = begins-skip _ (begins-front _ (begins-select s.form fits))
