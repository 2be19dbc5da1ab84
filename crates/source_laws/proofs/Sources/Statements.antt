-- At no place stand more names and labels of a statement than identifiers of its spelling, where that holds of the sequences in it.
use Rattle.std.proofs.Common.{◌≡◌, ℕ, zero, suc, ◌≤◌, Bool, true, false, [], ◌∷◌, Option, Some, None, refl, arith}
use Rattle.std.specs.Prelude.{codes}
use Rattle.ann_base.specs.declared.places.Place.{Place}
use Rattle.ada_tree.specs.declared.statements.SequenceRole.{SequenceRole}
use Rattle.ada_tree.specs.declared.statements.SequenceRole.TheVariants as role
use Rattle.ada_tree.specs.declared.statements.Sequence.{Sequence}
use Rattle.ada_tree.specs.declared.statements.Statement.{Statement}
use Rattle.ada_tree.specs.declared.statements.Statement.TheVariants as statement
use Rattle.ada_tree.specs.declared.statements.Assignment.{Assignment}
use Rattle.ada_tree.specs.declared.statements.Call.{Call}
use Rattle.ada_tree.specs.declared.statements.Delay.{Delay}
use Rattle.ada_tree.specs.declared.statements.If.{If}
use Rattle.ada_tree.specs.declared.statements.Elsif.{Elsif}
use Rattle.ada_tree.specs.declared.statements.Case.{Case}
use Rattle.ada_tree.specs.declared.statements.CaseAlternative.{CaseAlternative}
use Rattle.ada_tree.specs.declared.statements.Choice.{Choice}
use Rattle.ada_tree.specs.declared.statements.Choice.TheVariants as choice
use Rattle.ada_tree.specs.declared.statements.Label.{Label}
use Rattle.ada_tree.specs.declared.statements.Loop.{Loop}
use Rattle.ada_tree.specs.declared.statements.Iteration.{Iteration}
use Rattle.ada_tree.specs.declared.statements.Iteration.TheVariants as iteration
use Rattle.ada_tree.specs.declared.statements.Exit.{Exit}
use Rattle.ada_tree.specs.declared.statements.Block.{Block}
use Rattle.ada_tree.specs.declared.statements.Handler.{Handler}
use Rattle.ada_tree.specs.declared.statements.HandledExceptions.{HandledExceptions}
use Rattle.ada_tree.specs.declared.statements.HandledExceptions.TheVariants as exceptions
use Rattle.ada_tree.specs.declared.statements.Accept.{Accept}
use Rattle.ada_tree.specs.declared.selects.SelectForm.{SelectForm}
use Rattle.ada_tree.specs.declared.selects.SelectForm.TheVariants as select
use Rattle.ada_tree.specs.declared.selects.SelectAlternative.{SelectAlternative}
use Rattle.ada_tree.specs.declared.selects.Guard.{Guard}
use Rattle.ada_tree.specs.declared.selects.Alternative.{Alternative}
use Rattle.ada_tree.specs.declared.selects.Alternative.TheVariants as alternative
use Rattle.ada_tree.specs.declared.selects.Trigger.{Trigger}
use Rattle.ada_tree.specs.declared.selects.Trigger.TheVariants as trigger
use Rattle.ada_tree.specs.Written.{word, delimiter, flag, optional, name_written, one_identifier}
use Rattle.ada_tree.specs.SpellingExpressions.{expression_written}
use Rattle.ada_tree.specs.SpellingStatements.{semicolon, index_written, assignment_written, call_written, delay_written, choice_written}
use Rattle.ada_tree.specs.SpellingStatements.{label_written, iteration_written, when_written, exit_written, exceptions_written, guard_written}
use Rattle.ada_tree.specs.SpellingStatements.{trigger_written, statements_written, elsif_written, else_written, if_written, case_alternative_written}
use Rattle.ada_tree.specs.SpellingStatements.{case_written, loop_written, block_opened, block_written, handler_written, accept_body_written}
use Rattle.ada_tree.specs.SpellingStatements.{accept_written, alternative_written, select_alternative_written, select_form_written, statement_written}
use Rattle.ada_tree.specs.Spelling.{sequence_written}
use Rattle.ada_tree.specs.ShapeExpressions.{within, optional_fits}
use Rattle.ada_tree.specs.ShapeStatements.{statements_fit, elsif_fits, if_fits, case_alternative_fits, case_fits, loop_fits, block_role, block_fits}
use Rattle.ada_tree.specs.ShapeStatements.{accept_body_fits, accept_fits, accept_opens, alternative_fits, select_alternative_fits, select_form_fits, parts_fit}
use Rattle.ada_tree.specs.Shape.{sequence_fits}
use Rattle.ada_regions.specs.Occurrences.{an_accept, a_block, a_label, a_loop, a_loop_parameter, hides}
use Rattle.ada_regions.specs.Occurrences.{declares, mentions, mentions_simply, in_all, if_there, one, in_body}
use Rattle.ada_regions.specs.NamesInExpressions.{names_in_expression}
use Rattle.ada_regions.specs.NamesInStatements.{names_in_assignment, names_in_call, names_in_delay, names_in_choice, names_in_iteration}
use Rattle.ada_regions.specs.NamesInStatements.{names_in_exit, names_in_exceptions, names_in_guard, names_in_trigger, label_name, declares_label}
use Rattle.ada_regions.specs.NamesInStatements.{names_in_statements, labels_in, names_in_elsif, names_in_if, names_in_case_alternative}
use Rattle.ada_regions.specs.NamesInStatements.{names_in_case, names_in_handler, names_in_accept_body, names_in_accept, names_in_alternative}
use Rattle.ada_regions.specs.NamesInStatements.{names_in_select_alternative, names_in_select, names_in_statement, labels_in_elsif, labels_in_if}
use Rattle.ada_regions.specs.NamesInStatements.{labels_in_case_alternative, labels_in_handler, labels_in_accept_body, labels_in_accept}
use Rattle.ada_regions.specs.NamesInStatements.{labels_in_alternative, labels_in_select_alternative, labels_in_select, labels_in_statement}
use Rattle.ada_regions.specs.NamesInUnits.{names_in_sequence}
use Rattle.grammar_laws.proofs.Reading.Exact.{first_true, second_true}
use Rattle.source_laws.proofs.Sources.Counting.{Covers, covers-none, covers-both, covers-then, covers-skip, covers-past, covers-front, covers-quiet}
use Rattle.source_laws.proofs.Sources.Counting.{covers-name, covers-label, covers-mentions, covers-mention, covers-last, covers-parts, covers-beside}
use Rattle.source_laws.proofs.Sources.Counting.{covers-region, covers-each, covers-all, covers-separated, covers-there, covers-in_all, covers-optional}
use Rattle.source_laws.proofs.Sources.Expressions.{covers-expression}
use Rattle.source_laws.proofs.Sources.Parts.{covers-arguments, covers-parameters}

-- ---- statements without others in them

covers-assignment : (a : Assignment) → Covers [] (names_in_assignment a) (assignment_written a)
covers-assignment a =
    covers-mentions a.target (mentions a.target) refl
    (covers-then (covers-optional names_in_expression index_written (λ e. covers-skip _ (covers-front _ (covers-expression e))) a.index)
    (covers-skip _ (covers-front semicolon (covers-expression a.value))))

covers-call : (c : Call) → Covers [] (names_in_call c) (call_written c)
covers-call c = covers-mentions c.name (mentions c.name) refl (covers-front semicolon (covers-arguments c.arguments))

covers-delay : (d : Delay) → Covers [] (names_in_delay d) (delay_written d)
covers-delay d = covers-skip _ (covers-past (flag d.until (word (codes "until") ∷ [])) (covers-front semicolon (covers-expression d.value)))

covers-choice : (c : Choice) → Covers [] (names_in_choice c) (choice_written c)
covers-choice (choice.Value value) = covers-expression value
covers-choice (choice.Range low high) = covers-then (covers-expression low) (covers-skip _ (covers-expression high))
covers-choice (choice.Others place) = covers-none _

covers-iteration : (i : Iteration) → Covers [] (names_in_iteration i) (iteration_written i)
covers-iteration iteration.Forever = covers-none _
covers-iteration (iteration.While place condition) = covers-skip _ (covers-expression condition)
covers-iteration (iteration.For place parameter reverse low high) =
    covers-quiet (hides parameter) refl (covers-last (names_in_expression low) (names_in_expression high) (one (declares parameter a_loop_parameter))
    (covers-skip _ (covers-label parameter (declares parameter a_loop_parameter) refl (covers-skip _ (covers-past (flag reverse (word (codes "reverse") ∷ []))
    (covers-then (covers-expression low) (covers-skip _ (covers-expression high))))))))

covers-exit : (e : Exit) → Covers [] (names_in_exit e) (exit_written e)
covers-exit e =
    covers-skip _
    (covers-then
    (covers-optional (λ name. one (mentions_simply name)) one_identifier (λ name. covers-name name (mentions_simply name) refl (covers-none _)) e.loop_name)
    (covers-front semicolon (covers-optional names_in_expression when_written (λ c. covers-skip _ (covers-expression c)) e.condition)))

covers-exceptions : (e : HandledExceptions) → Covers [] (names_in_exceptions e) (exceptions_written e)
covers-exceptions (exceptions.Named names) =
    covers-in_all (delimiter (codes "|")) (λ name. one (mentions name)) name_written (λ name. covers-mention name (mentions name) refl) names
covers-exceptions (exceptions.Others place) = covers-none _

covers-guard : (g : Guard) → Covers [] (names_in_guard g) (guard_written g)
covers-guard g = covers-skip _ (covers-front _ (covers-expression g.condition))

covers-trigger : (t : Trigger) → Covers [] (names_in_trigger t) (trigger_written t)
covers-trigger (trigger.Call call) = covers-call call
covers-trigger (trigger.Delay delay) = covers-delay delay

covers-label_if : (label : Option Label) → Covers (declares_label label) [] (optional label_written label)
covers-label_if None = covers-none _
covers-label_if (Some l) = covers-label l.name (declares l.name a_label) refl (covers-none _)

-- ---- statements with sequences in them

pub covers-handler : (h : Handler Sequence)
    → Covers (labels_in names_in_sequence h.statements) (names_in_statements names_in_sequence h.statements) (statements_written sequence_written h.statements)
    → Covers (labels_in_handler names_in_sequence h) (names_in_handler names_in_sequence h) (handler_written sequence_written h)
covers-handler h inside = covers-skip _ (covers-then (covers-exceptions h.exceptions) (covers-skip _ inside))

-- where so many levels are left
abbrev pub SequencesCovered : ℕ → Type 0
SequencesCovered left = (q : Sequence) (at : SequenceRole) → sequence_fits q at left ≡ true → Covers [] (in_body (names_in_sequence q)) (sequence_written q at)

-- what takes a level leaves one less
pub record Opened (left : ℕ) (fits : ℕ → Bool) : Type 0 where
  pub inner : ℕ
  pub less : suc inner ≤ left
  pub holds : fits inner ≡ true

pub opened : (left : ℕ) (fits : ℕ → Bool) → within left fits ≡ true → Opened left fits
opened zero fits e = cc
opened (suc left) fits e = record { inner = left; less = omega arith; holds = e }

module _ (left : ℕ) (all : (m : ℕ) → m ≤ left → SequencesCovered m) where
  statements-at : (m : ℕ) → m ≤ left → (q : Sequence) (at : SequenceRole) → sequence_fits q at m ≡ true
      → Covers (labels_in names_in_sequence q) (names_in_statements names_in_sequence q) (sequence_written q at)
  statements-at m le q at e = covers-parts (names_in_sequence q).declarations (names_in_sequence q).labels (names_in_sequence q).statements (all m le q at e)

  covers-statements : (q : Sequence) → statements_fit sequence_fits left q ≡ true
      → Covers (labels_in names_in_sequence q) (names_in_statements names_in_sequence q) (statements_written sequence_written q)
  covers-statements q e = statements-at left (omega arith) q role.Statements e

  covers-else : (q : Sequence) → statements_fit sequence_fits left q ≡ true
      → Covers (labels_in names_in_sequence q) (names_in_statements names_in_sequence q) (else_written sequence_written q)
  covers-else q e = covers-skip _ (covers-statements q e)

  covers-then_statements : (o : Option Sequence) → optional_fits (statements_fit sequence_fits left) o ≡ true
      → Covers (if_there (labels_in names_in_sequence) o) (if_there (names_in_statements names_in_sequence) o)
      (optional (statements_written sequence_written) o)
  covers-then_statements o e =
      covers-there (labels_in names_in_sequence) (names_in_statements names_in_sequence) (statements_written sequence_written)
      (statements_fit sequence_fits left) covers-statements o e

  covers-otherwise : (o : Option Sequence) → optional_fits (statements_fit sequence_fits left) o ≡ true
      → Covers (if_there (labels_in names_in_sequence) o) (if_there (names_in_statements names_in_sequence) o) (optional (else_written sequence_written) o)
  covers-otherwise o e =
      covers-there (labels_in names_in_sequence) (names_in_statements names_in_sequence) (else_written sequence_written)
      (statements_fit sequence_fits left) covers-else o e

  covers-elsif : (e : Elsif Sequence) → elsif_fits sequence_fits left e ≡ true
      → Covers (labels_in_elsif names_in_sequence e) (names_in_elsif names_in_sequence e) (elsif_written sequence_written e)
  covers-elsif e fits = covers-skip _ (covers-then (covers-expression e.condition) (covers-skip _ (covers-statements e.statements (second_true _ _ fits))))

  covers-if : (i : If Sequence) → if_fits sequence_fits left i ≡ true
      → Covers (labels_in_if names_in_sequence i) (names_in_if names_in_sequence i) (if_written sequence_written i)
  covers-if i fits =
      let behind = second_true _ _ fits in
      let further = second_true _ _ behind in
      covers-skip _ (covers-then (covers-expression i.condition) (covers-skip _ (covers-both (covers-statements i.statements (first_true _ _ behind))
      (covers-both (covers-each (labels_in_elsif names_in_sequence) (names_in_elsif names_in_sequence) (elsif_written sequence_written)
      (elsif_fits sequence_fits left) covers-elsif i.elsifs (first_true _ _ further))
      (covers-front _ (covers-otherwise i.otherwise (second_true _ _ further)))))))

  covers-case_alternative : (a : CaseAlternative Sequence) → case_alternative_fits sequence_fits left a ≡ true
      → Covers (labels_in_case_alternative names_in_sequence a) (names_in_case_alternative names_in_sequence a) (case_alternative_written sequence_written a)
  covers-case_alternative a fits =
      covers-skip _
      (covers-then (covers-in_all (delimiter (codes "|")) names_in_choice choice_written covers-choice a.choices)
      (covers-skip _ (covers-statements a.statements (second_true _ _ fits))))

  covers-case : (c : Case Sequence) → case_fits sequence_fits left c ≡ true
      → Covers (in_all (labels_in_case_alternative names_in_sequence) c.alternatives) (names_in_case names_in_sequence c) (case_written sequence_written c)
  covers-case c fits =
      covers-skip _ (covers-then (covers-expression c.selector) (covers-skip _ (covers-front _
      (covers-all (labels_in_case_alternative names_in_sequence) (names_in_case_alternative names_in_sequence) (case_alternative_written sequence_written)
      (case_alternative_fits sequence_fits left) covers-case_alternative c.alternatives
      (second_true _ _ fits)))))

  covers-loop : (l : Loop Sequence) → loop_fits sequence_fits left l ≡ true
      → Covers (labels_in_statement names_in_sequence (statement.Loop l)) (names_in_statement names_in_sequence (statement.Loop l))
      (loop_written sequence_written l)
  covers-loop l fits =
      covers-both (covers-label_if l.label) (covers-region (a_loop (label_name l.label)) refl
      (covers-then (covers-iteration l.iteration) (covers-skip _ (covers-front _ (covers-statements l.statements (second_true _ _ fits))))))

  covers-opened : (declare : Bool) (place : Place) (q : Sequence) → sequence_fits q (block_role sequence_fits declare) left ≡ true
      → Covers [] (in_body (names_in_sequence q)) (block_opened sequence_written declare place q)
  covers-opened true place q e = covers-skip _ (all left (omega arith) q role.Body e)
  covers-opened false place q e = covers-skip _ (all left (omega arith) q role.Handled e)

  covers-block : (b : Block Sequence) → block_fits sequence_fits left b ≡ true
      → Covers (labels_in_statement names_in_sequence (statement.Block b)) (names_in_statement names_in_sequence (statement.Block b))
      (block_written sequence_written b)
  covers-block b fits =
      covers-beside (covers-label_if b.label)
      (covers-region (a_block (label_name b.label) b.place) refl (covers-front _ (covers-opened b.declare b.place b.sequence fits)))

  -- the accept of a select is a statement of its own
  covers-accept : (m : ℕ) → m ≤ left → (a : Accept Sequence) → accept_fits sequence_fits m a ≡ true
      → Covers (labels_in_accept names_in_sequence a) (names_in_accept names_in_sequence a) (accept_written sequence_written a)
  covers-accept m le a fits =
      covers-skip _
      (covers-name a.entry (mentions_simply a.entry) refl
      (covers-region (an_accept a.entry a.place) refl (covers-then (covers-parameters true a.parameters) (covers-front semicolon
      (covers-there (labels_in_accept_body names_in_sequence) (names_in_accept_body names_in_sequence) (accept_body_written sequence_written a.entry)
      (accept_body_fits sequence_fits m)
      (λ b e. covers-skip _ (covers-front _ (statements-at m le b.sequence role.Handled e))) a.body (second_true _ _ fits))))))

  covers-alternative : (a : Alternative Sequence) → alternative_fits sequence_fits left a ≡ true
      → Covers (labels_in_alternative names_in_sequence a) (names_in_alternative names_in_sequence a) (alternative_written sequence_written a)
  covers-alternative (alternative.Accept accept statements) fits =
      let inside = opened left (accept_opens sequence_fits accept) (first_true _ _ fits) in
      covers-both (covers-accept inside.inner (let h = inside.less in omega arith) accept inside.holds)
      (covers-then_statements statements (second_true _ _ fits))
  covers-alternative (alternative.Delay delay statements) fits = covers-then (covers-delay delay) (covers-then_statements statements (second_true _ _ fits))
  covers-alternative (alternative.Terminate place) fits = covers-none _

  covers-select_alternative : (a : SelectAlternative Sequence) → select_alternative_fits sequence_fits left a ≡ true
      → Covers (labels_in_select_alternative names_in_sequence a) (names_in_select_alternative names_in_sequence a)
      (select_alternative_written sequence_written a)
  covers-select_alternative a fits =
      covers-then (covers-optional names_in_guard guard_written covers-guard a.guard) (covers-alternative a.alternative (second_true _ _ fits))

  covers-select : (s : SelectForm Sequence) → select_form_fits sequence_fits left s ≡ true
      → Covers (labels_in_select names_in_sequence s) (names_in_select names_in_sequence s) (select_form_written sequence_written s)
  covers-select (select.SelectiveAccept s) fits =
      covers-both (covers-separated (word (codes "or")) (labels_in_select_alternative names_in_sequence) (names_in_select_alternative names_in_sequence)
      (select_alternative_written sequence_written)
      (select_alternative_fits sequence_fits left) covers-select_alternative s.alternatives (first_true _ _ fits))
      (covers-otherwise s.otherwise (second_true _ _ fits))
  covers-select (select.TimedEntryCall t) fits =
      let behind = second_true _ _ fits in
      covers-then (covers-call t.call) (covers-both (covers-then_statements t.statements (first_true _ _ behind))
      (covers-skip _ (covers-then (covers-delay t.delay) (covers-then_statements t.delay_statements (second_true _ _ (second_true _ _ behind))))))
  covers-select (select.ConditionalEntryCall c) fits =
      let behind = second_true _ _ fits in
      covers-then (covers-call c.call)
      (covers-both (covers-then_statements c.statements (first_true _ _ behind)) (covers-else c.otherwise (second_true _ _ behind)))
  covers-select (select.AsynchronousSelect s) fits =
      let behind = second_true _ _ fits in
      covers-then (covers-trigger s.trigger)
      (covers-both (covers-then_statements s.statements (first_true _ _ behind))
      (covers-skip _ (covers-skip _ (covers-statements s.abortable (second_true _ _ behind)))))

  pub covers-statement : (s : Statement Sequence) → parts_fit sequence_fits s left ≡ true
      → Covers (labels_in_statement names_in_sequence s) (names_in_statement names_in_sequence s) (statement_written sequence_written s)
  covers-statement (statement.Null place) fits = covers-none _
  covers-statement (statement.Assignment a) fits = covers-assignment a
  covers-statement (statement.Call c) fits = covers-call c
  covers-statement (statement.Delay d) fits = covers-delay d
  covers-statement (statement.If i) fits = covers-if i fits
  covers-statement (statement.Case c) fits = covers-case c fits
  covers-statement (statement.Loop l) fits = covers-loop l fits
  covers-statement (statement.Exit e) fits = covers-exit e
  covers-statement (statement.Block b) fits = covers-block b fits
  covers-statement (statement.Return place value) fits =
      covers-skip _ (covers-front semicolon (covers-optional names_in_expression expression_written covers-expression value))
  covers-statement (statement.Raise place exception) fits =
      covers-skip _
      (covers-front semicolon (covers-optional (λ name. one (mentions name)) name_written (λ name. covers-mention name (mentions name) refl) exception))
  covers-statement (statement.Abort place tasks) fits =
      covers-skip _
      (covers-front semicolon
      (covers-in_all (delimiter (codes ",")) (λ name. one (mentions name)) name_written (λ name. covers-mention name (mentions name) refl) tasks))
  covers-statement (statement.Accept a) fits = covers-accept left (omega arith) a fits
  covers-statement (statement.Requeue place entry with_abort) fits = covers-skip _ (covers-front _ (covers-mention entry (mentions entry) refl))
  covers-statement (statement.Select s) fits = covers-skip _ (covers-front _ (covers-select s.form fits))
