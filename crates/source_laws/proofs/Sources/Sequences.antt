-- At no place stand more names and labels of a sequence, or of a declaration, than identifiers of its spelling.
use Rattle.std.proofs.Common.{◌≡◌, ℕ, zero, suc, ◌≤◌, true, ◌&&◌, List, [], ◌∷◌, ◌++◌, is_some, refl, sym, subst, ◌∙◌, arith}
use Rattle.std.specs.Prelude.{codes}
use Rattle.std.specs.List.{flat_map, list_all}
use Rattle.ada_tree.specs.declared.names.Identifier.{Identifier}
use Rattle.ada_tree.specs.declared.statements.SequenceRole.{SequenceRole}
use Rattle.ada_tree.specs.declared.statements.SequenceRole.TheVariants as role
use Rattle.ada_tree.specs.declared.statements.Sequence.{Sequence}
use Rattle.ada_tree.specs.declared.statements.Sequence.TheViews.{out-Sequence}
use Rattle.ada_tree.specs.declared.statements.SequenceParts.{SequenceParts}
use Rattle.ada_tree.specs.declared.statements.Statement.{Statement}
use Rattle.ada_tree.specs.declared.statements.Handler.{Handler}
use Rattle.ada_tree.specs.declared.declarations.Declaration.{Declaration}
use Rattle.ada_tree.specs.declared.declarations.Declaration.TheVariants as declaration
use Rattle.ada_tree.specs.declared.declarations.Body.{Body}
use Rattle.ada_tree.specs.declared.declarations.SubprogramSpecification.{SubprogramSpecification}
use Rattle.ada_tree.specs.declared.declarations.EntryHead.{EntryHead}
use Rattle.ada_tree.specs.declared.declarations.OperationBody.{OperationBody}
use Rattle.ada_tree.specs.declared.declarations.OperationBody.TheVariants as body_of
use Rattle.ada_tree.specs.Written.{word, all_written, end_name_written}
use Rattle.ada_tree.specs.SpellingStatements.{semicolon, statement_written, handler_written}
use Rattle.ada_tree.specs.SpellingDeclarations.{specification_written, body_written, operation_body_written, declaration_written}
use Rattle.ada_tree.specs.Spelling.{handlers_written, handled_written, parts_written, sequence_written}
use Rattle.ada_tree.specs.ShapeStatements.{statement_fits, handler_fits, parts_fit}
use Rattle.ada_tree.specs.ShapeDeclarations.{specification_fits, entry_head_fits, body_fits, operation_body_fits, operations_fit, declaration_fits}
use Rattle.ada_tree.specs.Shape.{all_statements_fit, handled_fits, sequence_fits_by, sequence_fits}
use Rattle.ann_base.specs.Lists.{is_empty}
use Rattle.ada_tree.proofs.SequenceFolds.{sequence_is_written}
use Rattle.ada_tree.proofs.SequenceFits.{sequence_is_fit}
use Rattle.ada_regions.specs.Occurrences.{Occurrences, an_exception, subprogram_body, entry_body, task_body, protected_body}
use Rattle.ada_regions.specs.Occurrences.{heads, completes, is_called, mentions_entry, use_package, in_all, in_body}
use Rattle.ada_regions.specs.NamesInExpressions.{names_in_expression}
use Rattle.ada_regions.specs.NamesInStatements.{names_in_parameters, names_in_statement, labels_in_statement, names_in_handler, labels_in_handler}
use Rattle.ada_regions.specs.NamesInDeclarations.{names_in_profile, names_in_body, names_in_subprogram_body}
use Rattle.ada_regions.specs.NamesInDeclarations.{names_in_entry_body, names_in_operation_body, names_in_declaration}
use Rattle.ada_regions.specs.NamesInUnits.{names_in_parts, names_in_sequence}
use Rattle.ada_regions.proofs.SequenceFolds.{sequence_tells}
use Rattle.grammar_laws.proofs.Reading.Exact.{first_true, second_true}
use Rattle.source_laws.proofs.Sources.Counting.{Covers, covers-none, covers-both, covers-then, covers-skip, covers-front, covers-quiet, covers-name}
use Rattle.source_laws.proofs.Sources.Counting.{covers-mention, covers-middle, covers-assoc, covers-labels, covers-parts, covers-region}
use Rattle.source_laws.proofs.Sources.Counting.{covers-named_region, covers-each, covers-all, covers-declares, covers-each_plain, covers-nothing}
use Rattle.source_laws.proofs.Sources.Expressions.{covers-expression}
use Rattle.source_laws.proofs.Sources.Parts.{covers-parameters, covers-object, covers-definition, covers-subtype}
use Rattle.source_laws.proofs.Sources.Parts.{covers-specified, covers-specification, covers-task, covers-protected}
use Rattle.source_laws.proofs.Sources.Statements.{SequencesCovered, opened, covers-handler, covers-statement}

module _ (level : ℕ) (all : (m : ℕ) → suc m ≤ level → SequencesCovered m) where
  -- ---- bodies

  covers-body : (m : ℕ) → suc m ≤ level → (name : Identifier) (b : Body Sequence) → sequence_fits b.sequence role.Body m ≡ true
      → Covers [] (names_in_body names_in_sequence b) (body_written sequence_written name b)
  covers-body m less name b e =
      covers-skip _ (covers-front (word (codes "end") ∷ (end_name_written b.named_at_end name ++ semicolon)) (all m less b.sequence role.Body e))

  pub covers-whole_body : (name : Identifier) (b : Body Sequence) → body_fits sequence_fits level b ≡ true
      → Covers [] (names_in_body names_in_sequence b) (body_written sequence_written name b)
  covers-whole_body name b e = let inside = opened level (sequence_fits b.sequence role.Body) e in covers-body inside.inner inside.less name b inside.holds

  covers-subprogram : (s : SubprogramSpecification) (b : Body Sequence) → Covers [] (names_in_body names_in_sequence b) (body_written sequence_written s.name b)
      → Covers [] (names_in_subprogram_body names_in_sequence s b) (specification_written s ++ body_written sequence_written s.name b)
  covers-subprogram s b inside =
      covers-quiet (heads s.name) refl (covers-region (subprogram_body s.place (is_some s.result)) refl
      (covers-middle (names_in_profile true s) (completes s.name s) (names_in_body names_in_sequence b)
      (covers-then (covers-specified true s (completes s.name s) refl) inside)))

  covers-entry_body : (h : EntryHead) (b : Body Sequence) → Covers [] (names_in_body names_in_sequence b) (body_written sequence_written h.name b)
      → Covers [] (names_in_entry_body names_in_sequence h b) (operation_body_written sequence_written (body_of.Entry h b))
  covers-entry_body h b inside =
      covers-skip _ (covers-name h.name (mentions_entry h.name) refl (covers-region (entry_body h.name h.place h.barrier) refl
      (covers-assoc (names_in_parameters true h.parameters) (names_in_expression h.barrier) (is_called h.name ∷ names_in_body names_in_sequence b)
      (covers-then (covers-then (covers-parameters true h.parameters) (covers-skip _ (covers-expression h.barrier)))
      (covers-quiet (is_called h.name) refl inside)))))

  covers-operation_body : (m : ℕ) → suc m ≤ level → (o : OperationBody Sequence) → operation_body_fits sequence_fits m o ≡ true
      → Covers [] (names_in_operation_body names_in_sequence o) (operation_body_written sequence_written o)
  covers-operation_body m less (body_of.Subprogram s b) fits =
      let inside = opened m (sequence_fits b.sequence role.Body) (second_true (specification_fits m s) (body_fits sequence_fits m b) fits) in
      covers-subprogram s b (covers-body inside.inner (let h = inside.less in omega arith) s.name b inside.holds)
  covers-operation_body m less (body_of.Entry h b) fits =
      let inside = opened m (sequence_fits b.sequence role.Body) (second_true (entry_head_fits m h) (body_fits sequence_fits m b) fits) in
      covers-entry_body h b (covers-body inside.inner (let h = inside.less in omega arith) h.name b inside.holds)

  pub covers-declaration : (d : Declaration Sequence) → declaration_fits sequence_fits level d ≡ true
      → Covers [] (names_in_declaration names_in_sequence d) (declaration_written sequence_written d)
  covers-declaration (declaration.Object o) fits = covers-object o
  covers-declaration (declaration.Type t) fits = covers-skip _ (covers-definition t.name t.definition)
  covers-declaration (declaration.Subtype s) fits = covers-subtype s
  covers-declaration (declaration.Exception names) fits = covers-front _ (covers-declares an_exception names)
  covers-declaration (declaration.Subprogram s) fits = covers-front semicolon (covers-specification s)
  covers-declaration (declaration.SubprogramBody s body) fits =
      covers-subprogram s body (covers-whole_body s.name body (second_true (specification_fits level s) (body_fits sequence_fits level body) fits))
  covers-declaration (declaration.Task t) fits = covers-task t
  covers-declaration (declaration.TaskBody place name body) fits =
      covers-skip _ (covers-skip _ (covers-named_region (task_body name place) name refl (covers-whole_body name body fits)))
  covers-declaration (declaration.Protected p) fits = covers-protected p
  covers-declaration (declaration.ProtectedBody p) fits =
      let inside = opened level (operations_fit sequence_fits p.operations) fits in
      covers-skip _ (covers-skip _ (covers-named_region (protected_body p.name) p.name refl (covers-skip _ (covers-front _
      (covers-each_plain (names_in_operation_body names_in_sequence) (operation_body_written sequence_written) (operation_body_fits sequence_fits inside.inner)
      (covers-operation_body inside.inner inside.less) p.operations inside.holds)))))
  covers-declaration (declaration.Use place name) fits = covers-skip _ (covers-front semicolon (covers-mention name (use_package name) refl))

  -- ---- sequences

  within-level : (m : ℕ) → suc m ≤ level → (k : ℕ) → k ≤ m → SequencesCovered k
  within-level m less k le = all k (omega arith)

  covers-one : (s : Statement Sequence) → statement_fits sequence_fits level s ≡ true
      → Covers (labels_in_statement names_in_sequence s) (names_in_statement names_in_sequence s) (statement_written sequence_written s)
  covers-one s e =
      let inside = opened level (parts_fit sequence_fits s) e in covers-statement inside.inner (within-level inside.inner inside.less) s inside.holds

  covers-statements : (s : SequenceParts Sequence) → all_statements_fit sequence_fits s level ≡ true
      → Covers (in_all (labels_in_statement names_in_sequence) s.statements) (in_all (names_in_statement names_in_sequence) s.statements)
      (all_written (statement_written sequence_written) s.statements)
  covers-statements s e =
      covers-all (labels_in_statement names_in_sequence) (names_in_statement names_in_sequence) (statement_written sequence_written)
      (statement_fits sequence_fits level) covers-one s.statements e

  -- statements alone have no handlers, so handlers may have them at the same level
  statements-alone : (s : SequenceParts Sequence) (ds : List (Declaration Sequence)) (hs : List (Handler Sequence))
      → (is_empty ds && (is_empty hs && all_statements_fit sequence_fits s level)) ≡ true
      → Covers [] (in_body (names_in_parts names_in_sequence (record s { declarations = ds; handlers = hs })))
      (all_written (statement_written sequence_written) s.statements)
  statements-alone s [] [] e =
      covers-labels (in_all (labels_in_statement names_in_sequence) s.statements ++ []) (in_all (names_in_statement names_in_sequence) s.statements ++ [])
      (covers-nothing (covers-statements s e))
  statements-alone s [] (h ∷ hs) e = cc
  statements-alone s (d ∷ ds) hs e = cc

  of-its-parts : (q : Sequence) (at : SequenceRole)
      → Covers [] (in_body (names_in_parts names_in_sequence (out-Sequence q).parts)) (parts_written sequence_written (out-Sequence q).parts at)
      → Covers [] (in_body (names_in_sequence q)) (sequence_written q at)
  of-its-parts q at here =
      subst (λ names. Covers [] (in_body names) (sequence_written q at)) (sym (sequence_tells q))
      (subst (λ ws. Covers [] (in_body (names_in_parts names_in_sequence (out-Sequence q).parts)) ws) (sym (sequence_is_written q at)) here)

  statements-covered : (q : Sequence) → sequence_fits q role.Statements level ≡ true
      → Covers [] (in_body (names_in_sequence q)) (sequence_written q role.Statements)
  statements-covered q e =
      let parts = (out-Sequence q).parts in
      of-its-parts q role.Statements (statements-alone parts parts.declarations parts.handlers (sym (sequence_is_fit q role.Statements level) ∙ e))

  covers-handled : (h : Handler Sequence) → handler_fits sequence_fits level h ≡ true
      → Covers (labels_in_handler names_in_sequence h) (names_in_handler names_in_sequence h) (handler_written sequence_written h)
  covers-handled h e =
      covers-handler h
      (covers-parts (names_in_sequence h.statements).declarations (names_in_sequence h.statements).labels (names_in_sequence h.statements).statements
      (statements-covered h.statements e))

  covers-handlers : (hs : List (Handler Sequence)) → list_all (handler_fits sequence_fits level) hs ≡ true
      → Covers (flat_map (labels_in_handler names_in_sequence) hs) (flat_map (names_in_handler names_in_sequence) hs) (handlers_written sequence_written hs)
  covers-handlers [] e = covers-none _
  covers-handlers (h ∷ hs) e =
      covers-skip _ (covers-both (covers-handled h (first_true _ _ e))
      (covers-each (labels_in_handler names_in_sequence) (names_in_handler names_in_sequence) (handler_written sequence_written)
      (handler_fits sequence_fits level) covers-handled hs (second_true _ _ e)))

  abbrev AllLabels : SequenceParts Sequence → Occurrences
  AllLabels s = (names_in_parts names_in_sequence s).labels

  abbrev AllStatements : SequenceParts Sequence → Occurrences
  AllStatements s = (names_in_parts names_in_sequence s).statements

  handled-covered : (s : SequenceParts Sequence) → handled_fits sequence_fits s level ≡ true
      → Covers [] (AllLabels s ++ AllStatements s) (handled_written sequence_written s)
  handled-covered s e =
      covers-labels (AllLabels s) (AllStatements s) (covers-both (covers-statements s (first_true _ _ e)) (covers-handlers s.handlers (second_true _ _ e)))

  handled-alone : (s : SequenceParts Sequence) (ds : List (Declaration Sequence)) → (is_empty ds && handled_fits sequence_fits s level) ≡ true
      → Covers [] (in_body (names_in_parts names_in_sequence (record s { declarations = ds }))) (handled_written sequence_written s)
  handled-alone s [] e = handled-covered s e
  handled-alone s (d ∷ ds) e = cc

  covers-sequence_parts : (s : SequenceParts Sequence) (at : SequenceRole) → sequence_fits_by sequence_fits s at level ≡ true
      → Covers [] (in_body (names_in_parts names_in_sequence s)) (parts_written sequence_written s at)
  covers-sequence_parts s role.Statements e = statements-alone s s.declarations s.handlers e
  covers-sequence_parts s role.Handled e = handled-alone s s.declarations e
  covers-sequence_parts s role.Body e =
      covers-then (covers-each_plain (names_in_declaration names_in_sequence) (declaration_written sequence_written)
      (declaration_fits sequence_fits level) covers-declaration s.declarations (first_true _ _ e))
      (covers-skip _ (handled-covered s (second_true _ _ e)))

  covers-at_level : SequencesCovered level
  covers-at_level q at e = of-its-parts q at (covers-sequence_parts (out-Sequence q).parts at (sym (sequence_is_fit q at level) ∙ e))

below : (n m : ℕ) → suc m ≤ n → SequencesCovered m
below zero m less = absurd (omega arith)
below (suc n) m less = covers-at_level m (λ k lower. below n k (omega arith))

pub covers-sequence : (m : ℕ) → SequencesCovered m
covers-sequence m = below (suc m) m (omega arith)
