-- The scopes of a sequence, or of a declaration, are those of places at which no more of them stand than the text numbers, and
-- than tokens.
use Rattle.std.proofs.Common.{◌≡◌, ℕ, zero, suc, ◌≤◌, Bool, true, false, ◌&&◌, List, [], ◌∷◌, ◌++◌, None, is_some, refl, sym, subst, ◌∙◌, arith}
use Rattle.std.specs.Prelude.{codes}
use Rattle.std.specs.List.{flat_map, list_all}
use Rattle.ada_tree.specs.declared.names.Identifier.{Identifier}
use Rattle.ada_tree.specs.declared.statements.SequenceRole.{SequenceRole}
use Rattle.ada_tree.specs.declared.statements.SequenceRole.TheVariants as role
use Rattle.ada_tree.specs.declared.statements.Sequence.{Sequence}
use Rattle.ada_tree.specs.declared.statements.Sequence.TheViews.{out-Sequence}
use Rattle.ada_tree.specs.declared.statements.SequenceParts.{SequenceParts}
use Rattle.ada_tree.specs.declared.statements.Statement.{Statement}
use Rattle.ada_tree.specs.declared.statements.Handler.{Handler}
use Rattle.ada_tree.specs.declared.declarations.Declaration.{Declaration}
use Rattle.ada_tree.specs.declared.declarations.Declaration.TheVariants as declaration
use Rattle.ada_tree.specs.declared.declarations.Body.{Body}
use Rattle.ada_tree.specs.declared.declarations.SubprogramSpecification.{SubprogramSpecification}
use Rattle.ada_tree.specs.declared.declarations.EntryHead.{EntryHead}
use Rattle.ada_tree.specs.declared.declarations.OperationBody.{OperationBody}
use Rattle.ada_tree.specs.declared.declarations.OperationBody.TheVariants as body_of
use Rattle.ada_tree.specs.Written.{word, word_at, identifier_written, optional}
use Rattle.ada_tree.specs.SpellingExpressions.{expression_written}
use Rattle.ada_tree.specs.SpellingStatements.{parameters_written, statement_written, handler_written}
use Rattle.ada_tree.specs.SpellingDeclarations.{aspects_written, overriding_written, subprogram_word, result_written, specification_written}
use Rattle.ada_tree.specs.SpellingDeclarations.{entry_head_written, body_written, operation_body_written, declaration_written}
use Rattle.ada_tree.specs.Spelling.{handlers_written, handled_written, parts_written, sequence_written}
use Rattle.ada_tree.specs.ShapeStatements.{statement_fits, handler_fits, parts_fit}
use Rattle.ada_tree.specs.ShapeDeclarations.{specification_fits, entry_head_fits, body_fits, operation_body_fits, operations_fit, declaration_fits}
use Rattle.ada_tree.specs.Shape.{handled_fits, sequence_fits}
use Rattle.ann_base.specs.Lists.{is_empty}
use Rattle.ada_tree.proofs.SequenceFolds.{sequence_is_written}
use Rattle.ada_tree.proofs.SequenceFits.{sequence_is_fit}
use Rattle.ada_regions.specs.declared.table.Names.{Names}
use Rattle.ada_regions.specs.Occurrences.{Occurrences, SequenceNames, subprogram_body, entry_body, task_body}
use Rattle.ada_regions.specs.Occurrences.{protected_body, heads, completes, is_called, mentions_entry, in_body}
use Rattle.ada_regions.specs.NamesInExpressions.{names_in_expression}
use Rattle.ada_regions.specs.NamesInStatements.{names_in_parameters, names_in_statement, names_in_handler}
use Rattle.ada_regions.specs.NamesInDeclarations.{names_in_profile, names_in_body, names_in_subprogram_body}
use Rattle.ada_regions.specs.NamesInDeclarations.{names_in_entry_body, names_in_operation_body, names_in_declaration}
use Rattle.ada_regions.specs.NamesInUnits.{names_in_parts, names_in_sequence}
use Rattle.ada_regions.proofs.SequenceFolds.{sequence_tells}
use Rattle.ada_image.specs.declared.making.SequencePlace.{SequencePlace}
use Rattle.ada_image.specs.declared.making.SequencePlace.TheVariants as sequence_place
use Rattle.image_laws.specs.ScopesOfText.{body_scopes, handler_scopes, statement_scopes, statements_scopes, operation_scopes, operations_scopes}
use Rattle.image_laws.specs.ScopesOfText.{declaration_scopes, declarations_scopes, handled_scopes, parts_scopes, sequence_scopes}
use Rattle.grammar_laws.proofs.Reading.Exact.{first_true, second_true}
use Rattle.source_laws.proofs.Sources.Statements.{opened}
use Rattle.source_laws.proofs.Accepted.ScopeFolds.{sequence_begins}
use Rattle.source_laws.proofs.Accepted.Counting.{Begins, begins-none, begins-both, begins-turned, begins-skip, begins-front}
use Rattle.source_laws.proofs.Accepted.Counting.{begins-quiet, begins-behind, begins-before, begins-region, begins-scope, begins-among}
use Rattle.source_laws.proofs.Accepted.Statements.{SequencesBegin, begins-handler, begins-statement}

module _ (n : Names) (level : ℕ) (all : (m : ℕ) → suc m ≤ level → SequencesBegin n m) where
  -- ---- bodies

  abbrev BodyBegins : Identifier → Bool → Body Sequence → Type 0
  BodyBegins name is_task_body b =
      Begins n (sequence_scopes b.sequence (sequence_place.AsBody is_task_body) n) (names_in_body names_in_sequence b) (body_written sequence_written name b)

  pub begins-body : (m : ℕ) → m ≤ level → (name : Identifier) (is_task_body : Bool) (b : Body Sequence) → body_fits sequence_fits m b ≡ true
      → Begins n (sequence_scopes b.sequence (sequence_place.AsBody is_task_body) n) (names_in_body names_in_sequence b) (body_written sequence_written name b)
  begins-body m le name is_task_body b e =
      let inside = opened m (sequence_fits b.sequence role.Body) e in
      begins-skip _ (begins-front _ ((all inside.inner (let h = inside.less in omega arith)).body b.sequence is_task_body inside.holds))

  begins-subprogram : (s : SubprogramSpecification) (b : Body Sequence) → BodyBegins s.name false b
      → Begins n (body_scopes sequence_scopes s.place false b.sequence n) (names_in_subprogram_body names_in_sequence s b)
      (specification_written s ++ body_written sequence_written s.name b)
  begins-subprogram s b inside =
      begins-quiet (heads s.name)
      (begins-among (optional overriding_written s.overriding) (word_at s.place (subprogram_word s.result))
      (identifier_written s.name ∷ (parameters_written s.parameters ++ (optional result_written s.result ++ aspects_written s.aspects)))
      (begins-scope (subprogram_body s.place (is_some s.result)) s.place (subprogram_word s.result) refl
      (begins-behind (names_in_profile true s) (begins-quiet (completes s.name s) inside))))

  begins-entry_body : (h : EntryHead) (b : Body Sequence) → BodyBegins h.name false b
      → Begins n (body_scopes sequence_scopes h.place false b.sequence n) (names_in_entry_body names_in_sequence h b)
      (entry_head_written h ++ body_written sequence_written h.name b)
  begins-entry_body h b inside =
      begins-quiet (mentions_entry h.name)
      (begins-among [] (word_at h.place (codes "entry"))
      (identifier_written h.name ∷ (parameters_written h.parameters ++ word (codes "when") ∷ expression_written h.barrier))
      (begins-scope (entry_body h.name h.place h.barrier) h.place (codes "entry") refl
      (begins-behind (names_in_parameters true h.parameters) (begins-behind (names_in_expression h.barrier) (begins-quiet (is_called h.name) inside)))))

  begins-operation_body : (m : ℕ) → m ≤ level → (o : OperationBody Sequence) → operation_body_fits sequence_fits m o ≡ true
      → Begins n (operation_scopes sequence_scopes o n) (names_in_operation_body names_in_sequence o) (operation_body_written sequence_written o)
  begins-operation_body m le (body_of.Subprogram s b) fits =
      begins-subprogram s b (begins-body m le s.name false b (second_true (specification_fits m s) (body_fits sequence_fits m b) fits))
  begins-operation_body m le (body_of.Entry h b) fits =
      begins-entry_body h b (begins-body m le h.name false b (second_true (entry_head_fits m h) (body_fits sequence_fits m b) fits))

  begins-operations : (m : ℕ) → m ≤ level → (os : List (OperationBody Sequence)) → list_all (operation_body_fits sequence_fits m) os ≡ true
      → Begins n (operations_scopes sequence_scopes os n) (flat_map (names_in_operation_body names_in_sequence) os)
      (flat_map (operation_body_written sequence_written) os)
  begins-operations m le [] fits = begins-none _ _
  begins-operations m le (o ∷ os) fits = begins-turned (begins-operation_body m le o (first_true _ _ fits)) (begins-operations m le os (second_true _ _ fits))

  begins-declaration : (d : Declaration Sequence) → declaration_fits sequence_fits level d ≡ true
      → Begins n (declaration_scopes sequence_scopes d n) (names_in_declaration names_in_sequence d) (declaration_written sequence_written d)
  begins-declaration (declaration.Object o) fits = begins-none _ _
  begins-declaration (declaration.Type t) fits = begins-none _ _
  begins-declaration (declaration.Subtype s) fits = begins-none _ _
  begins-declaration (declaration.Exception names) fits = begins-none _ _
  begins-declaration (declaration.Subprogram s) fits = begins-none _ _
  begins-declaration (declaration.SubprogramBody s body) fits =
      begins-subprogram s body
      (begins-body level (omega arith) s.name false body (second_true (specification_fits level s) (body_fits sequence_fits level body) fits))
  begins-declaration (declaration.Task t) fits = begins-none _ _
  begins-declaration (declaration.TaskBody place name body) fits =
      begins-scope (task_body name place) place (codes "task") refl (begins-skip _ (begins-skip _ (begins-body level (omega arith) name true body fits)))
  begins-declaration (declaration.Protected p) fits = begins-none _ _
  begins-declaration (declaration.ProtectedBody p) fits =
      let inside = opened level (operations_fit sequence_fits p.operations) fits in
      begins-region (protected_body p.name) (begins-skip _ (begins-skip _ (begins-skip _ (begins-skip _ (begins-front _
      (begins-operations inside.inner (let h = inside.less in omega arith) p.operations inside.holds))))))
  begins-declaration (declaration.Use place name) fits = begins-none _ _

  pub begins-declarations : (ds : List (Declaration Sequence)) → list_all (declaration_fits sequence_fits level) ds ≡ true
      → Begins n (declarations_scopes sequence_scopes ds n) (flat_map (names_in_declaration names_in_sequence) ds)
      (flat_map (declaration_written sequence_written) ds)
  begins-declarations [] fits = begins-none _ _
  begins-declarations (d ∷ ds) fits = begins-turned (begins-declaration d (first_true _ _ fits)) (begins-declarations ds (second_true _ _ fits))

  -- ---- statements

  within-level : (m : ℕ) → suc m ≤ level → (k : ℕ) → k ≤ m → SequencesBegin n k
  within-level m less k le = all k (omega arith)

  begins-one : (s : Statement Sequence) → statement_fits sequence_fits level s ≡ true
      → Begins n (statement_scopes sequence_scopes s n) (names_in_statement names_in_sequence s) (statement_written sequence_written s)
  begins-one s e =
      let inside = opened level (parts_fit sequence_fits s) e in begins-statement n inside.inner (within-level inside.inner inside.less) s inside.holds

  begins-statements : (ss : List (Statement Sequence)) → list_all (statement_fits sequence_fits level) ss ≡ true
      → Begins n (statements_scopes sequence_scopes ss n) (flat_map (names_in_statement names_in_sequence) ss)
      (flat_map (statement_written sequence_written) ss)
  begins-statements [] e = begins-none _ _
  begins-statements (s ∷ ss) e = begins-both (begins-one s (first_true _ _ e)) (begins-statements ss (second_true _ _ e))

  -- a part of what a sequence tells, given that of its parts
  of-its-parts : (q : Sequence) (place : SequencePlace) (at : SequenceRole) (part : SequenceNames → Occurrences)
      → Begins n (parts_scopes sequence_scopes (out-Sequence q).parts place n) (part (names_in_parts names_in_sequence (out-Sequence q).parts))
      (parts_written sequence_written (out-Sequence q).parts at)
      → Begins n (sequence_scopes q place n) (part (names_in_sequence q)) (sequence_written q at)
  of-its-parts q place at part here =
      subst (λ scopes. Begins n scopes (part (names_in_sequence q)) (sequence_written q at)) (sym (sequence_begins q place n))
      (subst (λ names. Begins n (parts_scopes sequence_scopes (out-Sequence q).parts place n) (part names) (sequence_written q at)) (sym (sequence_tells q))
      (subst (λ ws. Begins n (parts_scopes sequence_scopes (out-Sequence q).parts place n) (part (names_in_parts names_in_sequence (out-Sequence q).parts)) ws)
      (sym (sequence_is_written q at)) here))

  begins-alone : (q : Sequence) → sequence_fits q role.Statements level ≡ true
      → Begins n (sequence_scopes q sequence_place.StatementsAlone n) (names_in_sequence q).statements (sequence_written q role.Statements)
  begins-alone q e =
      let parts = (out-Sequence q).parts in
      of-its-parts q sequence_place.StatementsAlone role.Statements (λ s. s.statements)
      (begins-before _
      (begins-statements (parts.statements.first ∷ parts.statements.others)
      (second_true _ _ (second_true _ _ (sym (sequence_is_fit q role.Statements level) ∙ e)))))

  -- ---- handlers: statements alone have none, so handlers may have them at the same level

  begins-each_handler : (hs : List (Handler Sequence)) → list_all (handler_fits sequence_fits level) hs ≡ true
      → Begins n (handler_scopes sequence_scopes hs n) (flat_map (names_in_handler names_in_sequence) hs) (flat_map (handler_written sequence_written) hs)
  begins-each_handler [] e = begins-none _ _
  begins-each_handler (h ∷ hs) e = begins-turned (begins-handler h (begins-alone h.statements (first_true _ _ e))) (begins-each_handler hs (second_true _ _ e))

  begins-handlers : (hs : List (Handler Sequence)) → list_all (handler_fits sequence_fits level) hs ≡ true
      → Begins n (handler_scopes sequence_scopes hs n) (flat_map (names_in_handler names_in_sequence) hs) (handlers_written sequence_written hs)
  begins-handlers [] e = begins-none _ _
  begins-handlers (h ∷ hs) e = begins-skip _ (begins-each_handler (h ∷ hs) e)

  begins-handled : (s : SequenceParts Sequence) → handled_fits sequence_fits s level ≡ true
      → Begins n (handled_scopes sequence_scopes s n) (names_in_parts names_in_sequence s).statements (handled_written sequence_written s)
  begins-handled s e =
      begins-turned (begins-statements (s.statements.first ∷ s.statements.others) (first_true _ _ e)) (begins-handlers s.handlers (second_true _ _ e))

  -- ---- all of a sequence

  begins-bare : (s : SequenceParts Sequence) (ds : List (Declaration Sequence)) → (is_empty ds && handled_fits sequence_fits s level) ≡ true
      → Begins n (handled_scopes sequence_scopes s n ++ declarations_scopes sequence_scopes ds n)
      (in_body (names_in_parts names_in_sequence (record s { declarations = ds }))) (handled_written sequence_written s)
  begins-bare s [] e = begins-turned (begins-none [] []) (begins-behind (names_in_parts names_in_sequence s).labels (begins-handled s e))
  begins-bare s (d ∷ ds) e = cc

  begins-whole : (s : SequenceParts Sequence) → (list_all (declaration_fits sequence_fits level) s.declarations && handled_fits sequence_fits s level) ≡ true
      → Begins n (handled_scopes sequence_scopes s n ++ declarations_scopes sequence_scopes s.declarations n) (in_body (names_in_parts names_in_sequence s))
      (parts_written sequence_written s role.Body)
  begins-whole s e =
      begins-turned (begins-declarations s.declarations (first_true _ _ e))
      (begins-skip _ (begins-behind (names_in_parts names_in_sequence s).labels (begins-handled s (second_true _ _ e))))

  begins-at_level : SequencesBegin n level
  begins-at_level = record {
    statements = begins-alone;
    handled =
        λ q e. of-its-parts q (sequence_place.BehindDeclarations None) role.Handled (λ s. s.statements)
        (begins-handled (out-Sequence q).parts (second_true _ _ (sym (sequence_is_fit q role.Handled level) ∙ e)));
    bare =
        λ q is_task_body e. of-its-parts q (sequence_place.AsBody is_task_body) role.Handled in_body
        (begins-bare (out-Sequence q).parts (out-Sequence q).parts.declarations (sym (sequence_is_fit q role.Handled level) ∙ e));
    body =
        λ q is_task_body e. of-its-parts q (sequence_place.AsBody is_task_body) role.Body in_body
        (begins-whole (out-Sequence q).parts (sym (sequence_is_fit q role.Body level) ∙ e));
  }

below : (n : Names) (bound m : ℕ) → suc m ≤ bound → SequencesBegin n m
below n zero m less = absurd (omega arith)
below n (suc bound) m less = begins-at_level n m (λ k lower. below n bound k (omega arith))

pub begins-sequence : (n : Names) (m : ℕ) → SequencesBegin n m
begins-sequence n m = below n (suc m) m (omega arith)
