-- What legality finds in a sequence, a declaration or a library unit is worth at least what it tells of task and protected units.
use Rattle.std.proofs.Common.{◌≡◌, ℕ, ◌+◌, ◌≤◌, zero, suc, Bool, true, false, not, cond, ◌&&◌, List, [], ◌∷◌, ◌++◌}
use Rattle.std.proofs.Common.{Option, Some, None, is_some, option_map, unwrap_or, refl, sym, subst, ◌∙◌, arith}
use Rattle.std.specs.List.{flat_map, list_all}
use Rattle.ann_base.specs.declared.places.Place.{Place}
use Rattle.ada_tree.specs.declared.names.Identifier.{Identifier}
use Rattle.ada_tree.specs.declared.statements.SequenceRole.{SequenceRole}
use Rattle.ada_tree.specs.declared.statements.SequenceRole.TheVariants as role
use Rattle.ada_tree.specs.declared.statements.Sequence.{Sequence}
use Rattle.ada_tree.specs.declared.statements.Sequence.TheViews.{out-Sequence}
use Rattle.ada_tree.specs.declared.statements.SequenceParts.{SequenceParts}
use Rattle.ada_tree.specs.declared.statements.Statement.{Statement}
use Rattle.ada_tree.specs.declared.statements.Handler.{Handler}
use Rattle.ada_tree.specs.declared.declarations.Declaration.{Declaration}
use Rattle.ada_tree.specs.declared.declarations.Declaration.TheVariants as declaration
use Rattle.ada_tree.specs.declared.declarations.Body.{Body}
use Rattle.ada_tree.specs.declared.declarations.SubprogramSpecification.{SubprogramSpecification}
use Rattle.ada_tree.specs.declared.declarations.TaskDeclaration.{TaskDeclaration}
use Rattle.ada_tree.specs.declared.declarations.ProtectedDeclaration.{ProtectedDeclaration}
use Rattle.ada_tree.specs.declared.declarations.EntryHead.{EntryHead}
use Rattle.ada_tree.specs.declared.declarations.OperationBody.{OperationBody}
use Rattle.ada_tree.specs.declared.declarations.OperationBody.TheVariants as body_of
use Rattle.ada_tree.specs.ShapeStatements.{statement_fits, handler_fits, parts_fit}
use Rattle.ada_tree.specs.ShapeDeclarations.{specification_fits, entry_head_fits, body_fits, operation_body_fits, operations_fit, declaration_fits}
use Rattle.ada_tree.specs.Shape.{all_statements_fit, sequence_fits_by, sequence_fits}
use Rattle.ann_base.specs.Lists.{is_empty}
use Rattle.ada_tree.proofs.SequenceFits.{sequence_is_fit}
use Rattle.ada_legality.specs.declared.findings.BodyKind.{BodyKind}
use Rattle.ada_legality.specs.declared.findings.BodyKind.TheVariants as completing
use Rattle.ada_legality.specs.declared.findings.Finding.TheVariants as finding
use Rattle.ada_legality.specs.declared.rules.Rule.TheVariants as rule
use Rattle.ada_legality.specs.declared.standing.Known.{Known}
use Rattle.ada_legality.specs.declared.standing.Around.TheVariants as around
use Rattle.ada_legality.specs.Findings.{Found, broken_if, broken_unless}
use Rattle.ada_legality.specs.CallStatements.{all_found, parameters_found}
use Rattle.ada_legality.specs.SimpleStatements.{with_around}
use Rattle.ada_legality.specs.Profiles.{declaration_noted, body_noted}
use Rattle.ada_legality.specs.Statements.{handler_found, statement_found}
use Rattle.ada_legality.specs.Declarations.{task_found, protected_found, unit_here, is_unit_of, unit_body_judged, subprogram_here}
use Rattle.ada_legality.specs.Declarations.{entry_body_judged, barrier_found, subprogram_body_found, entry_body_found, operation_body_found}
use Rattle.ada_legality.specs.Declarations.{protected_body_found, task_body_found, declaration_found, parts_found, sequence_found}
use Rattle.ada_legality.proofs.SequenceFolds.{sequence_finds}
use Rattle.ada_regions.specs.declared.entities.UnitKind.{UnitKind}
use Rattle.ada_regions.specs.declared.entities.UnitKind.TheVariants as unit
use Rattle.ada_regions.specs.Names.{entity_denoted}
use Rattle.ada_regions.specs.Completions.{is_unit}
use Rattle.ada_regions.specs.Occurrences.{Occurrences, SequenceNames, Region, an_exception, a_task, a_protected, a_unit}
use Rattle.ada_regions.specs.Occurrences.{subprogram_body, entry_body, task_body, protected_body, begins, hides, heads, declares}
use Rattle.ada_regions.specs.Occurrences.{completes, is_called, mentions_entry, use_package, if_there, within_region, in_body}
use Rattle.ada_regions.specs.NamesInStatements.{names_in_statement, labels_in_statement, names_in_handler, labels_in_handler}
use Rattle.ada_regions.specs.NamesInDeclarations.{names_in_task_definition, names_in_task, names_in_operation, names_in_private, names_in_protected}
use Rattle.ada_regions.specs.NamesInDeclarations.{names_in_body, names_in_subprogram_body, names_in_entry_body, names_in_operation_body, names_in_declaration}
use Rattle.ada_regions.specs.NamesInUnits.{names_in_parts, names_in_sequence}
use Rattle.ada_regions.proofs.SequenceFolds.{sequence_tells}
use Rattle.grammar_laws.proofs.Reading.Exact.{first_true, second_true}
use Rattle.source_laws.proofs.Sources.Statements.{opened}
use Rattle.source_laws.proofs.Sources.Quiet.{Weights, worth, if_denoted, if_no_unit, body_tells, tells, Quiet, quiet-none, quiet-append}
use Rattle.source_laws.proofs.Sources.Quiet.{quiet-one, quiet-region, quiet-if_there, quiet-declares, quiet-expression, quiet-parameters}
use Rattle.source_laws.proofs.Sources.Quiet.{quiet-object, quiet-definition, quiet-subtype, quiet-aspects, quiet-profile}
use Rattle.source_laws.proofs.Sources.Quiet.{quiet-specification, quiet-task_definition, quiet-operations, quiet-private_part}
use Rattle.source_laws.proofs.Sources.Told.{Tells, worth-append, tells-none, tells-of_quiet, tells-both, tells-past, tells-quiet}
use Rattle.source_laws.proofs.Sources.Told.{tells-still, region-told, tells-region, tells-each, tells-all, quiet-each, quiet-all}
use Rattle.source_laws.proofs.Sources.Told.{SequenceTold, SequencesTold, tells-statement, labels-statement, tells-handler}

-- ---- declarations and bodies of units

-- what is noted of a declaration
noted-worth : (w : Weights) (k : Known) (kind : BodyKind) (i : Identifier) (place : Place)
    → worth w (declaration_noted k kind i place) ≡ if_denoted (w.declared kind) (entity_denoted k.names i.place)
unfolding declaration_noted
noted-worth w k kind i place = go (entity_denoted k.names i.place)
  where
    go : (x : Option ℕ) → worth w (unwrap_or (option_map (λ e. finding.Declared kind e place ∷ []) x) []) ≡ if_denoted (w.declared kind) x
    go None = refl
    go (Some e) = omega arith

judged-worth : (w : Weights) (k : Known) (kind : UnitKind) (of_kind : BodyKind) (i : Identifier)
    → worth w (unit_body_judged kind of_kind i k) ≡ body_tells w k.names kind of_kind i
unfolding unit_body_judged body_noted is_unit_of
judged-worth w k kind of_kind i = go (entity_denoted k.names i.place)
  where
    broken-worth : (t : Bool) (place : Place) → worth w (broken_if rule.KindOfName (not t) place) ≡ cond t 0 w.broken
    broken-worth true place = refl
    broken-worth false place = omega arith

    go : (x : Option ℕ)
        → worth w (broken_unless rule.KindOfName (unwrap_or (option_map (is_unit kind k.names) x) false) i.place
        ++ unwrap_or (option_map (λ e. finding.Completed of_kind e ∷ []) x) [])
        ≡ if_no_unit w.broken k.names kind x + if_denoted (w.completed of_kind) x
    go None = omega arith
    go (Some e) =
        let h = worth-append w (broken_unless rule.KindOfName (is_unit kind k.names e) i.place) (finding.Completed of_kind e ∷ []) in
        let g = broken-worth (is_unit kind k.names e) i.place in
        omega arith

module _ (w : Weights) where
  tells-task : (k : Known) (t : TaskDeclaration) → Tells w k.names (names_in_task t) (task_found t k)
  unfolding task_found
  tells-task k t =
      tells-still (hides t.name) (λ w n. refl) (tells-quiet (quiet-aspects t.aspects) (declared-told k (declaration_noted k completing.Task t.name t.place) _
      (noted-worth w k completing.Task t.name t.place)))
    where
      declared-told : (k : Known) (v u : Found) → worth w v ≡ if_denoted (w.declared completing.Task) (entity_denoted k.names t.name.place)
          → Tells w k.names (declares t.name (a_task t.is_type t.aspects) ∷ within_region (a_unit t.name) (if_there names_in_task_definition t.definition))
          (v ++ u)
      declared-told k v u e = record {
        at = (let h = worth-append w v u in
            let q =
            (quiet-region {a = if_there names_in_task_definition t.definition} (a_unit t.name) (λ w n. refl)
            (quiet-if_there names_in_task_definition quiet-task_definition t.definition)).at w k.names in
            omega arith);
      }

  tells-protected : (k : Known) (p : ProtectedDeclaration) → Tells w k.names (names_in_protected p) (protected_found p k)
  unfolding protected_found
  tells-protected k p =
      tells-still (hides p.name) (λ w n. refl)
      (tells-quiet (quiet-aspects p.aspects) (declared-told k (declaration_noted k completing.Protected p.name p.place) _
      (noted-worth w k completing.Protected p.name p.place)))
    where
      declared-told : (k : Known) (v u : Found) → worth w v ≡ if_denoted (w.declared completing.Protected) (entity_denoted k.names p.name.place)
          → Tells w k.names
          (declares p.name (a_protected p.is_type p.aspects)
          ∷ within_region (a_unit p.name) (flat_map names_in_operation p.operations ++ if_there names_in_private p.components))
          (v ++ u)
      declared-told k v u e = record {
        at = (let h = worth-append w v u in
            let q =
            (quiet-region {a = flat_map names_in_operation p.operations ++ if_there names_in_private p.components} (a_unit p.name) (λ w n. refl)
            (quiet-append (quiet-operations p.operations) (quiet-private_part p.components))).at w k.names in
            omega arith);
      }

  -- the region of a unit's body
  body-told : (k : Known) (r : Region) (kind : UnitKind) (of_kind : BodyKind) (i : Identifier) (os : Occurrences) (fs : Found)
      → tells w k.names (begins r) ≡ body_tells w k.names kind of_kind i → Tells w k.names os fs
      → Tells w k.names (within_region r os) (unit_body_judged kind of_kind i k ++ fs)
  body-told k r kind of_kind i os fs e x = record {
    at =
        (let h = worth-append w (unit_body_judged kind of_kind i k) fs in
        let g = judged-worth w k kind of_kind i in let f = region-told w k.names r os in let s = x.at in omega arith);
  }

module _ (level : ℕ) (all : (m : ℕ) → suc m ≤ level → SequencesTold m) where
  told-body : (m : ℕ) → suc m ≤ level → (b : Body Sequence) → sequence_fits b.sequence role.Body m ≡ true → SequenceTold b.sequence
  told-body m less b e = all m less b.sequence role.Body e

  pub told-whole_body : (b : Body Sequence) → body_fits sequence_fits level b ≡ true → SequenceTold b.sequence
  told-whole_body b e = let inside = opened level (sequence_fits b.sequence role.Body) e in told-body inside.inner inside.less b inside.holds

  module _ (w : Weights) where
    tells-subprogram : (k : Known) (s : SubprogramSpecification) (b : Body Sequence) → SequenceTold b.sequence
        → Tells w k.names (names_in_subprogram_body names_in_sequence s b) (subprogram_body_found sequence_found s b k)
    unfolding subprogram_body_found
    tells-subprogram k s b inside =
        tells-still (heads s.name) (λ w n. refl)
        (tells-region (subprogram_body s.place (is_some s.result)) (λ w n. refl)
        (tells-quiet (quiet-profile true s) (tells-still (completes s.name s) (λ w n. refl)
        (tells-past _ (tells-past _ (inside.whole w (with_around (around.Subprogram (subprogram_here k s)) k)))))))

    tells-entry_body : (k : Known) (h : EntryHead) (b : Body Sequence) → SequenceTold b.sequence
        → Tells w k.names (names_in_entry_body names_in_sequence h b) (entry_body_found sequence_found h b k)
    unfolding entry_body_found
    tells-entry_body k h b inside =
        let inner = with_around (around.Entry (entity_denoted k.names h.name.place)) k in
        tells-still (mentions_entry h.name) (λ w n. refl)
        (tells-region (entry_body h.name h.place h.barrier) (λ w n. refl)
        (tells-quiet (quiet-parameters true h.parameters) (tells-quiet (quiet-expression h.barrier)
        (tells-still (is_called h.name) (λ w n. refl)
        (tells-past (entry_body_judged h k)
        (tells-past (parameters_found false false h.parameters k) (tells-past (barrier_found h.barrier inner) (inside.whole w inner))))))))

    tells-operation_body : (m : ℕ) → suc m ≤ level → (k : Known) (o : OperationBody Sequence) → operation_body_fits sequence_fits m o ≡ true
        → Tells w k.names (names_in_operation_body names_in_sequence o) (operation_body_found sequence_found o k)
    tells-operation_body m less k (body_of.Subprogram s b) fits =
        let inside = opened m (sequence_fits b.sequence role.Body) (second_true (specification_fits m s) (body_fits sequence_fits m b) fits) in
        tells-subprogram k s b (told-body inside.inner (let h = inside.less in omega arith) b inside.holds)
    tells-operation_body m less k (body_of.Entry h b) fits =
        let inside = opened m (sequence_fits b.sequence role.Body) (second_true (entry_head_fits m h) (body_fits sequence_fits m b) fits) in
        tells-entry_body k h b (told-body inside.inner (let h = inside.less in omega arith) b inside.holds)

    tells-task_body : (k : Known) (place : Place) (name : Identifier) (b : Body Sequence) → SequenceTold b.sequence
        → Tells w k.names (within_region (task_body name place) (names_in_body names_in_sequence b)) (task_body_found sequence_found name b k)
    unfolding task_body_found
    tells-task_body k place name b inside =
        body-told w k (task_body name place) unit.Task completing.Task name _ _ refl (inside.whole w (with_around (around.Task (unit_here k name)) k))

    pub tells-declaration : (k : Known) (d : Declaration Sequence) → declaration_fits sequence_fits level d ≡ true
        → Tells w k.names (names_in_declaration names_in_sequence d) (declaration_found sequence_found d k)
    unfolding protected_body_found
    tells-declaration k (declaration.Object o) fits = tells-of_quiet _ (quiet-object o)
    tells-declaration k (declaration.Type t) fits = tells-of_quiet _ (quiet-definition t.name t.definition)
    tells-declaration k (declaration.Subtype s) fits = tells-of_quiet _ (quiet-subtype s)
    tells-declaration k (declaration.Exception names) fits = tells-of_quiet _ (quiet-declares an_exception (λ i w n. refl) names)
    tells-declaration k (declaration.Subprogram s) fits = tells-of_quiet _ (quiet-specification s)
    tells-declaration k (declaration.SubprogramBody s body) fits =
        tells-subprogram k s body (told-whole_body body (second_true (specification_fits level s) (body_fits sequence_fits level body) fits))
    tells-declaration k (declaration.Task t) fits = tells-task w k t
    tells-declaration k (declaration.TaskBody place name body) fits = tells-task_body k place name body (told-whole_body body fits)
    tells-declaration k (declaration.Protected p) fits = tells-protected w k p
    tells-declaration k (declaration.ProtectedBody p) fits =
        let inside = opened level (operations_fit sequence_fits p.operations) fits in
        let inner = with_around (around.Protected (unit_here k p.name)) k in
        body-told w k (protected_body p.name) unit.Protected completing.Protected p.name (flat_map (names_in_operation_body names_in_sequence) p.operations)
        (all_found (operation_body_found sequence_found) p.operations inner) refl
        (tells-each inner (names_in_operation_body names_in_sequence) (operation_body_found sequence_found) (operation_body_fits sequence_fits inside.inner)
        (tells-operation_body inside.inner inside.less inner) p.operations inside.holds)
    tells-declaration k (declaration.Use place name) fits = tells-of_quiet _ (quiet-one (use_package name) (λ w n. refl))

  -- ---- sequences

  within-level : (m : ℕ) → suc m ≤ level → (k : ℕ) → k ≤ m → SequencesTold k
  within-level m less k le = all k (omega arith)

  tells-one : (w : Weights) (k : Known) (s : Statement Sequence) → statement_fits sequence_fits level s ≡ true
      → Tells w k.names (names_in_statement names_in_sequence s) (statement_found sequence_found s k)
  tells-one w k s e =
      let inside = opened level (parts_fit sequence_fits s) e in tells-statement inside.inner (within-level inside.inner inside.less) w k s inside.holds

  labels-one : (s : Statement Sequence) → statement_fits sequence_fits level s ≡ true → Quiet (labels_in_statement names_in_sequence s)
  labels-one s e =
      let inside = opened level (parts_fit sequence_fits s) e in labels-statement inside.inner (within-level inside.inner inside.less) s inside.holds

  -- a sequence tells as much as its parts
  abbrev PartsTold : SequenceParts Sequence → Type 0
  PartsTold s =
      Quiet (names_in_parts names_in_sequence s).labels
      × ((w : Weights) (k : Known) → Tells w k.names (in_body (names_in_parts names_in_sequence s)) (parts_found sequence_found s k))

  of-its-parts : (q : Sequence) → PartsTold (out-Sequence q).parts → SequenceTold q
  of-its-parts q here = record {
    labels = subst (λ (names : SequenceNames). Quiet names.labels) (sym (sequence_tells q)) here.0;
    whole = λ w k.
        subst (λ names. Tells w k.names (in_body names) (sequence_found q k)) (sym (sequence_tells q))
        (subst (λ fs. Tells w k.names (in_body (names_in_parts names_in_sequence (out-Sequence q).parts)) fs) (sym (sequence_finds q k)) (here.1 w k));
  }

  abbrev HandlersTold : List (Handler Sequence) → Type 0
  HandlersTold hs =
      Quiet (flat_map (labels_in_handler names_in_sequence) hs)
      × ((w : Weights) (k : Known) → Tells w k.names (flat_map (names_in_handler names_in_sequence) hs) (all_found (handler_found sequence_found) hs k))

  told-parts : (s : SequenceParts Sequence) → all_statements_fit sequence_fits s level ≡ true → HandlersTold s.handlers
      → list_all (declaration_fits sequence_fits level) s.declarations ≡ true → PartsTold s
  unfolding parts_found
  told-parts s fits handled declarations =
      let labels =
      quiet-append (quiet-all (labels_in_statement names_in_sequence) (statement_fits sequence_fits level) labels-one s.statements fits) handled.0 in (
        labels,
        λ w k.
            tells-both (tells-each k (names_in_declaration names_in_sequence) (declaration_found sequence_found) (declaration_fits sequence_fits level)
            (tells-declaration w k) s.declarations declarations)
            (tells-quiet labels
            (tells-both (tells-all k (names_in_statement names_in_sequence) (statement_found sequence_found) (statement_fits sequence_fits level)
            (tells-one w k) s.statements fits)
            (tells-past _ (handled.1 w k)))),
      )

  none-fit : (ds : List (Declaration Sequence)) → is_empty ds ≡ true → list_all (declaration_fits sequence_fits level) ds ≡ true
  none-fit [] e = refl
  none-fit (d ∷ ds) e = cc

  none-handled : (hs : List (Handler Sequence)) → is_empty hs ≡ true → HandlersTold hs
  none-handled [] e = (quiet-none, λ w k. tells-none _)
  none-handled (h ∷ hs) e = absurd cc

  -- statements alone have no handlers, so handlers may have them at the same level
  statements-told : (q : Sequence) → sequence_fits q role.Statements level ≡ true → SequenceTold q
  statements-told q e =
      let s = (out-Sequence q).parts in
      let fits : (is_empty s.declarations && (is_empty s.handlers && all_statements_fit sequence_fits s level)) ≡ true =
      sym (sequence_is_fit q role.Statements level) ∙ e in
      let behind = second_true _ _ fits in
      of-its-parts q (told-parts s (second_true _ _ behind) (none-handled s.handlers (first_true _ _ behind)) (none-fit s.declarations (first_true _ _ fits)))

  handlers-told : (hs : List (Handler Sequence)) → list_all (handler_fits sequence_fits level) hs ≡ true → HandlersTold hs
  handlers-told hs e = (
    quiet-each (labels_in_handler names_in_sequence) (handler_fits sequence_fits level) (λ h f. (statements-told h.statements f).labels) hs e,
    λ w k. tells-each k (names_in_handler names_in_sequence) (handler_found sequence_found) (handler_fits sequence_fits level)
        (λ h f. tells-handler w k h (statements-told h.statements f)) hs e,
  )

  told-by_role : (s : SequenceParts Sequence) (at : SequenceRole) → sequence_fits_by sequence_fits s at level ≡ true → PartsTold s
  told-by_role s role.Statements e =
      let behind = second_true _ _ e in
      told-parts s (second_true _ _ behind) (none-handled s.handlers (first_true _ _ behind)) (none-fit s.declarations (first_true _ _ e))
  told-by_role s role.Handled e =
      let behind = second_true _ _ e in
      told-parts s (first_true _ _ behind) (handlers-told s.handlers (second_true _ _ behind)) (none-fit s.declarations (first_true _ _ e))
  told-by_role s role.Body e =
      let behind = second_true _ _ e in told-parts s (first_true _ _ behind) (handlers-told s.handlers (second_true _ _ behind)) (first_true _ _ e)

  told-at_level : SequencesTold level
  told-at_level q at e = of-its-parts q (told-by_role (out-Sequence q).parts at (sym (sequence_is_fit q at level) ∙ e))

below : (n m : ℕ) → suc m ≤ n → SequencesTold m
below zero m less = absurd (omega arith)
below (suc n) m less = told-at_level m (λ k lower. below n k (omega arith))

pub told-sequence : (m : ℕ) → SequencesTold m
told-sequence m = below (suc m) m (omega arith)
