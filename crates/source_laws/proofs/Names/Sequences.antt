-- What a sequence tells, its declarations, its labels and its statements, leaves the regions around as they were.
use Rattle.std.proofs.Common.{true, ◌∷◌, ◌++◌, Option, Some, None, is_some, sym, ap, subst, ◌∙◌}
use Rattle.ann_base.specs.declared.places.Place.{Place}
use Rattle.ada_tree.specs.declared.statements.Sequence.{Sequence}
use Rattle.ada_tree.specs.declared.statements.Sequence.TheOpen.{Sequence-F}
use Rattle.ada_tree.specs.declared.statements.Sequence.TheViews.{roll-Sequence, out-roll-Sequence}
use Rattle.ada_tree.specs.declared.statements.Sequence.TheFolds.{ind-Sequence}
use Rattle.ada_tree.specs.declared.statements.SequenceParts.{SequenceParts}
use Rattle.ada_tree.specs.declared.statements.Statement.{Statement}
use Rattle.ada_tree.specs.declared.statements.Statement.TheVariants as statement
use Rattle.ada_tree.specs.declared.statements.If.{If}
use Rattle.ada_tree.specs.declared.statements.Accept.{Accept}
use Rattle.ada_tree.specs.declared.statements.AcceptBody.{AcceptBody}
use Rattle.ada_tree.specs.declared.selects.SelectForm.{SelectForm}
use Rattle.ada_tree.specs.declared.selects.SelectForm.TheVariants as select
use Rattle.ada_tree.specs.declared.selects.SelectiveAccept.{SelectiveAccept}
use Rattle.ada_tree.specs.declared.selects.SelectAlternative.{SelectAlternative}
use Rattle.ada_tree.specs.declared.selects.Alternative.{Alternative}
use Rattle.ada_tree.specs.declared.selects.Alternative.TheVariants as alternative
use Rattle.ada_tree.specs.declared.selects.TimedEntryCall.{TimedEntryCall}
use Rattle.ada_tree.specs.declared.selects.ConditionalEntryCall.{ConditionalEntryCall}
use Rattle.ada_tree.specs.declared.selects.AsynchronousSelect.{AsynchronousSelect}
use Rattle.ada_tree.specs.declared.declarations.OperationBody.{OperationBody}
use Rattle.ada_tree.specs.declared.declarations.OperationBody.TheVariants as body_of
use Rattle.ada_tree.specs.declared.declarations.Declaration.{Declaration}
use Rattle.ada_tree.specs.declared.declarations.Declaration.TheVariants as declaration
use Rattle.ada_tree.specs.declared.declarations.SubprogramSpecification.{SubprogramSpecification}
use Rattle.ada_tree.specs.declared.declarations.EntryHead.{EntryHead}
use Rattle.ada_regions.specs.Occurrences.{SequenceNames, an_exception, an_accept, a_block, a_loop, subprogram_body, task_body, protected_body, entry_body}
use Rattle.ada_regions.specs.Occurrences.{heads, completes, is_called, mentions, mentions_simply, mentions_entry, use_package, one, in_body, within_region}
use Rattle.ada_regions.specs.NamesInExpressions.{names_in_expression}
use Rattle.ada_regions.specs.NamesInStatements.{label_name, names_in_parameters, names_in_choice, names_in_guard, names_in_statement}
use Rattle.ada_regions.specs.NamesInStatements.{labels_in_statement, names_in_select_alternative, labels_in_select_alternative}
use Rattle.ada_regions.specs.NamesInDeclarations.{names_in_profile, names_in_operation_body, names_in_declaration}
use Rattle.ada_regions.specs.NamesInUnits.{names_in_sequence, names_in_parts}
use Rattle.ada_regions.proofs.SequenceFolds.{sequence_tells}
use Rattle.source_laws.proofs.Names.Texts.{Inside, inside-none, inside-append, inside-one, inside-cons}
use Rattle.source_laws.proofs.Names.Texts.{inside-region, inside-flat, inside-in_all, inside-if_there}
use Rattle.source_laws.proofs.Names.Expressions.{inside-expression, inside-flat_of_map}
use Rattle.source_laws.proofs.Names.Insides.{inside-optional, inside-declares_all, inside-parameters, inside-assignment, inside-call}
use Rattle.source_laws.proofs.Names.Insides.{inside-delay, inside-choice, inside-iteration, inside-exit, inside-exceptions}
use Rattle.source_laws.proofs.Names.Insides.{inside-guard, inside-trigger, inside-label, inside-object, inside-definition}
use Rattle.source_laws.proofs.Names.Insides.{inside-subtype, inside-profile, inside-specification, inside-task, inside-protected}
use Rattle.image_laws.proofs.Images.Layers.{mapped, mapped_statement, mapped_alternative, mapped_operation, mapped_declaration}

pub record InsideAll (s : SequenceNames) : Type 0 where
  pub declarations : Inside s.declarations
  pub labels : Inside s.labels
  pub statements : Inside s.statements

pub inside-body : (s : SequenceNames) → InsideAll s → Inside (in_body s)
inside-body s all = inside-append _ _ all.declarations (inside-append _ _ all.labels all.statements)

pub inside-subprogram : (s : SubprogramSpecification) (b : SequenceNames) → InsideAll b
    → Inside (heads s.name ∷ within_region (subprogram_body s.place (is_some s.result)) (names_in_profile true s ++ (completes s.name s ∷ in_body b)))
inside-subprogram s b all =
    inside-cons (heads s.name) _ tt
    (inside-region (subprogram_body s.place (is_some s.result)) _ tt
    (inside-append _ _ (inside-profile true s) (inside-cons (completes s.name s) _ tt (inside-body b all))))

pub inside-entry_body : (h : EntryHead) (b : SequenceNames) → InsideAll b
    → Inside (mentions_entry h.name
    ∷ within_region (entry_body h.name h.place h.barrier)
    (names_in_parameters true h.parameters ++ (names_in_expression h.barrier ++ (is_called h.name ∷ in_body b))))
inside-entry_body h b all =
    inside-cons (mentions_entry h.name) _ tt (inside-region (entry_body h.name h.place h.barrier) _ tt
    (inside-append _ _ (inside-parameters true h.parameters)
    (inside-append _ _ (inside-expression h.barrier) (inside-cons (is_called h.name) _ tt (inside-body b all)))))

-- one layer, whose sequences are those that g gives
module _ (E : Type 0) (g : E → Sequence) (all : (e : E) → InsideAll (names_in_sequence (g e))) where
  -- ---- statements

  inside-if : (i : If E) (o : Option E) → Inside (names_in_statement names_in_sequence (mapped_statement g (statement.If (record i { otherwise = o }))))
  inside-if i None =
      inside-append _ _ (inside-expression i.condition)
      (inside-append _ _ (all i.statements).statements
      (inside-append _ _ (inside-flat_of_map _ _ (λ x. inside-append _ _ (inside-expression _) (all _).statements) i.elsifs) inside-none))
  inside-if i (Some q) =
      inside-append _ _ (inside-expression i.condition)
      (inside-append _ _ (all i.statements).statements
      (inside-append _ _ (inside-flat_of_map _ _ (λ x. inside-append _ _ (inside-expression _) (all _).statements) i.elsifs) (all q).statements))

  inside-accept : (a : Accept E) (body : Option (AcceptBody E))
      → Inside (names_in_statement names_in_sequence (mapped_statement g (statement.Accept (record a { body = body }))))
  inside-accept a None =
      inside-cons (mentions_simply a.entry) _ tt
      (inside-region (an_accept a.entry a.place) _ tt (inside-append _ _ (inside-parameters true a.parameters) inside-none))
  inside-accept a (Some b) =
      inside-cons (mentions_simply a.entry) _ tt
      (inside-region (an_accept a.entry a.place) _ tt (inside-append _ _ (inside-parameters true a.parameters) (all b.sequence).statements))

  inside-alternative : (x : SelectAlternative E) (a : Alternative E)
      → Inside (names_in_select_alternative names_in_sequence (mapped_alternative g (record x { alternative = a })))
  inside-alternative x (alternative.Accept accept None) =
      inside-append _ _ (inside-if_there names_in_guard inside-guard x.guard) (inside-append _ _ (inside-accept accept accept.body) inside-none)
  inside-alternative x (alternative.Accept accept (Some q)) =
      inside-append _ _ (inside-if_there names_in_guard inside-guard x.guard) (inside-append _ _ (inside-accept accept accept.body) (all q).statements)
  inside-alternative x (alternative.Delay delay None) =
      inside-append _ _ (inside-if_there names_in_guard inside-guard x.guard) (inside-append _ _ (inside-delay delay) inside-none)
  inside-alternative x (alternative.Delay delay (Some q)) =
      inside-append _ _ (inside-if_there names_in_guard inside-guard x.guard) (inside-append _ _ (inside-delay delay) (all q).statements)
  inside-alternative x (alternative.Terminate place) = inside-append _ _ (inside-if_there names_in_guard inside-guard x.guard) inside-none

  abbrev SelectInside : SelectForm E → Type 0
  SelectInside s = (place : Place) → Inside (names_in_statement names_in_sequence (mapped_statement g (statement.Select (record { place = place; form = s }))))

  inside-selective : (s : SelectiveAccept E) (o : Option E) → SelectInside (select.SelectiveAccept (record s { otherwise = o }))
  inside-selective s None place =
      inside-append _ _
      (inside-append _ _ (inside-alternative s.alternatives.first s.alternatives.first.alternative)
      (inside-flat_of_map _ _ (λ x. inside-alternative x x.alternative) s.alternatives.others)) inside-none
  inside-selective s (Some q) place =
      inside-append _ _
      (inside-append _ _ (inside-alternative s.alternatives.first s.alternatives.first.alternative)
      (inside-flat_of_map _ _ (λ x. inside-alternative x x.alternative) s.alternatives.others))
      (all q).statements

  inside-timed : (t : TimedEntryCall E) (o p : Option E) → SelectInside (select.TimedEntryCall (record t { statements = o; delay_statements = p }))
  inside-timed t None None place = inside-append _ _ (inside-call t.call) (inside-append _ _ inside-none (inside-append _ _ (inside-delay t.delay) inside-none))
  inside-timed t None (Some q) place =
      inside-append _ _ (inside-call t.call) (inside-append _ _ inside-none (inside-append _ _ (inside-delay t.delay) (all q).statements))
  inside-timed t (Some q) None place =
      inside-append _ _ (inside-call t.call) (inside-append _ _ (all q).statements (inside-append _ _ (inside-delay t.delay) inside-none))
  inside-timed t (Some q) (Some r) place =
      inside-append _ _ (inside-call t.call) (inside-append _ _ (all q).statements (inside-append _ _ (inside-delay t.delay) (all r).statements))

  inside-conditional : (c : ConditionalEntryCall E) (o : Option E) → SelectInside (select.ConditionalEntryCall (record c { statements = o }))
  inside-conditional c None place = inside-append _ _ (inside-call c.call) (inside-append _ _ inside-none (all c.otherwise).statements)
  inside-conditional c (Some q) place = inside-append _ _ (inside-call c.call) (inside-append _ _ (all q).statements (all c.otherwise).statements)

  inside-asynchronous : (s : AsynchronousSelect E) (o : Option E) → SelectInside (select.AsynchronousSelect (record s { statements = o }))
  inside-asynchronous s None place = inside-append _ _ (inside-trigger s.trigger) (inside-append _ _ inside-none (all s.abortable).statements)
  inside-asynchronous s (Some q) place = inside-append _ _ (inside-trigger s.trigger) (inside-append _ _ (all q).statements (all s.abortable).statements)

  inside-select : (s : SelectForm E) → SelectInside s
  inside-select (select.SelectiveAccept s) = inside-selective s s.otherwise
  inside-select (select.TimedEntryCall t) = inside-timed t t.statements t.delay_statements
  inside-select (select.ConditionalEntryCall c) = inside-conditional c c.statements
  inside-select (select.AsynchronousSelect s) = inside-asynchronous s s.statements

  inside-statement : (s : Statement E) → Inside (names_in_statement names_in_sequence (mapped_statement g s))
  inside-statement (statement.Null place) = inside-none
  inside-statement (statement.Assignment a) = inside-assignment a
  inside-statement (statement.Call c) = inside-call c
  inside-statement (statement.Delay d) = inside-delay d
  inside-statement (statement.If i) = inside-if i i.otherwise
  inside-statement (statement.Case c) =
      inside-append _ _ (inside-expression c.selector) (inside-append _ _
      (inside-append _ _ (inside-in_all names_in_choice inside-choice c.alternatives.first.choices) (all c.alternatives.first.statements).statements)
      (inside-flat_of_map _ _
      (λ x. inside-append _ _ (inside-in_all names_in_choice inside-choice x.choices) (all x.statements).statements) c.alternatives.others))
  inside-statement (statement.Loop l) =
      inside-region (a_loop (label_name l.label)) _ tt (inside-append _ _ (inside-iteration l.iteration) (all l.statements).statements)
  inside-statement (statement.Exit e) = inside-exit e
  inside-statement (statement.Block b) = inside-region (a_block (label_name b.label) b.place) _ tt (inside-body _ (all b.sequence))
  inside-statement (statement.Return place value) = inside-optional value
  inside-statement (statement.Raise place exception) = inside-if_there (λ name. one (mentions name)) (λ name. inside-one (mentions name) tt) exception
  inside-statement (statement.Abort place tasks) = inside-in_all (λ name. one (mentions name)) (λ name. inside-one (mentions name) tt) tasks
  inside-statement (statement.Accept a) = inside-accept a a.body
  inside-statement (statement.Requeue place entry with_abort) = inside-one (mentions entry) tt
  inside-statement (statement.Select s) = inside-select s.form s.place

  -- ---- labels

  labels-if : (i : If E) (o : Option E) → Inside (labels_in_statement names_in_sequence (mapped_statement g (statement.If (record i { otherwise = o }))))
  labels-if i None = inside-append _ _ (all i.statements).labels (inside-append _ _ (inside-flat_of_map _ _ (λ x. (all _).labels) i.elsifs) inside-none)
  labels-if i (Some q) = inside-append _ _ (all i.statements).labels (inside-append _ _ (inside-flat_of_map _ _ (λ x. (all _).labels) i.elsifs) (all q).labels)

  labels-accept : (a : Accept E) (body : Option (AcceptBody E))
      → Inside (labels_in_statement names_in_sequence (mapped_statement g (statement.Accept (record a { body = body }))))
  labels-accept a None = inside-none
  labels-accept a (Some b) = (all b.sequence).labels

  labels-alternative : (x : SelectAlternative E) (a : Alternative E)
      → Inside (labels_in_select_alternative names_in_sequence (mapped_alternative g (record x { alternative = a })))
  labels-alternative x (alternative.Accept accept None) = inside-append _ _ (labels-accept accept accept.body) inside-none
  labels-alternative x (alternative.Accept accept (Some q)) = inside-append _ _ (labels-accept accept accept.body) (all q).labels
  labels-alternative x (alternative.Delay delay None) = inside-none
  labels-alternative x (alternative.Delay delay (Some q)) = (all q).labels
  labels-alternative x (alternative.Terminate place) = inside-none

  abbrev SelectLabels : SelectForm E → Type 0
  SelectLabels s = (place : Place) → Inside (labels_in_statement names_in_sequence (mapped_statement g (statement.Select (record { place = place; form = s }))))

  labels-selective : (s : SelectiveAccept E) (o : Option E) → SelectLabels (select.SelectiveAccept (record s { otherwise = o }))
  labels-selective s None place =
      inside-append _ _
      (inside-append _ _ (labels-alternative s.alternatives.first s.alternatives.first.alternative)
      (inside-flat_of_map _ _ (λ x. labels-alternative x x.alternative) s.alternatives.others)) inside-none
  labels-selective s (Some q) place =
      inside-append _ _
      (inside-append _ _ (labels-alternative s.alternatives.first s.alternatives.first.alternative)
      (inside-flat_of_map _ _ (λ x. labels-alternative x x.alternative) s.alternatives.others))
      (all q).labels

  labels-timed : (t : TimedEntryCall E) (o p : Option E) → SelectLabels (select.TimedEntryCall (record t { statements = o; delay_statements = p }))
  labels-timed t None None place = inside-append _ _ inside-none inside-none
  labels-timed t None (Some q) place = inside-append _ _ inside-none (all q).labels
  labels-timed t (Some q) None place = inside-append _ _ (all q).labels inside-none
  labels-timed t (Some q) (Some r) place = inside-append _ _ (all q).labels (all r).labels

  labels-conditional : (c : ConditionalEntryCall E) (o : Option E) → SelectLabels (select.ConditionalEntryCall (record c { statements = o }))
  labels-conditional c None place = inside-append _ _ inside-none (all c.otherwise).labels
  labels-conditional c (Some q) place = inside-append _ _ (all q).labels (all c.otherwise).labels

  labels-asynchronous : (s : AsynchronousSelect E) (o : Option E) → SelectLabels (select.AsynchronousSelect (record s { statements = o }))
  labels-asynchronous s None place = inside-append _ _ inside-none (all s.abortable).labels
  labels-asynchronous s (Some q) place = inside-append _ _ (all q).labels (all s.abortable).labels

  labels-select : (s : SelectForm E) → SelectLabels s
  labels-select (select.SelectiveAccept s) = labels-selective s s.otherwise
  labels-select (select.TimedEntryCall t) = labels-timed t t.statements t.delay_statements
  labels-select (select.ConditionalEntryCall c) = labels-conditional c c.statements
  labels-select (select.AsynchronousSelect s) = labels-asynchronous s s.statements

  labels-statement : (s : Statement E) → Inside (labels_in_statement names_in_sequence (mapped_statement g s))
  labels-statement (statement.Null place) = inside-none
  labels-statement (statement.Assignment a) = inside-none
  labels-statement (statement.Call c) = inside-none
  labels-statement (statement.Delay d) = inside-none
  labels-statement (statement.If i) = labels-if i i.otherwise
  labels-statement (statement.Case c) =
      inside-append _ _ (all c.alternatives.first.statements).labels (inside-flat_of_map _ _ (λ x. (all _).labels) c.alternatives.others)
  labels-statement (statement.Loop l) = inside-append _ _ (inside-label l.label) (all l.statements).labels
  labels-statement (statement.Exit e) = inside-none
  labels-statement (statement.Block b) = inside-label b.label
  labels-statement (statement.Return place value) = inside-none
  labels-statement (statement.Raise place exception) = inside-none
  labels-statement (statement.Abort place tasks) = inside-none
  labels-statement (statement.Accept a) = labels-accept a a.body
  labels-statement (statement.Requeue place entry with_abort) = inside-none
  labels-statement (statement.Select s) = labels-select s.form s.place

  -- ---- declarations

  inside-operation : (x : OperationBody E) → Inside (names_in_operation_body names_in_sequence (mapped_operation g x))
  inside-operation (body_of.Subprogram s body) = inside-subprogram s (names_in_sequence (g body.sequence)) (all body.sequence)
  inside-operation (body_of.Entry h body) = inside-entry_body h (names_in_sequence (g body.sequence)) (all body.sequence)

  inside-declaration : (d : Declaration E) → Inside (names_in_declaration names_in_sequence (mapped_declaration g d))
  inside-declaration (declaration.Object o) = inside-object o
  inside-declaration (declaration.Type t) = inside-definition t.name t.definition
  inside-declaration (declaration.Subtype s) = inside-subtype s
  inside-declaration (declaration.Exception names) = inside-declares_all an_exception names tt
  inside-declaration (declaration.Subprogram s) = inside-specification s
  inside-declaration (declaration.SubprogramBody s body) = inside-subprogram s (names_in_sequence (g body.sequence)) (all body.sequence)
  inside-declaration (declaration.Task t) = inside-task t
  inside-declaration (declaration.TaskBody place name body) = inside-region (task_body name place) _ tt (inside-body _ (all body.sequence))
  inside-declaration (declaration.Protected p) = inside-protected p
  inside-declaration (declaration.ProtectedBody p) = inside-region (protected_body p.name) _ tt (inside-flat_of_map _ _ inside-operation p.operations)
  inside-declaration (declaration.Use place name) = inside-one (use_package name) tt

  -- ---- sequences

  inside-parts : (s : SequenceParts E) → InsideAll (names_in_parts names_in_sequence (mapped g s))
  inside-parts s = record {
    declarations = inside-flat_of_map _ _ inside-declaration s.declarations;
    labels =
        inside-append _ _ (inside-append _ _ (labels-statement s.statements.first) (inside-flat_of_map _ _ labels-statement s.statements.others))
        (inside-flat_of_map _ _ (λ x. (all _).labels) s.handlers);
    statements = inside-append _ _ (inside-append _ _ (inside-statement s.statements.first) (inside-flat_of_map _ _ inside-statement s.statements.others))
        (inside-flat_of_map _ _ (λ x. inside-append _ _ (inside-exceptions _) (all _).statements) s.handlers);
  }

pub inside-sequence : (s : Sequence) → InsideAll (names_in_sequence s)
inside-sequence = ind-Sequence (λ s. InsideAll (names_in_sequence s)) (λ x y is.
    subst (λ names. InsideAll names)
    (ap (λ (z : Sequence-F Sequence). names_in_parts names_in_sequence z.parts) (is ∙ sym (out-roll-Sequence x)) ∙ sym (sequence_tells (roll-Sequence x)))
    (inside-parts _ (λ p. p.0) (λ p. p.1) y.parts))

inside-whole_operation : (x : OperationBody Sequence) → Inside (names_in_operation_body names_in_sequence x)
inside-whole_operation (body_of.Subprogram s body) = inside-subprogram s (names_in_sequence body.sequence) (inside-sequence body.sequence)
inside-whole_operation (body_of.Entry h body) = inside-entry_body h (names_in_sequence body.sequence) (inside-sequence body.sequence)

-- a declaration outside sequences, as in a package
pub inside-whole_declaration : (d : Declaration Sequence) → Inside (names_in_declaration names_in_sequence d)
inside-whole_declaration (declaration.Object o) = inside-object o
inside-whole_declaration (declaration.Type t) = inside-definition t.name t.definition
inside-whole_declaration (declaration.Subtype s) = inside-subtype s
inside-whole_declaration (declaration.Exception names) = inside-declares_all an_exception names tt
inside-whole_declaration (declaration.Subprogram s) = inside-specification s
inside-whole_declaration (declaration.SubprogramBody s body) = inside-subprogram s (names_in_sequence body.sequence) (inside-sequence body.sequence)
inside-whole_declaration (declaration.Task t) = inside-task t
inside-whole_declaration (declaration.TaskBody place name body) = inside-region (task_body name place) _ tt (inside-body _ (inside-sequence body.sequence))
inside-whole_declaration (declaration.Protected p) = inside-protected p
inside-whole_declaration (declaration.ProtectedBody p) = inside-region (protected_body p.name) _ tt (inside-flat _ inside-whole_operation p.operations)
inside-whole_declaration (declaration.Use place name) = inside-one (use_package name) tt
