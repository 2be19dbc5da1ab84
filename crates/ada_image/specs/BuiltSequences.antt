-- Sequences of statements, declarations and bodies that an image has: each form in them is built.
use Rattle.std.specs.Prelude.{true, ◌&&◌, List, [], ◌∷◌, Option, Some, None}
use Rattle.std.specs.List.{list_all}
use Rattle.ada_tree.specs.declared.expressions.Expression.{Expression}
use Rattle.ada_tree.specs.declared.statements.Statement.{Statement}
use Rattle.ada_tree.specs.declared.statements.Statement.TheVariants as statement
use Rattle.ada_tree.specs.declared.statements.Elsif.{Elsif}
use Rattle.ada_tree.specs.declared.statements.CaseAlternative.{CaseAlternative}
use Rattle.ada_tree.specs.declared.statements.Handler.{Handler}
use Rattle.ada_tree.specs.declared.statements.AcceptBody.{AcceptBody}
use Rattle.ada_tree.specs.declared.statements.Sequence.{Sequence}
use Rattle.ada_tree.specs.declared.statements.Sequence.TheOpen.{Sequence-F}
use Rattle.ada_tree.specs.declared.statements.Sequence.TheFolds.{fold-Sequence}
use Rattle.ada_tree.specs.declared.statements.SequenceParts.{SequenceParts}
use Rattle.ada_tree.specs.declared.selects.SelectForm.{SelectForm}
use Rattle.ada_tree.specs.declared.selects.SelectForm.TheVariants as select
use Rattle.ada_tree.specs.declared.selects.SelectAlternative.{SelectAlternative}
use Rattle.ada_tree.specs.declared.selects.Alternative.{Alternative}
use Rattle.ada_tree.specs.declared.selects.Alternative.TheVariants as alternative
use Rattle.ada_tree.specs.declared.declarations.Declaration.{Declaration}
use Rattle.ada_tree.specs.declared.declarations.Declaration.TheVariants as declaration
use Rattle.ada_tree.specs.declared.declarations.OperationBody.{OperationBody}
use Rattle.ada_tree.specs.declared.declarations.OperationBody.TheVariants as body_of
use Rattle.ada_image.specs.ImageOfCalls.{FunctionCall}
use Rattle.ada_image.specs.ImageOfStatements.{guard_of}
use Rattle.ada_image.specs.BuiltExpressions.{Built, expression_built}
use Rattle.ada_image.specs.BuiltStatements.{value_if_there, call_in, call_built, call_statement_built, assignment_built}
use Rattle.ada_image.specs.BuiltStatements.{choices_built, iteration_built, trigger_built, source_if_there}

-- ---- the initial value of an object, where it is the call of a function

abbrev pub call_if_built : Option FunctionCall → Built
call_if_built None n = true
call_if_built (Some c) n = call_built c n

abbrev pub initial_built : Option Expression → Built
initial_built None n = true
initial_built (Some e) n = call_if_built (call_in e n) n

-- ---- statements, given which of the sequences in them are built

module _ {Q : Type 0} (sequence : Q → Built) where
  abbrev pub sequence_if_built : Option Q → Built
  sequence_if_built None n = true
  sequence_if_built (Some q) n = sequence q n

  abbrev pub elsif_built : Elsif Q → Built
  elsif_built e n = expression_built e.condition n && sequence e.statements n

  abbrev pub elsifs_built : List (Elsif Q) → Built
  elsifs_built es n = list_all (λ e. elsif_built e n) es

  abbrev pub case_alternative_built : CaseAlternative Q → Built
  case_alternative_built a n = choices_built (a.choices.first ∷ a.choices.others) n && sequence a.statements n

  abbrev pub alternatives_built : List (CaseAlternative Q) → Built
  alternatives_built alternatives n = list_all (λ a. case_alternative_built a n) alternatives

  abbrev pub handlers_built : List (Handler Q) → Built
  handlers_built hs n = list_all (λ h. sequence h.statements n) hs

  abbrev pub accept_body_built : Option (AcceptBody Q) → Built
  accept_body_built None n = true
  accept_body_built (Some b) n = sequence b.sequence n

  abbrev pub alternative_built : Alternative Q → Built
  alternative_built (alternative.Accept a statements) n = accept_body_built a.body n && sequence_if_built statements n
  alternative_built (alternative.Delay d statements) n = expression_built d.value n && sequence_if_built statements n
  alternative_built (alternative.Terminate place) n = true

  abbrev pub select_alternative_built : SelectAlternative Q → Built
  select_alternative_built a n = value_if_there (guard_of a.guard) n && alternative_built a.alternative n

  abbrev pub select_alternatives_built : List (SelectAlternative Q) → Built
  select_alternatives_built alternatives n = list_all (λ a. select_alternative_built a n) alternatives

  abbrev pub select_built : SelectForm Q → Built
  select_built (select.SelectiveAccept s) n =
      select_alternatives_built (s.alternatives.first ∷ s.alternatives.others) n && sequence_if_built s.otherwise n
  select_built (select.TimedEntryCall t) n =
      call_statement_built t.call n && (sequence_if_built t.statements n
      && (expression_built t.delay.value n && sequence_if_built t.delay_statements n))
  select_built (select.ConditionalEntryCall c) n = call_statement_built c.call n
      && (sequence_if_built c.statements n && sequence c.otherwise n)
  select_built (select.AsynchronousSelect a) n = trigger_built a.trigger n
      && (sequence_if_built a.statements n && sequence a.abortable n)

  abbrev pub statement_built : Statement Q → Built
  statement_built (statement.Null place) n = true
  statement_built (statement.Assignment a) n = assignment_built a n
  statement_built (statement.Call c) n = call_statement_built c n
  statement_built (statement.Delay d) n = expression_built d.value n
  statement_built (statement.If i) n = expression_built i.condition n
      && (sequence i.statements n && (elsifs_built i.elsifs n && sequence_if_built i.otherwise n))
  statement_built (statement.Case c) n = expression_built c.selector n
      && alternatives_built (c.alternatives.first ∷ c.alternatives.others) n
  statement_built (statement.Loop l) n = iteration_built l.iteration n && sequence l.statements n
  statement_built (statement.Exit e) n = value_if_there e.condition n
  statement_built (statement.Block b) n = sequence b.sequence n
  statement_built (statement.Return place e) n = source_if_there e n
  statement_built (statement.Raise place exception) n = true
  statement_built (statement.Abort place tasks) n = true
  statement_built (statement.Accept a) n = accept_body_built a.body n
  statement_built (statement.Requeue place entry with_abort) n = true
  statement_built (statement.Select s) n = select_built s.form n

  abbrev pub statements_built : List (Statement Q) → Built
  statements_built ss n = list_all (λ s. statement_built s n) ss

  -- ---- declarations and bodies

  abbrev pub operation_body_built : OperationBody Q → Built
  operation_body_built (body_of.Subprogram s body) n = sequence body.sequence n
  operation_body_built (body_of.Entry head body) n = sequence body.sequence n

  abbrev pub operations_built : List (OperationBody Q) → Built
  operations_built os n = list_all (λ o. operation_body_built o n) os

  abbrev pub declaration_built : Declaration Q → Built
  declaration_built (declaration.Object o) n = initial_built o.initial n
  declaration_built (declaration.Type t) n = true
  declaration_built (declaration.Subtype s) n = true
  declaration_built (declaration.Exception names) n = true
  declaration_built (declaration.Subprogram s) n = true
  declaration_built (declaration.SubprogramBody s body) n = sequence body.sequence n
  declaration_built (declaration.Task t) n = true
  declaration_built (declaration.TaskBody place name body) n = sequence body.sequence n
  declaration_built (declaration.Protected x) n = true
  declaration_built (declaration.ProtectedBody x) n = operations_built x.operations n
  declaration_built (declaration.Use place name) n = true

  abbrev pub declarations_built : List (Declaration Q) → Built
  declarations_built ds n = list_all (λ d. declaration_built d n) ds

  abbrev pub parts_built : SequenceParts Q → Built
  parts_built s n = declarations_built s.declarations n
      && (statements_built (s.statements.first ∷ s.statements.others) n && handlers_built s.handlers n)

abbrev pub same_sequence_built : Built → Built
same_sequence_built built = built

abbrev pub sequence_built_layer : Sequence-F Built → Built
sequence_built_layer s = parts_built same_sequence_built s.parts

abbrev pub sequence_built : Sequence → Built
sequence_built = fold-Sequence Built sequence_built_layer
