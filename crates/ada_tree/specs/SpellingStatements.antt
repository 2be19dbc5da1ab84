-- How statements are spelt (clauses 5, 9.5 to 9.8, 11), given how the sequences in them are.
use Rattle.std.specs.Prelude.{Bool, true, false, List, [], ◌∷◌, ◌++◌, codes, flat_map}
use Rattle.ann_base.specs.declared.places.Place.{Place}
use Rattle.ada_tree.specs.declared.names.Identifier.{Identifier}
use Rattle.ada_tree.specs.declared.expressions.Expression.{Expression}
use Rattle.ada_tree.specs.declared.declarations.Parameter.{Parameter}
use Rattle.ada_tree.specs.declared.declarations.SubtypeIndication.{SubtypeIndication}
use Rattle.ada_tree.specs.declared.declarations.Constraint.{Constraint}
use Rattle.ada_tree.specs.declared.declarations.Constraint.TheVariants as constraint
use Rattle.ada_tree.specs.declared.statements.SequenceRole.{SequenceRole}
use Rattle.ada_tree.specs.declared.statements.SequenceRole.TheVariants as role
use Rattle.ada_tree.specs.declared.statements.Statement.{Statement}
use Rattle.ada_tree.specs.declared.statements.Assignment.{Assignment}
use Rattle.ada_tree.specs.declared.statements.Call.{Call}
use Rattle.ada_tree.specs.declared.statements.Delay.{Delay}
use Rattle.ada_tree.specs.declared.statements.If.{If}
use Rattle.ada_tree.specs.declared.statements.Elsif.{Elsif}
use Rattle.ada_tree.specs.declared.statements.Case.{Case}
use Rattle.ada_tree.specs.declared.statements.CaseAlternative.{CaseAlternative}
use Rattle.ada_tree.specs.declared.statements.Choice.{Choice}
use Rattle.ada_tree.specs.declared.statements.Label.{Label}
use Rattle.ada_tree.specs.declared.statements.Loop.{Loop}
use Rattle.ada_tree.specs.declared.statements.Iteration.{Iteration}
use Rattle.ada_tree.specs.declared.statements.Exit.{Exit}
use Rattle.ada_tree.specs.declared.statements.Block.{Block}
use Rattle.ada_tree.specs.declared.statements.Handler.{Handler}
use Rattle.ada_tree.specs.declared.statements.HandledExceptions.{HandledExceptions}
use Rattle.ada_tree.specs.declared.statements.Accept.{Accept}
use Rattle.ada_tree.specs.declared.statements.AcceptBody.{AcceptBody}
use Rattle.ada_tree.specs.declared.statements.Statement.TheVariants as statement
use Rattle.ada_tree.specs.declared.statements.Choice.TheVariants as choice
use Rattle.ada_tree.specs.declared.statements.Iteration.TheVariants as iteration
use Rattle.ada_tree.specs.declared.statements.HandledExceptions.TheVariants as exceptions
use Rattle.ada_tree.specs.declared.selects.SelectStatement.{SelectStatement}
use Rattle.ada_tree.specs.declared.selects.SelectForm.{SelectForm}
use Rattle.ada_tree.specs.declared.selects.SelectAlternative.{SelectAlternative}
use Rattle.ada_tree.specs.declared.selects.Guard.{Guard}
use Rattle.ada_tree.specs.declared.selects.Alternative.{Alternative}
use Rattle.ada_tree.specs.declared.selects.Trigger.{Trigger}
use Rattle.ada_tree.specs.declared.selects.SelectForm.TheVariants as select
use Rattle.ada_tree.specs.declared.selects.Alternative.TheVariants as alternative
use Rattle.ada_tree.specs.declared.selects.Trigger.TheVariants as trigger
use Rattle.ada_tree.specs.Written.{Written, word, word_at, delimiter, identifier_written}
use Rattle.ada_tree.specs.Written.{separated, all_written, optional, flag, enclosed, name_written}
use Rattle.ada_tree.specs.Written.{identifiers_written, end_name_written, one_identifier}
use Rattle.ada_tree.specs.SpellingExpressions.{expression_written, arguments_written}

-- ---- subtype indications and parameters (3.2.2, 6.1)

abbrev pub constraint_written : Constraint → List Written
constraint_written (constraint.Access name) = delimiter (codes "(")
    ∷ (name_written name ++ delimiter (codes "'") ∷ word (codes "access") ∷ delimiter (codes ")") ∷ [])
constraint_written (constraint.Range low high) = word (codes "range")
    ∷ (expression_written low ++ delimiter (codes "..") ∷ expression_written high)

-- name ["(" name "'" "Access" ")" | "range" expression ".." expression]
abbrev pub indication_written : SubtypeIndication → List Written
indication_written m = name_written m.name ++ optional constraint_written m.constraint

-- NAME {"," NAME} ":" ["in"] ["out"] subtype
abbrev pub parameter_written : Parameter → List Written
parameter_written p =
    identifiers_written p.names ++ delimiter (codes ":")
    ∷ (flag p.is_in (word (codes "in") ∷ [])
    ++ (flag p.is_out (word (codes "out") ∷ []) ++ indication_written p.subtype))

-- ["(" parameter {";" parameter} ")"]
abbrev pub parameters_written : List Parameter → List Written
parameters_written =
    enclosed (delimiter (codes "(")) (delimiter (codes ";")) (delimiter (codes ")") ∷ []) parameter_written

-- ---- statements without others in them

abbrev pub semicolon : List Written
semicolon = delimiter (codes ";") ∷ []

abbrev pub index_written : Expression → List Written
index_written index = delimiter (codes "(") ∷ (expression_written index ++ delimiter (codes ")") ∷ [])

-- name ["(" expression ")"] ":=" expression ";" (5.2)
abbrev pub assignment_written : Assignment → List Written
assignment_written a = name_written a.target
    ++ (optional index_written a.index ++ delimiter (codes ":=") ∷ (expression_written a.value ++ semicolon))

-- name ["(" argument {"," argument} ")"] ";" (6.4, 9.5.3)
abbrev pub call_written : Call → List Written
call_written c = name_written c.name ++ (arguments_written expression_written c.arguments ++ semicolon)

-- "delay" ["until"] expression ";" (9.6)
abbrev pub delay_written : Delay → List Written
delay_written d = word_at d.place (codes "delay")
    ∷ (flag d.until (word (codes "until") ∷ []) ++ (expression_written d.value ++ semicolon))

abbrev pub choice_written : Choice → List Written
choice_written (choice.Value value) = expression_written value
choice_written (choice.Range low high) = expression_written low ++ delimiter (codes "..") ∷ expression_written high
choice_written (choice.Others place) = word_at place (codes "others") ∷ []

-- NAME ":"
abbrev pub label_written : Label → List Written
label_written l = identifier_written l.name ∷ delimiter (codes ":") ∷ []

abbrev pub label_end_written : Label → List Written
label_end_written l = end_name_written l.named_at_end l.name

abbrev pub iteration_written : Iteration → List Written
iteration_written iteration.Forever = []
iteration_written (iteration.While place condition) = word_at place (codes "while") ∷ expression_written condition
iteration_written (iteration.For place parameter reverse low high) =
    word_at place (codes "for") ∷ identifier_written parameter ∷ word (codes "in")
    ∷ (flag reverse (word (codes "reverse") ∷ [])
    ++ (expression_written low ++ delimiter (codes "..") ∷ expression_written high))

abbrev pub when_written : Expression → List Written
when_written condition = word (codes "when") ∷ expression_written condition

-- "exit" [NAME] ["when" expression] ";" (5.7)
abbrev pub exit_written : Exit → List Written
exit_written e = word_at e.place (codes "exit")
    ∷ (optional one_identifier e.loop_name ++ (optional when_written e.condition ++ semicolon))

abbrev pub exceptions_written : HandledExceptions → List Written
exceptions_written (exceptions.Named names) = separated (delimiter (codes "|")) name_written names
exceptions_written (exceptions.Others place) = word_at place (codes "others") ∷ []

abbrev pub with_abort_written : Bool → List Written
with_abort_written with_abort = flag with_abort (word (codes "with") ∷ word (codes "abort") ∷ [])

abbrev pub guard_written : Guard → List Written
guard_written g = word_at g.place (codes "when") ∷ (expression_written g.condition ++ delimiter (codes "=>") ∷ [])

abbrev pub trigger_written : Trigger → List Written
trigger_written (trigger.Call call) = call_written call
trigger_written (trigger.Delay delay) = delay_written delay

-- ---- statements with sequences in them

module _ {Q : Type 0} (sequence : Q → SequenceRole → List Written) where
  abbrev pub statements_written : Q → List Written
  statements_written q = sequence q role.Statements

  -- "elsif" expression "then" statements (5.3)
  abbrev pub elsif_written : Elsif Q → List Written
  elsif_written e = word_at e.place (codes "elsif")
      ∷ (expression_written e.condition ++ word (codes "then") ∷ statements_written e.statements)

  -- "else" statements
  abbrev pub else_written : Q → List Written
  else_written q = word (codes "else") ∷ statements_written q

  -- "if" expression "then" statements {elsif} ["else" statements] "end" "if" ";" (5.3)
  abbrev pub if_written : If Q → List Written
  if_written i =
      word_at i.place (codes "if") ∷ (expression_written i.condition ++ word (codes "then")
      ∷ (statements_written i.statements ++ (flat_map elsif_written i.elsifs
      ++ (optional else_written i.otherwise ++ word (codes "end") ∷ word (codes "if") ∷ semicolon))))

  -- "when" choice {"|" choice} "=>" statements (5.4)
  abbrev pub case_alternative_written : CaseAlternative Q → List Written
  case_alternative_written a =
      word_at a.place (codes "when") ∷ (separated (delimiter (codes "|")) choice_written a.choices
      ++ delimiter (codes "=>") ∷ statements_written a.statements)

  -- "case" expression "is" alternative {alternative} "end" "case" ";" (5.4)
  abbrev pub case_written : Case Q → List Written
  case_written c =
      word_at c.place (codes "case") ∷ (expression_written c.selector ++ word (codes "is")
      ∷ (all_written case_alternative_written c.alternatives
      ++ word (codes "end") ∷ word (codes "case") ∷ semicolon))

  -- [NAME ":"] [iteration] "loop" statements "end" "loop" [NAME] ";" (5.5)
  abbrev pub loop_written : Loop Q → List Written
  loop_written l =
      optional label_written l.label ++ (iteration_written l.iteration ++ word_at l.place (codes "loop")
      ∷ (statements_written l.statements
      ++ word (codes "end") ∷ word (codes "loop") ∷ (optional label_end_written l.label ++ semicolon)))

  -- "declare" body, or "begin" handled sequence
  abbrev pub block_opened : Bool → Place → Q → List Written
  block_opened true place q = word_at place (codes "declare") ∷ sequence q role.Body
  block_opened false place q = word_at place (codes "begin") ∷ sequence q role.Handled

  -- [NAME ":"] ["declare" {declaration}] "begin" handled sequence "end" [NAME] ";" (5.6)
  abbrev pub block_written : Block Q → List Written
  block_written b =
      optional label_written b.label ++ (block_opened b.declare b.place b.sequence ++ word (codes "end")
      ∷ (optional label_end_written b.label ++ semicolon))

  -- "when" (name {"|" name} | "others") "=>" statements (11.2)
  abbrev pub handler_written : Handler Q → List Written
  handler_written h = word_at h.place (codes "when")
      ∷ (exceptions_written h.exceptions ++ delimiter (codes "=>") ∷ statements_written h.statements)

  abbrev pub accept_body_written : Identifier → AcceptBody Q → List Written
  accept_body_written name b = word (codes "do")
      ∷ (sequence b.sequence role.Handled ++ word (codes "end") ∷ end_name_written b.named_at_end name)

  -- "accept" NAME [parameters] ["do" handled sequence "end" [NAME]] ";" (9.5.2)
  abbrev pub accept_written : Accept Q → List Written
  accept_written a =
      word_at a.place (codes "accept") ∷ identifier_written a.entry
      ∷ (parameters_written a.parameters ++ (optional (accept_body_written a.entry) a.body ++ semicolon))

  -- ---- select statements (9.7)

  abbrev pub alternative_written : Alternative Q → List Written
  alternative_written (alternative.Accept accept statements) = accept_written accept
      ++ optional statements_written statements
  alternative_written (alternative.Delay delay statements) = delay_written delay
      ++ optional statements_written statements
  alternative_written (alternative.Terminate place) = word_at place (codes "terminate") ∷ semicolon

  -- ["when" expression "=>"] alternative
  abbrev pub select_alternative_written : SelectAlternative Q → List Written
  select_alternative_written a = optional guard_written a.guard ++ alternative_written a.alternative

  abbrev pub select_form_written : SelectForm Q → List Written
  select_form_written (select.SelectiveAccept s) =
      separated (word (codes "or")) select_alternative_written s.alternatives ++ optional else_written s.otherwise
  select_form_written (select.TimedEntryCall t) =
      call_written t.call ++ (optional statements_written t.statements ++ word (codes "or")
      ∷ (delay_written t.delay ++ optional statements_written t.delay_statements))
  select_form_written (select.ConditionalEntryCall c) = call_written c.call
      ++ (optional statements_written c.statements ++ else_written c.otherwise)
  select_form_written (select.AsynchronousSelect s) =
      trigger_written s.trigger ++ (optional statements_written s.statements ++ word (codes "then")
      ∷ word (codes "abort") ∷ statements_written s.abortable)

  -- "select" form "end" "select" ";"
  abbrev pub select_written : SelectStatement Q → List Written
  select_written s = word_at s.place (codes "select")
      ∷ (select_form_written s.form ++ word (codes "end") ∷ word (codes "select") ∷ semicolon)

  -- ---- all statements (5.1)

  abbrev pub statement_written : Statement Q → List Written
  statement_written (statement.Null place) = word_at place (codes "null") ∷ semicolon
  statement_written (statement.Assignment a) = assignment_written a
  statement_written (statement.Call c) = call_written c
  statement_written (statement.Delay d) = delay_written d
  statement_written (statement.If i) = if_written i
  statement_written (statement.Case c) = case_written c
  statement_written (statement.Loop l) = loop_written l
  statement_written (statement.Exit e) = exit_written e
  statement_written (statement.Block b) = block_written b
  statement_written (statement.Return place value) = word_at place (codes "return")
      ∷ (optional expression_written value ++ semicolon)
  statement_written (statement.Raise place exception) = word_at place (codes "raise")
      ∷ (optional name_written exception ++ semicolon)
  statement_written (statement.Abort place tasks) = word_at place (codes "abort")
      ∷ (separated (delimiter (codes ",")) name_written tasks ++ semicolon)
  statement_written (statement.Accept a) = accept_written a
  statement_written (statement.Requeue place entry with_abort) = word_at place (codes "requeue")
      ∷ (name_written entry ++ (with_abort_written with_abort ++ semicolon))
  statement_written (statement.Select s) = select_written s
