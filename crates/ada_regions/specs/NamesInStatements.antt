-- The names in statements (clauses 5, 6.4, 9, 11), in the order of the text, and the labels that statements declare.
use Rattle.std.specs.Prelude.{Bool, true, List, [], ◌∷◌, ◌++◌, Option, option_map}
use Rattle.std.specs.List.{flat_map}
use Rattle.ada_tree.specs.declared.names.Identifier.{Identifier}
use Rattle.ada_tree.specs.declared.declarations.Parameter.{Parameter}
use Rattle.ada_tree.specs.declared.declarations.SubtypeIndication.{SubtypeIndication}
use Rattle.ada_tree.specs.declared.declarations.Constraint.{Constraint}
use Rattle.ada_tree.specs.declared.declarations.Constraint.TheVariants as constraint
use Rattle.ada_tree.specs.declared.statements.Statement.{Statement}
use Rattle.ada_tree.specs.declared.statements.Statement.TheVariants as statement
use Rattle.ada_tree.specs.declared.statements.Assignment.{Assignment}
use Rattle.ada_tree.specs.declared.statements.Call.{Call}
use Rattle.ada_tree.specs.declared.statements.Delay.{Delay}
use Rattle.ada_tree.specs.declared.statements.If.{If}
use Rattle.ada_tree.specs.declared.statements.Elsif.{Elsif}
use Rattle.ada_tree.specs.declared.statements.Case.{Case}
use Rattle.ada_tree.specs.declared.statements.CaseAlternative.{CaseAlternative}
use Rattle.ada_tree.specs.declared.statements.Choice.{Choice}
use Rattle.ada_tree.specs.declared.statements.Choice.TheVariants as choice
use Rattle.ada_tree.specs.declared.statements.Label.{Label}
use Rattle.ada_tree.specs.declared.statements.Loop.{Loop}
use Rattle.ada_tree.specs.declared.statements.Iteration.{Iteration}
use Rattle.ada_tree.specs.declared.statements.Iteration.TheVariants as iteration
use Rattle.ada_tree.specs.declared.statements.Exit.{Exit}
use Rattle.ada_tree.specs.declared.statements.Block.{Block}
use Rattle.ada_tree.specs.declared.statements.Handler.{Handler}
use Rattle.ada_tree.specs.declared.statements.HandledExceptions.{HandledExceptions}
use Rattle.ada_tree.specs.declared.statements.HandledExceptions.TheVariants as exceptions
use Rattle.ada_tree.specs.declared.statements.Accept.{Accept}
use Rattle.ada_tree.specs.declared.statements.AcceptBody.{AcceptBody}
use Rattle.ada_tree.specs.declared.selects.SelectForm.{SelectForm}
use Rattle.ada_tree.specs.declared.selects.SelectForm.TheVariants as select
use Rattle.ada_tree.specs.declared.selects.SelectAlternative.{SelectAlternative}
use Rattle.ada_tree.specs.declared.selects.Guard.{Guard}
use Rattle.ada_tree.specs.declared.selects.Alternative.{Alternative}
use Rattle.ada_tree.specs.declared.selects.Alternative.TheVariants as alternative
use Rattle.ada_tree.specs.declared.selects.Trigger.{Trigger}
use Rattle.ada_tree.specs.declared.selects.Trigger.TheVariants as trigger
use Rattle.ada_regions.specs.Occurrences.{Occurrences, SequenceNames, a_parameter, a_loop_parameter, a_label}
use Rattle.ada_regions.specs.Occurrences.{an_accept, a_block, a_loop, hides, declares, mentions, mentions_simply}
use Rattle.ada_regions.specs.Occurrences.{in_all, if_there, one, within_region, hides_all, declares_all, in_body}
use Rattle.ada_regions.specs.NamesInExpressions.{names_in_expression, names_in_arguments}

-- ---- subtype indications and parameters (3.2.2, 6.1)

abbrev pub names_in_constraint : Constraint → Occurrences
names_in_constraint (constraint.Access name) = one (mentions name)
names_in_constraint (constraint.Range low high) = names_in_expression low ++ names_in_expression high

abbrev pub names_in_indication : SubtypeIndication → Occurrences
names_in_indication m = mentions m.name ∷ if_there names_in_constraint m.constraint

-- parameters with cells or without
abbrev pub names_in_parameter : Bool → Parameter → Occurrences
names_in_parameter with_cells p = hides_all p.names
    ++ (names_in_indication p.subtype ++ declares_all (a_parameter with_cells p) p.names)

abbrev pub names_in_parameters : Bool → List Parameter → Occurrences
names_in_parameters with_cells parameters = flat_map (names_in_parameter with_cells) parameters

-- ---- the parts of statements

abbrev pub names_in_assignment : Assignment → Occurrences
names_in_assignment a = mentions a.target ∷ (if_there names_in_expression a.index ++ names_in_expression a.value)

abbrev pub names_in_call : Call → Occurrences
names_in_call c = mentions c.name ∷ names_in_arguments names_in_expression c.arguments

abbrev pub names_in_delay : Delay → Occurrences
names_in_delay d = names_in_expression d.value

abbrev pub names_in_choice : Choice → Occurrences
names_in_choice (choice.Value value) = names_in_expression value
names_in_choice (choice.Range low high) = names_in_expression low ++ names_in_expression high
names_in_choice (choice.Others place) = []

-- a loop parameter is visible behind its bounds (5.5)
abbrev pub names_in_iteration : Iteration → Occurrences
names_in_iteration iteration.Forever = []
names_in_iteration (iteration.While place condition) = names_in_expression condition
names_in_iteration (iteration.For place parameter reverse low high) =
    hides parameter ∷ (names_in_expression low
    ++ (names_in_expression high ++ one (declares parameter a_loop_parameter)))

abbrev pub names_in_exit : Exit → Occurrences
names_in_exit e = if_there (λ name. one (mentions_simply name)) e.loop_name ++ if_there names_in_expression e.condition

abbrev pub names_in_exceptions : HandledExceptions → Occurrences
names_in_exceptions (exceptions.Named names) = in_all (λ name. one (mentions name)) names
names_in_exceptions (exceptions.Others place) = []

abbrev pub names_in_guard : Guard → Occurrences
names_in_guard g = names_in_expression g.condition

abbrev pub names_in_trigger : Trigger → Occurrences
names_in_trigger (trigger.Call call) = names_in_call call
names_in_trigger (trigger.Delay delay) = names_in_delay delay

abbrev pub label_name : Option Label → Option Identifier
label_name label = option_map (λ l. l.name) label

abbrev pub declares_label : Option Label → Occurrences
declares_label label = if_there (λ l. one (declares l.name a_label)) label

-- ---- statements, given the names in the sequences in them

module _ {Q : Type 0} (sequence : Q → SequenceNames) where
  abbrev pub names_in_statements : Q → Occurrences
  names_in_statements q = (sequence q).statements

  abbrev pub labels_in : Q → Occurrences
  labels_in q = (sequence q).labels

  abbrev pub names_in_elsif : Elsif Q → Occurrences
  names_in_elsif e = names_in_expression e.condition ++ names_in_statements e.statements

  abbrev pub names_in_if : If Q → Occurrences
  names_in_if i =
      names_in_expression i.condition ++ (names_in_statements i.statements
      ++ (flat_map names_in_elsif i.elsifs ++ if_there names_in_statements i.otherwise))

  abbrev pub names_in_case_alternative : CaseAlternative Q → Occurrences
  names_in_case_alternative a = in_all names_in_choice a.choices ++ names_in_statements a.statements

  abbrev pub names_in_case : Case Q → Occurrences
  names_in_case c = names_in_expression c.selector ++ in_all names_in_case_alternative c.alternatives

  abbrev pub names_in_loop : Loop Q → Occurrences
  names_in_loop l =
      within_region (a_loop (label_name l.label)) (names_in_iteration l.iteration ++ names_in_statements l.statements)

  abbrev pub names_in_block : Block Q → Occurrences
  names_in_block b = within_region (a_block (label_name b.label) b.place) (in_body (sequence b.sequence))

  abbrev pub names_in_handler : Handler Q → Occurrences
  names_in_handler h = names_in_exceptions h.exceptions ++ names_in_statements h.statements

  abbrev pub names_in_accept_body : AcceptBody Q → Occurrences
  names_in_accept_body b = names_in_statements b.sequence

  abbrev pub names_in_accept : Accept Q → Occurrences
  names_in_accept a =
      mentions_simply a.entry ∷ within_region (an_accept a.entry a.place) (names_in_parameters true a.parameters
      ++ if_there names_in_accept_body a.body)

  abbrev pub names_in_alternative : Alternative Q → Occurrences
  names_in_alternative (alternative.Accept accept statements) = names_in_accept accept
      ++ if_there names_in_statements statements
  names_in_alternative (alternative.Delay delay statements) = names_in_delay delay
      ++ if_there names_in_statements statements
  names_in_alternative (alternative.Terminate place) = []

  abbrev pub names_in_select_alternative : SelectAlternative Q → Occurrences
  names_in_select_alternative a = if_there names_in_guard a.guard ++ names_in_alternative a.alternative

  abbrev pub names_in_select : SelectForm Q → Occurrences
  names_in_select (select.SelectiveAccept s) = in_all names_in_select_alternative s.alternatives
      ++ if_there names_in_statements s.otherwise
  names_in_select (select.TimedEntryCall t) =
      names_in_call t.call ++ (if_there names_in_statements t.statements
      ++ (names_in_delay t.delay ++ if_there names_in_statements t.delay_statements))
  names_in_select (select.ConditionalEntryCall c) = names_in_call c.call
      ++ (if_there names_in_statements c.statements ++ names_in_statements c.otherwise)
  names_in_select (select.AsynchronousSelect s) = names_in_trigger s.trigger
      ++ (if_there names_in_statements s.statements ++ names_in_statements s.abortable)

  abbrev pub names_in_statement : Statement Q → Occurrences
  names_in_statement (statement.Null place) = []
  names_in_statement (statement.Assignment a) = names_in_assignment a
  names_in_statement (statement.Call c) = names_in_call c
  names_in_statement (statement.Delay d) = names_in_delay d
  names_in_statement (statement.If i) = names_in_if i
  names_in_statement (statement.Case c) = names_in_case c
  names_in_statement (statement.Loop l) = names_in_loop l
  names_in_statement (statement.Exit e) = names_in_exit e
  names_in_statement (statement.Block b) = names_in_block b
  names_in_statement (statement.Return place value) = if_there names_in_expression value
  names_in_statement (statement.Raise place exception) = if_there (λ name. one (mentions name)) exception
  names_in_statement (statement.Abort place tasks) = in_all (λ name. one (mentions name)) tasks
  names_in_statement (statement.Accept a) = names_in_accept a
  names_in_statement (statement.Requeue place entry with_abort) = one (mentions entry)
  names_in_statement (statement.Select s) = names_in_select s.form

  -- ---- labels: those of loops and blocks, and of the statements inside that are in no block of their own (5.1)

  abbrev pub labels_in_elsif : Elsif Q → Occurrences
  labels_in_elsif e = labels_in e.statements

  abbrev pub labels_in_if : If Q → Occurrences
  labels_in_if i = labels_in i.statements ++ (flat_map labels_in_elsif i.elsifs ++ if_there labels_in i.otherwise)

  abbrev pub labels_in_case_alternative : CaseAlternative Q → Occurrences
  labels_in_case_alternative a = labels_in a.statements

  abbrev pub labels_in_handler : Handler Q → Occurrences
  labels_in_handler h = labels_in h.statements

  abbrev pub labels_in_accept_body : AcceptBody Q → Occurrences
  labels_in_accept_body b = labels_in b.sequence

  abbrev pub labels_in_accept : Accept Q → Occurrences
  labels_in_accept a = if_there labels_in_accept_body a.body

  abbrev pub labels_in_alternative : Alternative Q → Occurrences
  labels_in_alternative (alternative.Accept accept statements) = labels_in_accept accept
      ++ if_there labels_in statements
  labels_in_alternative (alternative.Delay delay statements) = if_there labels_in statements
  labels_in_alternative (alternative.Terminate place) = []

  abbrev pub labels_in_select_alternative : SelectAlternative Q → Occurrences
  labels_in_select_alternative a = labels_in_alternative a.alternative

  abbrev pub labels_in_select : SelectForm Q → Occurrences
  labels_in_select (select.SelectiveAccept s) = in_all labels_in_select_alternative s.alternatives
      ++ if_there labels_in s.otherwise
  labels_in_select (select.TimedEntryCall t) = if_there labels_in t.statements ++ if_there labels_in t.delay_statements
  labels_in_select (select.ConditionalEntryCall c) = if_there labels_in c.statements ++ labels_in c.otherwise
  labels_in_select (select.AsynchronousSelect s) = if_there labels_in s.statements ++ labels_in s.abortable

  abbrev pub labels_in_statement : Statement Q → Occurrences
  labels_in_statement (statement.Null place) = []
  labels_in_statement (statement.Assignment a) = []
  labels_in_statement (statement.Call c) = []
  labels_in_statement (statement.Delay d) = []
  labels_in_statement (statement.If i) = labels_in_if i
  labels_in_statement (statement.Case c) = in_all labels_in_case_alternative c.alternatives
  labels_in_statement (statement.Loop l) = declares_label l.label ++ labels_in l.statements
  labels_in_statement (statement.Exit e) = []
  labels_in_statement (statement.Block b) = declares_label b.label
  labels_in_statement (statement.Return place value) = []
  labels_in_statement (statement.Raise place exception) = []
  labels_in_statement (statement.Abort place tasks) = []
  labels_in_statement (statement.Accept a) = labels_in_accept a
  labels_in_statement (statement.Requeue place entry with_abort) = []
  labels_in_statement (statement.Select s) = labels_in_select s.form
