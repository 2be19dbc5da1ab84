-- What is found in statements (clauses 5, 6.4, 9, 11), given what is found in the sequences in them.
use Rattle.ada_legality.specs.Attributes.{in_own_task}
use Rattle.ada_legality.specs.CallStatements.{all_found, call_found, condition_found, found_if, parameters_found}
use Rattle.ada_legality.specs.Choices.{case_judged, choices_read, type_of_selector}
use Rattle.ada_legality.specs.Findings.{Found, broken, broken_if, broken_unless}
use Rattle.ada_legality.specs.Places.{place_of, place_of_loop}
use Rattle.ada_legality.specs.Profiles.{accept_conforms}
use Rattle.ada_legality.specs.ReadExpressions.{read_expression, unless_denoted}
use Rattle.ada_legality.specs.SimpleStatements.{abort_found, alternative_part, assignment_found, delay_found}
use Rattle.ada_legality.specs.SimpleStatements.{denotes_exception, entry_call_found, exit_found, guard_found}
use Rattle.ada_legality.specs.SimpleStatements.{iteration_found, raise_found, requeue_found, return_found}
use Rattle.ada_legality.specs.SimpleStatements.{same_entities, selective_accept_judged, task_type_of_entry}
use Rattle.ada_legality.specs.SimpleStatements.{trigger_found, with_around, with_iteration}
use Rattle.ada_legality.specs.Values.{is_denoted}
use Rattle.ada_legality.specs.Words.{any_in_body, same_named}
use Rattle.ada_legality.specs.declared.standing.Around.{Around}
use Rattle.ada_legality.specs.declared.standing.Known.{Known}
use Rattle.ada_regions.specs.Completions.{holds_of}
use Rattle.ada_regions.specs.Names.{entity_denoted, kind_at}
use Rattle.ada_regions.specs.Words.{all_of, and_then}
use Rattle.ada_regions.specs.declared.entities.EntityKind.{EntityKind}
use Rattle.ada_regions.specs.Regions.{is_entry}
use Rattle.ada_tree.specs.declared.names.Identifier.{Identifier}
use Rattle.ada_tree.specs.declared.names.Name.{Name}
use Rattle.ada_tree.specs.declared.selects.Alternative.{Alternative}
use Rattle.ada_tree.specs.declared.selects.AsynchronousSelect.{AsynchronousSelect}
use Rattle.ada_tree.specs.declared.selects.ConditionalEntryCall.{ConditionalEntryCall}
use Rattle.ada_tree.specs.declared.selects.SelectAlternative.{SelectAlternative}
use Rattle.ada_tree.specs.declared.selects.SelectForm.{SelectForm}
use Rattle.ada_tree.specs.declared.selects.SelectStatement.{SelectStatement}
use Rattle.ada_tree.specs.declared.selects.SelectiveAccept.{SelectiveAccept}
use Rattle.ada_tree.specs.declared.selects.TimedEntryCall.{TimedEntryCall}
use Rattle.ada_tree.specs.declared.statements.Accept.{Accept}
use Rattle.ada_tree.specs.declared.statements.AcceptBody.{AcceptBody}
use Rattle.ada_tree.specs.declared.statements.Case.{Case}
use Rattle.ada_tree.specs.declared.statements.CaseAlternative.{CaseAlternative}
use Rattle.ada_tree.specs.declared.statements.Choice.{Choice}
use Rattle.ada_tree.specs.declared.statements.Elsif.{Elsif}
use Rattle.ada_tree.specs.declared.statements.HandledExceptions.{HandledExceptions}
use Rattle.ada_tree.specs.declared.statements.Handler.{Handler}
use Rattle.ada_tree.specs.declared.statements.If.{If}
use Rattle.ada_tree.specs.declared.statements.Label.{Label}
use Rattle.ada_tree.specs.declared.statements.Loop.{Loop}
use Rattle.ada_tree.specs.declared.statements.Statement.{Statement}
use Rattle.ann_base.specs.declared.places.Place.{Place}
use Rattle.std.specs.List.{flat_map, list_any}
use Rattle.std.specs.Prelude.{Bool, List, Option, [], false, is_some, map, not, option_map}
use Rattle.std.specs.Prelude.{suc, take, true, unwrap_or, ℕ, ◌&&◌, ◌++◌, ◌||◌, ◌∷◌}
use Rattle.ada_tree.specs.declared.selects.Alternative.TheVariants as alternative
use Rattle.ada_legality.specs.declared.standing.Around.TheVariants as around
use Rattle.ada_tree.specs.declared.statements.HandledExceptions.TheVariants as exceptions
use Rattle.ada_legality.specs.declared.rules.Rule.TheVariants as rule
use Rattle.ada_tree.specs.declared.selects.SelectForm.TheVariants as select
use Rattle.ada_tree.specs.declared.statements.Statement.TheVariants as statement

-- the entity of a label
abbrev pub entity_of_label : Known → Option Label → Option ℕ
entity_of_label k label = and_then label (λ l. entity_denoted k.names l.name.place)

-- ---- accept statements (9.5.2): in the body of the entry's task itself, and not inside one for
-- the same entry

-- an accept statement stands in the body of its entry's task
unfoldable pub stands_in_own_task : Known → Option EntityKind → Bool
stands_in_own_task k kind =
    unwrap_or (option_map (λ t. in_own_task t k.around) (and_then kind task_type_of_entry)) false

-- an accept statement for the entry is open
abbrev pub accepts_entry : Option ℕ → Around → Bool
accepts_entry e (around.Accept other) = same_entities e other
accepts_entry e a = false

-- a part of an asynchronous select is open
abbrev pub is_asynchronous_select : Around → Bool
is_asynchronous_select around.AsynchronousSelect = true
is_asynchronous_select a = false

-- an accept statement in another place, or in an asynchronous select (9.7.4)
unfoldable pub accept_judged : Known → Place → Identifier → Option EntityKind → Found
accept_judged k place i kind =
    broken_unless rule.KindOfName (holds_of is_entry kind) i.place
    ++ (broken_if rule.AcceptStatement
    (holds_of is_entry kind && (not (stands_in_own_task k kind)
    || any_in_body (accepts_entry (entity_denoted k.names i.place)) k.around)) place
    ++ broken_if rule.AsynchronousSelect
    (holds_of is_entry kind && any_in_body is_asynchronous_select k.around) place)

-- ---- handlers (11.2): the exceptions of a sequence are distinct

-- the names that a handler handles
abbrev pub exceptions_named : HandledExceptions → List Name
exceptions_named (exceptions.Named names) = all_of names
exceptions_named (exceptions.Others place) = []

-- an exception that an earlier choice names
unfoldable pub repeated_names : Known → List Name → ℕ → List Name → Found
repeated_names k names at [] = []
repeated_names k names at (x ∷ xs) =
    unless_denoted (denotes_exception k) k x
    ++ (broken_if rule.RaiseAndHandlers
    (is_denoted (denotes_exception k) k x
    && list_any (same_named k.names x) (take at names)) (place_of x)
    ++ repeated_names k names (suc at) xs)

-- a handler for all others is the last
abbrev pub others_in : HandledExceptions → Found
others_in (exceptions.Named names) = []
others_in (exceptions.Others place) = broken rule.RaiseAndHandlers place ∷ []

-- a handler for all others before the last
unfoldable pub others_before_last : List HandledExceptions → Found
others_before_last [] = []
others_before_last (h ∷ []) = []
others_before_last (h ∷ g ∷ rest) = others_in h ++ others_before_last (g ∷ rest)

-- the choices of the handlers of a sequence
unfoldable pub handled_judged : Known → List HandledExceptions → Found
handled_judged k hs =
    let names = flat_map exceptions_named hs in
    repeated_names k names 0 names ++ others_before_last hs

-- ---- statements

module _ {Q : Type 0} (sequence : Q → Known → Found) where
  -- a further condition
  abbrev pub elsif_found : Elsif Q → Known → Found
  elsif_found e k = condition_found e.condition k ++ sequence e.statements k

  -- an if statement
  unfoldable pub if_found : If Q → Known → Found
  if_found i k =
      condition_found i.condition k
      ++ (sequence i.statements k
      ++ (all_found elsif_found i.elsifs k ++ found_if sequence i.otherwise k))

  -- the statements of an alternative of a case
  abbrev pub case_alternative_found : CaseAlternative Q → Known → Found
  case_alternative_found a k = sequence a.statements k

  -- all choices of a case
  unfoldable pub choices_of_case : Case Q → List Choice
  choices_of_case c = flat_map (λ a. all_of a.choices) (all_of c.alternatives)

  -- a case
  unfoldable pub case_found : Case Q → Known → Found
  case_found c k =
      let r = read_expression c.selector k in
      let choices = choices_read (type_of_selector r.0.typed) (choices_of_case c) k in
      r.1 ++ (choices.1 ++ (case_judged k c.place r.0 choices.0
      ++ all_found case_alternative_found (all_of c.alternatives) k))

  -- a loop
  unfoldable pub loop_found : Loop Q → Known → Found
  loop_found l k =
      iteration_found (place_of_loop l) l.iteration k
      ++ sequence l.statements
      (with_around (around.Loop (entity_of_label k l.label)) (with_iteration l.iteration k))

  -- a handler
  abbrev pub handler_found : Handler Q → Known → Found
  handler_found h k = sequence h.statements (with_around around.Handler k)

  -- what an accept statement does
  abbrev pub accept_body_found : Option ℕ → AcceptBody Q → Known → Found
  accept_body_found entry b k = sequence b.sequence (with_around (around.Accept entry) k)

  -- an accept statement
  unfoldable pub accept_found : Accept Q → Known → Found
  accept_found a k =
      let e = entity_denoted k.names a.entry.place in
      accept_judged k a.place a.entry (and_then e (kind_at k.names))
      ++ (accept_conforms k a.place a.parameters e
      ++ (parameters_found false false a.parameters k ++ found_if (accept_body_found e) a.body k))

  -- an alternative behind its guard
  abbrev pub alternative_found : Alternative Q → Known → Found
  alternative_found (alternative.Accept accept statements) k =
      accept_found accept k ++ found_if sequence statements k
  alternative_found (alternative.Delay delay statements) k =
      delay_found delay k ++ found_if sequence statements k
  alternative_found (alternative.Terminate place) k = []

  -- an alternative of a selective accept
  abbrev pub select_alternative_found : SelectAlternative Q → Known → Found
  select_alternative_found a k =
      found_if guard_found a.guard k ++ alternative_found a.alternative k

  -- a selective accept
  unfoldable pub selective_accept_found : Place → SelectiveAccept Q → Known → Found
  selective_accept_found place s k =
      selective_accept_judged k place (map alternative_part (all_of s.alternatives))
      (is_some s.otherwise)
      ++ (all_found select_alternative_found (all_of s.alternatives) k
      ++ found_if sequence s.otherwise k)

  -- a timed call
  unfoldable pub timed_call_found : TimedEntryCall Q → Known → Found
  timed_call_found t k =
      entry_call_found t.call k
      ++ (found_if sequence t.statements k
      ++ (delay_found t.delay k ++ found_if sequence t.delay_statements k))

  -- a conditional call
  unfoldable pub conditional_call_found : ConditionalEntryCall Q → Known → Found
  conditional_call_found c k =
      entry_call_found c.call k ++ (found_if sequence c.statements k ++ sequence c.otherwise k)

  -- an asynchronous select
  unfoldable pub asynchronous_select_found : AsynchronousSelect Q → Known → Found
  asynchronous_select_found s k =
      trigger_found s.trigger k
      ++ (found_if sequence s.statements (with_around around.AsynchronousSelect k)
      ++ sequence s.abortable (with_around around.AsynchronousSelect k))

  -- the form of a select statement
  abbrev pub select_form_found : Place → SelectForm Q → Known → Found
  select_form_found place (select.SelectiveAccept s) k = selective_accept_found place s k
  select_form_found place (select.TimedEntryCall t) k = timed_call_found t k
  select_form_found place (select.ConditionalEntryCall c) k = conditional_call_found c k
  select_form_found place (select.AsynchronousSelect s) k = asynchronous_select_found s k

  -- a select statement
  unfoldable pub select_found : SelectStatement Q → Known → Found
  select_found s k =
      broken_if rule.Restriction k.in_force.no_select_statements s.place
      ++ select_form_found s.place s.form k

  -- a statement
  abbrev pub statement_found : Statement Q → Known → Found
  statement_found (statement.Null place) k = []
  statement_found (statement.Assignment a) k = assignment_found a k
  statement_found (statement.Call c) k = call_found c k
  statement_found (statement.Delay d) k = delay_found d k
  statement_found (statement.If i) k = if_found i k
  statement_found (statement.Case c) k = case_found c k
  statement_found (statement.Loop l) k = loop_found l k
  statement_found (statement.Exit e) k = exit_found e k
  statement_found (statement.Block b) k = sequence b.sequence k
  statement_found (statement.Return place value) k = return_found place value k
  statement_found (statement.Raise place exception) k = raise_found place exception k
  statement_found (statement.Abort place tasks) k = abort_found place (all_of tasks) k
  statement_found (statement.Accept a) k = accept_found a k
  statement_found (statement.Requeue place entry with_abort) k = requeue_found place entry k
  statement_found (statement.Select s) k = select_found s k
