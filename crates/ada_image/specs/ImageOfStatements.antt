-- Statements to actions (clauses 5, 6.5, 9.5.2, 9.6 to 9.8, 11.3): each leads to what comes next, and what stands
-- inside a compound statement leads to what comes behind it.
use Rattle.std.specs.Prelude.{ℕ, suc, ◌+◌, Bool, true, false, cond, List, [], ◌∷◌}
use Rattle.std.specs.Prelude.{Option, Some, None, option_map, unwrap_or, eqb, map, pos}
use Rattle.std.specs.List.{find}
use Rattle.ann_base.specs.declared.places.Place.{Place}
use Rattle.ann_base.specs.declared.exceptions.Raised.{Raised}
use Rattle.ann_base.specs.declared.exceptions.Raised.TheVariants as raised
use Rattle.ada_tree.specs.declared.names.Identifier.{Identifier}
use Rattle.ada_tree.specs.declared.names.Name.{Name}
use Rattle.ada_tree.specs.declared.names.OneOrMore.{OneOrMore}
use Rattle.ada_tree.specs.declared.expressions.Expression.{Expression}
use Rattle.ada_tree.specs.declared.statements.Statement.{Statement}
use Rattle.ada_tree.specs.declared.statements.Statement.TheVariants as statement
use Rattle.ada_tree.specs.declared.statements.Assignment.{Assignment}
use Rattle.ada_tree.specs.declared.statements.Call.{Call}
use Rattle.ada_tree.specs.declared.statements.Delay.{Delay}
use Rattle.ada_tree.specs.declared.statements.If.{If}
use Rattle.ada_tree.specs.declared.statements.Elsif.{Elsif}
use Rattle.ada_tree.specs.declared.statements.Case.{Case}
use Rattle.ada_tree.specs.declared.statements.CaseAlternative.{CaseAlternative}
use Rattle.ada_tree.specs.declared.statements.Choice.{Choice}
use Rattle.ada_tree.specs.declared.statements.Choice.TheVariants as choice
use Rattle.ada_tree.specs.declared.statements.Loop.{Loop}
use Rattle.ada_tree.specs.declared.statements.Iteration.{Iteration}
use Rattle.ada_tree.specs.declared.statements.Iteration.TheVariants as iteration
use Rattle.ada_tree.specs.declared.statements.Exit.{Exit}
use Rattle.ada_tree.specs.declared.statements.Block.{Block}
use Rattle.ada_tree.specs.declared.statements.Handler.{Handler}
use Rattle.ada_tree.specs.declared.statements.HandledExceptions.{HandledExceptions}
use Rattle.ada_tree.specs.declared.statements.HandledExceptions.TheVariants as exceptions
use Rattle.ada_tree.specs.declared.statements.Accept.{Accept}
use Rattle.ada_tree.specs.declared.statements.AcceptBody.{AcceptBody}
use Rattle.ada_tree.specs.declared.selects.SelectForm.{SelectForm}
use Rattle.ada_tree.specs.declared.selects.SelectForm.TheVariants as select
use Rattle.ada_tree.specs.declared.selects.SelectAlternative.{SelectAlternative}
use Rattle.ada_tree.specs.declared.selects.SelectiveAccept.{SelectiveAccept}
use Rattle.ada_tree.specs.declared.selects.TimedEntryCall.{TimedEntryCall}
use Rattle.ada_tree.specs.declared.selects.ConditionalEntryCall.{ConditionalEntryCall}
use Rattle.ada_tree.specs.declared.selects.AsynchronousSelect.{AsynchronousSelect}
use Rattle.ada_tree.specs.declared.selects.Guard.{Guard}
use Rattle.ada_tree.specs.declared.selects.Alternative.{Alternative}
use Rattle.ada_tree.specs.declared.selects.Alternative.TheVariants as alternative
use Rattle.ada_tree.specs.declared.selects.Trigger.{Trigger}
use Rattle.world_tables.specs.Lists.{first_of}
use Rattle.ada_tree.specs.declared.selects.Trigger.TheVariants as trigger
use Rattle.profile_image.specs.declared.numbers.EntryNo.{EntryNo}
use Rattle.profile_image.specs.declared.declarations.EntryUnit.{EntryUnit}
use Rattle.profile_image.specs.declared.declarations.EntryUnit.TheVariants as entry_unit
use Rattle.profile_image.specs.declared.statements.SelectAlternative.{SelectAlternative as GuardedAlternative}
use Rattle.profile_image.specs.declared.statements.SelectKind.{SelectKind}
use Rattle.profile_image.specs.declared.statements.SelectKind.TheVariants as select_kind
use Rattle.profile_image.specs.declared.numbers.DeclNo.{DeclNo}
use Rattle.profile_image.specs.declared.numbers.ExprNo.{ExprNo}
use Rattle.profile_image.specs.declared.numbers.StatementNo.{StatementNo}
use Rattle.profile_image.specs.declared.numbers.SubprogramNo.{SubprogramNo}
use Rattle.profile_image.specs.declared.values.Value.{Value}
use Rattle.profile_image.specs.declared.values.Value.TheVariants as value
use Rattle.profile_image.specs.declared.expressions.ObjectName.{ObjectName}
use Rattle.profile_image.specs.declared.expressions.ObjectName.TheVariants as object
use Rattle.profile_image.specs.declared.declarations.ExceptionChoice.{ExceptionChoice}
use Rattle.profile_image.specs.declared.declarations.ExceptionChoice.TheVariants as exception_choice
use Rattle.profile_image.specs.declared.declarations.Handler.{Handler as ExceptionHandler}
use Rattle.profile_image.specs.declared.statements.CaseAlternative.{CaseAlternative as CaseActions}
use Rattle.profile_image.specs.declared.statements.Choice.{Choice as CaseChoice}
use Rattle.profile_image.specs.declared.statements.Choice.TheVariants as case_choice
use Rattle.profile_image.specs.declared.statements.Destination.TheVariants as destination
use Rattle.profile_image.specs.declared.statements.StatementForm.{StatementForm}
use Rattle.profile_image.specs.declared.statements.StatementForm.TheVariants as action
use Rattle.ada_regions.specs.declared.types.Subtype.{Subtype}
use Rattle.ada_regions.specs.declared.predefined.Predefined.{Predefined}
use Rattle.ada_regions.specs.declared.predefined.Predefined.TheVariants as items
use Rattle.ada_regions.specs.declared.entities.Denoted.{Denoted}
use Rattle.ada_regions.specs.declared.entities.Denoted.TheVariants as denotes
use Rattle.ada_regions.specs.declared.entities.EntityKind.{EntityKind}
use Rattle.ada_regions.specs.declared.entities.EntityKind.TheVariants as entity
use Rattle.ada_regions.specs.Words.{and_then, same_place}
use Rattle.ada_regions.specs.declared.table.Names.{Names}
use Rattle.ada_regions.specs.declared.table.NumberedScope.{NumberedScope}
use Rattle.ada_regions.specs.Names.{denoted_by, kind_at, entity_denoted, last_part}
use Rattle.ada_regions.specs.Statics.{static_value, subtype_of_name}
use Rattle.ada_regions.specs.TypeKinds.{is_array_type}
use Rattle.ada_regions.specs.Regions.{entry_number}
use Rattle.ada_image.specs.declared.making.Within.{Within}
use Rattle.ada_image.specs.declared.making.SequencePlace.{SequencePlace}
use Rattle.ada_image.specs.declared.making.SequencePlace.TheVariants as sequence_place
use Rattle.ada_image.specs.declared.making.OpenLoop.{OpenLoop}
use Rattle.ada_image.specs.Making.{Making, ◌>>=◌, ◌>>◌, pure, action_put, reserved, put_at, first_put}
use Rattle.ada_image.specs.Making.{the_action, in_loop, in_construct, in_scope, in_handler}
use Rattle.ada_image.specs.Layout.{is_kept, subtype_is, scope_no}
use Rattle.ada_image.specs.ImageOfExpressions.{expression_made, signs_in, signs_if, no_declaration_no, object_named}
use Rattle.ada_image.specs.ImageOfExpressions.{thing_named, thing_in, expression_image, kind_named, optional_value}
use Rattle.ada_image.specs.ImageOfCalls.{target_made, FunctionCall, function_call, function_call_put, owner_of_entry}
use Rattle.ada_image.specs.CallStatements.{call_statement_put, signs_in_actuals}

-- ---- scopes by the places of their constructs

unfoldable pub position_of_scope : ℕ → Place → List NumberedScope → ℕ
position_of_scope number place [] = 0
position_of_scope number place (s ∷ ss) =
    cond (same_place s.place place) number (position_of_scope (suc number) place ss)

unfoldable pub scope_at : Names → Place → ℕ
scope_at n place = position_of_scope 0 place n.scopes

-- ---- assignments (5.2): of a scalar, a whole array or a controlled object, or the value of a function's call

unfoldable pub array_name : Within → Option Name → ObjectName
array_name within name = unwrap_or (option_map (object_named within) name) (object.Declared no_declaration_no)

unfoldable pub array_assigned : Within → Assignment → ℕ → Option StatementNo → Making (Option StatementNo)
array_assigned within a signs next =
    action_put (action.AssignArray (object_named within a.target)
    (array_name within (expression_image a.value).name)) signs next

unfoldable pub controlled_assigned : Within → Assignment → Option StatementNo → Making (Option StatementNo)
controlled_assigned within a next =
    action_put (action.AssignControlled (thing_named within a.target)
    (thing_in within (expression_image a.value).name)) 0 next

unfoldable pub value_assigned : Within → Assignment → Option FunctionCall → ℕ → Option StatementNo
    → Making (Option StatementNo)
value_assigned within a None signs next = do
  target ← target_made within a.target a.index
  value ← expression_made a.value within
  action_put (action.Assign target value) signs next
value_assigned within a (Some c) signs next = do
  target ← target_made within a.target a.index
  function_call_put within c (destination.Variable target) signs next

unfoldable pub assigned_whole : Within → Assignment → Option Subtype → ℕ → Option StatementNo
    → Making (Option StatementNo)
assigned_whole within a s signs next = cond (subtype_is is_kept s) (controlled_assigned within a next)
    (cond (subtype_is is_array_type s) (array_assigned within a signs next)
    (value_assigned within a (function_call within a.value) signs next))

unfoldable pub assigned : Within → Assignment → Option Expression → ℕ → Option StatementNo → Making (Option StatementNo)
assigned within a None signs next = assigned_whole within a (subtype_of_name within.names a.target) signs next
assigned within a (Some i) signs next = value_assigned within a (function_call within a.value) signs next

unfoldable pub assignment_put : Within → Assignment → Option StatementNo → Making (Option StatementNo)
assignment_put within a next = assigned within a a.index (signs_if within a.index + signs_in within a.value) next

-- ---- simple statements

abbrev pub delay_form : Bool → ExprNo → StatementForm
delay_form true e = action.DelayUntil e
delay_form false e = action.Delay e

unfoldable pub delay_put : Within → Delay → Option StatementNo → Making (Option StatementNo)
delay_put within d next = do
  e ← expression_made d.value within
  action_put (delay_form d.until e) (signs_in within d.value) next

abbrev pub no_function : SubprogramNo
no_function = record { 0 = 0 }

unfoldable pub value_returned : Within → SubprogramNo → Expression → Option FunctionCall → Option StatementNo
    → Making (Option StatementNo)
value_returned within f e None next = do
  value ← expression_made e within
  action_put (action.ReturnValue f value) (signs_in within e) next
value_returned within f e (Some c) next = function_call_put within c (destination.Return f) (signs_in within e) next

unfoldable pub return_put : Within → Option Expression → Option StatementNo → Making (Option StatementNo)
return_put within None next = action_put action.Return 0 next
return_put within (Some e) next =
    value_returned within (unwrap_or within.function no_function) e (function_call within e) next

-- exceptions (11.1)
abbrev pub raised_kind : EntityKind → Raised
raised_kind entity.Package = raised.Program
raised_kind entity.Main = raised.Program
raised_kind (entity.Mark s) = raised.Program
raised_kind (entity.Literal enumeration position) = raised.Program
raised_kind (entity.Object s constant value declaration) = raised.Program
raised_kind (entity.Parameter s mode declaration) = raised.Program
raised_kind (entity.LoopParameter declaration) = raised.Program
raised_kind (entity.Component s owner declaration) = raised.Program
raised_kind (entity.Exception declaration) = raised.User declaration.0
raised_kind (entity.Subprogram number is_function specified formals unit) = raised.Program
raised_kind (entity.Entry number unit formals) = raised.Program
raised_kind entity.Label = raised.Program

unfoldable pub raised_item : Predefined → Raised
raised_item (items.Mark s) = raised.Program
raised_item (items.Constant of_type value) = raised.Program
raised_item (items.Truth b) = raised.Program
raised_item (items.Exception e) = e
raised_item (items.Operation operation) = raised.Program

unfoldable pub exception_denoted : Names → Denoted → Raised
exception_denoted n (denotes.Entity e) = unwrap_or (option_map raised_kind (kind_at n e)) raised.Program
exception_denoted n (denotes.Unit u) = raised.Program
exception_denoted n (denotes.Item u item) = raised_item item

unfoldable pub exception_named : Within → Name → Raised
exception_named within name =
    unwrap_or (option_map (exception_denoted within.names) (denoted_by within.names name)) raised.Program

unfoldable pub raise_put : Within → Option Name → Option StatementNo → Making (Option StatementNo)
raise_put within None next = action_put (action.RaiseAgain (scope_no (unwrap_or within.handling 0))) 0 next
raise_put within (Some name) next = action_put (action.Raise (exception_named within name)) 0 next

-- an exit leaves the loop that it names, or the innermost (5.7)
abbrev pub is_label : Option ℕ → Option ℕ → Bool
is_label None label = false
is_label (Some e) None = false
is_label (Some e) (Some label) = eqb label e

unfoldable pub has_label : Option ℕ → OpenLoop → Bool
has_label e l = is_label e l.label

unfoldable pub loop_left : Within → Option Identifier → Option OpenLoop
loop_left within None = first_of within.loops
loop_left within (Some i) = find (has_label (entity_denoted within.names i.place)) within.loops

abbrev pub loop_statement : Option OpenLoop → StatementNo
loop_statement None = record { 0 = 0 }
loop_statement (Some l) = l.statement

unfoldable pub exit_put : Within → Exit → Option StatementNo → Making (Option StatementNo)
exit_put within e next = do
  c ← optional_value within e.condition
  action_put (action.Exit c (loop_statement (loop_left within e.loop_name))) (signs_if within e.condition) next

-- ---- choices (5.4, 11.2)

unfoldable pub static_or_zero : Within → Expression → Value
static_or_zero within e = unwrap_or (static_value within.names e) (value.Whole (pos 0))

unfoldable pub choice_made : Within → Choice → CaseChoice
choice_made within (choice.Value v) = case_choice.Single (static_or_zero within v)
choice_made within (choice.Range low high) = case_choice.Range (static_or_zero within low) (static_or_zero within high)
choice_made within (choice.Others place) = case_choice.Others

unfoldable pub choices_made : Within → OneOrMore Choice → List CaseChoice
choices_made within cs = choice_made within cs.first ∷ map (choice_made within) cs.others

unfoldable pub handled_made : Within → HandledExceptions → List ExceptionChoice
handled_made within (exceptions.Named names) =
    exception_choice.Named (exception_named within names.first)
    ∷ map (λ name. exception_choice.Named (exception_named within name)) names.others
handled_made within (exceptions.Others place) = exception_choice.Others ∷ []

abbrev pub loop_parameter_number : EntityKind → Option DeclNo
loop_parameter_number (entity.LoopParameter declaration) = Some declaration
loop_parameter_number _ = None

-- ---- entries, aborts and requeues (9.5.2, 9.5.4, 9.8)

abbrev pub no_entry : EntryNo
no_entry = record { 0 = 0 }

unfoldable pub entry_at : Within → Place → EntryNo
entry_at within place =
    unwrap_or (and_then (entity_denoted within.names place) (λ e. and_then (kind_at within.names e) entry_number))
    no_entry

unfoldable pub abort_put : Within → OneOrMore Name → Option StatementNo → Making (Option StatementNo)
abort_put within tasks next =
    action_put (action.Abort (thing_named within tasks.first ∷ map (thing_named within) tasks.others)) 0 next

abbrev pub unit_of_kind : EntityKind → Option EntryUnit
unit_of_kind (entity.Entry number unit formals) = Some unit
unit_of_kind _ = None

abbrev pub no_unit : EntryUnit
no_unit = entry_unit.Task (record { 0 = 0 })

unfoldable pub unit_of_entry : Within → Name → EntryUnit
unit_of_entry within name = unwrap_or (and_then (kind_named within name) unit_of_kind) no_unit

unfoldable pub requeue_put : Within → Name → Bool → Option StatementNo → Making (Option StatementNo)
requeue_put within name with_abort next =
    action_put (action.Requeue (entry_at within (last_part name).place)
    (owner_of_entry within name (unit_of_entry within name)) with_abort) 0 next

abbrev pub guard_of : Option Guard → Option Expression
guard_of guard = option_map (λ g. g.condition) guard

unfoldable pub signs_in_trigger : Within → Trigger → ℕ
signs_in_trigger within (trigger.Call c) = signs_in_actuals within c.arguments
signs_in_trigger within (trigger.Delay d) = signs_in within d.value

-- the entity of a loop's label
unfoldable pub label_of : {Q : Type 0} → Within → Loop Q → Option ℕ
label_of within l = and_then l.label (λ x. entity_denoted within.names x.name.place)

-- the declaration of a loop parameter
unfoldable pub parameter_of : Within → Identifier → DeclNo
parameter_of within i =
    unwrap_or (and_then (entity_denoted within.names i.place)
    (λ e. and_then (kind_at within.names e) loop_parameter_number)) no_declaration_no

unfoldable pub signs_in_alternative : {Q : Type 0} → Within → Alternative Q → ℕ
signs_in_alternative within (alternative.Accept a statements) = 0
signs_in_alternative within (alternative.Delay d statements) = signs_in within d.value
signs_in_alternative within (alternative.Terminate place) = 0

unfoldable pub signs_in_alternatives : {Q : Type 0} → Within → List (SelectAlternative Q) → ℕ
signs_in_alternatives within [] = 0
signs_in_alternatives within (a ∷ rest) =
    signs_if within (guard_of a.guard) + (signs_in_alternative within a.alternative + signs_in_alternatives within rest)

-- ---- sequences: what is made of one depends on where it stands

abbrev pub SequenceMaking : Type 0
SequenceMaking = SequencePlace → Within → Option StatementNo → Making (Option StatementNo)

module _ {Q : Type 0} (sequence : Q → SequenceMaking) where
  unfoldable pub inside : Q → Within → Option StatementNo → Making (Option StatementNo)
  inside q within next = sequence q sequence_place.StatementsAlone within next

  unfoldable pub inside_if : Option Q → Within → Option StatementNo → Making (Option StatementNo)
  inside_if None within next = pure next
  inside_if (Some q) within next = inside q within next

  -- ---- if and case (5.3, 5.4)

  unfoldable pub branch_put : Within → Expression → Q → Option StatementNo → Option StatementNo
      → Making (Option StatementNo)
  branch_put within c q otherwise next = do
    first ← inside q within next
    e ← expression_made c within
    action_put (action.If e (the_action first) otherwise) (signs_in within c) next

  unfoldable pub elsifs_put : Within → List (Elsif Q) → Option StatementNo → Option StatementNo
      → Making (Option StatementNo)
  elsifs_put within [] otherwise next = pure otherwise
  elsifs_put within (e ∷ es) otherwise next = do
    later ← elsifs_put within es otherwise next
    branch_put within e.condition e.statements later next

  unfoldable pub if_put : Within → If Q → Option StatementNo → Making (Option StatementNo)
  if_put within i next = do
    otherwise ← inside_if i.otherwise within next
    later ← elsifs_put within i.elsifs otherwise next
    branch_put within i.condition i.statements later next

  unfoldable pub alternatives_put : Within → List (CaseAlternative Q) → Option StatementNo → Making (List CaseActions)
  alternatives_put within [] next = pure []
  alternatives_put within (a ∷ rest) next = do
    first ← inside a.statements within next
    others ← alternatives_put within rest next
    pure (record { choices = choices_made within a.choices; first = the_action first } ∷ others)

  unfoldable pub case_put : Within → Case Q → Option StatementNo → Making (Option StatementNo)
  case_put within c next = do
    alternatives ← alternatives_put within (c.alternatives.first ∷ c.alternatives.others) next
    selector ← expression_made c.selector within
    action_put (action.Case selector alternatives) (signs_in within c.selector) next

  -- ---- loops (5.5): the body leads back to the loop's statement

  unfoldable pub loop_body : Within → Loop Q → StatementNo → StatementNo → Making (Option StatementNo)
  loop_body within l s turn = inside l.statements (in_loop (label_of within l) s within) (Some turn)

  unfoldable pub forever_put : Within → Loop Q → Option StatementNo → Making (Option StatementNo)
  forever_put within l next = do
    s ← reserved
    body ← loop_body within l s s
    put_at s (action.Loop (the_action body) within.construct) 0 next

  unfoldable pub while_put : Within → Loop Q → Expression → Option StatementNo → Making (Option StatementNo)
  while_put within l c next = do
    s ← reserved
    body ← loop_body within l s s
    e ← expression_made c within
    put_at s (action.While e (the_action body) within.construct) (signs_in within c) next

  unfoldable pub for_put : Within → Loop Q → DeclNo → Bool → Expression → Expression → Option StatementNo
      → Making (Option StatementNo)
  for_put within l d reverse low high next = do
    s ← reserved
    first ← reserved
    later ← reserved
    body ← loop_body within l s later
    put_at first (action.FirstTurn d reverse (the_action body)) 0 next
    put_at later (action.LaterTurn d reverse (the_action body)) 0 next
    a ← expression_made low within
    b ← expression_made high within
    put_at s (action.For d reverse a b first within.construct) (signs_in within low + signs_in within high) next

  unfoldable pub iteration_put : Within → Loop Q → Iteration → Option StatementNo → Making (Option StatementNo)
  iteration_put within l iteration.Forever next = forever_put within l next
  iteration_put within l (iteration.While place c) next = while_put within l c next
  iteration_put within l (iteration.For place i reverse low high) next =
      for_put within l (parameter_of within i) reverse low high next

  unfoldable pub loop_put : Within → Loop Q → Option StatementNo → Making (Option StatementNo)
  loop_put within l next = iteration_put within l l.iteration next

  -- ---- blocks (5.6)

  unfoldable pub block_put : Within → Block Q → Option StatementNo → Making (Option StatementNo)
  block_put within b next = do
    s ← reserved
    first ← sequence b.sequence (sequence_place.AsBody false)
        (in_construct s (in_scope (scope_at within.names b.place) within)) None
    first_put (scope_at within.names b.place) first
    put_at s (action.Block (scope_no (scope_at within.names b.place))) 0 next

  -- ---- handlers (11.2)

  unfoldable pub handlers_put : Within → List (Handler Q) → Option StatementNo → Making (List ExceptionHandler)
  handlers_put within [] next = pure []
  handlers_put within (h ∷ hs) next = do
    first ← inside h.statements (in_handler within) next
    others ← handlers_put within hs next
    pure (record { choices = handled_made within h.exceptions; first = the_action first } ∷ others)

  -- ---- accepts (9.5.2): without statements nothing stands in its scope

  unfoldable pub accept_body_put : Within → StatementNo → ℕ → Option (AcceptBody Q) → Making (Option StatementNo)
  accept_body_put within s scope None = pure None
  accept_body_put within s scope (Some b) =
      sequence b.sequence (sequence_place.BehindDeclarations None) (in_construct s (in_scope scope within)) None

  unfoldable pub accept_put : Within → Accept Q → Option StatementNo → Making (Option StatementNo)
  accept_put within a next = do
    s ← reserved
    first ← accept_body_put within s (scope_at within.names a.place) a.body
    first_put (scope_at within.names a.place) first
    put_at s (action.Accept (entry_at within a.entry.place) (scope_no (scope_at within.names a.place))) 0 next

  -- ---- selects (9.7): an accept, a delay and a call have statements of their own, which lead to those behind them

  unfoldable pub alternative_put : Within → Alternative Q → Option StatementNo → Making SelectKind
  alternative_put within (alternative.Accept a statements) next = do
    behind ← inside_if statements within next
    s ← accept_put within a behind
    pure (select_kind.Accept (the_action s))
  alternative_put within (alternative.Delay d statements) next = do
    behind ← inside_if statements within next
    s ← delay_put within d behind
    pure (select_kind.Delay (the_action s))
  alternative_put within (alternative.Terminate place) next = pure select_kind.Terminate

  unfoldable pub select_alternative_put : Within → SelectAlternative Q → Option StatementNo → Making GuardedAlternative
  select_alternative_put within a next = do
    guard ← optional_value within (guard_of a.guard)
    kind ← alternative_put within a.alternative next
    pure (record { guard = guard; kind = kind })

  unfoldable pub select_alternatives_put : Within → List (SelectAlternative Q) → Option StatementNo
      → Making (List GuardedAlternative)
  select_alternatives_put within [] next = pure []
  select_alternatives_put within (a ∷ rest) next = do
    one ← select_alternative_put within a next
    others ← select_alternatives_put within rest next
    pure (one ∷ others)

  unfoldable pub else_put : Within → Option Q → Option StatementNo → Making (Option StatementNo)
  else_put within None next = pure None
  else_put within (Some q) next = inside q within next

  unfoldable pub selective_accept_put : Within → SelectiveAccept Q → Option StatementNo → Making (Option StatementNo)
  selective_accept_put within s next = do
    alternatives ← select_alternatives_put within (s.alternatives.first ∷ s.alternatives.others) next
    otherwise ← else_put within s.otherwise next
    action_put (action.SelectiveAccept alternatives otherwise) (signs_in_alternatives within (s.alternatives.first
        ∷ s.alternatives.others)) next

  unfoldable pub call_before : Within → Call → Option Q → Option StatementNo → Making (Option StatementNo)
  call_before within c statements next = do
    behind ← inside_if statements within next
    call_statement_put within c.name c.arguments behind

  unfoldable pub delay_before : Within → Delay → Option Q → Option StatementNo → Making (Option StatementNo)
  delay_before within d statements next = do
    behind ← inside_if statements within next
    delay_put within d behind

  unfoldable pub timed_call_put : Within → TimedEntryCall Q → Option StatementNo → Making (Option StatementNo)
  timed_call_put within t next = do
    call ← call_before within t.call t.statements next
    delay ← delay_before within t.delay t.delay_statements next
    action_put (action.TimedCall (the_action call) (the_action delay)) (signs_in_actuals within t.call.arguments
        + signs_in within t.delay.value) next

  unfoldable pub conditional_call_put : Within → ConditionalEntryCall Q → Option StatementNo
      → Making (Option StatementNo)
  conditional_call_put within c next = do
    call ← call_before within c.call c.statements next
    otherwise ← inside c.otherwise within next
    action_put (action.ConditionalCall (the_action call) (the_action otherwise))
        (signs_in_actuals within c.call.arguments) next

  unfoldable pub trigger_put : Within → Trigger → Option Q → Option StatementNo → Making (Option StatementNo)
  trigger_put within (trigger.Call c) statements next = call_before within c statements next
  trigger_put within (trigger.Delay d) statements next = delay_before within d statements next

  -- what is aborted ends inside the select
  unfoldable pub asynchronous_put : Within → AsynchronousSelect Q → Option StatementNo → Making (Option StatementNo)
  asynchronous_put within a next = do
    s ← reserved
    trigger ← trigger_put within a.trigger a.statements next
    abortable ← inside a.abortable (in_construct s within) None
    put_at s (action.AsynchronousSelect (the_action trigger) (the_action abortable))
        (signs_in_trigger within a.trigger) next

  unfoldable pub select_put : Within → SelectForm Q → Option StatementNo → Making (Option StatementNo)
  select_put within (select.SelectiveAccept s) next = selective_accept_put within s next
  select_put within (select.TimedEntryCall t) next = timed_call_put within t next
  select_put within (select.ConditionalEntryCall c) next = conditional_call_put within c next
  select_put within (select.AsynchronousSelect a) next = asynchronous_put within a next

  -- ---- all statements

  unfoldable pub statement_put : Within → Statement Q → Option StatementNo → Making (Option StatementNo)
  statement_put within (statement.Null place) next = action_put action.Null 0 next
  statement_put within (statement.Assignment a) next = assignment_put within a next
  statement_put within (statement.Call c) next = call_statement_put within c.name c.arguments next
  statement_put within (statement.Delay d) next = delay_put within d next
  statement_put within (statement.If i) next = if_put within i next
  statement_put within (statement.Case c) next = case_put within c next
  statement_put within (statement.Loop l) next = loop_put within l next
  statement_put within (statement.Exit e) next = exit_put within e next
  statement_put within (statement.Block b) next = block_put within b next
  statement_put within (statement.Return place e) next = return_put within e next
  statement_put within (statement.Raise place exception) next = raise_put within exception next
  statement_put within (statement.Abort place tasks) next = abort_put within tasks next
  statement_put within (statement.Accept a) next = accept_put within a next
  statement_put within (statement.Requeue place entry with_abort) next = requeue_put within entry with_abort next
  statement_put within (statement.Select s) next = select_put within s.form next

  -- the statements of a list, from the last to the first
  unfoldable pub statements_put : Within → List (Statement Q) → Option StatementNo → Making (Option StatementNo)
  statements_put within [] next = pure next
  statements_put within (s ∷ ss) next = do
    later ← statements_put within ss next
    statement_put within s later
