-- Reading an image back: whether the actions that follow one another from a place on are statements of the text, in its
-- order, each of its kind and with its parts (clauses 5, 6, 9, 11).
use Rattle.std.specs.Prelude.{ℕ, ◌+◌, Bool, true, false, cond, not, ◌&&◌, List, [], ◌∷◌}
use Rattle.std.specs.Prelude.{Option, Some, None, option_map, unwrap_or, eqb, is_none, map}
use Rattle.std.specs.Str.{bytes_eq}
use Rattle.ann_base.specs.declared.exceptions.Raised.{Raised}
use Rattle.ann_base.specs.declared.exceptions.Raised.TheVariants as raised
use Rattle.ada_tree.specs.declared.names.Identifier.{Identifier}
use Rattle.ada_tree.specs.declared.names.Name.{Name}
use Rattle.ada_tree.specs.declared.names.OneOrMore.{OneOrMore}
use Rattle.ada_tree.specs.declared.expressions.Expression.{Expression}
use Rattle.ada_tree.specs.declared.expressions.Expression.TheViews.{out-Expression}
use Rattle.ada_tree.specs.declared.expressions.ExpressionForm.{ExpressionForm}
use Rattle.ada_tree.specs.declared.expressions.ExpressionForm.TheVariants as form
use Rattle.ada_tree.specs.declared.expressions.Addend.{Addend}
use Rattle.ada_tree.specs.declared.expressions.Argument.{Argument}
use Rattle.ada_tree.specs.declared.statements.Statement.{Statement}
use Rattle.ada_tree.specs.declared.statements.Statement.TheVariants as statement
use Rattle.ada_tree.specs.declared.statements.Assignment.{Assignment}
use Rattle.ada_tree.specs.declared.statements.Call.{Call}
use Rattle.ada_tree.specs.declared.statements.Delay.{Delay}
use Rattle.ada_tree.specs.declared.statements.If.{If}
use Rattle.ada_tree.specs.declared.statements.Elsif.{Elsif}
use Rattle.ada_tree.specs.declared.statements.Case.{Case}
use Rattle.ada_tree.specs.declared.statements.CaseAlternative.{CaseAlternative}
use Rattle.ada_tree.specs.declared.statements.Loop.{Loop}
use Rattle.ada_tree.specs.declared.statements.Iteration.{Iteration}
use Rattle.ada_tree.specs.declared.statements.Iteration.TheVariants as iteration
use Rattle.ada_tree.specs.declared.statements.Exit.{Exit}
use Rattle.ada_tree.specs.declared.statements.Block.{Block}
use Rattle.ada_tree.specs.declared.statements.Handler.{Handler}
use Rattle.ada_tree.specs.declared.statements.Accept.{Accept}
use Rattle.ada_tree.specs.declared.statements.AcceptBody.{AcceptBody}
use Rattle.ada_tree.specs.declared.selects.SelectForm.{SelectForm}
use Rattle.ada_tree.specs.declared.selects.SelectForm.TheVariants as select
use Rattle.ada_tree.specs.declared.selects.SelectAlternative.{SelectAlternative}
use Rattle.ada_tree.specs.declared.selects.Alternative.{Alternative}
use Rattle.ada_tree.specs.declared.selects.Alternative.TheVariants as alternative
use Rattle.ada_tree.specs.declared.selects.Trigger.{Trigger}
use Rattle.ada_tree.specs.declared.selects.Trigger.TheVariants as trigger
use Rattle.profile_image.specs.declared.image.Image.{Image}
use Rattle.profile_image.specs.declared.numbers.DeclNo.{DeclNo}
use Rattle.profile_image.specs.declared.numbers.EntryNo.{EntryNo}
use Rattle.profile_image.specs.declared.numbers.ExprNo.{ExprNo}
use Rattle.profile_image.specs.declared.numbers.StatementNo.{StatementNo}
use Rattle.profile_image.specs.declared.numbers.SubprogramNo.{SubprogramNo}
use Rattle.profile_image.specs.declared.declarations.ExceptionChoice.{ExceptionChoice}
use Rattle.profile_image.specs.declared.declarations.ExceptionChoice.TheVariants as exception_choice
use Rattle.profile_image.specs.declared.declarations.Handler.{Handler as ExceptionHandler}
use Rattle.profile_image.specs.declared.expressions.VariableName.{VariableName}
use Rattle.profile_image.specs.declared.statements.Actual.{Actual}
use Rattle.profile_image.specs.declared.statements.Actual.TheVariants as actual
use Rattle.profile_image.specs.declared.statements.Callee.{Callee}
use Rattle.profile_image.specs.declared.statements.Callee.TheVariants as callee
use Rattle.profile_image.specs.declared.statements.CaseAlternative.{CaseAlternative as CaseActions}
use Rattle.profile_image.specs.declared.statements.Choice.{Choice as CaseChoice}
use Rattle.profile_image.specs.declared.statements.Choice.TheVariants as case_choice
use Rattle.profile_image.specs.declared.statements.Destination.{Destination}
use Rattle.profile_image.specs.declared.statements.Destination.TheVariants as destination
use Rattle.profile_image.specs.declared.statements.EntryOwner.{EntryOwner}
use Rattle.profile_image.specs.declared.statements.EntryOwner.TheVariants as entry_owner
use Rattle.profile_image.specs.declared.statements.HandlerName.{HandlerName}
use Rattle.profile_image.specs.declared.statements.Piece.{Piece}
use Rattle.profile_image.specs.declared.statements.Piece.TheVariants as piece
use Rattle.profile_image.specs.declared.statements.SelectAlternative.{SelectAlternative as GuardedAlternative}
use Rattle.profile_image.specs.declared.statements.SelectKind.{SelectKind}
use Rattle.profile_image.specs.declared.statements.SelectKind.TheVariants as select_kind
use Rattle.profile_image.specs.declared.statements.Setting.{Setting}
use Rattle.profile_image.specs.declared.statements.Setting.TheVariants as setting
use Rattle.profile_image.specs.declared.statements.StatementForm.{StatementForm}
use Rattle.profile_image.specs.declared.statements.StatementForm.TheVariants as action
use Rattle.profile_image.specs.Program.{form_of, next_of, scope_of}
use Rattle.profile_image.specs.Words.{same_option, same_statement, same_bool}
use Rattle.ada_regions.specs.declared.types.Formal.{Formal}
use Rattle.ada_regions.specs.declared.types.Mode.{Mode}
use Rattle.ada_regions.specs.declared.types.Mode.TheVariants as mode
use Rattle.ada_regions.specs.declared.types.Subtype.{Subtype}
use Rattle.ada_regions.specs.declared.predefined.Operation.{Operation}
use Rattle.ada_regions.specs.declared.predefined.Operation.TheVariants as operations
use Rattle.ada_regions.specs.declared.predefined.Predefined.{Predefined}
use Rattle.ada_regions.specs.declared.predefined.Predefined.TheVariants as items
use Rattle.ada_regions.specs.declared.entities.Denoted.{Denoted}
use Rattle.ada_regions.specs.declared.entities.Denoted.TheVariants as denotes
use Rattle.ada_regions.specs.declared.entities.EntityKind.{EntityKind}
use Rattle.ada_regions.specs.declared.entities.EntityKind.TheVariants as entity
use Rattle.ada_regions.specs.Words.{and_then}
use Rattle.ada_regions.specs.PredefinedUnits.{names_of_formals}
use Rattle.ada_regions.specs.Names.{denoted_by, kind_at, last_part, entity_denoted}
use Rattle.ada_regions.specs.Statics.{subtype_of_name}
use Rattle.ada_regions.specs.TypeKinds.{is_array_type}
use Rattle.ada_image.specs.declared.making.Within.{Within}
use Rattle.ada_image.specs.Making.{in_construct, in_handler, in_loop, in_scope, first_given}
use Rattle.ada_image.specs.Layout.{is_kept, is_thing, subtype_is, scope_no}
use Rattle.ada_image.specs.ImageOfExpressions.{object_named, thing_named, thing_in, expression_image}
use Rattle.ada_image.specs.ImageOfExpressions.{first_argument, actuals_for, no_declaration_no}
use Rattle.ada_image.specs.ImageOfCalls.{FunctionCall, function_call, callee_of, owner_of_entry, names_of, image_piece}
use Rattle.ada_image.specs.ImageOfProcedures.{second_of, third_of, thing_of, handler_of, is_in_time, moment_of}
use Rattle.ada_image.specs.declared.making.SequencePlace.{SequencePlace}
use Rattle.ada_image.specs.declared.making.SequencePlace.TheVariants as sequence_place
use Rattle.ada_image.specs.ImageOfStatements.{scope_at, array_name, exception_named, loop_left, loop_statement}
use Rattle.ada_image.specs.ImageOfStatements.{choices_made, handled_made, loop_parameter_number, entry_at}
use Rattle.ada_image.specs.ImageOfStatements.{unit_of_entry, guard_of, no_function}
use Rattle.ada_image.specs.ReadExpressions.{same_decl, same_object, is_value, expression_stands, is_variable}

-- ---- the same thing

abbrev pub same_next : Option StatementNo → Option StatementNo → Bool
same_next a b = same_option same_statement a b

abbrev pub raised_number : Raised → ℕ
raised_number raised.Constraint = 0
raised_number raised.Program = 1
raised_number raised.Storage = 2
raised_number raised.Tasking = 3
raised_number raised.TimerResource = 4
raised_number raised.GroupBudget = 5
raised_number raised.DispatchingPolicy = 6
raised_number (raised.User d) = d + 7

abbrev pub same_raised : Raised → Raised → Bool
same_raised a b = eqb (raised_number a) (raised_number b)

abbrev pub same_choice : CaseChoice → CaseChoice → Bool
same_choice (case_choice.Single a) (case_choice.Single b) = is_value a b
same_choice (case_choice.Range a b) (case_choice.Range c d) = is_value a c && is_value b d
same_choice case_choice.Others case_choice.Others = true
same_choice _ _ = false

abbrev pub same_handled : ExceptionChoice → ExceptionChoice → Bool
same_handled (exception_choice.Named a) (exception_choice.Named b) = same_raised a b
same_handled exception_choice.Others exception_choice.Others = true
same_handled _ _ = false

abbrev pub all_same : {X : Type 0} → (X → X → Bool) → List X → List X → Bool
all_same same [] [] = true
all_same same [] (y ∷ ys) = false
all_same same (x ∷ xs) [] = false
all_same same (x ∷ xs) (y ∷ ys) = same x y && all_same same xs ys

abbrev pub same_callee : Callee → Callee → Bool
same_callee (callee.Subprogram a) (callee.Subprogram b) = eqb a.0 b.0
same_callee (callee.Operation o a) (callee.Operation q b) = same_decl o q && eqb a.0 b.0
same_callee (callee.OwnOperation a) (callee.OwnOperation b) = eqb a.0 b.0
same_callee _ _ = false

abbrev pub same_entry_owner : EntryOwner → EntryOwner → Bool
same_entry_owner (entry_owner.Object a) (entry_owner.Object b) = same_decl a b
same_entry_owner entry_owner.Own entry_owner.Own = true
same_entry_owner _ _ = false

abbrev pub same_handler : HandlerName → HandlerName → Bool
same_handler a b = same_decl a.object b.object && eqb a.procedure.0 b.procedure.0

-- ---- pieces of a text

abbrev pub is_whole_piece : Piece → Bool
is_whole_piece (piece.Whole e) = true
is_whole_piece _ = false

abbrev pub is_truth_piece : Piece → Bool
is_truth_piece (piece.Truth e) = true
is_truth_piece _ = false

abbrev pub is_literal_piece : ℕ → Piece → Bool
is_literal_piece number (piece.Literal e n) = eqb number n.0
is_literal_piece number _ = false

abbrev pub terms_of : List (Addend Expression) → List Expression
terms_of addends = map (λ a. a.term) addends

-- the texts that are joined
abbrev pub joined : ExpressionForm Expression → Expression → List Expression
joined (form.Adding first others) e = first ∷ terms_of (others.first ∷ others.others)
joined _ e = e ∷ []

-- ---- turns of a for loop

abbrev pub is_turn_form : DeclNo → Bool → StatementNo → StatementForm → Bool
is_turn_form d reverse body (action.LaterTurn e r b) = same_decl d e && (same_bool r reverse && same_statement b body)
is_turn_form d reverse body _ = false

-- the later turn stands behind the first one, which stands behind the loop's own action
abbrev pub later_turn : StatementNo → StatementNo
later_turn s = record { 0 = s.0 + 2 }

abbrev pub loop_parameter_at : Within → Identifier → DeclNo
loop_parameter_at within i =
    unwrap_or (and_then (entity_denoted within.names i.place)
    (λ e. and_then (kind_at within.names e) loop_parameter_number)) no_declaration_no

-- ---- parts of statements

abbrev pub Reading : Type 0
Reading = Option StatementNo → Option StatementNo → Bool

-- the main procedure calls itself, or is called in a body inside it
abbrev pub is_call_of_main : StatementForm → Bool
is_call_of_main action.CallMain = true
is_call_of_main _ = false

module _ (p : Image) where
  abbrev pub value_stands : Within → Expression → ExprNo → Bool
  value_stands within e number = expression_stands p within e number

  abbrev pub value_stands_if : Within → Option Expression → ExprNo → Bool
  value_stands_if within None number = false
  value_stands_if within (Some e) number = value_stands within e number

  abbrev pub condition_stands : Within → Option Expression → Option ExprNo → Bool
  condition_stands within None None = true
  condition_stands within None (Some c) = false
  condition_stands within (Some e) None = false
  condition_stands within (Some e) (Some c) = value_stands within e c

  abbrev pub target_stands : Within → Name → Option Expression → VariableName → Bool
  target_stands within name index v = is_variable p within name (option_map (value_stands within) index) v

  abbrev pub variable_stands_in_form : Within → ExpressionForm Expression → VariableName → Bool
  variable_stands_in_form within (form.Named name a arguments) v =
      target_stands within name (first_argument arguments) v
  variable_stands_in_form within _ v = false

  abbrev pub variable_stands : Within → Expression → VariableName → Bool
  variable_stands within e v = variable_stands_in_form within (out-Expression e).form v

  abbrev pub variable_stands_if : Within → Option Expression → VariableName → Bool
  variable_stands_if within None v = false
  variable_stands_if within (Some e) v = variable_stands within e v

  -- ---- actuals (6.4.1): one for each formal, by its mode

  abbrev pub mode_stands : Within → Mode → Expression → Actual → Bool
  mode_stands within mode.In e (actual.In value) = value_stands within e value
  mode_stands within mode.Out e (actual.Out v) = variable_stands within e v
  mode_stands within mode.InOut e (actual.InOut v) = variable_stands within e v
  mode_stands within m e _ = false

  abbrev pub thing_stands : Within → Expression → Actual → Bool
  thing_stands within e (actual.Thing d) = same_decl d (thing_in within (expression_image e).name)
  thing_stands within e _ = false

  abbrev pub actual_stands_for : Within → Formal → Option Expression → Actual → Bool
  actual_stands_for within f None a = false
  actual_stands_for within f (Some e) a =
      cond (subtype_is is_thing f.subtype) (thing_stands within e a) (mode_stands within f.mode e a)

  abbrev pub actuals_stand : Within → List Formal → List (Option Expression) → List Actual → Bool
  actuals_stand within [] es [] = true
  actuals_stand within (f ∷ fs) (e ∷ es) (a ∷ rest) = actual_stands_for within f e a && actuals_stand within fs es rest
  actuals_stand within _ _ _ = false

  abbrev pub arguments_stand : Within → List Formal → List (Argument Expression) → List Actual → Bool
  arguments_stand within formals arguments actuals =
      actuals_stand within formals (actuals_for (names_of formals) arguments) actuals

  -- ---- calls

  abbrev pub call_stands : Within → FunctionCall → (Destination → Bool) → StatementForm → Bool
  call_stands within c is_destination (action.Call called actuals d) =
      same_callee called (callee_of within c.name c.number c.unit)
      && (arguments_stand within c.formals c.arguments actuals && is_destination d)
  call_stands within c is_destination _ = false

  abbrev pub goes_nowhere : Destination → Bool
  goes_nowhere destination.Nowhere = true
  goes_nowhere _ = false

  abbrev pub goes_into : Within → Name → Option Expression → Destination → Bool
  goes_into within name index (destination.Variable v) = target_stands within name index v
  goes_into within name index _ = false

  abbrev pub is_declared : DeclNo → Destination → Bool
  is_declared d (destination.Declaration e) = same_decl d e
  is_declared d _ = false

  abbrev pub is_returned : SubprogramNo → Destination → Bool
  is_returned f (destination.Return g) = eqb f.0 g.0
  is_returned f _ = false

  -- ---- Put_Line

  abbrev pub piece_stands_in_form : Within → ExpressionForm Expression → Piece → Bool
  piece_stands_in_form within (form.Text place text) (piece.Text t) = bytes_eq t text
  piece_stands_in_form within (form.Named name a arguments) (piece.Whole e) =
      value_stands_if within (first_argument arguments) e
      && is_whole_piece (image_piece e (subtype_of_name within.names name))
  piece_stands_in_form within (form.Named name a arguments) (piece.Truth e) =
      value_stands_if within (first_argument arguments) e
      && is_truth_piece (image_piece e (subtype_of_name within.names name))
  piece_stands_in_form within (form.Named name a arguments) (piece.Literal e number) =
      value_stands_if within (first_argument arguments) e
      && is_literal_piece number.0 (image_piece e (subtype_of_name within.names name))
  piece_stands_in_form within _ _ = false

  abbrev pub piece_stands : Within → Expression → Piece → Bool
  piece_stands within e x = piece_stands_in_form within (out-Expression e).form x

  abbrev pub pieces_stand : Within → List Expression → List Piece → Bool
  pieces_stand within [] [] = true
  pieces_stand within (e ∷ es) (x ∷ xs) = piece_stands within e x && pieces_stand within es xs
  pieces_stand within _ _ = false

  abbrev pub text_stands : Within → Option Expression → List Piece → Bool
  text_stands within None pieces = false
  text_stands within (Some e) pieces = pieces_stand within (joined (out-Expression e).form e) pieces

  -- ---- predefined procedures

  abbrev pub setting_stands : Within → List (Argument Expression) → Setting → Bool
  setting_stands within arguments (setting.At e) = not (is_in_time within arguments)
      && value_stands_if within (moment_of arguments) e
  setting_stands within arguments (setting.In e) = is_in_time within arguments
      && value_stands_if within (moment_of arguments) e

  abbrev pub thing_is : Within → Option Expression → DeclNo → Bool
  thing_is within e d = same_decl d (thing_of within e)

  abbrev pub handler_is : Within → Option Expression → Option HandlerName → Bool
  handler_is within e h = same_option same_handler h (handler_of within e)

  abbrev pub procedure_stands : Within → Operation → List (Argument Expression) → List (Option Expression)
      → StatementForm → Bool
  procedure_stands within operations.PutLine arguments es (action.PutLine pieces) =
      text_stands within (first_given es) pieces
  procedure_stands within operations.SetEvent arguments es (action.SetEvent d s h) =
      thing_is within (first_given es) d && (setting_stands within arguments s && handler_is within (third_of es) h)
  procedure_stands within operations.SetTimer arguments es (action.SetTimer d s h) =
      thing_is within (first_given es) d && (setting_stands within arguments s && handler_is within (third_of es) h)
  procedure_stands within operations.CancelEvent arguments es (action.CancelEvent d v) =
      thing_is within (first_given es) d && variable_stands_if within (second_of es) v
  procedure_stands within operations.CancelTimer arguments es (action.CancelTimer d v) =
      thing_is within (first_given es) d && variable_stands_if within (second_of es) v
  procedure_stands within operations.CancelBudget arguments es (action.CancelBudget d v) =
      thing_is within (first_given es) d && variable_stands_if within (second_of es) v
  procedure_stands within operations.AddTask arguments es (action.AddTask d e) = thing_is within (first_given es) d
      && value_stands_if within (second_of es) e
  procedure_stands within operations.RemoveTask arguments es (action.RemoveTask d e) =
      thing_is within (first_given es) d && value_stands_if within (second_of es) e
  procedure_stands within operations.Replenish arguments es (action.Replenish d e) =
      thing_is within (first_given es) d && value_stands_if within (second_of es) e
  procedure_stands within operations.Add arguments es (action.AddToBudget d e) = thing_is within (first_given es) d
      && value_stands_if within (second_of es) e
  procedure_stands within operations.SetBudget arguments es (action.SetBudget d h) =
      thing_is within (first_given es) d && handler_is within (second_of es) h
  procedure_stands within operations.SetPriority arguments es (action.SetPriority e t) =
      value_stands_if within (first_given es) e && condition_stands within (second_of es) t
  procedure_stands within operations.SetDeadline arguments es (action.SetDeadline e t) =
      value_stands_if within (first_given es) e && condition_stands within (second_of es) t
  procedure_stands within operations.SetQuantum arguments es (action.SetQuantum a b) =
      value_stands_if within (first_given es) a && value_stands_if within (second_of es) b
  procedure_stands within operations.DelayUntilAndSetDeadline arguments es (action.DelayUntilAndSetDeadline a b) =
      value_stands_if within (first_given es) a && value_stands_if within (second_of es) b
  procedure_stands within _ arguments es _ = false

  abbrev pub entry_call_stands : Within → Name → List (Argument Expression) → EntryNo → List Formal → StatementForm
      → Bool
  entry_call_stands within name arguments number formals (action.EntryCall e o actuals) =
      eqb e.0 number.0 && (same_entry_owner o (owner_of_entry within name (unit_of_entry within name))
      && arguments_stand within formals arguments actuals)
  entry_call_stands within name arguments number formals _ = false

  abbrev pub entity_call_stands : Within → Name → List (Argument Expression) → EntityKind → StatementForm → Bool
  entity_call_stands within name arguments (entity.Subprogram number is_function specified formals unit) f =
      call_stands within (record {
        name = name;
        arguments = arguments;
        number = number;
        unit = unit;
        formals = formals;
      }) goes_nowhere f
  entity_call_stands within name arguments (entity.Entry number unit formals) f =
      entry_call_stands within name arguments number formals f
  entity_call_stands within name arguments entity.Main f = is_call_of_main f
  entity_call_stands within name arguments _ f = false

  abbrev pub item_call_stands : Within → Predefined → List (Argument Expression) → StatementForm → Bool
  item_call_stands within (items.Operation o) arguments f =
      procedure_stands within o arguments (actuals_for (names_of_formals o) arguments) f
  item_call_stands within _ arguments f = false

  abbrev pub call_of_name_stands : Within → Name → List (Argument Expression) → Option Denoted → StatementForm → Bool
  call_of_name_stands within name arguments (Some (denotes.Entity e)) f =
      unwrap_or (option_map (λ kind. entity_call_stands within name arguments kind f) (kind_at within.names e)) false
  call_of_name_stands within name arguments (Some (denotes.Item u item)) f = item_call_stands within item arguments f
  call_of_name_stands within name arguments _ f = false

  abbrev pub call_statement_stands : Within → Call → StatementForm → Bool
  call_statement_stands within c f = call_of_name_stands within c.name c.arguments (denoted_by within.names c.name) f

  -- ---- simple statements

  abbrev pub assigns_value : Within → Assignment → Option FunctionCall → StatementForm → Bool
  assigns_value within a None (action.Assign target value) = target_stands within a.target a.index target
      && value_stands within a.value value
  assigns_value within a None _ = false
  assigns_value within a (Some c) f = call_stands within c (goes_into within a.target a.index) f

  abbrev pub assigns_array : Within → Assignment → StatementForm → Bool
  assigns_array within a (action.AssignArray target source) =
      same_object target (object_named within a.target)
      && same_object source (array_name within (expression_image a.value).name)
  assigns_array within a _ = false

  abbrev pub assigns_controlled : Within → Assignment → StatementForm → Bool
  assigns_controlled within a (action.AssignControlled target source) =
      same_decl target (thing_named within a.target)
      && same_decl source (thing_in within (expression_image a.value).name)
  assigns_controlled within a _ = false

  abbrev pub assigns_whole : Within → Assignment → Option Subtype → StatementForm → Bool
  assigns_whole within a s f = cond (subtype_is is_kept s) (assigns_controlled within a f)
      (cond (subtype_is is_array_type s) (assigns_array within a f)
      (assigns_value within a (function_call within a.value) f))

  abbrev pub assignment_stands : Within → Assignment → Option Expression → StatementForm → Bool
  assignment_stands within a None f = assigns_whole within a (subtype_of_name within.names a.target) f
  assignment_stands within a (Some i) f = assigns_value within a (function_call within a.value) f

  abbrev pub delay_stands : Within → Delay → StatementForm → Bool
  delay_stands within d (action.Delay e) = not d.until && value_stands within d.value e
  delay_stands within d (action.DelayUntil e) = d.until && value_stands within d.value e
  delay_stands within d _ = false

  abbrev pub returns_value : SubprogramNo → Within → Expression → Option FunctionCall → StatementForm → Bool
  returns_value f within e None (action.ReturnValue g value) = eqb f.0 g.0 && value_stands within e value
  returns_value f within e None _ = false
  returns_value f within e (Some c) form = call_stands within c (is_returned f) form

  abbrev pub return_stands : Within → Option Expression → StatementForm → Bool
  return_stands within None action.Return = true
  return_stands within None _ = false
  return_stands within (Some e) f =
      returns_value (unwrap_or within.function no_function) within e (function_call within e) f

  abbrev pub raise_stands : Within → Option Name → StatementForm → Bool
  raise_stands within None (action.RaiseAgain scope) = eqb scope.0 (unwrap_or within.handling 0)
  raise_stands within (Some name) (action.Raise e) = same_raised e (exception_named within name)
  raise_stands within exception _ = false

  abbrev pub exit_stands : Within → Exit → StatementForm → Bool
  exit_stands within e (action.Exit c l) = condition_stands within e.condition c
      && same_statement l (loop_statement (loop_left within e.loop_name))
  exit_stands within e _ = false

  abbrev pub abort_stands : Within → OneOrMore Name → StatementForm → Bool
  abort_stands within tasks (action.Abort ds) =
      all_same same_decl ds (thing_named within tasks.first ∷ map (thing_named within) tasks.others)
  abort_stands within tasks _ = false

  abbrev pub requeue_stands : Within → Name → Bool → StatementForm → Bool
  requeue_stands within name with_abort (action.Requeue e o w) =
      eqb e.0 (entry_at within (last_part name).place).0
      && (same_entry_owner o (owner_of_entry within name (unit_of_entry within name)) && same_bool w with_abort)
  requeue_stands within name with_abort _ = false

  abbrev pub trigger_stands : Within → Trigger → StatementForm → Bool
  trigger_stands within (trigger.Call c) f = call_statement_stands within c f
  trigger_stands within (trigger.Delay d) f = delay_stands within d f

  -- the first action of a scope of the text
  abbrev pub first_of_scope : ℕ → Option StatementNo
  first_of_scope scope = (scope_of p (scope_no scope)).first

  -- ---- statements that hold others, given how the sequences in them read

  module _ {Q : Type 0} (sequence : Q → SequencePlace → Within → Reading) where
    abbrev pub inside_stands : Within → Q → Reading
    inside_stands within q from to = sequence q sequence_place.StatementsAlone within from to

    abbrev pub inside_stands_if : Within → Option Q → Reading
    inside_stands_if within None from to = same_next from to
    inside_stands_if within (Some q) from to = inside_stands within q from to

    abbrev pub branch_stands : Within → Expression → Q → (Option StatementNo → Bool) → Option StatementNo
        → StatementForm → Bool
    branch_stands within c q otherwise to (action.If e first others) = value_stands within c e
        && (inside_stands within q (Some first) to && otherwise others)
    branch_stands within c q otherwise to _ = false

    -- an elsif is an action of its own, which leads behind the whole statement too
    abbrev pub elsif_stands : Within → Elsif Q → (Option StatementNo → Bool) → Option StatementNo
        → Option StatementNo → Bool
    elsif_stands within e otherwise to None = false
    elsif_stands within e otherwise to (Some s) = same_next (next_of p s) to
        && branch_stands within e.condition e.statements otherwise to (form_of p s)

    abbrev pub elsifs_stand : Within → List (Elsif Q) → Option Q → Option StatementNo → Option StatementNo → Bool
    elsifs_stand within [] otherwise to from = inside_stands_if within otherwise from to
    elsifs_stand within (e ∷ es) otherwise to from = elsif_stands within e (elsifs_stand within es otherwise to) to from

    abbrev pub if_stands : Within → If Q → Option StatementNo → StatementForm → Bool
    if_stands within i to f =
        branch_stands within i.condition i.statements (elsifs_stand within i.elsifs i.otherwise to) to f

    abbrev pub alternatives_stand : Within → List (CaseAlternative Q) → Option StatementNo → List CaseActions → Bool
    alternatives_stand within [] to [] = true
    alternatives_stand within (a ∷ rest) to (x ∷ xs) =
        all_same same_choice x.choices (choices_made within a.choices)
        && (inside_stands within a.statements (Some x.first) to && alternatives_stand within rest to xs)
    alternatives_stand within _ to _ = false

    abbrev pub case_stands : Within → Case Q → Option StatementNo → StatementForm → Bool
    case_stands within c to (action.Case e alternatives) =
        value_stands within c.selector e && alternatives_stand within (c.alternatives.first
        ∷ c.alternatives.others) to alternatives
    case_stands within c to _ = false

    -- ---- loops: the body leads back

    abbrev pub loop_within : Within → Loop Q → StatementNo → Within
    loop_within within l s = in_loop (and_then l.label (λ x. entity_denoted within.names x.name.place)) s within

    abbrev pub is_within : Within → Option StatementNo → Bool
    is_within within s = same_next s within.construct

    abbrev pub forever_stands : Within → Loop Q → StatementNo → StatementForm → Bool
    forever_stands within l s (action.Loop body w) = is_within within w
        && inside_stands (loop_within within l s) l.statements (Some body) (Some s)
    forever_stands within l s _ = false

    abbrev pub while_stands : Within → Loop Q → Expression → StatementNo → StatementForm → Bool
    while_stands within l c s (action.While e body w) =
        value_stands within c e && (is_within within w
        && inside_stands (loop_within within l s) l.statements (Some body) (Some s))
    while_stands within l c s _ = false

    abbrev pub is_turn : DeclNo → Bool → Option StatementNo → StatementNo → StatementNo → Bool
    is_turn d reverse to turn body = same_next (next_of p turn) to && is_turn_form d reverse body (form_of p turn)

    abbrev pub body_stands : Within → Loop Q → DeclNo → Bool → StatementNo → Option StatementNo → StatementNo → Bool
    body_stands within l d reverse s to body =
        inside_stands (loop_within within l s) l.statements (Some body) (Some (later_turn s))
        && is_turn d reverse to (later_turn s) body

    -- the first turn leads into the body, and the body to the later turn, which leads into the body too
    abbrev pub turns_stand : Within → Loop Q → DeclNo → Bool → StatementNo → Option StatementNo → StatementNo
        → StatementForm → Bool
    turns_stand within l d reverse s to first (action.FirstTurn e r body) =
        same_decl d e && (same_bool r reverse
        && (same_next (next_of p first) to && body_stands within l d reverse s to body))
    turns_stand within l d reverse s to first _ = false

    abbrev pub for_stands : Within → Loop Q → DeclNo → Bool → Expression → Expression → StatementNo
        → Option StatementNo → StatementForm → Bool
    for_stands within l d reverse low high s to (action.For e r a b turn w) =
        same_decl d e && (same_bool r reverse && (value_stands within low a && (value_stands within high b
        && (is_within within w && turns_stand within l d reverse s to turn (form_of p turn)))))
    for_stands within l d reverse low high s to _ = false

    abbrev pub loop_stands : Within → Loop Q → Iteration → StatementNo → Option StatementNo → StatementForm → Bool
    loop_stands within l iteration.Forever s to f = forever_stands within l s f
    loop_stands within l (iteration.While place c) s to f = while_stands within l c s f
    loop_stands within l (iteration.For place i reverse low high) s to f =
        for_stands within l (loop_parameter_at within i) reverse low high s to f

    -- ---- blocks, accepts and handlers

    abbrev pub block_stands : Within → Block Q → StatementNo → StatementForm → Bool
    block_stands within b s (action.Block scope) =
        eqb scope.0 (scope_at within.names b.place)
        && sequence b.sequence (sequence_place.AsBody false) (in_construct s (in_scope scope.0 within))
        (first_of_scope scope.0) None
    block_stands within b s _ = false

    abbrev pub accept_body_stands : Within → StatementNo → ℕ → Option (AcceptBody Q) → Bool
    accept_body_stands within s scope None = is_none (first_of_scope scope)
    accept_body_stands within s scope (Some b) =
        sequence b.sequence (sequence_place.BehindDeclarations None) (in_construct s (in_scope scope within))
        (first_of_scope scope) None

    abbrev pub accept_stands : Within → Accept Q → StatementNo → StatementForm → Bool
    accept_stands within a s (action.Accept e scope) =
        eqb e.0 (entry_at within a.entry.place).0
        && (eqb scope.0 (scope_at within.names a.place) && accept_body_stands within s scope.0 a.body)
    accept_stands within a s _ = false

    abbrev pub handlers_stand : Within → List (Handler Q) → Option StatementNo → List ExceptionHandler → Bool
    handlers_stand within [] to [] = true
    handlers_stand within (h ∷ hs) to (x ∷ xs) =
        all_same same_handled x.choices (handled_made within h.exceptions)
        && (inside_stands (in_handler within) h.statements (Some x.first) to && handlers_stand within hs to xs)
    handlers_stand within _ to _ = false

    -- ---- selects

    abbrev pub alternative_stands : Within → Alternative Q → Option StatementNo → SelectKind → Bool
    alternative_stands within (alternative.Accept a statements) to (select_kind.Accept s) =
        accept_stands within a s (form_of p s) && inside_stands_if within statements (next_of p s) to
    alternative_stands within (alternative.Delay d statements) to (select_kind.Delay s) =
        delay_stands within d (form_of p s) && inside_stands_if within statements (next_of p s) to
    alternative_stands within (alternative.Terminate place) to select_kind.Terminate = true
    alternative_stands within _ to _ = false

    abbrev pub select_alternatives_stand : Within → List (SelectAlternative Q) → Option StatementNo
        → List GuardedAlternative → Bool
    select_alternatives_stand within [] to [] = true
    select_alternatives_stand within (a ∷ rest) to (x ∷ xs) =
        condition_stands within (guard_of a.guard) x.guard
        && (alternative_stands within a.alternative to x.kind && select_alternatives_stand within rest to xs)
    select_alternatives_stand within _ to _ = false

    abbrev pub else_stands : Within → Option Q → Reading
    else_stands within None from to = is_none from
    else_stands within (Some q) from to = inside_stands within q from to

    abbrev pub call_before_stands : Within → Call → Option Q → StatementNo → Option StatementNo → Bool
    call_before_stands within c statements s to = call_statement_stands within c (form_of p s)
        && inside_stands_if within statements (next_of p s) to

    abbrev pub delay_before_stands : Within → Delay → Option Q → StatementNo → Option StatementNo → Bool
    delay_before_stands within d statements s to = delay_stands within d (form_of p s)
        && inside_stands_if within statements (next_of p s) to

    abbrev pub select_stands : Within → SelectForm Q → StatementNo → Option StatementNo → StatementForm → Bool
    select_stands within (select.SelectiveAccept x) s to (action.SelectiveAccept alternatives otherwise) =
        select_alternatives_stand within (x.alternatives.first ∷ x.alternatives.others) to alternatives
        && else_stands within x.otherwise otherwise to
    select_stands within (select.TimedEntryCall t) s to (action.TimedCall call delay) =
        call_before_stands within t.call t.statements call to
        && delay_before_stands within t.delay t.delay_statements delay to
    select_stands within (select.ConditionalEntryCall c) s to (action.ConditionalCall call otherwise) =
        call_before_stands within c.call c.statements call to && inside_stands within c.otherwise (Some otherwise) to
    select_stands within (select.AsynchronousSelect a) s to (action.AsynchronousSelect t abortable) =
        trigger_stands within a.trigger (form_of p t)
        && (inside_stands_if within a.statements (next_of p t) to
        && inside_stands (in_construct s within) a.abortable (Some abortable) None)
    select_stands within _ s to _ = false

    -- ---- all statements: s is the number of the action, to what comes behind it

    abbrev pub form_stands : Within → Statement Q → StatementNo → Option StatementNo → StatementForm → Bool
    form_stands within (statement.Null place) s to action.Null = true
    form_stands within (statement.Null place) s to _ = false
    form_stands within (statement.Assignment a) s to f = assignment_stands within a a.index f
    form_stands within (statement.Call c) s to f = call_statement_stands within c f
    form_stands within (statement.Delay d) s to f = delay_stands within d f
    form_stands within (statement.If i) s to f = if_stands within i to f
    form_stands within (statement.Case c) s to f = case_stands within c to f
    form_stands within (statement.Loop l) s to f = loop_stands within l l.iteration s to f
    form_stands within (statement.Exit e) s to f = exit_stands within e f
    form_stands within (statement.Block b) s to f = block_stands within b s f
    form_stands within (statement.Return place e) s to f = return_stands within e f
    form_stands within (statement.Raise place exception) s to f = raise_stands within exception f
    form_stands within (statement.Abort place tasks) s to f = abort_stands within tasks f
    form_stands within (statement.Accept a) s to f = accept_stands within a s f
    form_stands within (statement.Requeue place entry with_abort) s to f = requeue_stands within entry with_abort f
    form_stands within (statement.Select x) s to f = select_stands within x.form s to f

    -- a list of statements stands where each stands behind the one before it, and the last leads to where the list
    -- leads
    abbrev pub statements_stand : Within → List (Statement Q) → Reading
    statements_stand within [] from to = same_next from to
    statements_stand within (x ∷ xs) None to = false
    statements_stand within (x ∷ xs) (Some s) to = form_stands within x s (next_of p s) (form_of p s)
        && statements_stand within xs (next_of p s) to
