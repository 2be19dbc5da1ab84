-- Calls (6.4, 9.5, 9.5.3, A.10.7): whom a name calls, the actuals in the order of the formals, and predefined
-- procedures.
use Rattle.std.specs.Prelude.{ℕ, cond, List, [], ◌∷◌, ◌++◌, Option, Some, None, option_map, map}
use Rattle.ada_tree.specs.declared.names.Name.{Name}
use Rattle.ada_tree.specs.declared.expressions.Expression.{Expression}
use Rattle.ada_tree.specs.declared.expressions.Expression.TheViews.{out-Expression}
use Rattle.ada_tree.specs.declared.expressions.ExpressionForm.{ExpressionForm}
use Rattle.ada_tree.specs.declared.expressions.ExpressionForm.TheVariants as form
use Rattle.ada_tree.specs.declared.expressions.Addend.{Addend}
use Rattle.ada_tree.specs.declared.expressions.Argument.{Argument}
use Rattle.ada_tree.specs.declared.expressions.AttributeDesignator.{AttributeDesignator}
use Rattle.profile_image.specs.declared.numbers.DeclNo.{DeclNo}
use Rattle.profile_image.specs.declared.numbers.ExprNo.{ExprNo}
use Rattle.profile_image.specs.declared.numbers.StatementNo.{StatementNo}
use Rattle.profile_image.specs.declared.numbers.SubprogramNo.{SubprogramNo}
use Rattle.profile_image.specs.declared.numbers.EntryNo.{EntryNo}
use Rattle.profile_image.specs.declared.numbers.ProtectedUnitNo.{ProtectedUnitNo}
use Rattle.profile_image.specs.declared.declarations.EntryUnit.{EntryUnit}
use Rattle.profile_image.specs.declared.declarations.EntryUnit.TheVariants as entry_unit
use Rattle.profile_image.specs.declared.expressions.VariableName.{VariableName}
use Rattle.profile_image.specs.declared.expressions.ObjectName.TheVariants as object
use Rattle.profile_image.specs.declared.statements.Actual.{Actual}
use Rattle.profile_image.specs.declared.statements.Actual.TheVariants as actual
use Rattle.profile_image.specs.declared.statements.Callee.{Callee}
use Rattle.profile_image.specs.declared.statements.Callee.TheVariants as callee
use Rattle.profile_image.specs.declared.statements.Destination.{Destination}
use Rattle.profile_image.specs.declared.statements.EntryOwner.{EntryOwner}
use Rattle.profile_image.specs.declared.statements.EntryOwner.TheVariants as entry_owner
use Rattle.profile_image.specs.declared.statements.Piece.{Piece}
use Rattle.profile_image.specs.declared.statements.Piece.TheVariants as piece
use Rattle.profile_image.specs.declared.statements.StatementForm.TheVariants as action
use Rattle.ada_regions.specs.declared.types.AdaType.{AdaType}
use Rattle.ada_regions.specs.declared.types.AdaType.TheVariants as types
use Rattle.ada_regions.specs.declared.types.Formal.{Formal}
use Rattle.ada_regions.specs.declared.types.Mode.{Mode}
use Rattle.ada_regions.specs.declared.types.Mode.TheVariants as mode
use Rattle.ada_regions.specs.declared.types.Subtype.{Subtype}
use Rattle.ada_regions.specs.declared.entities.EntityKind.{EntityKind}
use Rattle.ada_regions.specs.declared.entities.EntityKind.TheVariants as entity
use Rattle.ada_regions.specs.Words.{and_then}
use Rattle.ada_regions.specs.Statics.{subtype_of_name}
use Rattle.ada_image.specs.declared.making.Within.{Within}
use Rattle.ada_image.specs.Making.{Making, ◌>>=◌, pure, action_put}
use Rattle.ada_image.specs.Layout.{is_thing, subtype_is}
use Rattle.ada_image.specs.ImageOfExpressions.{expression_image, expression_made, no_declaration_no}
use Rattle.ada_image.specs.ImageOfExpressions.{object_before, named_before, thing_in, kind_named}
use Rattle.ada_image.specs.ImageOfExpressions.{variable_made, actuals_for, first_argument, no_value}

-- ---- variables that statements name: an object, or an element of an array

abbrev pub index_maker : Within → Option Expression → Option (Making ExprNo)
index_maker within index = option_map (λ e. expression_made e within) index

unfoldable pub target_made : Within → Name → Option Expression → Making VariableName
target_made within name index = variable_made within name (index_maker within index)

-- what no accepted source has there
abbrev pub no_variable : Making VariableName
no_variable = pure (record { object = object.Declared no_declaration_no; index = None })

unfoldable pub variable_in_form : Within → ExpressionForm Expression → Making VariableName
variable_in_form within (form.Logical operator first others) = no_variable
variable_in_form within (form.Relational left place operator right) = no_variable
variable_in_form within (form.Adding first others) = no_variable
variable_in_form within (form.Signed place s operand) = no_variable
variable_in_form within (form.Multiplying first others) = no_variable
variable_in_form within (form.Highest place operator operand) = no_variable
variable_in_form within (form.Number place literal) = no_variable
variable_in_form within (form.Text place text) = no_variable
variable_in_form within (form.Null place) = no_variable
variable_in_form within (form.Bracketed place inner) = no_variable
variable_in_form within (form.Named name a arguments) = target_made within name (first_argument arguments)

-- an actual that is a variable
unfoldable pub variable_in : Within → Expression → Making VariableName
variable_in within e = variable_in_form within (out-Expression e).form

-- ---- actuals of declared subprograms and entries (6.4.1)

unfoldable pub in_made : Within → Expression → Making Actual
in_made within e = do
  value ← expression_made e within
  pure (actual.In value)

unfoldable pub out_made : Within → Expression → Making Actual
out_made within e = do
  variable ← variable_in within e
  pure (actual.Out variable)

unfoldable pub in_out_made : Within → Expression → Making Actual
in_out_made within e = do
  variable ← variable_in within e
  pure (actual.InOut variable)

unfoldable pub mode_made : Within → Mode → Expression → Making Actual
mode_made within mode.In e = in_made within e
mode_made within mode.Out e = out_made within e
mode_made within mode.InOut e = in_out_made within e

unfoldable pub thing_actual : Within → Expression → Actual
thing_actual within e = actual.Thing (thing_in within (expression_image e).name)

unfoldable pub actual_made : Within → Formal → Expression → Making Actual
actual_made within f e = cond (subtype_is is_thing f.subtype) (pure (thing_actual within e)) (mode_made within f.mode e)

unfoldable pub actuals_made : Within → List Formal → List (Option Expression) → Making (List Actual)
actuals_made within [] es = pure []
actuals_made within (f ∷ fs) [] = pure []
actuals_made within (f ∷ fs) (None ∷ es) = actuals_made within fs es
actuals_made within (f ∷ fs) (Some e ∷ es) = do
  a ← actual_made within f e
  rest ← actuals_made within fs es
  pure (a ∷ rest)

abbrev pub names_of : List Formal → List (List ℕ)
names_of formals = map (λ f. f.name) formals

unfoldable pub arguments_made : Within → List Formal → List (Argument Expression) → Making (List Actual)
arguments_made within formals arguments = actuals_made within formals (actuals_for (names_of formals) arguments)

-- ---- whom a name calls: an operation of the unit in whose body the call stands is called from inside (9.5)

abbrev pub operation_called : SubprogramNo → Option DeclNo → Callee
operation_called number None = callee.OwnOperation number
operation_called number (Some d) = callee.Operation d number

unfoldable pub callee_of : Within → Name → SubprogramNo → Option ProtectedUnitNo → Callee
callee_of within name number None = callee.Subprogram number
callee_of within name number (Some u) = operation_called number (object_before within name)

abbrev pub owner_before : Option DeclNo → EntryOwner
owner_before None = entry_owner.Own
owner_before (Some d) = entry_owner.Object d

-- a task is named by its object inside its body too
unfoldable pub owner_of_entry : Within → Name → EntryUnit → EntryOwner
owner_of_entry within name (entry_unit.Task u) = owner_before (named_before within name)
owner_of_entry within name (entry_unit.Protected u) = owner_before (object_before within name)

-- a call of a declared subprogram, with where its result goes
unfoldable pub call_put : Within → Name → List (Argument Expression) → SubprogramNo → Option ProtectedUnitNo
    → List Formal → Destination → ℕ → Option StatementNo → Making (Option StatementNo)
call_put within name arguments number unit formals d signs next = do
  actuals ← arguments_made within formals arguments
  action_put (action.Call (callee_of within name number unit) actuals d) signs next

unfoldable pub entry_call_put : Within → Name → List (Argument Expression) → EntryNo → EntryUnit → List Formal → ℕ
    → Option StatementNo → Making (Option StatementNo)
entry_call_put within name arguments number unit formals signs next = do
  actuals ← arguments_made within formals arguments
  action_put (action.EntryCall number (owner_of_entry within name unit) actuals) signs next

-- ---- the call of a user function that stands alone as a value (this profile's rule)

pub record FunctionCall : Type 0 where
  pub name : Name
  pub arguments : List (Argument Expression)
  pub number : SubprogramNo
  pub unit : Option ProtectedUnitNo
  pub formals : List Formal

unfoldable pub call_of_kind : Name → List (Argument Expression) → EntityKind → Option FunctionCall
call_of_kind name arguments entity.Package = None
call_of_kind name arguments entity.Main = None
call_of_kind name arguments (entity.Mark s) = None
call_of_kind name arguments (entity.Literal enumeration position) = None
call_of_kind name arguments (entity.Object s constant value declaration) = None
call_of_kind name arguments (entity.Parameter s m declaration) = None
call_of_kind name arguments (entity.LoopParameter declaration) = None
call_of_kind name arguments (entity.Component s owner declaration) = None
call_of_kind name arguments (entity.Exception declaration) = None
call_of_kind name arguments (entity.Subprogram number is_function specified formals unit) =
    Some (record { name = name; arguments = arguments; number = number; unit = unit; formals = formals })
call_of_kind name arguments (entity.Entry number unit formals) = None
call_of_kind name arguments entity.Label = None

unfoldable pub call_of_name : Within → Name → Option AttributeDesignator → List (Argument Expression)
    → Option FunctionCall
call_of_name within name None arguments = and_then (kind_named within name) (call_of_kind name arguments)
call_of_name within name (Some a) arguments = None

abbrev pub call_of_form : Within → ExpressionForm Expression → Option FunctionCall
call_of_form within (form.Logical operator first others) = None
call_of_form within (form.Relational left place operator right) = None
call_of_form within (form.Adding first others) = None
call_of_form within (form.Signed place s operand) = None
call_of_form within (form.Multiplying first others) = None
call_of_form within (form.Highest place operator operand) = None
call_of_form within (form.Number place literal) = None
call_of_form within (form.Text place text) = None
call_of_form within (form.Null place) = None
call_of_form within (form.Bracketed place inner) = None
call_of_form within (form.Named name a arguments) = call_of_name within name a arguments

unfoldable pub function_call : Within → Expression → Option FunctionCall
function_call within e = call_of_form within (out-Expression e).form

unfoldable pub function_call_put : Within → FunctionCall → Destination → ℕ → Option StatementNo
    → Making (Option StatementNo)
function_call_put within c d signs next = call_put within c.name c.arguments c.number c.unit c.formals d signs next

-- ---- Put_Line (A.10.7): a text, an Image, or several joined

unfoldable pub piece_of_type : ExprNo → AdaType → Piece
piece_of_type e types.Integer = piece.Whole e
piece_of_type e types.Boolean = piece.Truth e
piece_of_type e types.Duration = piece.Whole e
piece_of_type e (types.Enumeration number) = piece.Literal e number
piece_of_type e (types.Array a) = piece.Whole e
piece_of_type e types.Time = piece.Whole e
piece_of_type e types.TimeSpan = piece.Whole e
piece_of_type e types.CpuTime = piece.Whole e
piece_of_type e types.TaskId = piece.Whole e
piece_of_type e types.TimingEvent = piece.Whole e
piece_of_type e types.Timer = piece.Whole e
piece_of_type e types.GroupBudget = piece.Whole e
piece_of_type e types.LimitedControlled = piece.Whole e
piece_of_type e types.Controlled = piece.Whole e
piece_of_type e (types.Derived c) = piece.Whole e
piece_of_type e (types.Task u) = piece.Whole e
piece_of_type e (types.Protected u) = piece.Whole e

unfoldable pub image_piece : ExprNo → Option Subtype → Piece
image_piece e None = piece.Whole e
image_piece e (Some s) = piece_of_type e s.of_type

unfoldable pub value_or_none : Within → Option Expression → Making ExprNo
value_or_none within None = no_value
value_or_none within (Some e) = expression_made e within

unfoldable pub image_made : Within → Name → List (Argument Expression) → Making (List Piece)
image_made within name arguments = do
  e ← value_or_none within (first_argument arguments)
  pure (image_piece e (subtype_of_name within.names name) ∷ [])

-- what no accepted source has there
abbrev pub no_piece : Making (List Piece)
no_piece = pure []

unfoldable pub piece_in_form : Within → ExpressionForm Expression → Making (List Piece)
piece_in_form within (form.Logical operator first others) = no_piece
piece_in_form within (form.Relational left place operator right) = no_piece
piece_in_form within (form.Adding first others) = no_piece
piece_in_form within (form.Signed place s operand) = no_piece
piece_in_form within (form.Multiplying first others) = no_piece
piece_in_form within (form.Highest place operator operand) = no_piece
piece_in_form within (form.Number place literal) = no_piece
piece_in_form within (form.Text place text) = pure (piece.Text text ∷ [])
piece_in_form within (form.Null place) = no_piece
piece_in_form within (form.Bracketed place inner) = no_piece
piece_in_form within (form.Named name a arguments) = image_made within name arguments

unfoldable pub piece_made : Within → Expression → Making (List Piece)
piece_made within e = piece_in_form within (out-Expression e).form

unfoldable pub joined_made : Within → List (Addend Expression) → Making (List Piece)
joined_made within [] = pure []
joined_made within (a ∷ rest) = do
  one ← piece_made within a.term
  others ← joined_made within rest
  pure (one ++ others)

unfoldable pub all_joined : Within → Expression → List (Addend Expression) → Making (List Piece)
all_joined within first others = do
  one ← piece_made within first
  rest ← joined_made within others
  pure (one ++ rest)

unfoldable pub pieces_in_form : Within → ExpressionForm Expression → Making (List Piece)
pieces_in_form within (form.Logical operator first others) = no_piece
pieces_in_form within (form.Relational left place operator right) = no_piece
pieces_in_form within (form.Adding first others) = all_joined within first (others.first ∷ others.others)
pieces_in_form within (form.Signed place s operand) = no_piece
pieces_in_form within (form.Multiplying first others) = no_piece
pieces_in_form within (form.Highest place operator operand) = no_piece
pieces_in_form within (form.Number place literal) = no_piece
pieces_in_form within (form.Text place text) = pure (piece.Text text ∷ [])
pieces_in_form within (form.Null place) = no_piece
pieces_in_form within (form.Bracketed place inner) = no_piece
pieces_in_form within (form.Named name a arguments) = image_made within name arguments

unfoldable pub pieces_made : Within → Option Expression → Making (List Piece)
pieces_made within None = no_piece
pieces_made within (Some e) = pieces_in_form within (out-Expression e).form

unfoldable pub put_line_put : Within → List (Option Expression) → ℕ → Option StatementNo → Making (Option StatementNo)
put_line_put within [] signs next = action_put (action.PutLine []) signs next
put_line_put within (e ∷ es) signs next = do
  pieces ← pieces_made within e
  action_put (action.PutLine pieces) signs next

-- ---- a form that no image has yet
abbrev pub not_built : Option StatementNo → Making (Option StatementNo)
not_built next = action_put action.Null 0 next
