-- Declarations to actions (3.3.1, 3.11, 7.6, 9.1, 9.2, 9.4), and what is made of the bodies among them.
use Rattle.std.specs.Prelude.{ℕ, Bool, true, false, cond, not, List, [], ◌∷◌, Option, Some, None, unwrap_or, map}
use Rattle.std.specs.Bool.{then_some}
use Rattle.std.specs.List.{list_any}
use Rattle.ann_base.specs.declared.places.Place.{Place}
use Rattle.ada_tree.specs.declared.names.Identifier.{Identifier}
use Rattle.ada_tree.specs.declared.expressions.Expression.{Expression}
use Rattle.ada_tree.specs.declared.statements.SequenceParts.{SequenceParts}
use Rattle.ada_tree.specs.declared.statements.Handler.{Handler}
use Rattle.ada_tree.specs.declared.statements.Sequence.{Sequence}
use Rattle.ada_tree.specs.declared.statements.Sequence.TheOpen.{Sequence-F}
use Rattle.ada_tree.specs.declared.statements.Sequence.TheFolds.{fold-Sequence}
use Rattle.ada_tree.specs.declared.declarations.Declaration.{Declaration}
use Rattle.ada_tree.specs.declared.declarations.Declaration.TheVariants as declaration
use Rattle.ada_tree.specs.declared.declarations.ObjectDeclaration.{ObjectDeclaration}
use Rattle.ada_tree.specs.declared.declarations.OperationBody.{OperationBody}
use Rattle.ada_tree.specs.declared.declarations.OperationBody.TheVariants as body_of
use Rattle.profile_image.specs.declared.numbers.DeclNo.{DeclNo}
use Rattle.profile_image.specs.declared.numbers.StatementNo.{StatementNo}
use Rattle.profile_image.specs.declared.numbers.SubprogramNo.{SubprogramNo}
use Rattle.profile_image.specs.declared.statements.Destination.TheVariants as destination
use Rattle.profile_image.specs.declared.statements.StatementForm.TheVariants as action
use Rattle.ada_regions.specs.declared.types.AdaType.{AdaType}
use Rattle.ada_regions.specs.declared.types.AdaType.TheVariants as types
use Rattle.ada_regions.specs.declared.types.Subtype.{Subtype}
use Rattle.ada_regions.specs.declared.entities.ComponentOwner.{ComponentOwner}
use Rattle.ada_regions.specs.declared.entities.ComponentOwner.TheVariants as owner
use Rattle.ada_regions.specs.declared.entities.EntityKind.{EntityKind}
use Rattle.ada_regions.specs.declared.entities.EntityKind.TheVariants as entity
use Rattle.ada_regions.specs.Words.{and_then, all_of}
use Rattle.ada_regions.specs.Names.{kind_at, entity_denoted}
use Rattle.ada_regions.specs.Statics.{subtype_of_kind}
use Rattle.ada_regions.specs.TypeKinds.{is_task_type, is_controlled_type}
use Rattle.ada_image.specs.declared.making.Within.{Within}
use Rattle.ada_image.specs.Making.{Making, ◌>>=◌, ◌>>◌, pure, action_put, reserved, put_at}
use Rattle.ada_image.specs.Making.{first_put, the_action, in_body_of, in_construct, in_unit}
use Rattle.ada_image.specs.Layout.{subtype_is, components_of_owner, total}
use Rattle.ada_image.specs.ImageOfExpressions.{no_declaration_no, object_number, signs_if}
use Rattle.ada_image.specs.ImageOfCalls.{FunctionCall, function_call, function_call_put}
use Rattle.ada_image.specs.declared.making.SequencePlace.TheVariants as sequence_place
use Rattle.ada_image.specs.ImageOfStatements.{SequenceMaking, scope_at, statements_put, handlers_put}

-- ---- what a defining name declares

unfoldable pub kind_declared : Within → Identifier → Option EntityKind
kind_declared within i = and_then (entity_denoted within.names i.place) (kind_at within.names)

unfoldable pub number_declared : Within → Identifier → DeclNo
number_declared within i = unwrap_or (and_then (kind_declared within i) object_number) no_declaration_no

unfoldable pub subtype_declared_as : Within → Identifier → Option Subtype
subtype_declared_as within i = and_then (kind_declared within i) subtype_of_kind

-- ---- objects: a task is created, a controlled object is initialized behind its declaration

unfoldable pub signs_of_components : Within → ComponentOwner → ℕ
signs_of_components within o = total (map (λ d. signs_if within d.initial) (components_of_owner within.names o))

-- the signs in the initial values of an object's components
unfoldable pub signs_of_type : Within → ℕ → AdaType → ℕ
signs_of_type within signs (types.Derived c) = signs_of_components within (owner.Controlled c)
signs_of_type within signs (types.Protected u) = signs_of_components within (owner.Protected u)
signs_of_type within signs _ = signs

unfoldable pub signs_of_object : Within → ℕ → Option Subtype → ℕ
signs_of_object within signs None = signs
signs_of_object within signs (Some s) = signs_of_type within signs s.of_type

unfoldable pub initialize_if : Bool → DeclNo → Option StatementNo → Making (Option StatementNo)
initialize_if true d next = action_put (action.Initialize d) 0 next
initialize_if false d next = pure next

unfoldable pub function_call_if : Within → Option Expression → Option FunctionCall
function_call_if within e = and_then e (function_call within)

unfoldable pub object_declaration_put : Within → DeclNo → Option Subtype → Option FunctionCall → ℕ
    → Option StatementNo → Making (Option StatementNo)
object_declaration_put within d s (Some c) signs next =
    function_call_put within c (destination.Declaration d) signs next
object_declaration_put within d s None signs next = action_put (action.Declare d) (signs_of_object within signs s) next

unfoldable pub object_elaborated : Within → DeclNo → Option Subtype → Option Expression → Option StatementNo
    → Making (Option StatementNo)
object_elaborated within d s initial next = do
  behind ← initialize_if (subtype_is is_controlled_type s) d next
  object_declaration_put within d s (function_call_if within initial) (signs_if within initial) behind

unfoldable pub object_put : Within → ℕ → Option Expression → Identifier → Option StatementNo
    → Making (Option StatementNo)
object_put within part initial i next = cond (subtype_is is_task_type (subtype_declared_as within i))
    (action_put (action.CreateTask (number_declared within i) part) 0 next)
    (object_elaborated within (number_declared within i) (subtype_declared_as within i) initial next)

unfoldable pub objects_put : Within → ℕ → Option Expression → List Identifier → Option StatementNo
    → Making (Option StatementNo)
objects_put within part initial [] next = pure next
objects_put within part initial (i ∷ rest) next = do
  later ← objects_put within part initial rest next
  object_put within part initial i later

-- a single task or protected object; a type has no action
unfoldable pub single_put : Within → ℕ → Bool → Identifier → Option StatementNo → Making (Option StatementNo)
single_put within part true i next = pure next
single_put within part false i next = object_put within part None i next

-- ---- tasks that a declarative part makes

unfoldable pub object_makes_task : Within → ObjectDeclaration → Bool
object_makes_task within o = subtype_is is_task_type (subtype_declared_as within o.names.first)

module _ {Q : Type 0} where
  unfoldable pub declaration_put : Within → ℕ → Declaration Q → Option StatementNo → Making (Option StatementNo)
  declaration_put within part (declaration.Object o) next = objects_put within part o.initial (all_of o.names) next
  declaration_put within part (declaration.Type t) next = pure next
  declaration_put within part (declaration.Subtype s) next = pure next
  declaration_put within part (declaration.Exception names) next = pure next
  declaration_put within part (declaration.Subprogram s) next = pure next
  declaration_put within part (declaration.SubprogramBody s body) next = pure next
  declaration_put within part (declaration.Task t) next = single_put within part t.is_type t.name next
  declaration_put within part (declaration.TaskBody place name body) next = pure next
  declaration_put within part (declaration.Protected p) next = single_put within part p.is_type p.name next
  declaration_put within part (declaration.ProtectedBody p) next = pure next
  declaration_put within part (declaration.Use place name) next = pure next

  -- the declarations of a list, from the last to the first; a part is that of a library package, or 0
  unfoldable pub declarations_put : Within → ℕ → List (Declaration Q) → Option StatementNo → Making (Option StatementNo)
  declarations_put within part [] next = pure next
  declarations_put within part (d ∷ ds) next = do
    later ← declarations_put within part ds next
    declaration_put within part d later

  unfoldable pub makes_task : Within → Declaration Q → Bool
  makes_task within (declaration.Object o) = object_makes_task within o
  makes_task within (declaration.Type t) = false
  makes_task within (declaration.Subtype s) = false
  makes_task within (declaration.Exception names) = false
  makes_task within (declaration.Subprogram s) = false
  makes_task within (declaration.SubprogramBody s body) = false
  makes_task within (declaration.Task t) = not t.is_type
  makes_task within (declaration.TaskBody place name body) = false
  makes_task within (declaration.Protected p) = false
  makes_task within (declaration.ProtectedBody p) = false
  makes_task within (declaration.Use place name) = false

  unfoldable pub make_tasks : Within → List (Declaration Q) → Bool
  make_tasks within ds = list_any (makes_task within) ds

unfoldable pub activation_put : Option ℕ → Option StatementNo → Making (Option StatementNo)
activation_put None next = pure next
activation_put (Some part) next = action_put (action.Activate part) 0 next

unfoldable pub end_of_activation_put : Bool → Option StatementNo → Making (Option StatementNo)
end_of_activation_put true next = action_put action.EndActivation 0 next
end_of_activation_put false next = pure next

-- ---- bodies

abbrev pub subprogram_of_kind : EntityKind → Option SubprogramNo
subprogram_of_kind (entity.Subprogram number is_function specified formals unit) = Some number
subprogram_of_kind _ = None

unfoldable pub subprogram_declared_as : Within → Identifier → Option SubprogramNo
subprogram_declared_as within i = and_then (kind_declared within i) subprogram_of_kind

module _ {Q : Type 0} (sequence : Q → SequenceMaking) where
  unfoldable pub body_put : Within → Place → Option SubprogramNo → Bool → Q → Making (Unit {0})
  body_put within place function is_task_body q = do
    first ← sequence q (sequence_place.AsBody is_task_body)
        (in_body_of (scope_at within.names place) function within) None
    first_put (scope_at within.names place) first

  unfoldable pub operation_body_put : Within → OperationBody Q → Making (Unit {0})
  operation_body_put within (body_of.Subprogram s body) =
      body_put within s.place (subprogram_declared_as within s.name) false body.sequence
  operation_body_put within (body_of.Entry head body) = body_put within head.place None false body.sequence

  unfoldable pub operation_bodies_put : Within → List (OperationBody Q) → Making (Unit {0})
  operation_bodies_put within [] = pure tt
  operation_bodies_put within (o ∷ os) = do
    operation_body_put within o
    operation_bodies_put within os

  unfoldable pub inner_body_put : Within → Declaration Q → Making (Unit {0})
  inner_body_put within (declaration.Object o) = pure tt
  inner_body_put within (declaration.Type t) = pure tt
  inner_body_put within (declaration.Subtype s) = pure tt
  inner_body_put within (declaration.Exception names) = pure tt
  inner_body_put within (declaration.Subprogram s) = pure tt
  inner_body_put within (declaration.SubprogramBody s body) =
      body_put within s.place (subprogram_declared_as within s.name) false body.sequence
  inner_body_put within (declaration.Task t) = pure tt
  inner_body_put within (declaration.TaskBody place name body) =
      body_put (in_unit (entity_denoted within.names name.place) within) place None true body.sequence
  inner_body_put within (declaration.Protected p) = pure tt
  inner_body_put within (declaration.ProtectedBody p) =
      operation_bodies_put (in_unit (entity_denoted within.names p.name.place) within) p.operations
  inner_body_put within (declaration.Use place name) = pure tt

  -- the bodies among declarations, in the order of the text
  unfoldable pub inner_bodies_put : Within → List (Declaration Q) → Making (Unit {0})
  inner_bodies_put within [] = pure tt
  inner_bodies_put within (d ∷ ds) = do
    inner_body_put within d
    inner_bodies_put within ds

  -- ---- sequences (11.2, 3.11): the activation stands before the statements, inside the handlers

  unfoldable pub unhandled_put : Within → Option ℕ → SequenceParts Q → Option StatementNo → Making (Option StatementNo)
  unhandled_put within part s next = do
    first ← statements_put sequence within (s.statements.first ∷ s.statements.others) next
    activation_put part first

  unfoldable pub with_handlers_put : Within → Option ℕ → SequenceParts Q → Option StatementNo
      → Making (Option StatementNo)
  with_handlers_put within part s next = do
    h ← reserved
    first ← unhandled_put (in_construct h within) part s None
    handlers ← handlers_put sequence within s.handlers next
    put_at h (action.Handled handlers (the_action first)) 0 next

  unfoldable pub handled_put : Within → Option ℕ → SequenceParts Q → List (Handler Q) → Option StatementNo
      → Making (Option StatementNo)
  handled_put within part s [] next = unhandled_put within part s next
  handled_put within part s (h ∷ hs) next = with_handlers_put within part s next

  unfoldable pub whole_put : Within → Bool → SequenceParts Q → Making (Option StatementNo)
  whole_put within is_task_body s = do
    inner_bodies_put within s.declarations
    first ← handled_put within (then_some (make_tasks within s.declarations) 0) s s.handlers None
    ended ← end_of_activation_put is_task_body first
    declarations_put within 0 s.declarations ended

  unfoldable pub parts_put : SequenceParts Q → SequenceMaking
  parts_put s sequence_place.StatementsAlone within next =
      statements_put sequence within (s.statements.first ∷ s.statements.others) next
  parts_put s (sequence_place.BehindDeclarations part) within next = handled_put within part s s.handlers next
  parts_put s (sequence_place.AsBody is_task_body) within next = whole_put within is_task_body s

abbrev pub same_making : SequenceMaking → SequenceMaking
same_making making = making

abbrev pub making_layer : Sequence-F SequenceMaking → SequenceMaking
making_layer s = parts_put same_making s.parts

abbrev pub sequence_put : Sequence → SequenceMaking
sequence_put = fold-Sequence SequenceMaking making_layer
