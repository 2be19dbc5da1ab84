-- The actions of declarations read as the declarations of the text (3.3.1, 7.6, 9.1), and those of activations (9.2).
use Rattle.std.proofs.Common.{◌≡◌, ℕ, Bool, true, false, cond, List, [], ◌∷◌, map, Option, Some, None, refl, sym, ap, ◌∙◌}
use Rattle.std.specs.List.{list_any}
use Rattle.std.proofs.lemmas.Bool.{and_from, and_parts}
use Rattle.ada_tree.specs.declared.names.Identifier.{Identifier}
use Rattle.ada_tree.specs.declared.expressions.Expression.{Expression}
use Rattle.ada_tree.specs.declared.declarations.Declaration.{Declaration}
use Rattle.ada_tree.specs.declared.declarations.Declaration.TheVariants as declaration
use Rattle.profile_image.specs.declared.image.Image.{Image}
use Rattle.profile_image.specs.declared.numbers.DeclNo.{DeclNo}
use Rattle.profile_image.specs.declared.numbers.StatementNo.{StatementNo}
use Rattle.profile_image.specs.declared.statements.Destination.TheVariants as destination
use Rattle.profile_image.specs.declared.statements.StatementForm.{StatementForm}
use Rattle.profile_image.specs.declared.statements.StatementForm.TheVariants as action
use Rattle.profile_image.specs.Program.{next_of}
use Rattle.ada_regions.specs.declared.types.Subtype.{Subtype}
use Rattle.ada_regions.specs.Words.{all_of}
use Rattle.ada_regions.specs.TypeKinds.{is_task_type, is_controlled_type}
use Rattle.ada_image.specs.declared.making.Within.{Within}
use Rattle.ada_image.specs.Making.{action_put}
use Rattle.ada_image.specs.Layout.{subtype_is}
use Rattle.ada_image.specs.ImageOfExpressions.{signs_if}
use Rattle.ada_image.specs.ImageOfCalls.{FunctionCall}
use Rattle.ada_image.specs.ImageOfDeclarations.{number_declared, subtype_declared_as, signs_of_object, initialize_if, function_call_if}
use Rattle.ada_image.specs.ImageOfDeclarations.{object_declaration_put, object_elaborated, object_put, objects_put, single_put, declaration_put}
use Rattle.ada_image.specs.ImageOfDeclarations.{declarations_put, makes_task, make_tasks, activation_put, end_of_activation_put}
use Rattle.ada_image.specs.ReadStatements.{is_declared}
use Rattle.ada_image.specs.NothingLost.{and_behind, is_create, is_initialize, is_declare, is_activate, is_end_of_activation, one_action, action_if}
use Rattle.ada_image.specs.NothingLost.{declares, object_read, objects_read, single_read, declaration_read, declarations_read, activation_read}
use Rattle.ada_image.specs.BuiltExpressions.{Built}
use Rattle.ada_image.specs.BuiltSequences.{call_if_built, initial_built, declaration_built, declarations_built, same_sequence_built}
use Rattle.image_laws.proofs.Images.Steps.{Step, step-pure, step-so, step-then, action-step}
use Rattle.image_laws.proofs.Images.Values.{same-number}
use Rattle.image_laws.proofs.Images.Actuals.{Stood, stood, call-step, call-same}
use Rattle.image_laws.proofs.Images.Layers.{mapped_declaration}

-- ---- single actions

-- an action that passes the test stands there: what comes behind it is left
pub one-stood : {p : Image} {to : Option StatementNo} {x : Option StatementNo} (test : StatementForm → Bool) → Stood p to (λ s f. test f) x
    → one_action p test x ≡ Some to
one-stood {p} {to} {x} test h = ap (one_action p test) h.is ∙ ap (λ b. cond b (Some (next_of p h.at)) None) h.stands ∙ ap Some h.next

pub one-step : (f : StatementForm) (test : StatementForm → Bool) (signs : ℕ) (next : Option StatementNo) → test f ≡ true
    → Step (action_put f signs next) (λ p x. one_action p test x ≡ Some next)
one-step f test signs next t = step-so (λ p x h. one-stood test (stood test h t)) (action-step f signs next)

-- ---- objects

initialize-step : (controlled : Bool) (d : DeclNo) (next : Option StatementNo)
    → Step (initialize_if controlled d next) (λ p x. action_if p controlled (is_initialize d) x ≡ Some next)
unfolding initialize_if
initialize-step true d next = one-step (action.Initialize d) (is_initialize d) 0 next (same-number d.0)
initialize-step false d next = step-pure next _ (λ p. refl)

declare-step : (d : DeclNo) (s : Option Subtype) (c : Option FunctionCall) (signs : ℕ) (next : Option StatementNo) (within : Within)
    → call_if_built c within.names ≡ true
    → Step (object_declaration_put within d s c signs next) (λ p x. one_action p (declares p within d c) x ≡ Some next)
unfolding object_declaration_put
declare-step d s None signs next within b =
    step-so (λ p x h. one-stood (declares p within d None) (stood (is_declare d) h (same-number d.0)))
    (action-step (action.Declare d) (signs_of_object within signs s) next)
declare-step d s (Some c) signs next within b =
    step-so (λ p x h. one-stood (declares p within d (Some c)) (h (same-number d.0)))
    (call-step c (destination.Declaration d) (λ p. is_declared p d) signs next within b)

call-if_built : (initial : Option Expression) (within : Within) → initial_built initial within.names ≡ true
    → call_if_built (function_call_if within initial) within.names ≡ true
unfolding function_call_if
call-if_built None within b = refl
call-if_built (Some e) within b = ap (λ c. call_if_built c within.names) (sym (call-same e within)) ∙ b

elaborated-step : (i : Identifier) (initial : Option Expression) (next : Option StatementNo) (within : Within) → initial_built initial within.names ≡ true
    → Step (object_elaborated within (number_declared within i) (subtype_declared_as within i) initial next)
    (λ p x. and_behind (one_action p (declares p within (number_declared within i) (function_call_if within initial)) x)
    (action_if p (subtype_is is_controlled_type (subtype_declared_as within i)) (is_initialize (number_declared within i)))
    ≡ Some next)
unfolding object_elaborated
elaborated-step i initial next within b =
    let d = number_declared within i in let s = subtype_declared_as within i in
    step-then (initialize_if (subtype_is is_controlled_type s) d next)
    (λ behind. object_declaration_put within d s (function_call_if within initial) (signs_if within initial) behind)
    (initialize-step (subtype_is is_controlled_type s) d next)
    (λ behind. step-so (λ p x h k. ap (λ z. and_behind z (action_if p (subtype_is is_controlled_type s) (is_initialize d))) h ∙ k)
    (declare-step d s (function_call_if within initial) (signs_if within initial) behind within (call-if_built initial within b)))

object-chosen : (task : Bool) (part : ℕ) (i : Identifier) (initial : Option Expression) (next : Option StatementNo) (within : Within)
    → initial_built initial within.names ≡ true
    → Step (cond task (action_put (action.CreateTask (number_declared within i) part) 0 next)
    (object_elaborated within (number_declared within i) (subtype_declared_as within i) initial next))
    (λ p x. cond task (one_action p (is_create (number_declared within i) part) x)
    (and_behind (one_action p (declares p within (number_declared within i) (function_call_if within initial)) x)
    (action_if p (subtype_is is_controlled_type (subtype_declared_as within i)) (is_initialize (number_declared within i))))
    ≡ Some next)
object-chosen true part i initial next within b =
    one-step (action.CreateTask (number_declared within i) part) (is_create (number_declared within i) part) 0 next
    (and_from _ _ (same-number (number_declared within i).0) (same-number part))
object-chosen false part i initial next within b = elaborated-step i initial next within b

object-step : (part : ℕ) (i : Identifier) (initial : Option Expression) (next : Option StatementNo) (within : Within)
    → initial_built initial within.names ≡ true
    → Step (object_put within part initial i next) (λ p x. object_read p within part initial i x ≡ Some next)
unfolding object_put
object-step part i initial next within b = object-chosen (subtype_is is_task_type (subtype_declared_as within i)) part i initial next within b

objects-step : (part : ℕ) (is : List Identifier) (initial : Option Expression) (next : Option StatementNo) (within : Within)
    → initial_built initial within.names ≡ true
    → Step (objects_put within part initial is next) (λ p x. objects_read p within part initial is x ≡ Some next)
unfolding objects_put
objects-step part [] initial next within b = step-pure next _ (λ p. refl)
objects-step part (i ∷ is) initial next within b =
    step-then (objects_put within part initial is next) (λ later. object_put within part initial i later) (objects-step part is initial next within b)
    (λ later. step-so (λ p x h k. ap (λ z. and_behind z (objects_read p within part initial is)) h ∙ k) (object-step part i initial later within b))

single-step : (part : ℕ) (is_type : Bool) (i : Identifier) (next : Option StatementNo) (within : Within)
    → Step (single_put within part is_type i next) (λ p x. single_read p within part is_type i x ≡ Some next)
unfolding single_put
single-step part true i next within = step-pure next _ (λ p. refl)
single-step part false i next within = object-step part i None next within refl

-- ---- declarations, in a layer of which each sequence was replaced

module _ {E A B : Type 0} (f : E → A) (h : Image → E → B) (k : E → Built) where
  declaration-step : (part : ℕ) (d : Declaration E) (next : Option StatementNo) (within : Within)
      → declarations_built same_sequence_built (mapped_declaration k d ∷ []) within.names ≡ true
      → Step (declaration_put within part (mapped_declaration f d) next) (λ p x. declaration_read p within part (mapped_declaration (h p) d) x ≡ Some next)
  unfolding declaration_put
  declaration-step part (declaration.Object o) next within b = objects-step part (all_of o.names) o.initial next within (and_parts _ _ b).0
  declaration-step part (declaration.Type t) next within b = step-pure next _ (λ p. refl)
  declaration-step part (declaration.Subtype s) next within b = step-pure next _ (λ p. refl)
  declaration-step part (declaration.Exception names) next within b = step-pure next _ (λ p. refl)
  declaration-step part (declaration.Subprogram s) next within b = step-pure next _ (λ p. refl)
  declaration-step part (declaration.SubprogramBody s body) next within b = step-pure next _ (λ p. refl)
  declaration-step part (declaration.Task t) next within b = single-step part t.is_type t.name next within
  declaration-step part (declaration.TaskBody place name body) next within b = step-pure next _ (λ p. refl)
  declaration-step part (declaration.Protected x) next within b = single-step part x.is_type x.name next within
  declaration-step part (declaration.ProtectedBody x) next within b = step-pure next _ (λ p. refl)
  declaration-step part (declaration.Use place name) next within b = step-pure next _ (λ p. refl)

  pub declarations-step : (part : ℕ) (ds : List (Declaration E)) (next : Option StatementNo) (within : Within)
      → declarations_built same_sequence_built (map (mapped_declaration k) ds) within.names ≡ true
      → Step (declarations_put within part (map (mapped_declaration f) ds) next)
      (λ p x. declarations_read p within part (map (mapped_declaration (h p)) ds) x ≡ Some next)
  unfolding declarations_put
  declarations-step part [] next within b = step-pure next _ (λ p. refl)
  declarations-step part (d ∷ ds) next within b =
      let parts = and_parts _ _ b in
      step-then (declarations_put within part (map (mapped_declaration f) ds) next) (λ later. declaration_put within part (mapped_declaration f d) later)
      (declarations-step part ds next within parts.1)
      (λ later. step-so (λ p x y z. ap (λ r. and_behind r (declarations_read p within part (map (mapped_declaration (h p)) ds))) y ∙ z)
      (declaration-step part d later within (and_from _ _ parts.0 refl)))

module _ {E A B : Type 0} (f : E → A) (h : E → B) where
  -- whether they make tasks does not depend on what their sequences were replaced by
  task-same : (within : Within) (d : Declaration E) → makes_task within (mapped_declaration f d) ≡ makes_task within (mapped_declaration h d)
  unfolding makes_task
  task-same within (declaration.Object o) = refl
  task-same within (declaration.Type t) = refl
  task-same within (declaration.Subtype s) = refl
  task-same within (declaration.Exception names) = refl
  task-same within (declaration.Subprogram s) = refl
  task-same within (declaration.SubprogramBody s body) = refl
  task-same within (declaration.Task t) = refl
  task-same within (declaration.TaskBody place name body) = refl
  task-same within (declaration.Protected p) = refl
  task-same within (declaration.ProtectedBody p) = refl
  task-same within (declaration.Use place name) = refl

  any-same : (within : Within) (ds : List (Declaration E))
      → list_any (makes_task within) (map (mapped_declaration f) ds) ≡ list_any (makes_task within) (map (mapped_declaration h) ds)
  any-same within [] = refl
  any-same within (d ∷ ds) = rw (task-same within d, any-same within ds) refl

  pub tasks-same : (within : Within) (ds : List (Declaration E))
      → make_tasks within (map (mapped_declaration f) ds) ≡ make_tasks within (map (mapped_declaration h) ds)
  unfolding make_tasks
  tasks-same within ds = any-same within ds

-- ---- declarations of a library package

module _ {Q : Type 0} (built : Q → Built) where
  package-declaration-step : (part : ℕ) (d : Declaration Q) (next : Option StatementNo) (within : Within) → declaration_built built d within.names ≡ true
      → Step (declaration_put within part d next) (λ p x. declaration_read p within part d x ≡ Some next)
  unfolding declaration_put
  package-declaration-step part (declaration.Object o) next within b = objects-step part (all_of o.names) o.initial next within b
  package-declaration-step part (declaration.Type t) next within b = step-pure next _ (λ p. refl)
  package-declaration-step part (declaration.Subtype s) next within b = step-pure next _ (λ p. refl)
  package-declaration-step part (declaration.Exception names) next within b = step-pure next _ (λ p. refl)
  package-declaration-step part (declaration.Subprogram s) next within b = step-pure next _ (λ p. refl)
  package-declaration-step part (declaration.SubprogramBody s body) next within b = step-pure next _ (λ p. refl)
  package-declaration-step part (declaration.Task t) next within b = single-step part t.is_type t.name next within
  package-declaration-step part (declaration.TaskBody place name body) next within b = step-pure next _ (λ p. refl)
  package-declaration-step part (declaration.Protected x) next within b = single-step part x.is_type x.name next within
  package-declaration-step part (declaration.ProtectedBody x) next within b = step-pure next _ (λ p. refl)
  package-declaration-step part (declaration.Use place name) next within b = step-pure next _ (λ p. refl)

  pub package-declarations-step : (part : ℕ) (ds : List (Declaration Q)) (next : Option StatementNo) (within : Within)
      → declarations_built built ds within.names ≡ true
      → Step (declarations_put within part ds next) (λ p x. declarations_read p within part ds x ≡ Some next)
  unfolding declarations_put
  package-declarations-step part [] next within b = step-pure next _ (λ p. refl)
  package-declarations-step part (d ∷ ds) next within b =
      let parts = and_parts _ _ b in
      step-then (declarations_put within part ds next) (λ later. declaration_put within part d later) (package-declarations-step part ds next within parts.1)
      (λ later. step-so (λ p x y z. ap (λ r. and_behind r (declarations_read p within part ds)) y ∙ z) (package-declaration-step part d later within parts.0))

-- ---- activations

-- where what comes next is an action, so is what the answer leads to
abbrev pub Starts : Option StatementNo → Option StatementNo → Type 0
Starts next x = (s : StatementNo) → next ≡ Some s → (t : StatementNo) × (x ≡ Some t)

pub activation-step : (part : Option ℕ) (next : Option StatementNo)
    → Step (activation_put part next) (λ p x. (activation_read p part x ≡ Some next) × Starts next x)
unfolding activation_put
activation-step None next = step-pure next _ (λ p. (refl, λ s e. (s, e)))
activation-step (Some part) next =
    step-so (λ p x h. (one-stood (is_activate part) (stood (is_activate part) h (same-number part)), λ s e. (h.at, h.is)))
    (action-step (action.Activate part) 0 next)

pub end-step : (is_task_body : Bool) (next : Option StatementNo)
    → Step (end_of_activation_put is_task_body next) (λ p x. action_if p is_task_body is_end_of_activation x ≡ Some next)
unfolding end_of_activation_put
end-step true next = one-step action.EndActivation is_end_of_activation 0 next refl
end-step false next = step-pure next _ (λ p. refl)
