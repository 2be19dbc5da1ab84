-- What the fold over a sequence makes of its parts.
use Rattle.std.proofs.Common.{◌≡◌, Bool, ℕ, List, [], ◌∷◌, Option, None, map, refl, ap, ◌∙◌}
use Rattle.std.specs.Bool.{then_some}
use Rattle.std.specs.List.{list_any}
use Rattle.ada_tree.specs.declared.statements.Sequence.{Sequence}
use Rattle.ada_tree.specs.declared.statements.Sequence.TheViews.{out-Sequence}
use Rattle.ada_tree.specs.declared.statements.Sequence.TheFolds.{fold_out-Sequence}
use Rattle.ada_tree.specs.declared.statements.SequenceParts.{SequenceParts}
use Rattle.ada_tree.specs.declared.statements.Handler.{Handler}
use Rattle.ada_tree.specs.declared.declarations.OperationBody.{OperationBody}
use Rattle.ada_tree.specs.declared.declarations.OperationBody.TheVariants as body_of
use Rattle.ada_tree.specs.declared.declarations.Declaration.{Declaration}
use Rattle.ada_tree.specs.declared.declarations.Declaration.TheVariants as declaration
use Rattle.ada_tree.proofs.Mapped.{mapped, mapped_operation, mapped_declaration}
use Rattle.profile_image.specs.declared.numbers.StatementNo.{StatementNo}
use Rattle.ada_regions.specs.Names.{entity_denoted}
use Rattle.ada_image.specs.declared.making.Lists.{Lists}
use Rattle.ada_image.specs.declared.making.Within.{Within}
use Rattle.ada_image.specs.declared.making.SequencePlace.{SequencePlace}
use Rattle.ada_image.specs.declared.making.SequencePlace.TheVariants as sequence_place
use Rattle.profile_image.specs.declared.declarations.Handler.{Handler as ExceptionHandler}
use Rattle.profile_image.specs.declared.statements.StatementForm.TheVariants as action
use Rattle.ada_image.specs.Making.{reserved, put_at, the_action, in_construct, in_unit}
use Rattle.ada_image.specs.ImageOfStatements.{SequenceMaking, handlers_put}
use Rattle.ada_image.specs.ImageOfDeclarations.{declaration_put, declarations_put, makes_task, make_tasks, activation_put, end_of_activation_put}
use Rattle.ada_image.specs.ImageOfDeclarations.{body_put, operation_body_put, operation_bodies_put, inner_body_put, inner_bodies_put, unhandled_put}
use Rattle.ada_image.specs.ImageOfDeclarations.{with_handlers_put, handled_put, whole_put, parts_put, same_making, making_layer, sequence_put}
use Rattle.ada_image.proofs.StatementFolds.{handlers_of_map, statements_of_map}

module _ (f : Sequence → SequenceMaking) where
  -- ---- declarations

  declaration_of_map : (within : Within) (part : ℕ) (d : Declaration Sequence) (next : Option StatementNo) (l : Lists)
      → declaration_put within part (mapped_declaration f d) next l ≡ declaration_put within part d next l
  unfolding declaration_put
  declaration_of_map within part (declaration.Object o) next l = refl
  declaration_of_map within part (declaration.Type t) next l = refl
  declaration_of_map within part (declaration.Subtype s) next l = refl
  declaration_of_map within part (declaration.Exception names) next l = refl
  declaration_of_map within part (declaration.Subprogram s) next l = refl
  declaration_of_map within part (declaration.SubprogramBody s body) next l = refl
  declaration_of_map within part (declaration.Task t) next l = refl
  declaration_of_map within part (declaration.TaskBody place name body) next l = refl
  declaration_of_map within part (declaration.Protected p) next l = refl
  declaration_of_map within part (declaration.ProtectedBody p) next l = refl
  declaration_of_map within part (declaration.Use place name) next l = refl

  declarations_of_map : (within : Within) (part : ℕ) (ds : List (Declaration Sequence)) (next : Option StatementNo) (l : Lists)
      → declarations_put within part (map (mapped_declaration f) ds) next l ≡ declarations_put within part ds next l
  unfolding declarations_put
  declarations_of_map within part [] next l = refl
  declarations_of_map within part (d ∷ ds) next l =
      ap (λ (r : Lists × Option StatementNo). declaration_put within part (mapped_declaration f d) r.1 r.0) (declarations_of_map within part ds next l)
      ∙ declaration_of_map within part d (declarations_put within part ds next l).1 (declarations_put within part ds next l).0

  task_of_map : (within : Within) (d : Declaration Sequence) → makes_task within (mapped_declaration f d) ≡ makes_task within d
  unfolding makes_task
  task_of_map within (declaration.Object o) = refl
  task_of_map within (declaration.Type t) = refl
  task_of_map within (declaration.Subtype s) = refl
  task_of_map within (declaration.Exception names) = refl
  task_of_map within (declaration.Subprogram s) = refl
  task_of_map within (declaration.SubprogramBody s body) = refl
  task_of_map within (declaration.Task t) = refl
  task_of_map within (declaration.TaskBody place name body) = refl
  task_of_map within (declaration.Protected p) = refl
  task_of_map within (declaration.ProtectedBody p) = refl
  task_of_map within (declaration.Use place name) = refl

  any_of_map : (within : Within) (ds : List (Declaration Sequence))
      → list_any (makes_task within) (map (mapped_declaration f) ds) ≡ list_any (makes_task within) ds
  any_of_map within [] = refl
  any_of_map within (d ∷ ds) = rw (task_of_map within d, any_of_map within ds) refl

  tasks_of_map : (within : Within) (ds : List (Declaration Sequence)) → make_tasks within (map (mapped_declaration f) ds) ≡ make_tasks within ds
  unfolding make_tasks
  tasks_of_map within ds = any_of_map within ds

  -- ---- bodies

  operation_of_map : (within : Within) (o : OperationBody Sequence) (l : Lists)
      → operation_body_put same_making within (mapped_operation f o) l ≡ operation_body_put f within o l
  unfolding operation_body_put body_put
  operation_of_map within (body_of.Subprogram s body) l = refl
  operation_of_map within (body_of.Entry head body) l = refl

  operations_of_map : (within : Within) (os : List (OperationBody Sequence)) (l : Lists)
      → operation_bodies_put same_making within (map (mapped_operation f) os) l ≡ operation_bodies_put f within os l
  unfolding operation_bodies_put
  operations_of_map within [] l = refl
  operations_of_map within (o ∷ os) l =
      ap (λ (r : Lists × Unit {0}). operation_bodies_put same_making within (map (mapped_operation f) os) r.0) (operation_of_map within o l)
      ∙ operations_of_map within os (operation_body_put f within o l).0

  body_of_map : (within : Within) (d : Declaration Sequence) (l : Lists)
      → inner_body_put same_making within (mapped_declaration f d) l ≡ inner_body_put f within d l
  unfolding inner_body_put body_put
  body_of_map within (declaration.Object o) l = refl
  body_of_map within (declaration.Type t) l = refl
  body_of_map within (declaration.Subtype s) l = refl
  body_of_map within (declaration.Exception names) l = refl
  body_of_map within (declaration.Subprogram s) l = refl
  body_of_map within (declaration.SubprogramBody s body) l = refl
  body_of_map within (declaration.Task t) l = refl
  body_of_map within (declaration.TaskBody place name body) l = refl
  body_of_map within (declaration.Protected p) l = refl
  body_of_map within (declaration.ProtectedBody p) l = operations_of_map (in_unit (entity_denoted within.names p.name.place) within) p.operations l
  body_of_map within (declaration.Use place name) l = refl

  bodies_of_map : (within : Within) (ds : List (Declaration Sequence)) (l : Lists)
      → inner_bodies_put same_making within (map (mapped_declaration f) ds) l ≡ inner_bodies_put f within ds l
  unfolding inner_bodies_put
  bodies_of_map within [] l = refl
  bodies_of_map within (d ∷ ds) l =
      ap (λ (r : Lists × Unit {0}). inner_bodies_put same_making within (map (mapped_declaration f) ds) r.0) (body_of_map within d l)
      ∙ bodies_of_map within ds (inner_body_put f within d l).0

  -- ---- sequences

  unhandled_of_map : (within : Within) (part : Option ℕ) (s : SequenceParts Sequence) (next : Option StatementNo) (l : Lists)
      → unhandled_put same_making within part (mapped f s) next l ≡ unhandled_put f within part s next l
  unfolding unhandled_put
  unhandled_of_map within part s next l =
      ap (λ (r : Lists × Option StatementNo). activation_put part r.1 r.0) (statements_of_map f within (s.statements.first ∷ s.statements.others) next l)

  abbrev guarded : Within → Option ℕ → SequenceParts Sequence → Lists → Lists × Option StatementNo
  guarded within part s l = unhandled_put f (in_construct (reserved l).1 within) part s None (reserved l).0

  with_handlers_of_map : (within : Within) (part : Option ℕ) (s : SequenceParts Sequence) (next : Option StatementNo) (l : Lists)
      → with_handlers_put same_making within part (mapped f s) next l ≡ with_handlers_put f within part s next l
  unfolding with_handlers_put
  with_handlers_of_map within part s next l =
      ap (λ (r : Lists × Option StatementNo). put_at (reserved l).1
      (action.Handled (handlers_put same_making within (mapped f s).handlers next r.0).1 (the_action r.1)) 0 next
      (handlers_put same_making within (mapped f s).handlers next r.0).0)
      (unhandled_of_map (in_construct (reserved l).1 within) part s None (reserved l).0)
      ∙ ap (λ (t : Lists × List ExceptionHandler). put_at (reserved l).1 (action.Handled t.1 (the_action (guarded within part s l).1)) 0 next t.0)
      (handlers_of_map f within (λ (h : Handler Sequence). record { place = h.place; exceptions = h.exceptions; statements = f h.statements })
      (λ h. refl) s.handlers next (guarded within part s l).0)

  handled_of_map : (within : Within) (part : Option ℕ) (s : SequenceParts Sequence) (hs : List (Handler Sequence)) (next : Option StatementNo) (l : Lists)
      → handled_put same_making within part (mapped f (record s { handlers = hs })) (mapped f (record s { handlers = hs })).handlers next l
      ≡ handled_put f within part (record s { handlers = hs }) hs next l
  unfolding handled_put
  handled_of_map within part s [] next l = unhandled_of_map within part (record s { handlers = [] }) next l
  handled_of_map within part s (h ∷ hs) next l = with_handlers_of_map within part (record s { handlers = h ∷ hs }) next l

  abbrev ended : Within → Bool → SequenceParts Sequence → Lists × Option StatementNo → Lists × Option StatementNo
  ended within is_task_body s r =
      declarations_put within 0 (mapped f s).declarations (end_of_activation_put is_task_body r.1 r.0).1 (end_of_activation_put is_task_body r.1 r.0).0

  abbrev handled : Within → SequenceParts Sequence → Lists → Lists × Option StatementNo
  handled within s l = handled_put f within (then_some (make_tasks within s.declarations) 0) s s.handlers None (inner_bodies_put f within s.declarations l).0

  whole_of_map : (within : Within) (is_task_body : Bool) (s : SequenceParts Sequence) (l : Lists)
      → whole_put same_making within is_task_body (mapped f s) l ≡ whole_put f within is_task_body s l
  unfolding whole_put
  whole_of_map within is_task_body s l =
      ap (λ (b : Lists × Unit {0}). ended within is_task_body s
      (handled_put same_making within (then_some (make_tasks within (mapped f s).declarations) 0) (mapped f s) (mapped f s).handlers None b.0))
      (bodies_of_map within s.declarations l)
      ∙ ap (λ (k : Bool). ended within is_task_body s
      (handled_put same_making within (then_some k 0) (mapped f s) (mapped f s).handlers None (inner_bodies_put f within s.declarations l).0))
      (tasks_of_map within s.declarations)
      ∙ ap (λ (r : Lists × Option StatementNo). ended within is_task_body s r)
      (handled_of_map within (then_some (make_tasks within s.declarations) 0) s s.handlers None (inner_bodies_put f within s.declarations l).0)
      ∙ declarations_of_map within 0 s.declarations
      (end_of_activation_put is_task_body (handled within s l).1 (handled within s l).0).1
      (end_of_activation_put is_task_body (handled within s l).1 (handled within s l).0).0

  parts_of_map : (s : SequenceParts Sequence) (place : SequencePlace) (within : Within) (next : Option StatementNo) (l : Lists)
      → parts_put same_making (mapped f s) place within next l ≡ parts_put f s place within next l
  unfolding parts_put
  parts_of_map s sequence_place.StatementsAlone within next l = statements_of_map f within (s.statements.first ∷ s.statements.others) next l
  parts_of_map s (sequence_place.BehindDeclarations part) within next l = handled_of_map within part s s.handlers next l
  parts_of_map s (sequence_place.AsBody is_task_body) within next l = whole_of_map within is_task_body s l

pub sequence_made : (s : Sequence) (place : SequencePlace) (within : Within) (next : Option StatementNo) (l : Lists)
    → sequence_put s place within next l ≡ parts_put sequence_put (out-Sequence s).parts place within next l
sequence_made s place within next l =
    ap (λ (making : SequenceMaking). making place within next l) (fold_out-Sequence SequenceMaking making_layer s)
    ∙ parts_of_map sequence_put (out-Sequence s).parts place within next l
