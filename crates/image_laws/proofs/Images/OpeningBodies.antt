-- Bodies among declarations begin the scopes of their texts.
use Rattle.std.proofs.Common.{ℕ, Bool, true, false, List, [], ◌∷◌, map, Option, None, refl, subst}
use Rattle.ann_base.specs.declared.places.Place.{Place}
use Rattle.ada_tree.specs.declared.declarations.Declaration.{Declaration}
use Rattle.ada_tree.specs.declared.declarations.Declaration.TheVariants as declaration
use Rattle.ada_tree.specs.declared.declarations.OperationBody.{OperationBody}
use Rattle.ada_tree.specs.declared.declarations.OperationBody.TheVariants as body_of
use Rattle.ada_tree.specs.declared.statements.Sequence.{Sequence}
use Rattle.profile_image.specs.declared.numbers.SubprogramNo.{SubprogramNo}
use Rattle.ada_regions.specs.Names.{entity_denoted}
use Rattle.ada_regions.specs.declared.table.Names.{Names}
use Rattle.ada_image.specs.declared.making.Within.{Within}
use Rattle.ada_image.specs.declared.making.SequencePlace.TheVariants as sequence_place
use Rattle.ada_image.specs.Making.{Making, first_put, in_body_of, in_unit}
use Rattle.ada_image.specs.ImageOfStatements.{SequenceMaking, scope_at}
use Rattle.ada_image.specs.ImageOfDeclarations.{same_making, sequence_put, subprogram_declared_as, body_put}
use Rattle.ada_image.specs.ImageOfDeclarations.{operation_body_put, operation_bodies_put, inner_body_put, inner_bodies_put}
use Rattle.image_laws.specs.ScopesOfText.{Scopes, body_scopes, operations_scopes, declaration_scopes, declarations_scopes, same_scopes, sequence_scopes}
use Rattle.image_laws.proofs.Images.Layers.{mapped_operation, mapped_declaration}
use Rattle.image_laws.proofs.Images.Bodies.{unit-names}
use Rattle.image_laws.proofs.Images.Opening.{Opens, OpensLaw, opens-then, opens-first}

-- a unit around changes no scope
in-unit : {X : Type 0} (m : Making X) (scopes : Names → List ℕ) (e : Option ℕ) (within : Within) → Opens m (scopes (in_unit e within).names)
    → Opens m (scopes within.names)
in-unit m scopes e within h = subst (λ n. Opens m (scopes n)) (unit-names e within) h

module _ {Q : Type 0} (make : Q → SequenceMaking) (scopes : Q → Scopes) (law : (q : Q) → OpensLaw (make q) (scopes q)) where
  pub body-opens : (place : Place) (function : Option SubprogramNo) (is_task_body : Bool) (q : Q) (within : Within)
      → Opens (body_put make within place function is_task_body q) (body_scopes scopes place is_task_body q within.names)
  unfolding body_put
  body-opens place function is_task_body q within =
      let scope = scope_at within.names place in
      opens-then (make q (sequence_place.AsBody is_task_body) (in_body_of scope function within) None) (λ first. first_put scope first)
      (scopes q (sequence_place.AsBody is_task_body) within.names) (scope ∷ [])
      ((law q).opens (sequence_place.AsBody is_task_body) (in_body_of scope function within) None) (λ first. opens-first scope first)

  -- ---- those of a library package

  operations-open : (os : List (OperationBody Q)) (within : Within) → Opens (operation_bodies_put make within os) (operations_scopes scopes os within.names)
  unfolding operation_bodies_put operation_body_put
  operations-open [] within = λ l. refl
  operations-open (body_of.Subprogram s body ∷ os) within =
      opens-then (body_put make within s.place (subprogram_declared_as within s.name) false body.sequence) (λ u. operation_bodies_put make within os)
      (body_scopes scopes s.place false body.sequence within.names) (operations_scopes scopes os within.names)
      (body-opens s.place (subprogram_declared_as within s.name) false body.sequence within) (λ u. operations-open os within)
  operations-open (body_of.Entry head body ∷ os) within =
      opens-then (body_put make within head.place None false body.sequence) (λ u. operation_bodies_put make within os)
      (body_scopes scopes head.place false body.sequence within.names) (operations_scopes scopes os within.names)
      (body-opens head.place None false body.sequence within) (λ u. operations-open os within)

  inner-opens : (d : Declaration Q) (within : Within) → Opens (inner_body_put make within d) (declaration_scopes scopes d within.names)
  unfolding inner_body_put
  inner-opens (declaration.Object o) within = λ l. refl
  inner-opens (declaration.Type t) within = λ l. refl
  inner-opens (declaration.Subtype s) within = λ l. refl
  inner-opens (declaration.Exception names) within = λ l. refl
  inner-opens (declaration.Subprogram s) within = λ l. refl
  inner-opens (declaration.SubprogramBody s body) within = body-opens s.place (subprogram_declared_as within s.name) false body.sequence within
  inner-opens (declaration.Task t) within = λ l. refl
  inner-opens (declaration.TaskBody place name body) within =
      in-unit (body_put make (in_unit (entity_denoted within.names name.place) within) place None true body.sequence)
      (body_scopes scopes place true body.sequence) (entity_denoted within.names name.place) within
      (body-opens place None true body.sequence (in_unit (entity_denoted within.names name.place) within))
  inner-opens (declaration.Protected x) within = λ l. refl
  inner-opens (declaration.ProtectedBody x) within =
      in-unit (operation_bodies_put make (in_unit (entity_denoted within.names x.name.place) within) x.operations) (operations_scopes scopes x.operations)
      (entity_denoted within.names x.name.place) within
      (operations-open x.operations (in_unit (entity_denoted within.names x.name.place) within))
  inner-opens (declaration.Use place name) within = λ l. refl

  pub inners-open : (ds : List (Declaration Q)) (within : Within) → Opens (inner_bodies_put make within ds) (declarations_scopes scopes ds within.names)
  unfolding inner_bodies_put
  inners-open [] within = λ l. refl
  inners-open (d ∷ ds) within =
      opens-then (inner_body_put make within d) (λ u. inner_bodies_put make within ds) (declaration_scopes scopes d within.names)
      (declarations_scopes scopes ds within.names) (inner-opens d within) (λ u. inners-open ds within)

-- ---- those of a layer, whose sequences are those that g gives

module _ {E : Type 0} (g : E → Sequence) (law : (e : E) → OpensLaw (sequence_put (g e)) (sequence_scopes (g e))) where
  layer-body : (place : Place) (function : Option SubprogramNo) (is_task_body : Bool) (e : E) (within : Within)
      → Opens (body_put same_making within place function is_task_body (sequence_put (g e)))
      (body_scopes same_scopes place is_task_body (sequence_scopes (g e)) within.names)
  unfolding body_put
  layer-body place function is_task_body e within = body-opens (λ e. sequence_put (g e)) (λ e. sequence_scopes (g e)) law place function is_task_body e within

  abbrev operations_made : List (OperationBody E) → List (OperationBody SequenceMaking)
  operations_made os = map (mapped_operation sequence_put) (map (mapped_operation g) os)

  abbrev operations_opened : List (OperationBody E) → Names → List ℕ
  operations_opened os n = operations_scopes same_scopes (map (mapped_operation sequence_scopes) (map (mapped_operation g) os)) n

  layer-operations : (os : List (OperationBody E)) (within : Within)
      → Opens (operation_bodies_put same_making within (operations_made os)) (operations_opened os within.names)
  unfolding operation_bodies_put operation_body_put
  layer-operations [] within = λ l. refl
  layer-operations (body_of.Subprogram s body ∷ os) within =
      opens-then (body_put same_making within s.place (subprogram_declared_as within s.name) false (sequence_put (g body.sequence)))
      (λ u. operation_bodies_put same_making within (operations_made os))
      (body_scopes same_scopes s.place false (sequence_scopes (g body.sequence)) within.names) (operations_opened os within.names)
      (layer-body s.place (subprogram_declared_as within s.name) false body.sequence within) (λ u. layer-operations os within)
  layer-operations (body_of.Entry head body ∷ os) within =
      opens-then (body_put same_making within head.place None false (sequence_put (g body.sequence)))
      (λ u. operation_bodies_put same_making within (operations_made os))
      (body_scopes same_scopes head.place false (sequence_scopes (g body.sequence)) within.names) (operations_opened os within.names)
      (layer-body head.place None false body.sequence within) (λ u. layer-operations os within)

  layer-inner : (d : Declaration E) (within : Within)
      → Opens (inner_body_put same_making within (mapped_declaration sequence_put (mapped_declaration g d)))
      (declaration_scopes same_scopes (mapped_declaration sequence_scopes (mapped_declaration g d)) within.names)
  unfolding inner_body_put
  layer-inner (declaration.Object o) within = λ l. refl
  layer-inner (declaration.Type t) within = λ l. refl
  layer-inner (declaration.Subtype s) within = λ l. refl
  layer-inner (declaration.Exception names) within = λ l. refl
  layer-inner (declaration.Subprogram s) within = λ l. refl
  layer-inner (declaration.SubprogramBody s body) within = layer-body s.place (subprogram_declared_as within s.name) false body.sequence within
  layer-inner (declaration.Task t) within = λ l. refl
  layer-inner (declaration.TaskBody place name body) within =
      in-unit (body_put same_making (in_unit (entity_denoted within.names name.place) within) place None true (sequence_put (g body.sequence)))
      (body_scopes same_scopes place true (sequence_scopes (g body.sequence)))
      (entity_denoted within.names name.place) within (layer-body place None true body.sequence (in_unit (entity_denoted within.names name.place) within))
  layer-inner (declaration.Protected x) within = λ l. refl
  layer-inner (declaration.ProtectedBody x) within =
      in-unit (operation_bodies_put same_making (in_unit (entity_denoted within.names x.name.place) within) (operations_made x.operations))
      (operations_opened x.operations) (entity_denoted within.names x.name.place) within
      (layer-operations x.operations (in_unit (entity_denoted within.names x.name.place) within))
  layer-inner (declaration.Use place name) within = λ l. refl

  pub layer-inners : (ds : List (Declaration E)) (within : Within)
      → Opens (inner_bodies_put same_making within (map (mapped_declaration sequence_put) (map (mapped_declaration g) ds)))
      (declarations_scopes same_scopes (map (mapped_declaration sequence_scopes) (map (mapped_declaration g) ds)) within.names)
  unfolding inner_bodies_put
  layer-inners [] within = λ l. refl
  layer-inners (d ∷ ds) within =
      opens-then (inner_body_put same_making within (mapped_declaration sequence_put (mapped_declaration g d)))
      (λ u. inner_bodies_put same_making within (map (mapped_declaration sequence_put) (map (mapped_declaration g) ds)))
      (declaration_scopes same_scopes (mapped_declaration sequence_scopes (mapped_declaration g d)) within.names)
      (declarations_scopes same_scopes (map (mapped_declaration sequence_scopes) (map (mapped_declaration g) ds)) within.names)
      (layer-inner d within) (λ u. layer-inners ds within)
