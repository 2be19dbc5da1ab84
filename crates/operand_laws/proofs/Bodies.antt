-- Bodies among declarations keep the order of operands.
use Rattle.std.proofs.Common.{Bool, true, false, List, [], ◌∷◌, map, Option, None}
use Rattle.ann_base.specs.declared.places.Place.{Place}
use Rattle.ada_tree.specs.declared.declarations.Declaration.{Declaration}
use Rattle.ada_tree.specs.declared.declarations.Declaration.TheVariants as declaration
use Rattle.ada_tree.specs.declared.declarations.OperationBody.{OperationBody}
use Rattle.ada_tree.specs.declared.declarations.OperationBody.TheVariants as body_of
use Rattle.ada_tree.specs.declared.statements.Sequence.{Sequence}
use Rattle.profile_image.specs.declared.numbers.SubprogramNo.{SubprogramNo}
use Rattle.ada_regions.specs.Names.{entity_denoted}
use Rattle.ada_image.specs.declared.making.Within.{Within}
use Rattle.ada_image.specs.declared.making.SequencePlace.TheVariants as sequence_place
use Rattle.ada_image.specs.Making.{first_put, in_body_of, in_unit}
use Rattle.ada_image.specs.ImageOfStatements.{SequenceMaking, scope_at}
use Rattle.ada_image.specs.ImageOfDeclarations.{same_making, sequence_put, subprogram_declared_as, body_put}
use Rattle.ada_image.specs.ImageOfDeclarations.{operation_body_put, operation_bodies_put, inner_body_put, inner_bodies_put}
use Rattle.image_laws.proofs.Images.Layers.{mapped_operation, mapped_declaration}
use Rattle.operand_laws.proofs.Rising.{Keeps, keeps-then, first-keeps}
use Rattle.operand_laws.proofs.Constructs.{KeepsAll}

module _ {Q : Type 0} (make : Q → SequenceMaking) (law : (q : Q) → KeepsAll (make q)) where
  pub body-keeps : (place : Place) (function : Option SubprogramNo) (is_task_body : Bool) (q : Q) (within : Within)
      → Keeps (body_put make within place function is_task_body q)
  unfolding body_put
  body-keeps place function is_task_body q within =
      let scope = scope_at within.names place in
      keeps-then (make q (sequence_place.AsBody is_task_body) (in_body_of scope function within) None) (λ first. first_put scope first)
      (law q (sequence_place.AsBody is_task_body) (in_body_of scope function within) None) (λ first. first-keeps scope first)

  -- ---- those of a library package

  operations-keep : (os : List (OperationBody Q)) (within : Within) → Keeps (operation_bodies_put make within os)
  unfolding operation_bodies_put operation_body_put
  operations-keep [] within = λ l h. h
  operations-keep (body_of.Subprogram s body ∷ os) within =
      keeps-then (body_put make within s.place (subprogram_declared_as within s.name) false body.sequence) (λ u. operation_bodies_put make within os)
      (body-keeps s.place (subprogram_declared_as within s.name) false body.sequence within) (λ u. operations-keep os within)
  operations-keep (body_of.Entry head body ∷ os) within =
      keeps-then (body_put make within head.place None false body.sequence) (λ u. operation_bodies_put make within os)
      (body-keeps head.place None false body.sequence within) (λ u. operations-keep os within)

  inner-keeps : (d : Declaration Q) (within : Within) → Keeps (inner_body_put make within d)
  unfolding inner_body_put
  inner-keeps (declaration.Object o) within = λ l h. h
  inner-keeps (declaration.Type t) within = λ l h. h
  inner-keeps (declaration.Subtype s) within = λ l h. h
  inner-keeps (declaration.Exception names) within = λ l h. h
  inner-keeps (declaration.Subprogram s) within = λ l h. h
  inner-keeps (declaration.SubprogramBody s body) within = body-keeps s.place (subprogram_declared_as within s.name) false body.sequence within
  inner-keeps (declaration.Task t) within = λ l h. h
  inner-keeps (declaration.TaskBody place name body) within = body-keeps place None true body.sequence (in_unit (entity_denoted within.names name.place) within)
  inner-keeps (declaration.Protected x) within = λ l h. h
  inner-keeps (declaration.ProtectedBody x) within = operations-keep x.operations (in_unit (entity_denoted within.names x.name.place) within)
  inner-keeps (declaration.Use place name) within = λ l h. h

  pub inners-keep : (ds : List (Declaration Q)) (within : Within) → Keeps (inner_bodies_put make within ds)
  unfolding inner_bodies_put
  inners-keep [] within = λ l h. h
  inners-keep (d ∷ ds) within =
      keeps-then (inner_body_put make within d) (λ u. inner_bodies_put make within ds) (inner-keeps d within) (λ u. inners-keep ds within)

-- ---- those of a layer, whose sequences are those that g gives

module _ {E : Type 0} (g : E → Sequence) (law : (e : E) → KeepsAll (sequence_put (g e))) where
  layer-body : (place : Place) (function : Option SubprogramNo) (is_task_body : Bool) (e : E) (within : Within)
      → Keeps (body_put same_making within place function is_task_body (sequence_put (g e)))
  unfolding body_put
  layer-body place function is_task_body e within = body-keeps (λ e. sequence_put (g e)) law place function is_task_body e within

  abbrev operations_made : List (OperationBody E) → List (OperationBody SequenceMaking)
  operations_made os = map (mapped_operation sequence_put) (map (mapped_operation g) os)

  layer-operations : (os : List (OperationBody E)) (within : Within) → Keeps (operation_bodies_put same_making within (operations_made os))
  unfolding operation_bodies_put operation_body_put
  layer-operations [] within = λ l h. h
  layer-operations (body_of.Subprogram s body ∷ os) within =
      keeps-then (body_put same_making within s.place (subprogram_declared_as within s.name) false (sequence_put (g body.sequence)))
      (λ u. operation_bodies_put same_making within (operations_made os))
      (layer-body s.place (subprogram_declared_as within s.name) false body.sequence within) (λ u. layer-operations os within)
  layer-operations (body_of.Entry head body ∷ os) within =
      keeps-then (body_put same_making within head.place None false (sequence_put (g body.sequence)))
      (λ u. operation_bodies_put same_making within (operations_made os))
      (layer-body head.place None false body.sequence within) (λ u. layer-operations os within)

  layer-inner : (d : Declaration E) (within : Within)
      → Keeps (inner_body_put same_making within (mapped_declaration sequence_put (mapped_declaration g d)))
  unfolding inner_body_put
  layer-inner (declaration.Object o) within = λ l h. h
  layer-inner (declaration.Type t) within = λ l h. h
  layer-inner (declaration.Subtype s) within = λ l h. h
  layer-inner (declaration.Exception names) within = λ l h. h
  layer-inner (declaration.Subprogram s) within = λ l h. h
  layer-inner (declaration.SubprogramBody s body) within = layer-body s.place (subprogram_declared_as within s.name) false body.sequence within
  layer-inner (declaration.Task t) within = λ l h. h
  layer-inner (declaration.TaskBody place name body) within = layer-body place None true body.sequence (in_unit (entity_denoted within.names name.place) within)
  layer-inner (declaration.Protected x) within = λ l h. h
  layer-inner (declaration.ProtectedBody x) within = layer-operations x.operations (in_unit (entity_denoted within.names x.name.place) within)
  layer-inner (declaration.Use place name) within = λ l h. h

  pub layer-inners : (ds : List (Declaration E)) (within : Within)
      → Keeps (inner_bodies_put same_making within (map (mapped_declaration sequence_put) (map (mapped_declaration g) ds)))
  unfolding inner_bodies_put
  layer-inners [] within = λ l h. h
  layer-inners (d ∷ ds) within =
      keeps-then (inner_body_put same_making within (mapped_declaration sequence_put (mapped_declaration g d)))
      (λ u. inner_bodies_put same_making within (map (mapped_declaration sequence_put) (map (mapped_declaration g) ds)))
      (layer-inner d within) (λ u. layer-inners ds within)
