-- Bodies among declarations have as many actions as their texts.
use Rattle.std.proofs.Common.{ℕ, Bool, true, false, List, [], ◌∷◌, map, Option, None, subst}
use Rattle.ann_base.specs.declared.places.Place.{Place}
use Rattle.ada_tree.specs.declared.declarations.Declaration.{Declaration}
use Rattle.ada_tree.specs.declared.declarations.Declaration.TheVariants as declaration
use Rattle.ada_tree.specs.declared.declarations.OperationBody.{OperationBody}
use Rattle.ada_tree.specs.declared.declarations.OperationBody.TheVariants as body_of
use Rattle.ada_tree.specs.declared.statements.Sequence.{Sequence}
use Rattle.profile_image.specs.declared.numbers.SubprogramNo.{SubprogramNo}
use Rattle.ada_regions.specs.Names.{entity_denoted}
use Rattle.ada_regions.specs.declared.table.Names.{Names}
use Rattle.ada_image.specs.declared.making.Within.{Within}
use Rattle.ada_image.specs.declared.making.SequencePlace.TheVariants as sequence_place
use Rattle.ada_image.specs.Making.{Making, first_put, in_body_of, in_unit}
use Rattle.ada_image.specs.ImageOfStatements.{SequenceMaking, scope_at}
use Rattle.ada_image.specs.ImageOfDeclarations.{same_making, sequence_put, subprogram_declared_as, body_put}
use Rattle.ada_image.specs.ImageOfDeclarations.{operation_body_put, operation_bodies_put, inner_body_put, inner_bodies_put}
use Rattle.image_laws.specs.ActionsOfText.{Actions, operations_actions, body_actions, bodies_actions, same_actions, sequence_actions}
use Rattle.image_laws.proofs.Images.Layers.{mapped_operation, mapped_declaration}
use Rattle.image_laws.proofs.Images.Bodies.{unit-names}
use Rattle.image_laws.proofs.Images.Counting.{Counts, CountsLaw, counts-pure, counts-then, counts-ended, counts-first}

-- a unit around changes no number
in-unit : {X : Type 0} (m : Making X) (actions : Names → ℕ) (e : Option ℕ) (within : Within) → Counts m (actions (in_unit e within).names)
    → Counts m (actions within.names)
in-unit m actions e within h = subst (λ n. Counts m (actions n)) (unit-names e within) h

module _ {Q : Type 0} (make : Q → SequenceMaking) (actions : Q → Actions) (law : (q : Q) → CountsLaw (make q) (actions q)) where
  pub body-counts : (place : Place) (function : Option SubprogramNo) (is_task_body : Bool) (q : Q) (within : Within)
      → Counts (body_put make within place function is_task_body q) (actions q (sequence_place.AsBody is_task_body) within.names)
  unfolding body_put
  body-counts place function is_task_body q within =
      let scope = scope_at within.names place in
      counts-ended (make q (sequence_place.AsBody is_task_body) (in_body_of scope function within) None) (λ first. first_put scope first)
      (actions q (sequence_place.AsBody is_task_body) within.names)
      ((law q).counts (sequence_place.AsBody is_task_body) (in_body_of scope function within) None) (λ first. counts-first scope first)

  -- ---- those of a library package

  operations-count : (os : List (OperationBody Q)) (within : Within) → Counts (operation_bodies_put make within os) (operations_actions actions os within.names)
  unfolding operation_bodies_put operation_body_put
  operations-count [] within = counts-pure _
  operations-count (body_of.Subprogram s body ∷ os) within =
      counts-then (body_put make within s.place (subprogram_declared_as within s.name) false body.sequence) (λ u. operation_bodies_put make within os)
      (actions body.sequence (sequence_place.AsBody false) within.names) (operations_actions actions os within.names)
      (body-counts s.place (subprogram_declared_as within s.name) false body.sequence within) (λ u. operations-count os within)
  operations-count (body_of.Entry head body ∷ os) within =
      counts-then (body_put make within head.place None false body.sequence) (λ u. operation_bodies_put make within os)
      (actions body.sequence (sequence_place.AsBody false) within.names) (operations_actions actions os within.names)
      (body-counts head.place None false body.sequence within) (λ u. operations-count os within)

  inner-counts : (d : Declaration Q) (within : Within) → Counts (inner_body_put make within d) (body_actions actions d within.names)
  unfolding inner_body_put
  inner-counts (declaration.Object o) within = counts-pure _
  inner-counts (declaration.Type t) within = counts-pure _
  inner-counts (declaration.Subtype s) within = counts-pure _
  inner-counts (declaration.Exception names) within = counts-pure _
  inner-counts (declaration.Subprogram s) within = counts-pure _
  inner-counts (declaration.SubprogramBody s body) within = body-counts s.place (subprogram_declared_as within s.name) false body.sequence within
  inner-counts (declaration.Task t) within = counts-pure _
  inner-counts (declaration.TaskBody place name body) within =
      in-unit (body_put make (in_unit (entity_denoted within.names name.place) within) place None true body.sequence)
      (actions body.sequence (sequence_place.AsBody true)) (entity_denoted within.names name.place) within
      (body-counts place None true body.sequence (in_unit (entity_denoted within.names name.place) within))
  inner-counts (declaration.Protected x) within = counts-pure _
  inner-counts (declaration.ProtectedBody x) within =
      in-unit (operation_bodies_put make (in_unit (entity_denoted within.names x.name.place) within) x.operations) (operations_actions actions x.operations)
      (entity_denoted within.names x.name.place) within
      (operations-count x.operations (in_unit (entity_denoted within.names x.name.place) within))
  inner-counts (declaration.Use place name) within = counts-pure _

  pub inners-count : (ds : List (Declaration Q)) (within : Within) → Counts (inner_bodies_put make within ds) (bodies_actions actions ds within.names)
  unfolding inner_bodies_put
  inners-count [] within = counts-pure _
  inners-count (d ∷ ds) within =
      counts-then (inner_body_put make within d) (λ u. inner_bodies_put make within ds) (body_actions actions d within.names)
      (bodies_actions actions ds within.names) (inner-counts d within) (λ u. inners-count ds within)

-- ---- those of a layer, whose sequences are those that g gives

module _ {E : Type 0} (g : E → Sequence) (law : (e : E) → CountsLaw (sequence_put (g e)) (sequence_actions (g e))) where
  layer-body : (place : Place) (function : Option SubprogramNo) (is_task_body : Bool) (e : E) (within : Within)
      → Counts (body_put same_making within place function is_task_body (sequence_put (g e)))
      (sequence_actions (g e) (sequence_place.AsBody is_task_body) within.names)
  unfolding body_put
  layer-body place function is_task_body e within = body-counts (λ e. sequence_put (g e)) (λ e. sequence_actions (g e)) law place function is_task_body e within

  abbrev operations_made : List (OperationBody E) → List (OperationBody SequenceMaking)
  operations_made os = map (mapped_operation sequence_put) (map (mapped_operation g) os)

  abbrev operations_opened : List (OperationBody E) → Names → ℕ
  operations_opened os n = operations_actions same_actions (map (mapped_operation sequence_actions) (map (mapped_operation g) os)) n

  layer-operations : (os : List (OperationBody E)) (within : Within)
      → Counts (operation_bodies_put same_making within (operations_made os)) (operations_opened os within.names)
  unfolding operation_bodies_put operation_body_put
  layer-operations [] within = counts-pure _
  layer-operations (body_of.Subprogram s body ∷ os) within =
      counts-then (body_put same_making within s.place (subprogram_declared_as within s.name) false (sequence_put (g body.sequence)))
      (λ u. operation_bodies_put same_making within (operations_made os))
      (sequence_actions (g body.sequence) (sequence_place.AsBody false) within.names) (operations_opened os within.names)
      (layer-body s.place (subprogram_declared_as within s.name) false body.sequence within) (λ u. layer-operations os within)
  layer-operations (body_of.Entry head body ∷ os) within =
      counts-then (body_put same_making within head.place None false (sequence_put (g body.sequence)))
      (λ u. operation_bodies_put same_making within (operations_made os))
      (sequence_actions (g body.sequence) (sequence_place.AsBody false) within.names) (operations_opened os within.names)
      (layer-body head.place None false body.sequence within) (λ u. layer-operations os within)

  layer-inner : (d : Declaration E) (within : Within)
      → Counts (inner_body_put same_making within (mapped_declaration sequence_put (mapped_declaration g d)))
      (body_actions same_actions (mapped_declaration sequence_actions (mapped_declaration g d)) within.names)
  unfolding inner_body_put
  layer-inner (declaration.Object o) within = counts-pure _
  layer-inner (declaration.Type t) within = counts-pure _
  layer-inner (declaration.Subtype s) within = counts-pure _
  layer-inner (declaration.Exception names) within = counts-pure _
  layer-inner (declaration.Subprogram s) within = counts-pure _
  layer-inner (declaration.SubprogramBody s body) within = layer-body s.place (subprogram_declared_as within s.name) false body.sequence within
  layer-inner (declaration.Task t) within = counts-pure _
  layer-inner (declaration.TaskBody place name body) within =
      in-unit (body_put same_making (in_unit (entity_denoted within.names name.place) within) place None true (sequence_put (g body.sequence)))
      (sequence_actions (g body.sequence) (sequence_place.AsBody true))
      (entity_denoted within.names name.place) within (layer-body place None true body.sequence (in_unit (entity_denoted within.names name.place) within))
  layer-inner (declaration.Protected x) within = counts-pure _
  layer-inner (declaration.ProtectedBody x) within =
      in-unit (operation_bodies_put same_making (in_unit (entity_denoted within.names x.name.place) within) (operations_made x.operations))
      (operations_opened x.operations) (entity_denoted within.names x.name.place) within
      (layer-operations x.operations (in_unit (entity_denoted within.names x.name.place) within))
  layer-inner (declaration.Use place name) within = counts-pure _

  pub layer-inners : (ds : List (Declaration E)) (within : Within)
      → Counts (inner_bodies_put same_making within (map (mapped_declaration sequence_put) (map (mapped_declaration g) ds)))
      (bodies_actions same_actions (map (mapped_declaration sequence_actions) (map (mapped_declaration g) ds)) within.names)
  unfolding inner_bodies_put
  layer-inners [] within = counts-pure _
  layer-inners (d ∷ ds) within =
      counts-then (inner_body_put same_making within (mapped_declaration sequence_put (mapped_declaration g d)))
      (λ u. inner_bodies_put same_making within (map (mapped_declaration sequence_put) (map (mapped_declaration g) ds)))
      (body_actions same_actions (mapped_declaration sequence_actions (mapped_declaration g d)) within.names)
      (bodies_actions same_actions (map (mapped_declaration sequence_actions) (map (mapped_declaration g) ds)) within.names)
      (layer-inner d within) (λ u. layer-inners ds within)
