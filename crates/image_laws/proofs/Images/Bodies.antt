-- The scopes of bodies among declarations read as the text of the bodies.
use Rattle.std.proofs.Common.{◌≡◌, ℕ, Bool, true, false, List, [], ◌∷◌, map, Option, Some, None, refl, ap, ◌∙◌}
use Rattle.std.proofs.lemmas.Bool.{and_from, and_parts}
use Rattle.ann_base.specs.declared.places.Place.{Place}
use Rattle.ada_tree.specs.declared.declarations.Declaration.{Declaration}
use Rattle.ada_tree.specs.declared.declarations.Declaration.TheVariants as declaration
use Rattle.ada_tree.specs.declared.declarations.OperationBody.{OperationBody}
use Rattle.ada_tree.specs.declared.declarations.OperationBody.TheVariants as body_of
use Rattle.ada_tree.specs.declared.statements.Sequence.{Sequence}
use Rattle.profile_image.specs.declared.image.Image.{Image}
use Rattle.profile_image.specs.declared.numbers.SubprogramNo.{SubprogramNo}
use Rattle.ada_regions.specs.Names.{entity_denoted}
use Rattle.ada_image.specs.declared.making.Within.{Within}
use Rattle.ada_image.specs.declared.making.SequencePlace.TheVariants as sequence_place
use Rattle.ada_image.specs.Making.{first_put, in_body_of, in_unit}
use Rattle.ada_image.specs.ImageOfStatements.{SequenceMaking, scope_at}
use Rattle.ada_image.specs.ImageOfDeclarations.{same_making, sequence_put, subprogram_declared_as, body_put}
use Rattle.ada_image.specs.ImageOfDeclarations.{operation_body_put, operation_bodies_put, inner_body_put, inner_bodies_put}
use Rattle.ada_image.specs.NothingLost.{SequenceReading, same_sequence_reading, sequence_reads}
use Rattle.ada_image.specs.NothingLost.{body_reads, operations_read, inner_body_reads, inner_bodies_read}
use Rattle.ada_image.specs.BuiltExpressions.{Built}
use Rattle.ada_image.specs.BuiltSequences.{operations_built, declaration_built, declarations_built, same_sequence_built, sequence_built}
use Rattle.image_laws.proofs.Images.Steps.{Step, step-pure, step-so, step-then, first-step}
use Rattle.image_laws.proofs.Images.Layers.{mapped_operation, mapped_declaration, SequenceLaw}

-- a unit around changes no name
pub unit-names : (e : Option ℕ) (within : Within) → (in_unit e within).names ≡ within.names
unit-names None within = refl
unit-names (Some e) within = refl

in-unit : (built : Built) (e : Option ℕ) (within : Within) → built within.names ≡ true → built (in_unit e within).names ≡ true
in-unit built e within b = ap built (unit-names e within) ∙ b

-- ---- bodies of which each obeys the law

module _ {Q : Type 0} (make : Q → SequenceMaking) (read : Image → Q → SequenceReading) (built : Q → Built)
    (law : (q : Q) → SequenceLaw (make q) (λ p. read p q) (built q)) where
  pub body-step : (place : Place) (function : Option SubprogramNo) (is_task_body : Bool) (q : Q) (within : Within) → built q within.names ≡ true
      → Step (body_put make within place function is_task_body q) (λ p u. body_reads p (read p) within place function is_task_body q ≡ true)
  unfolding body_put
  body-step place function is_task_body q within b =
      let scope = scope_at within.names place in
      step-then (make q (sequence_place.AsBody is_task_body) (in_body_of scope function within) None) (λ first. first_put scope first)
      ((law q).reads (sequence_place.AsBody is_task_body) (in_body_of scope function within) None refl b)
      (λ first. step-so (λ p u h k. ap (λ y. read p q (sequence_place.AsBody is_task_body) (in_body_of scope function within) y None) h ∙ k.1)
      (first-step scope first))

  -- ---- those of a library package

  operations-step : (os : List (OperationBody Q)) (within : Within) → operations_built built os within.names ≡ true
      → Step (operation_bodies_put make within os) (λ p u. operations_read p (read p) within os ≡ true)
  unfolding operation_bodies_put operation_body_put
  operations-step [] within b = step-pure tt _ (λ p. refl)
  operations-step (body_of.Subprogram s body ∷ os) within b =
      let parts = and_parts _ _ b in
      step-then (body_put make within s.place (subprogram_declared_as within s.name) false body.sequence) (λ u. operation_bodies_put make within os)
      (body-step s.place (subprogram_declared_as within s.name) false body.sequence within parts.0)
      (λ u. step-so (λ p x h k. and_from _ _ k h) (operations-step os within parts.1))
  operations-step (body_of.Entry head body ∷ os) within b =
      let parts = and_parts _ _ b in
      step-then (body_put make within head.place None false body.sequence) (λ u. operation_bodies_put make within os)
      (body-step head.place None false body.sequence within parts.0) (λ u. step-so (λ p x h k. and_from _ _ k h) (operations-step os within parts.1))

  inner-step : (d : Declaration Q) (within : Within) → declaration_built built d within.names ≡ true
      → Step (inner_body_put make within d) (λ p u. inner_body_reads p (read p) within d ≡ true)
  unfolding inner_body_put
  inner-step (declaration.Object o) within b = step-pure tt _ (λ p. refl)
  inner-step (declaration.Type t) within b = step-pure tt _ (λ p. refl)
  inner-step (declaration.Subtype s) within b = step-pure tt _ (λ p. refl)
  inner-step (declaration.Exception names) within b = step-pure tt _ (λ p. refl)
  inner-step (declaration.Subprogram s) within b = step-pure tt _ (λ p. refl)
  inner-step (declaration.SubprogramBody s body) within b = body-step s.place (subprogram_declared_as within s.name) false body.sequence within b
  inner-step (declaration.Task t) within b = step-pure tt _ (λ p. refl)
  inner-step (declaration.TaskBody place name body) within b =
      body-step place None true body.sequence (in_unit (entity_denoted within.names name.place) within)
      (in-unit (built body.sequence) (entity_denoted within.names name.place) within b)
  inner-step (declaration.Protected x) within b = step-pure tt _ (λ p. refl)
  inner-step (declaration.ProtectedBody x) within b =
      operations-step x.operations (in_unit (entity_denoted within.names x.name.place) within)
      (in-unit (operations_built built x.operations) (entity_denoted within.names x.name.place) within b)
  inner-step (declaration.Use place name) within b = step-pure tt _ (λ p. refl)

  pub inners-step : (ds : List (Declaration Q)) (within : Within) → declarations_built built ds within.names ≡ true
      → Step (inner_bodies_put make within ds) (λ p u. inner_bodies_read p (read p) within ds ≡ true)
  unfolding inner_bodies_put
  inners-step [] within b = step-pure tt _ (λ p. refl)
  inners-step (d ∷ ds) within b =
      let parts = and_parts _ _ b in
      step-then (inner_body_put make within d) (λ u. inner_bodies_put make within ds) (inner-step d within parts.0)
      (λ u. step-so (λ p x h k. and_from _ _ k h) (inners-step ds within parts.1))

-- ---- those of a layer, whose sequences are those that g gives

module _ {E : Type 0} (g : E → Sequence) (law : (e : E) → SequenceLaw (sequence_put (g e)) (λ p. sequence_reads p (g e)) (sequence_built (g e))) where
  layer-body : (place : Place) (function : Option SubprogramNo) (is_task_body : Bool) (e : E) (within : Within) → sequence_built (g e) within.names ≡ true
      → Step (body_put same_making within place function is_task_body (sequence_put (g e)))
      (λ p u. body_reads p same_sequence_reading within place function is_task_body (sequence_reads p (g e)) ≡ true)
  unfolding body_put
  layer-body place function is_task_body e within b =
      body-step (λ e. sequence_put (g e)) (λ p e. sequence_reads p (g e)) (λ e. sequence_built (g e)) law place function is_task_body e within b

  layer-operations : (os : List (OperationBody E)) (within : Within)
      → operations_built same_sequence_built (map (mapped_operation sequence_built) (map (mapped_operation g) os)) within.names ≡ true
      → Step (operation_bodies_put same_making within (map (mapped_operation sequence_put) (map (mapped_operation g) os)))
      (λ p u. operations_read p same_sequence_reading within (map (mapped_operation (sequence_reads p)) (map (mapped_operation g) os)) ≡ true)
  unfolding operation_bodies_put operation_body_put
  layer-operations [] within b = step-pure tt _ (λ p. refl)
  layer-operations (body_of.Subprogram s body ∷ os) within b =
      let parts = and_parts _ _ b in
      step-then (body_put same_making within s.place (subprogram_declared_as within s.name) false (sequence_put (g body.sequence)))
      (λ u. operation_bodies_put same_making within (map (mapped_operation sequence_put) (map (mapped_operation g) os)))
      (layer-body s.place (subprogram_declared_as within s.name) false body.sequence within parts.0)
      (λ u. step-so (λ p x h k. and_from _ _ k h) (layer-operations os within parts.1))
  layer-operations (body_of.Entry head body ∷ os) within b =
      let parts = and_parts _ _ b in
      step-then (body_put same_making within head.place None false (sequence_put (g body.sequence)))
      (λ u. operation_bodies_put same_making within (map (mapped_operation sequence_put) (map (mapped_operation g) os)))
      (layer-body head.place None false body.sequence within parts.0) (λ u. step-so (λ p x h k. and_from _ _ k h) (layer-operations os within parts.1))

  layer-inner : (d : Declaration E) (within : Within)
      → declaration_built same_sequence_built (mapped_declaration sequence_built (mapped_declaration g d)) within.names ≡ true
      → Step (inner_body_put same_making within (mapped_declaration sequence_put (mapped_declaration g d)))
      (λ p u. inner_body_reads p same_sequence_reading within (mapped_declaration (sequence_reads p) (mapped_declaration g d)) ≡ true)
  unfolding inner_body_put
  layer-inner (declaration.Object o) within b = step-pure tt _ (λ p. refl)
  layer-inner (declaration.Type t) within b = step-pure tt _ (λ p. refl)
  layer-inner (declaration.Subtype s) within b = step-pure tt _ (λ p. refl)
  layer-inner (declaration.Exception names) within b = step-pure tt _ (λ p. refl)
  layer-inner (declaration.Subprogram s) within b = step-pure tt _ (λ p. refl)
  layer-inner (declaration.SubprogramBody s body) within b = layer-body s.place (subprogram_declared_as within s.name) false body.sequence within b
  layer-inner (declaration.Task t) within b = step-pure tt _ (λ p. refl)
  layer-inner (declaration.TaskBody place name body) within b =
      layer-body place None true body.sequence (in_unit (entity_denoted within.names name.place) within)
      (in-unit (sequence_built (g body.sequence)) (entity_denoted within.names name.place) within b)
  layer-inner (declaration.Protected x) within b = step-pure tt _ (λ p. refl)
  layer-inner (declaration.ProtectedBody x) within b =
      layer-operations x.operations (in_unit (entity_denoted within.names x.name.place) within)
      (in-unit (operations_built same_sequence_built (map (mapped_operation sequence_built) (map (mapped_operation g) x.operations)))
      (entity_denoted within.names x.name.place) within b)
  layer-inner (declaration.Use place name) within b = step-pure tt _ (λ p. refl)

  pub layer-inners : (ds : List (Declaration E)) (within : Within)
      → declarations_built same_sequence_built (map (mapped_declaration sequence_built) (map (mapped_declaration g) ds)) within.names ≡ true
      → Step (inner_bodies_put same_making within (map (mapped_declaration sequence_put) (map (mapped_declaration g) ds)))
      (λ p u. inner_bodies_read p same_sequence_reading within (map (mapped_declaration (sequence_reads p)) (map (mapped_declaration g) ds)) ≡ true)
  unfolding inner_bodies_put
  layer-inners [] within b = step-pure tt _ (λ p. refl)
  layer-inners (d ∷ ds) within b =
      let parts = and_parts _ _ b in
      step-then (inner_body_put same_making within (mapped_declaration sequence_put (mapped_declaration g d)))
      (λ u. inner_bodies_put same_making within (map (mapped_declaration sequence_put) (map (mapped_declaration g) ds)))
      (layer-inner d within parts.0) (λ u. step-so (λ p x h k. and_from _ _ k h) (layer-inners ds within parts.1))
