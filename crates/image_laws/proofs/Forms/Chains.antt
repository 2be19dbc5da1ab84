-- Chains of operators of one level: where the whole is a value, each operand is built.
use Rattle.std.proofs.Common.{◌≡◌, Bool, true, List, [], ◌∷◌, map, refl}
use Rattle.std.proofs.lemmas.Bool.{and_from, and_parts}
use Rattle.ada_tree.specs.declared.operators.LogicalOperator.{LogicalOperator}
use Rattle.ada_tree.specs.declared.expressions.Operand.{Operand}
use Rattle.ada_tree.specs.declared.expressions.Addend.{Addend}
use Rattle.ada_tree.specs.declared.expressions.Multiplied.{Multiplied}
use Rattle.ada_image.specs.ImageOfExpressions.{logical_operator, multiplying_operator}
use Rattle.ada_legality.specs.declared.reading.Read.{Read}
use Rattle.ada_legality.specs.declared.standing.Known.{Known}
use Rattle.ada_legality.specs.Faults.{faults_in}
use Rattle.ada_legality.specs.Types.{has_type}
use Rattle.ada_legality.specs.Reading.{Reading, with_relation, with_term, with_factor}
use Rattle.ada_legality.specs.ReadExpressions.{operand_read, operands_read, addends_read, factors_read, same_reading}
use Rattle.ada_image.specs.BuiltExpressions.{Built, same_built, operands_built, addends_built, factors_built}
use Rattle.image_laws.proofs.Images.Expressions.{operand_of, addend_of, multiplied_of}
use Rattle.image_laws.specs.Clear.{Clear, has_values, same_clear, operands_clear, addends_clear, factors_clear}
use Rattle.image_laws.proofs.Forms.Nothing.{none-of}
use Rattle.image_laws.proofs.Forms.Operators.{operation-there, operation-values, typed-there, sum-read}
use Rattle.image_laws.proofs.Forms.Operands.{ReadLaw, operand-well}

-- a chain behind its first operand: it has a type, and where that is one of values the first operand has one too, and the others are built
pub record ChainWell (left : Read) (whole : Read) (is_built : Bool) : Type 0 where
  pub typed : has_type whole.typed ≡ true
  pub built : has_values whole.typed ≡ true → (has_values left.typed ≡ true) × (is_built ≡ true)

module _ {E : Type 0} (reading : E → Reading) (clear : E → Clear) (built : E → Built) (law : (e : E) → ReadLaw (reading e) (clear e) (built e)) where
  abbrev right : E → Known → Read
  right e k = (operand_read same_reading (reading e) k).0

  pub operands-well : (operator : LogicalOperator) (os : List (Operand E)) (left : Read) (k : Known)
      → faults_in (operands_read same_reading operator left (map (operand_of reading) os) k).1 ≡ []
      → operands_clear same_clear (map (operand_of clear) os) k ≡ true → has_type left.typed ≡ true
      → ChainWell left (operands_read same_reading operator left (map (operand_of reading) os) k).0
      (operands_built same_built (map (operand_of built) os) k.names)
  unfolding operands_read with_relation
  operands-well operator [] left k f c t = record { typed = t; built = λ v. (v, refl) }
  operands-well operator (o ∷ os) left k f c t =
      let parts = and_parts _ _ c in
      let p = none-of _ _ f in
      let q = none-of _ _ p.1 in
      let well = operand-well reading clear built law o.relation k p.0 parts.0 in
      let there = operation-there o.place (logical_operator operator) left.typed (right o.relation k).typed q.0 t well.typed in
      let rest = operands-well operator os (with_relation operator left (right o.relation k)) k q.1 parts.1 (typed-there _ there) in
      let both = operation-values (logical_operator operator) left.typed (right o.relation k).typed there in
      record { typed = rest.typed; built = λ v. (both.0, and_from _ _ (well.built both.1) (rest.built v).1) }

  pub addends-well : (xs : List (Addend E)) (left : Read) (k : Known) → faults_in (addends_read same_reading left (map (addend_of reading) xs) k).1 ≡ []
      → addends_clear same_clear (map (addend_of clear) xs) k ≡ true → has_type left.typed ≡ true
      → ChainWell left (addends_read same_reading left (map (addend_of reading) xs) k).0 (addends_built same_built (map (addend_of built) xs) k.names)
  unfolding addends_read with_term
  addends-well [] left k f c t = record { typed = t; built = λ v. (v, refl) }
  addends-well (a ∷ others) left k f c t =
      let parts = and_parts _ _ c in
      let p = none-of _ _ f in
      let q = none-of _ _ p.1 in
      let well = operand-well reading clear built law a.term k p.0 parts.0 in
      let sum = sum-read a.place a.operator left.typed (right a.term k).typed q.0 t well.typed in
      let rest = addends-well others (with_term a.operator left (right a.term k)) k q.1 parts.1 sum.0 in
      record { typed = rest.typed; built = λ v. (let l = rest.built v in let both = sum.1 l.0 in (both.0, and_from _ _ (well.built both.1) l.1)) }

  pub factors-well : (xs : List (Multiplied E)) (left : Read) (k : Known) → faults_in (factors_read same_reading left (map (multiplied_of reading) xs) k).1 ≡ []
      → factors_clear same_clear (map (multiplied_of clear) xs) k ≡ true → has_type left.typed ≡ true
      → ChainWell left (factors_read same_reading left (map (multiplied_of reading) xs) k).0 (factors_built same_built (map (multiplied_of built) xs) k.names)
  unfolding factors_read with_factor
  factors-well [] left k f c t = record { typed = t; built = λ v. (v, refl) }
  factors-well (m ∷ others) left k f c t =
      let parts = and_parts _ _ c in
      let p = none-of _ _ f in
      let q = none-of _ _ p.1 in
      let well = operand-well reading clear built law m.factor k p.0 parts.0 in
      let there = operation-there m.place (multiplying_operator m.operator) left.typed (right m.factor k).typed q.0 t well.typed in
      let rest = factors-well others (with_factor m.operator left (right m.factor k)) k q.1 parts.1 (typed-there _ there) in
      let both = operation-values (multiplying_operator m.operator) left.typed (right m.factor k).typed there in
      record { typed = rest.typed; built = λ v. (both.0, and_from _ _ (well.built both.1) (rest.built v).1) }
