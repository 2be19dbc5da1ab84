-- What is said of an expression that is read, and of operands and arguments, where no rule is broken.
use Rattle.std.proofs.Common.{◌≡◌, Bool, true, false, List, [], ◌∷◌, map}
use Rattle.std.specs.Prelude.{⊤}
use Rattle.std.proofs.lemmas.Bool.{and_parts}
use Rattle.ada_tree.specs.declared.expressions.Argument.{Argument}
use Rattle.ada_legality.specs.declared.reading.Read.{Read}
use Rattle.ada_legality.specs.declared.standing.Known.{Known}
use Rattle.ada_legality.specs.Faults.{faults_in}
use Rattle.ada_legality.specs.Types.{has_type}
use Rattle.ada_legality.specs.Reading.{Reading, as_operand, call_inside, calls_function}
use Rattle.ada_legality.specs.ReadExpressions.{operand_read, arguments_read, same_reading}
use Rattle.ada_image.specs.BuiltExpressions.{Built}
use Rattle.image_laws.proofs.Images.Expressions.{argument_of}
use Rattle.image_laws.specs.Clear.{Clear, has_values, same_clear, arguments_clear}
use Rattle.image_laws.proofs.Forms.Nothing.{none-of, if-none}

-- it has a type, and is built where that is one of values and no function of the source is called
pub record ReadWell (r : Read) (is_built : Bool) : Type 0 where
  pub typed : has_type r.typed ≡ true
  pub built : has_values r.typed ≡ true → calls_function r.shape ≡ false → is_built ≡ true

pub record ReadLaw (reading : Reading) (clear : Clear) (built : Built) : Type 0 where
  pub at : (k : Known) → faults_in (reading k).1 ≡ [] → clear k ≡ true → ReadWell (reading k).0 (built k.names)

-- an operand, which calls no function of the source
pub record OperandWell (r : Read) (is_built : Bool) : Type 0 where
  pub typed : has_type r.typed ≡ true
  pub built : has_values r.typed ≡ true → is_built ≡ true

pub no-call : (r : Read) → faults_in (call_inside r) ≡ [] → calls_function r.shape ≡ false
no-call r e = if-none _ _ r.place e

pub no-call-as_operand : (r : Read) → faults_in (as_operand r) ≡ [] → calls_function r.shape ≡ false
unfolding as_operand
no-call-as_operand r e = no-call r (none-of _ _ e).0

pub well-operand : {r : Read} {is_built : Bool} → ReadWell r is_built → calls_function r.shape ≡ false → OperandWell r is_built
well-operand w e = record { typed = w.typed; built = λ v. w.built v e }

module _ {E : Type 0} (reading : E → Reading) (clear : E → Clear) (built : E → Built) (law : (e : E) → ReadLaw (reading e) (clear e) (built e)) where
  pub operand-well : (e : E) (k : Known) → faults_in (operand_read same_reading (reading e) k).1 ≡ [] → clear e k ≡ true
      → OperandWell (operand_read same_reading (reading e) k).0 (built e k.names)
  unfolding operand_read
  operand-well e k f c =
      let p = none-of _ _ f in
      well-operand ((law e).at k p.0 c) (no-call-as_operand (reading e k).0 p.1)

  -- each argument is read as an operand
  abbrev pub ArgumentsWell : List (Argument E) → Known → Type 0
  ArgumentsWell [] k = ⊤
  ArgumentsWell (a ∷ rest) k = OperandWell (reading a.value k).0 (built a.value k.names) × ArgumentsWell rest k

  pub arguments-well : (xs : List (Argument E)) (k : Known) → faults_in (arguments_read same_reading (map (argument_of reading) xs) k).1 ≡ []
      → arguments_clear same_clear (map (argument_of clear) xs) k ≡ true → ArgumentsWell xs k
  unfolding arguments_read
  arguments-well [] k f c = tt
  arguments-well (a ∷ rest) k f c =
      let parts = and_parts _ _ c in
      let p = none-of _ _ f in
      let q = none-of _ _ p.1 in
      (well-operand ((law a.value).at k p.0 parts.0) (no-call (reading a.value k).0 q.0), arguments-well rest k q.1 parts.1)
