use Rattle.std.proofs.Common.{◌≡◌, ◌+◌, ◌∙◌, ℕ, arith, ne_eqb, eq-eqb, subst, sym, drop}
use Rattle.ada_lex.specs.Shapes.{value_behind, value_of}
use Rattle.ada_lex.proofs.Loops.{digit_more, digit_grows, underscore_more, digits_done}
use Rattle.ada_lex.proofs.scan.value_of.Goals as goal
use Rattle.ada_lex.proofs.scan.value_of.Goals.{then-digit-ne95+in-Some, else-digit-ne95}

pub returns-in-None : goal.returns-in-None
returns-in-None c =
    λ small. c.in-None.ensures
    (omega (
      arith,
      small,
      digit_grows c.args.digits.now c.loop-digit.digit-index c.loop-digit.value (value_of c.args.digits.now) c.loop-digit-test.true
          (ne_eqb _ _ c.if-digit-ne95.true) c.loop-digit.invariant.rest,
    ))

pub loop-digit-preserved : goal.loop-digit-preserved
loop-digit-preserved c =
    elim c.if-digit-ne95.branch [
      | then-digit-ne95+in-Some w ↦
          record {
            small = omega (arith, w.in-Some.ensures.0, w.in-Some.ensures.1, w.value-is);
            rest =
                subst (λ (v : ℕ). value_behind (drop (c.loop-digit.digit-index + 1) c.args.digits.now) v ≡ value_of c.args.digits.now)
                (sym w.in-Some.ensures.1 ∙ sym w.value-is)
                (digit_more c.args.digits.now c.loop-digit.digit-index c.loop-digit.value (value_of c.args.digits.now) c.loop-digit-test.true
                (ne_eqb _ _ w.if-digit-ne95.true) c.loop-digit.invariant.rest);
          }
      | else-digit-ne95 w ↦
          record {
            small = omega (arith, c.loop-digit.invariant.small, w.value-is);
            rest =
                subst (λ (v : ℕ). value_behind (drop (c.loop-digit.digit-index + 1) c.args.digits.now) v ≡ value_of c.args.digits.now) (sym w.value-is)
                (underscore_more c.args.digits.now c.loop-digit.digit-index c.loop-digit.value (value_of c.args.digits.now) c.loop-digit-test.true
                (eq-eqb _ _ w.if-digit-ne95.false) c.loop-digit.invariant.rest);
          }
    ]

pub returns : goal.returns
returns c =
    let whole : c.loop-digit.value ≡ value_of c.args.digits.now =
    digits_done c.args.digits.now c.loop-digit.digit-index c.loop-digit.value
    (value_of c.args.digits.now) c.loop-digit-test.false c.loop-digit.invariant.rest in
    (omega (arith, c.loop-digit.invariant.small, whole), whole)
