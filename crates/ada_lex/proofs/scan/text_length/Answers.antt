use Rattle.std.proofs.Common.{arith, ne_eqb}
use Rattle.ada_lex.specs.Shapes.{text_length}
use Rattle.ada_lex.proofs.Loops.{text_doubled_at, text_closed_at, text_open_at, text_goes_at, text_out}
use Rattle.ada_lex.proofs.scan.text_length.Goals as goal
use Rattle.ada_lex.proofs.scan.text_length.Goals.{else-n-bytes-via-then-n-bytes+else-bytes-n-eq34, else-n-bytes-via-else-n-bytes}

pub loop-n-preserved-then-bytes-n-eq34 : goal.loop-n-preserved-then-bytes-n-eq34
loop-n-preserved-then-bytes-n-eq34 c =
    record {
      in_range = omega arith;
      rest =
          text_doubled_at c.args.bytes.now c.loop-n.n
          (text_length c.args.bytes.now) c.if-n-bytes.true c.if-b-eq34.true c.if-bytes-n-eq34.true c.loop-n.invariant.rest;
    }

pub returns-else-n-bytes-clause-length : goal.returns-else-n-bytes-clause-length
returns-else-n-bytes-clause-length c =
    text_closed_at c.args.bytes.now c.loop-n.n (text_length c.args.bytes.now) c.loop-n-test.true c.if-b-eq34.true
    (λ lt is.
    elim c.else-n-bytes.branch [
      | else-n-bytes-via-then-n-bytes+else-bytes-n-eq34 w ↦ w.if-bytes-n-eq34.false is
      | else-n-bytes-via-else-n-bytes w ↦ omega (arith, w.if-n-bytes.false)
    ])
    c.loop-n.invariant.rest

pub returns-then-b-eq10-clause-length : goal.returns-then-b-eq10-clause-length
returns-then-b-eq10-clause-length c = text_open_at c.args.bytes.now c.loop-n.n (text_length c.args.bytes.now) c.if-b-eq10.true c.loop-n.invariant.rest

pub loop-n-preserved : goal.loop-n-preserved
loop-n-preserved c =
    record {
      in_range = omega arith;
      rest =
          text_goes_at c.args.bytes.now c.loop-n.n (text_length c.args.bytes.now) c.loop-n-test.true (ne_eqb _ _ c.if-b-eq34.false)
          (ne_eqb _ _ c.if-b-eq10.false) c.loop-n.invariant.rest;
    }

pub returns-clause-length : goal.returns-clause-length
returns-clause-length c = text_out c.args.bytes.now c.loop-n.n (text_length c.args.bytes.now) c.loop-n-test.false c.loop-n.invariant.rest
