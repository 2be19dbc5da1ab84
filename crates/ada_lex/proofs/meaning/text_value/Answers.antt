use Rattle.std.proofs.Common.{arith, eq-eqb, ne_eqb, drop}
use Rattle.ada_lex.specs.Meaning.{undoubled}
use Rattle.ada_lex.proofs.Loops.{undoubled_mark_at, undoubled_other_at, undoubled_all}
use Rattle.ada_lex.proofs.meaning.text_value.Goals as goal

pub loop-n-preserved-then-b-eq34 : goal.loop-n-preserved-then-b-eq34
loop-n-preserved-then-b-eq34 c =
    record {
      some = omega arith;
      small = omega (arith, c.loop-n-test.true);
      rest =
          rw c.in_ok-push.ensures.items
          (undoubled_mark_at c.args.text.now c.loop-n.n c.loop-n.value.items (undoubled (drop 1 c.args.text.now)) c.loop-n-test.true
          (eq-eqb _ _ c.if-b-eq34.true) c.loop-n.invariant.rest);
    }

pub loop-n-preserved : goal.loop-n-preserved
loop-n-preserved c =
    record {
      some = omega arith;
      small = omega (arith, c.loop-n-test.true);
      rest =
          rw c.in_ok-push.ensures.items
          (undoubled_other_at c.args.text.now c.loop-n.n c.loop-n.value.items (undoubled (drop 1 c.args.text.now)) c.loop-n-test.true
          (ne_eqb _ _ c.if-b-eq34.false) c.loop-n.invariant.rest);
    }

pub returns : goal.returns
returns c = undoubled_all c.args.text.now c.loop-n.n c.loop-n.value.items (undoubled (drop 1 c.args.text.now)) c.loop-n-test.false c.loop-n.invariant.rest
