use Rattle.std.proofs.Common.{◌∙◌, sym, ap, arith}
use Rattle.ada_lex.specs.Shapes.{goes_on, run_length}
use Rattle.ada_lex.proofs.Loops.{run_more, run_done, run_all}
use Rattle.ada_lex.proofs.scan.run_length.Goals as goal

pub loop-n-preserved : goal.loop-n-preserved
loop-n-preserved c =
    record {
      in_range = omega arith;
      rest =
          run_more c.args.run c.args.bytes.now c.loop-n.n (run_length c.args.run c.args.bytes.now) c.loop-n-test.true
          (ap (goes_on c.args.run) (sym c.tail.ensures) ∙ sym c.goes_on.ensures ∙ c.if-goes_on.true) c.loop-n.invariant.rest;
    }

pub returns-else-goes_on-clause-length : goal.returns-else-goes_on-clause-length
returns-else-goes_on-clause-length c =
    run_done c.args.run c.args.bytes.now c.loop-n.n (run_length c.args.run c.args.bytes.now)
    (ap (goes_on c.args.run) (sym c.tail.ensures) ∙ sym c.goes_on.ensures ∙ c.if-goes_on.false) c.loop-n.invariant.rest

pub returns-after-loop-n-clause-length : goal.returns-after-loop-n-clause-length
returns-after-loop-n-clause-length c =
    run_all c.args.run c.args.bytes.now c.loop-n.n (run_length c.args.run c.args.bytes.now) c.loop-n-test.false c.loop-n.invariant.rest
