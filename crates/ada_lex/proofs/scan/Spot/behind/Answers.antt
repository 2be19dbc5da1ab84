use Rattle.std.proofs.Common.{arith, ◌≡◌, ◌+◌, drop, subst, sym}
use Rattle.ada_lex.specs.declared.scan.Spot.{Spot}
use Rattle.ada_lex.specs.Reading.{behind_all}
use Rattle.ada_lex.proofs.Loops.{behind_more, behind_done}
use Rattle.ada_lex.proofs.scan.Spot.behind.Goals as goal

pub loop-b-preserved : goal.loop-b-preserved
loop-b-preserved c =
    record {
      offset = omega (arith, c.behind_byte-spot.ensures.offset, c.loop-b.invariant.offset);
      line = c.behind_byte-spot.ensures.line;
      column = c.behind_byte-spot.ensures.column;
      rest =
          subst (λ (s : Spot). behind_all (drop (c.loop-b.b-index + 1) c.args.bytes.now) s ≡ behind_all c.args.bytes.now c.args.self)
          (sym c.behind_byte-spot.ensures.spot)
          (behind_more c.args.bytes.now c.loop-b.b-index c.loop-b.spot (behind_all c.args.bytes.now c.args.self) c.loop-b-test.true c.loop-b.invariant.rest);
    }

pub returns-clause-spot : goal.returns-clause-spot
returns-clause-spot c =
    behind_done c.args.bytes.now c.loop-b.b-index c.loop-b.spot (behind_all c.args.bytes.now c.args.self) c.loop-b-test.false c.loop-b.invariant.rest
