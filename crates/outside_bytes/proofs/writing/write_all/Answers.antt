use Rattle.std.proofs.Common.{arith}
use Rattle.outside_bytes.proofs.PiecesWritten.{one_more_piece}
use Rattle.outside_bytes.proofs.writing.write_all.Goals as goal

pub loop-rest-preserved : goal.loop-rest-preserved
loop-rest-preserved g c = record {
  written =
      one_more_piece (g.K.Sink.held c.args.sink.now) (g.K.Sink.held c.loop-rest.sink)
      (g.K.Sink.held c.write.new.self) c.args.piece.now c.loop-rest.invariant.written.0 c.loop-rest.rest.now c.tail-rest.result.now c.in_ok-count.count
      c.loop-rest.invariant.written.1 c.loop-rest.invariant.written.2 c.in_ok-count.ensures.ok c.tail-rest.ensures.rest;
  monotone = omega (arith, c.in_ok-count.ensures.monotone, c.loop-rest.invariant.monotone);
}
