use Rattle.std.proofs.Common.{arith}
use Rattle.commands.proofs.ResponseLines.{one_more_response, cut_response, one_more_missed, all_written, all_missed}
use Rattle.commands.proofs.reporting.write_responses.Goals as goal

pub returns-in_err-write_duty-clause-prefix : goal.returns-in_err-write_duty-clause-prefix
returns-in_err-write_duty-clause-prefix g c =
    cut_response c.from_residual.result (g.K.Sink.held c.args.out.now) (g.K.Sink.held c.loop-place.out)
    (g.K.Sink.held c.write_duty.new.out) c.args.table.now c.loop-place.place c.response-time.result
    (omega arith) c.response-time.ensures.same c.loop-place.invariant.text c.in_err-write_duty.ensures.prefix

pub loop-place-preserved : goal.loop-place-preserved
loop-place-preserved g c = record {
  text =
      one_more_response (g.K.Sink.held c.args.out.now) (g.K.Sink.held c.loop-place.out)
      (g.K.Sink.held c.write_duty.new.out) c.args.table.now c.loop-place.place c.response-time.result
      (omega arith) c.response-time.ensures.same c.loop-place.invariant.text c.in_ok-write_duty.ensures.written;
  missed =
      one_more_missed c.args.table.now c.loop-place.place c.response-time.result c.loop-place.missed c.or_misses-missed.result
      (omega arith) c.response-time.ensures.same c.or_misses-missed.ensures c.loop-place.invariant.missed;
  monotone = omega (arith, c.in_ok-write_duty.ensures.monotone, c.loop-place.invariant.monotone);
}

pub returns-clause-written : goal.returns-clause-written
returns-clause-written g c =
    all_written (g.K.Sink.held c.args.out.now) (g.K.Sink.held c.loop-place.out) c.args.table.now c.loop-place.place (omega arith) c.loop-place.invariant.text

pub returns-clause-missed : goal.returns-clause-missed
returns-clause-missed g c = all_missed c.args.table.now c.loop-place.place c.loop-place.missed (omega arith) c.loop-place.invariant.missed
