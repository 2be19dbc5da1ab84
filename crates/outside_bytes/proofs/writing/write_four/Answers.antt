use Rattle.std.proofs.Common.{◌++◌}
use Rattle.outside_bytes.proofs.PiecesWritten.{err-first, err-second}
use Rattle.outside_bytes.proofs.writing.write_four.Goals as goal

pub returns-in_err-write_two-clause-prefix : goal.returns-in_err-write_two-clause-prefix
returns-in_err-write_two-clause-prefix g c =
    err-first c.from_residual.result (g.K.Sink.held c.args.sink.now) (g.K.Sink.held c.write_two.new.sink) (c.args.first.now ++ c.args.second.now)
    (c.args.third.now ++ c.args.fourth.now) c.in_err-write_two.ensures.prefix

pub returns-clause-prefix : goal.returns-clause-prefix
returns-clause-prefix g c =
    err-second c.write_two-2.result (g.K.Sink.held c.args.sink.now) (g.K.Sink.held c.write_two.new.sink) (g.K.Sink.held c.write_two-2.new.sink)
    (c.args.first.now ++ c.args.second.now) (c.args.third.now ++ c.args.fourth.now) c.in_ok-write_two.ensures.written c.write_two-2.ensures.prefix
