use Rattle.outside_bytes.proofs.PiecesWritten.{err-first, err-second}
use Rattle.outside_bytes.proofs.writing.write_two.Goals as goal

pub returns-in_err-write_all-clause-prefix : goal.returns-in_err-write_all-clause-prefix
returns-in_err-write_all-clause-prefix g c =
    err-first c.from_residual.result (g.K.Sink.held c.args.sink.now)
    (g.K.Sink.held c.write_all.new.sink) c.args.first.now c.args.second.now c.in_err-write_all.ensures.prefix

pub returns-clause-prefix : goal.returns-clause-prefix
returns-clause-prefix g c =
    err-second c.write_all-2.result (g.K.Sink.held c.args.sink.now) (g.K.Sink.held c.write_all.new.sink)
    (g.K.Sink.held c.write_all-2.new.sink) c.args.first.now c.args.second.now c.in_ok-write_all.ensures.written c.write_all-2.ensures.prefix
