use Rattle.std.proofs.Common.{[], ◌∷◌, ◌++◌}
use Rattle.outside_bytes.proofs.PiecesWritten.{err-first, err-second}
use Rattle.commands.proofs.words.write_labelled.Goals as goal

pub returns-in_err-write_all-clause-prefix : goal.returns-in_err-write_all-clause-prefix
returns-in_err-write_all-clause-prefix g c =
    err-first c.from_residual.result (g.K.Sink.held c.args.sink.now) (g.K.Sink.held c.write_all.new.sink) c.args.label.now
    (c.args.first.now ++ 32 ∷ (c.args.second.now ++ 10 ∷ [])) c.in_err-write_all.ensures.prefix

pub returns-clause-prefix : goal.returns-clause-prefix
returns-clause-prefix g c =
    err-second c.write_words.result (g.K.Sink.held c.args.sink.now) (g.K.Sink.held c.write_all.new.sink) (g.K.Sink.held c.write_words.new.sink) c.args.label.now
    (c.args.first.now ++ 32 ∷ (c.args.second.now ++ 10 ∷ [])) c.in_ok-write_all.ensures.written c.write_words.ensures.prefix
