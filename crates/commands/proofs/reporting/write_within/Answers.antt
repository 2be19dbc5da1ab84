use Rattle.std.proofs.Common.{◌∙◌, subst, [], ◌∷◌, ◌++◌, OnErr, codes}
use Rattle.outside_bytes.specs.Pieces.{HoldsPrefix}
use Rattle.sched_tests.specs.Reports.{busy_text}
use Rattle.outside_bytes.proofs.PiecesWritten.{err-first, err-second}
use Rattle.commands.proofs.WordTexts.{within_text}
use Rattle.commands.proofs.reporting.write_within.Goals as goal

pub returns-in_err-write_words-clause-prefix : goal.returns-in_err-write_words-clause-prefix
returns-in_err-write_words-clause-prefix g c =
    let line = codes "busy " ++ (busy_text c.args.busy ++ 10 ∷ []) in
    subst (λ text. OnErr c.from_residual.result (HoldsPrefix (g.K.Sink.held c.args.out.now) (g.K.Sink.held c.write_words.new.sink) text))
    (within_text c.as_bytes.result.now line (c.as_bytes.ensures.value ∙ c.format.ensures.text))
    (err-first c.from_residual.result (g.K.Sink.held c.args.out.now) (g.K.Sink.held c.write_words.new.sink)
    (codes "within" ++ 32 ∷ (c.as_bytes.result.now ++ 10 ∷ [])) line c.in_err-write_words.ensures.prefix)

pub returns-clause-prefix : goal.returns-clause-prefix
returns-clause-prefix g c =
    let line = codes "busy " ++ (busy_text c.args.busy ++ 10 ∷ []) in
    subst (λ text. OnErr c.write_busy.result (HoldsPrefix (g.K.Sink.held c.args.out.now) (g.K.Sink.held c.write_busy.new.out) text))
    (within_text c.as_bytes.result.now line (c.as_bytes.ensures.value ∙ c.format.ensures.text))
    (err-second c.write_busy.result (g.K.Sink.held c.args.out.now) (g.K.Sink.held c.write_words.new.sink) (g.K.Sink.held c.write_busy.new.out)
    (codes "within" ++ 32 ∷ (c.as_bytes.result.now ++ 10 ∷ [])) line c.in_ok-write_words.ensures.written c.write_busy.ensures.prefix)
