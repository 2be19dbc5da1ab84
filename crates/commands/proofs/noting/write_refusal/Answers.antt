use Rattle.std.proofs.Common.{◌∙◌, ap, subst, refl, OnOk, OnErr, ◌≡◌, decimal}
use Rattle.ann_base.specs.Outside.{extended}
use Rattle.ada_verdicts.specs.Refusals.{letter_of, number_of}
use Rattle.outside_bytes.specs.Pieces.{HoldsPrefix}
use Rattle.outside_bytes.proofs.PiecesWritten.{err-first, err-second, ok-second}
use Rattle.commands.proofs.NoteTexts.{first_half, second_half, refusal-by}
use Rattle.commands.proofs.noting.write_refusal.Goals as goal

pub returns-in_err-write_four-clause-prefix : goal.returns-in_err-write_four-clause-prefix
returns-in_err-write_four-clause-prefix g c =
    subst (λ text. OnErr c.from_residual.result (HoldsPrefix (g.K.Sink.held c.args.notes.now) (g.K.Sink.held c.write_four.new.sink) text))
    (refusal-by c.args.refusal c.as_bytes-line.result.now c.as_bytes-column.result.now (letter_of c.args.refusal.code) (decimal (number_of c.args.refusal.code))
    (c.as_bytes-line.ensures.value ∙ c.format.ensures.text) (c.as_bytes-column.ensures.value ∙ c.format-2.ensures.text) refl refl)
    (err-first c.from_residual.result (g.K.Sink.held c.args.notes.now) (g.K.Sink.held c.write_four.new.sink)
    (first_half c.as_bytes-line.result.now c.as_bytes-column.result.now)
    (second_half (letter_of c.args.refusal.code) (decimal (number_of c.args.refusal.code))) c.in_err-write_four.ensures.prefix)

pub returns-clause-written : goal.returns-clause-written
returns-clause-written g c =
    subst (λ text. OnOk c.write_four-2.result (g.K.Sink.held c.write_four-2.new.sink ≡ extended (g.K.Sink.held c.args.notes.now) text))
    (refusal-by c.args.refusal c.as_bytes-line.result.now c.as_bytes-column.result.now c.letter.result c.as_bytes-number.result.now
    (c.as_bytes-line.ensures.value ∙ c.format.ensures.text) (c.as_bytes-column.ensures.value ∙ c.format-2.ensures.text) c.letter.ensures
    (c.as_bytes-number.ensures.value ∙ c.format-3.ensures.text ∙ ap decimal c.number.ensures))
    (ok-second c.write_four-2.result (g.K.Sink.held c.args.notes.now) (g.K.Sink.held c.write_four.new.sink) (g.K.Sink.held c.write_four-2.new.sink)
    (first_half c.as_bytes-line.result.now c.as_bytes-column.result.now)
    (second_half c.letter.result c.as_bytes-number.result.now) c.in_ok-write_four.ensures.written c.write_four-2.ensures.written)

pub returns-clause-prefix : goal.returns-clause-prefix
returns-clause-prefix g c =
    subst (λ text. OnErr c.write_four-2.result (HoldsPrefix (g.K.Sink.held c.args.notes.now) (g.K.Sink.held c.write_four-2.new.sink) text))
    (refusal-by c.args.refusal c.as_bytes-line.result.now c.as_bytes-column.result.now c.letter.result c.as_bytes-number.result.now
    (c.as_bytes-line.ensures.value ∙ c.format.ensures.text) (c.as_bytes-column.ensures.value ∙ c.format-2.ensures.text) c.letter.ensures
    (c.as_bytes-number.ensures.value ∙ c.format-3.ensures.text ∙ ap decimal c.number.ensures))
    (err-second c.write_four-2.result (g.K.Sink.held c.args.notes.now) (g.K.Sink.held c.write_four.new.sink) (g.K.Sink.held c.write_four-2.new.sink)
    (first_half c.as_bytes-line.result.now c.as_bytes-column.result.now)
    (second_half c.letter.result c.as_bytes-number.result.now) c.in_ok-write_four.ensures.written c.write_four-2.ensures.prefix)
