use Rattle.std.proofs.Common.{◌+◌, drop}
use Rattle.std.proofs.lemmas.Result.{err_from_is_err_and}
use Rattle.text_lines.specs.Lines.{parts_at, lines_from}
use Rattle.event_script.proofs.Refusals.{refused}
use Rattle.event_script.proofs.reading.read_script.Goals as goal

pub returns-in_err-read_line-clause-exact : goal.returns-in_err-read_line-clause-exact
returns-in_err-read_line-clause-exact c =
    let p = err_from_is_err_and c.from_residual.result c.from_residual.ensures.1 in
    let rest = rw c.line_at-line.ensures.line at c.loop-start.invariant.rest in
    let read = rw c.line_at-line.ensures.number at c.in_err-read_line.ensures.read in
    rw (p.1, p.2) (refused c.args.bytes.now c.loop-start.reading c.read_line.new.reading
    (record { number = c.loop-start.number + 1; stop = c.line_at-line.result.stop; text = c.line_at-line.result.text.now })
    (lines_from (c.loop-start.number + 1 + 1) c.line_at-line.result.stop
    (parts_at 10 (drop c.line_at-line.result.stop c.args.bytes.now))) c.in_err-read_line.field-0.0 rest read)
