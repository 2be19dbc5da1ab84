use Rattle.std.proofs.Common.{sym, ◌∙◌}
use Rattle.load_runs.proofs.MoreLines.{read-tallied, tallied-none, tallied-empty}
use Rattle.load_runs.proofs.tally.Tally.piece.Goals as goal

pub returns-then-is_empty : goal.returns-then-is_empty
returns-then-is_empty c = tallied-empty c.args.self.now c.args.piece.now (sym c.is_empty.ensures ∙ c.if-is_empty.true)

pub returns-in-Ok : goal.returns-in-Ok
returns-in-Ok c =
    read-tallied c.line.result c.args.self.now c.line.new.self c.args.piece.now c.event_word.result c.in-Ok.read c.read_line.result c.in-Ok.is
    c.read_line.ensures.only
    c.in-Ok.ensures.line c.event_word.ensures c.line.ensures.counts c.line.ensures.last

pub returns-in-Err : goal.returns-in-Err
returns-in-Err c = tallied-none c.args.self.now c.args.piece.now c.read_line.result c.in-Err.field-0 c.in-Err.is c.read_line.ensures.only
