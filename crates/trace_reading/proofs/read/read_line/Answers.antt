-- A printable line is read as its tick and event.
use Rattle.std.proofs.Common.{refl}
use Rattle.trace_reading.proofs.LinesAgain.{line_again}
use Rattle.trace_reading.proofs.read.read_line.Goals as goal

pub returns-clause-only : goal.returns-clause-only
returns-clause-only c = λ tick event h e. rw (c.ok_or.ensures.value, c.line_of.ensures.read, e, line_again tick event h) refl
