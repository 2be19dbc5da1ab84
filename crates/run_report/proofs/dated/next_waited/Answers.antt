use Rattle.std.proofs.Common.{sym}
use Rattle.run_report.proofs.Fits.{shown_at}
use Rattle.run_report.proofs.dated.next_waited.Goals as goal
use Rattle.trace_text.specs.declared.lines.TheConstants.{LAST_TICK}

pub passed-requires-clause-shown : goal.passed-requires-clause-shown
passed-requires-clause-shown c = shown_at c.wait_level.result LAST_TICK c.args.clocks.now c.in-Some.clock c.requires.shown (sym c.in-Some.ensures)
