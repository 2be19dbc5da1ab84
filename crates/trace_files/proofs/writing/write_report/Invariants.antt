use Rattle.std.proofs.Common.{◌≤◌, ◌++◌, drop}
use Rattle.outside_bytes.proofs.PiecesWritten.{Written}
use Rattle.run_report.specs.Kept.{accounts_in}
use Rattle.run_report.specs.Texts.{account_texts, totals_text, text_in}
use Rattle.trace_files.proofs.writing.write_report.Given as goal

-- a prefix of the lines is written, and those of the accounts from this place on and the last three are the rest
abbrev pub invariant-loop-place : goal.invariant-loop-place
invariant-loop-place g l = record {
  text : Written (g.K.Sink.held l.fn.out) (g.K.Sink.held l.out) (text_in l.report)
      (account_texts (drop l.place (accounts_in l.report)) ++ totals_text l.report.agent_run l.report.idle l.report.seen.tick);
  monotone : g.K.Sink.faults l.fn.out ≤ g.K.Sink.faults l.out;
}
