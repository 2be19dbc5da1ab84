use Rattle.std.proofs.Common.{◌∙◌, ap}
use Rattle.ann_base.specs.Outside.{extended}
use Rattle.profile_machine.specs.Run.{lines_of_run}
use Rattle.commands.specs.Runs.{summary_under}
use Rattle.outside_bytes.proofs.PiecesWritten.{err-none}
use Rattle.run_writing.proofs.TalliedLines.{cut_text}
use Rattle.run_writing.proofs.summing.summarize_under.Goals as goal

pub returns-in_err-tally-clause-prefix : goal.returns-in_err-tally-clause-prefix
returns-in_err-tally-clause-prefix g c = err-none c.from_residual.result (g.K.Sink.held c.args.out.now) (summary_under c.args.items c.args.image c.args.ticks)

pub returns-in_err-stop-clause-prefix : goal.returns-in_err-stop-clause-prefix
returns-in_err-stop-clause-prefix g c =
    err-none c.from_residual-in_err-stop.result (g.K.Sink.held c.args.out.now) (summary_under c.args.items c.args.image c.args.ticks)

pub returns-in_err-text-clause-prefix : goal.returns-in_err-text-clause-prefix
returns-in_err-text-clause-prefix g c =
    err-none c.from_residual-in_err-text.result (g.K.Sink.held c.args.out.now) (summary_under c.args.items c.args.image c.args.ticks)

pub returns-in_err-write_line-clause-prefix : goal.returns-in_err-write_line-clause-prefix
returns-in_err-write_line-clause-prefix g c =
    cut_text c.from_residual-in_err-write_line.result (g.K.Sink.held c.args.out.now) (g.K.Sink.held c.write_line.new.out) c.as_slice.result.now
    (summary_under c.args.items c.args.image c.args.ticks)
    (c.as_slice.ensures.value ∙ c.in_ok-text.ensures (lines_of_run c.args.image c.args.items c.args.ticks) c.in_ok-stop.ensures.tallied)
    c.in_err-write_line.ensures.prefix

pub returns-clause-written : goal.returns-clause-written
returns-clause-written g c =
    c.in_ok-write_line.ensures.written
    ∙ ap (λ text. extended (g.K.Sink.held c.args.out.now) text)
    (c.as_slice.ensures.value ∙ c.in_ok-text.ensures (lines_of_run c.args.image c.args.items c.args.ticks) c.in_ok-stop.ensures.tallied)
