use Rattle.std.proofs.Common.{◌++◌, ◌∙◌, [], sym, ap, arith}
use Rattle.trace_text.specs.Text.{text_of}
use Rattle.machine_kernel.specs.Future.{first_line}
use Rattle.profile_machine.specs.Run.{lines_of_run}
use Rattle.machine_kernel.specs.Kernel.{shown, future, stop_to_come}
use Rattle.commands.specs.Runs.{text_under}
use Rattle.outside_bytes.proofs.PiecesWritten.{extended-nil, err-none, one_more_line, cut_line}
use Rattle.run_writing.proofs.LaterFaults.{fault_later}
use Rattle.run_writing.proofs.PrintableLines.{one_more_printable, all_printable}
use Rattle.run_writing.proofs.TalliedLines.{none_to_come}
use Rattle.run_writing.proofs.running.run_under.Goals as goal

pub returns-in_err-kernel-clause-prefix : goal.returns-in_err-kernel-clause-prefix
returns-in_err-kernel-clause-prefix g c = err-none c.from_residual.result (g.K.Sink.held c.args.out.now) (text_under c.args.items c.args.image c.args.ticks)

pub returns-in_err-buffer-clause-prefix : goal.returns-in_err-buffer-clause-prefix
returns-in_err-buffer-clause-prefix g c =
    err-none c.from_residual-in_err-buffer.result (g.K.Sink.held c.args.out.now) (text_under c.args.items c.args.image c.args.ticks)

-- nothing is written yet, and the run to come is that of the image
pub loop-buffer-init : goal.loop-buffer-init
loop-buffer-init g c = record {
  text = ([], ap text_of (sym c.in_ok-kernel.ensures.lines), sym (extended-nil (g.K.Sink.held c.args.out.now)));
  printable = ([], tt, c.in_ok-kernel.ensures.lines);
  stop = c.in_ok-kernel.ensures.stop;
  monotone = omega arith;
}

pub loop-buffer-preserved : goal.loop-buffer-preserved
loop-buffer-preserved g c = record {
  text = one_more_line (g.K.Sink.held c.args.out.now) (g.K.Sink.held c.loop-buffer.out) (g.K.Sink.held c.write_line.new.out)
      c.bytes.result.now (text_of (future c.loop-buffer.kernel)) (text_of (future c.next.new.self)) (text_under c.args.items c.args.image c.args.ticks)
      c.loop-buffer.invariant.text
      (ap (λ line. line ++ text_of (future c.next.new.self)) c.bytes.ensures.bytes ∙ c.in_ok-next.ensures.future
      ∙ ap (λ line. line ++ text_of (future c.loop-buffer.kernel)) c.clear.ensures) c.in_ok-write_line-in-Going.ensures.written;
  printable =
      one_more_printable (first_line (shown c.loop-buffer.kernel).owed) (future c.loop-buffer.kernel) (future c.next.new.self)
      (lines_of_run c.args.image c.args.items c.args.ticks)
      c.loop-buffer.invariant.printable c.in_ok-next.ensures.lines c.in_ok-next.ensures.printable;
  stop = c.in_ok-next.ensures.stop ∙ c.loop-buffer.invariant.stop;
  monotone = omega (arith, c.in_ok-write_line-in-Going.ensures.monotone, c.loop-buffer.invariant.monotone);
}

-- where the run has ended, all of its lines are told
pub returns-in-Ended-clause-printable : goal.returns-in-Ended-clause-printable
returns-in-Ended-clause-printable g c =
    all_printable (future c.loop-buffer.kernel) (lines_of_run c.args.image c.args.items c.args.ticks) c.loop-buffer.invariant.printable
    (none_to_come c.in_ok-next.field-0 _ (future c.loop-buffer.kernel) c.in-Ended.is c.in_ok-next.ensures.ended)

pub returns-in_err-write_line-in-Going-clause-prefix : goal.returns-in_err-write_line-in-Going-clause-prefix
returns-in_err-write_line-in-Going-clause-prefix g c =
    cut_line c.from_residual-in_err-write_line-in-Going.result (g.K.Sink.held c.args.out.now) (g.K.Sink.held c.loop-buffer.out)
    (g.K.Sink.held c.write_line.new.out)
    c.bytes.result.now (text_of (future c.loop-buffer.kernel)) (text_of (future c.next.new.self)) (text_under c.args.items c.args.image c.args.ticks)
    c.loop-buffer.invariant.text
    (ap (λ line. line ++ text_of (future c.next.new.self)) c.bytes.ensures.bytes ∙ c.in_ok-next.ensures.future
    ∙ ap (λ line. line ++ text_of (future c.loop-buffer.kernel)) c.clear.ensures) c.in_err-write_line-in-Going.ensures.prefix

pub returns-in_err-write_line-in-Going-clause-cause : goal.returns-in_err-write_line-in-Going-clause-cause
returns-in_err-write_line-in-Going-clause-cause g c =
    fault_later c.from_residual-in_err-write_line-in-Going.result (g.K.Sink.faults c.args.out.now) (g.K.Sink.faults c.loop-buffer.out)
    (g.K.Sink.faults c.write_line.new.out)
    c.loop-buffer.invariant.monotone c.in_err-write_line-in-Going.ensures.monotone c.in_err-write_line-in-Going.ensures.cause
