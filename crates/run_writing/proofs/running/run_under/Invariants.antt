use Rattle.std.proofs.Common.{◌≡◌, ◌≤◌, ◌++◌, List, ℕ}
use Rattle.ann_base.specs.Outside.{extended}
use Rattle.trace_text.specs.Queue.{TraceLine}
use Rattle.trace_text.specs.Text.{ArePrintable, text_of}
use Rattle.profile_machine.specs.Run.{lines_of_run}
use Rattle.machine_kernel.specs.Kernel.{future, stop_to_come, left_to_do}
use Rattle.commands.specs.Runs.{text_under, stop_under}
use Rattle.run_writing.proofs.running.run_under.Given as goal

-- a prefix of the text of the run is written, and what is to come is the rest of it; the lines that were told are printable
abbrev pub invariant-loop-buffer : goal.invariant-loop-buffer
invariant-loop-buffer g l = record {
  text : (prefix : List ℕ) × (text_under l.fn.items l.fn.image l.fn.ticks ≡ prefix ++ text_of (future l.kernel))
      × (g.K.Sink.held l.out ≡ extended (g.K.Sink.held l.fn.out) prefix);
  printable : (told : List TraceLine) × ArePrintable told × (told ++ future l.kernel ≡ lines_of_run l.fn.image l.fn.items l.fn.ticks);
  stop : stop_to_come l.kernel ≡ stop_under l.fn.items l.fn.image l.fn.ticks;
  monotone : g.K.Sink.faults l.fn.out ≤ g.K.Sink.faults l.out;
}

abbrev pub decreases-loop-buffer : goal.decreases-loop-buffer
decreases-loop-buffer g l = left_to_do l.kernel
