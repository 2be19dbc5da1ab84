use Rattle.std.proofs.Common.{◌≡◌, ◌++◌, List}
use Rattle.trace_text.specs.Queue.{TraceLine}
use Rattle.profile_machine.specs.Run.{lines_of_run}
use Rattle.machine_kernel.specs.Kernel.{future, stop_to_come, left_to_do}
use Rattle.load_runs.specs.Tallies.{Tallies}
use Rattle.commands.specs.Runs.{stop_under}
use Rattle.run_writing.proofs.summing.tally_run.Given as goal

-- the lines that were told are tallied, and what is to come is the rest of the run
abbrev pub invariant-loop-buffer : goal.invariant-loop-buffer
invariant-loop-buffer l = record {
  tallied : (told : List TraceLine) × Tallies l.tally told × (told ++ future l.kernel ≡ lines_of_run l.fn.image l.fn.items l.fn.ticks);
  stop : stop_to_come l.kernel ≡ stop_under l.fn.items l.fn.image l.fn.ticks;
}

abbrev pub decreases-loop-buffer : goal.decreases-loop-buffer
decreases-loop-buffer l = left_to_do l.kernel
