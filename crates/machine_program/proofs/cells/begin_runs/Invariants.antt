use Rattle.std.proofs.Common.{◌≡◌, take, length}
use Rattle.profile_image.specs.Program.{with_runs}
use Rattle.machine_program.proofs.cells.begin_runs.Given as goal

-- the cells so far are those of the runs so far
abbrev pub invariant-loop-run : goal.invariant-loop-run
invariant-loop-run l = l.cells ≡ take (length l.initial.cells) (with_runs (take l.run-index l.runs) l.initial.cells)
