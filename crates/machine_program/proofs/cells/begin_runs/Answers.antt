use Rattle.machine_program.proofs.CellRuns.{begun_more}
use Rattle.machine_program.proofs.cells.begin_runs.Goals as goal

pub loop-run-preserved : goal.loop-run-preserved
loop-run-preserved c = begun_more _ _ _ _ _ _ _ _ c.loop-run-test.true c.loop-run.auto.cells c.begin_run.ensures c.loop-run.invariant
