-- By the order of marks.
use Rattle.blocking_laws.proofs.LastRuns.{runs_exit_last}
use Rattle.blocking_laws.proofs.runs.actions_end_in_reverse_order.Goals as goal

pub returns : goal.returns
returns c = runs_exit_last
