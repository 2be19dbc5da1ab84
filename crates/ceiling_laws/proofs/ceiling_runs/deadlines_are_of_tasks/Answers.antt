-- The law, as it is proved of the definitions.
use Rattle.ceiling_laws.proofs.Runs.DeadlineLemmas.{deadlines_are_of_tasks}
use Rattle.ceiling_laws.proofs.ceiling_runs.deadlines_are_of_tasks.Goals as goal

pub returns : goal.returns
returns c = deadlines_are_of_tasks
