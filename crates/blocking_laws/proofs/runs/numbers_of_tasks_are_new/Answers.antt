-- Each task has the number of those that were made before it.
use Rattle.blocking_laws.proofs.TaskNumbers.{runs_number_tasks}
use Rattle.blocking_laws.proofs.runs.numbers_of_tasks_are_new.Goals as goal

pub returns : goal.returns
returns c = runs_number_tasks
