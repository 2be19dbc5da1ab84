-- By what each line is.
use Rattle.blocking_laws.proofs.DatedLemmas.{runs_date_rightly}
use Rattle.blocking_laws.proofs.runs.only_tasks_have_deadlines.Goals as goal

pub returns : goal.returns
returns c = runs_date_rightly
