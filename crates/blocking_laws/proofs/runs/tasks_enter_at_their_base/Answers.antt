-- What is known of who acts, when it is let in.
use Rattle.blocking_laws.proofs.LowLemmas.{runs_enter_low}
use Rattle.blocking_laws.proofs.runs.tasks_enter_at_their_base.Goals as goal

pub returns : goal.returns
returns c = runs_enter_low
