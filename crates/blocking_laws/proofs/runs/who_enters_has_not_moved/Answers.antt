-- Up to the line of an action nothing is said of levels, and none is left.
use Rattle.blocking_laws.proofs.FreshLemmas.{runs_enter_fresh}
use Rattle.blocking_laws.proofs.runs.who_enters_has_not_moved.Goals as goal

pub returns : goal.returns
returns c = runs_enter_fresh
