-- Who acts was chosen, and stood first; up to the line of its action nobody is placed.
use Rattle.blocking_laws.proofs.FirstLemmas.{runs_enter_first}
use Rattle.blocking_laws.proofs.runs.who_enters_is_first.Goals as goal

pub returns : goal.returns
returns c = runs_enter_first
