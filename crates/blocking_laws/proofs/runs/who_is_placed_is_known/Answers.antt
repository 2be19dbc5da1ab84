-- Who is placed has a number that was drawn.
use Rattle.blocking_laws.proofs.TaskNumbers.{runs_place_known}
use Rattle.blocking_laws.proofs.runs.who_is_placed_is_known.Goals as goal

pub returns : goal.returns
returns c = runs_place_known
