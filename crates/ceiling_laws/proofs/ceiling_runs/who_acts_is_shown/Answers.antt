-- The law, as it is proved of the definitions.
use Rattle.ceiling_laws.proofs.Runs.ShownPlaces.{who_acts_is_shown}
use Rattle.ceiling_laws.proofs.ceiling_runs.who_acts_is_shown.Goals as goal

pub returns : goal.returns
returns c = who_acts_is_shown
