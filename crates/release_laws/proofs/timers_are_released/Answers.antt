-- That they come, as it is proved of the definitions.
use Rattle.release_laws.proofs.MomentLemmas.{timers_come}
use Rattle.release_laws.proofs.timers_are_released.Goals as goal

pub returns-clause-come : goal.returns-clause-come
returns-clause-come c = timers_come
