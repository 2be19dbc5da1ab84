-- That they come, as it is proved of the definitions.
use Rattle.release_laws.proofs.InterruptMoments.{interrupts_come}
use Rattle.release_laws.proofs.interrupts_are_released.Goals as goal

pub returns-clause-come : goal.returns-clause-come
returns-clause-come c = interrupts_come
