-- That they come, as it is proved of the definitions.
use Rattle.release_laws.proofs.BudgetMoments.{budgets_come}
use Rattle.release_laws.proofs.budgets_are_released.Goals as goal

pub returns-clause-come : goal.returns-clause-come
returns-clause-come c = budgets_come
