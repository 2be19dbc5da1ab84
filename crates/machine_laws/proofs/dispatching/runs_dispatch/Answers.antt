-- The law, as it is proved of the definitions.
use Rattle.machine_laws.proofs.DispatchLemmas.{runs_dispatch}
use Rattle.machine_laws.proofs.dispatching.runs_dispatch.Goals as goal

pub returns : goal.returns
returns c = runs_dispatch
