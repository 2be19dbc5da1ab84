-- Each tick that is counted is one of the action's.
use Rattle.blocking_laws.proofs.BoundLemmas.{blocking_bound}
use Rattle.blocking_laws.proofs.protocol.blocking_is_bounded.Goals as goal

pub returns : goal.returns
returns c = blocking_bound
