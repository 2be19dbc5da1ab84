use Rattle.source_laws.proofs.accepted_laws.nothing_accepted_is_lost.Goals as goal
use Rattle.source_laws.proofs.Accepted.Kept.{nothing_accepted_is_lost}

pub returns : goal.returns
returns c = nothing_accepted_is_lost
