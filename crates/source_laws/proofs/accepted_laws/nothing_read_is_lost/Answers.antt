use Rattle.source_laws.proofs.accepted_laws.nothing_read_is_lost.Goals as goal
use Rattle.source_laws.proofs.Accepted.Own.{nothing_read_is_lost}

pub returns : goal.returns
returns c = nothing_read_is_lost
