use Rattle.source_laws.proofs.accepted_laws.accepted_names_by_position.Goals as goal
use Rattle.source_laws.proofs.Accepted.Kept.{accepted_names_by_position}

pub returns : goal.returns
returns c = accepted_names_by_position
