use Rattle.source_laws.proofs.read_laws.bodies_complete_where_known.Goals as goal
use Rattle.source_laws.proofs.Sources.KnownBodies.{bodies_complete_where_known}

pub returns : goal.returns
returns c = bodies_complete_where_known
