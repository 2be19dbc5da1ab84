use Rattle.source_laws.proofs.name_laws.exports_by_position.Goals as goal
use Rattle.source_laws.proofs.Names.Showing.{exports_by_position}

pub returns : goal.returns
returns c = exports_by_position
