use Rattle.source_laws.proofs.name_laws.direct_names_by_position.Goals as goal
use Rattle.source_laws.proofs.Names.Denoting.{direct_names_by_position}

pub returns : goal.returns
returns c = direct_names_by_position
