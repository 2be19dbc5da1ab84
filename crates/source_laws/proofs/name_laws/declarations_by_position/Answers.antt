use Rattle.source_laws.proofs.name_laws.declarations_by_position.Goals as goal
use Rattle.source_laws.proofs.Names.Lawful.{declarations_by_position}

pub returns : goal.returns
returns c = declarations_by_position
