use Rattle.source_laws.proofs.read_laws.read_names_by_position.Goals as goal
use Rattle.source_laws.proofs.Sources.Apart.{read_names_by_position}

pub returns : goal.returns
returns c = read_names_by_position
