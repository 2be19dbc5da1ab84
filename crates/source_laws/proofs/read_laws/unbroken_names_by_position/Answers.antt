use Rattle.source_laws.proofs.read_laws.unbroken_names_by_position.Goals as goal
use Rattle.source_laws.proofs.Sources.Unbroken.{unbroken_names_by_position}

pub returns : goal.returns
returns c = unbroken_names_by_position
