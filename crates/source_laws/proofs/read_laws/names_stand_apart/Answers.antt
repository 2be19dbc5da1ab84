use Rattle.source_laws.proofs.read_laws.names_stand_apart.Goals as goal
use Rattle.source_laws.proofs.Sources.Apart.{names_stand_apart}

pub returns : goal.returns
returns c = names_stand_apart
