use Rattle.source_laws.proofs.read_laws.unbroken_bodies_complete.Goals as goal
use Rattle.source_laws.proofs.Sources.Unbroken.{unbroken_bodies_complete}

pub returns : goal.returns
returns c = unbroken_bodies_complete
