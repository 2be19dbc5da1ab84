use Rattle.source_laws.proofs.name_laws.names_by_position.Goals as goal
use Rattle.source_laws.proofs.Names.Naming.{meanings_by_position, names_by_position}

pub returns-clause-each : goal.returns-clause-each
returns-clause-each c = meanings_by_position

pub returns-clause-all : goal.returns-clause-all
returns-clause-all c = names_by_position
