-- The law of base priorities, as it is proved of the definitions.
use Rattle.ceiling_laws.proofs.Runs.BaseLemmas.{bases_are_told}
use Rattle.ceiling_laws.proofs.ceiling_runs.ceilings_and_bases_are_told.Goals as goal

pub returns-clause-bases : goal.returns-clause-bases
returns-clause-bases c = bases_are_told
