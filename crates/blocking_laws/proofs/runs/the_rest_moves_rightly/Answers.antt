-- By its parts, of which those that every run keeps are proved.
use Rattle.blocking_laws.proofs.RestLemmas.{rest_moves_rightly}
use Rattle.blocking_laws.proofs.runs.the_rest_moves_rightly.Goals as goal

pub returns : goal.returns
returns c = rest_moves_rightly
