-- The law, as it is proved of the definitions.
use Rattle.ceiling_laws.proofs.Places.WaitLemmas.{others_keep_waiters_out}
use Rattle.ceiling_laws.proofs.ceiling_places.nothing_beside_an_effect_shows_who_waits.Goals as goal

pub returns-clause-others : goal.returns-clause-others
returns-clause-others c = others_keep_waiters_out
