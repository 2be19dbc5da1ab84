-- The law, as it is proved of the definitions.
use Rattle.ceiling_laws.proofs.Places.QueueLemmas.{effects_place_by_the_last}
use Rattle.ceiling_laws.proofs.ceiling_places.effects_place_by_the_last_line.Goals as goal

pub returns : goal.returns
returns c = effects_place_by_the_last
