-- The laws of single steps, as they are proved of the definitions.
use Rattle.ceiling_laws.proofs.Places.ActingLemmas.{base_leaves_low, block_leaves_low, done_leaves_low, inheritance_leaves_low}
use Rattle.ceiling_laws.proofs.Places.ActingLemmas.{loss_leaves_low, placing_leaves_low, ready_leaves_low}
use Rattle.ceiling_laws.proofs.ceiling_places.steps_of_effects_place_nobody_above.Goals as goal

pub returns-clause-ready : goal.returns-clause-ready
returns-clause-ready c = ready_leaves_low

pub returns-clause-placing : goal.returns-clause-placing
returns-clause-placing c = placing_leaves_low

pub returns-clause-block : goal.returns-clause-block
returns-clause-block c = block_leaves_low

pub returns-clause-inheritance : goal.returns-clause-inheritance
returns-clause-inheritance c = inheritance_leaves_low

pub returns-clause-loss : goal.returns-clause-loss
returns-clause-loss c = loss_leaves_low

pub returns-clause-base : goal.returns-clause-base
returns-clause-base c = base_leaves_low

pub returns-clause-end : goal.returns-clause-end
returns-clause-end c = done_leaves_low
