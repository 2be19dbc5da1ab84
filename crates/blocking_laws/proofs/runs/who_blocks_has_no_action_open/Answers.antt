-- By the marks of who is not ready behind the effect.
use Rattle.blocking_laws.proofs.StopLemmas.{runs_block_free}
use Rattle.blocking_laws.proofs.runs.who_blocks_has_no_action_open.Goals as goal

pub returns : goal.returns
returns c = runs_block_free
