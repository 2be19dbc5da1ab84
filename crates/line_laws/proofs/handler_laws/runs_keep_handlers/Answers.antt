-- The law, as it is proved of the definitions.
use Rattle.line_laws.proofs.Handlers.AgentRuns.{runs_keep_handlers}
use Rattle.line_laws.proofs.handler_laws.runs_keep_handlers.Goals as goal

pub returns : goal.returns
returns c = runs_keep_handlers
