-- All three laws, by what is so behind each tick of a stretch.
use Rattle.blocking_laws.proofs.BlockedLemmas.{lines_blocked_once, lines_one_action}
use Rattle.blocking_laws.proofs.SettledLemmas.{lines_never_held}
use Rattle.blocking_laws.proofs.protocol.protocol_bounds_blocking.Goals as goal

pub returns-clause-held : goal.returns-clause-held
returns-clause-held c = lines_never_held

pub returns-clause-blocked : goal.returns-clause-blocked
returns-clause-blocked c = lines_blocked_once

pub returns-clause-one_action : goal.returns-clause-one_action
returns-clause-one_action c = lines_one_action
