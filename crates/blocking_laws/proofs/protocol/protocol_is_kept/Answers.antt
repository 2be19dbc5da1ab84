-- The test computes to true on these lines.
use Rattle.std.proofs.Common.{refl}
use Rattle.trace_rows.specs.Plant.{trace_23}
use Rattle.blocking_laws.specs.Examples.{blocked_once}
use Rattle.blocking_laws.proofs.ProtocolLemmas.{protocol_told}
use Rattle.blocking_laws.proofs.protocol.protocol_is_kept.Goals as goal

pub returns-clause-plant : goal.returns-clause-plant
unfolding trace_23
returns-clause-plant c = protocol_told trace_23 refl

pub returns-clause-blocked_once : goal.returns-clause-blocked_once
unfolding blocked_once
returns-clause-blocked_once c = protocol_told blocked_once refl
