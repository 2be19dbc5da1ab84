-- The tests say what the laws are.
use Rattle.blocking_laws.proofs.ProtocolLemmas.{holders_told, low_told, moves_told, protocol_told}
use Rattle.blocking_laws.proofs.protocol.protocol_is_told.Goals as goal

pub returns-clause-moved : goal.returns-clause-moved
returns-clause-moved c = moves_told

pub returns-clause-holders : goal.returns-clause-holders
returns-clause-holders c = holders_told

pub returns-clause-low : goal.returns-clause-low
returns-clause-low c = low_told

pub returns-clause-protocol : goal.returns-clause-protocol
returns-clause-protocol c = protocol_told
