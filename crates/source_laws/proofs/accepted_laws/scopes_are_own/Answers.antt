use Rattle.source_laws.proofs.accepted_laws.scopes_are_own.Goals as goal
use Rattle.source_laws.proofs.Accepted.Own.{scopes_are_own}

pub returns : goal.returns
returns c = scopes_are_own
