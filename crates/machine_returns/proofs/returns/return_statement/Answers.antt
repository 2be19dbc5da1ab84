use Rattle.std.proofs.Common.{rules}
use Rattle.profile_machine.specs.Subprograms.{return}
use Rattle.machine_returns.proofs.returns.return_statement.Goals as goal

pub returns : goal.returns
unfolding return
returns c = search rules
