use Rattle.std.proofs.Common.{rules}
use Rattle.machine_expiries.proofs.EditLemmas.{set_edited}
use Rattle.machine_expiries.proofs.script.set_port.Goals as goal

pub returns-in-Some : goal.returns-in-Some
returns-in-Some c = let set = set_edited c.args.n c.args.value c.args.ports.now in search rules
