use Rattle.machine_expiries.proofs.EditLemmas.{set_edited}
use Rattle.machine_expiries.proofs.script.set_flag.Goals as goal

pub returns-in-Some : goal.returns-in-Some
returns-in-Some c = set_edited c.args.n c.args.flag c.args.flags.now
