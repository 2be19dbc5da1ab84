use Rattle.machine_kernel.proofs.KernelLemmas.{open-future, open-stop}
use Rattle.machine_kernel.proofs.openings.boot.Goals as goal

pub returns-clause-lines : goal.returns-clause-lines
returns-clause-lines c = open-future c.args.image c.args.script c.args.bound c.runs_begin_at_0.ensures c.open.result c.open.ensures

pub returns-clause-stop : goal.returns-clause-stop
returns-clause-stop c = open-stop c.args.image c.args.script c.args.bound c.runs_begin_at_0.ensures c.open.result c.open.ensures
