use Rattle.std.proofs.Common.{rules}
use Rattle.std.proofs.lemmas.List.{get_or_default}
use Rattle.std.proofs.lemmas.List.Edits.{map_over_more}
use Rattle.run_report.specs.Clocks.{settled}
use Rattle.run_report.proofs.dated.settle.Goals as goal

pub loop-one-preserved : goal.loop-one-preserved
loop-one-preserved c = rw c.settle_one.ensures (search (rules, map_over_more (settled c.args.clocks.now c.args.last), get_or_default))
