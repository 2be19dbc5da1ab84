use Rattle.std.proofs.Common.{rules}
use Rattle.std.proofs.lemmas.List.{get_or_default}
use Rattle.std.proofs.lemmas.List.Edits.{map_over_more}
use Rattle.run_report.specs.Clocks.{passed}
use Rattle.run_report.proofs.clocks.pass.Goals as goal

pub loop-clock-preserved : goal.loop-clock-preserved
loop-clock-preserved c = rw c.passed.ensures (search (rules, map_over_more (passed c.args.passing.now), get_or_default))
