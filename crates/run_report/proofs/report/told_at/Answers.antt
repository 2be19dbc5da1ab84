-- The account of what is told of it.
use Rattle.std.proofs.Common.{◌≡◌, Some, slice_get, ap, arith, ◌∙◌}
use Rattle.std.proofs.lemmas.Grind.{common_steps}
use Rattle.std.proofs.lemmas.Option.{gets}
use Rattle.run_report.proofs.Lines.{account_told}
use Rattle.run_report.proofs.report.told_at.Goals as goal

pub returns-in-Some : goal.returns-in-Some
returns-in-Some c =
    let there : slice_get c.args.items.now c.args.place ≡ Some c.in-Some.one.now = grind (arith, common_steps, gets) in
    ap Some c.told_account.ensures ∙ account_told c.args.clocks.now c.args.last c.args.items.now c.args.place c.in-Some.one.now there
