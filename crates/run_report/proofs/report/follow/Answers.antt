-- The task that is named, and the one that ran.
use Rattle.run_report.proofs.Places.{both_written}
use Rattle.run_report.proofs.report.follow.Goals as goal

pub returns : goal.returns
returns c =
    rw (c.write-2.ensures, c.write.ensures, c.step_for-ran.ensures, c.step_for-named.ensures, c.number_in-runs.ensures, c.named_by.ensures)
    (both_written c.args.clocks.now c.args.last c.args.passing.now c.args.now c.args.event.now c.args.items.now c.requires.once)
