use Rattle.std.proofs.Common.{sym}
use Rattle.sched_tests.proofs.Needs.{need_is}
use Rattle.sched_tests.proofs.responses.need.Goals as goal

pub returns : goal.returns
returns c =
    rw (c.interference-above.ensures.asked, c.interference-below.ensures.asked, c.behind.ensures)
    (sym (need_is c.args.duties.now c.args.place c.args.window c.index-duties-place.result c.requires.place c.index-duties-place.is))
