use Rattle.std.proofs.Common.{sym}
use Rattle.profile_machine.specs.Unwinding.{struck_frame}
use Rattle.machine_calls.proofs.DepthLemmas.{set_deep}
use Rattle.machine_calls.proofs.marks.strike_in.Goals as goal

pub returns-in-Some-get_mut : goal.returns-in-Some-get_mut
returns-in-Some-get_mut c =
    set_deep c.args.depth struck_frame c.args.frames.now c.in-Some.place c.in-Some-get_mut.frame.now (sym c.in-Some.ensures)
    (sym c.in-Some-get_mut.ensures.value)
