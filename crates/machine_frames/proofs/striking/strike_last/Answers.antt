use Rattle.std.proofs.Common.{◌≡◌, ◌+◌, length, sym, arith}
use Rattle.profile_machine.specs.Unwinding.{struck_frame}
use Rattle.machine_frames.proofs.StruckLemmas.{set_last, lost_last}
use Rattle.machine_frames.proofs.striking.strike_last.Goals as goal

pub returns-in-Some-get_mut : goal.returns-in-Some-get_mut
returns-in-Some-get_mut c =
    let is : c.in-Some.last + 1 ≡ length c.args.frames.now = omega (arith, c.in-Some.ensures) in
    set_last struck_frame c.args.frames.now c.in-Some.last c.in-Some-get_mut.frame.now is (sym c.in-Some-get_mut.ensures.value)

pub returns-in_default-get_mut : goal.returns-in_default-get_mut
returns-in_default-get_mut c =
    let is : c.in-Some.last + 1 ≡ length c.args.frames.now = omega (arith, c.in-Some.ensures) in
    lost_last struck_frame c.args.frames.now c.in-Some.last is (sym c.in_default-get_mut.ensures.value)
