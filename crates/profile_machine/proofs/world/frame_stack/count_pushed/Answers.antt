use Rattle.std.proofs.Common.{◌≡◌, ◌^◌, ◌<◌, Some, length, slice_get, rules, arith}
use Rattle.profile_machine.proofs.FrameCountLemmas.{room_below}
use Rattle.profile_machine.proofs.world.frame_stack.count_pushed.Goals as goal

pub with_frame-requires : goal.with_frame-requires
with_frame-requires c =
    let at : Some c.in-Some.second.now ≡ slice_get c.args.frames.now.items 1 = search rules in
    let small : length c.args.frames.now.items < 2 ^ 64 = omega arith in
    room_below c.args.frames.now.items c.in-Some.second.now c.args.before at (c.requires c.if-counted.true) small
