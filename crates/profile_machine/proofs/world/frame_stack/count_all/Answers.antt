use Rattle.std.proofs.Common.{◌≡◌, ◌^◌, [], ◌∷◌, ◌<◌, List, length, refl, arith}
use Rattle.profile_machine.specs.declared.world.marks.Frame.{Frame}
use Rattle.profile_machine.proofs.FrameCountLemmas.{room_before, counted_one_more, counted_all}
use Rattle.profile_machine.proofs.world.frame_stack.count_all.Goals as goal

pub with_frame-counts-requires : goal.with_frame-counts-requires
with_frame-counts-requires c =
    let is = c.in-Some.ensures.steps in
    let small : length c.args.frames.now.items < 2 ^ 64 = omega arith in
    room_before c.loop-frame.counts c.in-Some.frame.now _ c.args.frames.now.items (rw is at c.loop-frame.invariant) small

pub loop-frame-preserved : goal.loop-frame-preserved
loop-frame-preserved c =
    let is = c.in-Some.ensures.steps in
    rw c.with_frame-counts.ensures (counted_one_more c.loop-frame.counts c.in-Some.frame.now _ c.args.frames.now.items (rw is at c.loop-frame.invariant))

none_left : (fs : List Frame) → length fs ≡ 0 → fs ≡ []
none_left [] e = refl
none_left (f ∷ fs) e = absurd (omega arith)

pub returns : goal.returns
returns c =
    let none = none_left _ c.in-None.ensures.steps.0 in counted_all c.loop-frame.counts c.args.frames.now.items (rw none at c.loop-frame.invariant)
