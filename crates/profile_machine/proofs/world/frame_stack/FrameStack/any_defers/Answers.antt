use Rattle.std.proofs.Common.{sym}
use Rattle.profile_machine.proofs.FrameCountLemmas.{any_defers_below}
use Rattle.profile_machine.proofs.world.frame_stack.FrameStack.any_defers.Goals as goal

pub returns-else-defers : goal.returns-else-defers
returns-else-defers c =
    any_defers_below c.args.self.now c.in-Some.top.now c.self.inside.below c.in-Some.ensures (rw (← c.self.view_is) (c.self.invariant c.if-self.true))
    (sym c.if-defers.ensures)
