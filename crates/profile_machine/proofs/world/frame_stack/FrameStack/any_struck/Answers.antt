use Rattle.profile_machine.proofs.FrameCountLemmas.{any_struck_below}
use Rattle.profile_machine.proofs.world.frame_stack.FrameStack.any_struck.Goals as goal

pub returns-else-top : goal.returns-else-top
returns-else-top c =
    any_struck_below c.args.self.now c.in-Some.top.now c.self.inside.below c.in-Some.ensures
    (rw (← c.self.view_is) (c.self.invariant c.if-self.true)) c.if-top.false
