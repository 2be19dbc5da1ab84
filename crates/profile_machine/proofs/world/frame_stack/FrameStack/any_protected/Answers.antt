use Rattle.std.proofs.Common.{sym}
use Rattle.profile_machine.proofs.FrameCountLemmas.{any_protected_below}
use Rattle.profile_machine.proofs.world.frame_stack.FrameStack.any_protected.Goals as goal

pub returns-else-is_protected : goal.returns-else-is_protected
returns-else-is_protected c =
    any_protected_below c.args.self.now c.in-Some.top.now c.self.inside.below c.in-Some.ensures (rw (← c.self.view_is) (c.self.invariant c.if-self.true))
    (sym c.if-is_protected.ensures)
