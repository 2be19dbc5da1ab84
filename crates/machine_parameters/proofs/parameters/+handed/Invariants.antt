use Rattle.std.proofs.Common.{◌+◌, ◌*◌, ◌-◌, length}
use Rattle.machine_parameters.proofs.parameters.+handed.Given as goal

abbrev pub decreases-handed_from : goal.decreases-handed_from
decreases-handed_from l = 3 * (length l.formals.now - l.place)

abbrev pub decreases-hand_over : goal.decreases-hand_over
decreases-hand_over l = 3 * (length l.formals.now - (l.place + 1)) + 2

abbrev pub decreases-handed_behind : goal.decreases-handed_behind
decreases-handed_behind l = 3 * (length l.formals.now - (l.place + 1)) + 1
