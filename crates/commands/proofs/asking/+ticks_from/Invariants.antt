use Rattle.std.proofs.Common.{length}
use Rattle.commands.proofs.asking.+ticks_from.Given as goal

abbrev pub decreases-ticks_from : goal.decreases-ticks_from
decreases-ticks_from l = length l.digits.now
