use Rattle.std.proofs.Common.{◌-◌, length}
use Rattle.ada_entities.proofs.texts.+prefix_from.Given as goal

abbrev pub decreases-prefix_from : goal.decreases-prefix_from
decreases-prefix_from l = length l.frames.now - l.place
