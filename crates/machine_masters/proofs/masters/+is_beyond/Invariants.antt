use Rattle.machine_masters.proofs.masters.+is_beyond.Given as goal

abbrev pub decreases-is_beyond : goal.decreases-is_beyond
decreases-is_beyond l = l.more
