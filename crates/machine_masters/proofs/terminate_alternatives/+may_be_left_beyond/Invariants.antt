use Rattle.machine_masters.proofs.terminate_alternatives.+may_be_left_beyond.Given as goal

abbrev pub decreases-may_be_left_beyond : goal.decreases-may_be_left_beyond
decreases-may_be_left_beyond l = l.more
