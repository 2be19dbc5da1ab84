use Rattle.machine_masters.proofs.masters.+is_owned_beyond.Given as goal

abbrev pub decreases-is_owned_beyond : goal.decreases-is_owned_beyond
decreases-is_owned_beyond l = l.more
