use Rattle.machine_expiries.proofs.script.+items_due.Given as goal

abbrev pub decreases-items_due : goal.decreases-items_due
decreases-items_due l = l.fuel
