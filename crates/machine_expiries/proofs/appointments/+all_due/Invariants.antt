use Rattle.machine_expiries.proofs.appointments.+all_due.Given as goal

abbrev pub decreases-all_due : goal.decreases-all_due
decreases-all_due l = l.fuel
