use Rattle.machine_scopes.proofs.scopes.+outwards.Given as goal

abbrev pub decreases-outwards : goal.decreases-outwards
decreases-outwards l = l.more
