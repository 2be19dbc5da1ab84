use Rattle.load_runs.proofs.source.+write_bodies.Given as goal

abbrev pub decreases-write_bodies : goal.decreases-write_bodies
decreases-write_bodies l = l.count
