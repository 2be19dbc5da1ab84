use Rattle.load_runs.proofs.source.+write_declarations.Given as goal

abbrev pub decreases-write_declarations : goal.decreases-write_declarations
decreases-write_declarations l = l.count
