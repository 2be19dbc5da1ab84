use Rattle.ada_sequences.proofs.whole.+sequence.Given as goal

abbrev pub decreases-sequence : goal.decreases-sequence
decreases-sequence l = l.left
