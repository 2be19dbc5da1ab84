use Rattle.std.proofs.lemmas.List.{get_or-replicate}
use Rattle.sched_tests.proofs.demands.look_at_chunk.Goals as goal

pub add_all_due-requires-clause-zero : goal.add_all_due-requires-clause-zero
add_all_due-requires-clause-zero c = λ k low. get_or-replicate 4000 k 0 0 low
