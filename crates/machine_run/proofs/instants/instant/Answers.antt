use Rattle.machine_run.proofs.MovedLemmas.{one_more, and_so}
use Rattle.machine_run.proofs.instants.instant.Goals as goal

pub returns : goal.returns
returns c = and_so c.quantum_spent.result (λ q.
    one_more _ _ _ _ _ _ _ _ _ c.in_ok-finish_action.ensures
    (one_more _ _ _ _ _ _ _ _ _ c.in_ok-script_items.ensures
    (one_more _ _ _ _ _ _ _ _ _ c.in_ok-appointments_due.ensures
    (one_more _ _ _ _ _ _ _ _ _ c.in_ok-appointments_due-2.ensures
    (one_more _ _ _ _ _ _ _ _ _ c.in_ok-timers_due.ensures
    (one_more _ _ _ _ _ _ _ _ _ c.in_ok-budgets_due.ensures q)))))) c.quantum_spent.ensures
