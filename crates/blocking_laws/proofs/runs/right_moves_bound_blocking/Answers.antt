-- What else the protocol asks, every run keeps.
use Rattle.profile_machine.specs.Run.{run_of}
use Rattle.blocking_laws.specs.MovingLaws.{KeepsProtocol}
use Rattle.blocking_laws.proofs.ChoiceLemmas.{chooses_by_order}
use Rattle.blocking_laws.proofs.runs.right_moves_bound_blocking.Goals as goal

pub returns : goal.returns
returns c = λ p low script bound moves.
    let protocol : KeepsProtocol (run_of p script bound) = record {
      rises = c.ticks_never_fall.ensures p script bound;
      dispatch = c.runs_dispatch.ensures p script bound;
      ceilings = c.runs_keep_the_law_of_ceilings.ensures p low script bound;
      exclusion = c.runs_keep_exclusion.ensures p script bound;
      choice = chooses_by_order (run_of p script bound) (c.runs_are_in_tick_order.ensures p script bound);
      moves = moves;
    } in
    record {
      held = c.protocol_bounds_blocking.ensures.held (run_of p script bound) protocol;
      blocked = c.protocol_bounds_blocking.ensures.blocked (run_of p script bound) protocol;
      one_action = c.protocol_bounds_blocking.ensures.one_action (run_of p script bound) protocol;
    }
