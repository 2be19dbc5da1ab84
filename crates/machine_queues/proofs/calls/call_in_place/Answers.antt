use Rattle.std.proofs.Common.{ap, ◌∙◌}
use Rattle.profile_machine.specs.Calls.{is_call}
use Rattle.rosters.proofs.FoundLemmas.{set_at_position, get_at_position}
use Rattle.machine_queues.proofs.calls.call_in_place.Goals as goal

pub returns : goal.returns
returns c = (
  ap (λ F. borrow.Follows.Closed.read_of (Rattle.std.specs.Option.ghost_name_of c.get_mut.result) F c.args.calls.now)
      (λ i t. set_at_position (is_call c.args.c) t c.args.calls.now c.args.place c.requires i),
  record { writes_back = tt; value = c.get_mut.ensures.value ∙ get_at_position (is_call c.args.c) c.args.calls.now c.args.place c.requires },
)
