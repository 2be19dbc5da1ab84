use Rattle.std.proofs.Common.{ap, ◌∙◌}
use Rattle.profile_machine.specs.Tasks.{is_who}
use Rattle.rosters.proofs.FoundLemmas.{set_at_position, get_at_position}
use Rattle.machine_frames.proofs.tasks.task_in_place.Goals as goal

pub returns : goal.returns
returns c = (
  ap (λ F. borrow.Follows.Closed.read_of (Rattle.std.specs.Option.ghost_name_of c.get_mut.result) F c.args.tasks.now)
      (λ i t. set_at_position (is_who c.args.name) t c.args.tasks.now c.args.place c.requires i),
  record { writes_back = tt; value = c.get_mut.ensures.value ∙ get_at_position (is_who c.args.name) c.args.tasks.now c.args.place c.requires },
)
