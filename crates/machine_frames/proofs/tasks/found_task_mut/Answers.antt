use Rattle.std.proofs.Common.{refl, sym}
use Rattle.profile_machine.specs.Tasks.{is_who}
use Rattle.rosters.proofs.FoundLemmas.{find_none}
use Rattle.machine_frames.proofs.tasks.found_task_mut.Goals as goal

pub returns-in-None : goal.returns-in-None
returns-in-None c = (refl, record { writes_back = tt; value = sym (find_none (is_who c.args.name) c.args.tasks.now (sym c.in-None.ensures)) })
