use Rattle.std.proofs.Common.{refl, sym}
use Rattle.profile_machine.specs.Values.{is_object}
use Rattle.rosters.proofs.FoundLemmas.{find_none}
use Rattle.machine_queues.proofs.objects.object_mut.Goals as goal

pub returns-in-None : goal.returns-in-None
returns-in-None c = (refl, record { writes_back = tt; value = sym (find_none (is_object c.args.number) c.args.objects.now (sym c.in-None.ensures)) })
