use Rattle.std.proofs.Common.{refl, sym}
use Rattle.profile_machine.specs.Calls.{is_call}
use Rattle.rosters.proofs.FoundLemmas.{find_none}
use Rattle.machine_queues.proofs.calls.call_mut.Goals as goal

pub returns-in-None : goal.returns-in-None
returns-in-None c = (refl, record { writes_back = tt; value = sym (find_none (is_call c.args.c) c.args.calls.now (sym c.in-None.ensures)) })
