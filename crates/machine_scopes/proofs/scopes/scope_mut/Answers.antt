use Rattle.std.proofs.Common.{refl, sym}
use Rattle.profile_machine.specs.Scopes.{is_id}
use Rattle.rosters.proofs.FoundLemmas.{find_none}
use Rattle.machine_scopes.proofs.scopes.scope_mut.Goals as goal

pub returns-in-None : goal.returns-in-None
returns-in-None c = (refl, record { writes_back = tt; value = sym (find_none (is_id c.args.id) c.args.scopes.now (sym c.in-None.ensures)) })
