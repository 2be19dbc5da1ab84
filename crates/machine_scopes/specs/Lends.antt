-- What the scopes in use end as, where a `&mut` to one of them is returned.
use Rattle.std.specs.Prelude.{Option, List}
use Rattle.std.specs.Borrow.{LendsIf, Fml, MutBor}
use Rattle.rosters.specs.contracts.roster.Roster.{the_row as roster_row}
use Rattle.profile_machine.specs.contracts.world.scopes.ScopeInUse.{the_row as scope_row}
use Rattle.profile_machine.specs.contracts.world.scopes.ScopeInUseNumbered.TheImpl.{ghosts as scope_numbered}
use Rattle.profile_machine.specs.declared.world.scopes.ScopeId.{ScopeId}
use Rattle.profile_machine.specs.declared.world.scopes.ScopeInUse.{ScopeInUse}
use Rattle.profile_machine.specs.Scopes.{is_id}
use Rattle.profile_image.specs.Words.{set_where}

-- the scopes end with the last value behind r in the place of the first with this id, and at `None` stay as they are
abbrev pub lends_scope : MutBor (List ScopeInUse) → ScopeId → Option (MutBor ScopeInUse) → Fml
lends_scope s id r =
    LendsIf (roster_row scope_row scope_numbered) scope_row s r (λ x. set_where (is_id id) x s.now) s.now
