-- The numbers of scopes in use.
use Rattle.std.specs.Prelude.{ℕ, Bool, eqb}
use Rattle.profile_machine.specs.declared.world.scopes.ScopeId.{ScopeId}

abbrev pub scope_id : ℕ → ScopeId
scope_id n = record { 0 = n }

abbrev pub same_id : ScopeId → ScopeId → Bool
same_id a b = eqb a.0 b.0
