-- One scope more is looked at, where there is fuel.
use Rattle.std.proofs.Common.{◌≡◌, ◌≢◌, ℕ, suc, ◌-◌, Bool, List, Option, ap, arith}
use Rattle.profile_machine.specs.declared.world.scopes.ScopeId.{ScopeId}
use Rattle.profile_machine.specs.declared.world.scopes.ScopeInUse.{ScopeInUse}
use Rattle.profile_machine.specs.Scopes.{outwards}

pub outwards_more : (n : ℕ) (scopes : List ScopeInUse) (test : ScopeInUse → Bool) (id : Option ScopeId) → n ≢ 0
    → outwards n scopes test id ≡ outwards (suc (n - 1)) scopes test id
outwards_more n scopes test id h = let e : n ≡ suc (n - 1) = omega arith in ap (λ m. outwards m scopes test id) e
