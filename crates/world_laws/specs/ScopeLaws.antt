-- What a name denotes is found from a scope in use outwards (8.2): in the scope itself, in the one round it, and so on.
use Rattle.std.specs.Prelude.{◌≡◌, ℕ, suc, ◌+◌, Bool, Option, length}
use Rattle.profile_machine.specs.declared.world.World.{World}
use Rattle.profile_machine.specs.declared.world.scopes.ScopeId.{ScopeId}
use Rattle.profile_machine.specs.declared.world.scopes.ScopeInUse.{ScopeInUse}
use Rattle.profile_machine.specs.Scopes.{outwards, first_outwards}

-- the machine counts down from one more than there are scopes in use; counted from more, the same one is found, or none
abbrev pub OutwardsEnd : Type 0
OutwardsEnd = (w : World) (test : ScopeInUse → Bool) (id : Option ScopeId) (more : ℕ)
    → outwards (suc (length w.scopes) + more) w.scopes test id ≡ first_outwards w test id
