-- What is sought among the scopes in use, from one outwards.
use Rattle.std.specs.Prelude.{Bool}
use Rattle.profile_machine.specs.declared.world.World.{World}
use Rattle.profile_machine.specs.declared.world.scopes.ScopeInUse.{ScopeInUse}
use Rattle.profile_image.specs.Words.{same_scope}
use Rattle.profile_machine.specs.Values.{works_on_unit}
use Rattle.machine_scopes.specs.declared.scopes.Sought.{Sought}
use Rattle.machine_scopes.specs.declared.scopes.Sought.TheVariants.{Scope, BodyOf}

abbrev pub is_sought : World → Sought → ScopeInUse → Bool
is_sought w (Scope n) = λ s. same_scope s.scope n
is_sought w (BodyOf u) = works_on_unit w u
