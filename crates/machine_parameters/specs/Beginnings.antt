-- How bodies begin.
use Rattle.std.specs.Prelude.{Option}
use Rattle.ann_base.specs.declared.identities.ObjectNo.{ObjectNo}
use Rattle.profile_machine.specs.declared.world.scopes.Beginning.{Beginning}
use Rattle.profile_machine.specs.declared.world.scopes.Handed.{Handed}
use Rattle.profile_machine.specs.declared.world.scopes.ScopeId.{ScopeId}

-- how a called body begins: round it stands this scope in use, and it works on this object
abbrev pub body_beginning : Option ScopeId → Option ObjectNo → Handed → Beginning
body_beginning outer object h = record { outer = outer; object = object; subject = h.subject; values = h.values }
