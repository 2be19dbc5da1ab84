-- What an expression sees, from its parts.
use Rattle.std.specs.Prelude.{Option}
use Rattle.ann_base.specs.declared.identities.ObjectNo.{ObjectNo}
use Rattle.trace_text.specs.declared.events.Who.{Who}
use Rattle.profile_image.specs.declared.image.Image.{Image}
use Rattle.profile_machine.specs.declared.world.World.{World}
use Rattle.profile_machine.specs.declared.world.scopes.ScopeId.{ScopeId}
use Rattle.profile_machine.specs.Values.{Seen}

abbrev pub sight_of : Image → World → Who → Option ScopeId → Option ObjectNo → Seen
sight_of p w name id o = record { program = p; world = w; who = name; within = id; object = o }
