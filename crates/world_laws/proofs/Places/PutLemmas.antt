-- What one line more says of somebody's place.
use Rattle.world_laws.proofs.Places.PartOrder.{last_put-append}
use Rattle.world_laws.proofs.Places.Puts.{Spot, last_put, puts, with_put}
use Rattle.profile_machine.specs.declared.world.lines.Line.{Line}
use Rattle.profile_machine.specs.declared.world.lines.Line.TheVariants as line
use Rattle.profile_machine.specs.declared.world.lines.Part.{Part}
use Rattle.profile_machine.specs.declared.world.lines.Said.{Said}
use Rattle.std.proofs.Common.{List, None, Option, Some, [], ap, false, refl, ◌++◌, ◌∙◌, ◌∷◌, ◌≡◌}
use Rattle.trace_text.specs.declared.events.Who.{Who}
use Rattle.ceiling_laws.proofs.Runs.LevelMoves.{is_apart, said_so}

pub puts-apart : (n : Who) (x : Line) → is_apart x ≡ false → puts n x ≡ None
puts-apart n (line.Ready name level end deadline) e = absurd cc
puts-apart n (line.Block name waits) e = absurd cc
puts-apart n (line.Done t) e = absurd cc
puts-apart n _ e = refl

with-none : (last : Option (Part × Option Spot)) (part : Part) → with_put last part None ≡ last
with-none None part = refl
with-none (Some last) part = refl

-- a line that does not speak of it
pub unsaid : (n : Who) (said : List Said) (part : Part) (x : Line) → puts n x ≡ None → last_put n (said ++ said_so part x ∷ []) ≡ last_put n said
unsaid n said part x e = last_put-append n said (said_so part x) ∙ ap (with_put (last_put n said) part) e ∙ with-none (last_put n said) part
