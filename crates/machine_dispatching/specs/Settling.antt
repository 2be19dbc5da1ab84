-- An effect that is over, and lines as they are written.
use Rattle.std.specs.Prelude.{◌≡◌, ◌++◌, List, map}
use Rattle.trace_text.specs.declared.events.Event.{Event}
use Rattle.profile_image.specs.declared.image.Image.{Image}
use Rattle.profile_machine.specs.declared.world.World.{World}
use Rattle.profile_machine.specs.declared.world.lines.Line.{Line}
use Rattle.profile_machine.specs.declared.world.lines.Said.{Said}
use Rattle.profile_machine.specs.Lines.{event_of}
use Rattle.profile_machine.specs.Steps.{done, settled}
use Rattle.machine_frames.specs.declared.effects.Effect.{Effect}

-- lines with their names
abbrev pub written : Image → List Line → List Event
written p lines = map (event_of p) lines

-- what was said, as it is written
abbrev pub said_as : Image → List Said → List Event
said_as p said = map (λ x. event_of p x.line) said

-- the world in which the effect is settled, and its lines behind those that were there before
abbrev pub Settles : Image → Effect → List Line → World → List Line → Type 0
Settles p effect before world after =
    (world ≡ (settled p (done effect.world effect.said)).0)
    × (written p after ≡ written p before ++ (settled p (done effect.world effect.said)).1)
