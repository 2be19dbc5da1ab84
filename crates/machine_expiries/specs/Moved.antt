-- What a part of an instant has done: a move of the machine.
use Rattle.std.specs.Prelude.{◌≡◌, ◌++◌, [], List}
use Rattle.profile_image.specs.declared.image.Image.{Image}
use Rattle.profile_machine.specs.declared.world.lines.Line.{Line}
use Rattle.profile_machine.specs.Steps.{Move}
use Rattle.machine_frames.specs.declared.effects.Effect.{Effect}
use Rattle.machine_dispatching.specs.Settling.{written}

-- the move leads from the world before to the world behind, its lines stand behind those that were there, and nothing
-- is said that is not in order
pub record Moved (p : Image) (move : Move) (before : Effect) (told : List Line) (after : Effect)
    (more : List Line) : Type 0 where
  pub world : after.world ≡ (move before.world).0
  pub lines : written p more ≡ written p told ++ (move before.world).1
  pub in_order : after.said ≡ []
