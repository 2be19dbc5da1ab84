-- What steps and moves ask of a relation to be put together.
use Rattle.std.proofs.Common.{List, [], ◌++◌}
use Rattle.trace_text.specs.declared.events.Event.{Event}
use Rattle.profile_image.specs.declared.image.Image.{Image}
use Rattle.profile_machine.specs.declared.world.World.{World}
use Rattle.profile_machine.specs.declared.world.lines.Said.{Said}
use Rattle.profile_machine.specs.Steps.{placed_by}
use Rattle.machine_laws.proofs.Moves.{StepRelation, MoveRelation, lines_of}
use Rattle.machine_laws.proofs.FineMoves.{GoodWorld}

-- steps: what is done leads to good worlds, nothing may be done, and one step follows another
pub record Chains (G : GoodWorld) (R : StepRelation) : Type 0 where
  pub behind : (a b : World) {xs : List Said} → R a xs b → G b
  pub stays : (w : World) → G w → R w [] w
  pub goes_on : (a b c : World) {xs ys : List Said} → R a xs b → R b ys c → R a (xs ++ ys) c

-- moves: the same
pub record MoveChains (G : GoodWorld) (Q : MoveRelation) : Type 0 where
  pub moved : (a b : World) {xs : List Event} → Q a xs b → G b
  pub leads_on : (a b c : World) {xs ys : List Event} → Q a xs b → Q b ys c → Q a (xs ++ ys) c

-- an effect that is over is a move
abbrev pub Settles : Image → StepRelation → MoveRelation → Type 0
Settles p R Q = (a b : World) (xs : List Said) → R a xs b → Q a (lines_of p xs) (placed_by (lines_of p xs) b)
