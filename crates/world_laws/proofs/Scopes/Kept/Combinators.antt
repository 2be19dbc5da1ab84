-- More steps that are put together of those that keep a relation.
use Rattle.std.proofs.Common.{[]}
use Rattle.profile_machine.specs.declared.world.World.{World}
use Rattle.profile_machine.specs.Steps.{Step, changes, ◌▷◌}
use Rattle.machine_laws.proofs.Moves.{StepRelation, MoveRelation}
use Rattle.world_laws.proofs.Scopes.FineMoves.{FineMoves, chains}
use Rattle.machine_laws.proofs.FineMoves.{GoodWorld, Naming}
use Rattle.machine_laws.proofs.Kept.Combinators.{From, silent-kept, then-kept}

module _ {G : GoodWorld} {May Other : Naming} {R : StepRelation} {Q : MoveRelation} (moves : FineMoves G May Other R Q) where
  -- two changes that are made as one, and a step from the world that they make
  pub both_then-from : (f g : World → World) (h : Step) (w : World) → R w [] (g (f w)) → From R (g (f w)) h → From R w (changes f ▷ changes g ▷ h)
  unfolding From
  both_then-from f g h w a b said = then-kept (chains moves) w (g (f w)) said said (h (g (f w)) said) (silent-kept (chains moves) w (g (f w)) said a) (b said)

  -- four
  pub four_then-from : (f g h k : World → World) (rest : Step) (w : World) → R w [] (k (h (g (f w)))) → From R (k (h (g (f w)))) rest
      → From R w (changes f ▷ changes g ▷ changes h ▷ changes k ▷ rest)
  unfolding From
  four_then-from f g h k rest w a b said =
      then-kept (chains moves) w (k (h (g (f w)))) said said (rest (k (h (g (f w)))) said) (silent-kept (chains moves) w (k (h (g (f w)))) said a) (b said)
