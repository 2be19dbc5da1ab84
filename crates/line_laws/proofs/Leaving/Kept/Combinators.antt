-- More steps that are put together of those that keep a relation.
use Rattle.std.proofs.Common.{Bool, true, false, List}
use Rattle.std.specs.Prelude.{filter}
use Rattle.trace_text.specs.declared.events.Who.{Who}
use Rattle.profile_machine.specs.declared.world.World.{World}
use Rattle.profile_machine.specs.declared.world.tasks.Task.{Task}
use Rattle.profile_machine.specs.declared.world.lines.Said.{Said}
use Rattle.profile_machine.specs.Steps.{Step, Done, done, goes_on_with, nothing, looks, when, for_each, ◌▷◌}
use Rattle.machine_laws.proofs.Moves.{StepRelation, MoveRelation}
use Rattle.line_laws.proofs.Leaving.FineMoves.{FineMoves, Free, chains}
use Rattle.machine_laws.proofs.FineMoves.{GoodWorld, Naming}
use Rattle.machine_laws.proofs.Kept.Combinators.{From, Keeps, Kept, after-from, for_each-keeps, keeps-from, looks-keeps, nothing-keeps}

module _ {G : GoodWorld} {May Acts Pushes : Naming} {Stops : Type 0} {R : StepRelation} {Q : MoveRelation} (moves : FineMoves G May Acts Pushes Stops R Q) where
  pub when-from : (b : Bool) (f : Step) (w : World) → G w → From R w f → From R w (when b f)
  when-from true f w good a = a
  when-from false f w good a = keeps-from (chains moves) nothing w good (nothing-keeps (chains moves))

  -- steps in another grouping
  regrouped-kept : (g h : Step) (w : World) (said : List Said) (d : Done) → Kept R w said (goes_on_with (g ▷ h) d)
      → Kept R w said (goes_on_with h (goes_on_with g d))
  regrouped-kept g h w said (done v ys) a = a

  pub regrouped-from : (f g h : Step) (w : World) → From R w (f ▷ (g ▷ h)) → From R w ((f ▷ g) ▷ h)
  unfolding From
  regrouped-from f g h w a said = regrouped-kept g h w said (f w said) (a said)

  -- who is free before a step is free behind it
  pub free_then-from : (name : Who) (f g : Step) (w : World) → Free name w → From R w f → ((v : World) → G v → Free name v → From R v g) → From R w (f ▷ g)
  free_then-from name f g w free a k = after-from (chains moves) f g w a (λ v xs h. k v (moves.behind w v h) (moves.still_free name w v h free))

  -- of the tasks for which a test holds
  pub listed-keeps : (test : World → Task → Bool) (f : World → Task → Step) → ((w : World) (t : Task) → Keeps G R (f w t))
      → Keeps G R (looks (λ w. for_each (filter (test w) w.tasks) (f w)))
  listed-keeps test f a = looks-keeps (chains moves) _ (λ w. for_each-keeps (chains moves) (filter (test w) w.tasks) (f w) (a w))
