-- More steps that are put together of those that keep a relation.
use Rattle.std.proofs.Common.{List, [], ◌∷◌, ◌++◌, refl}
use Rattle.profile_machine.specs.declared.world.World.{World}
use Rattle.profile_machine.specs.declared.world.tasks.Task.{Task}
use Rattle.profile_machine.specs.declared.world.lines.Line.{Line}
use Rattle.profile_machine.specs.declared.world.lines.Part.{Part}
use Rattle.profile_machine.specs.declared.world.lines.Said.{Said}
use Rattle.profile_machine.specs.Steps.{Step, Done, done, goes_on_with, nothing, changes, says, for_each, ◌▷◌}
use Rattle.machine_laws.proofs.Moves.{StepRelation, MoveRelation}
use Rattle.world_laws.proofs.Marks.FineMoves.{FineMoves, chains}
use Rattle.world_laws.proofs.Queues.Listed.{AllTasks}
use Rattle.machine_laws.proofs.FineMoves.{GoodWorld, Naming}
use Rattle.machine_laws.proofs.Kept.Combinators.{From, Kept, keeps-from, nothing-keeps, then-kept}

module _ {G : GoodWorld} {May Other : Naming} {R : StepRelation} {Q : MoveRelation} (moves : FineMoves G May Other R Q) where
  pub told_then-from : (part : Part) (line : Line) (f : World → World) (g : Step) (w : World) → R w (record { part = part; line = line } ∷ []) (f w)
      → From R (f w) g → From R w (says part line ▷ changes f ▷ g)
  unfolding From Kept
  told_then-from part line f g w a b said =
      let more = said ++ record { part = part; line = line } ∷ [] in
      then-kept (chains moves) w (f w) said more (g (f w) more) (record { part = part; line = line } ∷ [], refl, a) (b more)

  -- a change, a line and a change, where only all of them together lead to a good world
  pub changes_said_changes-from : (f g : World → World) (part : Part) (line : Line) (w : World) → R w (record { part = part; line = line } ∷ []) (g (f w))
      → From R w (changes f ▷ says part line ▷ changes g)
  unfolding From Kept
  changes_said_changes-from f g part line w a said = (record { part = part; line = line } ∷ [], refl, a)

  pub changes_told_then-from : (f g : World → World) (part : Part) (line : Line) (h : Step) (w : World)
      → R w (record { part = part; line = line } ∷ []) (g (f w)) → From R (g (f w)) h → From R w (changes f ▷ changes g ▷ says part line ▷ h)
  unfolding From Kept
  changes_told_then-from f g part line h w a b said =
      let more = said ++ record { part = part; line = line } ∷ [] in
      then-kept (chains moves) w (g (f w)) said more (h (g (f w)) more) (record { part = part; line = line } ∷ [], refl, a) (b more)

  -- a step, and one behind it where something that stays so is known
  known-kept : (X : World → Type 0) → ((a b : World) (xs : List Said) → R a xs b → X a → X b) → (g : Step) (w : World) (said : List Said) (d : Done)
      → Kept R w said d → X w → ((v : World) → G v → X v → From R v g) → Kept R w said (goes_on_with g d)
  unfolding From Kept
  known-kept X still g w said (done v ys) k x next = then-kept (chains moves) w v said ys (g v ys) k (next v (moves.behind w v k.2) (still w v k.0 k.2 x) ys)

  pub then_known-from : (X : World → Type 0) → ((a b : World) (xs : List Said) → R a xs b → X a → X b) → (f g : Step) (w : World) → X w → From R w f
      → ((v : World) → G v → X v → From R v g) → From R w (f ▷ g)
  unfolding From
  then_known-from X still f g w x a next said = known-kept X still g w said (f w said) (a said) x next

  -- the same of each of some tasks, of which something that stays so is known
  still_each : (X : Task → World → Type 0) → ((t : Task) (a b : World) (xs : List Said) → R a xs b → X t a → X t b)
      → (ts : List Task) (a b : World) (xs : List Said) → R a xs b → AllTasks (λ t. X t a) ts → AllTasks (λ t. X t b) ts
  still_each X still [] a b xs r k = tt
  still_each X still (t ∷ ts) a b xs r k = (still t a b xs r k.0, still_each X still ts a b xs r k.1)

  pub for_each_known-from : (X : Task → World → Type 0) → ((t : Task) (a b : World) (xs : List Said) → R a xs b → X t a → X t b) → (f : Task → Step)
      → ((t : Task) (w : World) → G w → X t w → From R w (f t))
      → (ts : List Task) (w : World) → G w → AllTasks (λ t. X t w) ts → From R w (for_each ts f)
  for_each_known-from X still f each [] w good known = keeps-from (chains moves) nothing w good (nothing-keeps (chains moves))
  for_each_known-from X still f each (t ∷ ts) w good known =
      then_known-from (λ v. AllTasks (λ u. X u v) ts) (still_each X still ts) (f t) (for_each ts f) w known.1 (each t w good known.0)
      (λ v good_v k. for_each_known-from X still f each ts v good_v k)
