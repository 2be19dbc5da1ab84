-- More steps that are put together of those that leave worlds good: nothing is asked of the worlds between.
use Rattle.std.proofs.Common.{◌≡◌, Bool, true, false, List, [], ◌∷◌, ◌++◌, Option, Some, None, refl, ◌∙◌, append_assoc}
use Rattle.profile_machine.specs.declared.world.World.{World}
use Rattle.profile_machine.specs.declared.world.lines.Line.{Line}
use Rattle.profile_machine.specs.declared.world.lines.Part.{Part}
use Rattle.profile_machine.specs.declared.world.lines.Said.{Said}
use Rattle.profile_machine.specs.Steps.{Step, Done, done, nothing, changes, says, when, for_some, ◌▷◌}
use Rattle.machine_laws.proofs.FineMoves.{GoodWorld, Naming}
use Rattle.machine_laws.proofs.Kept.Combinators.{From, Kept, keeps-from, nothing-keeps}
use Rattle.world_laws.proofs.Behind.{Behind}
use Rattle.world_laws.proofs.Actions.FineMoves.{FineMoves, chains}

module _ {G : GoodWorld} {F : Naming} (moves : FineMoves G F) where
  moved-kept : (w v : World) (said : List Said) (d : Done) → Kept (Behind G) v said d → Kept (Behind G) w said d
  unfolding Kept
  moved-kept w v said (done u ys) a = a

  pub changes_then-from : (f : World → World) (g : Step) (w : World) → From (Behind G) (f w) g → From (Behind G) w (changes f ▷ g)
  unfolding From
  changes_then-from f g w a said = moved-kept w (f w) said (g (f w) said) (a said)

  more-kept : (w : World) (said more : List Said) (d : Done) → Kept (Behind G) w (said ++ more) d → Kept (Behind G) w said d
  unfolding Kept
  more-kept w said more (done u ys) a = (more ++ a.0, a.1 ∙ append_assoc said more a.0, a.2)

  pub says_then-from : (part : Part) (line : Line) (g : Step) (w : World) → From (Behind G) w g → From (Behind G) w (says part line ▷ g)
  unfolding From
  says_then-from part line g w a said =
      let more = record { part = part; line = line } ∷ [] in
      more-kept w said more (g w (said ++ more)) (a (said ++ more))

  pub when-from : (b : Bool) (step : Step) (w : World) → G w → (b ≡ true → From (Behind G) w step) → From (Behind G) w (when b step)
  when-from true step w good k = k refl
  when-from false step w good k = keeps-from (chains moves) nothing w good (nothing-keeps (chains moves))

  pub for_some-from : {X : Type 0} (x : Option X) (f : X → Step) (w : World) → G w → ((y : X) → x ≡ Some y → From (Behind G) w (f y))
      → From (Behind G) w (for_some x f)
  for_some-from None f w good k = keeps-from (chains moves) nothing w good (nothing-keeps (chains moves))
  for_some-from (Some x) f w good k = k x refl
