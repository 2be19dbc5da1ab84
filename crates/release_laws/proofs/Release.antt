-- A release is told, and of what is released later it leaves everything as it is, and the protected objects too.
use Rattle.std.proofs.Common.{◌≡◌, ℕ, List, [], ◌∷◌, ◌++◌, Option, refl, append_assoc}
use Rattle.profile_image.specs.declared.image.Image.{Image}
use Rattle.profile_machine.specs.declared.world.World.{World}
use Rattle.profile_machine.specs.declared.world.appointments.HandlerOf.{HandlerOf}
use Rattle.profile_machine.specs.declared.world.lines.Line.TheVariants as line
use Rattle.profile_machine.specs.declared.world.lines.Part.TheVariants.{Own}
use Rattle.profile_machine.specs.declared.world.lines.Said.{Said}
use Rattle.profile_machine.specs.declared.world.tasks.State.{State}
use Rattle.profile_machine.specs.declared.world.tasks.State.TheVariants.{Made, Runnable, Blocked}
use Rattle.profile_machine.specs.Dispatching.{says_ready, to_tail, ready}
use Rattle.profile_machine.specs.Handlers.{add_release, says_release, wake_agent, release}
use Rattle.machine_laws.proofs.Kept.Combinators.{Kept, From}
use Rattle.machine_laws.proofs.Moves.{own}
use Rattle.release_laws.proofs.Untouched.{sight_of, Untouched, untouched}
use Rattle.release_laws.proofs.Tellings.{Tells}

pub record Released (h : HandlerOf) (before : World) (said : List Said) (after : World) : Type 0 where
  pub others : Untouched (sight_of before) (sight_of after)
  pub objects : after.objects ≡ before.objects
  pub tells : Tells (h ∷ []) said

woken : (p : Image) (h : HandlerOf) (argument : Option ℕ) (w : World) (said : List Said) (state : State)
    → Kept (Released h) w said (wake_agent p Own state (add_release h argument w) (said ++ own (line.Release (add_release h argument w).drawn.releases h) ∷ []))
unfolding Kept wake_agent ready to_tail says_ready
woken p h argument w said (Blocked waiting) = (
  _,
  append_assoc said (own (line.Release (add_release h argument w).drawn.releases h) ∷ []) _,
  record { others = untouched (sight_of w); objects = refl; tells = λ more. (refl, refl, refl) },
)
woken p h argument w said Runnable = (
  own (line.Release (add_release h argument w).drawn.releases h) ∷ [],
  refl,
  record { others = untouched (sight_of w); objects = refl; tells = λ more. (refl, refl, refl) },
)
woken p h argument w said Made = (
  own (line.Release (add_release h argument w).drawn.releases h) ∷ [],
  refl,
  record { others = untouched (sight_of w); objects = refl; tells = λ more. (refl, refl, refl) },
)

pub release-from : (p : Image) (h : HandlerOf) (argument : Option ℕ) (w : World) → From (Released h) w (release p Own h argument)
unfolding From release says_release
release-from p h argument w said = woken p h argument w said w.agent.state
