-- No instant changes the time, and a tock takes one tick.
use Rattle.std.proofs.Common.{◌≡◌, suc, List, None, ap, refl, ℤ, ◌∙◌}
use Rattle.profile_image.specs.declared.image.Image.{Image}
use Rattle.profile_machine.specs.declared.world.World.{World}
use Rattle.profile_machine.specs.Instant.{instant}
use Rattle.profile_machine.specs.Run.{tock, opening, blank_world, opens}
use Rattle.profile_image.specs.declared.script_items.Item.{Item}
use Rattle.profile_machine.specs.Dispatching.{choose}
use Rattle.machine_laws.proofs.FinestMoves.{all_of, tocks_of, effect-leads}
use Rattle.machine_laws.proofs.Kept.Run.{tock-parts, before_tick-leads, opens-keeps}
use Rattle.machine_laws.proofs.AtOnce.{at_once}
use Rattle.machine_laws.proofs.Kept.Instant.{instant-leads}
use Rattle.machine_laws.proofs.Kept.Combinators.{Leads}

pub instants_take_no_time : (p : Image) (w : World) → (instant p w).0.time ≡ w.time
unfolding Leads
instants_take_no_time p w = ap (λ x. x.0) (instant-leads (all_of at_once) p (record { puts = λ name s pieces text v w good is e. refl }) w tt)

pub instants_keep_runner : (p : Image) (w : World) → (instant p w).0.ran ≡ w.ran
unfolding Leads
instants_keep_runner p w = ap (λ x. x.1) (instant-leads (all_of at_once) p (record { puts = λ name s pieces text v w good is e. refl }) w tt)

pub tocks_take_one_tick : (p : Image) (w : World) → (tock p w).0.time ≡ suc w.time
unfolding Leads
tocks_take_one_tick p w =
    ap (λ a. a.0.time) (tock-parts p w)
    ∙ ap (λ x. suc x.0)
    (before_tick-leads (all_of at_once) (tocks_of (record { tells = λ event v k. refl; serves = λ r rest v k. refl })) p (choose w) w tt)

pub opening_now : (p : Image) (script : List (ℤ × Item)) → (opening p script).0.time ≡ 0
unfolding Leads
opening_now p script = ap (λ x. x.0) (effect-leads (all_of at_once).fine p (opens p) (opens-keeps (all_of at_once) p) (blank_world p script) tt)

pub opening-runner : (p : Image) (script : List (ℤ × Item)) → (opening p script).0.ran ≡ None
unfolding Leads
opening-runner p script = ap (λ x. x.1) (effect-leads (all_of at_once).fine p (opens p) (opens-keeps (all_of at_once) p) (blank_world p script) tt)
