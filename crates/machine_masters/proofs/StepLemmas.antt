-- The steps of a task that terminates.
use Rattle.std.proofs.Common.{◌≡◌, Option, List, ap, sym, ◌∙◌}
use Rattle.ann_base.specs.declared.identities.RegionNo.{RegionNo}
use Rattle.trace_text.specs.declared.events.Who.{Who}
use Rattle.profile_image.specs.declared.image.Image.{Image}
use Rattle.profile_machine.specs.declared.world.World.{World}
use Rattle.profile_machine.specs.declared.world.lines.Said.{Said}
use Rattle.profile_machine.specs.Appointments.{drop_delay}
use Rattle.profile_machine.specs.Masters.{complete, forget_task, wake_master, terminate}
use Rattle.profile_machine.specs.Steps.{done, goes_on_with, changes, for_some, ◌▷◌}
use Rattle.profile_machine.specs.Tasks.{task_of}

-- a task that terminates, step by step
pub terminated : (p : Image) (w : World) (said : List Said) (name actor : Who) (master : Option RegionNo) (completed undelayed forgotten : World)
    (told : List Said)
    → master ≡ (task_of w name).master
    → complete p actor name w said ≡ done completed told
    → undelayed ≡ drop_delay name completed
    → forgotten ≡ forget_task name undelayed
    → terminate p actor name w said ≡ for_some master (wake_master p actor) forgotten told
unfolding terminate
terminated p w said name actor master completed undelayed forgotten told m c u f =
    let woken = λ (o : Option RegionNo) (x : World). for_some o (wake_master p actor) x told in
    ap (goes_on_with (changes (drop_delay name) ▷ changes (forget_task name) ▷ for_some (task_of w name).master (wake_master p actor))) c
    ∙ (ap (λ o. woken o (forget_task name (drop_delay name completed))) (sym m)
    ∙ ap (woken master) (ap (forget_task name) (sym u) ∙ sym f))
