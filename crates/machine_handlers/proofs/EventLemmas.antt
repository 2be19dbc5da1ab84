-- What is done to an event is told by what its setting gives.
use Rattle.std.proofs.Common.{◌≡◌, pos, List, Option, refl}
use Rattle.trace_text.specs.declared.events.Who.{Who}
use Rattle.profile_image.specs.declared.image.Image.{Image}
use Rattle.profile_image.specs.declared.numbers.DeclNo.{DeclNo}
use Rattle.profile_image.specs.declared.numbers.StatementNo.{StatementNo}
use Rattle.profile_image.specs.declared.expressions.VariableName.{VariableName}
use Rattle.profile_image.specs.declared.statements.HandlerName.{HandlerName}
use Rattle.profile_image.specs.declared.statements.Setting.{Setting}
use Rattle.profile_machine.specs.declared.world.World.{World}
use Rattle.profile_machine.specs.declared.world.lines.Part.TheVariants.{Own}
use Rattle.profile_machine.specs.declared.world.lines.Said.{Said}
use Rattle.profile_machine.specs.Frames.{given}
use Rattle.profile_machine.specs.Values.{seen_by, number_of_thing, variable}
use Rattle.profile_machine.specs.Handlers.{set_event, cancel_event}
use Rattle.machine_handlers.specs.Settings.{event_setting, thing_named}
use Rattle.machine_handlers.specs.SettingSteps.{event_is_set, event_is_cancelled}
use Rattle.machine_handlers.proofs.GivenLemmas.{bound}
use Rattle.machine_handlers.proofs.SettingLemmas.{setting_of-is}

pub set_event-is : (p : Image) (name : Who) (s : StatementNo) (d : DeclNo) (set : Setting) (handler : Option HandlerName) (w : World) (said : List Said)
    → set_event p name s d set handler w said ≡ given Own name (event_setting (seen_by p w name) d set handler) (event_is_set p name s) w said
unfolding set_event
set_event-is p name s d set handler w said =
    let q = seen_by p w name in
    bound name w said (number_of_thing q d) _ _ (event_is_set p name s) (λ e.
    setting_of-is name q said e (pos w.time) set handler _ (event_is_set p name s) (λ h v. refl))

pub cancel_event-is : (p : Image) (name : Who) (s : StatementNo) (d : DeclNo) (target : VariableName) (w : World) (said : List Said)
    → cancel_event p name s d target w said ≡ given Own name (thing_named (seen_by p w name) d target) (event_is_cancelled p name s) w said
unfolding cancel_event
cancel_event-is p name s d target w said =
    let q = seen_by p w name in
    bound name w said (number_of_thing q d) _ _ (event_is_cancelled p name s) (λ e.
    bound name w said (variable q target) _ _ (event_is_cancelled p name s) (λ v. refl))

pub ruleset event_laws = (set_event-is, cancel_event-is)
