-- What is done to a timer is told by what its setting gives.
use Rattle.std.proofs.Common.{◌≡◌, pos, List, Option, Ok, refl, ◌∙◌}
use Rattle.trace_text.specs.declared.events.Who.{Who}
use Rattle.profile_image.specs.declared.image.Image.{Image}
use Rattle.profile_image.specs.declared.numbers.DeclNo.{DeclNo}
use Rattle.profile_image.specs.declared.numbers.StatementNo.{StatementNo}
use Rattle.profile_image.specs.declared.expressions.VariableName.{VariableName}
use Rattle.profile_image.specs.declared.statements.HandlerName.{HandlerName}
use Rattle.profile_image.specs.declared.statements.Setting.{Setting}
use Rattle.profile_machine.specs.declared.world.World.{World}
use Rattle.profile_machine.specs.declared.world.lines.Part.TheVariants.{Own}
use Rattle.profile_machine.specs.declared.world.lines.Said.{Said}
use Rattle.profile_machine.specs.Frames.{given}
use Rattle.profile_machine.specs.Values.{seen_by, number_of_thing, variable}
use Rattle.profile_machine.specs.Handlers.{set_timer, cancel_timer, clock_of_timer}
use Rattle.machine_handlers.specs.Settings.{timer_setting, timer_named, set_with}
use Rattle.machine_handlers.specs.SettingSteps.{timer_is_set, timer_is_cancelled}
use Rattle.machine_handlers.proofs.GivenLemmas.{bound}
use Rattle.machine_handlers.proofs.SettingLemmas.{setting_of-is}

pub set_timer-is : (p : Image) (name : Who) (s : StatementNo) (d : DeclNo) (set : Setting) (handler : Option HandlerName) (w : World) (said : List Said)
    → set_timer p name s d set handler w said
    ≡ given Own name (timer_setting (seen_by p w name) d set handler) (λ x. timer_is_set p name s x.clock x.set) w said
unfolding set_timer
set_timer-is p name s d set handler w said =
    let q = seen_by p w name in
    bound name w said (number_of_thing q d) _ _ (λ x. timer_is_set p name s x.clock x.set) (λ k.
    bound name w said (clock_of_timer q k) _ _ (λ x. timer_is_set p name s x.clock x.set) (λ clock.
    setting_of-is name q said k (pos clock) set handler _ (timer_is_set p name s clock) (λ h v. refl)
    ∙ bound name w said (set_with q k (pos clock) set handler) (timer_is_set p name s clock) (λ x. Ok (record { clock = clock; set = x }))
    (λ x. timer_is_set p name s x.clock x.set) (λ x. refl)))

pub cancel_timer-is : (p : Image) (name : Who) (s : StatementNo) (d : DeclNo) (target : VariableName) (w : World) (said : List Said)
    → cancel_timer p name s d target w said ≡ given Own name (timer_named (seen_by p w name) d target) (timer_is_cancelled p name s) w said
unfolding cancel_timer
cancel_timer-is p name s d target w said =
    let q = seen_by p w name in
    bound name w said (number_of_thing q d) _ _ (timer_is_cancelled p name s) (λ k.
    bound name w said (clock_of_timer q k) _ _ (timer_is_cancelled p name s) (λ clock.
    bound name w said (variable q target) _ _ (timer_is_cancelled p name s) (λ v. refl)))

pub ruleset timer_laws = (set_timer-is, cancel_timer-is)
