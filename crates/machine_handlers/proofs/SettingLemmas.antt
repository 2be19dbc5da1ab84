-- A setting with its handler is one value.
use Rattle.std.proofs.Common.{◌≡◌, ℕ, ℤ, not, ◌&&◌, List, Option, is_some}
use Rattle.ann_base.specs.declared.exceptions.Raised.TheVariants as exception
use Rattle.trace_text.specs.declared.events.Who.{Who}
use Rattle.profile_image.specs.declared.statements.HandlerName.{HandlerName}
use Rattle.profile_image.specs.declared.statements.Setting.{Setting}
use Rattle.profile_machine.specs.declared.world.appointments.HandlerOf.{HandlerOf}
use Rattle.profile_machine.specs.declared.world.lines.Part.TheVariants.{Own}
use Rattle.profile_machine.specs.declared.world.lines.Said.{Said}
use Rattle.profile_machine.specs.Steps.{Step}
use Rattle.profile_machine.specs.Frames.{given}
use Rattle.profile_machine.specs.Values.{Seen}
use Rattle.profile_machine.specs.Handlers.{handler_named, set_value, setting_of, is_interrupt_handler, has_room_for_release}
use Rattle.machine_handlers.specs.declared.settings.Set.{Set}
use Rattle.machine_handlers.specs.Settings.{set_with}
use Rattle.machine_handlers.proofs.GivenLemmas.{bound, refused}

pub setting_of-is : (name : Who) (q : Seen) (said : List Said) (n : ℕ) (base : ℤ) (set : Setting) (handler : Option HandlerName)
    (step : Option HandlerOf → ℤ → Step) (h : Set → Step)
    → ((handles : Option HandlerOf) (v : ℤ) → step handles v q.world said ≡ h (record { number = n; handler = handles; value = v }) q.world said)
    → setting_of q.program name q base set handler step q.world said ≡ given Own name (set_with q n base set handler) h q.world said
setting_of-is name q said n base set handler step h k =
    bound name q.world said (handler_named q handler) _ _ h (λ handles.
    refused name q.world said (is_some handles && not (has_room_for_release q.world)) exception.Storage _ _ h
    (bound name q.world said (set_value q base set) _ _ h (λ v.
    refused name q.world said (not (is_interrupt_handler q.program q.world handles)) exception.Program _ _ h (k handles v))))
