-- What is done once a setting is known, in the machine's own words.
use Rattle.std.specs.Prelude.{ℕ, Bool, not, Option, None, is_some}
use Rattle.ann_base.specs.declared.exceptions.Raised.TheVariants as exception
use Rattle.trace_text.specs.declared.events.Who.{Who}
use Rattle.profile_image.specs.declared.image.Image.{Image}
use Rattle.profile_image.specs.declared.numbers.StatementNo.{StatementNo}
use Rattle.profile_machine.specs.declared.world.appointments.Budget.{Budget}
use Rattle.profile_image.specs.Program.{next_of}
use Rattle.profile_machine.specs.Steps.{Step, changes, looks, ◌▷◌}
use Rattle.profile_machine.specs.Frames.{goes, raise_if}
use Rattle.profile_machine.specs.Tasks.{edit_task}
use Rattle.profile_machine.specs.Appointments.{is_appointed}
use Rattle.profile_machine.specs.Values.{is_event, budget_of}
use Rattle.profile_machine.specs.Handlers.{answer, cancel_event_setting, event_set_to, clear_timer}
use Rattle.profile_machine.specs.Handlers.{timer_set_to, is_set_timer, member_of, edit_budget, with_handler}
use Rattle.machine_handlers.specs.declared.settings.Set.{Set}
use Rattle.machine_handlers.specs.declared.settings.Named.{Named}

abbrev pub event_is_set : Image → Who → StatementNo → Set → Step
event_is_set p name s x = goes name (next_of p s) ▷ changes (cancel_event_setting x.number)
    ▷ event_set_to p x.number x.handler x.value

abbrev pub event_is_cancelled : Image → Who → StatementNo → Named → Step
event_is_cancelled p name s x =
    looks (λ w. goes name (next_of p s) ▷ changes (cancel_event_setting x.number)
    ▷ answer p name x.target (is_appointed (is_event x.number) w))

abbrev pub timer_is_set : Image → Who → StatementNo → ℕ → Set → Step
timer_is_set p name s clock x = goes name (next_of p s) ▷ changes (clear_timer x.number)
    ▷ timer_set_to p x.number clock x.handler x.value

abbrev pub timer_is_cancelled : Image → Who → StatementNo → Named → Step
timer_is_cancelled p name s x =
    looks (λ w. goes name (next_of p s) ▷ changes (clear_timer x.number)
    ▷ answer p name x.target (is_set_timer w x.number))

-- `change_member` of a task of which only the name counts
abbrev pub member_changes : Image → Who → StatementNo → Who → Bool → Option ℕ → Step
member_changes p name s who is_right b =
    raise_if name (not is_right) exception.GroupBudget (goes name (next_of p s) ▷ changes (edit_task who (member_of b)))

abbrev pub budget_changes : Image → Who → StatementNo → ℕ → (Budget → Budget) → Step
budget_changes p name s b f = goes name (next_of p s) ▷ changes (edit_budget b f)

abbrev pub budget_is_cancelled : Image → Who → StatementNo → Named → Step
budget_is_cancelled p name s x =
    looks (λ w. goes name (next_of p s) ▷ changes (edit_budget x.number (with_handler None))
    ▷ answer p name x.target (is_some (budget_of w x.number).handler))
