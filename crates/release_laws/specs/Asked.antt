-- What the effect of an action asks for: that a handler be released, now or later, or no longer. It is read off the
-- statement that ends and the values of its operands. What the machine keeps of settings is not looked at (C.3, D.14,
-- D.15).
use Rattle.std.specs.Prelude.{ℕ, ℤ, pos, Bool, true, false, cond, not, ◌&&◌, Option, Some, None, Ok, Err, is_some}
use Rattle.ann_base.specs.Results.{◌>>=◌}
use Rattle.ann_base.specs.declared.exceptions.Raised.{Raised}
use Rattle.ann_base.specs.declared.exceptions.Raised.TheVariants as exception
use Rattle.ann_base.specs.declared.identities.TaskNo.{TaskNo}
use Rattle.trace_text.specs.declared.events.Who.{Who}
use Rattle.profile_image.specs.declared.image.Image.{Image}
use Rattle.profile_image.specs.declared.numbers.StatementNo.{StatementNo}
use Rattle.profile_image.specs.declared.statements.HandlerName.{HandlerName}
use Rattle.profile_image.specs.declared.statements.Setting.{Setting}
use Rattle.profile_image.specs.declared.statements.StatementForm.{StatementForm}
use Rattle.profile_image.specs.declared.statements.StatementForm.TheVariants as form
use Rattle.profile_machine.specs.declared.world.World.{World}
use Rattle.profile_machine.specs.declared.world.appointments.HandlerOf.{HandlerOf}
use Rattle.profile_image.specs.Program.{form_of}
use Rattle.profile_machine.specs.Tasks.{task_of, edit_task, with_ticks}
use Rattle.profile_machine.specs.Frames.{onward_of}
use Rattle.profile_machine.specs.Operators.{Valued}
use Rattle.profile_machine.specs.Values.{Seen, seen_by, number_of_thing, variable, timer_of}
use Rattle.profile_machine.specs.Handlers.{has_room_for_release, is_interrupt_handler}
use Rattle.profile_machine.specs.Handlers.{handler_named, set_value, clock_of_timer}
use Rattle.profile_machine.specs.Instant.{is_over}

-- Of an event, a timer or a budget, by number: its handler, or that it is to have none; and the moment, or the task of
-- the timer and the value of its clock.
pub data Request : Type 0 where
  OfEvent : ℕ → Option HandlerOf → ℤ → Request
  OfTimer : ℕ → TaskNo → Option HandlerOf → ℤ → Request
  OfBudget : ℕ → Option HandlerOf → Request
  OfNothing : Request

-- an exception where the test holds
abbrev pub raised_if : {X : Type 0} → Bool → Raised → Valued X → Valued X
raised_if true e x = Err e
raised_if false e x = x

-- a handler has room for its release, and an object of the priority of interrupts (own)
abbrev pub with_room : {X : Type 0} → Seen → Option HandlerOf → Valued X → Valued X
with_room q h = raised_if (is_some h && not (has_room_for_release q.world)) exception.Storage

abbrev pub with_ceiling : {X : Type 0} → Image → Seen → Option HandlerOf → Valued X → Valued X
with_ceiling p q h = raised_if (not (is_interrupt_handler p q.world h)) exception.Program

abbrev pub setting_asked : Image → Seen → ℤ → Setting → Option HandlerName → (Option HandlerOf → ℤ → Request)
    → Valued Request
setting_asked p q base set handler request =
    handler_named q handler >>= λ h. with_room q h (set_value q base set >>= λ v. with_ceiling p q h (Ok (request h v)))

-- what a statement asks for, or the exception that it raises in place of asking
abbrev pub request_of : Image → Seen → StatementForm → Valued Request
request_of p q (form.SetEvent event set handler) = number_of_thing q event
    >>= λ n. setting_asked p q (pos q.world.time) set handler (OfEvent n)
request_of p q (form.CancelEvent event cancelled) = number_of_thing q event >>= λ n. variable q cancelled
    >>= λ v. Ok (OfEvent n None (pos 0))
request_of p q (form.SetTimer timer set handler) =
    number_of_thing q timer >>= λ n. clock_of_timer q n
    >>= λ clock. setting_asked p q (pos clock) set handler (OfTimer n (timer_of q.world n).task)
request_of p q (form.CancelTimer timer cancelled) =
    number_of_thing q timer >>= λ n. clock_of_timer q n >>= λ clock. variable q cancelled
    >>= λ v. Ok (OfTimer n (timer_of q.world n).task None (pos 0))
request_of p q (form.SetBudget budget handler) =
    number_of_thing q budget >>= λ n. handler_named q handler
    >>= λ h. with_room q h (with_ceiling p q h (Ok (OfBudget n h)))
request_of p q (form.CancelBudget budget cancelled) = number_of_thing q budget >>= λ n. variable q cancelled
    >>= λ v. Ok (OfBudget n None)
request_of p q _ = Ok OfNothing

abbrev pub or_nothing : Valued Request → Request
or_nothing (Ok request) = request
or_nothing (Err e) = OfNothing

abbrev pub asked_at : Image → World → Who → Option StatementNo → Request
asked_at p w name None = OfNothing
asked_at p w name (Some s) = or_nothing (request_of p (seen_by p w name) (form_of p s))

-- somebody's action is over, and it has begun no other
abbrev pub acting : Who → World → World
acting name w = edit_task name (with_ticks None) w

abbrev pub asked_by : Image → World → Option Who → Request
asked_by p w None = OfNothing
asked_by p w (Some name) =
    cond (is_over (task_of w name).ticks_left) (asked_at p (acting name w) name (onward_of (acting name w) name))
    OfNothing

-- what the effect asks for with which the next instant of this world begins
abbrev pub asked : Image → World → Request
asked p w = asked_by p w w.ran
