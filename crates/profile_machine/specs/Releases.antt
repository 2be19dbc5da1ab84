-- Each handler is released at its tick (C.3, D.14, D.15): a law on the worlds of a run, since a setting prints no line.
-- It looks at each instant behind its first step, when the effect of an action can set and cancel no more.
use Rattle.std.specs.Prelude.{ℕ, zero, suc, ℤ, pos, int_le, Bool, true, false, cond, not, ◌&&◌, ◌||◌}
use Rattle.std.specs.Prelude.{List, [], ◌∷◌, ◌++◌, Option, Some, None, eqb, leb, length, flat_map}
use Rattle.std.specs.List.{list_any, list_all}
use Rattle.ann_base.specs.declared.identities.ObjectNo.{ObjectNo}
use Rattle.trace_text.specs.declared.events.Event.{Event}
use Rattle.trace_text.specs.declared.events.Event.TheVariants as line
use Rattle.trace_text.specs.declared.events.Who.{Who}
use Rattle.profile_image.specs.declared.image.Image.{Image}
use Rattle.profile_image.specs.declared.numbers.StatementNo.{StatementNo}
use Rattle.profile_image.specs.declared.script_items.Item.{Item}
use Rattle.profile_image.specs.declared.script_items.Item.TheVariants as item
use Rattle.profile_image.specs.declared.statements.StatementForm.{StatementForm}
use Rattle.profile_image.specs.declared.statements.StatementForm.TheVariants as form
use Rattle.profile_machine.specs.declared.world.World.{World}
use Rattle.profile_machine.specs.declared.world.appointments.HandlerOf.{HandlerOf}
use Rattle.profile_machine.specs.declared.world.appointments.Appointment.{Appointment}
use Rattle.profile_machine.specs.declared.world.appointments.Due.{Due}
use Rattle.profile_machine.specs.declared.world.appointments.TimerSetting.{TimerSetting}
use Rattle.profile_machine.specs.declared.world.appointments.Due.TheVariants as due_for
use Rattle.profile_image.specs.Words.{edit_at, same_number, is_flag}
use Rattle.profile_image.specs.Program.{subprogram_of, form_of}
use Rattle.profile_machine.specs.Steps.{Move, ◌▶◌}
use Rattle.profile_machine.specs.Frames.{onward_of}
use Rattle.profile_machine.specs.Values.{timer_of, budget_of}
use Rattle.profile_machine.specs.Handlers.{handler_attached}
use Rattle.profile_machine.specs.Instant.{finish_action, script_items, events_due}
use Rattle.profile_machine.specs.Instant.{moments_due, timers_due, budgets_due, quantum_spent}
use Rattle.profile_machine.specs.Run.{opening, stop, tock}

-- ---- what a release line names: an object, and its procedure by name

pub record NamedHandler : Type 0 where
  pub object : ObjectNo
  pub procedure : List ℕ

abbrev pub named_handler : Image → HandlerOf → NamedHandler
named_handler p h = record { object = h.object; procedure = (subprogram_of p h.procedure).name }

abbrev pub same_bytes : List ℕ → List ℕ → Bool
same_bytes [] [] = true
same_bytes [] (y ∷ ys) = false
same_bytes (x ∷ xs) [] = false
same_bytes (x ∷ xs) (y ∷ ys) = eqb x y && same_bytes xs ys

abbrev pub same_handler : NamedHandler → NamedHandler → Bool
same_handler a b = eqb a.object.0 b.object.0 && same_bytes a.procedure b.procedure

abbrev pub same_handlers : List NamedHandler → List NamedHandler → Bool
same_handlers [] [] = true
same_handlers [] (y ∷ ys) = false
same_handlers (x ∷ xs) [] = false
same_handlers (x ∷ xs) (y ∷ ys) = same_handler x y && same_handlers xs ys

-- the handlers that the lines release, in order
abbrev pub released : List Event → List NamedHandler
released [] = []
released (line.Release n object handler ∷ lines) = record { object = object; procedure = handler } ∷ released lines
released (_ ∷ lines) = released lines

-- ---- what is due behind the first step of an instant

abbrev pub handler_list : Image → Option HandlerOf → List NamedHandler
handler_list p None = []
handler_list p (Some h) = named_handler p h ∷ []

-- an attached interrupt at its script moment where it is not masked, and at the `unmask` where it was kept
abbrev pub attached_to : Image → World → ℕ → Bool → List NamedHandler
attached_to p w n true = handler_list p (handler_attached p n w.objects)
attached_to p w n false = []

abbrev pub marked : ℕ → Bool → List Bool → List Bool
marked n flag = edit_at n (λ _. flag)

abbrev pub kept_where : Bool → ℕ → List Bool → List Bool
kept_where true n flags = marked n true flags
kept_where false n flags = flags

-- what an item releases, and the flags behind it
pub record Flags : Type 0 where
  pub masked : List Bool
  pub kept_interrupts : List Bool

abbrev pub flags_after : Item → Flags → Flags
flags_after (item.Interrupt n) f = record f { kept_interrupts = kept_where (is_flag f.masked n) n f.kept_interrupts }
flags_after (item.Port n value) f = f
flags_after (item.Mask n) f = record f { masked = marked n true f.masked }
flags_after (item.Unmask n) f = record {
  masked = marked n false f.masked;
  kept_interrupts = marked n false f.kept_interrupts;
}

abbrev pub due_by_item : Image → World → Item → Flags → List NamedHandler
due_by_item p w (item.Interrupt n) f = attached_to p w n (not (is_flag f.masked n))
due_by_item p w (item.Port n value) f = []
due_by_item p w (item.Mask n) f = []
due_by_item p w (item.Unmask n) f = attached_to p w n (is_flag f.kept_interrupts n)

abbrev pub due_interrupts : Image → World → List (ℤ × Item) → Flags → List NamedHandler
due_interrupts p w [] f = []
due_interrupts p w (x ∷ script) f =
    elim (int_le x.0 (pos w.time)) [
      | true ↦ due_by_item p w x.1 f
          ++ due_interrupts p w script (flags_after x.1 f)
      | false ↦ []
    ]

-- an event whose moment has come, in the order of setting
abbrev pub due_event : Image → ℕ → Appointment → Due → List NamedHandler
due_event p now a (due_for.Event n h) = cond (int_le a.moment (pos now)) (named_handler p h ∷ []) []
due_event p now a (due_for.Delay t) = []
due_event p now a (due_for.Timeout c) = []
due_event p now a (due_for.Trigger t depth) = []

abbrev pub due_events : Image → ℕ → List Appointment → List NamedHandler
due_events p now appointments = flat_map (λ a. due_event p now a a.due) appointments

-- a timer whose value its task's clock reached in the last tick, unless the effect has cancelled it or set it again
abbrev pub handler_of_setting : Option TimerSetting → Option HandlerOf
handler_of_setting None = None
handler_of_setting (Some s) = Some s.handler

abbrev pub due_timers : Image → World → List ℕ → List NamedHandler
due_timers p w timers = flat_map (λ k. handler_list p (handler_of_setting (timer_of w k).setting)) timers

-- the budget that the last tick brought to zero, while it has a handler
abbrev pub due_budget : Image → World → Option ℕ → List NamedHandler
due_budget p w None = []
due_budget p w (Some b) = handler_list p (budget_of w b).handler

-- all that is to be released behind the first step, in the order of the steps
abbrev pub due_in : Image → World → List NamedHandler
due_in p w =
    due_interrupts p w w.script (record { masked = w.masked; kept_interrupts = w.kept_interrupts })
    ++ due_events p w.time w.appointments
    ++ due_timers p w w.timers_due ++ due_budget p w w.budget_due

abbrev pub later_steps : Image → Move
later_steps p =
    script_items p ▶ events_due p ▶ moments_due p ▶ timers_due p ▶ budgets_due p ▶ quantum_spent p

-- ---- a setting that was due at once: the effect of a Set_Handler releases at most one handler, another effect none

abbrev pub is_setting : StatementForm → Bool
is_setting (form.SetEvent event set handler) = true
is_setting (form.SetTimer timer set handler) = true
is_setting _ = false

abbrev pub may_release : Image → Option StatementNo → ℕ
may_release p None = 0
may_release p (Some s) = cond (is_setting (form_of p s)) 1 0

abbrev pub most_by_effect : Image → World → Option Who → ℕ
most_by_effect p w None = 0
most_by_effect p w (Some name) = may_release p (onward_of w name)

-- ---- a setting stays until an effect cancels it or sets it again, or its moment comes

abbrev pub is_set_for : ℕ → ℤ → Due → ℤ → Bool
is_set_for e m (due_for.Event n h) moment = eqb e n && same_number m moment
is_set_for e m (due_for.Delay t) moment = false
is_set_for e m (due_for.Timeout c) moment = false
is_set_for e m (due_for.Trigger t depth) moment = false

abbrev pub stays : World → Appointment → Due → Bool
stays w a (due_for.Event e h) = list_any (λ b. is_set_for e a.moment b.due b.moment) w.appointments
stays w a (due_for.Delay t) = true
stays w a (due_for.Timeout c) = true
stays w a (due_for.Trigger t depth) = true

abbrev pub later_events_stay : World → World → Bool
later_events_stay before after =
    list_all (λ a. int_le a.moment (pos before.time) || stays after a a.due) before.appointments

-- ---- the law

abbrev pub instant_releases_ok : Image → World → World × List Event → World × List Event → Bool
instant_releases_ok p w first later =
    leb (length (released first.1)) (most_by_effect p w w.ran) && same_handlers (released later.1) (due_in p first.0)
    && later_events_stay first.0 later.0

abbrev pub releases_ok_from : ℕ → Image → ℕ → World → Bool
releases_ok_from zero p bound w = true
releases_ok_from (suc fuel) p bound w =
    let first = finish_action p w in
    let later = later_steps p first.0 in
    let t = tock p later.0 in
    elim (stop p bound later.0) [
      | Some reason ↦ instant_releases_ok p w first later
      | None ↦ instant_releases_ok p w first later && releases_ok_from fuel p bound t.0
    ]

-- a timing event set for a later moment, and neither set again nor cancelled up to that instant, is released there; so
-- are timers, budgets and attached interrupts at their instants; and a release has one of these causes, or a setting at
-- its own tick that was due at once
abbrev pub releases_ok : Image → List (ℤ × Item) → ℕ → Bool
releases_ok p script bound = releases_ok_from (suc bound) p bound (opening p script).0
