-- Handlers: releases and the agent that runs them, timing events, timers and group budgets (C.3, D.14, D.15).
use Rattle.std.specs.Prelude.{ℕ, suc, ◌+◌, ◌-◌, ℤ, pos, negsuc, ◌+ℤ◌, int_le, int_lt, Bool}
use Rattle.std.specs.Prelude.{true, false, cond, not, ◌&&◌, List, [], ◌∷◌, ◌++◌, Option, Some}
use Rattle.std.specs.Prelude.{None, Ok, eqb, leb, length, filter, is_none, option_map, is_some}
use Rattle.ann_base.specs.Results.{◌>>=◌}
use Rattle.ann_base.specs.declared.identities.TaskNo.{TaskNo}
use Rattle.ann_base.specs.declared.exceptions.Raised.TheVariants as exception
use Rattle.profile_image.specs.declared.limits.TheConstants.{MOST_RELEASES}
use Rattle.profile_machine.specs.declared.world.objects.Entering.{Entering}
use Rattle.profile_machine.specs.declared.world.objects.Entering.TheVariants as entering_is
use Rattle.profile_machine.specs.declared.world.lines.Line.TheVariants as line
use Rattle.trace_text.specs.declared.events.Mode.TheVariants.{Write}
use Rattle.trace_text.specs.declared.events.Who.{Who}
use Rattle.trace_text.specs.declared.events.Who.TheVariants as who
use Rattle.profile_image.specs.declared.image.Image.{Image}
use Rattle.profile_image.specs.declared.numbers.DeclNo.{DeclNo}
use Rattle.profile_image.specs.declared.numbers.ExprNo.{ExprNo}
use Rattle.profile_image.specs.declared.numbers.StatementNo.{StatementNo}
use Rattle.profile_image.specs.declared.numbers.SubprogramNo.{SubprogramNo}
use Rattle.profile_image.specs.declared.declarations.Attachment.{Attachment}
use Rattle.profile_image.specs.declared.expressions.VariableName.{VariableName}
use Rattle.profile_image.specs.declared.statements.HandlerName.{HandlerName}
use Rattle.profile_image.specs.declared.statements.Setting.{Setting}
use Rattle.profile_image.specs.declared.statements.Setting.TheVariants as setting
use Rattle.profile_image.specs.declared.values.Value.{Value}
use Rattle.profile_image.specs.declared.values.Value.TheVariants.{Truth, Thing}
use Rattle.profile_machine.specs.declared.world.World.{World}
use Rattle.profile_machine.specs.declared.world.appointments.HandlerOf.{HandlerOf}
use Rattle.profile_machine.specs.declared.world.appointments.Release.{Release}
use Rattle.profile_machine.specs.declared.world.Drawn.{Drawn}
use Rattle.profile_machine.specs.declared.world.objects.Object.{Object}
use Rattle.profile_machine.specs.declared.world.appointments.Timer.{Timer}
use Rattle.profile_machine.specs.declared.world.appointments.TimerSetting.{TimerSetting}
use Rattle.profile_machine.specs.declared.world.appointments.Budget.{Budget}
use Rattle.profile_machine.specs.declared.world.scopes.Variable.{Variable}
use Rattle.profile_machine.specs.declared.world.tasks.State.{State}
use Rattle.profile_machine.specs.declared.world.appointments.Due.TheVariants as due_for
use Rattle.profile_machine.specs.declared.world.marks.Purpose.TheVariants as opened_for
use Rattle.profile_machine.specs.declared.world.marks.ResultTo.TheVariants as bound_for
use Rattle.profile_machine.specs.declared.world.tasks.State.TheVariants.{Made, Runnable, Blocked}
use Rattle.profile_machine.specs.declared.world.tasks.Task as world
use Rattle.profile_image.specs.Words.{same_task, edit_at, without}
use Rattle.profile_image.specs.Program.{is_robin_level, next_of, marks_of, subprogram_of}
use Rattle.profile_image.specs.Program.{protected_unit_of, interrupt_priority, size_of_body}
use Rattle.profile_machine.specs.declared.world.lines.Part.{Part}
use Rattle.profile_machine.specs.declared.world.lines.Part.TheVariants.{Own}
use Rattle.profile_machine.specs.Steps.{Step, says, changes, looks, nothing, for_some, ◌▷◌}
use Rattle.profile_machine.specs.Tasks.{task_of, edit_task}
use Rattle.profile_machine.specs.Dispatching.{ready}
use Rattle.profile_machine.specs.Frames.{goes, given, raise_if, has_room}
use Rattle.profile_machine.specs.Scopes.{open_scope}
use Rattle.profile_machine.specs.Operators.{Valued, held_moment}
use Rattle.profile_machine.specs.Values.{Seen, value, variable, moment, number_of_thing, object_number}
use Rattle.profile_machine.specs.Values.{object_of, live_task, timer_of, budget_of, is_event, task_in}
use Rattle.profile_machine.specs.Appointments.{appoint, drop_appointment, is_appointed}
use Rattle.profile_machine.specs.CallEnds.{store}
use Rattle.profile_machine.specs.Protected.{entering, find_held, begin_action_on, body_of_object, ceiling_of}
use Rattle.profile_machine.specs.Serving.{end_release}
use Rattle.profile_machine.specs.Statements.{sees}

-- ---- a release: `release`; the agent becomes ready at the tail when it was blocked (own)

abbrev pub release_drawn : Drawn → Drawn
release_drawn d = record d { releases = suc d.releases }

abbrev pub add_release : HandlerOf → Option ℕ → World → World
add_release h argument w = record w {
  releases = w.releases ++ record { number = suc w.drawn.releases; handler = h; argument = argument } ∷ [];
  drawn = release_drawn w.drawn;
}

unfoldable pub says_release : Part → HandlerOf → Step
says_release part h =
    looks (λ w. says part (line.Release w.drawn.releases h))

unfoldable pub wake_agent : Image → Part → State → Step
wake_agent p part (Blocked waiting) = ready p part who.Agent
wake_agent p part Runnable = nothing
wake_agent p part Made = nothing

unfoldable pub release : Image → Part → HandlerOf → Option ℕ → Step
release p part h argument =
    changes (add_release h argument) ▷ says_release part h ▷ looks (λ w. wake_agent p part w.agent.state)

-- while so many are pending there is no room for one
abbrev pub has_room_for_release : World → Bool
has_room_for_release w = not (leb MOST_RELEASES (length w.releases))

abbrev pub with_room_for_release : Who → Bool → Step → Step
with_room_for_release name needed step =
    looks (λ w. raise_if name (needed && not (has_room_for_release w)) exception.Storage step)

-- ---- a handler's call by the agent: `enter`, and the body is opened; an exception of it is lost

abbrev pub argument_values : Option ℕ → List Value
argument_values None = []
argument_values (Some n) = Thing n ∷ []

unfoldable pub begin_handler : Image → Release → Step
begin_handler p r =
    begin_action_on p who.Agent r.handler.object Write None (Some r.number)
    ▷ looks (λ w. changes (open_scope p who.Agent (subprogram_of p r.handler.procedure).scope
    (body_of_object p w (subprogram_of p r.handler.procedure).scope r.handler.object None
    (argument_values r.argument)) (opened_for.Subprogram [] bound_for.Nowhere)))

-- without room it is served at once
unfoldable pub begin_handler_if_room : Image → Release → Step
begin_handler_if_room p r =
    looks (λ w. elim (has_room w who.Agent (1
    + marks_of p (subprogram_of p r.handler.procedure).scope) (size_of_body p r.handler.procedure))
    [ true ↦ begin_handler p r | false ↦ end_release r.number ])

unfoldable pub enter_handler : Image → Release → Entering → Step
enter_handler p r entering_is.SameObject = end_release r.number
enter_handler p r entering_is.AboveCeiling = end_release r.number
enter_handler p r entering_is.Held = find_held p who.Agent r.handler.object Write
enter_handler p r entering_is.Inside = begin_handler_if_room p r

unfoldable pub call_handler : Image → Release → Step
call_handler p r = looks (λ w. enter_handler p r (entering p w who.Agent r.handler.object Write))

-- ---- an interrupt releases the handler that is attached to it, once its object is there (C.3.1)

abbrev pub attached_in : ℕ → List Attachment → Option SubprogramNo
attached_in n [] = None
attached_in n (a ∷ as') = cond (eqb n a.interrupt) (Some a.handler) (attached_in n as')

abbrev pub handler_in : Image → ℕ → Object → Option HandlerOf
handler_in p n o =
    option_map (λ f. record { object = o.number; procedure = f }) (attached_in n (protected_unit_of p o.unit).attached)

abbrev pub handler_attached : Image → ℕ → List Object → Option HandlerOf
handler_attached p n [] = None
handler_attached p n (o ∷ os) = elim (handler_in p n o) [ None ↦ handler_attached p n os | Some h ↦ Some h ]

unfoldable pub interrupt : Image → ℕ → Step
interrupt p n =
    says Own (line.Interrupt n) ▷ looks (λ w. for_some (handler_attached p n w.objects) (λ h. release p Own h None))

-- ---- handlers and moments that a setting names

abbrev pub handler_named : Seen → Option HandlerName → Valued (Option HandlerOf)
handler_named q None = Ok None
handler_named q (Some h) = object_number q h.object >>= λ o. Ok (Some (record { object = o; procedure = h.procedure }))

-- a moment, or a span from a moment on, held between the ends
abbrev pub set_value : Seen → ℤ → Setting → Valued ℤ
set_value q base (setting.At e) = moment q e
set_value q base (setting.In e) = moment q e >>= λ span. Ok (held_moment (base +ℤ span))

-- the ceiling of a handler's object is the priority of interrupts, or Program_Error is raised
abbrev pub is_interrupt_handler : Image → World → Option HandlerOf → Bool
is_interrupt_handler p w None = true
is_interrupt_handler p w (Some h) = leb (interrupt_priority p) (ceiling_of (object_of w h.object))

-- with the handler, and the value once there is room for a release
abbrev pub setting_of : Image → Who → Seen → ℤ → Setting → Option HandlerName → (Option HandlerOf → ℤ → Step) → Step
setting_of p name q base set handler step =
    given Own name (handler_named q handler) (λ h. with_room_for_release name (is_some h)
    (given Own name (set_value q base set) (λ v. raise_if name (not (is_interrupt_handler p q.world h))
    exception.Program (step h v))))

-- a variable gets whether something was set
unfoldable pub answer : Image → Who → Variable → Bool → Step
answer p name v b = looks (λ w. given Own name (store p v (Truth b) w) (λ next. changes (λ _. next)))

-- ---- timing events (D.15)

abbrev pub cancel_event_setting : ℕ → World → World
cancel_event_setting e = drop_appointment (is_event e)

-- setting replaces; a moment that is not in the future releases at once, and no handler clears
unfoldable pub appoint_event : Image → ℕ → HandlerOf → ℤ → Bool → Step
appoint_event p e h m true = changes (appoint (due_for.Event e h) m)
appoint_event p e h m false = release p Own h (Some e)

unfoldable pub event_set_to : Image → ℕ → Option HandlerOf → ℤ → Step
event_set_to p e None m = nothing
event_set_to p e (Some h) m = looks (λ w. appoint_event p e h m (int_lt (pos w.time) m))

unfoldable pub set_event : Image → Who → StatementNo → DeclNo → Setting → Option HandlerName → Step
set_event p name s d set handler =
    sees p name (λ q. given Own name (number_of_thing q d) (λ e. setting_of p name q (pos q.world.time) set handler
    (λ h m. goes name (next_of p s) ▷ changes (cancel_event_setting e) ▷ event_set_to p e h m)))

unfoldable pub cancel_event : Image → Who → StatementNo → DeclNo → VariableName → Step
cancel_event p name s d target =
    sees p name (λ q. given Own name (number_of_thing q d) (λ e. given Own name (variable q target) (λ v.
    goes name (next_of p s) ▷ changes (cancel_event_setting e) ▷ answer p name v (is_appointed (is_event e) q.world))))

-- ---- timers (D.14.1)

abbrev pub without_number : ℕ → List ℕ → List ℕ
without_number k = without (eqb k)

abbrev pub with_setting : Option TimerSetting → Timer → Timer
with_setting s t = record t { setting = s }

-- a timer is not set, and what the last tick made due of it is undone
abbrev pub clear_timer : ℕ → World → World
clear_timer k w = record w {
  timers = edit_at k (with_setting None) w.timers;
  timers_set = without_number k w.timers_set;
  timers_due = without_number k w.timers_due;
}

abbrev pub with_timer_set : ℕ → HandlerOf → ℤ → World → World
with_timer_set k h v w = record w {
  timers = edit_at k (with_setting (Some (record { value = v; handler = h }))) w.timers;
  timers_set = w.timers_set ++ k ∷ [];
}

-- a value that is already reached releases at once
unfoldable pub timer_set_beyond : Image → ℕ → HandlerOf → ℤ → Bool → Step
timer_set_beyond p k h v true = changes (with_timer_set k h v)
timer_set_beyond p k h v false = release p Own h (Some k)

unfoldable pub timer_set_to : Image → ℕ → ℕ → Option HandlerOf → ℤ → Step
timer_set_to p k clock None v = nothing
timer_set_to p k clock (Some h) v = timer_set_beyond p k h v (int_lt (pos clock) v)

abbrev pub clock_of_timer : Seen → ℕ → Valued ℕ
clock_of_timer q k = live_task q.world (Some (timer_of q.world k).task) >>= λ t. Ok t.cpu_ticks

unfoldable pub set_timer : Image → Who → StatementNo → DeclNo → Setting → Option HandlerName → Step
set_timer p name s d set handler =
    sees p name (λ q. given Own name (number_of_thing q d) (λ k. given Own name (clock_of_timer q k) (λ clock.
    setting_of p name q (pos clock) set handler
    (λ h v. goes name (next_of p s) ▷ changes (clear_timer k) ▷ timer_set_to p k clock h v))))

abbrev pub is_set_timer : World → ℕ → Bool
is_set_timer w k = is_some (timer_of w k).setting

unfoldable pub cancel_timer : Image → Who → StatementNo → DeclNo → VariableName → Step
cancel_timer p name s d target =
    sees p name (λ q. given Own name (number_of_thing q d) (λ k. given Own name (clock_of_timer q k) (λ clock.
    given Own name (variable q target) (λ v.
    goes name (next_of p s) ▷ changes (clear_timer k) ▷ answer p name v (is_set_timer q.world k)))))

-- ---- group budgets (D.14.2)

abbrev pub edit_budget : ℕ → (Budget → Budget) → World → World
edit_budget b f w = record w { budgets = edit_at b f w.budgets }

abbrev pub member_of : Option ℕ → world.Task → world.Task
member_of b t = record t { budget = b }

abbrev pub is_the_budget : ℕ → Option ℕ → Bool
is_the_budget b None = false
is_the_budget b (Some c) = eqb b c

-- a task is a member of at most one group budget, else Group_Budget_Error is raised
unfoldable pub change_member : Image → Who → StatementNo → world.Task → Bool → Option ℕ → Step
change_member p name s t is_right b =
    raise_if name (not is_right) exception.GroupBudget (goes name (next_of p s)
    ▷ changes (edit_task t.who (member_of b)))

abbrev pub named_live : Seen → ExprNo → Valued world.Task
named_live q e = value q e >>= λ v. live_task q.world (task_in v)

unfoldable pub add_member : Image → Who → StatementNo → DeclNo → ExprNo → Step
add_member p name s d e =
    sees p name (λ q. given Own name (number_of_thing q d) (λ b. given Own name (named_live q e) (λ t.
    change_member p name s t (is_none t.budget) (Some b))))

unfoldable pub remove_member : Image → Who → StatementNo → DeclNo → ExprNo → Step
remove_member p name s d e =
    sees p name (λ q. given Own name (number_of_thing q d) (λ b. given Own name (named_live q e) (λ t.
    change_member p name s t (is_the_budget b t.budget) None)))

abbrev pub loaded : ℤ → Budget → Budget
loaded amount b = record b { remaining = amount }

-- a sum past the last time is held there (own)
abbrev pub raised_by : ℤ → Budget → Budget
raised_by amount b = record b { remaining = held_moment (b.remaining +ℤ amount) }

-- an amount that is not positive raises Group_Budget_Error
unfoldable pub fill_budget : Image → Who → StatementNo → DeclNo → ExprNo → (ℤ → Budget → Budget) → Step
fill_budget p name s d e f =
    sees p name (λ q. given Own name (number_of_thing q d) (λ b. with_room_for_release name true
    (given Own name (moment q e) (λ amount. raise_if name (int_le amount (pos 0)) exception.GroupBudget
    (goes name (next_of p s) ▷ changes (edit_budget b (f amount)))))))

unfoldable pub replenish : Image → Who → StatementNo → DeclNo → ExprNo → Step
replenish p name s d e = fill_budget p name s d e loaded

unfoldable pub add_to_budget : Image → Who → StatementNo → DeclNo → ExprNo → Step
add_to_budget p name s d e = fill_budget p name s d e raised_by

abbrev pub with_handler : Option HandlerOf → Budget → Budget
with_handler h b = record b { handler = h }

unfoldable pub set_budget : Image → Who → StatementNo → DeclNo → Option HandlerName → Step
set_budget p name s d handler =
    sees p name (λ q. given Own name (number_of_thing q d) (λ b. given Own name (handler_named q handler) (λ h.
    with_room_for_release name (is_some h)
    (raise_if name (not (is_interrupt_handler p q.world h)) exception.Program
    (goes name (next_of p s) ▷ changes (edit_budget b (with_handler h)))))))

unfoldable pub cancel_budget : Image → Who → StatementNo → DeclNo → VariableName → Step
cancel_budget p name s d target =
    sees p name (λ q. given Own name (number_of_thing q d) (λ b. given Own name (variable q target) (λ v.
    goes name (next_of p s) ▷ changes (edit_budget b (with_handler None))
    ▷ answer p name v (is_some (budget_of q.world b).handler))))

-- ---- one tick is charged (D.14, D.2.5)

-- the CPU clock rises by one
abbrev pub clock_risen : world.Task → world.Task
clock_risen t = record t { cpu_ticks = suc t.cpu_ticks }

abbrev pub is_positive : ℤ → Bool
is_positive n = int_lt (pos 0) n

-- a positive budget of the group falls by one
abbrev pub one_off_if_positive : ℤ → ℤ
one_off_if_positive n = cond (is_positive n) (n +ℤ negsuc 0) n

abbrev pub charged_budget : Budget → Budget
charged_budget b = record b { remaining = one_off_if_positive b.remaining }

abbrev pub has_run_out : Budget → Budget → Bool
has_run_out before after = is_positive before.remaining && not (is_positive after.remaining)

-- the budget that the tick brought to zero
abbrev pub due_by_tick : World → Option ℕ → Option ℕ
due_by_tick w None = None
due_by_tick w (Some b) = cond (has_run_out (budget_of w b) (charged_budget (budget_of w b))) (Some b) None

abbrev pub charge_budget : Option ℕ → World → World
charge_budget None = λ w. w
charge_budget (Some b) = edit_budget b charged_budget

-- the timers whose value the clock has reached, in the order in which they were set
abbrev pub has_value_up_to : ℤ → Option TimerSetting → Bool
has_value_up_to clock None = false
has_value_up_to clock (Some s) = int_le s.value clock

abbrev pub is_reached_by : TaskNo → ℕ → Timer → Bool
is_reached_by t clock timer = same_task t timer.task && has_value_up_to (pos clock) timer.setting

abbrev pub timers_reached : TaskNo → World → List ℕ
timers_reached t w = filter (λ k. is_reached_by t (task_of w (who.Task t)).cpu_ticks (timer_of w k)) w.timers_set

-- a positive quantum falls by one on a round-robin base level
abbrev pub quantum_spent_by : Image → world.Task → world.Task
quantum_spent_by p t = cond (is_robin_level p t.base) (record t { quantum = t.quantum - 1 }) t

abbrev pub charge_clock : TaskNo → World → World
charge_clock t w =
    let next = edit_task (who.Task t) clock_risen w in
    record next { timers_due = timers_reached t next }

abbrev pub charge_group : TaskNo → World → World
charge_group t w =
    let b = (task_of w (who.Task t)).budget in
    record (charge_budget b w) { budget_due = due_by_tick w b }

abbrev pub charge_task : Image → TaskNo → World → World
charge_task p t w = edit_task (who.Task t) (quantum_spent_by p) (charge_group t (charge_clock t w))

-- handler time is charged to no task (own)
abbrev pub charge : Image → Who → World → World
charge p (who.Task t) w = charge_task p t w
charge p who.Agent w = w
