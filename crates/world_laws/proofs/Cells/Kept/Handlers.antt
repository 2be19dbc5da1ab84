-- Events, timers, budgets, interrupts and releases: each step keeps the cells right.
use Rattle.std.specs.Prelude.{ℕ, ◌+◌, ℤ, Bool, true, false, Option, Some, None}
use Rattle.ann_base.specs.declared.identities.TaskNo.{TaskNo}
use Rattle.profile_machine.specs.declared.world.objects.Entering.{Entering}
use Rattle.profile_machine.specs.declared.world.objects.Entering.TheVariants as entering_is
use Rattle.trace_text.specs.declared.events.Who.{Who}
use Rattle.trace_text.specs.declared.events.Who.TheVariants as who
use Rattle.profile_image.specs.declared.image.Image.{Image}
use Rattle.profile_image.specs.declared.numbers.DeclNo.{DeclNo}
use Rattle.profile_image.specs.declared.numbers.ExprNo.{ExprNo}
use Rattle.profile_image.specs.declared.numbers.StatementNo.{StatementNo}
use Rattle.profile_image.specs.declared.expressions.VariableName.{VariableName}
use Rattle.profile_image.specs.declared.statements.HandlerName.{HandlerName}
use Rattle.profile_image.specs.declared.statements.Setting.{Setting}
use Rattle.profile_machine.specs.declared.world.appointments.HandlerOf.{HandlerOf}
use Rattle.profile_machine.specs.declared.world.appointments.Release.{Release}
use Rattle.profile_machine.specs.declared.world.appointments.Budget.{Budget}
use Rattle.profile_machine.specs.declared.world.scopes.Variable.{Variable}
use Rattle.profile_machine.specs.declared.world.tasks.State.{State}
use Rattle.profile_machine.specs.declared.world.tasks.State.TheVariants.{Made, Runnable, Blocked}
use Rattle.profile_machine.specs.declared.world.tasks.Task as world
use Rattle.profile_image.specs.Program.{marks_of, subprogram_of, size_of_body}
use Rattle.profile_machine.specs.declared.world.lines.Part.{Part}
use Rattle.profile_machine.specs.Steps.{Step}
use Rattle.profile_machine.specs.Tasks.{task_of}
use Rattle.profile_machine.specs.Frames.{has_room}
use Rattle.profile_machine.specs.Values.{Seen}
use Rattle.profile_machine.specs.Serving.{end_release}
use Rattle.profile_machine.specs.Handlers.{add_release, says_release, wake_agent, release, with_room_for_release, begin_handler, begin_handler_if_room}
use Rattle.profile_machine.specs.Handlers.{enter_handler, call_handler, interrupt, setting_of, answer, cancel_event_setting, appoint_event, event_set_to}
use Rattle.profile_machine.specs.Handlers.{set_event, cancel_event, clear_timer, with_timer_set, timer_set_beyond, timer_set_to, set_timer, cancel_timer}
use Rattle.profile_machine.specs.Handlers.{edit_budget, change_member, add_member, remove_member, fill_budget, replenish, add_to_budget, set_budget}
use Rattle.profile_machine.specs.Handlers.{cancel_budget, clock_risen, charge_budget, quantum_spent_by, charge_clock, charge_group, charge_task, charge}
use Rattle.world_laws.proofs.Cells.RightCells.{Right, Keeps, Alters, then-keeps, nothing-keeps, changes-keeps, says-keeps}
use Rattle.world_laws.proofs.Cells.RightCells.{looks-keeps, sees-keeps, branch-keeps, for_some-keeps, unchanged-alters, next-alters}
use Rattle.world_laws.proofs.Cells.Kept.Tasks.{edit_task-alters}
use Rattle.world_laws.proofs.Cells.Kept.Dispatching.{ready-keeps}
use Rattle.world_laws.proofs.Cells.Kept.Frames.{goes-keeps, given-keeps, given_right-keeps, raise_if-keeps}
use Rattle.world_laws.proofs.Cells.Kept.Scopes.{open_scope-alters}
use Rattle.world_laws.proofs.Cells.Kept.Appointments.{appoint-alters, drop_appointment-alters}
use Rattle.world_laws.proofs.Cells.Kept.CallEnds.{store-gives}
use Rattle.world_laws.proofs.Cells.Kept.Protected.{find_held-keeps, begin_action_on-keeps}
use Rattle.world_laws.proofs.Cells.Kept.Serving.{end_release-keeps}

-- ---- a release

pub add_release-alters : {p : Image} (h : HandlerOf) (argument : Option ℕ) → Alters p (add_release h argument)
unfolding Right
add_release-alters h argument = record { at = λ w right. right }

pub says_release-keeps : {p : Image} (part : Part) (h : HandlerOf) → Keeps p (says_release part h)
unfolding says_release
says_release-keeps part h = search (looks-keeps, says-keeps)

pub wake_agent-keeps : (p : Image) (part : Part) (state : State) → Keeps p (wake_agent p part state)
unfolding wake_agent
wake_agent-keeps p part (Blocked waiting) = search (ready-keeps)
wake_agent-keeps p part Runnable = search (nothing-keeps)
wake_agent-keeps p part Made = search (nothing-keeps)

pub release-keeps : (p : Image) (part : Part) (h : HandlerOf) (argument : Option ℕ) → Keeps p (release p part h argument)
unfolding release
release-keeps p part h argument = search (changes-keeps, add_release-alters, then-keeps, says_release-keeps, looks-keeps, wake_agent-keeps) depth 10

pub with_room_for_release-keeps : {p : Image} (name : Who) (needed : Bool) (step : Step) → Keeps p step → Keeps p (with_room_for_release name needed step)
with_room_for_release-keeps name needed step kept = search (looks-keeps, raise_if-keeps)

-- ---- a handler's call by the agent

pub begin_handler-keeps : (p : Image) (r : Release) → Keeps p (begin_handler p r)
unfolding begin_handler
begin_handler-keeps p r = search (begin_action_on-keeps, then-keeps, looks-keeps, changes-keeps, open_scope-alters) depth 8

pub begin_handler_if_room-keeps : (p : Image) (r : Release) → Keeps p (begin_handler_if_room p r)
unfolding begin_handler_if_room
begin_handler_if_room-keeps p r =
    looks-keeps _
    (λ w right. branch-keeps (has_room w who.Agent (1 + marks_of p (subprogram_of p r.handler.procedure).scope) (size_of_body p r.handler.procedure))
    (begin_handler p r) (end_release r.number) (search (begin_handler-keeps)) (search (end_release-keeps)))

pub enter_handler-keeps : (p : Image) (r : Release) (is : Entering) → Keeps p (enter_handler p r is)
unfolding enter_handler
enter_handler-keeps p r entering_is.SameObject = search (end_release-keeps)
enter_handler-keeps p r entering_is.AboveCeiling = search (end_release-keeps)
enter_handler-keeps p r entering_is.Held = search (find_held-keeps)
enter_handler-keeps p r entering_is.Inside = search (begin_handler_if_room-keeps)

pub call_handler-keeps : (p : Image) (r : Release) → Keeps p (call_handler p r)
unfolding call_handler
call_handler-keeps p r = search (looks-keeps, enter_handler-keeps)

-- ---- an interrupt releases the handler that is attached to it, once its object is there (C.3.1)

pub interrupt-keeps : (p : Image) (n : ℕ) → Keeps p (interrupt p n)
unfolding interrupt
interrupt-keeps p n = search (says-keeps, then-keeps, looks-keeps, for_some-keeps, release-keeps) depth 8

-- ---- handlers and moments that a setting names

pub setting_of-keeps : (p : Image) (name : Who) (q : Seen) (base : ℤ) (set : Setting) (handler : Option HandlerName) (step : Option HandlerOf → ℤ → Step)
    → ((x : Option HandlerOf) (y : ℤ) → Keeps p (step x y)) → Keeps p (setting_of p name q base set handler step)
setting_of-keeps p name q base set handler step kept = search (given-keeps, with_room_for_release-keeps, raise_if-keeps) depth 7

pub answer-keeps : (p : Image) (name : Who) (v : Variable) (b : Bool) → Keeps p (answer p name v b)
unfolding answer
answer-keeps p name v b = search (given_right-keeps, looks-keeps, given-keeps, changes-keeps, next-alters, store-gives) depth 6

-- ---- timing events (D.15)

pub cancel_event_setting-alters : {p : Image} (e : ℕ) → Alters p (cancel_event_setting e)
cancel_event_setting-alters e = search (drop_appointment-alters)

pub appoint_event-keeps : (p : Image) (e : ℕ) (h : HandlerOf) (m : ℤ) (test : Bool) → Keeps p (appoint_event p e h m test)
unfolding appoint_event
appoint_event-keeps p e h m true = search (changes-keeps, appoint-alters)
appoint_event-keeps p e h m false = search (release-keeps)

pub event_set_to-keeps : (p : Image) (e : ℕ) (found : Option HandlerOf) (m : ℤ) → Keeps p (event_set_to p e found m)
unfolding event_set_to
event_set_to-keeps p e None m = search (nothing-keeps)
event_set_to-keeps p e (Some h) m = search (looks-keeps, appoint_event-keeps)

pub set_event-keeps : (p : Image) (name : Who) (s : StatementNo) (d : DeclNo) (set : Setting) (handler : Option HandlerName)
    → Keeps p (set_event p name s d set handler)
unfolding set_event
set_event-keeps p name s d set handler =
    search (sees-keeps, given-keeps, setting_of-keeps, goes-keeps, then-keeps, changes-keeps, cancel_event_setting-alters, event_set_to-keeps) depth 12

pub cancel_event-keeps : (p : Image) (name : Who) (s : StatementNo) (d : DeclNo) (target : VariableName) → Keeps p (cancel_event p name s d target)
unfolding cancel_event
cancel_event-keeps p name s d target =
    search (sees-keeps, given-keeps, goes-keeps, then-keeps, changes-keeps, cancel_event_setting-alters, answer-keeps) depth 12

-- ---- timers (D.14.1)

pub clear_timer-alters : {p : Image} (k : ℕ) → Alters p (clear_timer k)
unfolding Right
clear_timer-alters k = record { at = λ w right. right }

pub with_timer_set-alters : {p : Image} (k : ℕ) (h : HandlerOf) (v : ℤ) → Alters p (with_timer_set k h v)
unfolding Right
with_timer_set-alters k h v = record { at = λ w right. right }

pub timer_set_beyond-keeps : (p : Image) (k : ℕ) (h : HandlerOf) (v : ℤ) (test : Bool) → Keeps p (timer_set_beyond p k h v test)
unfolding timer_set_beyond
timer_set_beyond-keeps p k h v true = search (changes-keeps, with_timer_set-alters)
timer_set_beyond-keeps p k h v false = search (release-keeps)

pub timer_set_to-keeps : (p : Image) (k clock : ℕ) (found : Option HandlerOf) (v : ℤ) → Keeps p (timer_set_to p k clock found v)
unfolding timer_set_to
timer_set_to-keeps p k clock None v = search (nothing-keeps)
timer_set_to-keeps p k clock (Some h) v = search (timer_set_beyond-keeps)

pub set_timer-keeps : (p : Image) (name : Who) (s : StatementNo) (d : DeclNo) (set : Setting) (handler : Option HandlerName)
    → Keeps p (set_timer p name s d set handler)
unfolding set_timer
set_timer-keeps p name s d set handler =
    search (sees-keeps, given-keeps, setting_of-keeps, goes-keeps, then-keeps, changes-keeps, clear_timer-alters, timer_set_to-keeps) depth 13

pub cancel_timer-keeps : (p : Image) (name : Who) (s : StatementNo) (d : DeclNo) (target : VariableName) → Keeps p (cancel_timer p name s d target)
unfolding cancel_timer
cancel_timer-keeps p name s d target = search (sees-keeps, given-keeps, goes-keeps, then-keeps, changes-keeps, clear_timer-alters, answer-keeps) depth 13

-- ---- group budgets (D.14.2)

pub edit_budget-alters : {p : Image} (b : ℕ) (f : Budget → Budget) → Alters p (edit_budget b f)
unfolding Right
edit_budget-alters b f = record { at = λ w right. right }

pub change_member-keeps : (p : Image) (name : Who) (s : StatementNo) (t : world.Task) (is_right : Bool) (b : Option ℕ)
    → Keeps p (change_member p name s t is_right b)
unfolding change_member
change_member-keeps p name s t is_right b = search (raise_if-keeps, goes-keeps, then-keeps, changes-keeps, edit_task-alters) depth 8

pub add_member-keeps : (p : Image) (name : Who) (s : StatementNo) (d : DeclNo) (e : ExprNo) → Keeps p (add_member p name s d e)
unfolding add_member
add_member-keeps p name s d e = search (sees-keeps, given-keeps, change_member-keeps) depth 7

pub remove_member-keeps : (p : Image) (name : Who) (s : StatementNo) (d : DeclNo) (e : ExprNo) → Keeps p (remove_member p name s d e)
unfolding remove_member
remove_member-keeps p name s d e = search (sees-keeps, given-keeps, change_member-keeps) depth 7

pub fill_budget-keeps : (p : Image) (name : Who) (s : StatementNo) (d : DeclNo) (e : ExprNo) (f : ℤ → Budget → Budget) → Keeps p (fill_budget p name s d e f)
unfolding fill_budget
fill_budget-keeps p name s d e f =
    search (sees-keeps, given-keeps, with_room_for_release-keeps, raise_if-keeps, goes-keeps, then-keeps, changes-keeps, edit_budget-alters) depth 12

pub replenish-keeps : (p : Image) (name : Who) (s : StatementNo) (d : DeclNo) (e : ExprNo) → Keeps p (replenish p name s d e)
unfolding replenish
replenish-keeps p name s d e = search (fill_budget-keeps)

pub add_to_budget-keeps : (p : Image) (name : Who) (s : StatementNo) (d : DeclNo) (e : ExprNo) → Keeps p (add_to_budget p name s d e)
unfolding add_to_budget
add_to_budget-keeps p name s d e = search (fill_budget-keeps)

pub set_budget-keeps : (p : Image) (name : Who) (s : StatementNo) (d : DeclNo) (handler : Option HandlerName) → Keeps p (set_budget p name s d handler)
unfolding set_budget
set_budget-keeps p name s d handler =
    search (sees-keeps, given-keeps, with_room_for_release-keeps, raise_if-keeps, goes-keeps, then-keeps, changes-keeps, edit_budget-alters) depth 12

pub cancel_budget-keeps : (p : Image) (name : Who) (s : StatementNo) (d : DeclNo) (target : VariableName) → Keeps p (cancel_budget p name s d target)
unfolding cancel_budget
cancel_budget-keeps p name s d target = search (sees-keeps, given-keeps, goes-keeps, then-keeps, changes-keeps, edit_budget-alters, answer-keeps) depth 12

-- ---- one tick is charged (D.14, D.2.5)

pub charge_budget-alters : {p : Image} (found : Option ℕ) → Alters p (charge_budget found)
charge_budget-alters None = search (unchanged-alters)
charge_budget-alters (Some b) = search (edit_budget-alters)

pub charge_clock-alters : {p : Image} (t : TaskNo) → Alters p (charge_clock t)
unfolding Right
charge_clock-alters {p = p} t = record { at = λ w right. (edit_task-alters {p = p} (who.Task t) clock_risen).at w right }

pub charge_group-alters : {p : Image} (t : TaskNo) → Alters p (charge_group t)
unfolding Right
charge_group-alters {p = p} t = record { at = λ w right. (charge_budget-alters {p = p} (task_of w (who.Task t)).budget).at w right }

pub charge_task-alters : (p : Image) (t : TaskNo) → Alters p (charge_task p t)
charge_task-alters p t = record {
  at =
      λ w right. (edit_task-alters (who.Task t) (quantum_spent_by p)).at (charge_group t (charge_clock t w))
      ((charge_group-alters t).at (charge_clock t w) ((charge_clock-alters t).at w right));
}

pub charge-alters : (p : Image) (name : Who) → Alters p (charge p name)
charge-alters p (who.Task t) = record { at = λ w right. (charge_task-alters p t).at w right }
charge-alters p who.Agent = record { at = λ w right. right }
