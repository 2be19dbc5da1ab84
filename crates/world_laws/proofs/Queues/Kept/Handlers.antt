-- Events, timers, budgets, interrupts and releases: each step keeps a relation that its parts keep.
use Rattle.std.specs.Prelude.{ℕ, ◌+◌, ◌-◌, ℤ, pos, int_lt, Bool, true, false, cond, Option, Some, None}
use Rattle.ann_base.specs.declared.identities.TaskNo.{TaskNo}
use Rattle.profile_machine.specs.declared.world.objects.Entering.{Entering}
use Rattle.profile_machine.specs.declared.world.objects.Entering.TheVariants as entering_is
use Rattle.profile_machine.specs.declared.world.lines.Line.TheVariants as line
use Rattle.trace_text.specs.declared.events.Who.{Who}
use Rattle.trace_text.specs.declared.events.Who.TheVariants as who
use Rattle.profile_image.specs.declared.image.Image.{Image}
use Rattle.profile_image.specs.declared.numbers.DeclNo.{DeclNo}
use Rattle.profile_image.specs.declared.numbers.ExprNo.{ExprNo}
use Rattle.profile_image.specs.declared.numbers.StatementNo.{StatementNo}
use Rattle.profile_image.specs.declared.expressions.VariableName.{VariableName}
use Rattle.profile_image.specs.declared.statements.HandlerName.{HandlerName}
use Rattle.profile_image.specs.declared.statements.Setting.{Setting}
use Rattle.profile_image.specs.declared.values.Value.TheVariants.{Truth}
use Rattle.profile_machine.specs.declared.world.World.{World}
use Rattle.profile_machine.specs.declared.world.appointments.HandlerOf.{HandlerOf}
use Rattle.profile_machine.specs.declared.world.appointments.Release.{Release}
use Rattle.profile_machine.specs.declared.world.appointments.Budget.{Budget}
use Rattle.profile_machine.specs.declared.world.scopes.Variable.{Variable}
use Rattle.profile_machine.specs.declared.world.tasks.State.{State}
use Rattle.profile_machine.specs.declared.world.appointments.Due.TheVariants as due_for
use Rattle.profile_machine.specs.declared.world.tasks.State.TheVariants.{Made, Runnable, Blocked}
use Rattle.profile_machine.specs.declared.world.tasks.Task as world
use Rattle.profile_image.specs.Program.{is_robin_level, marks_of, subprogram_of, size_of_body}
use Rattle.profile_machine.specs.declared.world.lines.Part.{Part}
use Rattle.profile_machine.specs.declared.world.lines.Part.TheVariants.{Own}
use Rattle.profile_machine.specs.Steps.{Step}
use Rattle.profile_machine.specs.Tasks.{task_of, edit_task}
use Rattle.profile_machine.specs.Frames.{has_room}
use Rattle.profile_machine.specs.Values.{Seen}
use Rattle.profile_machine.specs.CallEnds.{store}
use Rattle.trace_text.specs.declared.events.Mode.TheVariants.{Write}
use Rattle.profile_machine.specs.Protected.{entering}
use Rattle.profile_machine.specs.Serving.{end_release}
use Rattle.profile_machine.specs.Handlers.{add_release, says_release, wake_agent, release, with_room_for_release, begin_handler}
use Rattle.profile_machine.specs.Handlers.{begin_handler_if_room, enter_handler, call_handler, interrupt, setting_of, answer, cancel_event_setting}
use Rattle.profile_machine.specs.Handlers.{appoint_event, event_set_to, set_event, cancel_event, clear_timer, with_timer_set, timer_set_beyond}
use Rattle.profile_machine.specs.Handlers.{timer_set_to, set_timer, cancel_timer, edit_budget, change_member, add_member, remove_member}
use Rattle.profile_machine.specs.Handlers.{fill_budget, replenish, add_to_budget, set_budget, cancel_budget, clock_risen, charge_budget}
use Rattle.profile_machine.specs.Handlers.{quantum_spent_by, charge_clock, charge_group, charge_task, charge, handler_attached}
use Rattle.std.proofs.Common.{◌≡◌, refl}
use Rattle.std.specs.Prelude.{Bool}
use Rattle.profile_machine.specs.Notation.{p, t}
use Rattle.profile_machine.specs.Steps.{for_some}
use Rattle.profile_machine.specs.WellFormed.{is_right}
use Rattle.world_laws.proofs.Queues.Calming.{same-calm}
use Rattle.world_laws.proofs.Queues.Kept.Actions.{begin_action_on-keeps, end_release-calms, find_held-calms}
use Rattle.world_laws.proofs.Queues.Kept.Combinators.{Alters, Calms, Keeps, any-keeps, branch-keeps, changes-calms, changes-keeps}
use Rattle.world_laws.proofs.Queues.Kept.Combinators.{for_some-calms, looks-calms, looks-from, looks-keeps, nothing-calms}
use Rattle.world_laws.proofs.Queues.Kept.Combinators.{nothing-keeps, says-calms, sees-keeps, stays-calm, then-calms, then-keeps}
use Rattle.world_laws.proofs.Queues.Kept.Frames.{appoint-keeps, becomes-from, drop_appointment-alters, edit_task-alters, edit_task-quiets}
use Rattle.world_laws.proofs.Queues.Kept.Frames.{given-keeps, goes-keeps, open_scope-alters, raise_if-keeps, ready-calms, store-gives}
use Rattle.world_laws.proofs.Queues.Standing.{Calm, Kind, calm-then}

spent-who : (robin : Bool) (t : world.Task) → (cond robin (record t { quantum = t.quantum - 1 }) t).who ≡ t.who
spent-who true t = refl
spent-who false t = refl

spent-frames : (robin : Bool) (t : world.Task) → (cond robin (record t { quantum = t.quantum - 1 }) t).frames ≡ t.frames
spent-frames true t = refl
spent-frames false t = refl

spent-state : (robin : Bool) (t : world.Task) → (cond robin (record t { quantum = t.quantum - 1 }) t).state ≡ t.state
spent-state true t = refl
spent-state false t = refl

spent-queues : (robin : Bool) (t : world.Task) → (cond robin (record t { quantum = t.quantum - 1 }) t).queues ≡ t.queues
spent-queues true t = refl
spent-queues false t = refl

spent-completed : (robin : Bool) (t : world.Task) → (cond robin (record t { quantum = t.quantum - 1 }) t).completed ≡ t.completed
spent-completed true t = refl
spent-completed false t = refl

-- ---- releases

says_release-calms : {E : Kind} (part : Part) (h : HandlerOf) → Calms E (says_release part h)
unfolding says_release
says_release-calms part h = looks-calms _ (λ w. says-calms part (line.Release w.drawn.releases h))

wake_agent-calms : {E : Kind} (p : Image) (part : Part) (state : State) → Calms E (wake_agent p part state)
unfolding wake_agent
wake_agent-calms p part (Blocked waiting) = ready-calms p part who.Agent
wake_agent-calms p part Runnable = nothing-calms
wake_agent-calms p part Made = nothing-calms

pub release-calms : {E : Kind} (p : Image) (h : HandlerOf) (argument : Option ℕ) → Calms E (release p Own h argument)
unfolding release
release-calms p h argument =
    then-calms _ _ (changes-calms (add_release h argument) record { at = λ w. same-calm w (add_release h argument w) refl refl refl refl refl refl refl refl })
    (then-calms _ _ (says_release-calms Own h) (looks-calms (λ w. wake_agent p Own w.agent.state) (λ w. wake_agent-calms p Own w.agent.state)))

pub release-keeps : {E : Kind} {name : Who} (p : Image) (h : HandlerOf) (argument : Option ℕ) → Keeps E name (release p Own h argument)
release-keeps p h argument = any-keeps _ (release-calms p h argument)

-- the handler of a release is called
begin_handler-keeps : {E : Kind} (p : Image) (r : Release) → Keeps E who.Agent (begin_handler p r)
unfolding begin_handler
begin_handler-keeps p r = search (begin_action_on-keeps, then-keeps, looks-keeps, changes-keeps, open_scope-alters) depth 6

begin_handler_if_room-keeps : {E : Kind} (p : Image) (r : Release) → Keeps E who.Agent (begin_handler_if_room p r)
unfolding begin_handler_if_room
begin_handler_if_room-keeps p r =
    looks-keeps _
    (λ w. branch-keeps (has_room w who.Agent (1 + marks_of p (subprogram_of p r.handler.procedure).scope) (size_of_body p r.handler.procedure))
    (begin_handler p r) (end_release r.number) (begin_handler-keeps p r) (any-keeps _ (end_release-calms r.number)))

enter_handler-keeps : {E : Kind} (p : Image) (r : Release) (is : Entering) → Keeps E who.Agent (enter_handler p r is)
unfolding enter_handler
enter_handler-keeps p r entering_is.SameObject = any-keeps _ (end_release-calms r.number)
enter_handler-keeps p r entering_is.AboveCeiling = any-keeps _ (end_release-calms r.number)
enter_handler-keeps p r entering_is.Held = any-keeps _ (find_held-calms p who.Agent r.handler.object Write)
enter_handler-keeps p r entering_is.Inside = begin_handler_if_room-keeps p r

pub call_handler-keeps : {E : Kind} (p : Image) (r : Release) → Keeps E who.Agent (call_handler p r)
unfolding call_handler
call_handler-keeps p r =
    looks-keeps (λ w. enter_handler p r (entering p w who.Agent r.handler.object Write))
    (λ w. enter_handler-keeps p r (entering p w who.Agent r.handler.object Write))

-- ---- settings, and the charge of a tick

pub with_room_for_release-keeps : {E : Kind} (name : Who) (needed : Bool) (step : Step) → Keeps E name step
    → Keeps E name (with_room_for_release name needed step)
with_room_for_release-keeps name needed step kept = search (looks-keeps, raise_if-keeps)

pub setting_of-keeps : {E : Kind} (p : Image) (name : Who) (q : Seen) (base : ℤ) (set : Setting) (named : Option HandlerName)
    (step : Option HandlerOf → ℤ → Step)
    → ((x : Option HandlerOf) (y : ℤ) → Keeps E name (step x y))
    → Keeps E name (setting_of p name q base set named step)
setting_of-keeps p name q base set named step kept = search (given-keeps, with_room_for_release-keeps, raise_if-keeps)

pub answer-keeps : {E : Kind} (p : Image) (name : Who) (v : Variable) (b : Bool) → Keeps E name (answer p name v b)
unfolding answer
answer-keeps p name v b = looks-from _ (λ w good. becomes-from Own name (store p v (Truth b) w) w (store-gives p v (Truth b) w))

pub cancel_event_setting-alters : {E : Kind} {name : Who} (e : ℕ) → Alters E name (cancel_event_setting e)
cancel_event_setting-alters e = search (drop_appointment-alters)

pub cancel_event-keeps : {E : Kind} (p : Image) (name : Who) (s : StatementNo) (d : DeclNo) (target : VariableName)
    → Keeps E name (cancel_event p name s d target)
unfolding cancel_event
cancel_event-keeps p name s d target =
    search (sees-keeps, given-keeps, goes-keeps, then-keeps, changes-keeps, cancel_event_setting-alters, answer-keeps) depth 9

pub clear_timer-alters : {E : Kind} {name : Who} (k : ℕ) → Alters E name (clear_timer k)
clear_timer-alters k = record { at = λ w good. same-calm w _ refl refl refl refl refl refl refl refl }

with_timer_set-alters : {E : Kind} {name : Who} (k : ℕ) (h : HandlerOf) (v : ℤ) → Alters E name (with_timer_set k h v)
with_timer_set-alters k h v = record { at = λ w good. same-calm w _ refl refl refl refl refl refl refl refl }

pub cancel_timer-keeps : {E : Kind} (p : Image) (name : Who) (s : StatementNo) (d : DeclNo) (target : VariableName)
    → Keeps E name (cancel_timer p name s d target)
unfolding cancel_timer
cancel_timer-keeps p name s d target = search (sees-keeps, given-keeps, goes-keeps, then-keeps, changes-keeps, clear_timer-alters, answer-keeps) depth 9

edit_budget-alters : {E : Kind} {name : Who} (b : ℕ) (f : Budget → Budget) → Alters E name (edit_budget b f)
edit_budget-alters b f = record { at = λ w good. same-calm w _ refl refl refl refl refl refl refl refl }

pub change_member-keeps : {E : Kind} (p : Image) (name : Who) (s : StatementNo) (t : world.Task) (is_right : Bool) (b : Option ℕ)
    → Keeps E name (change_member p name s t is_right b)
unfolding change_member
change_member-keeps p name s t is_right b = search (raise_if-keeps, goes-keeps, then-keeps, changes-keeps, edit_task-alters)

pub add_member-keeps : {E : Kind} (p : Image) (name : Who) (s : StatementNo) (d : DeclNo) (e : ExprNo) → Keeps E name (add_member p name s d e)
unfolding add_member
add_member-keeps p name s d e = search (sees-keeps, given-keeps, change_member-keeps) depth 6

pub remove_member-keeps : {E : Kind} (p : Image) (name : Who) (s : StatementNo) (d : DeclNo) (e : ExprNo) → Keeps E name (remove_member p name s d e)
unfolding remove_member
remove_member-keeps p name s d e = search (sees-keeps, given-keeps, change_member-keeps) depth 6

pub fill_budget-keeps : {E : Kind} (p : Image) (name : Who) (s : StatementNo) (d : DeclNo) (e : ExprNo) (f : ℤ → Budget → Budget)
    → Keeps E name (fill_budget p name s d e f)
unfolding fill_budget
fill_budget-keeps p name s d e f =
    search (sees-keeps, given-keeps, with_room_for_release-keeps, raise_if-keeps, goes-keeps, then-keeps, changes-keeps, edit_budget-alters) depth 8

pub replenish-keeps : {E : Kind} (p : Image) (name : Who) (s : StatementNo) (d : DeclNo) (e : ExprNo) → Keeps E name (replenish p name s d e)
unfolding replenish
replenish-keeps p name s d e = search (fill_budget-keeps)

pub add_to_budget-keeps : {E : Kind} (p : Image) (name : Who) (s : StatementNo) (d : DeclNo) (e : ExprNo) → Keeps E name (add_to_budget p name s d e)
unfolding add_to_budget
add_to_budget-keeps p name s d e = search (fill_budget-keeps)

pub set_budget-keeps : {E : Kind} (p : Image) (name : Who) (s : StatementNo) (d : DeclNo) (named : Option HandlerName)
    → Keeps E name (set_budget p name s d named)
unfolding set_budget
set_budget-keeps p name s d named =
    search (sees-keeps, given-keeps, with_room_for_release-keeps, raise_if-keeps, goes-keeps, then-keeps, changes-keeps, edit_budget-alters) depth 8

pub cancel_budget-keeps : {E : Kind} (p : Image) (name : Who) (s : StatementNo) (d : DeclNo) (target : VariableName)
    → Keeps E name (cancel_budget p name s d target)
unfolding cancel_budget
cancel_budget-keeps p name s d target = search (sees-keeps, given-keeps, goes-keeps, then-keeps, changes-keeps, edit_budget-alters, answer-keeps) depth 9

-- ---- a tick is charged

charge_clock-calm : {E : Kind} (t : TaskNo) (w : World) → Calm E w (charge_clock t w)
charge_clock-calm t w =
    let next = edit_task (who.Task t) clock_risen w in
    calm-then w next (charge_clock t w) ((edit_task-quiets (who.Task t) clock_risen (λ u. refl) (λ u. refl) (λ u. refl) (λ u. refl) (λ u. refl)).at w)
    (same-calm next (charge_clock t w) refl refl refl refl refl refl refl refl)

charge_budget-calm : {E : Kind} (n : Option ℕ) (w : World) → Calm E w (charge_budget n w)
charge_budget-calm None w = stays-calm w
charge_budget-calm (Some b) w = same-calm w (charge_budget (Some b) w) refl refl refl refl refl refl refl refl

charge_group-calm : {E : Kind} (t : TaskNo) (w : World) → Calm E w (charge_group t w)
charge_group-calm t w =
    let b = (task_of w (who.Task t)).budget in
    calm-then w (charge_budget b w) (charge_group t w) (charge_budget-calm b w)
    (same-calm (charge_budget b w) (charge_group t w) refl refl refl refl refl refl refl refl)

pub charge-calm : {E : Kind} (p : Image) (name : Who) (w : World) → Calm E w (charge p name w)
charge-calm p (who.Task t) w =
    let risen = charge_clock t w in
    let charged = charge_group t risen in
    calm-then w risen (charge_task p t w) (charge_clock-calm t w) (calm-then risen charged (charge_task p t w) (charge_group-calm t risen)
    ((edit_task-quiets (who.Task t) (quantum_spent_by p) (λ u. spent-who (is_robin_level p u.base) u) (λ u. spent-frames (is_robin_level p u.base) u)
    (λ u. spent-state (is_robin_level p u.base) u) (λ u. spent-queues (is_robin_level p u.base) u)
    (λ u. spent-completed (is_robin_level p u.base) u)).at charged))
charge-calm p who.Agent w = stays-calm w

-- ---- what may release

pub interrupt-calms : {E : Kind} (p : Image) (n : ℕ) → Calms E (interrupt p n)
unfolding interrupt
interrupt-calms p n =
    then-calms _ _ (says-calms Own (line.Interrupt n))
    (looks-calms (λ w. for_some (handler_attached p n w.objects) (λ h. release p Own h None))
    (λ w. for_some-calms (handler_attached p n w.objects) (λ h. release p Own h None) (λ h. release-calms p h None)))

appoint_event-keeps : {E : Kind} {name : Who} (p : Image) (e : ℕ) (h : HandlerOf) (m : ℤ) (test : Bool) → Keeps E name (appoint_event p e h m test)
unfolding appoint_event
appoint_event-keeps p e h m true = appoint-keeps (due_for.Event e h) m refl
appoint_event-keeps p e h m false = release-keeps p h (Some e)

event_set_to-keeps : {E : Kind} {name : Who} (p : Image) (e : ℕ) (h : Option HandlerOf) (m : ℤ) → Keeps E name (event_set_to p e h m)
unfolding event_set_to
event_set_to-keeps p e None m = nothing-keeps
event_set_to-keeps p e (Some h) m = looks-keeps (λ w. appoint_event p e h m (int_lt (pos w.time) m)) (λ w. appoint_event-keeps p e h m (int_lt (pos w.time) m))

pub set_event-keeps : {E : Kind} (p : Image) (name : Who) (s : StatementNo) (d : DeclNo) (set : Setting) (named : Option HandlerName)
    → Keeps E name (set_event p name s d set named)
unfolding set_event
set_event-keeps p name s d set named =
    search (sees-keeps, given-keeps, setting_of-keeps, goes-keeps, then-keeps, changes-keeps, cancel_event_setting-alters, event_set_to-keeps) depth 9

timer_set_beyond-keeps : {E : Kind} {name : Who} (p : Image) (k : ℕ) (h : HandlerOf) (v : ℤ) (test : Bool) → Keeps E name (timer_set_beyond p k h v test)
unfolding timer_set_beyond
timer_set_beyond-keeps p k h v true = search (changes-keeps, with_timer_set-alters)
timer_set_beyond-keeps p k h v false = release-keeps p h (Some k)

timer_set_to-keeps : {E : Kind} {name : Who} (p : Image) (k clock : ℕ) (h : Option HandlerOf) (v : ℤ) → Keeps E name (timer_set_to p k clock h v)
unfolding timer_set_to
timer_set_to-keeps p k clock None v = nothing-keeps
timer_set_to-keeps p k clock (Some h) v = search (timer_set_beyond-keeps)

pub set_timer-keeps : {E : Kind} (p : Image) (name : Who) (s : StatementNo) (d : DeclNo) (set : Setting) (named : Option HandlerName)
    → Keeps E name (set_timer p name s d set named)
unfolding set_timer
set_timer-keeps p name s d set named =
    search (sees-keeps, given-keeps, setting_of-keeps, goes-keeps, then-keeps, changes-keeps, clear_timer-alters, timer_set_to-keeps) depth 9
