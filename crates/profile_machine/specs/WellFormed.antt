-- What every world that a run reaches keeps, as tests that compute. A run is looked at before and behind each instant.
use Rattle.std.specs.Prelude.{ℕ, zero, suc, ◌+◌, ℤ, pos, int_le, Bool, true, false, cond, not, ◌&&◌, ◌||◌, List}
use Rattle.std.specs.Prelude.{[], ◌∷◌, ◌++◌, Option, Some, None, eqb, ltb, leb, length, filter, is_some, is_none}
use Rattle.std.specs.List.{list_any, list_all}
use Rattle.ann_base.specs.declared.identities.CallNo.{CallNo}
use Rattle.ann_base.specs.declared.identities.ObjectNo.{ObjectNo}
use Rattle.trace_text.specs.declared.events.Who.{Who}
use Rattle.trace_text.specs.declared.events.Who.TheVariants as who
use Rattle.profile_image.specs.declared.image.Image.{Image}
use Rattle.profile_image.specs.declared.numbers.StatementNo.{StatementNo}
use Rattle.profile_image.specs.declared.script_items.Item.{Item}
use Rattle.profile_machine.specs.declared.world.World.{World}
use Rattle.profile_machine.specs.declared.world.tasks.Task.{Task}
use Rattle.profile_machine.specs.declared.world.tasks.Placed.{Placed}
use Rattle.profile_machine.specs.declared.world.marks.Frame.{Frame}
use Rattle.profile_machine.specs.declared.world.marks.Mark.{Mark}
use Rattle.profile_machine.specs.declared.world.scopes.ScopeId.{ScopeId}
use Rattle.profile_machine.specs.declared.world.scopes.ScopeInUse.{ScopeInUse}
use Rattle.profile_machine.specs.declared.world.objects.Object.{Object}
use Rattle.profile_machine.specs.declared.world.objects.Action.{Action}
use Rattle.profile_machine.specs.declared.world.calls.Call.{Call}
use Rattle.profile_machine.specs.declared.world.calls.Owner.{Owner}
use Rattle.profile_machine.specs.declared.world.tasks.Waiting.{Waiting}
use Rattle.profile_machine.specs.declared.world.appointments.Due.{Due}
use Rattle.profile_machine.specs.declared.world.appointments.Due.TheVariants as due_for
use Rattle.profile_machine.specs.declared.world.calls.Owner.TheVariants as owned_by
use Rattle.profile_machine.specs.declared.world.tasks.Waiting.TheVariants as waits_for
use Rattle.profile_machine.specs.declared.world.marks.Mark.TheVariants.{Scope, Handled, InProtected, InAccept}
use Rattle.profile_machine.specs.declared.world.marks.Mark.TheVariants.{Abortable, InInitialize, InFinalize, InAssign}
use Rattle.profile_image.specs.Words.{same_who, same_object, same_option, same_number}
use Rattle.ann_base.specs.Lists.{is_empty}
use Rattle.profile_image.specs.Program.{form_of, scope_of, opens_handled}
use Rattle.profile_machine.specs.Steps.{is_above}
use Rattle.profile_machine.specs.Tasks.{task_of, is_runnable, waiting_of}
use Rattle.profile_machine.specs.Dispatching.{active, deadline_shown}
use Rattle.profile_machine.specs.Frames.{frames_of, onward_of}
use Rattle.profile_machine.specs.Scopes.{id_in, scope_in_use}
use Rattle.profile_machine.specs.Calls.{call_of, place_of_entry}
use Rattle.profile_machine.specs.Priorities.{is_queued}
use Rattle.profile_machine.specs.Controlled.{registered_object}
use Rattle.profile_machine.specs.Protected.{has_open}
use Rattle.profile_machine.specs.Sending.{may_time_out}
use Rattle.profile_machine.specs.Instant.{instant}
use Rattle.profile_machine.specs.Run.{opening, stop, tock}

-- ---- lists

-- each stands to the next as the test says
abbrev pub all_adjacent : {X : Type 0} → (X → X → Bool) → List X → Bool
all_adjacent test [] = true
all_adjacent test (x ∷ []) = true
all_adjacent test (x ∷ y ∷ rest) = test x y && all_adjacent test (y ∷ rest)

abbrev pub all_differ : {X : Type 0} → (X → X → Bool) → List X → Bool
all_differ same [] = true
all_differ same (x ∷ xs) = not (list_any (same x) xs) && all_differ same xs

-- everybody: the tasks that have not terminated, and the agent
abbrev pub everybody : World → List Task
everybody w = w.tasks ++ w.agent ∷ []

-- ---- dispatching: the ready queues hold exactly who is ready, each once, in order, at the active priority (D.2.1)

abbrev pub is_placed : World → Task → Bool
is_placed w t = list_any (λ x. same_who t.who x.who) w.places

abbrev pub ready_are_placed : World → Bool
ready_are_placed w = list_all (λ t. cond (is_runnable t) (is_placed w t) (not (is_placed w t))) (everybody w)

abbrev pub is_at_active : Image → World → Placed → Bool
is_at_active p w x =
    eqb x.level (active p (task_of w x.who)) && same_option same_number x.deadline (deadline_shown p (task_of w x.who))

abbrev pub places_are_right : Image → World → Bool
places_are_right p w =
    ready_are_placed w && all_differ (λ x y. same_who x.who y.who) w.places
    && all_adjacent (λ x y. not (is_above y x)) w.places
    && list_all (is_at_active p w) w.places

-- ---- numbers: tasks by number, and below those that were drawn

abbrev pub number_in : Who → ℕ
number_in (who.Task t) = t.0
number_in who.Agent = 0

abbrev pub tasks_are_numbered : World → Bool
tasks_are_numbered w =
    all_adjacent (λ a b. ltb (number_in a.who) (number_in b.who)) w.tasks
    && list_all (λ t. ltb (number_in t.who) w.drawn.tasks) w.tasks

abbrev pub registered_are_numbered : World → Bool
registered_are_numbered w =
    all_adjacent (λ a b. ltb b.object a.object) w.registered
    && list_all (λ r. leb r.object w.drawn.controlled) w.registered

abbrev pub releases_are_numbered : World → Bool
releases_are_numbered w = all_adjacent (λ a b. eqb (suc a.number) b.number) w.releases

-- ---- scopes: those in use are the scopes of the marks, the newest first (3.1)

abbrev pub is_older : ScopeId → ScopeId → Bool
is_older a b = ltb a.0 b.0

abbrev pub has_scope : World → Who → Frame → Bool
has_scope w name f =
    elim (id_in f.mark) [
      | None ↦ true
      | Some id ↦ elim (scope_in_use w id) [
        | None ↦ false
        | Some s ↦ same_who
            s.owner name
      ]
    ]

abbrev pub frames_with_scopes : List Frame → ℕ
frames_with_scopes frames = length (filter (λ f. is_some (id_in f.mark)) frames)

abbrev pub scopes_counted : List Task → ℕ
scopes_counted [] = 0
scopes_counted (t ∷ ts) = frames_with_scopes t.frames + scopes_counted ts

abbrev pub scopes_are_right : World → Bool
scopes_are_right w =
    all_adjacent (λ a b. is_older b.id a.id) w.scopes
    && list_all (λ t. list_all (has_scope w t.who) t.frames) (everybody w)
    && eqb (length w.scopes) (scopes_counted (everybody w))

-- a scope in use has as many cells as its text, so a cell that a name leads to is there
abbrev pub has_its_cells : Image → ScopeInUse → Bool
has_its_cells p s = eqb (length s.cells) (scope_of p s.scope).size

abbrev pub cells_are_right : Image → World → Bool
cells_are_right p w = list_all (has_its_cells p) w.scopes

-- ---- protected objects: open actions are InProtected marks; whoever has one open is not blocked and has at least the
-- ceiling as active priority; no write stands beside another action (9.5.1, D.3)

abbrev pub is_mark_of : ObjectNo → Mark → Bool
is_mark_of o (InProtected m) = same_object o m.object
is_mark_of o (Scope m) = false
is_mark_of o (Handled s) = false
is_mark_of o (InAccept m) = false
is_mark_of o (Abortable m) = false
is_mark_of o (InInitialize l) = false
is_mark_of o (InFinalize n) = false
is_mark_of o (InAssign m) = false

abbrev pub has_action_mark : ObjectNo → Task → Bool
has_action_mark o t = list_any (λ f. is_mark_of o f.mark) t.frames

abbrev pub holds_rightly : Image → World → Object → Action → Bool
holds_rightly p w o a =
    has_action_mark o.number (task_of w a.who) && is_runnable (task_of w a.who)
    && leb o.ceiling (active p (task_of w a.who))

abbrev pub has_action : World → Who → Frame → Bool
has_action w name f = list_all (λ o. cond (is_mark_of o.number f.mark) (has_open name o.actions) true) w.objects

abbrev pub actions_are_right : Image → World → Bool
actions_are_right p w =
    list_all (λ o. list_all (holds_rightly p w o) o.actions) w.objects
    && list_all (λ t. list_all (has_action w t.who) t.frames) (everybody w)

-- ---- calls: what stands in a queue is a call on that entry which has not begun; a task that is not there has none

abbrev pub same_owner : Owner → Owner → Bool
same_owner (owned_by.Task t) (owned_by.Task u) = eqb t.0 u.0
same_owner (owned_by.Task t) (owned_by.Object o) = false
same_owner (owned_by.Object o) (owned_by.Task t) = false
same_owner (owned_by.Object o) (owned_by.Object q) = same_object o q

abbrev pub is_queued_call : Image → Owner → ℕ → Option Call → Bool
is_queued_call p o place None = false
is_queued_call p o place (Some c) = is_queued c && same_owner o c.owner && eqb (place_of_entry p c.entry) place

abbrev pub queue_is_right : Image → World → Owner → ℕ → List CallNo → Bool
queue_is_right p w o place queue = list_all (λ c. is_queued_call p o place (call_of w c)) queue

-- the queues of an owner's entries, from this place on
abbrev pub queues_from : Image → World → Owner → ℕ → List (List CallNo) → Bool
queues_from p w o place [] = true
queues_from p w o place (queue ∷ queues) = queue_is_right p w o place queue && queues_from p w o (suc place) queues

abbrev pub task_queues_are_right : Image → World → Who → List (List CallNo) → Bool
task_queues_are_right p w (who.Task t) queues = queues_from p w (owned_by.Task t) 0 queues
task_queues_are_right p w who.Agent queues = is_empty queues

abbrev pub queues_are_right : Image → World → Bool
queues_are_right p w =
    list_all (λ t. task_queues_are_right p w t.who t.queues) w.tasks
    && list_all (λ o. queues_from p w (owned_by.Object o.number) 0 o.queues) w.objects
    && all_adjacent (λ a b. ltb b.number.0 a.number.0) w.calls

-- ---- appointments: by moment, and none of them before now; whatever one is for waits for it, so none comes for
-- nothing

-- a delay's task is blocked for that delay: it waits for the moment, or at a select whose delay alternative is to be
-- taken
abbrev pub waits_for_delay : Option Waiting → Bool
waits_for_delay None = false
waits_for_delay (Some waits_for.Activation) = false
waits_for_delay (Some waits_for.Moment) = true
waits_for_delay (Some (waits_for.Call c)) = false
waits_for_delay (Some (waits_for.EndOfCall c)) = false
waits_for_delay (Some (waits_for.Accept s)) = false
waits_for_delay (Some (waits_for.Select accepts delay terminate)) = is_some delay
waits_for_delay (Some (waits_for.Dependents r)) = false
waits_for_delay (Some waits_for.Release) = false

-- a trigger's depth names an open abortable part that a delay triggers and that has not been triggered, so one that
-- stands there later is not struck
abbrev pub awaits_trigger : Mark → Bool
awaits_trigger (Scope m) = false
awaits_trigger (Handled s) = false
awaits_trigger (InProtected m) = false
awaits_trigger (InAccept m) = false
awaits_trigger (Abortable m) = is_none m.call && not m.triggered
awaits_trigger (InInitialize l) = false
awaits_trigger (InFinalize n) = false
awaits_trigger (InAssign m) = false

abbrev pub awaits_trigger_at : ℕ → List Frame → Bool
awaits_trigger_at depth [] = false
awaits_trigger_at depth (f ∷ fs) = cond (eqb (length fs) depth) (awaits_trigger f.mark) (awaits_trigger_at depth fs)

abbrev pub is_awaited : Image → World → Due → Bool
is_awaited p w (due_for.Event n h) = true
is_awaited p w (due_for.Delay t) = waits_for_delay (waiting_of w (who.Task t))
is_awaited p w (due_for.Timeout c) = may_time_out p w (call_of w c)
is_awaited p w (due_for.Trigger t depth) = awaits_trigger_at depth (frames_of w (who.Task t))

abbrev pub appointments_are_right : Image → World → Bool
appointments_are_right p w =
    all_adjacent (λ a b. int_le a.moment b.moment) w.appointments
    && list_all (λ a. int_le (pos w.time) a.moment) w.appointments
    && list_all (λ a. is_awaited p w a.due) w.appointments

-- ---- marks: each is struck for a cause of its own task, and each Finalize stands where its end leads on (7.6.1,
-- 9.7.4, 9.8)

-- a struck mark is the outermost one of an abnormal task, or an abortable part of it whose trigger has completed, so
-- what is left by abort is what was struck
abbrev pub is_triggered : Mark → Bool
is_triggered (Scope m) = false
is_triggered (Handled s) = false
is_triggered (InProtected m) = false
is_triggered (InAccept m) = false
is_triggered (Abortable m) = m.triggered
is_triggered (InInitialize l) = false
is_triggered (InFinalize n) = false
is_triggered (InAssign m) = false

abbrev pub is_struck_rightly : Task → Frame → List Frame → Bool
is_struck_rightly t f below = cond f.struck (is_triggered f.mark || (is_empty below && t.abnormal)) true

-- an InFinalize mark stands on the scope that is being left, and its object has been taken out of the register; or on
-- the assignment to its object, which stays registered. So an exception of it has a scope or an assignment to go to.
abbrev pub finalizes_on : World → ℕ → Mark → Bool
finalizes_on w n (Scope m) = m.being_left && is_some m.region && is_none (registered_object w n)
    && leb n w.drawn.controlled
finalizes_on w n (Handled s) = false
finalizes_on w n (InProtected m) = false
finalizes_on w n (InAccept m) = false
finalizes_on w n (Abortable m) = false
finalizes_on w n (InInitialize l) = false
finalizes_on w n (InFinalize o) = false
finalizes_on w n (InAssign m) = eqb n m.target && is_some (registered_object w n)

abbrev pub finalizes_above : World → ℕ → List Frame → Bool
finalizes_above w n [] = false
finalizes_above w n (f ∷ fs) = finalizes_on w n f.mark

abbrev pub finalizes_rightly : World → Mark → List Frame → Bool
finalizes_rightly w (Scope m) below = true
finalizes_rightly w (Handled s) below = true
finalizes_rightly w (InProtected m) below = true
finalizes_rightly w (InAccept m) below = true
finalizes_rightly w (Abortable m) below = true
finalizes_rightly w (InInitialize l) below = true
finalizes_rightly w (InFinalize n) below = finalizes_above w n below
finalizes_rightly w (InAssign m) below = true

abbrev pub frames_are_right : World → Task → List Frame → Bool
frames_are_right w t [] = true
frames_are_right w t (f ∷ fs) = is_struck_rightly t f fs && finalizes_rightly w f.mark fs && frames_are_right w t fs

abbrev pub marks_are_right : World → Bool
marks_are_right w = list_all (λ t. frames_are_right w t t.frames) (everybody w)

-- ---- sequences with handlers: who is ready has opened the one to which it has come, so none is an action of its own

abbrev pub begins_sequence : Image → Option StatementNo → Bool
begins_sequence p None = false
begins_sequence p (Some s) = opens_handled (form_of p s)

abbrev pub has_opened : Image → World → Task → Bool
has_opened p w t = not (is_runnable t && begins_sequence p (onward_of w t.who))

abbrev pub sequences_are_open : Image → World → Bool
sequences_are_open p w = list_all (has_opened p w) (everybody w)

-- ---- a world that a run reaches

abbrev pub is_well_formed : Image → World → Bool
is_well_formed p w =
    places_are_right p w && tasks_are_numbered w && registered_are_numbered w && releases_are_numbered w
    && scopes_are_right w
    && cells_are_right p w && actions_are_right p w && queues_are_right p w && appointments_are_right p w
    && marks_are_right w
    && sequences_are_open p w

-- now never passes the bound
abbrev pub is_right : Image → ℕ → World → Bool
is_right p bound w = leb w.time bound && is_well_formed p w

-- every world of a run: before each instant, and behind it
abbrev pub all_well_formed : ℕ → Image → ℕ → World → Bool
all_well_formed zero p bound w = true
all_well_formed (suc fuel) p bound w =
    let i = instant p w in
    let t = tock p i.0 in
    elim (stop p bound i.0) [
      | Some reason ↦ is_well_formed p w && is_well_formed p i.0
      | None ↦ is_right p bound w && is_right p bound i.0 && all_well_formed fuel p bound t.0
    ]

abbrev pub run_is_well_formed : Image → List (ℤ × Item) → ℕ → Bool
run_is_well_formed p script bound = all_well_formed (suc bound) p bound (opening p script).0
