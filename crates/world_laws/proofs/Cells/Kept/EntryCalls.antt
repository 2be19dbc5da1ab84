-- Entry calls, asynchronous selects and requeues: each step keeps the cells right.
use Rattle.std.specs.Prelude.{ℕ, ℤ, Bool, true, false, Option, Some, None}
use Rattle.ann_base.specs.declared.identities.CallNo.{CallNo}
use Rattle.ann_base.specs.declared.identities.ObjectNo.{ObjectNo}
use Rattle.ann_base.specs.declared.identities.TaskNo.{TaskNo}
use Rattle.ann_base.specs.declared.exceptions.Raised.{Raised}
use Rattle.profile_machine.specs.declared.world.calls.EntryCallNamed.{EntryCallNamed}
use Rattle.trace_text.specs.declared.events.Who.{Who}
use Rattle.trace_text.specs.declared.events.Who.TheVariants as who
use Rattle.profile_image.specs.declared.image.Image.{Image}
use Rattle.profile_image.specs.declared.numbers.EntryNo.{EntryNo}
use Rattle.profile_image.specs.declared.numbers.StatementNo.{StatementNo}
use Rattle.profile_image.specs.declared.statements.EntryOwner.{EntryOwner}
use Rattle.profile_image.specs.declared.statements.StatementForm.{StatementForm}
use Rattle.profile_image.specs.declared.statements.StatementForm.TheVariants as form
use Rattle.profile_machine.specs.declared.world.calls.Call.{Call}
use Rattle.profile_machine.specs.declared.world.calls.CallKind.{CallKind}
use Rattle.profile_machine.specs.declared.world.calls.Owner.{Owner}
use Rattle.profile_machine.specs.declared.world.calls.Owner.TheVariants as owned_by
use Rattle.profile_machine.specs.declared.world.lines.Part.{Part}
use Rattle.profile_machine.specs.Steps.{Step}
use Rattle.profile_machine.specs.EntryCalls.{add_call, make_call, end_at_once, call_gone, call_meets, call_queues, call_not_met, call_accepted_by}
use Rattle.profile_machine.specs.EntryCalls.{call_callable, call_task, call_runs, call_without_room, has_room_for_action, call_runs_if_room}
use Rattle.profile_machine.specs.EntryCalls.{call_passes, call_refused, call_closed, call_by_barrier, call_object, call_owner, call_named, entry_call}
use Rattle.profile_machine.specs.EntryCalls.{appoint_trigger, trigger_delay, async_delay, async_by_trigger, asynchronous_select, mark_sending, requeue}
use Rattle.world_laws.proofs.Cells.RightCells.{Right, Keeps, Alters, then-keeps, nothing-keeps, changes-keeps}
use Rattle.world_laws.proofs.Cells.RightCells.{says-keeps, looks-keeps, sees-keeps, branch-keeps, unchanged-alters}
use Rattle.world_laws.proofs.Cells.Kept.Dispatching.{block-keeps}
use Rattle.world_laws.proofs.Cells.Kept.Frames.{goes-keeps, leaves-keeps, raises-keeps, given-keeps, raise_if-keeps, with_room-keeps}
use Rattle.world_laws.proofs.Cells.Kept.Appointments.{appoint-alters}
use Rattle.world_laws.proofs.Cells.Kept.Calls.{edit_call-alters, forget_call-alters, says_call-keeps, enqueue-keeps}
use Rattle.world_laws.proofs.Cells.Kept.CallEnds.{gone-keeps}
use Rattle.world_laws.proofs.Cells.Kept.Protected.{where_let_inside-keeps, begin_action_on-keeps, serve_call-keeps}
use Rattle.world_laws.proofs.Cells.Kept.Sending.{open_abortable-alters, not_accepted-keeps}
use Rattle.world_laws.proofs.Cells.Kept.Rendezvous.{meet-keeps}

-- ---- a call is made

pub add_call-alters : {p : Image} (c : Call) → Alters p (add_call c)
unfolding Right
add_call-alters c = record { at = λ w right. right }

pub make_call-keeps : (p : Image) (c : Call) (step : Call → Step) → ((x : Call) → Keeps p (step x)) → Keeps p (make_call p c step)
make_call-keeps p c step kept = search (goes-keeps, then-keeps, looks-keeps, changes-keeps, add_call-alters, says_call-keeps) depth 11

pub end_at_once-keeps : {p : Image} (part : Part) (c : Call) (e : Raised) → Keeps p (end_at_once part c e)
unfolding end_at_once
end_at_once-keeps part c e = search (changes-keeps, forget_call-alters, then-keeps, raises-keeps) depth 7

-- ---- a call of a task's entry (9.5.3)

pub call_gone-keeps : (p : Image) (c : Call) → Keeps p (call_gone p c)
unfolding call_gone
call_gone-keeps p c = search (gone-keeps, then-keeps, end_at_once-keeps) depth 6

pub call_meets-keeps : (p : Image) (t : TaskNo) (s : StatementNo) (c : Call) → Keeps p (call_meets p t s c)
unfolding call_meets
call_meets-keeps p t s c = search (meet-keeps, block-keeps, end_at_once-keeps) depth 6

pub call_queues-keeps : (p : Image) (c : Call) → Keeps p (call_queues p c)
unfolding call_queues
call_queues-keeps p c = search (enqueue-keeps, then-keeps, not_accepted-keeps) depth 6

pub call_not_met-keeps : (p : Image) (c : Call) (test : Bool) → Keeps p (call_not_met p c test)
unfolding call_not_met
call_not_met-keeps p c true = search (make_call-keeps, end_at_once-keeps)
call_not_met-keeps p c false = search (with_room-keeps, make_call-keeps, call_queues-keeps) depth 6

pub call_accepted_by-keeps : (p : Image) (t : TaskNo) (c : Call) (found : Option StatementNo) → Keeps p (call_accepted_by p t c found)
unfolding call_accepted_by
call_accepted_by-keeps p t c (Some s) = search (make_call-keeps, call_meets-keeps)
call_accepted_by-keeps p t c None = search (looks-keeps, call_not_met-keeps)

pub call_callable-keeps : (p : Image) (t : TaskNo) (c : Call) (test : Bool) → Keeps p (call_callable p t c test)
unfolding call_callable
call_callable-keeps p t c false = search (make_call-keeps, call_gone-keeps)
call_callable-keeps p t c true = search (looks-keeps, call_accepted_by-keeps)

pub call_task-keeps : (p : Image) (t : TaskNo) (c : Call) → Keeps p (call_task p t c)
unfolding call_task
call_task-keeps p t c = search (looks-keeps, call_callable-keeps)

-- ---- a call of a protected entry (9.5.3)

pub call_runs-keeps : (p : Image) (o : ObjectNo) (c : Call) → Keeps p (call_runs p o c)
unfolding call_runs
call_runs-keeps p o c = search (begin_action_on-keeps, then-keeps, serve_call-keeps, nothing-keeps) depth 8

pub call_without_room-keeps : {p : Image} (o : ObjectNo) (c : Call) → Keeps p (call_without_room o c)
unfolding call_without_room
call_without_room-keeps o c = search (says-keeps, then-keeps, end_at_once-keeps) depth 12

pub call_runs_if_room-keeps : (p : Image) (o : ObjectNo) (c : Call) → Keeps p (call_runs_if_room p o c)
unfolding call_runs_if_room
call_runs_if_room-keeps p o c =
    looks-keeps _
    (λ w right.
    branch-keeps (has_room_for_action p w c) (call_runs p o c) (call_without_room o c) (search (call_runs-keeps)) (search (call_without_room-keeps)))

pub call_passes-keeps : (p : Image) (o : ObjectNo) (c : Call) → Keeps p (call_passes p o c)
unfolding call_passes
call_passes-keeps p o c = search (says-keeps, then-keeps, enqueue-keeps, not_accepted-keeps) depth 10

pub call_refused-keeps : {p : Image} (o : ObjectNo) (c : Call) → Keeps p (call_refused o c)
unfolding call_refused
call_refused-keeps o c = search (says-keeps, then-keeps, end_at_once-keeps) depth 8

pub call_closed-keeps : (p : Image) (o : ObjectNo) (c : Call) (test : Bool) → Keeps p (call_closed p o c test)
unfolding call_closed
call_closed-keeps p o c true = search (make_call-keeps, call_refused-keeps)
call_closed-keeps p o c false = search (with_room-keeps, make_call-keeps, call_passes-keeps) depth 6

pub call_by_barrier-keeps : (p : Image) (o : ObjectNo) (c : Call) (test : Bool) → Keeps p (call_by_barrier p o c test)
unfolding call_by_barrier
call_by_barrier-keeps p o c true = search (with_room-keeps, make_call-keeps, call_runs_if_room-keeps) depth 6
call_by_barrier-keeps p o c false = search (looks-keeps, call_closed-keeps)

pub call_object-keeps : (p : Image) (o : ObjectNo) (c : Call) → Keeps p (call_object p o c)
unfolding call_object
call_object-keeps p o c = search (where_let_inside-keeps, looks-keeps, call_by_barrier-keeps) depth 6

pub call_owner-keeps : (p : Image) (c : Call) (owner : Owner) → Keeps p (call_owner p c owner)
unfolding call_owner
call_owner-keeps p c (owned_by.Task t) = search (call_task-keeps)
call_owner-keeps p c (owned_by.Object o) = search (call_object-keeps)

-- ---- the entry call of a statement

pub call_named-keeps : (p : Image) (t : TaskNo) (kind : CallKind) (s : StatementNo) (n : EntryCallNamed) → Keeps p (call_named p t kind s n)
unfolding call_named
call_named-keeps p t kind s n = search (sees-keeps, given-keeps, call_owner-keeps) depth 8

pub entry_call-keeps : (p : Image) (name : Who) (kind : CallKind) (s : StatementNo) → Keeps p (entry_call p name kind s)
unfolding entry_call
entry_call-keeps p (who.Task t) kind s = search (looks-keeps, raise_if-keeps, call_named-keeps) depth 6
entry_call-keeps p who.Agent kind s = search (raises-keeps)

-- ---- the asynchronous select (9.7.4)

pub appoint_trigger-alters : {p : Image} (name : Who) (depth : ℕ) (m : ℤ) → Alters p (appoint_trigger name depth m)
appoint_trigger-alters (who.Task t) depth m = search (appoint-alters)
appoint_trigger-alters who.Agent depth m = search (unchanged-alters)

pub trigger_delay-keeps : (p : Image) (name : Who) (s trigger : StatementNo) (m : ℤ) (test : Bool) → Keeps p (trigger_delay p name s trigger m test)
unfolding trigger_delay
trigger_delay-keeps p name s trigger m false = search (goes-keeps)
trigger_delay-keeps p name s trigger m true =
    search (with_room-keeps, goes-keeps, then-keeps, looks-keeps, changes-keeps, open_abortable-alters, appoint_trigger-alters) depth 12

pub async_delay-keeps : (p : Image) (name : Who) (s trigger : StatementNo) → Keeps p (async_delay p name s trigger)
unfolding async_delay
async_delay-keeps p name s trigger = search (sees-keeps, raise_if-keeps, given-keeps, trigger_delay-keeps) depth 7

pub async_by_trigger-keeps : (p : Image) (name : Who) (s trigger : StatementNo) (form : StatementForm) → Keeps p (async_by_trigger p name s trigger form)
unfolding async_by_trigger
async_by_trigger-keeps p name s trigger (form.EntryCall entry owner actuals) = search (entry_call-keeps)
async_by_trigger-keeps p name s trigger _ = search (async_delay-keeps)

pub asynchronous_select-keeps : (p : Image) (name : Who) (s trigger : StatementNo) → Keeps p (asynchronous_select p name s trigger)
unfolding asynchronous_select
asynchronous_select-keeps p name s trigger = search (async_by_trigger-keeps)

-- ---- requeue (9.5.4)

pub mark_sending-alters : {p : Image} (found : Option CallNo) (o : Owner) (e : EntryNo) (with_abort : Bool) → Alters p (mark_sending found o e with_abort)
mark_sending-alters None o e with_abort = search (unchanged-alters)
mark_sending-alters (Some c) o e with_abort = search (edit_call-alters)

pub requeue-keeps : (p : Image) (name : Who) (e : EntryNo) (o : EntryOwner) (with_abort : Bool) → Keeps p (requeue p name e o with_abort)
unfolding requeue
requeue-keeps p name e o with_abort = search (sees-keeps, given-keeps, changes-keeps, mark_sending-alters, then-keeps, leaves-keeps) depth 9
