-- Masters, dependents, completion and termination (9.3, 7.6.1).
use Rattle.std.specs.Prelude.{ℕ, zero, suc, Bool, true, false, cond, not, ◌&&◌, ◌||◌, List, []}
use Rattle.std.specs.Prelude.{◌∷◌, Option, Some, None, eqb, ltb, length, filter, find, map}
use Rattle.std.specs.List.{list_any, list_all, flat_map, filter_map}
use Rattle.ann_base.specs.declared.identities.CallNo.{CallNo}
use Rattle.ann_base.specs.declared.identities.RegionNo.{RegionNo}
use Rattle.ann_base.specs.declared.exceptions.Raised.TheVariants as exception
use Rattle.trace_text.specs.declared.events.Who.{Who}
use Rattle.trace_text.specs.declared.events.Who.TheVariants as who
use Rattle.profile_image.specs.declared.image.Image.{Image}
use Rattle.profile_machine.specs.declared.run_data.Leaving.{Leaving}
use Rattle.profile_machine.specs.declared.run_data.Leaving.TheVariants as how
use Rattle.profile_machine.specs.declared.world.World.{World}
use Rattle.profile_machine.specs.declared.world.tasks.Task.{Task}
use Rattle.profile_machine.specs.declared.world.marks.Frame.{Frame}
use Rattle.profile_machine.specs.declared.world.marks.Mark.{Mark}
use Rattle.profile_machine.specs.declared.world.calls.Call.{Call}
use Rattle.profile_machine.specs.declared.world.tasks.Waiting.{Waiting}
use Rattle.profile_machine.specs.declared.world.tasks.Cause.TheVariants as inherited_by
use Rattle.profile_machine.specs.declared.world.calls.Outcome.TheVariants as call_ended
use Rattle.profile_machine.specs.declared.world.tasks.Waiting.TheVariants as waits_for
use Rattle.profile_machine.specs.declared.world.marks.Mark.TheVariants.{Scope, Handled, InProtected, InAccept}
use Rattle.profile_machine.specs.declared.world.marks.Mark.TheVariants.{Abortable, InInitialize, InFinalize, InAssign}
use Rattle.profile_machine.specs.declared.world.tasks.State.TheVariants.{Runnable}
use Rattle.profile_image.specs.Words.{same_who, same_region, is_the, has, without}
use Rattle.profile_machine.specs.declared.world.lines.Part.{Part}
use Rattle.profile_machine.specs.declared.world.lines.Part.TheVariants.{Own, OfOther}
use Rattle.profile_machine.specs.Steps.{Step, changes, looks, when, nothing, for_some, for_each, ◌▷◌}
use Rattle.profile_machine.specs.Tasks.{task_of, edit_task, with_state, is_who, waiting_in, waiting_of}
use Rattle.profile_machine.specs.Dispatching.{ready}
use Rattle.profile_machine.specs.Frames.{raises, leaves, open_sequence}
use Rattle.profile_machine.specs.Inheritance.{lose}
use Rattle.profile_machine.specs.Appointments.{drop_delay}
use Rattle.profile_machine.specs.Calls.{call_of}
use Rattle.profile_machine.specs.CallEnds.{gone, end_call}

-- the part of an effect for the lines of somebody: of who acts, or of another
abbrev pub part_of : Who → Who → Part
part_of actor name = cond (same_who actor name) Own (OfOther name)

-- ---- regions and who owns them

abbrev pub region_of_mark : Mark → Option RegionNo
region_of_mark (Scope m) = m.region
region_of_mark (Handled s) = None
region_of_mark (InProtected m) = None
region_of_mark (InAccept m) = None
region_of_mark (Abortable m) = None
region_of_mark (InInitialize l) = None
region_of_mark (InFinalize o) = None
region_of_mark (InAssign m) = None

abbrev pub has_region : RegionNo → Frame → Bool
has_region r f = is_the same_region (region_of_mark f.mark) r

abbrev pub owns : RegionNo → Task → Bool
owns r t = list_any (has_region r) t.frames

abbrev pub owner_of : World → RegionNo → Option Task
owner_of w r = find (owns r) w.tasks

abbrev pub is_scope_being_left : Mark → Bool
is_scope_being_left (Scope m) = m.being_left
is_scope_being_left _ = false

abbrev pub is_being_left_in : RegionNo → List Frame → Bool
is_being_left_in r [] = false
is_being_left_in r (f ∷ fs) = cond (has_region r f) (is_scope_being_left f.mark) (is_being_left_in r fs)

-- a region is being left, from its `leave` to its `left`
abbrev pub is_region_being_left : World → RegionNo → Bool
is_region_being_left w r = list_any (λ t. is_being_left_in r t.frames) w.tasks

-- the regions on which a task depends: its master, the master of that region's owner, and so on
abbrev pub masters_beyond : (Option RegionNo → List RegionNo) → RegionNo → Option Task → List RegionNo
masters_beyond again r None = r ∷ []
masters_beyond again r (Some owner) = r ∷ again owner.master

abbrev pub masters_from : ℕ → World → Option RegionNo → List RegionNo
masters_from zero w master = []
masters_from (suc fuel) w None = []
masters_from (suc fuel) w (Some r) = masters_beyond (masters_from fuel w) r (owner_of w r)

abbrev pub masters_of : World → Task → List RegionNo
masters_of w t = masters_from (suc (length w.tasks)) w t.master

abbrev pub depends_on_region : World → RegionNo → Task → Bool
depends_on_region w r t = has same_region (masters_of w t) r

-- a task depends on another: some region on which it depends is one of the other's
abbrev pub is_task : Who → Option Task → Bool
is_task name None = false
is_task name (Some t) = is_who name t

abbrev pub depends_on_task : World → Who → Task → Bool
depends_on_task w name t = list_any (λ r. is_task name (owner_of w r)) (masters_of w t)

-- some task has this region as its master
abbrev pub has_dependents : World → RegionNo → Bool
has_dependents w r = list_any (λ t. is_the same_region t.master r) w.tasks

-- ---- completion (9.3): calls that are queued get Tasking_Error, by their callers' numbers and then by their own

abbrev pub is_call_before : Call → Call → Bool
is_call_before a b = ltb a.caller.0 b.caller.0 || (eqb a.caller.0 b.caller.0 && ltb a.number.0 b.number.0)

abbrev pub put_call_in_order : Call → List Call → List Call
put_call_in_order c [] = c ∷ []
put_call_in_order c (d ∷ ds) = cond (is_call_before d c) (d ∷ put_call_in_order c ds) (c ∷ d ∷ ds)

abbrev pub calls_in_order : List Call → List Call
calls_in_order [] = []
calls_in_order (c ∷ cs) = put_call_in_order c (calls_in_order cs)

abbrev pub calls_there : World → List CallNo → List Call
calls_there w cs = filter_map (call_of w) cs

abbrev pub queued_calls : World → Task → List Call
queued_calls w t = calls_in_order (calls_there w (flat_map (λ q. q) t.queues))

-- only when all have got it is it asked who is unwound
unfoldable pub gone_by_completion : Image → Who → Call → Step
gone_by_completion p actor c =
    gone p (part_of actor (who.Task c.caller)) c
    ▷ end_call p (part_of actor (who.Task c.caller)) c (call_ended.ToRaise exception.Tasking)

-- ---- the end of an activation (9.2)

abbrev pub is_activated_by : Who → Task → Bool
is_activated_by name t = is_the same_who t.activator name

-- whether some task of the group is still being activated
abbrev pub has_activating : World → Who → Bool
has_activating w name = list_any (is_activated_by name) w.tasks

abbrev pub with_failure : Bool → Task → Task
with_failure failed t = record t { group_failed = t.group_failed || failed }

abbrev pub waits_for_activation : Option Waiting → Bool
waits_for_activation (Some waits_for.Activation) = true
waits_for_activation _ = false

-- Tasking_Error is raised once in the activator where a task of the group failed
unfoldable pub wake_activator : Image → Part → Who → Step
wake_activator p part name =
    looks (λ w. ready p part name ▷ when (task_of w name).group_failed (raises part name exception.Tasking)
    ▷ open_sequence p part name)

-- behind the last of the group the activator is ready, if it still waits for this activation
unfoldable pub end_group : Image → Who → Who → Step
end_group p actor activator =
    looks (λ w. when (not (has_activating w activator)
    && waits_for_activation (waiting_of w activator)) (wake_activator p (part_of actor activator) activator))

abbrev pub not_activating : Task → Task
not_activating t = record t { activator = None }

-- a task's activation ends: it loses the inherited priority
unfoldable pub end_activation_by : Image → Who → Who → Bool → Option Who → Step
end_activation_by p actor name failed None = nothing
end_activation_by p actor name failed (Some activator) =
    changes (edit_task name not_activating) ▷ changes (lose name inherited_by.Activation)
    ▷ changes (edit_task activator (with_failure failed)) ▷ end_group p actor activator

unfoldable pub end_activation : Image → Who → Who → Bool → Step
end_activation p actor name failed = looks (λ w. end_activation_by p actor name failed (task_of w name).activator)

-- ---- a task is completed, and terminates

abbrev pub without_queued : List CallNo → List CallNo
without_queued queue = []

abbrev pub completed_task : Task → Task
completed_task t = record t { completed = true; queues = map without_queued t.queues }

-- an activation that raised counts as failed, of a task that was not aborted
abbrev pub is_exception : Option Leaving → Bool
is_exception (Some (how.Exception e)) = true
is_exception _ = false

abbrev pub last_left_as : List Frame → Option Leaving
last_left_as [] = None
last_left_as (f ∷ []) = f.left_as
last_left_as (f ∷ g ∷ rest) = last_left_as (g ∷ rest)

abbrev pub has_failed : Task → Bool
has_failed t = is_exception (last_left_as t.frames) && not t.abnormal

unfoldable pub complete_with : Image → Who → Who → List Call → Bool → Step
complete_with p actor name calls failed =
    changes (edit_task name completed_task) ▷ for_each calls (gone_by_completion p actor)
    ▷ end_activation p actor name failed

-- a task is completed: no call on it is accepted any more
unfoldable pub complete : Image → Who → Who → Step
complete p actor name =
    looks (λ w. when (not (task_of w name).completed)
    (complete_with p actor name (queued_calls w (task_of w name)) (has_failed (task_of w name))))

abbrev pub waits_in : RegionNo → Option Waiting → Bool
waits_in r (Some (waits_for.Dependents s)) = same_region r s
waits_in r _ = false

abbrev pub waits_for_dependents : RegionNo → Task → Bool
waits_for_dependents r t = waits_in r (waiting_in t.state)

-- a master that waits becomes ready when the last task that depends on it has terminated
unfoldable pub wake_master : Image → Who → RegionNo → Step
wake_master p actor r =
    looks (λ w. when (not (has_dependents w r))
    (for_some (find (waits_for_dependents r) w.tasks) (λ t. ready p (part_of actor t.who) t.who)))

abbrev pub forget_task : Who → World → World
forget_task name w = record w { tasks = without (is_who name) w.tasks }

-- it is completed if it was not, and is no longer there
unfoldable pub terminate : Image → Who → Who → Step
terminate p actor name =
    looks (λ w. complete p actor name ▷ changes (drop_delay name) ▷ changes (forget_task name)
    ▷ for_some (task_of w name).master (wake_master p actor))

-- ---- terminate alternatives (9.7.1, 9.3)

abbrev pub waits_at_terminate : Option Waiting → Bool
waits_at_terminate (Some (waits_for.Select accepts delay terminate)) = terminate
waits_at_terminate _ = false

abbrev pub is_at_terminate : Task → Bool
is_at_terminate t = waits_at_terminate (waiting_in t.state)

-- a region is being left, and every task that depends on it waits at an open terminate alternative
abbrev pub all_at_terminate : World → RegionNo → Bool
all_at_terminate w r = list_all is_at_terminate (filter (depends_on_region w r) w.tasks)

abbrev pub may_terminate : World → Task → Bool
may_terminate w t = is_at_terminate t && list_any (λ r. is_region_being_left w r
    && all_at_terminate w r) (masters_of w t)

-- one that waits becomes ready; who comes to its select in this effect does not even block
unfoldable pub leave_by_terminate : Image → Who → Task → Step
leave_by_terminate p actor t =
    changes (drop_delay t.who)
    ▷ cond (same_who actor t.who) (changes (edit_task t.who (with_state Runnable))) (ready p (OfOther t.who) t.who)
    ▷ leaves t.who how.Terminate
