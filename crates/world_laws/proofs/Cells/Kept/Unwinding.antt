-- Abort where a task is blocked: each step keeps the cells right.
use Rattle.trace_text.specs.declared.events.Who.{Who}
use Rattle.profile_image.specs.declared.image.Image.{Image}
use Rattle.profile_machine.specs.declared.world.tasks.State.{State}
use Rattle.profile_machine.specs.declared.world.tasks.Waiting.{Waiting}
use Rattle.profile_machine.specs.declared.world.tasks.Waiting.TheVariants as waits_for
use Rattle.profile_machine.specs.declared.world.tasks.State.TheVariants.{Made, Runnable, Blocked}
use Rattle.profile_machine.specs.declared.world.lines.Part.{Part}
use Rattle.profile_machine.specs.Unwinding.{strike_outermost, leave_by_abort, stop_waiting, wake_and_leave, unwind_blocked, unwind_in, unwind}
use Rattle.profile_machine.specs.Masters.{terminate}
use Rattle.world_laws.proofs.Cells.RightCells.{Keeps, Alters, then-keeps, nothing-keeps, changes-keeps, looks-keeps, when-keeps}
use Rattle.world_laws.proofs.Cells.Kept.Tasks.{edit_task-alters}
use Rattle.world_laws.proofs.Cells.Kept.Dispatching.{ready-keeps}
use Rattle.world_laws.proofs.Cells.Kept.Frames.{leaves-keeps}
use Rattle.world_laws.proofs.Cells.Kept.Appointments.{drop_delay-alters}
use Rattle.world_laws.proofs.Cells.Kept.Calls.{forget_call-alters, attempt-keeps}

-- ---- striking

pub strike_outermost-alters : {p : Image} (name : Who) → Alters p (strike_outermost name)
strike_outermost-alters name = search (edit_task-alters)

-- ---- unwinding

pub leave_by_abort-keeps : {p : Image} (name : Who) → Keeps p (leave_by_abort name)
unfolding leave_by_abort
leave_by_abort-keeps name = search (changes-keeps, edit_task-alters, then-keeps, leaves-keeps) depth 7

pub stop_waiting-keeps : (p : Image) (part : Part) (name : Who) → Keeps p (stop_waiting p part name)
unfolding stop_waiting
stop_waiting-keeps p part name = search (changes-keeps, drop_delay-alters, then-keeps, ready-keeps) depth 7

pub wake_and_leave-keeps : (p : Image) (part : Part) (name : Who) → Keeps p (wake_and_leave p part name)
unfolding wake_and_leave
wake_and_leave-keeps p part name = search (stop_waiting-keeps, then-keeps, leave_by_abort-keeps) depth 6

pub unwind_blocked-keeps : (p : Image) (part : Part) (name : Who) (waiting : Waiting) → Keeps p (unwind_blocked p part name waiting)
unfolding unwind_blocked
unwind_blocked-keeps p part name (waits_for.Call c) =
    search (attempt-keeps, changes-keeps, forget_call-alters, then-keeps, wake_and_leave-keeps, nothing-keeps) depth 9
unwind_blocked-keeps p part name (waits_for.EndOfCall c) = search (nothing-keeps)
unwind_blocked-keeps p part name waits_for.Activation = search (wake_and_leave-keeps)
unwind_blocked-keeps p part name waits_for.Moment = search (wake_and_leave-keeps)
unwind_blocked-keeps p part name (waits_for.Accept s) = search (wake_and_leave-keeps)
unwind_blocked-keeps p part name (waits_for.Select accepts delay terminate) = search (wake_and_leave-keeps)
unwind_blocked-keeps p part name (waits_for.Dependents r) = search (wake_and_leave-keeps)
unwind_blocked-keeps p part name waits_for.Release = search (nothing-keeps)

pub unwind_in-keeps : (p : Image) (part : Part) (name : Who) (state : State) → Keeps p (unwind_in p part name state)
unfolding unwind_in
unwind_in-keeps p part name Made = search (nothing-keeps)
unwind_in-keeps p part name Runnable = search (leave_by_abort-keeps)
unwind_in-keeps p part name (Blocked waiting) = search (unwind_blocked-keeps)

pub unwind-keeps : (p : Image) (part : Part) (name : Who) → Keeps p (unwind p part name)
unfolding unwind
unwind-keeps p part name = search (looks-keeps, when-keeps, unwind_in-keeps) depth 6
