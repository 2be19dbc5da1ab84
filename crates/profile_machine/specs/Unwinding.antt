-- Abort and completed triggers strike open constructs, which are left at the first instant outside an operation that
-- defers abort (9.8, D.6).
use Rattle.std.specs.Prelude.{Bool, true, false, cond, not, ◌&&◌, List, [], ◌∷◌, Option, Some, None}
use Rattle.std.specs.List.{list_any}
use Rattle.trace_text.specs.declared.events.Who.{Who}
use Rattle.profile_image.specs.declared.image.Image.{Image}
use Rattle.profile_machine.specs.declared.run_data.Leaving.{Leaving}
use Rattle.profile_machine.specs.declared.run_data.Leaving.TheVariants as how
use Rattle.profile_machine.specs.declared.world.World.{World}
use Rattle.profile_machine.specs.declared.world.marks.Frame.{Frame}
use Rattle.profile_machine.specs.declared.world.marks.Mark.{Mark}
use Rattle.profile_machine.specs.declared.world.tasks.State.{State}
use Rattle.profile_machine.specs.declared.world.tasks.Waiting.{Waiting}
use Rattle.profile_machine.specs.declared.world.tasks.Waiting.TheVariants as waits_for
use Rattle.profile_machine.specs.declared.world.marks.Mark.TheVariants.{Scope, Handled, InProtected, InAccept}
use Rattle.profile_machine.specs.declared.world.marks.Mark.TheVariants.{Abortable, InInitialize, InFinalize, InAssign}
use Rattle.profile_machine.specs.declared.world.tasks.State.TheVariants.{Made, Runnable, Blocked}
use Rattle.profile_machine.specs.declared.world.lines.Part.{Part}
use Rattle.profile_machine.specs.Steps.{Step, changes, looks, when, nothing, ◌▷◌}
use Rattle.profile_machine.specs.Tasks.{task_of, edit_task, with_ticks, with_frames}
use Rattle.profile_machine.specs.Dispatching.{ready}
use Rattle.profile_machine.specs.Frames.{frames_of, leaves, defers}
use Rattle.profile_machine.specs.Appointments.{drop_delay}
use Rattle.profile_machine.specs.Calls.{attempt, forget_call}

-- ---- striking

abbrev pub struck_frame : Frame → Frame
struck_frame f = record f { struck = true }

abbrev pub edit_last : (Frame → Frame) → List Frame → List Frame
edit_last f [] = []
edit_last f (x ∷ []) = f x ∷ []
edit_last f (x ∷ y ∷ rest) = x ∷ edit_last f (y ∷ rest)

-- abort strikes a task's outermost scope
abbrev pub strike_outermost : Who → World → World
strike_outermost name = edit_task name (λ t. with_frames (edit_last struck_frame t.frames) t)

-- ---- whether a struck construct may be left now

abbrev pub any_struck : List Frame → Bool
any_struck frames = list_any (λ f. f.struck) frames

-- it is being left from its own action on
abbrev pub is_being_left : Mark → Bool
is_being_left (Scope m) = m.being_left
is_being_left (Handled s) = false
is_being_left (InProtected m) = false
is_being_left (InAccept m) = false
is_being_left (Abortable m) = m.waits
is_being_left (InInitialize l) = false
is_being_left (InFinalize o) = false
is_being_left (InAssign m) = false

-- the outermost struck mark is not yet being left, and no mark above it defers
abbrev pub may_leave_struck : List Frame → Bool
may_leave_struck [] = false
may_leave_struck (f ∷ fs) =
    cond (any_struck fs) (not (defers f.mark) && may_leave_struck fs) (f.struck && not (is_being_left f.mark))

-- marks are being left with Abort already
abbrev pub is_abort : Option Leaving → Bool
is_abort (Some how.Abort) = true
is_abort _ = false

abbrev pub is_unwinding : List Frame → Bool
is_unwinding [] = false
is_unwinding (f ∷ fs) = is_abort f.left_as

abbrev pub may_unwind : List Frame → Bool
may_unwind frames = may_leave_struck frames && not (is_unwinding frames)

-- ---- unwinding

-- an action that has begun is dropped, and marks are left with Abort from the top
unfoldable pub leave_by_abort : Who → Step
leave_by_abort name = changes (edit_task name (with_ticks None)) ▷ leaves name how.Abort

-- a blocked task stops waiting and becomes ready
unfoldable pub stop_waiting : Image → Part → Who → Step
stop_waiting p part name = changes (drop_delay name) ▷ ready p part name

unfoldable pub wake_and_leave : Image → Part → Who → Step
wake_and_leave p part name = stop_waiting p part name ▷ leave_by_abort name

-- who waits for a call tries to cancel it, and waits on where that fails
unfoldable pub unwind_blocked : Image → Part → Who → Waiting → Step
unwind_blocked p part name (waits_for.Call c) =
    attempt p part c (changes (forget_call c) ▷ wake_and_leave p part name) nothing
unwind_blocked p part name (waits_for.EndOfCall c) = nothing
unwind_blocked p part name waits_for.Activation = wake_and_leave p part name
unwind_blocked p part name waits_for.Moment = wake_and_leave p part name
unwind_blocked p part name (waits_for.Accept s) = wake_and_leave p part name
unwind_blocked p part name (waits_for.Select accepts delay terminate) = wake_and_leave p part name
unwind_blocked p part name (waits_for.Dependents r) = wake_and_leave p part name
unwind_blocked p part name waits_for.Release = nothing

unfoldable pub unwind_in : Image → Part → Who → State → Step
unwind_in p part name Made = nothing
unwind_in p part name Runnable = leave_by_abort name
unwind_in p part name (Blocked waiting) = unwind_blocked p part name waiting

-- a task is unwound where its struck construct may be left
unfoldable pub unwind : Image → Part → Who → Step
unwind p part name = looks (λ w. when (may_unwind (frames_of w name)) (unwind_in p part name (task_of w name).state))
