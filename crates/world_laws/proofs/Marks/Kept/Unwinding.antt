-- Constructs that are struck and left: each step keeps a relation that its parts keep.
use Rattle.trace_text.specs.declared.events.Who.{Who}
use Rattle.profile_image.specs.declared.image.Image.{Image}
use Rattle.profile_machine.specs.declared.world.tasks.State.{State}
use Rattle.profile_machine.specs.declared.world.tasks.Waiting.{Waiting}
use Rattle.profile_machine.specs.declared.world.tasks.Waiting.TheVariants as waits_for
use Rattle.profile_machine.specs.declared.world.tasks.State.TheVariants.{Made, Runnable, Blocked}
use Rattle.profile_machine.specs.declared.world.lines.Part.{Part}
use Rattle.profile_machine.specs.Unwinding.{leave_by_abort, stop_waiting, wake_and_leave, unwind_blocked, unwind_in, unwind}
use Rattle.machine_laws.proofs.Moves.{StepRelation, MoveRelation}
use Rattle.world_laws.proofs.Marks.FineMoves.{FineMoves, chains}
use Rattle.world_laws.proofs.Marks.Kept.Tasks.{edit_task-alters}
use Rattle.world_laws.proofs.Marks.Kept.Dispatching.{ready-keeps}
use Rattle.world_laws.proofs.Marks.Kept.Frames.{leaves-keeps, plain_steps}
use Rattle.world_laws.proofs.Marks.Kept.Appointments.{drop_delay-alters}
use Rattle.machine_laws.proofs.FineMoves.{GoodWorld, Naming}
use Rattle.machine_laws.proofs.Kept.Combinators.{Keeps, changes-keeps, looks-keeps, nothing-keeps, then-keeps, when-keeps}
use Rattle.machine_laws.proofs.Plain.Calls.{forget_call-alters, attempt-keeps}

module _ {G : GoodWorld} {May Other : Naming} {R : StepRelation} {Q : MoveRelation} (moves : FineMoves G May Other R Q) where
  pub leave_by_abort-keeps : (name : Who) → Keeps G R (leave_by_abort name)
  unfolding leave_by_abort
  leave_by_abort-keeps name = search (changes-keeps, edit_task-alters, then-keeps, leaves-keeps, chains)

  pub stop_waiting-keeps : (p : Image) (part : Part) (name : Who) → Other name → Keeps G R (stop_waiting p part name)
  unfolding stop_waiting
  stop_waiting-keeps p part name other = search (changes-keeps, drop_delay-alters, then-keeps, ready-keeps, chains)

  pub wake_and_leave-keeps : (p : Image) (part : Part) (name : Who) → Other name → Keeps G R (wake_and_leave p part name)
  unfolding wake_and_leave
  wake_and_leave-keeps p part name other = search (stop_waiting-keeps, then-keeps, leave_by_abort-keeps, chains)

  pub unwind_blocked-keeps : (p : Image) (part : Part) (name : Who) (waiting : Waiting) → Other name → Keeps G R (unwind_blocked p part name waiting)
  unfolding unwind_blocked
  unwind_blocked-keeps p part name (waits_for.Call c) other =
      search (attempt-keeps, changes-keeps, forget_call-alters, then-keeps, wake_and_leave-keeps, nothing-keeps, chains, plain_steps)
  unwind_blocked-keeps p part name (waits_for.EndOfCall c) other = search (nothing-keeps, chains)
  unwind_blocked-keeps p part name waits_for.Activation other = search (wake_and_leave-keeps)
  unwind_blocked-keeps p part name waits_for.Moment other = search (wake_and_leave-keeps)
  unwind_blocked-keeps p part name (waits_for.Accept s) other = search (wake_and_leave-keeps)
  unwind_blocked-keeps p part name (waits_for.Select accepts delay terminate) other = search (wake_and_leave-keeps)
  unwind_blocked-keeps p part name (waits_for.Dependents r) other = search (wake_and_leave-keeps)
  unwind_blocked-keeps p part name waits_for.Release other = search (nothing-keeps, chains)

  pub unwind_in-keeps : (p : Image) (part : Part) (name : Who) (state : State) → Other name → Keeps G R (unwind_in p part name state)
  unfolding unwind_in
  unwind_in-keeps p part name Made other = search (nothing-keeps, chains)
  unwind_in-keeps p part name Runnable other = search (leave_by_abort-keeps)
  unwind_in-keeps p part name (Blocked waiting) other = search (unwind_blocked-keeps)

  pub unwind-keeps : (p : Image) (part : Part) (name : Who) → Other name → Keeps G R (unwind p part name)
  unfolding unwind
  unwind-keeps p part name other = search (looks-keeps, when-keeps, unwind_in-keeps, chains)
