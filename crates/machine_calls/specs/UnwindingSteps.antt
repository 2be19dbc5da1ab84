-- The step by which a task is unwound, by how it is.
use Rattle.trace_text.specs.declared.events.Who.{Who}
use Rattle.profile_image.specs.declared.image.Image.{Image}
use Rattle.profile_machine.specs.declared.world.lines.Part.{Part}
use Rattle.profile_machine.specs.Steps.{Step, changes, nothing, ◌▷◌}
use Rattle.profile_machine.specs.Calls.{attempt, forget_call}
use Rattle.profile_machine.specs.Unwinding.{leave_by_abort, wake_and_leave}
use Rattle.machine_calls.specs.declared.unwinding.Unwinding.{Unwinding}
use Rattle.machine_calls.specs.declared.unwinding.Unwinding.TheVariants.{Stays, Leaves, Wakes, Cancels}

abbrev pub unwind_so : Image → Part → Who → Unwinding → Step
unwind_so p part name Stays = nothing
unwind_so p part name Leaves = leave_by_abort name
unwind_so p part name Wakes = wake_and_leave p part name
unwind_so p part name (Cancels c) = attempt p part c (changes (forget_call c) ▷ wake_and_leave p part name) nothing
