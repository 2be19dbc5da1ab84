-- How a task is unwound, by what it waits for.
use Rattle.profile_machine.specs.declared.world.tasks.State.{State}
use Rattle.profile_machine.specs.declared.world.tasks.State.TheVariants.{Made, Runnable, Blocked}
use Rattle.profile_machine.specs.declared.world.tasks.Waiting.{Waiting}
use Rattle.profile_machine.specs.declared.world.tasks.Waiting.TheVariants as waits_for
use Rattle.machine_calls.specs.declared.unwinding.Unwinding.{Unwinding}
use Rattle.machine_calls.specs.declared.unwinding.Unwinding.TheVariants.{Stays, Leaves, Wakes, Cancels}

abbrev pub unwinding_of_waiting : Waiting → Unwinding
unwinding_of_waiting (waits_for.Call c) = Cancels c
unwinding_of_waiting (waits_for.EndOfCall c) = Stays
unwinding_of_waiting waits_for.Activation = Wakes
unwinding_of_waiting waits_for.Moment = Wakes
unwinding_of_waiting (waits_for.Accept s) = Wakes
unwinding_of_waiting (waits_for.Select accepts delay terminate) = Wakes
unwinding_of_waiting (waits_for.Dependents r) = Wakes
unwinding_of_waiting waits_for.Release = Stays

abbrev pub unwinding_of : State → Unwinding
unwinding_of Made = Stays
unwinding_of Runnable = Leaves
unwinding_of (Blocked waiting) = unwinding_of_waiting waiting
