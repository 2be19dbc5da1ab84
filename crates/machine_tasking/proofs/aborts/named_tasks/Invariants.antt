use Rattle.std.proofs.Common.{◌≡◌, drop}
use Rattle.profile_machine.specs.Tasking.{named_tasks}
use Rattle.machine_tasking.proofs.NamedLemmas.{behind}
use Rattle.machine_tasking.proofs.aborts.named_tasks.Given as goal

-- the tasks so far, and those of the names that are to come, are those of all names
abbrev pub invariant-loop-d : goal.invariant-loop-d
invariant-loop-d l = behind l.tasks (named_tasks l.q (drop l.d-index l.names)) ≡ named_tasks l.q l.names
