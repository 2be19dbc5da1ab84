-- The masters of a task (9.3): the region in which it was created, the region in which that region's owner was, and so
-- on.
use Rattle.std.specs.Prelude.{◌≡◌, ℕ, suc, ◌+◌, length}
use Rattle.ann_base.specs.declared.identities.TaskNo.{TaskNo}
use Rattle.trace_text.specs.declared.events.Who.TheVariants as who
use Rattle.profile_machine.specs.Tasks.{task_of}
use Rattle.profile_machine.specs.Masters.{masters_from, masters_of}
use Rattle.machine_laws.specs.Reached.{AllReached}

-- the machine counts down from one more than there are tasks; counted from more, a task's masters are the same
abbrev pub MastersEnd : Type 0
MastersEnd =
    AllReached (λ w. (n : TaskNo) (more : ℕ)
    → masters_from (suc (length w.tasks) + more) w (task_of w (who.Task n)).master
    ≡ masters_of w (task_of w (who.Task n)))
