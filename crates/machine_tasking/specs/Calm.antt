-- Tasks for which nothing has to be done when an effect is over.
use Rattle.std.specs.Prelude.{◌≡◌, true, not, ◌||◌, Bool, List}
use Rattle.std.specs.List.{list_any}
use Rattle.profile_machine.specs.declared.world.tasks.Task.{Task}
use Rattle.profile_machine.specs.Masters.{is_at_terminate}
use Rattle.profile_machine.specs.Unwinding.{any_struck}

-- whether a task has a struck construct or waits at an open terminate alternative
abbrev pub stirs : Task → Bool
stirs t = any_struck t.frames || is_at_terminate t

-- no task stirs
abbrev pub IsCalm : List Task → Type 0
IsCalm ts = not (list_any stirs ts) ≡ true
