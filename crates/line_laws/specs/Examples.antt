-- A few lines that keep the laws of ticks, and some that break one each.
use Rattle.std.specs.Prelude.{ℕ, List, [], ◌∷◌, None, codes}
use Rattle.ann_base.specs.declared.identities.ObjectNo.{ObjectNo}
use Rattle.trace_text.specs.declared.events.Who.{Who}
use Rattle.trace_text.specs.declared.events.Who.TheVariants as subject
use Rattle.trace_text.specs.declared.events.QueueEnd.TheVariants.{Tail}
use Rattle.trace_text.specs.declared.events.Waits.TheVariants as waits
use Rattle.trace_text.specs.declared.events.Ended.TheVariants as ended
use Rattle.trace_text.specs.declared.events.Event.TheVariants as line
use Rattle.trace_text.specs.Queue.{TraceLine}

abbrev task : ℕ → Who
task number = subject.Task (record { 0 = number })

abbrev object : ℕ → ObjectNo
object number = record { 0 = number }

-- task 1 is interrupted by a handler at tick 5, and delays at tick 8
unfoldable pub kept_lines : List TraceLine
kept_lines =
    (3, line.Ready (task 1) 10 Tail None) ∷
    (3, line.Run (task 1)) ∷
    (5, line.Release 1 (object 1) (codes "tick")) ∷
    (5, line.Ready subject.Agent 30 Tail None) ∷
    (5, line.Run subject.Agent) ∷
    (5, line.Serve 1) ∷
    (6, line.Served 1) ∷
    (6, line.Block subject.Agent waits.Release) ∷
    (6, line.Run (task 1)) ∷
    (8, line.Block (task 1) waits.Delay) ∷
    (8, line.Idle) ∷
    []

-- task 1 is told to run while it runs
unfoldable pub told_twice : List TraceLine
told_twice =
    (3, line.Ready (task 1) 10 Tail None) ∷
    (3, line.Run (task 1)) ∷
    (5, line.Run (task 1)) ∷
    []

-- the first release is passed over
unfoldable pub passed_over : List TraceLine
passed_over =
    (5, line.Release 1 (object 1) (codes "tick")) ∷
    (5, line.Release 2 (object 1) (codes "tick")) ∷
    (5, line.Ready subject.Agent 30 Tail None) ∷
    (5, line.Run subject.Agent) ∷
    (5, line.Serve 2) ∷
    []

-- a release is taken up before it came
unfoldable pub served_early : List TraceLine
served_early =
    (5, line.Ready subject.Agent 30 Tail None) ∷
    (5, line.Run subject.Agent) ∷
    (5, line.Serve 1) ∷
    (6, line.Release 1 (object 1) (codes "tick")) ∷
    []

-- an effect comes behind the choice of its tick
unfoldable pub chosen_early : List TraceLine
chosen_early =
    (3, line.Ready (task 1) 10 Tail None) ∷
    (3, line.Run (task 1)) ∷
    (3, line.Ready (task 2) 12 Tail None) ∷
    []

-- task 1 is ready, and the run is said to be stuck
unfoldable pub not_stuck : List TraceLine
not_stuck =
    (3, line.Ready (task 1) 10 Tail None) ∷
    (3, line.End ended.Stuck) ∷
    []
