-- Traces that break one law each, and one that is none. Written by tools/trace_data.py.
use Rattle.std.specs.Prelude.{List, [], ◌∷◌, None, codes}
use Rattle.trace_text.specs.declared.events.Created.TheVariants as created
use Rattle.trace_text.specs.declared.events.QueueEnd.TheVariants.{Head, Tail}
use Rattle.trace_text.specs.declared.events.Waits.TheVariants as waits
use Rattle.trace_text.specs.declared.events.Mode.TheVariants as mode
use Rattle.trace_text.specs.declared.events.Leaves.TheVariants as leaves
use Rattle.trace_text.specs.declared.events.Ended.TheVariants as ended
use Rattle.trace_text.specs.declared.events.Event.TheVariants as event
use Rattle.trace_text.specs.Queue.{TraceLine}
use Rattle.trace_rows.specs.Numbers.{task, object, region, who}

unfoldable pub wrong_runner : List TraceLine
wrong_runner =
    (0, event.New (created.Task (task 0)) (codes "main") 15) ∷
    (0, event.Ready (who 0) 15 Tail None) ∷
    (0, event.Run (who 0)) ∷
    (4, event.New (created.Task (task 1)) (codes "main.hi") 20) ∷
    (6, event.New (created.Task (task 2)) (codes "main.a") 15) ∷
    (8, event.New (created.Task (task 3)) (codes "main.b") 15) ∷
    (10, event.Ready (who 1) 20 Tail None) ∷
    (10, event.Ready (who 2) 15 Tail None) ∷
    (10, event.Ready (who 3) 15 Tail None) ∷
    (10, event.Block (who 0) waits.Activation) ∷
    (10, event.Run (who 1)) ∷
    (13, event.Block (who 1) waits.Delay) ∷
    (13, event.Run (who 3)) ∷
    (19, event.Put (who 2) (codes "a")) ∷
    (20, event.Done (task 2)) ∷
    (20, event.Run (who 3)) ∷
    (21, event.Ready (who 0) 15 Tail None) ∷
    (23, event.Ready (who 1) 20 Tail None) ∷
    (23, event.Run (who 1)) ∷
    (27, event.Put (who 1) (codes "hi")) ∷
    (28, event.Done (task 1)) ∷
    (28, event.Run (who 3)) ∷
    (30, event.Put (who 3) (codes "b")) ∷
    (31, event.Done (task 3)) ∷
    (31, event.Run (who 0)) ∷
    (33, event.Leave (who 0) (region 1) leaves.End) ∷
    (34, event.Left (who 0) (region 1)) ∷
    (35, event.Done (task 0)) ∷
    (35, event.End ended.Completed) ∷
    []

unfoldable pub ceiling_too_low : List TraceLine
ceiling_too_low =
    (0, event.New (created.Task (task 0)) (codes "main") 15) ∷
    (0, event.Ready (who 0) 15 Tail None) ∷
    (0, event.Run (who 0)) ∷
    (3, event.New (created.Object (object 1)) (codes "main.p") 9) ∷
    (5, event.Enter (who 0) (object 1) mode.Write) ∷
    (5, event.Ready (who 0) 20 Head None) ∷
    (8, event.Exit (who 0) (object 1)) ∷
    (8, event.Ready (who 0) 15 Head None) ∷
    (10, event.Done (task 0)) ∷
    (10, event.End ended.Completed) ∷
    []

unfoldable pub final_left_out : List TraceLine
final_left_out =
    (0, event.New (created.Task (task 0)) (codes "main") 15) ∷
    (0, event.Ready (who 0) 15 Tail None) ∷
    (0, event.Run (who 0)) ∷
    (4, event.New (created.Task (task 1)) (codes "main.t") 10) ∷
    (6, event.Ready (who 1) 15 Tail None) ∷
    (6, event.Block (who 0) waits.Activation) ∷
    (6, event.Run (who 1)) ∷
    (9, event.Init (who 1) 1 (region 2) (codes "a")) ∷
    (12, event.Init (who 1) 2 (region 2) (codes "b")) ∷
    (13, event.Ready (who 0) 15 Tail None) ∷
    (13, event.Ready (who 1) 10 Head None) ∷
    (13, event.Run (who 0)) ∷
    (15, event.Block (who 0) waits.Delay) ∷
    (15, event.Run (who 1)) ∷
    (17, event.Leave (who 1) (region 2) leaves.End) ∷
    (19, event.Final (who 1) 2) ∷
    (21, event.Ready (who 0) 15 Tail None) ∷
    (21, event.Run (who 0)) ∷
    (23, event.Abort (task 0) (task 1)) ∷
    (26, event.Leave (who 0) (region 1) leaves.End) ∷
    (26, event.Block (who 0) waits.Dependents) ∷
    (26, event.Run (who 1)) ∷
    (35, event.Left (who 1) (region 2)) ∷
    (35, event.Done (task 1)) ∷
    (35, event.Ready (who 0) 15 Tail None) ∷
    (35, event.Run (who 0)) ∷
    (36, event.Left (who 0) (region 1)) ∷
    (37, event.Done (task 0)) ∷
    (37, event.End ended.Completed) ∷
    []

unfoldable pub new_twice : List TraceLine
new_twice =
    (0, event.New (created.Task (task 0)) (codes "main") 15) ∷
    (0, event.New (created.Task (task 0)) (codes "main") 15) ∷
    []
