-- Worked traces. Written by tools/trace_data.py.
use Rattle.std.specs.Prelude.{List, [], ◌∷◌, None, codes}
use Rattle.trace_text.specs.declared.events.Created.TheVariants as created
use Rattle.trace_text.specs.declared.events.QueueEnd.TheVariants.{Head, Tail}
use Rattle.trace_text.specs.declared.events.Waits.TheVariants as waits
use Rattle.trace_text.specs.declared.events.Mode.TheVariants as mode
use Rattle.trace_text.specs.declared.events.Leaves.TheVariants as leaves
use Rattle.trace_text.specs.declared.events.EntryName.TheVariants.{OfTask}
use Rattle.trace_text.specs.declared.events.Finished.TheVariants as finished
use Rattle.trace_text.specs.declared.events.Ended.TheVariants as ended
use Rattle.trace_text.specs.declared.events.Event.TheVariants as event
use Rattle.trace_text.specs.Queue.{TraceLine}
use Rattle.trace_rows.specs.Numbers.{task, object, call, region, who}

unfoldable pub trace_01 : List TraceLine
trace_01 =
    (0, event.New (created.Task (task 0)) (codes "main") 15) ∷
    (0, event.Ready (who 0) 15 Tail None) ∷
    (0, event.Run (who 0)) ∷
    (7, event.Put (who 0) (codes "hi")) ∷
    (9, event.Done (task 0)) ∷
    (9, event.End ended.Completed) ∷
    []

unfoldable pub trace_03 : List TraceLine
trace_03 =
    (0, event.New (created.Task (task 0)) (codes "main") 15) ∷
    (0, event.Ready (who 0) 15 Tail None) ∷
    (0, event.Run (who 0)) ∷
    (4, event.New (created.Task (task 1)) (codes "main.hi") 20) ∷
    (6, event.New (created.Task (task 2)) (codes "main.a") 15) ∷
    (8, event.New (created.Task (task 3)) (codes "main.b") 15) ∷
    (10, event.Ready (who 1) 20 Tail None) ∷
    (10, event.Ready (who 2) 15 Tail None) ∷
    (10, event.Ready (who 3) 15 Tail None) ∷
    (10, event.Block (who 0) waits.Activation) ∷
    (10, event.Run (who 1)) ∷
    (13, event.Block (who 1) waits.Delay) ∷
    (13, event.Run (who 2)) ∷
    (19, event.Put (who 2) (codes "a")) ∷
    (20, event.Done (task 2)) ∷
    (20, event.Run (who 3)) ∷
    (21, event.Ready (who 0) 15 Tail None) ∷
    (23, event.Ready (who 1) 20 Tail None) ∷
    (23, event.Run (who 1)) ∷
    (27, event.Put (who 1) (codes "hi")) ∷
    (28, event.Done (task 1)) ∷
    (28, event.Run (who 3)) ∷
    (30, event.Put (who 3) (codes "b")) ∷
    (31, event.Done (task 3)) ∷
    (31, event.Run (who 0)) ∷
    (33, event.Leave (who 0) (region 1) leaves.End) ∷
    (34, event.Left (who 0) (region 1)) ∷
    (35, event.Done (task 0)) ∷
    (35, event.End ended.Completed) ∷
    []

unfoldable pub trace_04 : List TraceLine
trace_04 =
    (0, event.New (created.Task (task 0)) (codes "main") 15) ∷
    (0, event.Ready (who 0) 15 Tail None) ∷
    (0, event.Run (who 0)) ∷
    (4, event.New (created.Task (task 1)) (codes "main.t") 15) ∷
    (6, event.Ready (who 1) 15 Tail None) ∷
    (6, event.Block (who 0) waits.Activation) ∷
    (6, event.Run (who 1)) ∷
    (7, event.Ready (who 0) 15 Tail None) ∷
    (9, event.Ready (who 1) 15 Tail None) ∷
    (9, event.Run (who 0)) ∷
    (11, event.Leave (who 0) (region 1) leaves.End) ∷
    (11, event.Block (who 0) waits.Dependents) ∷
    (11, event.Run (who 1)) ∷
    (12, event.Done (task 1)) ∷
    (12, event.Ready (who 0) 15 Tail None) ∷
    (12, event.Run (who 0)) ∷
    (13, event.Left (who 0) (region 1)) ∷
    (14, event.Done (task 0)) ∷
    (14, event.End ended.Completed) ∷
    []

unfoldable pub trace_05a : List TraceLine
trace_05a =
    (0, event.New (created.Task (task 0)) (codes "main") 15) ∷
    (0, event.Ready (who 0) 15 Tail None) ∷
    (0, event.Run (who 0)) ∷
    (3, event.New (created.Object (object 1)) (codes "main.p") 9) ∷
    (5, event.Raise (who 0) (codes "program_error")) ∷
    (7, event.Done (task 0)) ∷
    (7, event.End (ended.Exception (codes "program_error"))) ∷
    []

unfoldable pub trace_05b : List TraceLine
trace_05b =
    (0, event.New (created.Task (task 0)) (codes "main") 15) ∷
    (0, event.Ready (who 0) 15 Tail None) ∷
    (0, event.Run (who 0)) ∷
    (3, event.New (created.Object (object 1)) (codes "main.p") 20) ∷
    (5, event.Enter (who 0) (object 1) mode.Write) ∷
    (5, event.Ready (who 0) 20 Head None) ∷
    (8, event.Exit (who 0) (object 1)) ∷
    (8, event.Ready (who 0) 15 Head None) ∷
    (10, event.Done (task 0)) ∷
    (10, event.End ended.Completed) ∷
    []

unfoldable pub trace_05c : List TraceLine
trace_05c =
    (0, event.New (created.Task (task 0)) (codes "main") 15) ∷
    (0, event.Ready (who 0) 15 Tail None) ∷
    (0, event.Run (who 0)) ∷
    (3, event.New (created.Object (object 1)) (codes "main.p") 15) ∷
    (5, event.Enter (who 0) (object 1) mode.Write) ∷
    (8, event.Exit (who 0) (object 1)) ∷
    (10, event.Done (task 0)) ∷
    (10, event.End ended.Completed) ∷
    []

unfoldable pub trace_06 : List TraceLine
trace_06 =
    (0, event.New (created.Task (task 0)) (codes "main") 15) ∷
    (0, event.Ready (who 0) 15 Tail None) ∷
    (0, event.Run (who 0)) ∷
    (3, event.New (created.Object (object 1)) (codes "main.p") 10) ∷
    (5, event.New (created.Task (task 1)) (codes "main.h") 10) ∷
    (7, event.New (created.Task (task 2)) (codes "main.a") 10) ∷
    (9, event.New (created.Task (task 3)) (codes "main.c") 20) ∷
    (11, event.Ready (who 1) 15 Tail None) ∷
    (11, event.Ready (who 2) 15 Tail None) ∷
    (11, event.Ready (who 3) 20 Tail None) ∷
    (11, event.Block (who 0) waits.Activation) ∷
    (11, event.Run (who 3)) ∷
    (14, event.Block (who 3) waits.Delay) ∷
    (14, event.Run (who 1)) ∷
    (15, event.Ready (who 1) 10 Head None) ∷
    (15, event.Run (who 2)) ∷
    (16, event.Ready (who 0) 15 Tail None) ∷
    (16, event.Ready (who 2) 10 Head None) ∷
    (16, event.Run (who 0)) ∷
    (18, event.Leave (who 0) (region 1) leaves.End) ∷
    (18, event.Block (who 0) waits.Dependents) ∷
    (18, event.Run (who 2)) ∷
    (20, event.Block (who 2) waits.Accept) ∷
    (20, event.Run (who 1)) ∷
    (22, event.Enter (who 1) (object 1) mode.Write) ∷
    (24, event.Ready (who 3) 20 Tail None) ∷
    (24, event.Run (who 3)) ∷
    (26, event.Call (task 3) (call 1) (OfTask (task 2) (codes "e")) 20) ∷
    (26, event.Start (who 2) (call 1)) ∷
    (26, event.Ready (who 2) 20 Tail None) ∷
    (26, event.Block (who 3) waits.Entry) ∷
    (26, event.Run (who 2)) ∷
    (27, event.Finish (who 2) (call 1) finished.Ok) ∷
    (27, event.Ready (who 3) 20 Tail None) ∷
    (27, event.Ready (who 2) 10 Head None) ∷
    (27, event.Run (who 3)) ∷
    (28, event.Done (task 3)) ∷
    (28, event.Run (who 2)) ∷
    (30, event.Held (who 2) (object 1) mode.Write) ∷
    (30, event.Ready (who 2) 10 Tail None) ∷
    (30, event.Run (who 1)) ∷
    (33, event.Exit (who 1) (object 1)) ∷
    (34, event.Done (task 1)) ∷
    (34, event.Run (who 2)) ∷
    (36, event.Enter (who 2) (object 1) mode.Write) ∷
    (41, event.Exit (who 2) (object 1)) ∷
    (42, event.Done (task 2)) ∷
    (42, event.Ready (who 0) 15 Tail None) ∷
    (42, event.Run (who 0)) ∷
    (43, event.Left (who 0) (region 1)) ∷
    (44, event.Done (task 0)) ∷
    (44, event.End ended.Completed) ∷
    []

unfoldable pub trace_08a : List TraceLine
trace_08a =
    (0, event.New (created.Task (task 0)) (codes "main") 15) ∷
    (0, event.Ready (who 0) 15 Tail None) ∷
    (0, event.Run (who 0)) ∷
    (4, event.New (created.Task (task 1)) (codes "main.t") 10) ∷
    (6, event.Ready (who 1) 15 Tail None) ∷
    (6, event.Block (who 0) waits.Activation) ∷
    (6, event.Run (who 1)) ∷
    (7, event.Ready (who 0) 15 Tail None) ∷
    (7, event.Ready (who 1) 10 Head None) ∷
    (7, event.Run (who 0)) ∷
    (9, event.Call (task 0) (call 1) (OfTask (task 1) (codes "e")) 15) ∷
    (9, event.Block (who 0) waits.Entry) ∷
    (9, event.Run (who 1)) ∷
    (12, event.Start (who 1) (call 1)) ∷
    (12, event.Ready (who 1) 15 Head None) ∷
    (13, event.Finish (who 1) (call 1) finished.Ok) ∷
    (13, event.Ready (who 0) 15 Tail None) ∷
    (13, event.Ready (who 1) 10 Head None) ∷
    (13, event.Run (who 0)) ∷
    (17, event.Put (who 0) (codes "yes")) ∷
    (18, event.Leave (who 0) (region 1) leaves.End) ∷
    (18, event.Block (who 0) waits.Dependents) ∷
    (18, event.Run (who 1)) ∷
    (19, event.Done (task 1)) ∷
    (19, event.Ready (who 0) 15 Tail None) ∷
    (19, event.Run (who 0)) ∷
    (20, event.Left (who 0) (region 1)) ∷
    (21, event.Done (task 0)) ∷
    (21, event.End ended.Completed) ∷
    []

unfoldable pub trace_08b : List TraceLine
trace_08b =
    (0, event.New (created.Task (task 0)) (codes "main") 15) ∷
    (0, event.Ready (who 0) 15 Tail None) ∷
    (0, event.Run (who 0)) ∷
    (4, event.New (created.Task (task 1)) (codes "main.t") 10) ∷
    (6, event.Ready (who 1) 15 Tail None) ∷
    (6, event.Block (who 0) waits.Activation) ∷
    (6, event.Run (who 1)) ∷
    (7, event.Ready (who 0) 15 Tail None) ∷
    (7, event.Ready (who 1) 10 Head None) ∷
    (7, event.Run (who 0)) ∷
    (9, event.Call (task 0) (call 1) (OfTask (task 1) (codes "e")) 15) ∷
    (9, event.Block (who 0) waits.Entry) ∷
    (9, event.Run (who 1)) ∷
    (11, event.Cancel (task 0) (call 1)) ∷
    (11, event.Ready (who 0) 15 Tail None) ∷
    (11, event.Run (who 0)) ∷
    (15, event.Put (who 0) (codes "no")) ∷
    (16, event.Leave (who 0) (region 1) leaves.End) ∷
    (16, event.Block (who 0) waits.Dependents) ∷
    (16, event.Run (who 1)) ∷
    (17, event.Block (who 1) waits.Accept) ∷
    (17, event.End ended.Stuck) ∷
    []

unfoldable pub trace_09a : List TraceLine
trace_09a =
    (0, event.New (created.Task (task 0)) (codes "main") 15) ∷
    (0, event.Ready (who 0) 15 Tail None) ∷
    (0, event.Run (who 0)) ∷
    (4, event.New (created.Task (task 1)) (codes "main.a") 15) ∷
    (6, event.New (created.Task (task 2)) (codes "main.b") 15) ∷
    (8, event.Ready (who 1) 15 Tail None) ∷
    (8, event.Ready (who 2) 15 Tail None) ∷
    (8, event.Block (who 0) waits.Activation) ∷
    (8, event.Run (who 1)) ∷
    (9, event.Raise (who 1) (codes "constraint_error")) ∷
    (10, event.Done (task 1)) ∷
    (10, event.Run (who 2)) ∷
    (11, event.Ready (who 0) 15 Tail None) ∷
    (11, event.Raise (who 0) (codes "tasking_error")) ∷
    (13, event.Done (task 2)) ∷
    (13, event.Run (who 0)) ∷
    (18, event.Put (who 0) (codes "te")) ∷
    (19, event.Leave (who 0) (region 1) leaves.End) ∷
    (20, event.Left (who 0) (region 1)) ∷
    (21, event.Done (task 0)) ∷
    (21, event.End ended.Completed) ∷
    []

unfoldable pub trace_09b : List TraceLine
trace_09b =
    (0, event.New (created.Task (task 0)) (codes "main") 15) ∷
    (0, event.Ready (who 0) 15 Tail None) ∷
    (0, event.Run (who 0)) ∷
    (4, event.New (created.Task (task 1)) (codes "main.a") 15) ∷
    (6, event.New (created.Task (task 2)) (codes "main.b") 15) ∷
    (8, event.Ready (who 1) 15 Tail None) ∷
    (8, event.Ready (who 2) 15 Tail None) ∷
    (8, event.Block (who 0) waits.Activation) ∷
    (8, event.Run (who 1)) ∷
    (11, event.Done (task 1)) ∷
    (11, event.Run (who 2)) ∷
    (12, event.Raise (who 2) (codes "constraint_error")) ∷
    (13, event.Done (task 2)) ∷
    (13, event.Ready (who 0) 15 Tail None) ∷
    (13, event.Raise (who 0) (codes "tasking_error")) ∷
    (13, event.Run (who 0)) ∷
    (18, event.Put (who 0) (codes "te")) ∷
    (19, event.Leave (who 0) (region 1) leaves.End) ∷
    (20, event.Left (who 0) (region 1)) ∷
    (21, event.Done (task 0)) ∷
    (21, event.End ended.Completed) ∷
    []

unfoldable pub trace_10 : List TraceLine
trace_10 =
    (0, event.New (created.Task (task 0)) (codes "main") 15) ∷
    (0, event.Ready (who 0) 15 Tail None) ∷
    (0, event.Run (who 0)) ∷
    (4, event.New (created.Task (task 1)) (codes "main.t") 15) ∷
    (6, event.Ready (who 1) 15 Tail None) ∷
    (6, event.Block (who 0) waits.Activation) ∷
    (6, event.Run (who 1)) ∷
    (7, event.Ready (who 0) 15 Tail None) ∷
    (11, event.Block (who 1) waits.Select) ∷
    (11, event.Run (who 0)) ∷
    (13, event.Leave (who 0) (region 1) leaves.End) ∷
    (13, event.Ready (who 1) 15 Tail None) ∷
    (13, event.Block (who 0) waits.Dependents) ∷
    (13, event.Run (who 1)) ∷
    (14, event.Done (task 1)) ∷
    (14, event.Ready (who 0) 15 Tail None) ∷
    (14, event.Run (who 0)) ∷
    (15, event.Left (who 0) (region 1)) ∷
    (16, event.Done (task 0)) ∷
    (16, event.End ended.Completed) ∷
    []

unfoldable pub trace_11 : List TraceLine
trace_11 =
    (0, event.New (created.Task (task 0)) (codes "main") 15) ∷
    (0, event.Ready (who 0) 15 Tail None) ∷
    (0, event.Run (who 0)) ∷
    (13, event.Init (who 0) 1 (region 1) (codes "a")) ∷
    (18, event.Trigger (task 0)) ∷
    (21, event.Init (who 0) 2 (region 1) (codes "b")) ∷
    (22, event.Leave (who 0) (region 1) leaves.Abort) ∷
    (24, event.Final (who 0) 2) ∷
    (26, event.Final (who 0) 1) ∷
    (27, event.Left (who 0) (region 1)) ∷
    (32, event.Put (who 0) (codes "late")) ∷
    (34, event.Done (task 0)) ∷
    (34, event.End ended.Completed) ∷
    []

unfoldable pub trace_12 : List TraceLine
trace_12 =
    (0, event.New (created.Task (task 0)) (codes "main") 15) ∷
    (0, event.Ready (who 0) 15 Tail None) ∷
    (0, event.Run (who 0)) ∷
    (4, event.New (created.Task (task 1)) (codes "main.t") 10) ∷
    (6, event.Ready (who 1) 15 Tail None) ∷
    (6, event.Block (who 0) waits.Activation) ∷
    (6, event.Run (who 1)) ∷
    (9, event.Init (who 1) 1 (region 2) (codes "a")) ∷
    (12, event.Init (who 1) 2 (region 2) (codes "b")) ∷
    (13, event.Ready (who 0) 15 Tail None) ∷
    (13, event.Ready (who 1) 10 Head None) ∷
    (13, event.Run (who 0)) ∷
    (15, event.Block (who 0) waits.Delay) ∷
    (15, event.Run (who 1)) ∷
    (17, event.Leave (who 1) (region 2) leaves.End) ∷
    (19, event.Final (who 1) 2) ∷
    (21, event.Ready (who 0) 15 Tail None) ∷
    (21, event.Run (who 0)) ∷
    (23, event.Abort (task 0) (task 1)) ∷
    (26, event.Leave (who 0) (region 1) leaves.End) ∷
    (26, event.Block (who 0) waits.Dependents) ∷
    (26, event.Run (who 1)) ∷
    (30, event.Final (who 1) 1) ∷
    (35, event.Left (who 1) (region 2)) ∷
    (35, event.Done (task 1)) ∷
    (35, event.Ready (who 0) 15 Tail None) ∷
    (35, event.Run (who 0)) ∷
    (36, event.Left (who 0) (region 1)) ∷
    (37, event.Done (task 0)) ∷
    (37, event.End ended.Completed) ∷
    []

unfoldable pub trace_13 : List TraceLine
trace_13 =
    (0, event.New (created.Task (task 0)) (codes "main") 15) ∷
    (0, event.Ready (who 0) 15 Tail None) ∷
    (0, event.Run (who 0)) ∷
    (3, event.New (created.Object (object 1)) (codes "main.p") 12) ∷
    (5, event.New (created.Task (task 1)) (codes "main.t") 10) ∷
    (7, event.Ready (who 1) 15 Tail None) ∷
    (7, event.Block (who 0) waits.Activation) ∷
    (7, event.Run (who 1)) ∷
    (8, event.Ready (who 0) 15 Tail None) ∷
    (8, event.Ready (who 1) 10 Head None) ∷
    (8, event.Run (who 0)) ∷
    (10, event.Block (who 0) waits.Delay) ∷
    (10, event.Run (who 1)) ∷
    (12, event.Enter (who 1) (object 1) mode.Write) ∷
    (12, event.Ready (who 1) 12 Head None) ∷
    (14, event.Ready (who 0) 15 Tail None) ∷
    (14, event.Run (who 0)) ∷
    (16, event.Abort (task 0) (task 1)) ∷
    (17, event.Leave (who 0) (region 1) leaves.End) ∷
    (17, event.Block (who 0) waits.Dependents) ∷
    (17, event.Run (who 1)) ∷
    (20, event.Exit (who 1) (object 1)) ∷
    (20, event.Ready (who 1) 10 Head None) ∷
    (21, event.Done (task 1)) ∷
    (21, event.Ready (who 0) 15 Tail None) ∷
    (21, event.Run (who 0)) ∷
    (22, event.Left (who 0) (region 1)) ∷
    (23, event.Done (task 0)) ∷
    (23, event.End ended.Completed) ∷
    []

unfoldable pub trace_14a : List TraceLine
trace_14a =
    (0, event.New (created.Task (task 0)) (codes "main") 15) ∷
    (0, event.Ready (who 0) 15 Tail None) ∷
    (0, event.Run (who 0)) ∷
    (4, event.New (created.Task (task 1)) (codes "main.t") 15) ∷
    (6, event.Ready (who 1) 15 Tail None) ∷
    (6, event.Block (who 0) waits.Activation) ∷
    (6, event.Run (who 1)) ∷
    (7, event.Ready (who 0) 15 Tail None) ∷
    (9, event.Block (who 1) waits.Accept) ∷
    (9, event.Run (who 0)) ∷
    (11, event.Leave (who 0) (region 1) leaves.End) ∷
    (11, event.Block (who 0) waits.Dependents) ∷
    (11, event.End ended.Stuck) ∷
    []

unfoldable pub trace_14b : List TraceLine
trace_14b =
    (0, event.New (created.Task (task 0)) (codes "main") 15) ∷
    (0, event.Ready (who 0) 15 Tail None) ∷
    (0, event.Run (who 0)) ∷
    (4, event.New (created.Task (task 1)) (codes "main.t") 15) ∷
    (6, event.Ready (who 1) 15 Tail None) ∷
    (6, event.Block (who 0) waits.Activation) ∷
    (6, event.Run (who 1)) ∷
    (7, event.Ready (who 0) 15 Tail None) ∷
    (9, event.Block (who 1) waits.Accept) ∷
    (9, event.Run (who 0)) ∷
    (11, event.Leave (who 0) (region 1) leaves.End) ∷
    (11, event.Block (who 0) waits.Dependents) ∷
    (11, event.Idle) ∷
    (500, event.Interrupt 0) ∷
    (500, event.End ended.Stuck) ∷
    []

unfoldable pub trace_15a : List TraceLine
trace_15a =
    (0, event.New (created.Task (task 0)) (codes "main") 15) ∷
    (0, event.Ready (who 0) 15 Tail None) ∷
    (0, event.Run (who 0)) ∷
    (1, event.End ended.Bound) ∷
    []

unfoldable pub trace_15b : List TraceLine
trace_15b =
    (0, event.New (created.Task (task 0)) (codes "main") 15) ∷
    (0, event.Ready (who 0) 15 Tail None) ∷
    (0, event.Run (who 0)) ∷
    (7, event.Put (who 0) (codes "hi")) ∷
    (8, event.End ended.Bound) ∷
    []

unfoldable pub trace_15c : List TraceLine
trace_15c =
    (0, event.New (created.Task (task 0)) (codes "main") 15) ∷
    (0, event.Ready (who 0) 15 Tail None) ∷
    (0, event.Run (who 0)) ∷
    (7, event.Put (who 0) (codes "hi")) ∷
    (9, event.Done (task 0)) ∷
    (9, event.End ended.Completed) ∷
    []

unfoldable pub trace_15d : List TraceLine
trace_15d =
    (0, event.New (created.Task (task 0)) (codes "main") 15) ∷
    (0, event.Ready (who 0) 15 Tail None) ∷
    (0, event.Run (who 0)) ∷
    (4, event.Block (who 0) waits.Delay) ∷
    (4, event.Idle) ∷
    (50, event.Interrupt 3) ∷
    (50, event.End ended.Bound) ∷
    []
