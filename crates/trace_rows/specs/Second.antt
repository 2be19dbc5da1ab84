-- More worked traces. Written by tools/trace_data.py.
use Rattle.std.specs.Prelude.{List, [], ◌∷◌, None, codes}
use Rattle.trace_text.specs.declared.events.Who.TheVariants as subject
use Rattle.trace_text.specs.declared.events.Created.TheVariants as created
use Rattle.trace_text.specs.declared.events.QueueEnd.TheVariants.{Head, Tail}
use Rattle.trace_text.specs.declared.events.Waits.TheVariants as waits
use Rattle.trace_text.specs.declared.events.Mode.TheVariants as mode
use Rattle.trace_text.specs.declared.events.Leaves.TheVariants as leaves
use Rattle.trace_text.specs.declared.events.EntryName.TheVariants.{OfTask, OfObject}
use Rattle.trace_text.specs.declared.events.Finished.TheVariants as finished
use Rattle.trace_text.specs.declared.events.Ended.TheVariants as ended
use Rattle.trace_text.specs.declared.events.Event.TheVariants as event
use Rattle.trace_text.specs.Queue.{TraceLine}
use Rattle.trace_rows.specs.Numbers.{task, object, call, region, who}

unfoldable pub trace_16 : List TraceLine
trace_16 =
    (0, event.New (created.Task (task 0)) (codes "main") 15) ∷
    (0, event.Ready (who 0) 15 Tail None) ∷
    (0, event.Run (who 0)) ∷
    (2, event.New (created.Object (object 1)) (codes "ev.h") 31) ∷
    (8, event.Release 1 (object 1) (codes "fire")) ∷
    (8, event.Ready subject.Agent 31 Tail None) ∷
    (8, event.Run subject.Agent) ∷
    (8, event.Serve 1) ∷
    (10, event.Enter subject.Agent (object 1) mode.Write) ∷
    (21, event.Exit subject.Agent (object 1)) ∷
    (21, event.Served 1) ∷
    (21, event.Block subject.Agent waits.Release) ∷
    (21, event.Run (who 0)) ∷
    (29, event.Put (who 0) (codes "cancelled")) ∷
    (31, event.Done (task 0)) ∷
    (31, event.End ended.Completed) ∷
    []

unfoldable pub trace_19 : List TraceLine
trace_19 =
    (0, event.New (created.Task (task 0)) (codes "main") 15) ∷
    (0, event.Ready (who 0) 15 Tail None) ∷
    (0, event.Run (who 0)) ∷
    (2000, event.Raise (who 0) (codes "storage_error")) ∷
    (3000, event.Done (task 0)) ∷
    (3000, event.End (ended.Exception (codes "storage_error"))) ∷
    []

unfoldable pub trace_20a : List TraceLine
trace_20a =
    (0, event.New (created.Task (task 0)) (codes "main") 15) ∷
    (0, event.Ready (who 0) 15 Tail None) ∷
    (0, event.Run (who 0)) ∷
    (5, event.Raise (who 0) (codes "constraint_error")) ∷
    (7, event.Done (task 0)) ∷
    (7, event.End (ended.Exception (codes "constraint_error"))) ∷
    []

unfoldable pub trace_20b : List TraceLine
trace_20b =
    (0, event.New (created.Task (task 0)) (codes "main") 15) ∷
    (0, event.Ready (who 0) 15 Tail None) ∷
    (0, event.Run (who 0)) ∷
    (7, event.Put (who 0) (codes "a 7")) ∷
    (9, event.Done (task 0)) ∷
    (9, event.End ended.Completed) ∷
    []

unfoldable pub trace_20c : List TraceLine
trace_20c =
    (0, event.New (created.Task (task 0)) (codes "main") 15) ∷
    (0, event.Ready (who 0) 15 Tail None) ∷
    (0, event.Run (who 0)) ∷
    (6, event.Put (who 0) (codes "-2147483648")) ∷
    (8, event.Done (task 0)) ∷
    (8, event.End ended.Completed) ∷
    []

unfoldable pub trace_adjust_1 : List TraceLine
trace_adjust_1 =
    (0, event.New (created.Task (task 0)) (codes "main") 15) ∷
    (0, event.Ready (who 0) 15 Tail None) ∷
    (0, event.Run (who 0)) ∷
    (5, event.Init (who 0) 1 (region 1) (codes "a")) ∷
    (8, event.Init (who 0) 2 (region 1) (codes "b")) ∷
    (10, event.Replace (who 0) 2) ∷
    (27, event.Put (who 0) (codes " 6")) ∷
    (28, event.Leave (who 0) (region 1) leaves.End) ∷
    (30, event.Final (who 0) 2) ∷
    (35, event.Final (who 0) 1) ∷
    (39, event.Left (who 0) (region 1)) ∷
    (40, event.Done (task 0)) ∷
    (40, event.End ended.Completed) ∷
    []

unfoldable pub trace_adjust_2 : List TraceLine
trace_adjust_2 =
    (0, event.New (created.Task (task 0)) (codes "main") 15) ∷
    (0, event.Ready (who 0) 15 Tail None) ∷
    (0, event.Run (who 0)) ∷
    (5, event.Init (who 0) 1 (region 1) (codes "a")) ∷
    (8, event.Init (who 0) 2 (region 1) (codes "b")) ∷
    (11, event.Replace (who 0) 2) ∷
    (14, event.Trigger (task 0)) ∷
    (25, event.Leave (who 0) (region 1) leaves.End) ∷
    (27, event.Final (who 0) 2) ∷
    (32, event.Final (who 0) 1) ∷
    (36, event.Left (who 0) (region 1)) ∷
    (37, event.Done (task 0)) ∷
    (37, event.End ended.Completed) ∷
    []

unfoldable pub trace_budgets_1 : List TraceLine
trace_budgets_1 =
    (0, event.New (created.Task (task 0)) (codes "main") 15) ∷
    (0, event.Ready (who 0) 15 Tail None) ∷
    (0, event.Run (who 0)) ∷
    (4, event.New (created.Task (task 1)) (codes "main.t") 10) ∷
    (6, event.Ready (who 1) 15 Tail None) ∷
    (6, event.Block (who 0) waits.Activation) ∷
    (6, event.Run (who 1)) ∷
    (7, event.Ready (who 0) 15 Tail None) ∷
    (7, event.Ready (who 1) 10 Head None) ∷
    (7, event.Run (who 0)) ∷
    (9, event.Call (task 0) (call 1) (OfTask (task 1) (codes "e")) 15) ∷
    (9, event.Raise (who 0) (codes "program_error")) ∷
    (10, event.Leave (who 0) (region 1) leaves.Exception) ∷
    (10, event.Block (who 0) waits.Dependents) ∷
    (10, event.Run (who 1)) ∷
    (13, event.Block (who 1) waits.Accept) ∷
    (13, event.End ended.Stuck) ∷
    []

unfoldable pub trace_controlled_1 : List TraceLine
trace_controlled_1 =
    (0, event.New (created.Task (task 0)) (codes "main") 15) ∷
    (0, event.Ready (who 0) 15 Tail None) ∷
    (0, event.Run (who 0)) ∷
    (5, event.Init (who 0) 1 (region 1) (codes "a")) ∷
    (8, event.Init (who 0) 2 (region 1) (codes "b")) ∷
    (10, event.Leave (who 0) (region 1) leaves.End) ∷
    (12, event.Final (who 0) 2) ∷
    (13, event.Raise (who 0) (codes "constraint_error")) ∷
    (17, event.Final (who 0) 1) ∷
    (18, event.Raise (who 0) (codes "constraint_error")) ∷
    (21, event.Left (who 0) (region 1)) ∷
    (21, event.Raise (who 0) (codes "program_error")) ∷
    (22, event.Done (task 0)) ∷
    (22, event.End (ended.Exception (codes "program_error"))) ∷
    []

unfoldable pub trace_policies_1 : List TraceLine
trace_policies_1 =
    (0, event.New (created.Task (task 0)) (codes "main") 15) ∷
    (0, event.Ready (who 0) 15 Tail None) ∷
    (0, event.Run (who 0)) ∷
    (4, event.New (created.Task (task 1)) (codes "main.t") 15) ∷
    (6, event.Ready (who 1) 15 Tail None) ∷
    (6, event.Block (who 0) waits.Activation) ∷
    (6, event.Run (who 1)) ∷
    (7, event.Ready (who 0) 15 Tail None) ∷
    (9, event.Ready (who 1) 15 Tail None) ∷
    (9, event.Run (who 0)) ∷
    (14, event.Ready (who 0) 15 Tail None) ∷
    (14, event.Run (who 1)) ∷
    (16, event.Ready (who 1) 15 Tail None) ∷
    (16, event.Run (who 0)) ∷
    (20, event.Quantum (task 0)) ∷
    (20, event.Ready (who 0) 15 Tail None) ∷
    (20, event.Run (who 1)) ∷
    (23, event.Done (task 1)) ∷
    (23, event.Run (who 0)) ∷
    (26, event.Leave (who 0) (region 1) leaves.End) ∷
    (27, event.Left (who 0) (region 1)) ∷
    (27, event.Quantum (task 0)) ∷
    (27, event.Ready (who 0) 15 Tail None) ∷
    (28, event.Done (task 0)) ∷
    (28, event.End ended.Completed) ∷
    []

unfoldable pub trace_representation : List TraceLine
trace_representation =
    (0, event.New (created.Task (task 0)) (codes "main") 15) ∷
    (0, event.Ready (who 0) 15 Tail None) ∷
    (0, event.Run (who 0)) ∷
    (4, event.Block (who 0) waits.Delay) ∷
    (4, event.Idle) ∷
    (900000004, event.Ready (who 0) 15 Tail None) ∷
    (900000004, event.Run (who 0)) ∷
    (900000006, event.Done (task 0)) ∷
    (900000006, event.End ended.Completed) ∷
    []

unfoldable pub trace_requeue_1 : List TraceLine
trace_requeue_1 =
    (0, event.New (created.Task (task 0)) (codes "main") 15) ∷
    (0, event.Ready (who 0) 15 Tail None) ∷
    (0, event.Run (who 0)) ∷
    (4, event.New (created.Task (task 1)) (codes "main.s") 15) ∷
    (6, event.Ready (who 1) 15 Tail None) ∷
    (6, event.Block (who 0) waits.Activation) ∷
    (6, event.Run (who 1)) ∷
    (7, event.Ready (who 0) 15 Tail None) ∷
    (9, event.Block (who 1) waits.Accept) ∷
    (9, event.Run (who 0)) ∷
    (11, event.Call (task 0) (call 1) (OfTask (task 1) (codes "a")) 15) ∷
    (11, event.Start (who 1) (call 1)) ∷
    (11, event.Ready (who 1) 15 Tail None) ∷
    (11, event.Block (who 0) waits.Entry) ∷
    (11, event.Run (who 1)) ∷
    (14, event.Finish (who 1) (call 1) finished.Requeue) ∷
    (14, event.Call (task 0) (call 1) (OfTask (task 1) (codes "b")) 15) ∷
    (16, event.Start (who 1) (call 1)) ∷
    (18, event.Finish (who 1) (call 1) finished.Ok) ∷
    (18, event.Ready (who 0) 15 Tail None) ∷
    (19, event.Done (task 1)) ∷
    (19, event.Run (who 0)) ∷
    (23, event.Put (who 0) (codes "ok")) ∷
    (24, event.Leave (who 0) (region 1) leaves.End) ∷
    (25, event.Left (who 0) (region 1)) ∷
    (26, event.Done (task 0)) ∷
    (26, event.End ended.Completed) ∷
    []

unfoldable pub trace_requeue_2 : List TraceLine
trace_requeue_2 =
    (0, event.New (created.Task (task 0)) (codes "main") 15) ∷
    (0, event.Ready (who 0) 15 Tail None) ∷
    (0, event.Run (who 0)) ∷
    (3, event.New (created.Object (object 1)) (codes "main.p") 30) ∷
    (5, event.Call (task 0) (call 1) (OfObject (object 1) (codes "a")) 15) ∷
    (5, event.Enter (who 0) (object 1) mode.Write) ∷
    (5, event.Start (who 0) (call 1)) ∷
    (5, event.Ready (who 0) 30 Head None) ∷
    (9, event.Finish (who 0) (call 1) finished.Requeue) ∷
    (9, event.Call (task 0) (call 1) (OfObject (object 1) (codes "b")) 15) ∷
    (9, event.Exit (who 0) (object 1)) ∷
    (9, event.Ready (who 0) 15 Head None) ∷
    (9, event.Block (who 0) waits.Entry) ∷
    (9, event.Idle) ∷
    (15, event.Cancel (task 0) (call 1)) ∷
    (15, event.Ready (who 0) 15 Tail None) ∷
    (15, event.Run (who 0)) ∷
    (19, event.Put (who 0) (codes "late")) ∷
    (21, event.Done (task 0)) ∷
    (21, event.End ended.Completed) ∷
    []

unfoldable pub trace_requeue_3 : List TraceLine
trace_requeue_3 =
    (0, event.New (created.Task (task 0)) (codes "main") 15) ∷
    (0, event.Ready (who 0) 15 Tail None) ∷
    (0, event.Run (who 0)) ∷
    (3, event.New (created.Object (object 1)) (codes "main.p") 30) ∷
    (5, event.Call (task 0) (call 1) (OfObject (object 1) (codes "a")) 15) ∷
    (5, event.Enter (who 0) (object 1) mode.Write) ∷
    (5, event.Start (who 0) (call 1)) ∷
    (5, event.Ready (who 0) 30 Head None) ∷
    (9, event.Finish (who 0) (call 1) finished.Requeue) ∷
    (9, event.Call (task 0) (call 1) (OfObject (object 1) (codes "b")) 15) ∷
    (9, event.Exit (who 0) (object 1)) ∷
    (9, event.Ready (who 0) 15 Head None) ∷
    (9, event.Block (who 0) waits.Entry) ∷
    (9, event.End ended.Stuck) ∷
    []

unfoldable pub trace_wide_1 : List TraceLine
trace_wide_1 =
    (0, event.New (created.Task (task 0)) (codes "main") 15) ∷
    (0, event.Ready (who 0) 15 Tail None) ∷
    (0, event.Run (who 0)) ∷
    (4, event.Block (who 0) waits.Delay) ∷
    (4, event.Idle) ∷
    (10, event.Interrupt 0) ∷
    (30, event.Interrupt 0) ∷
    (40, event.Mask 0) ∷
    (50, event.Masked 0) ∷
    (60, event.Unmask 0) ∷
    (60, event.Interrupt 0) ∷
    (70, event.End ended.Bound) ∷
    []

unfoldable pub trace_wide_2 : List TraceLine
trace_wide_2 =
    (0, event.New (created.Task (task 0)) (codes "main") 48) ∷
    (0, event.Ready (who 0) 48 Tail None) ∷
    (0, event.Run (who 0)) ∷
    (7, event.Put (who 0) (codes "hi")) ∷
    (9, event.Done (task 0)) ∷
    (9, event.End ended.Completed) ∷
    []
