-- The trace of a plant of five tasks. Written by tools/trace_data.py.
use Rattle.std.specs.Prelude.{List, [], ◌∷◌, None, codes}
use Rattle.trace_text.specs.declared.events.Who.TheVariants as subject
use Rattle.trace_text.specs.declared.events.Created.TheVariants as created
use Rattle.trace_text.specs.declared.events.QueueEnd.TheVariants.{Head, Tail}
use Rattle.trace_text.specs.declared.events.Waits.TheVariants as waits
use Rattle.trace_text.specs.declared.events.Mode.TheVariants as mode
use Rattle.trace_text.specs.declared.events.Leaves.TheVariants as leaves
use Rattle.trace_text.specs.declared.events.EntryName.TheVariants.{OfObject}
use Rattle.trace_text.specs.declared.events.Finished.TheVariants as finished
use Rattle.trace_text.specs.declared.events.Ended.TheVariants as ended
use Rattle.trace_text.specs.declared.events.Event.TheVariants as event
use Rattle.trace_text.specs.Queue.{TraceLine}
use Rattle.trace_rows.specs.Numbers.{task, object, call, region, who}

unfoldable pub trace_23 : List TraceLine
trace_23 =
    (0, event.New (created.Task (task 0)) (codes "main") 15) ∷
    (0, event.Ready (who 0) 15 Tail None) ∷
    (0, event.Run (who 0)) ∷
    (1, event.New (created.Object (object 1)) (codes "plant.buffer") 25) ∷
    (2, event.New (created.Object (object 2)) (codes "plant.alarm") 31) ∷
    (5, event.New (created.Task (task 1)) (codes "plant.writer") 20) ∷
    (7, event.New (created.Task (task 2)) (codes "plant.reader") 22) ∷
    (9, event.New (created.Task (task 3)) (codes "plant.watch") 24) ∷
    (11, event.Ready (who 1) 20 Tail None) ∷
    (11, event.Ready (who 2) 22 Tail None) ∷
    (11, event.Ready (who 3) 24 Tail None) ∷
    (11, event.Block (who 0) waits.Activation) ∷
    (11, event.Run (who 3)) ∷
    (20, event.Block (who 3) waits.Delay) ∷
    (20, event.Run (who 2)) ∷
    (30, event.Block (who 2) waits.Delay) ∷
    (30, event.Run (who 1)) ∷
    (34, event.Ready (who 0) 15 Tail None) ∷
    (40, event.Block (who 1) waits.Delay) ∷
    (40, event.Run (who 0)) ∷
    (45, event.Leave (who 0) (region 1) leaves.End) ∷
    (45, event.Block (who 0) waits.Dependents) ∷
    (45, event.Idle) ∷
    (10032, event.Ready (who 1) 20 Tail None) ∷
    (10032, event.Run (who 1)) ∷
    (10036, event.Enter (who 1) (object 1) mode.Write) ∷
    (10036, event.Ready (who 1) 25 Head None) ∷
    (10040, event.Exit (who 1) (object 1)) ∷
    (10040, event.Ready (who 1) 20 Head None) ∷
    (10046, event.Block (who 1) waits.Delay) ∷
    (10046, event.Idle) ∷
    (20022, event.Ready (who 2) 22 Tail None) ∷
    (20022, event.Run (who 2)) ∷
    (20024, event.Call (task 2) (call 1) (OfObject (object 1) (codes "get")) 22) ∷
    (20024, event.Enter (who 2) (object 1) mode.Write) ∷
    (20024, event.Start (who 2) (call 1)) ∷
    (20024, event.Ready (who 2) 25 Head None) ∷
    (20028, event.Finish (who 2) (call 1) finished.Ok) ∷
    (20028, event.Exit (who 2) (object 1)) ∷
    (20028, event.Ready (who 2) 22 Head None) ∷
    (20032, event.Ready (who 1) 20 Tail None) ∷
    (20034, event.Block (who 2) waits.Delay) ∷
    (20034, event.Run (who 1)) ∷
    (20038, event.Enter (who 1) (object 1) mode.Write) ∷
    (20038, event.Ready (who 1) 25 Head None) ∷
    (20042, event.Exit (who 1) (object 1)) ∷
    (20042, event.Ready (who 1) 20 Head None) ∷
    (20048, event.Block (who 1) waits.Delay) ∷
    (20048, event.Idle) ∷
    (30032, event.Ready (who 1) 20 Tail None) ∷
    (30032, event.Run (who 1)) ∷
    (30036, event.Enter (who 1) (object 1) mode.Write) ∷
    (30036, event.Ready (who 1) 25 Head None) ∷
    (30040, event.Exit (who 1) (object 1)) ∷
    (30040, event.Ready (who 1) 20 Head None) ∷
    (30046, event.Block (who 1) waits.Delay) ∷
    (30046, event.Idle) ∷
    (40013, event.Ready (who 3) 24 Tail None) ∷
    (40013, event.Run (who 3)) ∷
    (40022, event.Block (who 3) waits.Delay) ∷
    (40022, event.Ready (who 2) 22 Tail None) ∷
    (40022, event.Run (who 2)) ∷
    (40024, event.Call (task 2) (call 2) (OfObject (object 1) (codes "get")) 22) ∷
    (40024, event.Enter (who 2) (object 1) mode.Write) ∷
    (40024, event.Start (who 2) (call 2)) ∷
    (40024, event.Ready (who 2) 25 Head None) ∷
    (40028, event.Finish (who 2) (call 2) finished.Ok) ∷
    (40028, event.Exit (who 2) (object 1)) ∷
    (40028, event.Ready (who 2) 22 Head None) ∷
    (40032, event.Ready (who 1) 20 Tail None) ∷
    (40034, event.Block (who 2) waits.Delay) ∷
    (40034, event.Run (who 1)) ∷
    (40038, event.Enter (who 1) (object 1) mode.Write) ∷
    (40038, event.Ready (who 1) 25 Head None) ∷
    (40042, event.Exit (who 1) (object 1)) ∷
    (40042, event.Ready (who 1) 20 Head None) ∷
    (40048, event.Block (who 1) waits.Delay) ∷
    (40048, event.Idle) ∷
    (50032, event.Ready (who 1) 20 Tail None) ∷
    (50032, event.Run (who 1)) ∷
    (50036, event.Enter (who 1) (object 1) mode.Write) ∷
    (50036, event.Ready (who 1) 25 Head None) ∷
    (50040, event.Exit (who 1) (object 1)) ∷
    (50040, event.Ready (who 1) 20 Head None) ∷
    (50046, event.Block (who 1) waits.Delay) ∷
    (50046, event.Idle) ∷
    (55000, event.Interrupt 3) ∷
    (55000, event.Release 1 (object 2) (codes "strike")) ∷
    (55000, event.Ready subject.Agent 31 Tail None) ∷
    (55000, event.Run subject.Agent) ∷
    (55000, event.Serve 1) ∷
    (55002, event.Enter subject.Agent (object 2) mode.Write) ∷
    (55006, event.Exit subject.Agent (object 2)) ∷
    (55006, event.Served 1) ∷
    (55006, event.Block subject.Agent waits.Release) ∷
    (55006, event.Idle) ∷
    (60022, event.Ready (who 2) 22 Tail None) ∷
    (60022, event.Run (who 2)) ∷
    (60024, event.Call (task 2) (call 3) (OfObject (object 1) (codes "get")) 22) ∷
    (60024, event.Enter (who 2) (object 1) mode.Write) ∷
    (60024, event.Start (who 2) (call 3)) ∷
    (60024, event.Ready (who 2) 25 Head None) ∷
    (60028, event.Finish (who 2) (call 3) finished.Ok) ∷
    (60028, event.Exit (who 2) (object 1)) ∷
    (60028, event.Ready (who 2) 22 Head None) ∷
    (60032, event.Ready (who 1) 20 Tail None) ∷
    (60034, event.Block (who 2) waits.Delay) ∷
    (60034, event.Run (who 1)) ∷
    (60038, event.Enter (who 1) (object 1) mode.Write) ∷
    (60038, event.Ready (who 1) 25 Head None) ∷
    (60042, event.Exit (who 1) (object 1)) ∷
    (60042, event.Ready (who 1) 20 Head None) ∷
    (60048, event.Block (who 1) waits.Delay) ∷
    (60048, event.Idle) ∷
    (70032, event.Ready (who 1) 20 Tail None) ∷
    (70032, event.Run (who 1)) ∷
    (70036, event.Enter (who 1) (object 1) mode.Write) ∷
    (70036, event.Ready (who 1) 25 Head None) ∷
    (70040, event.Exit (who 1) (object 1)) ∷
    (70040, event.Ready (who 1) 20 Head None) ∷
    (70046, event.Block (who 1) waits.Delay) ∷
    (70046, event.Idle) ∷
    (80013, event.Ready (who 3) 24 Tail None) ∷
    (80013, event.Run (who 3)) ∷
    (80022, event.Block (who 3) waits.Delay) ∷
    (80022, event.Ready (who 2) 22 Tail None) ∷
    (80022, event.Run (who 2)) ∷
    (80024, event.Call (task 2) (call 4) (OfObject (object 1) (codes "get")) 22) ∷
    (80024, event.Enter (who 2) (object 1) mode.Write) ∷
    (80024, event.Start (who 2) (call 4)) ∷
    (80024, event.Ready (who 2) 25 Head None) ∷
    (80028, event.Finish (who 2) (call 4) finished.Ok) ∷
    (80028, event.Exit (who 2) (object 1)) ∷
    (80028, event.Ready (who 2) 22 Head None) ∷
    (80032, event.Ready (who 1) 20 Tail None) ∷
    (80034, event.Block (who 2) waits.Delay) ∷
    (80034, event.Run (who 1)) ∷
    (80038, event.Enter (who 1) (object 1) mode.Write) ∷
    (80038, event.Ready (who 1) 25 Head None) ∷
    (80042, event.Exit (who 1) (object 1)) ∷
    (80042, event.Ready (who 1) 20 Head None) ∷
    (80048, event.Block (who 1) waits.Delay) ∷
    (80048, event.Idle) ∷
    (90032, event.Ready (who 1) 20 Tail None) ∷
    (90032, event.Run (who 1)) ∷
    (90036, event.Enter (who 1) (object 1) mode.Write) ∷
    (90036, event.Ready (who 1) 25 Head None) ∷
    (90040, event.Exit (who 1) (object 1)) ∷
    (90040, event.Ready (who 1) 20 Head None) ∷
    (90046, event.Block (who 1) waits.Delay) ∷
    (90046, event.Idle) ∷
    (100022, event.Ready (who 2) 22 Tail None) ∷
    (100022, event.Run (who 2)) ∷
    (100024, event.Call (task 2) (call 5) (OfObject (object 1) (codes "get")) 22) ∷
    (100024, event.Enter (who 2) (object 1) mode.Write) ∷
    (100024, event.Start (who 2) (call 5)) ∷
    (100024, event.Ready (who 2) 25 Head None) ∷
    (100028, event.Finish (who 2) (call 5) finished.Ok) ∷
    (100028, event.Exit (who 2) (object 1)) ∷
    (100028, event.Ready (who 2) 22 Head None) ∷
    (100032, event.Ready (who 1) 20 Tail None) ∷
    (100034, event.Block (who 2) waits.Delay) ∷
    (100034, event.Run (who 1)) ∷
    (100038, event.Enter (who 1) (object 1) mode.Write) ∷
    (100038, event.Ready (who 1) 25 Head None) ∷
    (100042, event.Exit (who 1) (object 1)) ∷
    (100042, event.Ready (who 1) 20 Head None) ∷
    (100048, event.Block (who 1) waits.Delay) ∷
    (100048, event.Idle) ∷
    (110032, event.Ready (who 1) 20 Tail None) ∷
    (110032, event.Run (who 1)) ∷
    (110036, event.Enter (who 1) (object 1) mode.Write) ∷
    (110036, event.Ready (who 1) 25 Head None) ∷
    (110040, event.Exit (who 1) (object 1)) ∷
    (110040, event.Ready (who 1) 20 Head None) ∷
    (110046, event.Block (who 1) waits.Delay) ∷
    (110046, event.Idle) ∷
    (120013, event.Ready (who 3) 24 Tail None) ∷
    (120013, event.Run (who 3)) ∷
    (120022, event.Block (who 3) waits.Delay) ∷
    (120022, event.Ready (who 2) 22 Tail None) ∷
    (120022, event.Run (who 2)) ∷
    (120024, event.Call (task 2) (call 6) (OfObject (object 1) (codes "get")) 22) ∷
    (120024, event.Enter (who 2) (object 1) mode.Write) ∷
    (120024, event.Start (who 2) (call 6)) ∷
    (120024, event.Ready (who 2) 25 Head None) ∷
    (120028, event.Finish (who 2) (call 6) finished.Ok) ∷
    (120028, event.Exit (who 2) (object 1)) ∷
    (120028, event.Ready (who 2) 22 Head None) ∷
    (120032, event.Ready (who 1) 20 Tail None) ∷
    (120034, event.Block (who 2) waits.Delay) ∷
    (120034, event.Run (who 1)) ∷
    (120038, event.Enter (who 1) (object 1) mode.Write) ∷
    (120038, event.Ready (who 1) 25 Head None) ∷
    (120042, event.Exit (who 1) (object 1)) ∷
    (120042, event.Ready (who 1) 20 Head None) ∷
    (120048, event.Block (who 1) waits.Delay) ∷
    (120048, event.Idle) ∷
    (130032, event.Ready (who 1) 20 Tail None) ∷
    (130032, event.Run (who 1)) ∷
    (130036, event.Enter (who 1) (object 1) mode.Write) ∷
    (130036, event.Ready (who 1) 25 Head None) ∷
    (130040, event.Exit (who 1) (object 1)) ∷
    (130040, event.Ready (who 1) 20 Head None) ∷
    (130046, event.Block (who 1) waits.Delay) ∷
    (130046, event.Idle) ∷
    (140022, event.Ready (who 2) 22 Tail None) ∷
    (140022, event.Run (who 2)) ∷
    (140024, event.Call (task 2) (call 7) (OfObject (object 1) (codes "get")) 22) ∷
    (140024, event.Enter (who 2) (object 1) mode.Write) ∷
    (140024, event.Start (who 2) (call 7)) ∷
    (140024, event.Ready (who 2) 25 Head None) ∷
    (140028, event.Finish (who 2) (call 7) finished.Ok) ∷
    (140028, event.Exit (who 2) (object 1)) ∷
    (140028, event.Ready (who 2) 22 Head None) ∷
    (140032, event.Ready (who 1) 20 Tail None) ∷
    (140034, event.Block (who 2) waits.Delay) ∷
    (140034, event.Run (who 1)) ∷
    (140038, event.Enter (who 1) (object 1) mode.Write) ∷
    (140038, event.Ready (who 1) 25 Head None) ∷
    (140042, event.Exit (who 1) (object 1)) ∷
    (140042, event.Ready (who 1) 20 Head None) ∷
    (140048, event.Block (who 1) waits.Delay) ∷
    (140048, event.Idle) ∷
    (150032, event.Ready (who 1) 20 Tail None) ∷
    (150032, event.Run (who 1)) ∷
    (150036, event.Enter (who 1) (object 1) mode.Write) ∷
    (150036, event.Ready (who 1) 25 Head None) ∷
    (150040, event.Exit (who 1) (object 1)) ∷
    (150040, event.Ready (who 1) 20 Head None) ∷
    (150046, event.Block (who 1) waits.Delay) ∷
    (150046, event.Idle) ∷
    (160013, event.Ready (who 3) 24 Tail None) ∷
    (160013, event.Run (who 3)) ∷
    (160022, event.Block (who 3) waits.Delay) ∷
    (160022, event.Ready (who 2) 22 Tail None) ∷
    (160022, event.Run (who 2)) ∷
    (160024, event.Call (task 2) (call 8) (OfObject (object 1) (codes "get")) 22) ∷
    (160024, event.Enter (who 2) (object 1) mode.Write) ∷
    (160024, event.Start (who 2) (call 8)) ∷
    (160024, event.Ready (who 2) 25 Head None) ∷
    (160028, event.Finish (who 2) (call 8) finished.Ok) ∷
    (160028, event.Exit (who 2) (object 1)) ∷
    (160028, event.Ready (who 2) 22 Head None) ∷
    (160032, event.Ready (who 1) 20 Tail None) ∷
    (160034, event.Block (who 2) waits.Delay) ∷
    (160034, event.Run (who 1)) ∷
    (160038, event.Enter (who 1) (object 1) mode.Write) ∷
    (160038, event.Ready (who 1) 25 Head None) ∷
    (160042, event.Exit (who 1) (object 1)) ∷
    (160042, event.Ready (who 1) 20 Head None) ∷
    (160048, event.Block (who 1) waits.Delay) ∷
    (160048, event.Idle) ∷
    (170032, event.Ready (who 1) 20 Tail None) ∷
    (170032, event.Run (who 1)) ∷
    (170036, event.Enter (who 1) (object 1) mode.Write) ∷
    (170036, event.Ready (who 1) 25 Head None) ∷
    (170040, event.Exit (who 1) (object 1)) ∷
    (170040, event.Ready (who 1) 20 Head None) ∷
    (170046, event.Block (who 1) waits.Delay) ∷
    (170046, event.Idle) ∷
    (180022, event.Ready (who 2) 22 Tail None) ∷
    (180022, event.Run (who 2)) ∷
    (180024, event.Call (task 2) (call 9) (OfObject (object 1) (codes "get")) 22) ∷
    (180024, event.Enter (who 2) (object 1) mode.Write) ∷
    (180024, event.Start (who 2) (call 9)) ∷
    (180024, event.Ready (who 2) 25 Head None) ∷
    (180028, event.Finish (who 2) (call 9) finished.Ok) ∷
    (180028, event.Exit (who 2) (object 1)) ∷
    (180028, event.Ready (who 2) 22 Head None) ∷
    (180032, event.Ready (who 1) 20 Tail None) ∷
    (180034, event.Block (who 2) waits.Delay) ∷
    (180034, event.Run (who 1)) ∷
    (180038, event.Enter (who 1) (object 1) mode.Write) ∷
    (180038, event.Ready (who 1) 25 Head None) ∷
    (180042, event.Exit (who 1) (object 1)) ∷
    (180042, event.Ready (who 1) 20 Head None) ∷
    (180048, event.Block (who 1) waits.Delay) ∷
    (180048, event.Idle) ∷
    (190032, event.Ready (who 1) 20 Tail None) ∷
    (190032, event.Run (who 1)) ∷
    (190036, event.Enter (who 1) (object 1) mode.Write) ∷
    (190036, event.Ready (who 1) 25 Head None) ∷
    (190040, event.Exit (who 1) (object 1)) ∷
    (190040, event.Ready (who 1) 20 Head None) ∷
    (190046, event.Block (who 1) waits.Delay) ∷
    (190046, event.Idle) ∷
    (200000, event.End ended.Bound) ∷
    []
