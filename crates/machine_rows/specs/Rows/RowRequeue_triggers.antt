use Rattle.std.specs.Prelude.{◌≡◌, ℕ, ℤ, pos, List, [], ◌∷◌, Some, None, true, false, codes, refl}
use Rattle.ann_base.specs.declared.exceptions.Raised.TheVariants as exception
use Rattle.trace_text.specs.declared.events.Event.{Event}
use Rattle.trace_text.specs.declared.events.Event.TheVariants as line
use Rattle.trace_text.specs.declared.events.Created.TheVariants as created
use Rattle.trace_text.specs.declared.events.Ended.TheVariants as end
use Rattle.trace_text.specs.declared.events.Finished.TheVariants as finished
use Rattle.trace_text.specs.declared.events.Leaves.TheVariants as leaves
use Rattle.trace_text.specs.declared.events.Mode.TheVariants.{Write}
use Rattle.trace_text.specs.declared.events.QueueEnd.TheVariants.{Head, Tail}
use Rattle.trace_text.specs.declared.events.Waits.TheVariants as waits
use Rattle.profile_image.specs.declared.script_items.Item.{Item}
use Rattle.profile_image.specs.declared.image.Image.{Image}
use Rattle.profile_image.specs.declared.image.Queuing.TheVariants as queuing
use Rattle.profile_image.specs.declared.values.Value.TheVariants.{Whole, Truth, Ticks}
use Rattle.profile_image.specs.declared.values.Constraint.TheVariants.{Free, Whole, Truth, Ticks}
use Rattle.profile_image.specs.declared.expressions.Expression.TheVariants.{Known, Variable, Binary, Count}
use Rattle.profile_image.specs.declared.expressions.ObjectName.TheVariants.{OwnComponent}
use Rattle.profile_image.specs.declared.expressions.BinaryOperator.TheVariants as binary
use Rattle.profile_image.specs.declared.declarations.DeclarationKind.TheVariants as kind
use Rattle.profile_image.specs.declared.declarations.Initial.TheVariants as initial
use Rattle.profile_image.specs.declared.declarations.EntryUnit.TheVariants as unit
use Rattle.profile_image.specs.declared.declarations.ExceptionChoice.TheVariants as exception_choice
use Rattle.profile_image.specs.declared.statements.StatementForm.TheVariants as form
use Rattle.profile_image.specs.declared.statements.Callee.TheVariants as callee
use Rattle.profile_image.specs.declared.statements.Destination.TheVariants as destination
use Rattle.profile_image.specs.declared.statements.EntryOwner.TheVariants as owner
use Rattle.profile_image.specs.declared.statements.SelectKind.TheVariants as select
use Rattle.profile_image.specs.declared.statements.Piece.TheVariants as piece
use Rattle.profile_machine.specs.Notation.{decl, expr, stmt, scope, subprogram, task_unit, protected_unit, entry, task, call, p, region, t, of_task, of_object, declaration, variable, statement, select_alternative, handler, cell_run, scope_text, subprogram_text, task_unit_text, protected_unit_text, entry_body, entry_text, policies, main_procedure}
use Rattle.profile_machine.specs.Run.{run_of}
use Rattle.profile_machine.specs.Computing.{computing}
use Rattle.std.specs.Fmt.{digits}
use Rattle.std.specs.Prelude.{Bool}
use Rattle.profile_machine.specs.WellFormed.{run_is_well_formed}
use Rattle.profile_machine.specs.Releases.{releases_ok}

-- Row requeue.triggers: its run stops before tick 172, so every greater bound gives the same trace.
abbrev pub row_requeue_triggers_program : Image
row_requeue_triggers_program =
    record {
      declarations =
          declaration (codes "p") (codes "main.p") (kind.Protected (protected_unit 0)) (scope 1) 0 17 Free None
          ∷ declaration (codes "is_open") (codes "main.p.is_open") (kind.Object (initial.Scalar (expr 15))) (scope 0) 0 1 (Truth false true) None
          ∷ declaration (codes "s") (codes "main.s") (kind.Task (task_unit 0)) (scope 1) 17 1 Free None
          ∷ declaration (codes "u") (codes "main.u") (kind.Task (task_unit 1)) (scope 1) 18 1 Free None
          ∷ declaration (codes "w") (codes "main.w") (kind.Task (task_unit 2)) (scope 1) 19 1 Free None
          ∷ [];
      expressions =
          Known (Truth false)
          ∷ Known (Truth true)
          ∷ Known (Ticks (pos 3))
          ∷ Count (entry 3)
          ∷ Known (Whole (pos 0))
          ∷ Binary binary.Greater (expr 3) (expr 4)
          ∷ Known (Ticks (pos 30))
          ∷ Known (Ticks (pos 200))
          ∷ Known (Ticks (pos 100))
          ∷ Known (Ticks (pos 2))
          ∷ Known (Ticks (pos 1))
          ∷ Known (Ticks (pos 60))
          ∷ Known (Ticks (pos 40))
          ∷ Known (Truth true)
          ∷ Variable (variable (OwnComponent (protected_unit 0) (decl 1)) None)
          ∷ Known (Truth false)
          ∷ [];
      statements =
          statement (form.CallMain) 0 None
          ∷ statement (form.Requeue (entry 1) owner.Own true) 0 None
          ∷ statement (form.Assign (variable (OwnComponent (protected_unit 0) (decl 1)) None) (expr 0)) 0 None
          ∷ statement (form.Assign (variable (OwnComponent (protected_unit 0) (decl 1)) None) (expr 1)) 0 None
          ∷ statement (form.Loop (stmt 12) None) 0 None
          ∷ statement (form.Delay (expr 2)) 0 (Some (stmt 4))
          ∷ statement (form.Accept (entry 2) (scope 6)) 0 (Some (stmt 5))
          ∷ statement (form.Requeue (entry 3) owner.Own true) 0 None
          ∷ statement (form.Accept (entry 3) (scope 7)) 0 (Some (stmt 5))
          ∷ statement (form.Null) 0 None
          ∷ statement (form.Exit None (stmt 4)) 0 (Some (stmt 5))
          ∷ statement (form.Delay (expr 6)) 0 (Some (stmt 10))
          ∷ statement (form.SelectiveAccept (select_alternative None (select.Accept (stmt 6)) ∷ select_alternative (Some (expr 5)) (select.Accept (stmt 8)) ∷ select_alternative None (select.Delay (stmt 11)) ∷ []) None) 1 (Some (stmt 5))
          ∷ statement (form.EndActivation) 0 (Some (stmt 4))
          ∷ statement (form.AsynchronousSelect (stmt 15) (stmt 16)) 0 None
          ∷ statement (form.EntryCall (entry 3) (owner.Object (decl 2)) []) 0 None
          ∷ statement (form.Null) 0 None
          ∷ statement (form.AsynchronousSelect (stmt 19) (stmt 21)) 0 (Some (stmt 14))
          ∷ statement (form.PutLine (piece.Text (codes "e") ∷ [])) 0 (Some (stmt 14))
          ∷ statement (form.EntryCall (entry 2) (owner.Object (decl 2)) []) 0 (Some (stmt 18))
          ∷ statement (form.Delay (expr 7)) 0 None
          ∷ statement (form.PutLine (piece.Text (codes "apart") ∷ [])) 0 (Some (stmt 20))
          ∷ statement (form.AsynchronousSelect (stmt 24) (stmt 27)) 0 (Some (stmt 17))
          ∷ statement (form.PutLine (piece.Text (codes "trig") ∷ [])) 0 (Some (stmt 17))
          ∷ statement (form.EntryCall (entry 0) (owner.Object (decl 0)) []) 0 (Some (stmt 23))
          ∷ statement (form.PutLine (piece.Text (codes "no") ∷ [])) 0 None
          ∷ statement (form.Delay (expr 8)) 0 (Some (stmt 25))
          ∷ statement (form.PutLine (piece.Text (codes "part") ∷ [])) 0 (Some (stmt 26))
          ∷ statement (form.EndActivation) 0 (Some (stmt 22))
          ∷ statement (form.PutLine (piece.Text (codes "never") ∷ [])) 0 None
          ∷ statement (form.EntryCall (entry 1) (owner.Object (decl 0)) []) 0 (Some (stmt 29))
          ∷ statement (form.Block (scope 10)) 0 (Some (stmt 30))
          ∷ statement (form.Handled (handler (exception_choice.Named exception.Constraint ∷ []) (stmt 39) ∷ []) (stmt 33)) 0 None
          ∷ statement (form.AsynchronousSelect (stmt 35) (stmt 36)) 0 None
          ∷ statement (form.PutLine (piece.Text (codes "t2") ∷ [])) 0 None
          ∷ statement (form.EntryCall (entry 0) (owner.Object (decl 0)) []) 0 (Some (stmt 34))
          ∷ statement (form.Block (scope 11)) 0 None
          ∷ statement (form.Raise exception.Constraint) 0 None
          ∷ statement (form.Null) 0 (Some (stmt 37))
          ∷ statement (form.PutLine (piece.Text (codes "ce") ∷ [])) 0 None
          ∷ statement (form.EntryCall (entry 2) (owner.Object (decl 2)) []) 0 (Some (stmt 31))
          ∷ statement (form.PutLine (piece.Text (codes "else") ∷ [])) 0 (Some (stmt 31))
          ∷ statement (form.ConditionalCall (stmt 40) (stmt 41)) 0 (Some (stmt 31))
          ∷ statement (form.EntryCall (entry 2) (owner.Object (decl 2)) []) 0 (Some (stmt 42))
          ∷ statement (form.PutLine (piece.Text (codes "late") ∷ [])) 0 (Some (stmt 42))
          ∷ statement (form.Delay (expr 9)) 0 (Some (stmt 44))
          ∷ statement (form.TimedCall (stmt 43) (stmt 45)) 0 (Some (stmt 42))
          ∷ statement (form.EndActivation) 0 (Some (stmt 46))
          ∷ statement (form.EntryCall (entry 0) (owner.Object (decl 0)) []) 0 None
          ∷ statement (form.Delay (expr 10)) 0 None
          ∷ statement (form.TimedCall (stmt 48) (stmt 49)) 0 None
          ∷ statement (form.Call (callee.Operation (decl 0) (subprogram 0)) [] destination.Nowhere) 0 (Some (stmt 50))
          ∷ statement (form.Abort ((decl 4) ∷ [])) 0 (Some (stmt 51))
          ∷ statement (form.Delay (expr 11)) 0 (Some (stmt 52))
          ∷ statement (form.Call (callee.Operation (decl 0) (subprogram 0)) [] destination.Nowhere) 0 (Some (stmt 53))
          ∷ statement (form.Delay (expr 12)) 0 (Some (stmt 54))
          ∷ statement (form.Activate 0) 0 (Some (stmt 55))
          ∷ statement (form.CreateTask (decl 4) 0) 0 (Some (stmt 56))
          ∷ statement (form.CreateTask (decl 3) 0) 0 (Some (stmt 57))
          ∷ statement (form.CreateTask (decl 2) 0) 0 (Some (stmt 58))
          ∷ statement (form.Declare (decl 0)) 0 (Some (stmt 59))
          ∷ [];
      scopes =
          scope_text None 0 [] false (Some (stmt 0))
          ∷ scope_text (Some (scope 0)) 20 (cell_run 16 1 (Truth false) ∷ []) true (Some (stmt 60))
          ∷ scope_text (Some (scope 1)) 0 [] false (Some (stmt 1))
          ∷ scope_text (Some (scope 1)) 0 [] false (Some (stmt 2))
          ∷ scope_text (Some (scope 1)) 0 [] false (Some (stmt 3))
          ∷ scope_text (Some (scope 1)) 0 [] false (Some (stmt 13))
          ∷ scope_text (Some (scope 5)) 0 [] false (Some (stmt 7))
          ∷ scope_text (Some (scope 5)) 0 [] false (Some (stmt 9))
          ∷ scope_text (Some (scope 1)) 0 [] false (Some (stmt 28))
          ∷ scope_text (Some (scope 1)) 0 [] false (Some (stmt 47))
          ∷ scope_text (Some (scope 9)) 0 [] false (Some (stmt 32))
          ∷ scope_text (Some (scope 10)) 0 [] false (Some (stmt 38))
          ∷ [];
      subprograms =
          subprogram_text (codes "open") (scope 4) [] None (Some (protected_unit 0))
          ∷ [];
      task_units =
          task_unit_text (scope 5) None None ((entry 2) ∷ (entry 3) ∷ [])
          ∷ task_unit_text (scope 8) None None []
          ∷ task_unit_text (scope 9) None None []
          ∷ [];
      protected_units =
          protected_unit_text 30 ((entry 0) ∷ (entry 1) ∷ []) ((decl 1) ∷ []) []
          ∷ [];
      entries =
          entry_text (codes "a") (unit.Protected (protected_unit 0)) 0 [] (Some (entry_body (expr 13) (scope 2)))
          ∷ entry_text (codes "b") (unit.Protected (protected_unit 0)) 1 [] (Some (entry_body (expr 14) (scope 3)))
          ∷ entry_text (codes "e") (unit.Task (task_unit 0)) 0 [] None
          ∷ entry_text (codes "f") (unit.Task (task_unit 0)) 1 [] None
          ∷ [];
      controlled_types = [];
      enumerations = [];
      policies = (policies [] queuing.Fifo None 30);
      environment = (scope 0);
      main = (main_procedure (codes "main") 15 (scope 1));
    }

abbrev pub row_requeue_triggers_script : List (ℤ × Item)
row_requeue_triggers_script = []

-- the lines of its run up to tick 172
unfoldable pub row_requeue_triggers_lines : List (ℕ × Event)
row_requeue_triggers_lines = run_of row_requeue_triggers_program row_requeue_triggers_script 172

unfoldable pub row_requeue_triggers_trace : List (ℕ × Event)
row_requeue_triggers_trace =
    (0, line.New (created.Task (task 0)) (codes "main") 15)
    ∷ (0, line.Ready (t 0) 15 Tail None)
    ∷ (0, line.Run (t 0))
    ∷ (3, line.New (created.Object (p 1)) (codes "main.p") 30)
    ∷ (5, line.New (created.Task (task 1)) (codes "main.s") 15)
    ∷ (7, line.New (created.Task (task 2)) (codes "main.u") 15)
    ∷ (9, line.New (created.Task (task 3)) (codes "main.w") 15)
    ∷ (11, line.Ready (t 1) 15 Tail None)
    ∷ (11, line.Ready (t 2) 15 Tail None)
    ∷ (11, line.Ready (t 3) 15 Tail None)
    ∷ (11, line.Block (t 0) waits.Activation)
    ∷ (11, line.Run (t 1))
    ∷ (19, line.Block (t 1) waits.Select)
    ∷ (19, line.Run (t 2))
    ∷ (22, line.Call (task 2) (call 1) (of_object 1 (codes "a")) 15)
    ∷ (22, line.Enter (t 2) (p 1) Write)
    ∷ (22, line.Start (t 2) (call 1))
    ∷ (22, line.Ready (t 2) 30 Head None)
    ∷ (26, line.Finish (t 2) (call 1) finished.Requeue)
    ∷ (26, line.Call (task 2) (call 1) (of_object 1 (codes "b")) 15)
    ∷ (26, line.Exit (t 2) (p 1))
    ∷ (26, line.Ready (t 2) 15 Head None)
    ∷ (30, line.Put (t 2) (codes "part"))
    ∷ (32, line.Block (t 2) waits.Delay)
    ∷ (32, line.Run (t 3))
    ∷ (33, line.Ready (t 0) 15 Tail None)
    ∷ (35, line.Call (task 3) (call 2) (of_task 1 (codes "e")) 15)
    ∷ (35, line.Start (t 1) (call 2))
    ∷ (35, line.Ready (t 1) 15 Tail None)
    ∷ (35, line.Block (t 3) waits.Entry)
    ∷ (35, line.Run (t 0))
    ∷ (37, line.Block (t 0) waits.Delay)
    ∷ (37, line.Run (t 1))
    ∷ (40, line.Finish (t 1) (call 2) finished.Requeue)
    ∷ (40, line.Call (task 3) (call 2) (of_task 1 (codes "f")) 15)
    ∷ (40, line.Cancel (task 3) (call 2))
    ∷ (40, line.Ready (t 3) 15 Tail None)
    ∷ (42, line.Block (t 1) waits.Delay)
    ∷ (42, line.Run (t 3))
    ∷ (45, line.Ready (t 1) 15 Tail None)
    ∷ (46, line.Put (t 3) (codes "late"))
    ∷ (48, line.Call (task 3) (call 3) (of_task 1 (codes "e")) 15)
    ∷ (48, line.Cancel (task 3) (call 3))
    ∷ (52, line.Put (t 3) (codes "else"))
    ∷ (55, line.Call (task 3) (call 4) (of_object 1 (codes "a")) 15)
    ∷ (55, line.Enter (t 3) (p 1) Write)
    ∷ (55, line.Start (t 3) (call 4))
    ∷ (55, line.Ready (t 3) 30 Head None)
    ∷ (59, line.Finish (t 3) (call 4) finished.Requeue)
    ∷ (59, line.Call (task 3) (call 4) (of_object 1 (codes "b")) 15)
    ∷ (59, line.Exit (t 3) (p 1))
    ∷ (59, line.Ready (t 3) 15 Head None)
    ∷ (62, line.Raise (t 3) (codes "constraint_error"))
    ∷ (64, line.Cancel (task 3) (call 4))
    ∷ (69, line.Put (t 3) (codes "ce"))
    ∷ (72, line.Call (task 3) (call 5) (of_object 1 (codes "b")) 15)
    ∷ (72, line.Enter (t 3) (p 1) Write)
    ∷ (72, line.Exit (t 3) (p 1))
    ∷ (72, line.Block (t 3) waits.Entry)
    ∷ (72, line.Run (t 1))
    ∷ (77, line.Ready (t 0) 15 Tail None)
    ∷ (79, line.Block (t 1) waits.Select)
    ∷ (79, line.Run (t 0))
    ∷ (81, line.Enter (t 0) (p 1) Write)
    ∷ (81, line.Ready (t 0) 30 Head None)
    ∷ (84, line.Start (t 0) (call 1))
    ∷ (87, line.Finish (t 0) (call 1) finished.Ok)
    ∷ (87, line.Trigger (task 2))
    ∷ (87, line.Ready (t 2) 15 Tail None)
    ∷ (87, line.Exit (t 0) (p 1))
    ∷ (87, line.Ready (t 0) 15 Head None)
    ∷ (89, line.Block (t 0) waits.Delay)
    ∷ (89, line.Run (t 2))
    ∷ (94, line.Put (t 2) (codes "trig"))
    ∷ (96, line.Call (task 2) (call 6) (of_task 1 (codes "e")) 15)
    ∷ (96, line.Start (t 1) (call 6))
    ∷ (96, line.Ready (t 1) 15 Tail None)
    ∷ (96, line.Block (t 2) waits.Entry)
    ∷ (96, line.Run (t 1))
    ∷ (99, line.Finish (t 1) (call 6) finished.Requeue)
    ∷ (99, line.Call (task 2) (call 6) (of_task 1 (codes "f")) 15)
    ∷ (99, line.Ready (t 2) 15 Tail None)
    ∷ (101, line.Block (t 1) waits.Delay)
    ∷ (101, line.Run (t 2))
    ∷ (104, line.Ready (t 1) 15 Tail None)
    ∷ (105, line.Put (t 2) (codes "apart"))
    ∷ (107, line.Block (t 2) waits.Delay)
    ∷ (107, line.Run (t 1))
    ∷ (114, line.Start (t 1) (call 6))
    ∷ (116, line.Finish (t 1) (call 6) finished.Ok)
    ∷ (116, line.Trigger (task 2))
    ∷ (116, line.Ready (t 2) 15 Tail None)
    ∷ (118, line.Block (t 1) waits.Delay)
    ∷ (118, line.Run (t 2))
    ∷ (121, line.Ready (t 1) 15 Tail None)
    ∷ (123, line.Put (t 2) (codes "e"))
    ∷ (125, line.Call (task 2) (call 7) (of_task 1 (codes "f")) 15)
    ∷ (127, line.Cancel (task 2) (call 7))
    ∷ (128, line.Done (task 2))
    ∷ (128, line.Run (t 1))
    ∷ (135, line.Block (t 1) waits.Select)
    ∷ (135, line.Idle)
    ∷ (149, line.Ready (t 0) 15 Tail None)
    ∷ (149, line.Run (t 0))
    ∷ (151, line.Abort (task 0) (task 3))
    ∷ (151, line.Cancel (task 3) (call 5))
    ∷ (151, line.Ready (t 3) 15 Tail None)
    ∷ (153, line.Enter (t 0) (p 1) Write)
    ∷ (153, line.Ready (t 0) 30 Head None)
    ∷ (156, line.Exit (t 0) (p 1))
    ∷ (156, line.Ready (t 0) 15 Head None)
    ∷ (158, line.Call (task 0) (call 8) (of_object 1 (codes "a")) 15)
    ∷ (158, line.Enter (t 0) (p 1) Write)
    ∷ (158, line.Start (t 0) (call 8))
    ∷ (158, line.Ready (t 0) 30 Head None)
    ∷ (162, line.Finish (t 0) (call 8) finished.Requeue)
    ∷ (162, line.Call (task 0) (call 8) (of_object 1 (codes "b")) 15)
    ∷ (162, line.Start (t 0) (call 8))
    ∷ (165, line.Finish (t 0) (call 8) finished.Ok)
    ∷ (165, line.Exit (t 0) (p 1))
    ∷ (165, line.Ready (t 0) 15 Head None)
    ∷ (165, line.Ready (t 1) 15 Tail None)
    ∷ (166, line.Leave (t 0) (region 1) leaves.End)
    ∷ (166, line.Block (t 0) waits.Dependents)
    ∷ (166, line.Run (t 3))
    ∷ (167, line.Done (task 3))
    ∷ (167, line.Run (t 1))
    ∷ (169, line.Done (task 1))
    ∷ (169, line.Ready (t 0) 15 Tail None)
    ∷ (169, line.Run (t 0))
    ∷ (170, line.Left (t 0) (region 1))
    ∷ (171, line.Done (task 0))
    ∷ (171, line.End end.Completed)
    ∷ []

pub row_requeue_triggers_runs : row_requeue_triggers_lines ≡ row_requeue_triggers_trace
unfolding row_requeue_triggers_lines row_requeue_triggers_trace digits computing
row_requeue_triggers_runs = refl

-- whether every world of its run is well formed
unfoldable pub row_requeue_triggers_worlds : Bool
row_requeue_triggers_worlds = run_is_well_formed row_requeue_triggers_program row_requeue_triggers_script 172

pub row_requeue_triggers_keeps : row_requeue_triggers_worlds ≡ true
unfolding row_requeue_triggers_worlds computing
row_requeue_triggers_keeps = refl

-- whether each handler is released at its tick
unfoldable pub row_requeue_triggers_handlers : Bool
row_requeue_triggers_handlers = releases_ok row_requeue_triggers_program row_requeue_triggers_script 172

pub row_requeue_triggers_releases : row_requeue_triggers_handlers ≡ true
unfolding row_requeue_triggers_handlers computing
row_requeue_triggers_releases = refl
