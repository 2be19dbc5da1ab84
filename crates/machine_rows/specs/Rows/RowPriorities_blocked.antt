use Rattle.std.specs.Prelude.{◌≡◌, ℕ, ℤ, pos, negsuc, List, [], ◌∷◌, Some, None, true, false, codes, refl}
use Rattle.trace_text.specs.declared.events.Event.{Event}
use Rattle.trace_text.specs.declared.events.Event.TheVariants as line
use Rattle.trace_text.specs.declared.events.Created.TheVariants as created
use Rattle.trace_text.specs.declared.events.Ended.TheVariants as end
use Rattle.trace_text.specs.declared.events.Finished.TheVariants as finished
use Rattle.trace_text.specs.declared.events.Leaves.TheVariants as leaves
use Rattle.trace_text.specs.declared.events.QueueEnd.TheVariants.{Head, Tail}
use Rattle.trace_text.specs.declared.events.Waits.TheVariants as waits
use Rattle.profile_image.specs.declared.script_items.Item.{Item}
use Rattle.profile_image.specs.declared.image.Image.{Image}
use Rattle.profile_image.specs.declared.image.Queuing.TheVariants as queuing
use Rattle.profile_image.specs.declared.values.Value.TheVariants.{Whole, Ticks, Thing}
use Rattle.profile_image.specs.declared.values.Constraint.TheVariants.{Free, Whole, Ticks}
use Rattle.profile_image.specs.declared.expressions.Expression.TheVariants.{Known, Thing}
use Rattle.profile_image.specs.declared.declarations.DeclarationKind.TheVariants as kind
use Rattle.profile_image.specs.declared.declarations.Initial.TheVariants as initial
use Rattle.profile_image.specs.declared.declarations.EntryUnit.TheVariants as unit
use Rattle.profile_image.specs.declared.statements.StatementForm.TheVariants as form
use Rattle.profile_image.specs.declared.statements.Callee.TheVariants as callee
use Rattle.profile_image.specs.declared.statements.Destination.TheVariants as destination
use Rattle.profile_image.specs.declared.statements.EntryOwner.TheVariants as owner
use Rattle.profile_image.specs.declared.statements.SelectKind.TheVariants as select
use Rattle.profile_machine.specs.Notation.{decl, expr, stmt, scope, subprogram, task_unit, entry, task, call, region, t, of_task, declaration, statement, select_alternative, scope_text, subprogram_text, task_unit_text, entry_text, policies, main_procedure}
use Rattle.profile_machine.specs.Run.{run_of}
use Rattle.profile_machine.specs.Computing.{computing}
use Rattle.std.specs.Fmt.{digits}
use Rattle.std.specs.Prelude.{Bool}
use Rattle.profile_machine.specs.WellFormed.{run_is_well_formed}
use Rattle.profile_machine.specs.Releases.{releases_ok}

-- Row priorities.blocked: its run stops before tick 61, so every greater bound gives the same trace.
abbrev pub row_priorities_blocked_program : Image
row_priorities_blocked_program =
    record {
      declarations =
          declaration (codes "a") (codes "main.a") (kind.Task (task_unit 0)) (scope 1) 0 1 Free None
          ∷ declaration (codes "b") (codes "main.b") (kind.Task (task_unit 1)) (scope 1) 1 1 Free None
          ∷ declaration (codes "c") (codes "main.c") (kind.Task (task_unit 2)) (scope 1) 2 1 Free None
          ∷ declaration (codes "d") (codes "main.d") (kind.Task (task_unit 3)) (scope 1) 3 1 Free None
          ∷ declaration (codes "i") (codes "main.a.i") (kind.Task (task_unit 4)) (scope 2) 0 1 Free None
          ∷ declaration (codes "x") (codes "main.a.i.x") (kind.Object initial.Default) (scope 3) 0 1 (Whole (negsuc 2147483647) (pos 2147483647)) None
          ∷ [];
      expressions =
          Known (Whole (pos 1))
          ∷ Known (Ticks (pos 12))
          ∷ Known (Whole (pos 9))
          ∷ Thing (decl 3)
          ∷ Known (Whole (pos 9))
          ∷ Thing (decl 2)
          ∷ Known (Whole (pos 9))
          ∷ Thing (decl 1)
          ∷ Known (Whole (pos 9))
          ∷ Thing (decl 0)
          ∷ [];
      statements =
          statement (form.CallMain) 0 None
          ∷ statement (form.Null) 0 None
          ∷ statement (form.EndActivation) 0 (Some (stmt 1))
          ∷ statement (form.Call (callee.Subprogram (subprogram 0)) [] (destination.Declaration (decl 5))) 0 (Some (stmt 2))
          ∷ statement (form.Null) 0 None
          ∷ statement (form.Activate 0) 0 (Some (stmt 4))
          ∷ statement (form.EndActivation) 0 (Some (stmt 5))
          ∷ statement (form.CreateTask (decl 4) 0) 0 (Some (stmt 6))
          ∷ statement (form.Accept (entry 1) (scope 6)) 0 None
          ∷ statement (form.Accept (entry 0) (scope 5)) 0 (Some (stmt 8))
          ∷ statement (form.EndActivation) 0 (Some (stmt 9))
          ∷ statement (form.Accept (entry 2) (scope 8)) 0 None
          ∷ statement (form.SelectiveAccept (select_alternative None (select.Accept (stmt 11)) ∷ select_alternative None select.Terminate ∷ []) None) 0 None
          ∷ statement (form.EndActivation) 0 (Some (stmt 12))
          ∷ statement (form.EntryCall (entry 1) (owner.Object (decl 1)) []) 0 None
          ∷ statement (form.EndActivation) 0 (Some (stmt 14))
          ∷ statement (form.ReturnValue (subprogram 0) (expr 0)) 0 None
          ∷ statement (form.Delay (expr 1)) 0 (Some (stmt 16))
          ∷ statement (form.EntryCall (entry 0) (owner.Object (decl 1)) []) 0 None
          ∷ statement (form.SetPriority (expr 2) (Some (expr 3))) 0 (Some (stmt 18))
          ∷ statement (form.SetPriority (expr 4) (Some (expr 5))) 0 (Some (stmt 19))
          ∷ statement (form.SetPriority (expr 6) (Some (expr 7))) 0 (Some (stmt 20))
          ∷ statement (form.SetPriority (expr 8) (Some (expr 9))) 0 (Some (stmt 21))
          ∷ statement (form.Activate 0) 0 (Some (stmt 22))
          ∷ statement (form.CreateTask (decl 3) 0) 0 (Some (stmt 23))
          ∷ statement (form.CreateTask (decl 2) 0) 0 (Some (stmt 24))
          ∷ statement (form.CreateTask (decl 1) 0) 0 (Some (stmt 25))
          ∷ statement (form.CreateTask (decl 0) 0) 0 (Some (stmt 26))
          ∷ [];
      scopes =
          scope_text None 0 [] false (Some (stmt 0))
          ∷ scope_text (Some (scope 0)) 4 [] true (Some (stmt 27))
          ∷ scope_text (Some (scope 1)) 1 [] true (Some (stmt 7))
          ∷ scope_text (Some (scope 2)) 1 [] false (Some (stmt 3))
          ∷ scope_text (Some (scope 1)) 0 [] false (Some (stmt 10))
          ∷ scope_text (Some (scope 4)) 0 [] false None
          ∷ scope_text (Some (scope 4)) 0 [] false None
          ∷ scope_text (Some (scope 1)) 0 [] false (Some (stmt 13))
          ∷ scope_text (Some (scope 7)) 0 [] false None
          ∷ scope_text (Some (scope 1)) 0 [] false (Some (stmt 15))
          ∷ scope_text (Some (scope 1)) 1 [] false (Some (stmt 17))
          ∷ [];
      subprograms =
          subprogram_text (codes "f") (scope 10) [] (Some (Whole (negsuc 2147483647) (pos 2147483647))) None
          ∷ [];
      task_units =
          task_unit_text (scope 2) (Some 20) None []
          ∷ task_unit_text (scope 4) (Some 20) None ((entry 0) ∷ (entry 1) ∷ [])
          ∷ task_unit_text (scope 7) (Some 20) None ((entry 2) ∷ [])
          ∷ task_unit_text (scope 9) (Some 20) None []
          ∷ task_unit_text (scope 3) None None []
          ∷ [];
      protected_units = [];
      entries =
          entry_text (codes "e") (unit.Task (task_unit 1)) 0 [] None
          ∷ entry_text (codes "g") (unit.Task (task_unit 1)) 1 [] None
          ∷ entry_text (codes "e") (unit.Task (task_unit 2)) 0 [] None
          ∷ [];
      controlled_types = [];
      enumerations = [];
      policies = (policies [] queuing.Fifo None 30);
      environment = (scope 0);
      main = (main_procedure (codes "main") 15 (scope 1));
    }

abbrev pub row_priorities_blocked_script : List (ℤ × Item)
row_priorities_blocked_script = []

-- the lines of its run up to tick 61
unfoldable pub row_priorities_blocked_lines : List (ℕ × Event)
row_priorities_blocked_lines = run_of row_priorities_blocked_program row_priorities_blocked_script 61

unfoldable pub row_priorities_blocked_trace : List (ℕ × Event)
row_priorities_blocked_trace =
    (0, line.New (created.Task (task 0)) (codes "main") 15)
    ∷ (0, line.Ready (t 0) 15 Tail None)
    ∷ (0, line.Run (t 0))
    ∷ (4, line.New (created.Task (task 1)) (codes "main.a") 20)
    ∷ (6, line.New (created.Task (task 2)) (codes "main.b") 20)
    ∷ (8, line.New (created.Task (task 3)) (codes "main.c") 20)
    ∷ (10, line.New (created.Task (task 4)) (codes "main.d") 20)
    ∷ (12, line.Ready (t 1) 20 Tail None)
    ∷ (12, line.Ready (t 2) 20 Tail None)
    ∷ (12, line.Ready (t 3) 20 Tail None)
    ∷ (12, line.Ready (t 4) 20 Tail None)
    ∷ (12, line.Block (t 0) waits.Activation)
    ∷ (12, line.Run (t 1))
    ∷ (14, line.New (created.Task (task 5)) (codes "main.a.i") 20)
    ∷ (17, line.Ready (t 5) 20 Tail None)
    ∷ (17, line.Block (t 1) waits.Activation)
    ∷ (17, line.Run (t 2))
    ∷ (20, line.Block (t 2) waits.Accept)
    ∷ (20, line.Run (t 3))
    ∷ (25, line.Block (t 3) waits.Select)
    ∷ (25, line.Run (t 4))
    ∷ (26, line.Ready (t 0) 15 Tail None)
    ∷ (28, line.Call (task 4) (call 1) (of_task 2 (codes "g")) 20)
    ∷ (28, line.Block (t 4) waits.Entry)
    ∷ (28, line.Run (t 5))
    ∷ (32, line.Block (t 5) waits.Delay)
    ∷ (32, line.Run (t 0))
    ∷ (34, line.Base (task 1) 9)
    ∷ (36, line.Base (task 2) 9)
    ∷ (38, line.Base (task 3) 9)
    ∷ (40, line.Base (task 4) 9)
    ∷ (42, line.Call (task 0) (call 2) (of_task 2 (codes "e")) 15)
    ∷ (42, line.Start (t 2) (call 2))
    ∷ (42, line.Ready (t 2) 15 Tail None)
    ∷ (42, line.Block (t 0) waits.Entry)
    ∷ (42, line.Run (t 2))
    ∷ (43, line.Finish (t 2) (call 2) finished.Ok)
    ∷ (43, line.Ready (t 0) 15 Tail None)
    ∷ (43, line.Ready (t 2) 9 Head None)
    ∷ (43, line.Run (t 0))
    ∷ (44, line.Leave (t 0) (region 1) leaves.End)
    ∷ (44, line.Block (t 0) waits.Dependents)
    ∷ (44, line.Ready (t 5) 20 Tail None)
    ∷ (44, line.Run (t 5))
    ∷ (47, line.Ready (t 1) 9 Tail None)
    ∷ (49, line.Done (task 5))
    ∷ (49, line.Run (t 2))
    ∷ (51, line.Start (t 2) (call 1))
    ∷ (52, line.Finish (t 2) (call 1) finished.Ok)
    ∷ (52, line.Ready (t 4) 9 Tail None)
    ∷ (53, line.Done (task 2))
    ∷ (53, line.Run (t 1))
    ∷ (55, line.Leave (t 1) (region 2) leaves.End)
    ∷ (56, line.Left (t 1) (region 2))
    ∷ (56, line.Done (task 1))
    ∷ (56, line.Run (t 4))
    ∷ (57, line.Done (task 4))
    ∷ (57, line.Ready (t 3) 9 Tail None)
    ∷ (57, line.Run (t 3))
    ∷ (58, line.Done (task 3))
    ∷ (58, line.Ready (t 0) 15 Tail None)
    ∷ (58, line.Run (t 0))
    ∷ (59, line.Left (t 0) (region 1))
    ∷ (60, line.Done (task 0))
    ∷ (60, line.End end.Completed)
    ∷ []

pub row_priorities_blocked_runs : row_priorities_blocked_lines ≡ row_priorities_blocked_trace
unfolding row_priorities_blocked_lines row_priorities_blocked_trace digits computing
row_priorities_blocked_runs = refl

-- whether every world of its run is well formed
unfoldable pub row_priorities_blocked_worlds : Bool
row_priorities_blocked_worlds = run_is_well_formed row_priorities_blocked_program row_priorities_blocked_script 61

pub row_priorities_blocked_keeps : row_priorities_blocked_worlds ≡ true
unfolding row_priorities_blocked_worlds computing
row_priorities_blocked_keeps = refl

-- whether each handler is released at its tick
unfoldable pub row_priorities_blocked_handlers : Bool
row_priorities_blocked_handlers = releases_ok row_priorities_blocked_program row_priorities_blocked_script 61

pub row_priorities_blocked_releases : row_priorities_blocked_handlers ≡ true
unfolding row_priorities_blocked_handlers computing
row_priorities_blocked_releases = refl
