use Rattle.std.specs.Prelude.{◌≡◌, ℕ, ℤ, pos, List, [], ◌∷◌, Some, None, true, false, codes, refl}
use Rattle.trace_text.specs.declared.events.Event.{Event}
use Rattle.trace_text.specs.declared.events.Event.TheVariants as line
use Rattle.trace_text.specs.declared.events.Created.TheVariants as created
use Rattle.trace_text.specs.declared.events.Ended.TheVariants as end
use Rattle.trace_text.specs.declared.events.Finished.TheVariants as finished
use Rattle.trace_text.specs.declared.events.Leaves.TheVariants as leaves
use Rattle.trace_text.specs.declared.events.QueueEnd.TheVariants.{Head, Tail}
use Rattle.trace_text.specs.declared.events.Waits.TheVariants as waits
use Rattle.profile_image.specs.declared.script_items.Item.{Item}
use Rattle.profile_image.specs.declared.image.Image.{Image}
use Rattle.profile_image.specs.declared.image.Queuing.TheVariants as queuing
use Rattle.profile_image.specs.declared.values.Value.TheVariants.{Whole, Thing}
use Rattle.profile_image.specs.declared.values.Constraint.TheVariants.{Free, Whole}
use Rattle.profile_image.specs.declared.expressions.Expression.TheVariants.{Known, Thing}
use Rattle.profile_image.specs.declared.declarations.DeclarationKind.TheVariants as kind
use Rattle.profile_image.specs.declared.declarations.EntryUnit.TheVariants as unit
use Rattle.profile_image.specs.declared.statements.StatementForm.TheVariants as form
use Rattle.profile_image.specs.declared.statements.EntryOwner.TheVariants as owner
use Rattle.profile_image.specs.declared.statements.SelectKind.TheVariants as select
use Rattle.profile_machine.specs.Notation.{decl, expr, stmt, scope, task_unit, entry, task, call, region, t, of_task, declaration, statement, select_alternative, scope_text, task_unit_text, entry_text, policies, main_procedure}
use Rattle.profile_machine.specs.Run.{run_of}
use Rattle.profile_machine.specs.Computing.{computing}
use Rattle.std.specs.Fmt.{digits}
use Rattle.std.specs.Prelude.{Bool}
use Rattle.profile_machine.specs.WellFormed.{run_is_well_formed}
use Rattle.profile_machine.specs.Releases.{releases_ok}

-- Row queues.best: its run stops before tick 62, so every greater bound gives the same trace.
abbrev pub row_queues_best_program : Image
row_queues_best_program =
    record {
      declarations =
          declaration (codes "t") (codes "main.t") (kind.Task (task_unit 0)) (scope 1) 0 1 Free None
          ∷ declaration (codes "a") (codes "main.a") (kind.Task (task_unit 1)) (scope 1) 1 1 Free None
          ∷ declaration (codes "b") (codes "main.b") (kind.Task (task_unit 2)) (scope 1) 2 1 Free None
          ∷ declaration (codes "c") (codes "main.c") (kind.Task (task_unit 3)) (scope 1) 3 1 Free None
          ∷ declaration (codes "d") (codes "main.d") (kind.Task (task_unit 4)) (scope 1) 4 1 Free None
          ∷ declaration (codes "k") (codes "main.t.k") kind.Parameter (scope 2) 0 2 Free None
          ∷ [];
      expressions =
          Known (Whole (pos 20))
          ∷ Thing (decl 2)
          ∷ Known (Whole (pos 1))
          ∷ Known (Whole (pos 3))
          ∷ [];
      statements =
          statement (form.CallMain) 0 None
          ∷ statement (form.Accept (entry 1) (scope 5)) 0 None
          ∷ statement (form.For (decl 5) false (expr 2) (expr 3) (stmt 3) None) 0 (Some (stmt 1))
          ∷ statement (form.FirstTurn (decl 5) false (stmt 8)) 0 (Some (stmt 1))
          ∷ statement (form.LaterTurn (decl 5) false (stmt 8)) 0 (Some (stmt 1))
          ∷ statement (form.Accept (entry 0) (scope 3)) 0 (Some (stmt 4))
          ∷ statement (form.Accept (entry 1) (scope 4)) 0 (Some (stmt 4))
          ∷ statement (form.SetPriority (expr 0) (Some (expr 1))) 0 None
          ∷ statement (form.SelectiveAccept (select_alternative None (select.Accept (stmt 5)) ∷ select_alternative None (select.Accept (stmt 6)) ∷ []) None) 0 (Some (stmt 4))
          ∷ statement (form.EndActivation) 0 (Some (stmt 2))
          ∷ statement (form.EntryCall (entry 0) (owner.Object (decl 0)) []) 0 None
          ∷ statement (form.EndActivation) 0 (Some (stmt 10))
          ∷ statement (form.EntryCall (entry 1) (owner.Object (decl 0)) []) 0 None
          ∷ statement (form.EndActivation) 0 (Some (stmt 12))
          ∷ statement (form.EntryCall (entry 0) (owner.Object (decl 0)) []) 0 None
          ∷ statement (form.EndActivation) 0 (Some (stmt 14))
          ∷ statement (form.EntryCall (entry 1) (owner.Object (decl 0)) []) 0 None
          ∷ statement (form.EndActivation) 0 (Some (stmt 16))
          ∷ statement (form.Null) 0 None
          ∷ statement (form.Activate 0) 0 (Some (stmt 18))
          ∷ statement (form.CreateTask (decl 4) 0) 0 (Some (stmt 19))
          ∷ statement (form.CreateTask (decl 3) 0) 0 (Some (stmt 20))
          ∷ statement (form.CreateTask (decl 2) 0) 0 (Some (stmt 21))
          ∷ statement (form.CreateTask (decl 1) 0) 0 (Some (stmt 22))
          ∷ statement (form.CreateTask (decl 0) 0) 0 (Some (stmt 23))
          ∷ [];
      scopes =
          scope_text None 0 [] false (Some (stmt 0))
          ∷ scope_text (Some (scope 0)) 5 [] true (Some (stmt 24))
          ∷ scope_text (Some (scope 1)) 2 [] false (Some (stmt 9))
          ∷ scope_text (Some (scope 2)) 0 [] false None
          ∷ scope_text (Some (scope 2)) 0 [] false (Some (stmt 7))
          ∷ scope_text (Some (scope 2)) 0 [] false None
          ∷ scope_text (Some (scope 1)) 0 [] false (Some (stmt 11))
          ∷ scope_text (Some (scope 1)) 0 [] false (Some (stmt 13))
          ∷ scope_text (Some (scope 1)) 0 [] false (Some (stmt 15))
          ∷ scope_text (Some (scope 1)) 0 [] false (Some (stmt 17))
          ∷ [];
      subprograms = [];
      task_units =
          task_unit_text (scope 2) None None ((entry 0) ∷ (entry 1) ∷ [])
          ∷ task_unit_text (scope 6) (Some 18) None []
          ∷ task_unit_text (scope 7) (Some 19) None []
          ∷ task_unit_text (scope 8) (Some 18) None []
          ∷ task_unit_text (scope 9) (Some 18) None []
          ∷ [];
      protected_units = [];
      entries =
          entry_text (codes "e") (unit.Task (task_unit 0)) 0 [] None
          ∷ entry_text (codes "f") (unit.Task (task_unit 0)) 1 [] None
          ∷ [];
      controlled_types = [];
      enumerations = [];
      policies = (policies [] queuing.Priority None 30);
      environment = (scope 0);
      main = (main_procedure (codes "main") 15 (scope 1));
    }

abbrev pub row_queues_best_script : List (ℤ × Item)
row_queues_best_script = []

-- the lines of its run up to tick 62
unfoldable pub row_queues_best_lines : List (ℕ × Event)
row_queues_best_lines = run_of row_queues_best_program row_queues_best_script 62

unfoldable pub row_queues_best_trace : List (ℕ × Event)
row_queues_best_trace =
    (0, line.New (created.Task (task 0)) (codes "main") 15)
    ∷ (0, line.Ready (t 0) 15 Tail None)
    ∷ (0, line.Run (t 0))
    ∷ (4, line.New (created.Task (task 1)) (codes "main.t") 15)
    ∷ (6, line.New (created.Task (task 2)) (codes "main.a") 18)
    ∷ (8, line.New (created.Task (task 3)) (codes "main.b") 19)
    ∷ (10, line.New (created.Task (task 4)) (codes "main.c") 18)
    ∷ (12, line.New (created.Task (task 5)) (codes "main.d") 18)
    ∷ (14, line.Ready (t 1) 15 Tail None)
    ∷ (14, line.Ready (t 2) 18 Tail None)
    ∷ (14, line.Ready (t 3) 19 Tail None)
    ∷ (14, line.Ready (t 4) 18 Tail None)
    ∷ (14, line.Ready (t 5) 18 Tail None)
    ∷ (14, line.Block (t 0) waits.Activation)
    ∷ (14, line.Run (t 3))
    ∷ (17, line.Call (task 3) (call 1) (of_task 1 (codes "f")) 19)
    ∷ (17, line.Block (t 3) waits.Entry)
    ∷ (17, line.Run (t 2))
    ∷ (20, line.Call (task 2) (call 2) (of_task 1 (codes "e")) 18)
    ∷ (20, line.Block (t 2) waits.Entry)
    ∷ (20, line.Run (t 4))
    ∷ (23, line.Call (task 4) (call 3) (of_task 1 (codes "e")) 18)
    ∷ (23, line.Block (t 4) waits.Entry)
    ∷ (23, line.Run (t 5))
    ∷ (26, line.Call (task 5) (call 4) (of_task 1 (codes "f")) 18)
    ∷ (26, line.Block (t 5) waits.Entry)
    ∷ (26, line.Run (t 1))
    ∷ (27, line.Ready (t 0) 15 Tail None)
    ∷ (33, line.Start (t 1) (call 1))
    ∷ (33, line.Ready (t 1) 19 Head None)
    ∷ (35, line.Base (task 3) 20)
    ∷ (36, line.Finish (t 1) (call 1) finished.Ok)
    ∷ (36, line.Ready (t 3) 20 Tail None)
    ∷ (36, line.Ready (t 1) 15 Head None)
    ∷ (36, line.Run (t 3))
    ∷ (37, line.Done (task 3))
    ∷ (37, line.Run (t 1))
    ∷ (42, line.Start (t 1) (call 2))
    ∷ (42, line.Ready (t 1) 18 Head None)
    ∷ (43, line.Finish (t 1) (call 2) finished.Ok)
    ∷ (43, line.Ready (t 2) 18 Tail None)
    ∷ (43, line.Ready (t 1) 15 Head None)
    ∷ (43, line.Run (t 2))
    ∷ (44, line.Done (task 2))
    ∷ (44, line.Run (t 1))
    ∷ (49, line.Start (t 1) (call 3))
    ∷ (49, line.Ready (t 1) 18 Head None)
    ∷ (50, line.Finish (t 1) (call 3) finished.Ok)
    ∷ (50, line.Ready (t 4) 18 Tail None)
    ∷ (50, line.Ready (t 1) 15 Head None)
    ∷ (50, line.Run (t 4))
    ∷ (51, line.Done (task 4))
    ∷ (51, line.Run (t 1))
    ∷ (54, line.Start (t 1) (call 4))
    ∷ (54, line.Ready (t 1) 18 Head None)
    ∷ (55, line.Finish (t 1) (call 4) finished.Ok)
    ∷ (55, line.Ready (t 5) 18 Tail None)
    ∷ (55, line.Ready (t 1) 15 Head None)
    ∷ (55, line.Run (t 5))
    ∷ (56, line.Done (task 5))
    ∷ (56, line.Run (t 1))
    ∷ (57, line.Done (task 1))
    ∷ (57, line.Run (t 0))
    ∷ (59, line.Leave (t 0) (region 1) leaves.End)
    ∷ (60, line.Left (t 0) (region 1))
    ∷ (61, line.Done (task 0))
    ∷ (61, line.End end.Completed)
    ∷ []

pub row_queues_best_runs : row_queues_best_lines ≡ row_queues_best_trace
unfolding row_queues_best_lines row_queues_best_trace digits computing
row_queues_best_runs = refl

-- whether every world of its run is well formed
unfoldable pub row_queues_best_worlds : Bool
row_queues_best_worlds = run_is_well_formed row_queues_best_program row_queues_best_script 62

pub row_queues_best_keeps : row_queues_best_worlds ≡ true
unfolding row_queues_best_worlds computing
row_queues_best_keeps = refl

-- whether each handler is released at its tick
unfoldable pub row_queues_best_handlers : Bool
row_queues_best_handlers = releases_ok row_queues_best_program row_queues_best_script 62

pub row_queues_best_releases : row_queues_best_handlers ≡ true
unfolding row_queues_best_handlers computing
row_queues_best_releases = refl
