use Rattle.std.specs.Prelude.{◌≡◌, ℕ, ℤ, pos, negsuc, List, [], ◌∷◌, Some, None, true, false, codes, refl}
use Rattle.ann_base.specs.declared.exceptions.Raised.TheVariants as exception
use Rattle.trace_text.specs.declared.events.Event.{Event}
use Rattle.trace_text.specs.declared.events.Event.TheVariants as line
use Rattle.trace_text.specs.declared.events.Created.TheVariants as created
use Rattle.trace_text.specs.declared.events.Ended.TheVariants as end
use Rattle.trace_text.specs.declared.events.Finished.TheVariants as finished
use Rattle.trace_text.specs.declared.events.Leaves.TheVariants as leaves
use Rattle.trace_text.specs.declared.events.QueueEnd.TheVariants.{Head, Tail}
use Rattle.trace_text.specs.declared.events.Waits.TheVariants as waits
use Rattle.profile_image.specs.declared.script_items.Item.{Item}
use Rattle.profile_image.specs.declared.image.Image.{Image}
use Rattle.profile_image.specs.declared.image.Queuing.TheVariants as queuing
use Rattle.profile_image.specs.declared.values.Value.TheVariants.{Whole}
use Rattle.profile_image.specs.declared.values.Constraint.TheVariants.{Free, Whole}
use Rattle.profile_image.specs.declared.expressions.Expression.TheVariants.{Known, Variable, Binary}
use Rattle.profile_image.specs.declared.expressions.ObjectName.TheVariants.{Declared}
use Rattle.profile_image.specs.declared.expressions.BinaryOperator.TheVariants as binary
use Rattle.profile_image.specs.declared.declarations.DeclarationKind.TheVariants as kind
use Rattle.profile_image.specs.declared.declarations.Initial.TheVariants as initial
use Rattle.profile_image.specs.declared.declarations.EntryUnit.TheVariants as unit
use Rattle.profile_image.specs.declared.declarations.ExceptionChoice.TheVariants as exception_choice
use Rattle.profile_image.specs.declared.statements.StatementForm.TheVariants as form
use Rattle.profile_image.specs.declared.statements.Actual.TheVariants as actual
use Rattle.profile_image.specs.declared.statements.EntryOwner.TheVariants as owner
use Rattle.profile_image.specs.declared.statements.Piece.TheVariants as piece
use Rattle.profile_machine.specs.Notation.{decl, expr, stmt, scope, task_unit, entry, task, call, region, t, of_task, declaration, variable, statement, handler, cell_run, scope_text, formal, task_unit_text, entry_text, policies, main_procedure}
use Rattle.profile_machine.specs.Run.{run_of}
use Rattle.profile_machine.specs.Computing.{computing}
use Rattle.std.specs.Fmt.{digits}
use Rattle.std.specs.Prelude.{Bool}
use Rattle.profile_machine.specs.WellFormed.{run_is_well_formed}
use Rattle.profile_machine.specs.Releases.{releases_ok}

-- Row calls.results: its run stops before tick 39, so every greater bound gives the same trace.
abbrev pub row_calls_results_program : Image
row_calls_results_program =
    record {
      declarations =
          declaration (codes "x") (codes "main.x") (kind.Object (initial.Scalar (expr 8))) (scope 1) 0 1 (Whole (pos 1) (pos 3)) None
          ∷ declaration (codes "y") (codes "main.y") (kind.Object (initial.Scalar (expr 9))) (scope 1) 1 1 (Whole (pos 1) (pos 3)) None
          ∷ declaration (codes "z") (codes "main.z") (kind.Object (initial.Scalar (expr 10))) (scope 1) 2 1 (Whole (negsuc 2147483647) (pos 2147483647)) None
          ∷ declaration (codes "t") (codes "main.t") (kind.Task (task_unit 0)) (scope 1) 3 1 Free None
          ∷ declaration (codes "u") (codes "main.u") (kind.Task (task_unit 1)) (scope 1) 4 1 Free None
          ∷ declaration (codes "a") (codes "main.t.a") kind.Parameter (scope 3) 0 1 (Whole (negsuc 2147483647) (pos 2147483647)) None
          ∷ declaration (codes "b") (codes "main.t.b") kind.Parameter (scope 3) 1 1 (Whole (negsuc 2147483647) (pos 2147483647)) None
          ∷ declaration (codes "c") (codes "main.t.c") kind.Parameter (scope 3) 2 1 (Whole (negsuc 2147483647) (pos 2147483647)) None
          ∷ [];
      expressions =
          Known (Whole (pos 9))
          ∷ Known (Whole (pos 7))
          ∷ Variable (variable (Declared (decl 6)) None)
          ∷ Known (Whole (pos 1))
          ∷ Binary binary.Plus (expr 2) (expr 3)
          ∷ Variable (variable (Declared (decl 0)) None)
          ∷ Variable (variable (Declared (decl 2)) None)
          ∷ Binary binary.Plus (expr 5) (expr 6)
          ∷ Known (Whole (pos 1))
          ∷ Known (Whole (pos 2))
          ∷ Known (Whole (pos 0))
          ∷ [];
      statements =
          statement (form.CallMain) 0 None
          ∷ statement (form.Accept (entry 0) (scope 3)) 0 None
          ∷ statement (form.Assign (variable (Declared (decl 7)) None) (expr 0)) 0 None
          ∷ statement (form.Assign (variable (Declared (decl 6)) None) (expr 1)) 0 (Some (stmt 2))
          ∷ statement (form.Assign (variable (Declared (decl 5)) None) (expr 4)) 1 (Some (stmt 3))
          ∷ statement (form.EntryCall (entry 1) (owner.Object (decl 4)) []) 0 (Some (stmt 4))
          ∷ statement (form.EndActivation) 0 (Some (stmt 1))
          ∷ statement (form.Accept (entry 1) (scope 5)) 0 None
          ∷ statement (form.EndActivation) 0 (Some (stmt 7))
          ∷ statement (form.Handled (handler (exception_choice.Named exception.Constraint ∷ []) (stmt 12) ∷ []) (stmt 11)) 0 None
          ∷ statement (form.EntryCall (entry 0) (owner.Object (decl 3)) (actual.Out (variable (Declared (decl 0)) None) ∷ actual.InOut (variable (Declared (decl 1)) None) ∷ actual.Out (variable (Declared (decl 2)) None) ∷ [])) 0 None
          ∷ statement (form.Activate 0) 0 (Some (stmt 10))
          ∷ statement (form.PutLine (piece.Whole (expr 7) ∷ [])) 1 None
          ∷ statement (form.CreateTask (decl 4) 0) 0 (Some (stmt 9))
          ∷ statement (form.CreateTask (decl 3) 0) 0 (Some (stmt 13))
          ∷ statement (form.Declare (decl 2)) 0 (Some (stmt 14))
          ∷ statement (form.Declare (decl 1)) 0 (Some (stmt 15))
          ∷ statement (form.Declare (decl 0)) 0 (Some (stmt 16))
          ∷ [];
      scopes =
          scope_text None 0 [] false (Some (stmt 0))
          ∷ scope_text (Some (scope 0)) 5 (cell_run 0 1 (Whole (pos 1)) ∷ cell_run 1 1 (Whole (pos 1)) ∷ []) true (Some (stmt 17))
          ∷ scope_text (Some (scope 1)) 0 [] false (Some (stmt 6))
          ∷ scope_text (Some (scope 2)) 3 [] false (Some (stmt 5))
          ∷ scope_text (Some (scope 1)) 0 [] false (Some (stmt 8))
          ∷ scope_text (Some (scope 4)) 0 [] false None
          ∷ [];
      subprograms = [];
      task_units =
          task_unit_text (scope 2) None None ((entry 0) ∷ [])
          ∷ task_unit_text (scope 4) (Some 10) None ((entry 1) ∷ [])
          ∷ [];
      protected_units = [];
      entries =
          entry_text (codes "e") (unit.Task (task_unit 0)) 0 (formal (Whole (negsuc 2147483647) (pos 2147483647)) (Whole (pos 0)) ∷ formal (Whole (negsuc 2147483647) (pos 2147483647)) (Whole (pos 0)) ∷ formal (Whole (negsuc 2147483647) (pos 2147483647)) (Whole (pos 0)) ∷ []) None
          ∷ entry_text (codes "f") (unit.Task (task_unit 1)) 0 [] None
          ∷ [];
      controlled_types = [];
      enumerations = [];
      policies = (policies [] queuing.Fifo None 30);
      environment = (scope 0);
      main = (main_procedure (codes "main") 15 (scope 1));
    }

abbrev pub row_calls_results_script : List (ℤ × Item)
row_calls_results_script = []

-- the lines of its run up to tick 39
unfoldable pub row_calls_results_lines : List (ℕ × Event)
row_calls_results_lines = run_of row_calls_results_program row_calls_results_script 39

unfoldable pub row_calls_results_trace : List (ℕ × Event)
row_calls_results_trace =
    (0, line.New (created.Task (task 0)) (codes "main") 15)
    ∷ (0, line.Ready (t 0) 15 Tail None)
    ∷ (0, line.Run (t 0))
    ∷ (7, line.New (created.Task (task 1)) (codes "main.t") 15)
    ∷ (9, line.New (created.Task (task 2)) (codes "main.u") 10)
    ∷ (11, line.Ready (t 1) 15 Tail None)
    ∷ (11, line.Ready (t 2) 15 Tail None)
    ∷ (11, line.Block (t 0) waits.Activation)
    ∷ (11, line.Run (t 1))
    ∷ (14, line.Block (t 1) waits.Accept)
    ∷ (14, line.Run (t 2))
    ∷ (15, line.Ready (t 0) 15 Tail None)
    ∷ (15, line.Ready (t 2) 10 Head None)
    ∷ (15, line.Run (t 0))
    ∷ (17, line.Call (task 0) (call 1) (of_task 1 (codes "e")) 15)
    ∷ (17, line.Start (t 1) (call 1))
    ∷ (17, line.Ready (t 1) 15 Tail None)
    ∷ (17, line.Block (t 0) waits.Entry)
    ∷ (17, line.Run (t 1))
    ∷ (19, line.Call (task 1) (call 2) (of_task 2 (codes "f")) 15)
    ∷ (19, line.Block (t 1) waits.Entry)
    ∷ (19, line.Run (t 2))
    ∷ (21, line.Start (t 2) (call 2))
    ∷ (21, line.Ready (t 2) 15 Head None)
    ∷ (22, line.Finish (t 2) (call 2) finished.Ok)
    ∷ (22, line.Ready (t 1) 15 Tail None)
    ∷ (22, line.Ready (t 2) 10 Head None)
    ∷ (22, line.Run (t 1))
    ∷ (27, line.Finish (t 1) (call 1) finished.Ok)
    ∷ (27, line.Ready (t 0) 15 Tail None)
    ∷ (27, line.Raise (t 0) (codes "constraint_error"))
    ∷ (28, line.Done (task 1))
    ∷ (28, line.Run (t 0))
    ∷ (34, line.Put (t 0) (codes " 3"))
    ∷ (35, line.Leave (t 0) (region 1) leaves.End)
    ∷ (35, line.Block (t 0) waits.Dependents)
    ∷ (35, line.Run (t 2))
    ∷ (36, line.Done (task 2))
    ∷ (36, line.Ready (t 0) 15 Tail None)
    ∷ (36, line.Run (t 0))
    ∷ (37, line.Left (t 0) (region 1))
    ∷ (38, line.Done (task 0))
    ∷ (38, line.End end.Completed)
    ∷ []

pub row_calls_results_runs : row_calls_results_lines ≡ row_calls_results_trace
unfolding row_calls_results_lines row_calls_results_trace digits computing
row_calls_results_runs = refl

-- whether every world of its run is well formed
unfoldable pub row_calls_results_worlds : Bool
row_calls_results_worlds = run_is_well_formed row_calls_results_program row_calls_results_script 39

pub row_calls_results_keeps : row_calls_results_worlds ≡ true
unfolding row_calls_results_worlds computing
row_calls_results_keeps = refl

-- whether each handler is released at its tick
unfoldable pub row_calls_results_handlers : Bool
row_calls_results_handlers = releases_ok row_calls_results_program row_calls_results_script 39

pub row_calls_results_releases : row_calls_results_handlers ≡ true
unfolding row_calls_results_handlers computing
row_calls_results_releases = refl
