use Rattle.std.specs.Prelude.{◌≡◌, ℕ, ℤ, pos, negsuc, List, [], ◌∷◌, Some, None, true, false, codes, refl}
use Rattle.trace_text.specs.declared.events.Event.{Event}
use Rattle.trace_text.specs.declared.events.Event.TheVariants as line
use Rattle.trace_text.specs.declared.events.Created.TheVariants as created
use Rattle.trace_text.specs.declared.events.Ended.TheVariants as end
use Rattle.trace_text.specs.declared.events.Finished.TheVariants as finished
use Rattle.trace_text.specs.declared.events.Leaves.TheVariants as leaves
use Rattle.trace_text.specs.declared.events.QueueEnd.TheVariants.{Tail}
use Rattle.trace_text.specs.declared.events.Waits.TheVariants as waits
use Rattle.profile_image.specs.declared.script_items.Item.{Item}
use Rattle.profile_image.specs.declared.image.Image.{Image}
use Rattle.profile_image.specs.declared.image.Queuing.TheVariants as queuing
use Rattle.profile_image.specs.declared.values.Value.TheVariants.{Whole}
use Rattle.profile_image.specs.declared.values.Constraint.TheVariants.{Free, Whole}
use Rattle.profile_image.specs.declared.expressions.Expression.TheVariants.{Known, Variable}
use Rattle.profile_image.specs.declared.expressions.ObjectName.TheVariants.{Declared}
use Rattle.profile_image.specs.declared.declarations.DeclarationKind.TheVariants as kind
use Rattle.profile_image.specs.declared.declarations.EntryUnit.TheVariants as unit
use Rattle.profile_image.specs.declared.statements.StatementForm.TheVariants as form
use Rattle.profile_image.specs.declared.statements.Choice.TheVariants as choice
use Rattle.profile_image.specs.declared.statements.Actual.TheVariants as actual
use Rattle.profile_image.specs.declared.statements.EntryOwner.TheVariants as owner
use Rattle.profile_image.specs.declared.statements.Piece.TheVariants as piece
use Rattle.profile_machine.specs.Notation.{decl, expr, stmt, scope, task_unit, entry, task, call, region, t, of_task, declaration, variable, statement, alternative, cell_run, scope_text, formal, task_unit_text, entry_text, policies, main_procedure}
use Rattle.profile_machine.specs.Run.{run_of}
use Rattle.profile_machine.specs.Computing.{computing}
use Rattle.std.specs.Fmt.{digits}
use Rattle.std.specs.Prelude.{Bool}
use Rattle.profile_machine.specs.WellFormed.{run_is_well_formed}
use Rattle.profile_machine.specs.Releases.{releases_ok}

-- Row values.case: its run stops before tick 23, so every greater bound gives the same trace.
abbrev pub row_values_case_program : Image
row_values_case_program =
    record {
      declarations =
          declaration (codes "t") (codes "main.t") (kind.Task (task_unit 0)) (scope 1) 0 1 Free None
          ∷ declaration (codes "x") (codes "main.t.x") kind.Parameter (scope 3) 0 1 (Whole (negsuc 2147483647) (pos 2147483647)) None
          ∷ declaration (codes "x") (codes "main.t.x") kind.Parameter (scope 4) 0 1 (Whole (pos 1) (pos 2)) None
          ∷ [];
      expressions =
          Variable (variable (Declared (decl 2)) None)
          ∷ Known (Whole (pos 7))
          ∷ [];
      statements =
          statement (form.CallMain) 0 None
          ∷ statement (form.Accept (entry 1) (scope 4)) 0 None
          ∷ statement (form.PutLine (piece.Text (codes "behind") ∷ [])) 0 None
          ∷ statement (form.Null) 0 (Some (stmt 2))
          ∷ statement (form.Null) 0 (Some (stmt 2))
          ∷ statement (form.Case (expr 0) (alternative (choice.Single (Whole (pos 1)) ∷ []) (stmt 3) ∷ alternative (choice.Single (Whole (pos 2)) ∷ []) (stmt 4) ∷ [])) 0 (Some (stmt 2))
          ∷ statement (form.Accept (entry 0) (scope 3)) 0 (Some (stmt 1))
          ∷ statement (form.Requeue (entry 1) owner.Own false) 0 None
          ∷ statement (form.EndActivation) 0 (Some (stmt 6))
          ∷ statement (form.PutLine (piece.Text (codes "m") ∷ [])) 0 None
          ∷ statement (form.EntryCall (entry 0) (owner.Object (decl 0)) (actual.In (expr 1) ∷ [])) 0 (Some (stmt 9))
          ∷ statement (form.Activate 0) 0 (Some (stmt 10))
          ∷ statement (form.CreateTask (decl 0) 0) 0 (Some (stmt 11))
          ∷ [];
      scopes =
          scope_text None 0 [] false (Some (stmt 0))
          ∷ scope_text (Some (scope 0)) 1 [] true (Some (stmt 12))
          ∷ scope_text (Some (scope 1)) 0 [] false (Some (stmt 8))
          ∷ scope_text (Some (scope 2)) 1 [] false (Some (stmt 7))
          ∷ scope_text (Some (scope 2)) 1 (cell_run 0 1 (Whole (pos 1)) ∷ []) false (Some (stmt 5))
          ∷ [];
      subprograms = [];
      task_units =
          task_unit_text (scope 2) None None ((entry 0) ∷ (entry 1) ∷ [])
          ∷ [];
      protected_units = [];
      entries =
          entry_text (codes "a") (unit.Task (task_unit 0)) 0 (formal (Whole (negsuc 2147483647) (pos 2147483647)) (Whole (pos 0)) ∷ []) None
          ∷ entry_text (codes "b") (unit.Task (task_unit 0)) 1 (formal (Whole (pos 1) (pos 2)) (Whole (pos 1)) ∷ []) None
          ∷ [];
      controlled_types = [];
      enumerations = [];
      policies = (policies [] queuing.Fifo None 30);
      environment = (scope 0);
      main = (main_procedure (codes "main") 15 (scope 1));
    }

abbrev pub row_values_case_script : List (ℤ × Item)
row_values_case_script = []

-- the lines of its run up to tick 23
unfoldable pub row_values_case_lines : List (ℕ × Event)
row_values_case_lines = run_of row_values_case_program row_values_case_script 23

unfoldable pub row_values_case_trace : List (ℕ × Event)
row_values_case_trace =
    (0, line.New (created.Task (task 0)) (codes "main") 15)
    ∷ (0, line.Ready (t 0) 15 Tail None)
    ∷ (0, line.Run (t 0))
    ∷ (4, line.New (created.Task (task 1)) (codes "main.t") 15)
    ∷ (6, line.Ready (t 1) 15 Tail None)
    ∷ (6, line.Block (t 0) waits.Activation)
    ∷ (6, line.Run (t 1))
    ∷ (7, line.Ready (t 0) 15 Tail None)
    ∷ (9, line.Block (t 1) waits.Accept)
    ∷ (9, line.Run (t 0))
    ∷ (11, line.Call (task 0) (call 1) (of_task 1 (codes "a")) 15)
    ∷ (11, line.Start (t 1) (call 1))
    ∷ (11, line.Ready (t 1) 15 Tail None)
    ∷ (11, line.Block (t 0) waits.Entry)
    ∷ (11, line.Run (t 1))
    ∷ (14, line.Finish (t 1) (call 1) finished.Requeue)
    ∷ (14, line.Call (task 0) (call 1) (of_task 1 (codes "b")) 15)
    ∷ (16, line.Start (t 1) (call 1))
    ∷ (17, line.Raise (t 1) (codes "constraint_error"))
    ∷ (18, line.Finish (t 1) (call 1) (finished.Raised (codes "constraint_error")))
    ∷ (18, line.Ready (t 0) 15 Tail None)
    ∷ (18, line.Raise (t 0) (codes "constraint_error"))
    ∷ (19, line.Done (task 1))
    ∷ (19, line.Run (t 0))
    ∷ (20, line.Leave (t 0) (region 1) leaves.Exception)
    ∷ (21, line.Left (t 0) (region 1))
    ∷ (22, line.Done (task 0))
    ∷ (22, line.End (end.Exception (codes "constraint_error")))
    ∷ []

pub row_values_case_runs : row_values_case_lines ≡ row_values_case_trace
unfolding row_values_case_lines row_values_case_trace digits computing
row_values_case_runs = refl

-- whether every world of its run is well formed
unfoldable pub row_values_case_worlds : Bool
row_values_case_worlds = run_is_well_formed row_values_case_program row_values_case_script 23

pub row_values_case_keeps : row_values_case_worlds ≡ true
unfolding row_values_case_worlds computing
row_values_case_keeps = refl

-- whether each handler is released at its tick
unfoldable pub row_values_case_handlers : Bool
row_values_case_handlers = releases_ok row_values_case_program row_values_case_script 23

pub row_values_case_releases : row_values_case_handlers ≡ true
unfolding row_values_case_handlers computing
row_values_case_releases = refl
