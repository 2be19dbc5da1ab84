use Rattle.std.specs.Prelude.{◌≡◌, ℕ, ℤ, pos, List, [], ◌∷◌, Some, None, true, false, codes, refl}
use Rattle.ann_base.specs.declared.exceptions.Raised.TheVariants as exception
use Rattle.trace_text.specs.declared.events.Event.{Event}
use Rattle.trace_text.specs.declared.events.Event.TheVariants as line
use Rattle.trace_text.specs.declared.events.Created.TheVariants as created
use Rattle.trace_text.specs.declared.events.Ended.TheVariants as end
use Rattle.trace_text.specs.declared.events.Leaves.TheVariants as leaves
use Rattle.trace_text.specs.declared.events.QueueEnd.TheVariants.{Tail}
use Rattle.trace_text.specs.declared.events.Waits.TheVariants as waits
use Rattle.profile_image.specs.declared.script_items.Item.{Item}
use Rattle.profile_image.specs.declared.image.Image.{Image}
use Rattle.profile_image.specs.declared.image.Queuing.TheVariants as queuing
use Rattle.profile_image.specs.declared.values.Value.TheVariants.{Whole}
use Rattle.profile_image.specs.declared.values.Constraint.TheVariants.{Free, Whole}
use Rattle.profile_image.specs.declared.expressions.Expression.TheVariants.{Known}
use Rattle.profile_image.specs.declared.declarations.DeclarationKind.TheVariants as kind
use Rattle.profile_image.specs.declared.declarations.Initial.TheVariants as initial
use Rattle.profile_image.specs.declared.declarations.ExceptionChoice.TheVariants as exception_choice
use Rattle.profile_image.specs.declared.statements.StatementForm.TheVariants as form
use Rattle.profile_image.specs.declared.statements.Piece.TheVariants as piece
use Rattle.profile_machine.specs.Notation.{decl, expr, stmt, scope, task_unit, task, region, t, declaration, statement, handler, cell_run, scope_text, task_unit_text, policies, main_procedure}
use Rattle.profile_machine.specs.Run.{run_of}
use Rattle.profile_machine.specs.Computing.{computing}
use Rattle.std.specs.Fmt.{digits}
use Rattle.std.specs.Prelude.{Bool}
use Rattle.profile_machine.specs.WellFormed.{run_is_well_formed}
use Rattle.profile_machine.specs.Releases.{releases_ok}

-- Row 09b: its run stops before tick 22, so every greater bound gives the same trace.
abbrev pub row_09b_program : Image
row_09b_program =
    record {
      declarations =
          declaration (codes "a") (codes "main.a") (kind.Task (task_unit 0)) (scope 1) 0 1 Free None
          ∷ declaration (codes "b") (codes "main.b") (kind.Task (task_unit 1)) (scope 1) 1 1 Free None
          ∷ declaration (codes "x") (codes "main.b.x") (kind.Object (initial.Scalar (expr 0))) (scope 3) 0 1 (Whole (pos 1) (pos 2147483647)) None
          ∷ [];
      expressions =
          Known (Whole (pos 0))
          ∷ [];
      statements =
          statement (form.CallMain) 0 None
          ∷ statement (form.Null) 0 None
          ∷ statement (form.EndActivation) 0 (Some (stmt 1))
          ∷ statement (form.Null) 0 None
          ∷ statement (form.EndActivation) 0 (Some (stmt 3))
          ∷ statement (form.Declare (decl 2)) 0 (Some (stmt 4))
          ∷ statement (form.Handled (handler (exception_choice.Named exception.Tasking ∷ []) (stmt 9) ∷ []) (stmt 8)) 0 None
          ∷ statement (form.Null) 0 None
          ∷ statement (form.Activate 0) 0 (Some (stmt 7))
          ∷ statement (form.PutLine (piece.Text (codes "te") ∷ [])) 0 None
          ∷ statement (form.CreateTask (decl 1) 0) 0 (Some (stmt 6))
          ∷ statement (form.CreateTask (decl 0) 0) 0 (Some (stmt 10))
          ∷ [];
      scopes =
          scope_text None 0 [] false (Some (stmt 0))
          ∷ scope_text (Some (scope 0)) 2 [] true (Some (stmt 11))
          ∷ scope_text (Some (scope 1)) 0 [] false (Some (stmt 2))
          ∷ scope_text (Some (scope 1)) 1 (cell_run 0 1 (Whole (pos 1)) ∷ []) false (Some (stmt 5))
          ∷ [];
      subprograms = [];
      task_units =
          task_unit_text (scope 2) None None []
          ∷ task_unit_text (scope 3) None None []
          ∷ [];
      protected_units = [];
      entries = [];
      controlled_types = [];
      enumerations = [];
      policies = (policies [] queuing.Fifo None 30);
      environment = (scope 0);
      main = (main_procedure (codes "main") 15 (scope 1));
    }

abbrev pub row_09b_script : List (ℤ × Item)
row_09b_script = []

-- the lines of its run up to tick 22
unfoldable pub row_09b_lines : List (ℕ × Event)
row_09b_lines = run_of row_09b_program row_09b_script 22

unfoldable pub row_09b_trace : List (ℕ × Event)
row_09b_trace =
    (0, line.New (created.Task (task 0)) (codes "main") 15)
    ∷ (0, line.Ready (t 0) 15 Tail None)
    ∷ (0, line.Run (t 0))
    ∷ (4, line.New (created.Task (task 1)) (codes "main.a") 15)
    ∷ (6, line.New (created.Task (task 2)) (codes "main.b") 15)
    ∷ (8, line.Ready (t 1) 15 Tail None)
    ∷ (8, line.Ready (t 2) 15 Tail None)
    ∷ (8, line.Block (t 0) waits.Activation)
    ∷ (8, line.Run (t 1))
    ∷ (11, line.Done (task 1))
    ∷ (11, line.Run (t 2))
    ∷ (12, line.Raise (t 2) (codes "constraint_error"))
    ∷ (13, line.Done (task 2))
    ∷ (13, line.Ready (t 0) 15 Tail None)
    ∷ (13, line.Raise (t 0) (codes "tasking_error"))
    ∷ (13, line.Run (t 0))
    ∷ (18, line.Put (t 0) (codes "te"))
    ∷ (19, line.Leave (t 0) (region 1) leaves.End)
    ∷ (20, line.Left (t 0) (region 1))
    ∷ (21, line.Done (task 0))
    ∷ (21, line.End end.Completed)
    ∷ []

pub row_09b_runs : row_09b_lines ≡ row_09b_trace
unfolding row_09b_lines row_09b_trace digits computing
row_09b_runs = refl

-- whether every world of its run is well formed
unfoldable pub row_09b_worlds : Bool
row_09b_worlds = run_is_well_formed row_09b_program row_09b_script 22

pub row_09b_keeps : row_09b_worlds ≡ true
unfolding row_09b_worlds computing
row_09b_keeps = refl

-- whether each handler is released at its tick
unfoldable pub row_09b_handlers : Bool
row_09b_handlers = releases_ok row_09b_program row_09b_script 22

pub row_09b_releases : row_09b_handlers ≡ true
unfolding row_09b_handlers computing
row_09b_releases = refl
