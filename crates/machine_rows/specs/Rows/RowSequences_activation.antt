use Rattle.std.specs.Prelude.{◌≡◌, ℕ, ℤ, pos, List, [], ◌∷◌, Some, None, true, false, codes, refl}
use Rattle.ann_base.specs.declared.exceptions.Raised.TheVariants as exception
use Rattle.trace_text.specs.declared.events.Event.{Event}
use Rattle.trace_text.specs.declared.events.Event.TheVariants as line
use Rattle.trace_text.specs.declared.events.Created.TheVariants as created
use Rattle.trace_text.specs.declared.events.Ended.TheVariants as end
use Rattle.trace_text.specs.declared.events.Leaves.TheVariants as leaves
use Rattle.trace_text.specs.declared.events.QueueEnd.TheVariants.{Tail}
use Rattle.trace_text.specs.declared.events.Waits.TheVariants as waits
use Rattle.profile_image.specs.declared.script_items.Item.{Item}
use Rattle.profile_image.specs.declared.image.Image.{Image}
use Rattle.profile_image.specs.declared.image.Queuing.TheVariants as queuing
use Rattle.profile_image.specs.declared.values.Value.TheVariants.{Whole}
use Rattle.profile_image.specs.declared.values.Constraint.TheVariants.{Free, Whole}
use Rattle.profile_image.specs.declared.expressions.Expression.TheVariants.{Known}
use Rattle.profile_image.specs.declared.declarations.DeclarationKind.TheVariants as kind
use Rattle.profile_image.specs.declared.declarations.Initial.TheVariants as initial
use Rattle.profile_image.specs.declared.declarations.ExceptionChoice.TheVariants as exception_choice
use Rattle.profile_image.specs.declared.statements.StatementForm.TheVariants as form
use Rattle.profile_image.specs.declared.statements.Piece.TheVariants as piece
use Rattle.profile_machine.specs.Notation.{decl, expr, stmt, scope, task_unit, task, region, t, declaration, statement, handler, cell_run, scope_text, subprogram_text, task_unit_text, policies, main_procedure}
use Rattle.profile_machine.specs.Run.{run_of}
use Rattle.profile_machine.specs.Computing.{computing}
use Rattle.std.specs.Fmt.{digits}
use Rattle.std.specs.Prelude.{Bool}
use Rattle.profile_machine.specs.WellFormed.{run_is_well_formed}
use Rattle.profile_machine.specs.Releases.{releases_ok}

-- Row sequences.activation: its run stops before tick 9, so every greater bound gives the same trace.
abbrev pub row_sequences_activation_program : Image
row_sequences_activation_program =
    record {
      declarations =
          declaration (codes "t") (codes "a.t") (kind.Task (task_unit 0)) (scope 0) 0 1 Free None
          ∷ declaration (codes "x") (codes "a.t.x") (kind.Object (initial.Scalar (expr 0))) (scope 1) 0 1 (Whole (pos 1) (pos 2147483647)) None
          ∷ [];
      expressions =
          Known (Whole (pos 0))
          ∷ [];
      statements =
          statement (form.CallMain) 0 None
          ∷ statement (form.Null) 0 None
          ∷ statement (form.Null) 0 None
          ∷ statement (form.Handled (handler (exception_choice.Named exception.Tasking ∷ []) (stmt 5) ∷ []) (stmt 4)) 0 (Some (stmt 0))
          ∷ statement (form.Null) 0 None
          ∷ statement (form.PutLine (piece.Text (codes "b") ∷ [])) 0 (Some (stmt 0))
          ∷ statement (form.Null) 0 None
          ∷ statement (form.EndActivation) 0 (Some (stmt 6))
          ∷ statement (form.Declare (decl 1)) 0 (Some (stmt 7))
          ∷ statement (form.Activate 1) 0 (Some (stmt 3))
          ∷ statement (form.CreateTask (decl 0) 1) 0 (Some (stmt 9))
          ∷ [];
      scopes =
          scope_text None 1 [] true (Some (stmt 10))
          ∷ scope_text (Some (scope 0)) 1 (cell_run 0 1 (Whole (pos 1)) ∷ []) false (Some (stmt 8))
          ∷ scope_text (Some (scope 0)) 0 [] false (Some (stmt 2))
          ∷ scope_text (Some (scope 0)) 0 [] false (Some (stmt 1))
          ∷ [];
      subprograms =
          subprogram_text (codes "p") (scope 2) [] None None
          ∷ [];
      task_units =
          task_unit_text (scope 1) None None []
          ∷ [];
      protected_units = [];
      entries = [];
      controlled_types = [];
      enumerations = [];
      policies = (policies [] queuing.Fifo None 30);
      environment = (scope 0);
      main = (main_procedure (codes "main") 15 (scope 3));
    }

abbrev pub row_sequences_activation_script : List (ℤ × Item)
row_sequences_activation_script = []

-- the lines of its run up to tick 9
unfoldable pub row_sequences_activation_lines : List (ℕ × Event)
row_sequences_activation_lines = run_of row_sequences_activation_program row_sequences_activation_script 9

unfoldable pub row_sequences_activation_trace : List (ℕ × Event)
row_sequences_activation_trace =
    (0, line.New (created.Task (task 0)) (codes "main") 15)
    ∷ (0, line.Ready (t 0) 15 Tail None)
    ∷ (0, line.Run (t 0))
    ∷ (2, line.New (created.Task (task 1)) (codes "a.t") 15)
    ∷ (4, line.Ready (t 1) 15 Tail None)
    ∷ (4, line.Block (t 0) waits.Activation)
    ∷ (4, line.Run (t 1))
    ∷ (5, line.Raise (t 1) (codes "constraint_error"))
    ∷ (6, line.Done (task 1))
    ∷ (6, line.Ready (t 0) 15 Tail None)
    ∷ (6, line.Raise (t 0) (codes "tasking_error"))
    ∷ (6, line.Run (t 0))
    ∷ (7, line.Leave (t 0) (region 1) leaves.Exception)
    ∷ (8, line.Left (t 0) (region 1))
    ∷ (8, line.Done (task 0))
    ∷ (8, line.End (end.Exception (codes "tasking_error")))
    ∷ []

pub row_sequences_activation_runs : row_sequences_activation_lines ≡ row_sequences_activation_trace
unfolding row_sequences_activation_lines row_sequences_activation_trace digits computing
row_sequences_activation_runs = refl

-- whether every world of its run is well formed
unfoldable pub row_sequences_activation_worlds : Bool
row_sequences_activation_worlds = run_is_well_formed row_sequences_activation_program row_sequences_activation_script 9

pub row_sequences_activation_keeps : row_sequences_activation_worlds ≡ true
unfolding row_sequences_activation_worlds computing
row_sequences_activation_keeps = refl

-- whether each handler is released at its tick
unfoldable pub row_sequences_activation_handlers : Bool
row_sequences_activation_handlers = releases_ok row_sequences_activation_program row_sequences_activation_script 9

pub row_sequences_activation_releases : row_sequences_activation_handlers ≡ true
unfolding row_sequences_activation_handlers computing
row_sequences_activation_releases = refl
