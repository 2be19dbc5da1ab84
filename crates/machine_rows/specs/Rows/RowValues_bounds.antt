use Rattle.std.specs.Prelude.{◌≡◌, ℕ, ℤ, pos, negsuc, List, [], ◌∷◌, Some, None, true, false, codes, refl}
use Rattle.ann_base.specs.declared.exceptions.Raised.TheVariants as exception
use Rattle.trace_text.specs.declared.events.Event.{Event}
use Rattle.trace_text.specs.declared.events.Event.TheVariants as line
use Rattle.trace_text.specs.declared.events.Created.TheVariants as created
use Rattle.trace_text.specs.declared.events.Ended.TheVariants as end
use Rattle.trace_text.specs.declared.events.QueueEnd.TheVariants.{Tail}
use Rattle.profile_image.specs.declared.script_items.Item.{Item}
use Rattle.profile_image.specs.declared.image.Image.{Image}
use Rattle.profile_image.specs.declared.image.Queuing.TheVariants as queuing
use Rattle.profile_image.specs.declared.values.Value.TheVariants.{Whole, Truth, Ticks}
use Rattle.profile_image.specs.declared.values.Constraint.TheVariants.{Whole, Truth, Ticks}
use Rattle.profile_image.specs.declared.expressions.Expression.TheVariants.{Known, Variable, Binary}
use Rattle.profile_image.specs.declared.expressions.ObjectName.TheVariants.{Declared}
use Rattle.profile_image.specs.declared.expressions.BinaryOperator.TheVariants as binary
use Rattle.profile_image.specs.declared.declarations.DeclarationKind.TheVariants as kind
use Rattle.profile_image.specs.declared.declarations.Initial.TheVariants as initial
use Rattle.profile_image.specs.declared.declarations.ExceptionChoice.TheVariants as exception_choice
use Rattle.profile_image.specs.declared.statements.StatementForm.TheVariants as form
use Rattle.profile_image.specs.declared.statements.Choice.TheVariants as choice
use Rattle.profile_image.specs.declared.statements.Piece.TheVariants as piece
use Rattle.profile_machine.specs.Notation.{decl, expr, stmt, scope, task, t, declaration, variable, statement, alternative, handler, cell_run, scope_text, policies, main_procedure}
use Rattle.profile_machine.specs.Run.{run_of}
use Rattle.profile_machine.specs.Computing.{computing}
use Rattle.std.specs.Fmt.{digits}
use Rattle.std.specs.Prelude.{Bool}
use Rattle.profile_machine.specs.WellFormed.{run_is_well_formed}
use Rattle.profile_machine.specs.Releases.{releases_ok}

-- Row values.bounds: its run stops before tick 21, so every greater bound gives the same trace.
abbrev pub row_values_bounds_program : Image
row_values_bounds_program =
    record {
      declarations =
          declaration (codes "a") (codes "main.a") (kind.Object initial.Default) (scope 1) 0 2 (Truth false true) (Some (Whole (pos 1) (pos 2)))
          ∷ declaration (codes "n") (codes "main.n") (kind.Object (initial.Scalar (expr 18))) (scope 1) 2 1 (Whole (negsuc 2147483647) (pos 2147483647)) None
          ∷ declaration (codes "b") (codes "main.b") (kind.Object (initial.Scalar (expr 19))) (scope 1) 3 1 (Truth false true) None
          ∷ declaration (codes "d") (codes "main.d") (kind.Object (initial.Scalar (expr 20))) (scope 1) 4 1 (Ticks (negsuc 4611686018427387903) (pos 4611686018427387903)) None
          ∷ [];
      expressions =
          Variable (variable (Declared (decl 3)) None)
          ∷ Known (Ticks (pos 1))
          ∷ Binary binary.Minus (expr 0) (expr 1)
          ∷ Variable (variable (Declared (decl 3)) None)
          ∷ Known (Ticks (pos 0))
          ∷ Binary binary.Plus (expr 3) (expr 4)
          ∷ Variable (variable (Declared (decl 2)) None)
          ∷ Known (Whole (pos 2))
          ∷ Variable (variable (Declared (decl 0)) (Some (expr 7)))
          ∷ Variable (variable (Declared (decl 2)) None)
          ∷ Binary binary.Or (expr 8) (expr 9)
          ∷ Variable (variable (Declared (decl 1)) None)
          ∷ Known (Whole (pos 2))
          ∷ Variable (variable (Declared (decl 2)) None)
          ∷ Variable (variable (Declared (decl 2)) None)
          ∷ Binary binary.Less (expr 13) (expr 14)
          ∷ Variable (variable (Declared (decl 1)) None)
          ∷ Known (Truth true)
          ∷ Known (Whole (pos 3))
          ∷ Known (Truth false)
          ∷ Known (Ticks (negsuc 4611686018427387903))
          ∷ [];
      statements =
          statement (form.CallMain) 0 None
          ∷ statement (form.Handled (handler (exception_choice.Named exception.Constraint ∷ []) (stmt 11) ∷ []) (stmt 10)) 0 None
          ∷ statement (form.Assign (variable (Declared (decl 3)) None) (expr 2)) 1 None
          ∷ statement (form.Assign (variable (Declared (decl 3)) None) (expr 5)) 1 (Some (stmt 2))
          ∷ statement (form.PutLine (piece.Text (codes "less") ∷ [])) 0 (Some (stmt 3))
          ∷ statement (form.If (expr 6) (stmt 4) (Some (stmt 3))) 0 (Some (stmt 3))
          ∷ statement (form.PutLine (piece.Text (codes "low") ∷ [])) 0 (Some (stmt 5))
          ∷ statement (form.PutLine (piece.Text (codes "high") ∷ [])) 0 (Some (stmt 5))
          ∷ statement (form.Assign (variable (Declared (decl 2)) None) (expr 10)) 1 (Some (stmt 5))
          ∷ statement (form.Case (expr 11) (alternative (choice.Range (Whole (pos 1)) (Whole (pos 2)) ∷ []) (stmt 6) ∷ alternative (choice.Range (Whole (pos 4)) (Whole (pos 5)) ∷ []) (stmt 7) ∷ alternative (choice.Others ∷ []) (stmt 8) ∷ [])) 0 (Some (stmt 5))
          ∷ statement (form.Assign (variable (Declared (decl 0)) (Some (expr 12))) (expr 15)) 1 (Some (stmt 9))
          ∷ statement (form.Assign (variable (Declared (decl 0)) (Some (expr 16))) (expr 17)) 0 None
          ∷ statement (form.Declare (decl 3)) 0 (Some (stmt 1))
          ∷ statement (form.Declare (decl 2)) 0 (Some (stmt 12))
          ∷ statement (form.Declare (decl 1)) 0 (Some (stmt 13))
          ∷ statement (form.Declare (decl 0)) 0 (Some (stmt 14))
          ∷ [];
      scopes =
          scope_text None 0 [] false (Some (stmt 0))
          ∷ scope_text (Some (scope 0)) 5 (cell_run 0 2 (Truth false) ∷ cell_run 3 1 (Truth false) ∷ cell_run 4 1 (Ticks (pos 0)) ∷ []) false (Some (stmt 15))
          ∷ [];
      subprograms = [];
      task_units = [];
      protected_units = [];
      entries = [];
      controlled_types = [];
      enumerations = [];
      policies = (policies [] queuing.Fifo None 30);
      environment = (scope 0);
      main = (main_procedure (codes "main") 15 (scope 1));
    }

abbrev pub row_values_bounds_script : List (ℤ × Item)
row_values_bounds_script = []

-- the lines of its run up to tick 21
unfoldable pub row_values_bounds_lines : List (ℕ × Event)
row_values_bounds_lines = run_of row_values_bounds_program row_values_bounds_script 21

unfoldable pub row_values_bounds_trace : List (ℕ × Event)
row_values_bounds_trace =
    (0, line.New (created.Task (task 0)) (codes "main") 15)
    ∷ (0, line.Ready (t 0) 15 Tail None)
    ∷ (0, line.Run (t 0))
    ∷ (16, line.Raise (t 0) (codes "constraint_error"))
    ∷ (18, line.Raise (t 0) (codes "constraint_error"))
    ∷ (20, line.Done (task 0))
    ∷ (20, line.End (end.Exception (codes "constraint_error")))
    ∷ []

pub row_values_bounds_runs : row_values_bounds_lines ≡ row_values_bounds_trace
unfolding row_values_bounds_lines row_values_bounds_trace digits computing
row_values_bounds_runs = refl

-- whether every world of its run is well formed
unfoldable pub row_values_bounds_worlds : Bool
row_values_bounds_worlds = run_is_well_formed row_values_bounds_program row_values_bounds_script 21

pub row_values_bounds_keeps : row_values_bounds_worlds ≡ true
unfolding row_values_bounds_worlds computing
row_values_bounds_keeps = refl

-- whether each handler is released at its tick
unfoldable pub row_values_bounds_handlers : Bool
row_values_bounds_handlers = releases_ok row_values_bounds_program row_values_bounds_script 21

pub row_values_bounds_releases : row_values_bounds_handlers ≡ true
unfolding row_values_bounds_handlers computing
row_values_bounds_releases = refl
