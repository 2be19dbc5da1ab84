use Rattle.std.specs.Prelude.{◌≡◌, ℕ, ℤ, pos, negsuc, List, [], ◌∷◌, Some, None, true, false, codes, refl}
use Rattle.ann_base.specs.declared.exceptions.Raised.TheVariants as exception
use Rattle.trace_text.specs.declared.events.Event.{Event}
use Rattle.trace_text.specs.declared.events.Event.TheVariants as line
use Rattle.trace_text.specs.declared.events.Created.TheVariants as created
use Rattle.trace_text.specs.declared.events.Ended.TheVariants as end
use Rattle.trace_text.specs.declared.events.QueueEnd.TheVariants.{Tail}
use Rattle.profile_image.specs.declared.script_items.Item.{Item}
use Rattle.profile_image.specs.declared.image.Image.{Image}
use Rattle.profile_image.specs.declared.image.Queuing.TheVariants as queuing
use Rattle.profile_image.specs.declared.values.Value.TheVariants.{Whole, Truth, Literal, Ticks}
use Rattle.profile_image.specs.declared.values.Constraint.TheVariants.{Free, Whole, Truth, Literal, Ticks}
use Rattle.profile_image.specs.declared.expressions.Expression.TheVariants.{Known, Variable, Binary, Span}
use Rattle.profile_image.specs.declared.expressions.ObjectName.TheVariants.{Declared}
use Rattle.profile_image.specs.declared.expressions.BinaryOperator.TheVariants as binary
use Rattle.profile_image.specs.declared.declarations.DeclarationKind.TheVariants as kind
use Rattle.profile_image.specs.declared.declarations.Initial.TheVariants as initial
use Rattle.profile_image.specs.declared.declarations.ExceptionChoice.TheVariants as exception_choice
use Rattle.profile_image.specs.declared.statements.StatementForm.TheVariants as form
use Rattle.profile_image.specs.declared.statements.Piece.TheVariants as piece
use Rattle.profile_machine.specs.Notation.{decl, expr, stmt, scope, task, t, declaration, variable, statement, handler, cell_run, scope_text, enumeration_text, policies, main_procedure}
use Rattle.profile_machine.specs.Run.{run_of}
use Rattle.profile_machine.specs.Computing.{computing}
use Rattle.std.specs.Fmt.{digits}
use Rattle.std.specs.Prelude.{Bool}
use Rattle.profile_machine.specs.WellFormed.{run_is_well_formed}
use Rattle.profile_machine.specs.Releases.{releases_ok}

-- Row values.edges: its run stops before tick 40, so every greater bound gives the same trace.
abbrev pub row_values_edges_program : Image
row_values_edges_program =
    record {
      declarations =
          declaration (codes "n") (codes "main.n") (kind.Object initial.Default) (scope 1) 0 1 (Truth false false) None
          ∷ declaration (codes "c") (codes "main.c") (kind.Object (initial.Scalar (expr 20))) (scope 1) 1 1 (Literal 0 1) None
          ∷ declaration (codes "z") (codes "main.z") (kind.Object (initial.Scalar (expr 21))) (scope 1) 2 1 (Whole (negsuc 2147483647) (pos 2147483647)) None
          ∷ declaration (codes "t") (codes "main.t") (kind.Object (initial.Scalar (expr 22))) (scope 1) 3 1 Free None
          ∷ declaration (codes "b") (codes "main.b") (kind.Object (initial.Scalar (expr 23))) (scope 1) 4 1 (Truth false true) None
          ∷ [];
      expressions =
          Variable (variable (Declared (decl 3)) None)
          ∷ Known (Whole (pos 1))
          ∷ Span (pos 1) (expr 1)
          ∷ Binary binary.Minus (expr 0) (expr 2)
          ∷ Known (Truth true)
          ∷ Known (Whole (pos 1))
          ∷ Variable (variable (Declared (decl 2)) None)
          ∷ Binary binary.Mod (expr 5) (expr 6)
          ∷ Known (Whole (pos 1))
          ∷ Variable (variable (Declared (decl 2)) None)
          ∷ Binary binary.Rem (expr 8) (expr 9)
          ∷ Variable (variable (Declared (decl 1)) None)
          ∷ Known (Literal 1)
          ∷ Binary binary.Less (expr 11) (expr 12)
          ∷ Variable (variable (Declared (decl 0)) None)
          ∷ Variable (variable (Declared (decl 4)) None)
          ∷ Binary binary.And (expr 14) (expr 15)
          ∷ Variable (variable (Declared (decl 4)) None)
          ∷ Variable (variable (Declared (decl 0)) None)
          ∷ Binary binary.And (expr 17) (expr 18)
          ∷ Known (Literal 1)
          ∷ Known (Whole (pos 0))
          ∷ Known (Ticks (pos 0))
          ∷ Known (Truth true)
          ∷ [];
      statements =
          statement (form.CallMain) 0 None
          ∷ statement (form.Handled (handler (exception_choice.Named exception.Constraint ∷ []) (stmt 16) ∷ []) (stmt 15)) 0 None
          ∷ statement (form.Assign (variable (Declared (decl 3)) None) (expr 3)) 2 None
          ∷ statement (form.Block (scope 4)) 0 (Some (stmt 2))
          ∷ statement (form.Handled (handler (exception_choice.Named exception.Constraint ∷ []) (stmt 6) ∷ []) (stmt 5)) 0 None
          ∷ statement (form.Assign (variable (Declared (decl 0)) None) (expr 4)) 0 None
          ∷ statement (form.Null) 0 None
          ∷ statement (form.Block (scope 3)) 0 (Some (stmt 3))
          ∷ statement (form.Handled (handler (exception_choice.Named exception.Constraint ∷ []) (stmt 10) ∷ []) (stmt 9)) 0 None
          ∷ statement (form.Assign (variable (Declared (decl 2)) None) (expr 7)) 1 None
          ∷ statement (form.Null) 0 None
          ∷ statement (form.Block (scope 2)) 0 (Some (stmt 7))
          ∷ statement (form.Handled (handler (exception_choice.Named exception.Constraint ∷ []) (stmt 14) ∷ []) (stmt 13)) 0 None
          ∷ statement (form.Assign (variable (Declared (decl 2)) None) (expr 10)) 1 None
          ∷ statement (form.Null) 0 None
          ∷ statement (form.PutLine (piece.Truth (expr 13) ∷ piece.Truth (expr 16) ∷ piece.Truth (expr 19) ∷ [])) 5 (Some (stmt 11))
          ∷ statement (form.Null) 0 None
          ∷ statement (form.Declare (decl 4)) 0 (Some (stmt 1))
          ∷ statement (form.Declare (decl 3)) 0 (Some (stmt 17))
          ∷ statement (form.Declare (decl 2)) 0 (Some (stmt 18))
          ∷ statement (form.Declare (decl 1)) 0 (Some (stmt 19))
          ∷ statement (form.Declare (decl 0)) 0 (Some (stmt 20))
          ∷ [];
      scopes =
          scope_text None 0 [] false (Some (stmt 0))
          ∷ scope_text (Some (scope 0)) 5 (cell_run 0 1 (Truth false) ∷ cell_run 1 1 (Literal 0) ∷ cell_run 3 1 (Ticks (pos 0)) ∷ cell_run 4 1 (Truth false) ∷ []) false (Some (stmt 21))
          ∷ scope_text (Some (scope 1)) 0 [] false (Some (stmt 12))
          ∷ scope_text (Some (scope 1)) 0 [] false (Some (stmt 8))
          ∷ scope_text (Some (scope 1)) 0 [] false (Some (stmt 4))
          ∷ [];
      subprograms = [];
      task_units = [];
      protected_units = [];
      entries = [];
      controlled_types = [];
      enumerations =
          enumeration_text ((codes "RED") ∷ (codes "GREEN") ∷ [])
          ∷ [];
      policies = (policies [] queuing.Fifo None 30);
      environment = (scope 0);
      main = (main_procedure (codes "main") 15 (scope 1));
    }

abbrev pub row_values_edges_script : List (ℤ × Item)
row_values_edges_script = []

-- the lines of its run up to tick 40
unfoldable pub row_values_edges_lines : List (ℕ × Event)
row_values_edges_lines = run_of row_values_edges_program row_values_edges_script 40

unfoldable pub row_values_edges_trace : List (ℕ × Event)
row_values_edges_trace =
    (0, line.New (created.Task (task 0)) (codes "main") 15)
    ∷ (0, line.Ready (t 0) 15 Tail None)
    ∷ (0, line.Run (t 0))
    ∷ (16, line.Put (t 0) (codes "FALSEFALSEFALSE"))
    ∷ (19, line.Raise (t 0) (codes "constraint_error"))
    ∷ (25, line.Raise (t 0) (codes "constraint_error"))
    ∷ (30, line.Raise (t 0) (codes "constraint_error"))
    ∷ (39, line.Done (task 0))
    ∷ (39, line.End end.Completed)
    ∷ []

pub row_values_edges_runs : row_values_edges_lines ≡ row_values_edges_trace
unfolding row_values_edges_lines row_values_edges_trace digits computing
row_values_edges_runs = refl

-- whether every world of its run is well formed
unfoldable pub row_values_edges_worlds : Bool
row_values_edges_worlds = run_is_well_formed row_values_edges_program row_values_edges_script 40

pub row_values_edges_keeps : row_values_edges_worlds ≡ true
unfolding row_values_edges_worlds computing
row_values_edges_keeps = refl

-- whether each handler is released at its tick
unfoldable pub row_values_edges_handlers : Bool
row_values_edges_handlers = releases_ok row_values_edges_program row_values_edges_script 40

pub row_values_edges_releases : row_values_edges_handlers ≡ true
unfolding row_values_edges_handlers computing
row_values_edges_releases = refl
