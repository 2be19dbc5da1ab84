use Rattle.std.specs.Prelude.{◌≡◌, ℕ, ℤ, pos, negsuc, List, [], ◌∷◌, Some, None, true, false, codes, refl}
use Rattle.trace_text.specs.declared.events.Event.{Event}
use Rattle.trace_text.specs.declared.events.Event.TheVariants as line
use Rattle.trace_text.specs.declared.events.Created.TheVariants as created
use Rattle.trace_text.specs.declared.events.Ended.TheVariants as end
use Rattle.trace_text.specs.declared.events.QueueEnd.TheVariants.{Tail}
use Rattle.profile_image.specs.declared.script_items.Item.{Item}
use Rattle.profile_image.specs.declared.image.Image.{Image}
use Rattle.profile_image.specs.declared.image.Queuing.TheVariants as queuing
use Rattle.profile_image.specs.declared.values.Value.TheVariants.{Whole, Truth, Literal, Ticks, Task}
use Rattle.profile_image.specs.declared.values.Constraint.TheVariants.{Free, Whole, Truth, Literal, Ticks}
use Rattle.profile_image.specs.declared.expressions.Expression.TheVariants.{Known, Variable, Unary, Binary, CurrentTask}
use Rattle.profile_image.specs.declared.expressions.ObjectName.TheVariants.{Declared}
use Rattle.profile_image.specs.declared.expressions.UnaryOperator.TheVariants as unary
use Rattle.profile_image.specs.declared.expressions.BinaryOperator.TheVariants as binary
use Rattle.profile_image.specs.declared.declarations.DeclarationKind.TheVariants as kind
use Rattle.profile_image.specs.declared.declarations.Initial.TheVariants as initial
use Rattle.profile_image.specs.declared.statements.StatementForm.TheVariants as form
use Rattle.profile_image.specs.declared.statements.Piece.TheVariants as piece
use Rattle.profile_machine.specs.Notation.{decl, expr, stmt, scope, task, t, declaration, variable, statement, cell_run, scope_text, enumeration_text, policies, main_procedure}
use Rattle.profile_machine.specs.Run.{run_of}
use Rattle.profile_machine.specs.Computing.{computing}
use Rattle.std.specs.Fmt.{digits}
use Rattle.std.specs.Prelude.{Bool}
use Rattle.profile_machine.specs.WellFormed.{run_is_well_formed}
use Rattle.profile_machine.specs.Releases.{releases_ok}

-- Row values.comparisons: its run stops before tick 59, so every greater bound gives the same trace.
abbrev pub row_values_comparisons_program : Image
row_values_comparisons_program =
    record {
      declarations =
          declaration (codes "a") (codes "main.a") (kind.Object (initial.Scalar (expr 60))) (scope 1) 0 1 (Whole (negsuc 2147483647) (pos 2147483647)) None
          ∷ declaration (codes "d") (codes "main.d") (kind.Object (initial.Scalar (expr 61))) (scope 1) 1 1 (Ticks (negsuc 4611686018427387903) (pos 4611686018427387903)) None
          ∷ declaration (codes "c") (codes "main.c") (kind.Object (initial.Scalar (expr 62))) (scope 1) 2 1 (Literal 0 1) None
          ∷ declaration (codes "t") (codes "main.t") (kind.Object (initial.Scalar (expr 63))) (scope 1) 3 1 (Truth false true) None
          ∷ declaration (codes "i") (codes "main.i") (kind.Object (initial.Scalar (expr 64))) (scope 1) 4 1 Free None
          ∷ [];
      expressions =
          Variable (variable (Declared (decl 1)) None)
          ∷ Unary unary.Minus (expr 0)
          ∷ Unary unary.Abs (expr 1)
          ∷ Variable (variable (Declared (decl 1)) None)
          ∷ Binary binary.Equal (expr 2) (expr 3)
          ∷ Variable (variable (Declared (decl 1)) None)
          ∷ Known (Whole (pos 2))
          ∷ Binary binary.Times (expr 5) (expr 6)
          ∷ Known (Whole (pos 2))
          ∷ Variable (variable (Declared (decl 1)) None)
          ∷ Binary binary.Times (expr 8) (expr 9)
          ∷ Binary binary.LessOrEqual (expr 7) (expr 10)
          ∷ Variable (variable (Declared (decl 1)) None)
          ∷ Known (Whole (pos 2))
          ∷ Binary binary.Divide (expr 12) (expr 13)
          ∷ Variable (variable (Declared (decl 1)) None)
          ∷ Variable (variable (Declared (decl 1)) None)
          ∷ Binary binary.Minus (expr 15) (expr 16)
          ∷ Binary binary.Less (expr 14) (expr 17)
          ∷ Variable (variable (Declared (decl 3)) None)
          ∷ Variable (variable (Declared (decl 0)) None)
          ∷ Known (Whole (pos 2))
          ∷ Binary binary.Less (expr 20) (expr 21)
          ∷ Binary binary.Equal (expr 19) (expr 22)
          ∷ Variable (variable (Declared (decl 3)) None)
          ∷ Known (Truth false)
          ∷ Binary binary.Greater (expr 24) (expr 25)
          ∷ Variable (variable (Declared (decl 4)) None)
          ∷ Known (Task None)
          ∷ Binary binary.Equal (expr 27) (expr 28)
          ∷ Variable (variable (Declared (decl 0)) None)
          ∷ Known (Whole (pos 2))
          ∷ Binary binary.Equal (expr 30) (expr 31)
          ∷ Variable (variable (Declared (decl 0)) None)
          ∷ Known (Whole (pos 3))
          ∷ Binary binary.Equal (expr 33) (expr 34)
          ∷ Binary binary.OrElse (expr 32) (expr 35)
          ∷ Variable (variable (Declared (decl 1)) None)
          ∷ Unary unary.Minus (expr 37)
          ∷ Variable (variable (Declared (decl 1)) None)
          ∷ Binary binary.Less (expr 38) (expr 39)
          ∷ Variable (variable (Declared (decl 0)) None)
          ∷ Known (Whole (pos 2))
          ∷ Binary binary.NotEqual (expr 41) (expr 42)
          ∷ Variable (variable (Declared (decl 0)) None)
          ∷ Known (Whole (pos 2))
          ∷ Binary binary.LessOrEqual (expr 44) (expr 45)
          ∷ Variable (variable (Declared (decl 0)) None)
          ∷ Known (Whole (pos 3))
          ∷ Binary binary.GreaterOrEqual (expr 47) (expr 48)
          ∷ Variable (variable (Declared (decl 0)) None)
          ∷ Unary unary.Plus (expr 50)
          ∷ Known (Whole (pos 1))
          ∷ Binary binary.Greater (expr 51) (expr 52)
          ∷ Variable (variable (Declared (decl 2)) None)
          ∷ Known (Literal 0)
          ∷ Binary binary.Greater (expr 54) (expr 55)
          ∷ Variable (variable (Declared (decl 2)) None)
          ∷ Known (Literal 0)
          ∷ Binary binary.Equal (expr 57) (expr 58)
          ∷ Known (Whole (pos 2))
          ∷ Known (Ticks (pos 2))
          ∷ Known (Literal 1)
          ∷ Known (Truth true)
          ∷ CurrentTask
          ∷ [];
      statements =
          statement (form.CallMain) 0 None
          ∷ statement (form.PutLine (piece.Truth (expr 4) ∷ piece.Truth (expr 11) ∷ piece.Truth (expr 18) ∷ [])) 11 None
          ∷ statement (form.PutLine (piece.Truth (expr 23) ∷ piece.Truth (expr 26) ∷ piece.Truth (expr 29) ∷ piece.Truth (expr 36) ∷ piece.Truth (expr 40) ∷ [])) 13 (Some (stmt 1))
          ∷ statement (form.PutLine (piece.Truth (expr 43) ∷ piece.Truth (expr 46) ∷ piece.Truth (expr 49) ∷ piece.Truth (expr 53) ∷ piece.Truth (expr 56) ∷ piece.Truth (expr 59) ∷ [])) 12 (Some (stmt 2))
          ∷ statement (form.Declare (decl 4)) 1 (Some (stmt 3))
          ∷ statement (form.Declare (decl 3)) 0 (Some (stmt 4))
          ∷ statement (form.Declare (decl 2)) 0 (Some (stmt 5))
          ∷ statement (form.Declare (decl 1)) 0 (Some (stmt 6))
          ∷ statement (form.Declare (decl 0)) 0 (Some (stmt 7))
          ∷ [];
      scopes =
          scope_text None 0 [] false (Some (stmt 0))
          ∷ scope_text (Some (scope 0)) 5 (cell_run 1 1 (Ticks (pos 0)) ∷ cell_run 2 1 (Literal 0) ∷ cell_run 3 1 (Truth false) ∷ cell_run 4 1 (Task None) ∷ []) false (Some (stmt 8))
          ∷ [];
      subprograms = [];
      task_units = [];
      protected_units = [];
      entries = [];
      controlled_types = [];
      enumerations =
          enumeration_text ((codes "RED") ∷ (codes "GREEN") ∷ [])
          ∷ [];
      policies = (policies [] queuing.Fifo None 30);
      environment = (scope 0);
      main = (main_procedure (codes "main") 15 (scope 1));
    }

abbrev pub row_values_comparisons_script : List (ℤ × Item)
row_values_comparisons_script = []

-- the lines of its run up to tick 59
unfoldable pub row_values_comparisons_lines : List (ℕ × Event)
row_values_comparisons_lines = run_of row_values_comparisons_program row_values_comparisons_script 59

unfoldable pub row_values_comparisons_trace : List (ℕ × Event)
row_values_comparisons_trace =
    (0, line.New (created.Task (task 0)) (codes "main") 15)
    ∷ (0, line.Ready (t 0) 15 Tail None)
    ∷ (0, line.Run (t 0))
    ∷ (24, line.Put (t 0) (codes "FALSETRUEFALSETRUETRUEFALSE"))
    ∷ (41, line.Put (t 0) (codes "FALSETRUEFALSETRUETRUE"))
    ∷ (56, line.Put (t 0) (codes "TRUETRUEFALSE"))
    ∷ (58, line.Done (task 0))
    ∷ (58, line.End end.Completed)
    ∷ []

pub row_values_comparisons_runs : row_values_comparisons_lines ≡ row_values_comparisons_trace
unfolding row_values_comparisons_lines row_values_comparisons_trace digits computing
row_values_comparisons_runs = refl

-- whether every world of its run is well formed
unfoldable pub row_values_comparisons_worlds : Bool
row_values_comparisons_worlds = run_is_well_formed row_values_comparisons_program row_values_comparisons_script 59

pub row_values_comparisons_keeps : row_values_comparisons_worlds ≡ true
unfolding row_values_comparisons_worlds computing
row_values_comparisons_keeps = refl

-- whether each handler is released at its tick
unfoldable pub row_values_comparisons_handlers : Bool
row_values_comparisons_handlers = releases_ok row_values_comparisons_program row_values_comparisons_script 59

pub row_values_comparisons_releases : row_values_comparisons_handlers ≡ true
unfolding row_values_comparisons_handlers computing
row_values_comparisons_releases = refl
