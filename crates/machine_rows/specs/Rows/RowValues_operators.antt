use Rattle.std.specs.Prelude.{◌≡◌, ℕ, ℤ, pos, negsuc, List, [], ◌∷◌, Some, None, true, false, codes, refl}
use Rattle.trace_text.specs.declared.events.Event.{Event}
use Rattle.trace_text.specs.declared.events.Event.TheVariants as line
use Rattle.trace_text.specs.declared.events.Created.TheVariants as created
use Rattle.trace_text.specs.declared.events.Ended.TheVariants as end
use Rattle.trace_text.specs.declared.events.QueueEnd.TheVariants.{Tail}
use Rattle.profile_image.specs.declared.script_items.Item.{Item}
use Rattle.profile_image.specs.declared.image.Image.{Image}
use Rattle.profile_image.specs.declared.image.Queuing.TheVariants as queuing
use Rattle.profile_image.specs.declared.values.Value.TheVariants.{Whole, Truth}
use Rattle.profile_image.specs.declared.values.Constraint.TheVariants.{Whole, Truth}
use Rattle.profile_image.specs.declared.expressions.Expression.TheVariants.{Known, Variable, Unary, Binary}
use Rattle.profile_image.specs.declared.expressions.ObjectName.TheVariants.{Declared}
use Rattle.profile_image.specs.declared.expressions.UnaryOperator.TheVariants as unary
use Rattle.profile_image.specs.declared.expressions.BinaryOperator.TheVariants as binary
use Rattle.profile_image.specs.declared.declarations.DeclarationKind.TheVariants as kind
use Rattle.profile_image.specs.declared.declarations.Initial.TheVariants as initial
use Rattle.profile_image.specs.declared.statements.StatementForm.TheVariants as form
use Rattle.profile_image.specs.declared.statements.Piece.TheVariants as piece
use Rattle.profile_machine.specs.Notation.{decl, expr, stmt, scope, task, t, declaration, variable, statement, cell_run, scope_text, policies, main_procedure}
use Rattle.profile_machine.specs.Run.{run_of}
use Rattle.profile_machine.specs.Computing.{computing}
use Rattle.std.specs.Fmt.{digits}
use Rattle.std.specs.Prelude.{Bool}
use Rattle.profile_machine.specs.WellFormed.{run_is_well_formed}
use Rattle.profile_machine.specs.Releases.{releases_ok}

-- Row values.operators: its run stops before tick 56, so every greater bound gives the same trace.
abbrev pub row_values_operators_program : Image
row_values_operators_program =
    record {
      declarations =
          declaration (codes "t") (codes "main.t") (kind.Object (initial.Scalar (expr 52))) (scope 1) 0 1 (Truth false true) None
          ∷ declaration (codes "f") (codes "main.f") (kind.Object initial.Default) (scope 1) 1 1 (Truth false true) None
          ∷ declaration (codes "a") (codes "main.a") (kind.Object (initial.Scalar (expr 53))) (scope 1) 2 1 (Whole (negsuc 2147483647) (pos 2147483647)) None
          ∷ declaration (codes "b") (codes "main.b") (kind.Object (initial.Scalar (expr 54))) (scope 1) 3 1 (Whole (negsuc 2147483647) (pos 2147483647)) None
          ∷ [];
      expressions =
          Variable (variable (Declared (decl 2)) None)
          ∷ Variable (variable (Declared (decl 3)) None)
          ∷ Binary binary.Rem (expr 0) (expr 1)
          ∷ Unary unary.Minus (expr 2)
          ∷ Variable (variable (Declared (decl 2)) None)
          ∷ Variable (variable (Declared (decl 3)) None)
          ∷ Binary binary.Divide (expr 4) (expr 5)
          ∷ Unary unary.Minus (expr 6)
          ∷ Variable (variable (Declared (decl 2)) None)
          ∷ Unary unary.Minus (expr 8)
          ∷ Unary unary.Abs (expr 9)
          ∷ Variable (variable (Declared (decl 0)) None)
          ∷ Variable (variable (Declared (decl 1)) None)
          ∷ Binary binary.AndThen (expr 11) (expr 12)
          ∷ Unary unary.Not (expr 13)
          ∷ Variable (variable (Declared (decl 1)) None)
          ∷ Binary binary.OrElse (expr 14) (expr 15)
          ∷ Variable (variable (Declared (decl 2)) None)
          ∷ Variable (variable (Declared (decl 3)) None)
          ∷ Binary binary.Mod (expr 17) (expr 18)
          ∷ Variable (variable (Declared (decl 2)) None)
          ∷ Variable (variable (Declared (decl 3)) None)
          ∷ Binary binary.Mod (expr 20) (expr 21)
          ∷ Unary unary.Minus (expr 22)
          ∷ Variable (variable (Declared (decl 2)) None)
          ∷ Variable (variable (Declared (decl 3)) None)
          ∷ Unary unary.Minus (expr 25)
          ∷ Binary binary.Mod (expr 24) (expr 26)
          ∷ Variable (variable (Declared (decl 2)) None)
          ∷ Variable (variable (Declared (decl 3)) None)
          ∷ Unary unary.Minus (expr 29)
          ∷ Binary binary.Mod (expr 28) (expr 30)
          ∷ Unary unary.Minus (expr 31)
          ∷ Known (Whole (pos 9))
          ∷ Variable (variable (Declared (decl 3)) None)
          ∷ Unary unary.Minus (expr 34)
          ∷ Binary binary.Mod (expr 33) (expr 35)
          ∷ Variable (variable (Declared (decl 0)) None)
          ∷ Variable (variable (Declared (decl 1)) None)
          ∷ Binary binary.And (expr 37) (expr 38)
          ∷ Variable (variable (Declared (decl 1)) None)
          ∷ Variable (variable (Declared (decl 0)) None)
          ∷ Binary binary.Or (expr 40) (expr 41)
          ∷ Variable (variable (Declared (decl 0)) None)
          ∷ Variable (variable (Declared (decl 0)) None)
          ∷ Binary binary.Xor (expr 43) (expr 44)
          ∷ Variable (variable (Declared (decl 1)) None)
          ∷ Variable (variable (Declared (decl 0)) None)
          ∷ Binary binary.Xor (expr 46) (expr 47)
          ∷ Variable (variable (Declared (decl 1)) None)
          ∷ Variable (variable (Declared (decl 1)) None)
          ∷ Binary binary.Or (expr 49) (expr 50)
          ∷ Known (Truth true)
          ∷ Known (Whole (pos 7))
          ∷ Known (Whole (pos 3))
          ∷ [];
      statements =
          statement (form.CallMain) 0 None
          ∷ statement (form.PutLine (piece.Whole (expr 3) ∷ piece.Whole (expr 7) ∷ piece.Whole (expr 10) ∷ piece.Truth (expr 16) ∷ [])) 12 None
          ∷ statement (form.PutLine (piece.Whole (expr 19) ∷ piece.Whole (expr 23) ∷ piece.Whole (expr 27) ∷ piece.Whole (expr 32) ∷ piece.Whole (expr 36) ∷ [])) 14 (Some (stmt 1))
          ∷ statement (form.PutLine (piece.Truth (expr 39) ∷ piece.Truth (expr 42) ∷ piece.Truth (expr 45) ∷ piece.Truth (expr 48) ∷ piece.Truth (expr 51) ∷ [])) 9 (Some (stmt 2))
          ∷ statement (form.Declare (decl 3)) 0 (Some (stmt 3))
          ∷ statement (form.Declare (decl 2)) 0 (Some (stmt 4))
          ∷ statement (form.Declare (decl 1)) 0 (Some (stmt 5))
          ∷ statement (form.Declare (decl 0)) 0 (Some (stmt 6))
          ∷ [];
      scopes =
          scope_text None 0 [] false (Some (stmt 0))
          ∷ scope_text (Some (scope 0)) 4 (cell_run 0 1 (Truth false) ∷ cell_run 1 1 (Truth false) ∷ []) false (Some (stmt 7))
          ∷ [];
      subprograms = [];
      task_units = [];
      protected_units = [];
      entries = [];
      controlled_types = [];
      enumerations = [];
      policies = (policies [] queuing.Fifo None 30);
      environment = (scope 0);
      main = (main_procedure (codes "main") 15 (scope 1));
    }

abbrev pub row_values_operators_script : List (ℤ × Item)
row_values_operators_script = []

-- the lines of its run up to tick 56
unfoldable pub row_values_operators_lines : List (ℕ × Event)
row_values_operators_lines = run_of row_values_operators_program row_values_operators_script 56

unfoldable pub row_values_operators_trace : List (ℕ × Event)
row_values_operators_trace =
    (0, line.New (created.Task (task 0)) (codes "main") 15)
    ∷ (0, line.Ready (t 0) 15 Tail None)
    ∷ (0, line.Run (t 0))
    ∷ (19, line.Put (t 0) (codes "FALSETRUEFALSETRUEFALSE"))
    ∷ (37, line.Put (t 0) (codes " 1-1-2 2 0"))
    ∷ (53, line.Put (t 0) (codes "-1-2 7TRUE"))
    ∷ (55, line.Done (task 0))
    ∷ (55, line.End end.Completed)
    ∷ []

pub row_values_operators_runs : row_values_operators_lines ≡ row_values_operators_trace
unfolding row_values_operators_lines row_values_operators_trace digits computing
row_values_operators_runs = refl

-- whether every world of its run is well formed
unfoldable pub row_values_operators_worlds : Bool
row_values_operators_worlds = run_is_well_formed row_values_operators_program row_values_operators_script 56

pub row_values_operators_keeps : row_values_operators_worlds ≡ true
unfolding row_values_operators_worlds computing
row_values_operators_keeps = refl

-- whether each handler is released at its tick
unfoldable pub row_values_operators_handlers : Bool
row_values_operators_handlers = releases_ok row_values_operators_program row_values_operators_script 56

pub row_values_operators_releases : row_values_operators_handlers ≡ true
unfolding row_values_operators_handlers computing
row_values_operators_releases = refl
