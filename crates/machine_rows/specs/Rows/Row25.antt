use Rattle.std.specs.Prelude.{◌≡◌, ℕ, ℤ, pos, negsuc, List, [], ◌∷◌, Some, None, true, false, codes, refl}
use Rattle.trace_text.specs.declared.events.Event.{Event}
use Rattle.trace_text.specs.declared.events.Event.TheVariants as line
use Rattle.trace_text.specs.declared.events.Created.TheVariants as created
use Rattle.trace_text.specs.declared.events.Ended.TheVariants as end
use Rattle.trace_text.specs.declared.events.QueueEnd.TheVariants.{Tail}
use Rattle.profile_image.specs.declared.script_items.Item.{Item}
use Rattle.profile_image.specs.declared.image.Image.{Image}
use Rattle.profile_image.specs.declared.image.Queuing.TheVariants as queuing
use Rattle.profile_image.specs.declared.values.Value.TheVariants.{Whole}
use Rattle.profile_image.specs.declared.values.Constraint.TheVariants.{Whole}
use Rattle.profile_image.specs.declared.expressions.Expression.TheVariants.{Known, Variable, Binary}
use Rattle.profile_image.specs.declared.expressions.ObjectName.TheVariants.{Declared}
use Rattle.profile_image.specs.declared.expressions.BinaryOperator.TheVariants as binary
use Rattle.profile_image.specs.declared.declarations.DeclarationKind.TheVariants as kind
use Rattle.profile_image.specs.declared.declarations.Initial.TheVariants as initial
use Rattle.profile_image.specs.declared.statements.StatementForm.TheVariants as form
use Rattle.profile_image.specs.declared.statements.Actual.TheVariants as actual
use Rattle.profile_image.specs.declared.statements.Callee.TheVariants as callee
use Rattle.profile_image.specs.declared.statements.Destination.TheVariants as destination
use Rattle.profile_image.specs.declared.statements.Piece.TheVariants as piece
use Rattle.profile_machine.specs.Notation.{decl, expr, stmt, scope, subprogram, task, t, declaration, variable, statement, scope_text, formal, subprogram_text, policies, main_procedure}
use Rattle.profile_machine.specs.Run.{run_of}
use Rattle.profile_machine.specs.Computing.{computing}
use Rattle.std.specs.Fmt.{digits}
use Rattle.std.specs.Prelude.{Bool}
use Rattle.profile_machine.specs.WellFormed.{run_is_well_formed}
use Rattle.profile_machine.specs.Releases.{releases_ok}

-- Row 25: its run stops before tick 106, so every greater bound gives the same trace.
abbrev pub row_25_program : Image
row_25_program =
    record {
      declarations =
          declaration (codes "calls") (codes "count.calls") (kind.Object (initial.Scalar (expr 12))) (scope 0) 0 1 (Whole (negsuc 2147483647) (pos 2147483647)) None
          ∷ declaration (codes "n") (codes "count.n") kind.Parameter (scope 1) 0 1 (Whole (negsuc 2147483647) (pos 2147483647)) None
          ∷ declaration (codes "mine") (codes "main.mine") (kind.Object (initial.Scalar (expr 13))) (scope 2) 0 1 (Whole (negsuc 2147483647) (pos 2147483647)) None
          ∷ [];
      expressions =
          Variable (variable (Declared (decl 2)) None)
          ∷ Variable (variable (Declared (decl 2)) None)
          ∷ Known (Whole (pos 2))
          ∷ Binary binary.Equal (expr 1) (expr 2)
          ∷ Variable (variable (Declared (decl 2)) None)
          ∷ Known (Whole (pos 2))
          ∷ Binary binary.Less (expr 4) (expr 5)
          ∷ Variable (variable (Declared (decl 0)) None)
          ∷ Known (Whole (pos 1))
          ∷ Binary binary.Plus (expr 7) (expr 8)
          ∷ Variable (variable (Declared (decl 2)) None)
          ∷ Variable (variable (Declared (decl 1)) None)
          ∷ Known (Whole (pos 0))
          ∷ Variable (variable (Declared (decl 0)) None)
          ∷ [];
      statements =
          statement (form.CallMain) 0 None
          ∷ statement (form.CallMain) 0 None
          ∷ statement (form.Call (callee.Subprogram (subprogram 0)) (actual.In (expr 0) ∷ []) destination.Nowhere) 0 None
          ∷ statement (form.Call (callee.Subprogram (subprogram 1)) [] destination.Nowhere) 0 (Some (stmt 2))
          ∷ statement (form.If (expr 3) (stmt 3) (Some (stmt 2))) 1 (Some (stmt 2))
          ∷ statement (form.CallMain) 0 (Some (stmt 2))
          ∷ statement (form.If (expr 6) (stmt 5) (Some (stmt 4))) 1 (Some (stmt 2))
          ∷ statement (form.Assign (variable (Declared (decl 0)) None) (expr 9)) 1 (Some (stmt 6))
          ∷ statement (form.Call (callee.Subprogram (subprogram 0)) (actual.In (expr 10) ∷ []) destination.Nowhere) 0 (Some (stmt 7))
          ∷ statement (form.Declare (decl 2)) 0 (Some (stmt 8))
          ∷ statement (form.PutLine (piece.Text (codes "call") ∷ piece.Whole (expr 11) ∷ [])) 1 None
          ∷ statement (form.Declare (decl 0)) 0 (Some (stmt 0))
          ∷ [];
      scopes =
          scope_text None 1 [] false (Some (stmt 11))
          ∷ scope_text (Some (scope 0)) 1 [] false (Some (stmt 10))
          ∷ scope_text (Some (scope 0)) 1 [] false (Some (stmt 9))
          ∷ scope_text (Some (scope 2)) 0 [] false (Some (stmt 1))
          ∷ [];
      subprograms =
          subprogram_text (codes "told") (scope 1) (formal (Whole (negsuc 2147483647) (pos 2147483647)) (Whole (pos 0)) ∷ []) None None
          ∷ subprogram_text (codes "again") (scope 3) [] None None
          ∷ [];
      task_units = [];
      protected_units = [];
      entries = [];
      controlled_types = [];
      enumerations = [];
      policies = (policies [] queuing.Fifo None 30);
      environment = (scope 0);
      main = (main_procedure (codes "main") 15 (scope 2));
    }

abbrev pub row_25_script : List (ℤ × Item)
row_25_script = []

-- the lines of its run up to tick 106
unfoldable pub row_25_lines : List (ℕ × Event)
row_25_lines = run_of row_25_program row_25_script 106

unfoldable pub row_25_trace : List (ℕ × Event)
row_25_trace =
    (0, line.New (created.Task (task 0)) (codes "main") 15)
    ∷ (0, line.Ready (t 0) 15 Tail None)
    ∷ (0, line.Run (t 0))
    ∷ (11, line.Put (t 0) (codes "call 0"))
    ∷ (26, line.Put (t 0) (codes "call 1"))
    ∷ (41, line.Put (t 0) (codes "call 2"))
    ∷ (60, line.Put (t 0) (codes "call 3"))
    ∷ (74, line.Put (t 0) (codes "call 3"))
    ∷ (84, line.Put (t 0) (codes "call 2"))
    ∷ (93, line.Put (t 0) (codes "call 1"))
    ∷ (102, line.Put (t 0) (codes "call 0"))
    ∷ (105, line.Done (task 0))
    ∷ (105, line.End end.Completed)
    ∷ []

pub row_25_runs : row_25_lines ≡ row_25_trace
unfolding row_25_lines row_25_trace digits computing
row_25_runs = refl

-- whether every world of its run is well formed
unfoldable pub row_25_worlds : Bool
row_25_worlds = run_is_well_formed row_25_program row_25_script 106

pub row_25_keeps : row_25_worlds ≡ true
unfolding row_25_worlds computing
row_25_keeps = refl

-- whether each handler is released at its tick
unfoldable pub row_25_handlers : Bool
row_25_handlers = releases_ok row_25_program row_25_script 106

pub row_25_releases : row_25_handlers ≡ true
unfolding row_25_handlers computing
row_25_releases = refl
