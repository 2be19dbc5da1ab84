use Rattle.std.specs.Prelude.{◌≡◌, ℕ, ℤ, pos, List, [], ◌∷◌, Some, None, true, false, codes, refl}
use Rattle.ann_base.specs.declared.exceptions.Raised.TheVariants as exception
use Rattle.trace_text.specs.declared.events.Event.{Event}
use Rattle.trace_text.specs.declared.events.Event.TheVariants as line
use Rattle.trace_text.specs.declared.events.Created.TheVariants as created
use Rattle.trace_text.specs.declared.events.Ended.TheVariants as end
use Rattle.trace_text.specs.declared.events.QueueEnd.TheVariants.{Tail}
use Rattle.profile_image.specs.declared.script_items.Item.{Item}
use Rattle.profile_image.specs.declared.image.Image.{Image}
use Rattle.profile_image.specs.declared.image.Queuing.TheVariants as queuing
use Rattle.profile_image.specs.declared.values.Value.TheVariants.{Whole, Truth, Literal, Ticks}
use Rattle.profile_image.specs.declared.values.Constraint.TheVariants.{Free, Whole, Truth, Literal, Ticks}
use Rattle.profile_image.specs.declared.expressions.Expression.TheVariants.{Known, Variable, Binary, Span}
use Rattle.profile_image.specs.declared.expressions.ObjectName.TheVariants.{Declared}
use Rattle.profile_image.specs.declared.expressions.BinaryOperator.TheVariants as binary
use Rattle.profile_image.specs.declared.declarations.DeclarationKind.TheVariants as kind
use Rattle.profile_image.specs.declared.declarations.Initial.TheVariants as initial
use Rattle.profile_image.specs.declared.declarations.ExceptionChoice.TheVariants as exception_choice
use Rattle.profile_image.specs.declared.statements.StatementForm.TheVariants as form
use Rattle.profile_machine.specs.Notation.{decl, expr, stmt, scope, task, t, declaration, variable, statement, handler, cell_run, scope_text, enumeration_text, policies, main_procedure}
use Rattle.profile_machine.specs.Run.{run_of}
use Rattle.profile_machine.specs.Computing.{computing}
use Rattle.std.specs.Fmt.{digits}
use Rattle.std.specs.Prelude.{Bool}
use Rattle.profile_machine.specs.WellFormed.{run_is_well_formed}
use Rattle.profile_machine.specs.Releases.{releases_ok}

-- Row values.ranges: its run stops before tick 45, so every greater bound gives the same trace.
abbrev pub row_values_ranges_program : Image
row_values_ranges_program =
    record {
      declarations =
          declaration (codes "y") (codes "main.y") (kind.Object (initial.Scalar (expr 15))) (scope 1) 0 1 (Truth true true) None
          ∷ declaration (codes "m") (codes "main.m") (kind.Object (initial.Scalar (expr 16))) (scope 1) 1 1 (Literal 1 1) None
          ∷ declaration (codes "d") (codes "main.d") (kind.Object (initial.Scalar (expr 17))) (scope 1) 2 1 (Ticks (pos 2) (pos 3)) None
          ∷ declaration (codes "t") (codes "main.t") (kind.Object (initial.Scalar (expr 21))) (scope 1) 3 1 Free None
          ∷ [];
      expressions =
          Variable (variable (Declared (decl 3)) None)
          ∷ Known (Whole (pos 1))
          ∷ Span (pos 1) (expr 1)
          ∷ Binary binary.Plus (expr 0) (expr 2)
          ∷ Known (Ticks (pos 4611686018427387903))
          ∷ Known (Whole (pos 0))
          ∷ Span (pos 1) (expr 5)
          ∷ Binary binary.Plus (expr 4) (expr 6)
          ∷ Variable (variable (Declared (decl 2)) None)
          ∷ Known (Ticks (pos 1))
          ∷ Binary binary.Plus (expr 8) (expr 9)
          ∷ Known (Ticks (pos 1))
          ∷ Known (Literal 2)
          ∷ Known (Literal 0)
          ∷ Known (Truth false)
          ∷ Known (Truth true)
          ∷ Known (Literal 1)
          ∷ Known (Ticks (pos 3))
          ∷ Known (Ticks (pos 0))
          ∷ Known (Whole (pos 0))
          ∷ Span (pos 1) (expr 19)
          ∷ Binary binary.Plus (expr 18) (expr 20)
          ∷ [];
      statements =
          statement (form.CallMain) 0 None
          ∷ statement (form.Handled (handler (exception_choice.Named exception.Constraint ∷ []) (stmt 24) ∷ []) (stmt 20)) 0 None
          ∷ statement (form.Assign (variable (Declared (decl 3)) None) (expr 3)) 2 None
          ∷ statement (form.Assign (variable (Declared (decl 3)) None) (expr 7)) 2 (Some (stmt 2))
          ∷ statement (form.Block (scope 6)) 0 (Some (stmt 3))
          ∷ statement (form.Handled (handler (exception_choice.Named exception.Constraint ∷ []) (stmt 7) ∷ []) (stmt 6)) 0 None
          ∷ statement (form.Assign (variable (Declared (decl 2)) None) (expr 10)) 1 None
          ∷ statement (form.Null) 0 None
          ∷ statement (form.Block (scope 5)) 0 (Some (stmt 4))
          ∷ statement (form.Handled (handler (exception_choice.Named exception.Constraint ∷ []) (stmt 11) ∷ []) (stmt 10)) 0 None
          ∷ statement (form.Assign (variable (Declared (decl 2)) None) (expr 11)) 0 None
          ∷ statement (form.Null) 0 None
          ∷ statement (form.Block (scope 4)) 0 (Some (stmt 8))
          ∷ statement (form.Handled (handler (exception_choice.Named exception.Constraint ∷ []) (stmt 15) ∷ []) (stmt 14)) 0 None
          ∷ statement (form.Assign (variable (Declared (decl 1)) None) (expr 12)) 0 None
          ∷ statement (form.Null) 0 None
          ∷ statement (form.Block (scope 3)) 0 (Some (stmt 12))
          ∷ statement (form.Handled (handler (exception_choice.Named exception.Constraint ∷ []) (stmt 19) ∷ []) (stmt 18)) 0 None
          ∷ statement (form.Assign (variable (Declared (decl 1)) None) (expr 13)) 0 None
          ∷ statement (form.Null) 0 None
          ∷ statement (form.Block (scope 2)) 0 (Some (stmt 16))
          ∷ statement (form.Handled (handler (exception_choice.Named exception.Constraint ∷ []) (stmt 23) ∷ []) (stmt 22)) 0 None
          ∷ statement (form.Assign (variable (Declared (decl 0)) None) (expr 14)) 0 None
          ∷ statement (form.Null) 0 None
          ∷ statement (form.Null) 0 None
          ∷ statement (form.Declare (decl 3)) 2 (Some (stmt 1))
          ∷ statement (form.Declare (decl 2)) 0 (Some (stmt 25))
          ∷ statement (form.Declare (decl 1)) 0 (Some (stmt 26))
          ∷ statement (form.Declare (decl 0)) 0 (Some (stmt 27))
          ∷ [];
      scopes =
          scope_text None 0 [] false (Some (stmt 0))
          ∷ scope_text (Some (scope 0)) 4 (cell_run 0 1 (Truth true) ∷ cell_run 1 1 (Literal 1) ∷ cell_run 2 1 (Ticks (pos 2)) ∷ cell_run 3 1 (Ticks (pos 0)) ∷ []) false (Some (stmt 28))
          ∷ scope_text (Some (scope 1)) 0 [] false (Some (stmt 21))
          ∷ scope_text (Some (scope 1)) 0 [] false (Some (stmt 17))
          ∷ scope_text (Some (scope 1)) 0 [] false (Some (stmt 13))
          ∷ scope_text (Some (scope 1)) 0 [] false (Some (stmt 9))
          ∷ scope_text (Some (scope 1)) 0 [] false (Some (stmt 5))
          ∷ [];
      subprograms = [];
      task_units = [];
      protected_units = [];
      entries = [];
      controlled_types = [];
      enumerations =
          enumeration_text ((codes "RED") ∷ (codes "GREEN") ∷ (codes "BLUE") ∷ [])
          ∷ [];
      policies = (policies [] queuing.Fifo None 30);
      environment = (scope 0);
      main = (main_procedure (codes "main") 15 (scope 1));
    }

abbrev pub row_values_ranges_script : List (ℤ × Item)
row_values_ranges_script = []

-- the lines of its run up to tick 45
unfoldable pub row_values_ranges_lines : List (ℕ × Event)
row_values_ranges_lines = run_of row_values_ranges_program row_values_ranges_script 45

unfoldable pub row_values_ranges_trace : List (ℕ × Event)
row_values_ranges_trace =
    (0, line.New (created.Task (task 0)) (codes "main") 15)
    ∷ (0, line.Ready (t 0) 15 Tail None)
    ∷ (0, line.Run (t 0))
    ∷ (10, line.Raise (t 0) (codes "constraint_error"))
    ∷ (15, line.Raise (t 0) (codes "constraint_error"))
    ∷ (20, line.Raise (t 0) (codes "constraint_error"))
    ∷ (25, line.Raise (t 0) (codes "constraint_error"))
    ∷ (31, line.Raise (t 0) (codes "constraint_error"))
    ∷ (40, line.Raise (t 0) (codes "constraint_error"))
    ∷ (44, line.Done (task 0))
    ∷ (44, line.End end.Completed)
    ∷ []

pub row_values_ranges_runs : row_values_ranges_lines ≡ row_values_ranges_trace
unfolding row_values_ranges_lines row_values_ranges_trace digits computing
row_values_ranges_runs = refl

-- whether every world of its run is well formed
unfoldable pub row_values_ranges_worlds : Bool
row_values_ranges_worlds = run_is_well_formed row_values_ranges_program row_values_ranges_script 45

pub row_values_ranges_keeps : row_values_ranges_worlds ≡ true
unfolding row_values_ranges_worlds computing
row_values_ranges_keeps = refl

-- whether each handler is released at its tick
unfoldable pub row_values_ranges_handlers : Bool
row_values_ranges_handlers = releases_ok row_values_ranges_program row_values_ranges_script 45

pub row_values_ranges_releases : row_values_ranges_handlers ≡ true
unfolding row_values_ranges_handlers computing
row_values_ranges_releases = refl
