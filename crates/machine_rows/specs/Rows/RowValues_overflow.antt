use Rattle.std.specs.Prelude.{◌≡◌, ℕ, ℤ, pos, negsuc, List, [], ◌∷◌, Some, None, true, false, codes, refl}
use Rattle.ann_base.specs.declared.exceptions.Raised.TheVariants as exception
use Rattle.trace_text.specs.declared.events.Event.{Event}
use Rattle.trace_text.specs.declared.events.Event.TheVariants as line
use Rattle.trace_text.specs.declared.events.Created.TheVariants as created
use Rattle.trace_text.specs.declared.events.Ended.TheVariants as end
use Rattle.trace_text.specs.declared.events.QueueEnd.TheVariants.{Tail}
use Rattle.profile_image.specs.declared.script_items.Item.{Item}
use Rattle.profile_image.specs.declared.image.Image.{Image}
use Rattle.profile_image.specs.declared.image.Queuing.TheVariants as queuing
use Rattle.profile_image.specs.declared.values.Value.TheVariants.{Whole, Ticks}
use Rattle.profile_image.specs.declared.values.Constraint.TheVariants.{Whole, Ticks}
use Rattle.profile_image.specs.declared.expressions.Expression.TheVariants.{Known, Variable, Unary, Binary}
use Rattle.profile_image.specs.declared.expressions.ObjectName.TheVariants.{Declared}
use Rattle.profile_image.specs.declared.expressions.UnaryOperator.TheVariants as unary
use Rattle.profile_image.specs.declared.expressions.BinaryOperator.TheVariants as binary
use Rattle.profile_image.specs.declared.declarations.DeclarationKind.TheVariants as kind
use Rattle.profile_image.specs.declared.declarations.Initial.TheVariants as initial
use Rattle.profile_image.specs.declared.declarations.ExceptionChoice.TheVariants as exception_choice
use Rattle.profile_image.specs.declared.statements.StatementForm.TheVariants as form
use Rattle.profile_image.specs.declared.statements.Callee.TheVariants as callee
use Rattle.profile_image.specs.declared.statements.Destination.TheVariants as destination
use Rattle.profile_machine.specs.Notation.{decl, expr, stmt, scope, subprogram, task, t, declaration, variable, statement, handler, cell_run, scope_text, subprogram_text, policies, main_procedure}
use Rattle.profile_machine.specs.Run.{run_of}
use Rattle.profile_machine.specs.Computing.{computing}
use Rattle.std.specs.Fmt.{digits}
use Rattle.std.specs.Prelude.{Bool}
use Rattle.profile_machine.specs.WellFormed.{run_is_well_formed}
use Rattle.profile_machine.specs.Releases.{releases_ok}

-- Row values.overflow: its run stops before tick 50, so every greater bound gives the same trace.
abbrev pub row_values_overflow_program : Image
row_values_overflow_program =
    record {
      declarations =
          declaration (codes "a") (codes "main.a") (kind.Object (initial.Scalar (expr 29))) (scope 1) 0 1 (Whole (negsuc 2147483647) (pos 2147483647)) None
          ∷ declaration (codes "z") (codes "main.z") (kind.Object (initial.Scalar (expr 30))) (scope 1) 1 1 (Whole (negsuc 2147483647) (pos 2147483647)) None
          ∷ declaration (codes "d") (codes "main.d") (kind.Object (initial.Scalar (expr 31))) (scope 1) 2 1 (Ticks (negsuc 4611686018427387903) (pos 4611686018427387903)) None
          ∷ [];
      expressions =
          Known (Whole (pos 1))
          ∷ Variable (variable (Declared (decl 1)) None)
          ∷ Known (Whole (pos 1))
          ∷ Binary binary.Equal (expr 1) (expr 2)
          ∷ Variable (variable (Declared (decl 2)) None)
          ∷ Known (Ticks (pos 2))
          ∷ Binary binary.Less (expr 4) (expr 5)
          ∷ Variable (variable (Declared (decl 2)) None)
          ∷ Variable (variable (Declared (decl 1)) None)
          ∷ Binary binary.Divide (expr 7) (expr 8)
          ∷ Known (Whole (pos 1))
          ∷ Variable (variable (Declared (decl 1)) None)
          ∷ Binary binary.Divide (expr 10) (expr 11)
          ∷ Variable (variable (Declared (decl 0)) None)
          ∷ Known (Whole (pos 1))
          ∷ Binary binary.Minus (expr 13) (expr 14)
          ∷ Known (Whole (pos 1))
          ∷ Binary binary.Plus (expr 15) (expr 16)
          ∷ Variable (variable (Declared (decl 0)) None)
          ∷ Unary unary.Minus (expr 18)
          ∷ Known (Whole (pos 1))
          ∷ Binary binary.Minus (expr 19) (expr 20)
          ∷ Variable (variable (Declared (decl 0)) None)
          ∷ Known (Whole (pos 1))
          ∷ Binary binary.Plus (expr 22) (expr 23)
          ∷ Known (Whole (pos 1))
          ∷ Binary binary.Minus (expr 24) (expr 25)
          ∷ Known (Whole (pos 2147483646))
          ∷ Known (Whole (pos 1))
          ∷ Binary binary.Plus (expr 27) (expr 28)
          ∷ Known (Whole (pos 0))
          ∷ Known (Ticks (pos 2))
          ∷ [];
      statements =
          statement (form.CallMain) 0 None
          ∷ statement (form.ReturnValue (subprogram 0) (expr 0)) 0 None
          ∷ statement (form.If (expr 3) (stmt 1) None) 1 None
          ∷ statement (form.Call (callee.Subprogram (subprogram 0)) [] (destination.Return (subprogram 1))) 0 None
          ∷ statement (form.Handled (handler (exception_choice.Named exception.Program ∷ []) (stmt 26) ∷ []) (stmt 22)) 0 None
          ∷ statement (form.Call (callee.Subprogram (subprogram 1)) [] (destination.Variable (variable (Declared (decl 0)) None))) 0 None
          ∷ statement (form.Null) 0 (Some (stmt 5))
          ∷ statement (form.Null) 0 (Some (stmt 6))
          ∷ statement (form.If (expr 6) (stmt 7) (Some (stmt 5))) 1 (Some (stmt 5))
          ∷ statement (form.Block (scope 7)) 0 (Some (stmt 8))
          ∷ statement (form.Handled (handler (exception_choice.Named exception.Constraint ∷ []) (stmt 12) ∷ []) (stmt 11)) 0 None
          ∷ statement (form.Assign (variable (Declared (decl 2)) None) (expr 9)) 1 None
          ∷ statement (form.Null) 0 None
          ∷ statement (form.Block (scope 6)) 0 (Some (stmt 9))
          ∷ statement (form.Handled (handler (exception_choice.Named exception.Constraint ∷ []) (stmt 16) ∷ []) (stmt 15)) 0 None
          ∷ statement (form.Assign (variable (Declared (decl 0)) None) (expr 12)) 1 None
          ∷ statement (form.Null) 0 None
          ∷ statement (form.Block (scope 5)) 0 (Some (stmt 13))
          ∷ statement (form.Handled (handler (exception_choice.Named exception.Constraint ∷ []) (stmt 20) ∷ []) (stmt 19)) 0 None
          ∷ statement (form.Assign (variable (Declared (decl 0)) None) (expr 17)) 2 None
          ∷ statement (form.Null) 0 None
          ∷ statement (form.Assign (variable (Declared (decl 0)) None) (expr 21)) 2 (Some (stmt 17))
          ∷ statement (form.Block (scope 4)) 0 (Some (stmt 21))
          ∷ statement (form.Handled (handler (exception_choice.Named exception.Constraint ∷ []) (stmt 25) ∷ []) (stmt 24)) 0 None
          ∷ statement (form.Assign (variable (Declared (decl 0)) None) (expr 26)) 2 None
          ∷ statement (form.Null) 0 None
          ∷ statement (form.Null) 0 None
          ∷ statement (form.Declare (decl 2)) 0 (Some (stmt 4))
          ∷ statement (form.Declare (decl 1)) 0 (Some (stmt 27))
          ∷ statement (form.Declare (decl 0)) 1 (Some (stmt 28))
          ∷ [];
      scopes =
          scope_text None 0 [] false (Some (stmt 0))
          ∷ scope_text (Some (scope 0)) 3 (cell_run 2 1 (Ticks (pos 0)) ∷ []) false (Some (stmt 29))
          ∷ scope_text (Some (scope 1)) 1 [] false (Some (stmt 2))
          ∷ scope_text (Some (scope 1)) 1 [] false (Some (stmt 3))
          ∷ scope_text (Some (scope 1)) 0 [] false (Some (stmt 23))
          ∷ scope_text (Some (scope 1)) 0 [] false (Some (stmt 18))
          ∷ scope_text (Some (scope 1)) 0 [] false (Some (stmt 14))
          ∷ scope_text (Some (scope 1)) 0 [] false (Some (stmt 10))
          ∷ [];
      subprograms =
          subprogram_text (codes "f") (scope 2) [] (Some (Whole (negsuc 2147483647) (pos 2147483647))) None
          ∷ subprogram_text (codes "g") (scope 3) [] (Some (Whole (negsuc 2147483647) (pos 2147483647))) None
          ∷ [];
      task_units = [];
      protected_units = [];
      entries = [];
      controlled_types = [];
      enumerations = [];
      policies = (policies [] queuing.Fifo None 30);
      environment = (scope 0);
      main = (main_procedure (codes "main") 15 (scope 1));
    }

abbrev pub row_values_overflow_script : List (ℤ × Item)
row_values_overflow_script = []

-- the lines of its run up to tick 50
unfoldable pub row_values_overflow_lines : List (ℕ × Event)
row_values_overflow_lines = run_of row_values_overflow_program row_values_overflow_script 50

unfoldable pub row_values_overflow_trace : List (ℕ × Event)
row_values_overflow_trace =
    (0, line.New (created.Task (task 0)) (codes "main") 15)
    ∷ (0, line.Ready (t 0) 15 Tail None)
    ∷ (0, line.Run (t 0))
    ∷ (10, line.Raise (t 0) (codes "constraint_error"))
    ∷ (20, line.Raise (t 0) (codes "constraint_error"))
    ∷ (26, line.Raise (t 0) (codes "constraint_error"))
    ∷ (32, line.Raise (t 0) (codes "constraint_error"))
    ∷ (44, line.Raise (t 0) (codes "program_error"))
    ∷ (49, line.Done (task 0))
    ∷ (49, line.End end.Completed)
    ∷ []

pub row_values_overflow_runs : row_values_overflow_lines ≡ row_values_overflow_trace
unfolding row_values_overflow_lines row_values_overflow_trace digits computing
row_values_overflow_runs = refl

-- whether every world of its run is well formed
unfoldable pub row_values_overflow_worlds : Bool
row_values_overflow_worlds = run_is_well_formed row_values_overflow_program row_values_overflow_script 50

pub row_values_overflow_keeps : row_values_overflow_worlds ≡ true
unfolding row_values_overflow_worlds computing
row_values_overflow_keeps = refl

-- whether each handler is released at its tick
unfoldable pub row_values_overflow_handlers : Bool
row_values_overflow_handlers = releases_ok row_values_overflow_program row_values_overflow_script 50

pub row_values_overflow_releases : row_values_overflow_handlers ≡ true
unfolding row_values_overflow_handlers computing
row_values_overflow_releases = refl
