use Rattle.std.specs.Prelude.{◌≡◌, ℕ, ℤ, pos, negsuc, List, [], ◌∷◌, Some, None, true, false, codes, refl}
use Rattle.ann_base.specs.declared.exceptions.Raised.TheVariants as exception
use Rattle.trace_text.specs.declared.events.Event.{Event}
use Rattle.trace_text.specs.declared.events.Event.TheVariants as line
use Rattle.trace_text.specs.declared.events.Created.TheVariants as created
use Rattle.trace_text.specs.declared.events.Ended.TheVariants as end
use Rattle.trace_text.specs.declared.events.QueueEnd.TheVariants.{Tail}
use Rattle.profile_image.specs.declared.script_items.Item.{Item}
use Rattle.profile_image.specs.declared.image.Image.{Image}
use Rattle.profile_image.specs.declared.image.Queuing.TheVariants as queuing
use Rattle.profile_image.specs.declared.values.Value.TheVariants.{Whole, Task}
use Rattle.profile_image.specs.declared.values.Constraint.TheVariants.{Free, Whole}
use Rattle.profile_image.specs.declared.expressions.Expression.TheVariants.{Known, Variable, Span, PortValue}
use Rattle.profile_image.specs.declared.expressions.ObjectName.TheVariants.{Declared}
use Rattle.profile_image.specs.declared.declarations.DeclarationKind.TheVariants as kind
use Rattle.profile_image.specs.declared.declarations.Initial.TheVariants as initial
use Rattle.profile_image.specs.declared.declarations.ExceptionChoice.TheVariants as exception_choice
use Rattle.profile_image.specs.declared.statements.StatementForm.TheVariants as form
use Rattle.profile_image.specs.declared.statements.Callee.TheVariants as callee
use Rattle.profile_image.specs.declared.statements.Destination.TheVariants as destination
use Rattle.profile_machine.specs.Notation.{decl, expr, stmt, scope, subprogram, task, t, declaration, variable, statement, handler, cell_run, scope_text, subprogram_text, policies, main_procedure}
use Rattle.profile_machine.specs.Run.{run_of}
use Rattle.profile_machine.specs.Computing.{computing}
use Rattle.std.specs.Fmt.{digits}
use Rattle.std.specs.Prelude.{Bool}
use Rattle.profile_machine.specs.WellFormed.{run_is_well_formed}
use Rattle.profile_machine.specs.Releases.{releases_ok}

-- Row exceptions.named: its run stops before tick 37, so every greater bound gives the same trace.
abbrev pub row_exceptions_named_program : Image
row_exceptions_named_program =
    record {
      declarations =
          declaration (codes "id") (codes "pk.id") (kind.Object (initial.Scalar (expr 9))) (scope 0) 0 1 Free None
          ∷ declaration (codes "b") (codes "pk.b") kind.Budget (scope 0) 1 1 Free None
          ∷ declaration (codes "n") (codes "pk.f.n") (kind.Object (initial.Scalar (expr 10))) (scope 1) 0 1 (Whole (negsuc 2147483647) (pos 2147483647)) None
          ∷ declaration (codes "x") (codes "pk.x") (kind.Object initial.Default) (scope 0) 2 1 (Whole (negsuc 2147483647) (pos 2147483647)) None
          ∷ declaration (codes "t") (codes "pk.t") (kind.Timer (decl 0)) (scope 0) 3 1 Free None
          ∷ [];
      expressions =
          Known (Task None)
          ∷ Known (Whole (pos 0))
          ∷ Span (pos 1) (expr 1)
          ∷ Variable (variable (Declared (decl 2)) None)
          ∷ PortValue (expr 3)
          ∷ Variable (variable (Declared (decl 2)) None)
          ∷ PortValue (expr 5)
          ∷ Known (Whole (negsuc 0))
          ∷ Known (Whole (pos 1))
          ∷ Known (Task None)
          ∷ Known (Whole (pos 16))
          ∷ [];
      statements =
          statement (form.CallMain) 0 None
          ∷ statement (form.Null) 0 None
          ∷ statement (form.Handled (handler (exception_choice.Named exception.TimerResource ∷ []) (stmt 20) ∷ []) (stmt 16)) 0 None
          ∷ statement (form.Raise exception.TimerResource) 0 None
          ∷ statement (form.Block (scope 5)) 0 (Some (stmt 3))
          ∷ statement (form.Handled (handler (exception_choice.Named exception.Program ∷ []) (stmt 7) ∷ []) (stmt 6)) 0 None
          ∷ statement (form.AddTask (decl 1) (expr 0)) 0 None
          ∷ statement (form.Null) 0 None
          ∷ statement (form.Block (scope 4)) 0 (Some (stmt 4))
          ∷ statement (form.Handled (handler (exception_choice.Named exception.GroupBudget ∷ []) (stmt 11) ∷ []) (stmt 10)) 0 None
          ∷ statement (form.Replenish (decl 1) (expr 2)) 1 None
          ∷ statement (form.Null) 0 None
          ∷ statement (form.Block (scope 3)) 0 (Some (stmt 8))
          ∷ statement (form.Handled (handler (exception_choice.Named exception.Constraint ∷ []) (stmt 15) ∷ []) (stmt 14)) 0 None
          ∷ statement (form.Assign (variable (Declared (decl 2)) None) (expr 4)) 1 None
          ∷ statement (form.Null) 0 None
          ∷ statement (form.Block (scope 2)) 0 (Some (stmt 12))
          ∷ statement (form.Handled (handler (exception_choice.Named exception.Constraint ∷ []) (stmt 19) ∷ []) (stmt 18)) 0 None
          ∷ statement (form.Assign (variable (Declared (decl 2)) None) (expr 6)) 1 None
          ∷ statement (form.Assign (variable (Declared (decl 2)) None) (expr 7)) 0 None
          ∷ statement (form.ReturnValue (subprogram 0) (expr 8)) 0 None
          ∷ statement (form.Declare (decl 2)) 0 (Some (stmt 2))
          ∷ statement (form.Declare (decl 4)) 0 (Some (stmt 0))
          ∷ statement (form.Call (callee.Subprogram (subprogram 0)) [] (destination.Declaration (decl 3))) 0 (Some (stmt 22))
          ∷ statement (form.Declare (decl 1)) 0 (Some (stmt 23))
          ∷ statement (form.Declare (decl 0)) 0 (Some (stmt 24))
          ∷ [];
      scopes =
          scope_text None 4 (cell_run 0 1 (Task None) ∷ []) false (Some (stmt 25))
          ∷ scope_text (Some (scope 0)) 2 [] false (Some (stmt 21))
          ∷ scope_text (Some (scope 1)) 0 [] false (Some (stmt 17))
          ∷ scope_text (Some (scope 1)) 0 [] false (Some (stmt 13))
          ∷ scope_text (Some (scope 1)) 0 [] false (Some (stmt 9))
          ∷ scope_text (Some (scope 1)) 0 [] false (Some (stmt 5))
          ∷ scope_text (Some (scope 0)) 0 [] false (Some (stmt 1))
          ∷ [];
      subprograms =
          subprogram_text (codes "f") (scope 1) [] (Some (Whole (negsuc 2147483647) (pos 2147483647))) None
          ∷ [];
      task_units = [];
      protected_units = [];
      entries = [];
      controlled_types = [];
      enumerations = [];
      policies = (policies [] queuing.Fifo None 30);
      environment = (scope 0);
      main = (main_procedure (codes "main") 15 (scope 6));
    }

abbrev pub row_exceptions_named_script : List (ℤ × Item)
row_exceptions_named_script = []

-- the lines of its run up to tick 37
unfoldable pub row_exceptions_named_lines : List (ℕ × Event)
row_exceptions_named_lines = run_of row_exceptions_named_program row_exceptions_named_script 37

unfoldable pub row_exceptions_named_trace : List (ℕ × Event)
row_exceptions_named_trace =
    (0, line.New (created.Task (task 0)) (codes "main") 15)
    ∷ (0, line.Ready (t 0) 15 Tail None)
    ∷ (0, line.Run (t 0))
    ∷ (8, line.Raise (t 0) (codes "constraint_error"))
    ∷ (14, line.Raise (t 0) (codes "constraint_error"))
    ∷ (21, line.Raise (t 0) (codes "group_budget_error"))
    ∷ (27, line.Raise (t 0) (codes "program_error"))
    ∷ (31, line.Raise (t 0) (codes "timer_resource_error"))
    ∷ (35, line.Raise (t 0) (codes "program_error"))
    ∷ (36, line.Done (task 0))
    ∷ (36, line.End (end.Exception (codes "program_error")))
    ∷ []

pub row_exceptions_named_runs : row_exceptions_named_lines ≡ row_exceptions_named_trace
unfolding row_exceptions_named_lines row_exceptions_named_trace digits computing
row_exceptions_named_runs = refl

-- whether every world of its run is well formed
unfoldable pub row_exceptions_named_worlds : Bool
row_exceptions_named_worlds = run_is_well_formed row_exceptions_named_program row_exceptions_named_script 37

pub row_exceptions_named_keeps : row_exceptions_named_worlds ≡ true
unfolding row_exceptions_named_worlds computing
row_exceptions_named_keeps = refl

-- whether each handler is released at its tick
unfoldable pub row_exceptions_named_handlers : Bool
row_exceptions_named_handlers = releases_ok row_exceptions_named_program row_exceptions_named_script 37

pub row_exceptions_named_releases : row_exceptions_named_handlers ≡ true
unfolding row_exceptions_named_handlers computing
row_exceptions_named_releases = refl
