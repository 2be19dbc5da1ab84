use Rattle.std.specs.Prelude.{◌≡◌, ℕ, ℤ, pos, List, [], ◌∷◌, Some, None, true, false, codes, refl}
use Rattle.ann_base.specs.declared.exceptions.Raised.TheVariants as exception
use Rattle.trace_text.specs.declared.events.Event.{Event}
use Rattle.trace_text.specs.declared.events.Event.TheVariants as line
use Rattle.trace_text.specs.declared.events.Created.TheVariants as created
use Rattle.trace_text.specs.declared.events.Ended.TheVariants as end
use Rattle.trace_text.specs.declared.events.Leaves.TheVariants as leaves
use Rattle.trace_text.specs.declared.events.QueueEnd.TheVariants.{Tail}
use Rattle.trace_text.specs.declared.events.Waits.TheVariants as waits
use Rattle.profile_image.specs.declared.script_items.Item.{Item}
use Rattle.profile_image.specs.declared.image.Image.{Image}
use Rattle.profile_image.specs.declared.image.Queuing.TheVariants as queuing
use Rattle.profile_image.specs.declared.values.Value.TheVariants.{Whole, Truth, Task}
use Rattle.profile_image.specs.declared.values.Constraint.TheVariants.{Free, Whole, Truth}
use Rattle.profile_image.specs.declared.expressions.Expression.TheVariants.{Known, Variable, Span}
use Rattle.profile_image.specs.declared.expressions.ObjectName.TheVariants.{Declared}
use Rattle.profile_image.specs.declared.declarations.DeclarationKind.TheVariants as kind
use Rattle.profile_image.specs.declared.declarations.Initial.TheVariants as initial
use Rattle.profile_image.specs.declared.declarations.EntryUnit.TheVariants as unit
use Rattle.profile_image.specs.declared.declarations.ExceptionChoice.TheVariants as exception_choice
use Rattle.profile_image.specs.declared.statements.StatementForm.TheVariants as form
use Rattle.profile_image.specs.declared.statements.SelectKind.TheVariants as select
use Rattle.profile_machine.specs.Notation.{decl, expr, stmt, scope, task_unit, entry, task, region, t, declaration, variable, statement, select_alternative, handler, cell_run, scope_text, task_unit_text, entry_text, policies, main_procedure}
use Rattle.profile_machine.specs.Run.{run_of}
use Rattle.profile_machine.specs.Computing.{computing}
use Rattle.std.specs.Fmt.{digits}
use Rattle.std.specs.Prelude.{Bool}
use Rattle.profile_machine.specs.WellFormed.{run_is_well_formed}
use Rattle.profile_machine.specs.Releases.{releases_ok}

-- Row exceptions.raised: its run stops before tick 33, so every greater bound gives the same trace.
abbrev pub row_exceptions_raised_program : Image
row_exceptions_raised_program =
    record {
      declarations =
          declaration (codes "x") (codes "main.x") kind.Other (scope 0) 0 0 Free None
          ∷ declaration (codes "b") (codes "main.b") (kind.Object (initial.Scalar (expr 6))) (scope 1) 0 1 (Truth false true) None
          ∷ declaration (codes "t") (codes "main.t") (kind.Task (task_unit 0)) (scope 1) 1 1 Free None
          ∷ [];
      expressions =
          Variable (variable (Declared (decl 1)) None)
          ∷ Known (Whole (pos 10))
          ∷ Known (Whole (pos 1))
          ∷ Span (pos 1000) (expr 2)
          ∷ Known (Whole (pos 5))
          ∷ Known (Task None)
          ∷ Known (Truth false)
          ∷ [];
      statements =
          statement (form.CallMain) 0 None
          ∷ statement (form.Handled (handler (exception_choice.Named exception.Program ∷ []) (stmt 4) ∷ []) (stmt 3)) 0 None
          ∷ statement (form.Accept (entry 0) (scope 3)) 0 None
          ∷ statement (form.SelectiveAccept (select_alternative (Some (expr 0)) (select.Accept (stmt 2)) ∷ []) None) 0 None
          ∷ statement (form.Raise (exception.User 0)) 0 None
          ∷ statement (form.EndActivation) 0 (Some (stmt 1))
          ∷ statement (form.Handled (handler (exception_choice.Named exception.Constraint ∷ []) (stmt 18) ∷ []) (stmt 17)) 0 None
          ∷ statement (form.Raise (exception.User 0)) 0 None
          ∷ statement (form.Block (scope 5)) 0 (Some (stmt 7))
          ∷ statement (form.Handled (handler (exception_choice.Named exception.DispatchingPolicy ∷ []) (stmt 11) ∷ []) (stmt 10)) 0 None
          ∷ statement (form.SetQuantum (expr 1) (expr 3)) 1 None
          ∷ statement (form.Null) 0 None
          ∷ statement (form.Block (scope 4)) 0 (Some (stmt 8))
          ∷ statement (form.Handled (handler (exception_choice.Named exception.Constraint ∷ exception_choice.Named exception.Tasking ∷ []) (stmt 15) ∷ handler (exception_choice.Named exception.Program ∷ []) (stmt 16) ∷ []) (stmt 14)) 0 None
          ∷ statement (form.SetPriority (expr 4) (Some (expr 5))) 0 None
          ∷ statement (form.Null) 0 None
          ∷ statement (form.Null) 0 None
          ∷ statement (form.Activate 0) 0 (Some (stmt 12))
          ∷ statement (form.Null) 0 None
          ∷ statement (form.CreateTask (decl 2) 0) 0 (Some (stmt 6))
          ∷ statement (form.Declare (decl 1)) 0 (Some (stmt 19))
          ∷ [];
      scopes =
          scope_text None 0 [] false (Some (stmt 0))
          ∷ scope_text (Some (scope 0)) 2 (cell_run 0 1 (Truth false) ∷ []) true (Some (stmt 20))
          ∷ scope_text (Some (scope 1)) 0 [] false (Some (stmt 5))
          ∷ scope_text (Some (scope 2)) 0 [] false None
          ∷ scope_text (Some (scope 1)) 0 [] false (Some (stmt 13))
          ∷ scope_text (Some (scope 1)) 0 [] false (Some (stmt 9))
          ∷ [];
      subprograms = [];
      task_units =
          task_unit_text (scope 2) None None ((entry 0) ∷ [])
          ∷ [];
      protected_units = [];
      entries =
          entry_text (codes "e") (unit.Task (task_unit 0)) 0 [] None
          ∷ [];
      controlled_types = [];
      enumerations = [];
      policies = (policies [] queuing.Fifo None 30);
      environment = (scope 0);
      main = (main_procedure (codes "main") 15 (scope 1));
    }

abbrev pub row_exceptions_raised_script : List (ℤ × Item)
row_exceptions_raised_script = []

-- the lines of its run up to tick 33
unfoldable pub row_exceptions_raised_lines : List (ℕ × Event)
row_exceptions_raised_lines = run_of row_exceptions_raised_program row_exceptions_raised_script 33

unfoldable pub row_exceptions_raised_trace : List (ℕ × Event)
row_exceptions_raised_trace =
    (0, line.New (created.Task (task 0)) (codes "main") 15)
    ∷ (0, line.Ready (t 0) 15 Tail None)
    ∷ (0, line.Run (t 0))
    ∷ (5, line.New (created.Task (task 1)) (codes "main.t") 15)
    ∷ (7, line.Ready (t 1) 15 Tail None)
    ∷ (7, line.Block (t 0) waits.Activation)
    ∷ (7, line.Run (t 1))
    ∷ (8, line.Ready (t 0) 15 Tail None)
    ∷ (11, line.Raise (t 1) (codes "program_error"))
    ∷ (13, line.Raise (t 1) (codes "main.x"))
    ∷ (14, line.Done (task 1))
    ∷ (14, line.Run (t 0))
    ∷ (17, line.Raise (t 0) (codes "program_error"))
    ∷ (24, line.Raise (t 0) (codes "dispatching_policy_error"))
    ∷ (28, line.Raise (t 0) (codes "main.x"))
    ∷ (30, line.Leave (t 0) (region 1) leaves.Exception)
    ∷ (31, line.Left (t 0) (region 1))
    ∷ (32, line.Done (task 0))
    ∷ (32, line.End (end.Exception (codes "main.x")))
    ∷ []

pub row_exceptions_raised_runs : row_exceptions_raised_lines ≡ row_exceptions_raised_trace
unfolding row_exceptions_raised_lines row_exceptions_raised_trace digits computing
row_exceptions_raised_runs = refl

-- whether every world of its run is well formed
unfoldable pub row_exceptions_raised_worlds : Bool
row_exceptions_raised_worlds = run_is_well_formed row_exceptions_raised_program row_exceptions_raised_script 33

pub row_exceptions_raised_keeps : row_exceptions_raised_worlds ≡ true
unfolding row_exceptions_raised_worlds computing
row_exceptions_raised_keeps = refl

-- whether each handler is released at its tick
unfoldable pub row_exceptions_raised_handlers : Bool
row_exceptions_raised_handlers = releases_ok row_exceptions_raised_program row_exceptions_raised_script 33

pub row_exceptions_raised_releases : row_exceptions_raised_handlers ≡ true
unfolding row_exceptions_raised_handlers computing
row_exceptions_raised_releases = refl
