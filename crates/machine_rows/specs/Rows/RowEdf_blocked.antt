use Rattle.std.specs.Prelude.{◌≡◌, ℕ, ℤ, pos, List, [], ◌∷◌, Some, None, true, false, codes, refl}
use Rattle.ann_base.specs.declared.exceptions.Raised.TheVariants as exception
use Rattle.trace_text.specs.declared.events.Event.{Event}
use Rattle.trace_text.specs.declared.events.Event.TheVariants as line
use Rattle.trace_text.specs.declared.events.Created.TheVariants as created
use Rattle.trace_text.specs.declared.events.Ended.TheVariants as end
use Rattle.trace_text.specs.declared.events.Leaves.TheVariants as leaves
use Rattle.trace_text.specs.declared.events.Mode.TheVariants.{Write}
use Rattle.trace_text.specs.declared.events.QueueEnd.TheVariants.{Head, Tail}
use Rattle.trace_text.specs.declared.events.Waits.TheVariants as waits
use Rattle.profile_image.specs.declared.script_items.Item.{Item}
use Rattle.profile_image.specs.declared.image.Image.{Image}
use Rattle.profile_image.specs.declared.image.Dispatching.TheVariants.{EdfAcrossPriorities}
use Rattle.profile_image.specs.declared.image.Queuing.TheVariants as queuing
use Rattle.profile_image.specs.declared.values.Value.TheVariants.{Whole, Ticks, Thing}
use Rattle.profile_image.specs.declared.values.Constraint.TheVariants.{Free, Whole, Ticks}
use Rattle.profile_image.specs.declared.expressions.Expression.TheVariants.{Known, Thing, Binary, Clock, Span}
use Rattle.profile_image.specs.declared.expressions.BinaryOperator.TheVariants as binary
use Rattle.profile_image.specs.declared.declarations.DeclarationKind.TheVariants as kind
use Rattle.profile_image.specs.declared.declarations.ExceptionChoice.TheVariants as exception_choice
use Rattle.profile_image.specs.declared.statements.StatementForm.TheVariants as form
use Rattle.profile_image.specs.declared.statements.Callee.TheVariants as callee
use Rattle.profile_image.specs.declared.statements.Destination.TheVariants as destination
use Rattle.profile_machine.specs.Notation.{decl, expr, stmt, scope, subprogram, task_unit, protected_unit, task, p, region, t, declaration, statement, handler, scope_text, subprogram_text, task_unit_text, protected_unit_text, dispatching_range, policies, main_procedure}
use Rattle.profile_machine.specs.Run.{run_of}
use Rattle.profile_machine.specs.Computing.{computing}
use Rattle.std.specs.Fmt.{digits}
use Rattle.std.specs.Prelude.{Bool}
use Rattle.profile_machine.specs.WellFormed.{run_is_well_formed}
use Rattle.profile_machine.specs.Releases.{releases_ok}

-- Row edf.blocked: its run stops before tick 46, so every greater bound gives the same trace.
abbrev pub row_edf_blocked_program : Image
row_edf_blocked_program =
    record {
      declarations =
          declaration (codes "o") (codes "pk.o") (kind.Protected (protected_unit 0)) (scope 0) 0 16 Free None
          ∷ declaration (codes "t") (codes "pk.t") (kind.Task (task_unit 0)) (scope 0) 16 1 Free None
          ∷ declaration (codes "u") (codes "pk.u") (kind.Task (task_unit 1)) (scope 0) 17 1 Free None
          ∷ [];
      expressions =
          Known (Whole (pos 8))
          ∷ Thing (decl 2)
          ∷ Known (Whole (pos 14))
          ∷ Thing (decl 1)
          ∷ Known (Ticks (pos 0))
          ∷ Known (Whole (pos 99))
          ∷ Span (pos 1) (expr 5)
          ∷ Binary binary.Plus (expr 4) (expr 6)
          ∷ Thing (decl 1)
          ∷ Clock
          ∷ Known (Whole (pos 5))
          ∷ Span (pos 1) (expr 10)
          ∷ Known (Ticks (pos 20))
          ∷ [];
      statements =
          statement (form.CallMain) 0 None
          ∷ statement (form.Handled (handler (exception_choice.Named exception.Program ∷ []) (stmt 12) ∷ []) (stmt 11)) 0 None
          ∷ statement (form.Call (callee.Operation (decl 0) (subprogram 0)) [] destination.Nowhere) 0 None
          ∷ statement (form.Block (scope 6)) 0 (Some (stmt 2))
          ∷ statement (form.Handled (handler (exception_choice.Named exception.Program ∷ []) (stmt 6) ∷ []) (stmt 5)) 0 None
          ∷ statement (form.SetPriority (expr 0) (Some (expr 1))) 0 None
          ∷ statement (form.Null) 0 None
          ∷ statement (form.Block (scope 5)) 0 (Some (stmt 3))
          ∷ statement (form.Handled (handler (exception_choice.Named exception.Program ∷ []) (stmt 10) ∷ []) (stmt 9)) 0 None
          ∷ statement (form.SetPriority (expr 2) (Some (expr 3))) 0 None
          ∷ statement (form.Null) 0 None
          ∷ statement (form.SetDeadline (expr 7) (Some (expr 8))) 2 (Some (stmt 7))
          ∷ statement (form.Null) 0 None
          ∷ statement (form.DelayUntilAndSetDeadline (expr 9) (expr 11)) 2 None
          ∷ statement (form.Delay (expr 12)) 0 None
          ∷ statement (form.EndActivation) 0 (Some (stmt 14))
          ∷ statement (form.Null) 0 None
          ∷ statement (form.EndActivation) 0 (Some (stmt 16))
          ∷ statement (form.Activate 1) 0 (Some (stmt 0))
          ∷ statement (form.CreateTask (decl 2) 1) 0 (Some (stmt 18))
          ∷ statement (form.CreateTask (decl 1) 1) 0 (Some (stmt 19))
          ∷ statement (form.Declare (decl 0)) 0 (Some (stmt 20))
          ∷ [];
      scopes =
          scope_text None 18 [] true (Some (stmt 21))
          ∷ scope_text (Some (scope 0)) 0 [] false (Some (stmt 13))
          ∷ scope_text (Some (scope 0)) 0 [] false (Some (stmt 15))
          ∷ scope_text (Some (scope 0)) 0 [] false (Some (stmt 17))
          ∷ scope_text (Some (scope 0)) 0 [] false (Some (stmt 1))
          ∷ scope_text (Some (scope 4)) 0 [] false (Some (stmt 8))
          ∷ scope_text (Some (scope 4)) 0 [] false (Some (stmt 4))
          ∷ [];
      subprograms =
          subprogram_text (codes "p") (scope 1) [] None (Some (protected_unit 0))
          ∷ [];
      task_units =
          task_unit_text (scope 2) (Some 5) None []
          ∷ task_unit_text (scope 3) (Some 12) None []
          ∷ [];
      protected_units =
          protected_unit_text 30 [] [] []
          ∷ [];
      entries = [];
      controlled_types = [];
      enumerations = [];
      policies = (policies (dispatching_range EdfAcrossPriorities 1 10 ∷ []) queuing.Fifo None 30);
      environment = (scope 0);
      main = (main_procedure (codes "main") 15 (scope 4));
    }

abbrev pub row_edf_blocked_script : List (ℤ × Item)
row_edf_blocked_script = []

-- the lines of its run up to tick 46
unfoldable pub row_edf_blocked_lines : List (ℕ × Event)
row_edf_blocked_lines = run_of row_edf_blocked_program row_edf_blocked_script 46

unfoldable pub row_edf_blocked_trace : List (ℕ × Event)
row_edf_blocked_trace =
    (0, line.New (created.Task (task 0)) (codes "main") 15)
    ∷ (0, line.Ready (t 0) 15 Tail None)
    ∷ (0, line.Run (t 0))
    ∷ (1, line.New (created.Object (p 1)) (codes "pk.o") 30)
    ∷ (3, line.New (created.Task (task 1)) (codes "pk.t") 5)
    ∷ (5, line.New (created.Task (task 2)) (codes "pk.u") 12)
    ∷ (7, line.Ready (t 1) 15 Tail None)
    ∷ (7, line.Ready (t 2) 15 Tail None)
    ∷ (7, line.Block (t 0) waits.Activation)
    ∷ (7, line.Run (t 1))
    ∷ (10, line.Block (t 1) waits.Delay)
    ∷ (10, line.Run (t 2))
    ∷ (11, line.Ready (t 0) 15 Tail None)
    ∷ (11, line.Ready (t 2) 12 Head None)
    ∷ (11, line.Run (t 0))
    ∷ (17, line.Deadline (task 1) (pos 99))
    ∷ (20, line.Raise (t 0) (codes "program_error"))
    ∷ (26, line.Raise (t 0) (codes "program_error"))
    ∷ (30, line.Ready (t 1) 1 Tail (Some (pos 99)))
    ∷ (31, line.Enter (t 0) (p 1) Write)
    ∷ (31, line.Ready (t 0) 30 Head None)
    ∷ (35, line.Raise (t 0) (codes "program_error"))
    ∷ (37, line.Exit (t 0) (p 1))
    ∷ (37, line.Ready (t 0) 15 Head None)
    ∷ (41, line.Leave (t 0) (region 1) leaves.End)
    ∷ (41, line.Block (t 0) waits.Dependents)
    ∷ (41, line.Run (t 2))
    ∷ (43, line.Done (task 2))
    ∷ (43, line.Run (t 1))
    ∷ (44, line.Done (task 1))
    ∷ (44, line.Ready (t 0) 15 Tail None)
    ∷ (44, line.Run (t 0))
    ∷ (45, line.Left (t 0) (region 1))
    ∷ (45, line.Done (task 0))
    ∷ (45, line.End end.Completed)
    ∷ []

pub row_edf_blocked_runs : row_edf_blocked_lines ≡ row_edf_blocked_trace
unfolding row_edf_blocked_lines row_edf_blocked_trace digits computing
row_edf_blocked_runs = refl

-- whether every world of its run is well formed
unfoldable pub row_edf_blocked_worlds : Bool
row_edf_blocked_worlds = run_is_well_formed row_edf_blocked_program row_edf_blocked_script 46

pub row_edf_blocked_keeps : row_edf_blocked_worlds ≡ true
unfolding row_edf_blocked_worlds computing
row_edf_blocked_keeps = refl

-- whether each handler is released at its tick
unfoldable pub row_edf_blocked_handlers : Bool
row_edf_blocked_handlers = releases_ok row_edf_blocked_program row_edf_blocked_script 46

pub row_edf_blocked_releases : row_edf_blocked_handlers ≡ true
unfolding row_edf_blocked_handlers computing
row_edf_blocked_releases = refl
