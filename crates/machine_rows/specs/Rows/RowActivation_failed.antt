use Rattle.std.specs.Prelude.{◌≡◌, ℕ, ℤ, pos, negsuc, List, [], ◌∷◌, Some, None, true, false, codes, refl}
use Rattle.ann_base.specs.declared.exceptions.Raised.TheVariants as exception
use Rattle.trace_text.specs.declared.events.Event.{Event}
use Rattle.trace_text.specs.declared.events.Event.TheVariants as line
use Rattle.trace_text.specs.declared.events.Created.TheVariants as created
use Rattle.trace_text.specs.declared.events.Ended.TheVariants as end
use Rattle.trace_text.specs.declared.events.Leaves.TheVariants as leaves
use Rattle.trace_text.specs.declared.events.Mode.TheVariants.{Read}
use Rattle.trace_text.specs.declared.events.QueueEnd.TheVariants.{Head, Tail}
use Rattle.trace_text.specs.declared.events.Waits.TheVariants as waits
use Rattle.profile_image.specs.declared.script_items.Item.{Item}
use Rattle.profile_image.specs.declared.image.Image.{Image}
use Rattle.profile_image.specs.declared.image.Queuing.TheVariants as queuing
use Rattle.profile_image.specs.declared.values.Value.TheVariants.{Whole}
use Rattle.profile_image.specs.declared.values.Constraint.TheVariants.{Free, Whole}
use Rattle.profile_image.specs.declared.expressions.Expression.TheVariants.{Known, Variable}
use Rattle.profile_image.specs.declared.expressions.ObjectName.TheVariants.{Declared}
use Rattle.profile_image.specs.declared.declarations.DeclarationKind.TheVariants as kind
use Rattle.profile_image.specs.declared.declarations.Initial.TheVariants as initial
use Rattle.profile_image.specs.declared.declarations.ExceptionChoice.TheVariants as exception_choice
use Rattle.profile_image.specs.declared.statements.StatementForm.TheVariants as form
use Rattle.profile_image.specs.declared.statements.Callee.TheVariants as callee
use Rattle.profile_image.specs.declared.statements.Destination.TheVariants as destination
use Rattle.profile_machine.specs.Notation.{decl, expr, stmt, scope, subprogram, task_unit, protected_unit, controlled_type, task, p, region, t, declaration, variable, statement, handler, scope_text, subprogram_text, task_unit_text, protected_unit_text, controlled_text, policies, main_procedure}
use Rattle.profile_machine.specs.Run.{run_of}
use Rattle.profile_machine.specs.Computing.{computing}
use Rattle.std.specs.Fmt.{digits}
use Rattle.std.specs.Prelude.{Bool}
use Rattle.profile_machine.specs.WellFormed.{run_is_well_formed}
use Rattle.profile_machine.specs.Releases.{releases_ok}

-- Row activation.failed: its run stops before tick 26, so every greater bound gives the same trace.
abbrev pub row_activation_failed_program : Image
row_activation_failed_program =
    record {
      declarations =
          declaration (codes "o") (codes "main.o") (kind.Protected (protected_unit 0)) (scope 1) 0 16 Free None
          ∷ declaration (codes "t") (codes "main.t") (kind.Task (task_unit 0)) (scope 1) 16 1 Free None
          ∷ declaration (codes "a") (codes "main.t.a") (kind.Controlled (controlled_type 0)) (scope 3) 0 1 Free None
          ∷ declaration (codes "n") (codes "main.t.n") (kind.Object initial.Default) (scope 3) 1 1 (Whole (negsuc 2147483647) (pos 2147483647)) None
          ∷ declaration (codes "m") (codes "main.t.m") (kind.Object (initial.Scalar (expr 1))) (scope 3) 2 1 (Whole (pos 0) (pos 2147483647)) None
          ∷ [];
      expressions =
          Known (Whole (negsuc 0))
          ∷ Variable (variable (Declared (decl 3)) None)
          ∷ [];
      statements =
          statement (form.CallMain) 0 None
          ∷ statement (form.ReturnValue (subprogram 0) (expr 0)) 0 None
          ∷ statement (form.Null) 0 None
          ∷ statement (form.EndActivation) 0 (Some (stmt 2))
          ∷ statement (form.Declare (decl 4)) 0 (Some (stmt 3))
          ∷ statement (form.Call (callee.Operation (decl 0) (subprogram 0)) [] (destination.Declaration (decl 3))) 0 (Some (stmt 4))
          ∷ statement (form.Initialize (decl 2)) 0 (Some (stmt 5))
          ∷ statement (form.Declare (decl 2)) 0 (Some (stmt 6))
          ∷ statement (form.Handled (handler (exception_choice.Named exception.Tasking ∷ []) (stmt 11) ∷ []) (stmt 10)) 0 None
          ∷ statement (form.Null) 0 None
          ∷ statement (form.Activate 0) 0 (Some (stmt 9))
          ∷ statement (form.Null) 0 None
          ∷ statement (form.CreateTask (decl 1) 0) 0 (Some (stmt 8))
          ∷ statement (form.Declare (decl 0)) 0 (Some (stmt 12))
          ∷ [];
      scopes =
          scope_text None 0 [] false (Some (stmt 0))
          ∷ scope_text (Some (scope 0)) 17 [] true (Some (stmt 13))
          ∷ scope_text (Some (scope 1)) 1 [] false (Some (stmt 1))
          ∷ scope_text (Some (scope 1)) 3 [] true (Some (stmt 7))
          ∷ [];
      subprograms =
          subprogram_text (codes "f") (scope 2) [] (Some (Whole (negsuc 2147483647) (pos 2147483647))) (Some (protected_unit 0))
          ∷ [];
      task_units =
          task_unit_text (scope 3) (Some 5) None []
          ∷ [];
      protected_units =
          protected_unit_text 20 [] [] []
          ∷ [];
      entries = [];
      controlled_types =
          controlled_text [] None None None
          ∷ [];
      enumerations = [];
      policies = (policies [] queuing.Fifo None 30);
      environment = (scope 0);
      main = (main_procedure (codes "main") 15 (scope 1));
    }

abbrev pub row_activation_failed_script : List (ℤ × Item)
row_activation_failed_script = []

-- the lines of its run up to tick 26
unfoldable pub row_activation_failed_lines : List (ℕ × Event)
row_activation_failed_lines = run_of row_activation_failed_program row_activation_failed_script 26

unfoldable pub row_activation_failed_trace : List (ℕ × Event)
row_activation_failed_trace =
    (0, line.New (created.Task (task 0)) (codes "main") 15)
    ∷ (0, line.Ready (t 0) 15 Tail None)
    ∷ (0, line.Run (t 0))
    ∷ (3, line.New (created.Object (p 1)) (codes "main.o") 20)
    ∷ (5, line.New (created.Task (task 1)) (codes "main.t") 5)
    ∷ (7, line.Ready (t 1) 15 Tail None)
    ∷ (7, line.Block (t 0) waits.Activation)
    ∷ (7, line.Run (t 1))
    ∷ (10, line.Init (t 1) 1 (region 2) (codes "a"))
    ∷ (12, line.Enter (t 1) (p 1) Read)
    ∷ (12, line.Ready (t 1) 20 Head None)
    ∷ (15, line.Exit (t 1) (p 1))
    ∷ (15, line.Ready (t 1) 15 Head None)
    ∷ (16, line.Raise (t 1) (codes "constraint_error"))
    ∷ (17, line.Leave (t 1) (region 2) leaves.Exception)
    ∷ (17, line.Ready (t 0) 15 Tail None)
    ∷ (17, line.Raise (t 0) (codes "tasking_error"))
    ∷ (17, line.Ready (t 1) 5 Head None)
    ∷ (17, line.Run (t 0))
    ∷ (20, line.Leave (t 0) (region 1) leaves.End)
    ∷ (20, line.Block (t 0) waits.Dependents)
    ∷ (20, line.Run (t 1))
    ∷ (22, line.Final (t 1) 1)
    ∷ (23, line.Left (t 1) (region 2))
    ∷ (23, line.Done (task 1))
    ∷ (23, line.Ready (t 0) 15 Tail None)
    ∷ (23, line.Run (t 0))
    ∷ (24, line.Left (t 0) (region 1))
    ∷ (25, line.Done (task 0))
    ∷ (25, line.End end.Completed)
    ∷ []

pub row_activation_failed_runs : row_activation_failed_lines ≡ row_activation_failed_trace
unfolding row_activation_failed_lines row_activation_failed_trace digits computing
row_activation_failed_runs = refl

-- whether every world of its run is well formed
unfoldable pub row_activation_failed_worlds : Bool
row_activation_failed_worlds = run_is_well_formed row_activation_failed_program row_activation_failed_script 26

pub row_activation_failed_keeps : row_activation_failed_worlds ≡ true
unfolding row_activation_failed_worlds computing
row_activation_failed_keeps = refl

-- whether each handler is released at its tick
unfoldable pub row_activation_failed_handlers : Bool
row_activation_failed_handlers = releases_ok row_activation_failed_program row_activation_failed_script 26

pub row_activation_failed_releases : row_activation_failed_handlers ≡ true
unfolding row_activation_failed_handlers computing
row_activation_failed_releases = refl
