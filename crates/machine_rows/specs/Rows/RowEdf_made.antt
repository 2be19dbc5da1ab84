use Rattle.std.specs.Prelude.{◌≡◌, ℕ, ℤ, pos, negsuc, List, [], ◌∷◌, Some, None, true, false, codes, refl}
use Rattle.trace_text.specs.declared.events.Event.{Event}
use Rattle.trace_text.specs.declared.events.Event.TheVariants as line
use Rattle.trace_text.specs.declared.events.Created.TheVariants as created
use Rattle.trace_text.specs.declared.events.Ended.TheVariants as end
use Rattle.trace_text.specs.declared.events.Leaves.TheVariants as leaves
use Rattle.trace_text.specs.declared.events.QueueEnd.TheVariants.{Tail}
use Rattle.trace_text.specs.declared.events.Waits.TheVariants as waits
use Rattle.profile_image.specs.declared.script_items.Item.{Item}
use Rattle.profile_image.specs.declared.image.Image.{Image}
use Rattle.profile_image.specs.declared.image.Dispatching.TheVariants.{EdfAcrossPriorities}
use Rattle.profile_image.specs.declared.image.Queuing.TheVariants as queuing
use Rattle.profile_image.specs.declared.values.Value.TheVariants.{Whole, Ticks, Thing}
use Rattle.profile_image.specs.declared.values.Constraint.TheVariants.{Free, Whole, Ticks}
use Rattle.profile_image.specs.declared.expressions.Expression.TheVariants.{Known, Thing, Binary, Span}
use Rattle.profile_image.specs.declared.expressions.BinaryOperator.TheVariants as binary
use Rattle.profile_image.specs.declared.declarations.DeclarationKind.TheVariants as kind
use Rattle.profile_image.specs.declared.declarations.Initial.TheVariants as initial
use Rattle.profile_image.specs.declared.statements.StatementForm.TheVariants as form
use Rattle.profile_image.specs.declared.statements.Callee.TheVariants as callee
use Rattle.profile_image.specs.declared.statements.Destination.TheVariants as destination
use Rattle.profile_machine.specs.Notation.{decl, expr, stmt, scope, subprogram, task_unit, task, region, t, declaration, statement, scope_text, subprogram_text, task_unit_text, dispatching_range, policies, main_procedure}
use Rattle.profile_machine.specs.Run.{run_of}
use Rattle.profile_machine.specs.Computing.{computing}
use Rattle.std.specs.Fmt.{digits}
use Rattle.std.specs.Prelude.{Bool}
use Rattle.profile_machine.specs.WellFormed.{run_is_well_formed}
use Rattle.profile_machine.specs.Releases.{releases_ok}

-- Row edf.made: its run stops before tick 42, so every greater bound gives the same trace.
abbrev pub row_edf_made_program : Image
row_edf_made_program =
    record {
      declarations =
          declaration (codes "a") (codes "pk.a") (kind.Task (task_unit 0)) (scope 0) 0 1 Free None
          ∷ declaration (codes "x") (codes "pk.x") (kind.Object initial.Default) (scope 0) 1 1 (Whole (negsuc 2147483647) (pos 2147483647)) None
          ∷ declaration (codes "b") (codes "pk.b") (kind.Task (task_unit 1)) (scope 0) 2 1 Free None
          ∷ [];
      expressions =
          Known (Ticks (pos 10))
          ∷ Known (Whole (pos 1))
          ∷ Known (Ticks (pos 0))
          ∷ Known (Whole (pos 40))
          ∷ Span (pos 1) (expr 3)
          ∷ Binary binary.Plus (expr 2) (expr 4)
          ∷ Thing (decl 0)
          ∷ Known (Ticks (pos 0))
          ∷ Known (Whole (pos 32))
          ∷ Span (pos 1) (expr 8)
          ∷ Binary binary.Plus (expr 7) (expr 9)
          ∷ Known (Whole (pos 7))
          ∷ Span (pos 1) (expr 11)
          ∷ Known (Whole (pos 50))
          ∷ Span (pos 1) (expr 13)
          ∷ [];
      statements =
          statement (form.CallMain) 0 None
          ∷ statement (form.Delay (expr 0)) 0 None
          ∷ statement (form.ReturnValue (subprogram 0) (expr 1)) 0 None
          ∷ statement (form.SetDeadline (expr 5) (Some (expr 6))) 2 (Some (stmt 2))
          ∷ statement (form.Null) 0 None
          ∷ statement (form.DelayUntilAndSetDeadline (expr 10) (expr 12)) 3 (Some (stmt 4))
          ∷ statement (form.EndActivation) 0 (Some (stmt 5))
          ∷ statement (form.Null) 0 None
          ∷ statement (form.Null) 0 (Some (stmt 7))
          ∷ statement (form.EndActivation) 0 (Some (stmt 8))
          ∷ statement (form.Activate 1) 0 (Some (stmt 0))
          ∷ statement (form.CreateTask (decl 2) 1) 0 (Some (stmt 10))
          ∷ statement (form.Call (callee.Subprogram (subprogram 0)) [] (destination.Declaration (decl 1))) 0 (Some (stmt 11))
          ∷ statement (form.CreateTask (decl 0) 1) 0 (Some (stmt 12))
          ∷ [];
      scopes =
          scope_text None 3 [] true (Some (stmt 13))
          ∷ scope_text (Some (scope 0)) 1 [] false (Some (stmt 3))
          ∷ scope_text (Some (scope 0)) 0 [] false (Some (stmt 6))
          ∷ scope_text (Some (scope 0)) 0 [] false (Some (stmt 9))
          ∷ scope_text (Some (scope 0)) 0 [] false (Some (stmt 1))
          ∷ [];
      subprograms =
          subprogram_text (codes "f") (scope 1) [] (Some (Whole (negsuc 2147483647) (pos 2147483647))) None
          ∷ [];
      task_units =
          task_unit_text (scope 2) (Some 5) (Some (expr 14)) []
          ∷ task_unit_text (scope 3) (Some 5) None []
          ∷ [];
      protected_units = [];
      entries = [];
      controlled_types = [];
      enumerations = [];
      policies = (policies (dispatching_range EdfAcrossPriorities 0 30 ∷ []) queuing.Fifo None 30);
      environment = (scope 0);
      main = (main_procedure (codes "main") 31 (scope 4));
    }

abbrev pub row_edf_made_script : List (ℤ × Item)
row_edf_made_script = []

-- the lines of its run up to tick 42
unfoldable pub row_edf_made_lines : List (ℕ × Event)
row_edf_made_lines = run_of row_edf_made_program row_edf_made_script 42

unfoldable pub row_edf_made_trace : List (ℕ × Event)
row_edf_made_trace =
    (0, line.New (created.Task (task 0)) (codes "main") 31)
    ∷ (0, line.Ready (t 0) 31 Tail None)
    ∷ (0, line.Run (t 0))
    ∷ (2, line.New (created.Task (task 1)) (codes "pk.a") 5)
    ∷ (8, line.Deadline (task 1) (pos 40))
    ∷ (12, line.New (created.Task (task 2)) (codes "pk.b") 5)
    ∷ (14, line.Ready (t 1) 31 Tail None)
    ∷ (14, line.Ready (t 2) 31 Tail None)
    ∷ (14, line.Block (t 0) waits.Activation)
    ∷ (14, line.Run (t 1))
    ∷ (20, line.Deadline (task 1) (pos 39))
    ∷ (20, line.Block (t 1) waits.Delay)
    ∷ (20, line.Run (t 2))
    ∷ (21, line.Ready (t 0) 31 Tail None)
    ∷ (24, line.Done (task 2))
    ∷ (24, line.Run (t 0))
    ∷ (28, line.Block (t 0) waits.Delay)
    ∷ (28, line.Idle)
    ∷ (32, line.Ready (t 1) 0 Tail (Some (pos 39)))
    ∷ (32, line.Run (t 1))
    ∷ (34, line.Done (task 1))
    ∷ (34, line.Idle)
    ∷ (38, line.Ready (t 0) 31 Tail None)
    ∷ (38, line.Run (t 0))
    ∷ (40, line.Leave (t 0) (region 1) leaves.End)
    ∷ (41, line.Left (t 0) (region 1))
    ∷ (41, line.Done (task 0))
    ∷ (41, line.End end.Completed)
    ∷ []

pub row_edf_made_runs : row_edf_made_lines ≡ row_edf_made_trace
unfolding row_edf_made_lines row_edf_made_trace digits computing
row_edf_made_runs = refl

-- whether every world of its run is well formed
unfoldable pub row_edf_made_worlds : Bool
row_edf_made_worlds = run_is_well_formed row_edf_made_program row_edf_made_script 42

pub row_edf_made_keeps : row_edf_made_worlds ≡ true
unfolding row_edf_made_worlds computing
row_edf_made_keeps = refl

-- whether each handler is released at its tick
unfoldable pub row_edf_made_handlers : Bool
row_edf_made_handlers = releases_ok row_edf_made_program row_edf_made_script 42

pub row_edf_made_releases : row_edf_made_handlers ≡ true
unfolding row_edf_made_handlers computing
row_edf_made_releases = refl
