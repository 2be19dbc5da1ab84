use Rattle.std.specs.Prelude.{◌≡◌, ℕ, ℤ, pos, List, [], ◌∷◌, Some, None, true, false, codes, refl}
use Rattle.trace_text.specs.declared.events.Event.{Event}
use Rattle.trace_text.specs.declared.events.Event.TheVariants as line
use Rattle.trace_text.specs.declared.events.Created.TheVariants as created
use Rattle.trace_text.specs.declared.events.Ended.TheVariants as end
use Rattle.trace_text.specs.declared.events.Leaves.TheVariants as leaves
use Rattle.trace_text.specs.declared.events.Mode.TheVariants.{Write}
use Rattle.trace_text.specs.declared.events.QueueEnd.TheVariants.{Head, Tail}
use Rattle.trace_text.specs.declared.events.Waits.TheVariants as waits
use Rattle.profile_image.specs.declared.script_items.Item.{Item}
use Rattle.profile_image.specs.declared.image.Image.{Image}
use Rattle.profile_image.specs.declared.image.Dispatching.TheVariants.{EdfAcrossPriorities}
use Rattle.profile_image.specs.declared.image.Queuing.TheVariants as queuing
use Rattle.profile_image.specs.declared.values.Value.TheVariants.{Whole, Ticks}
use Rattle.profile_image.specs.declared.values.Constraint.TheVariants.{Free, Whole, Ticks}
use Rattle.profile_image.specs.declared.expressions.Expression.TheVariants.{Known, Span}
use Rattle.profile_image.specs.declared.declarations.DeclarationKind.TheVariants as kind
use Rattle.profile_image.specs.declared.statements.StatementForm.TheVariants as form
use Rattle.profile_image.specs.declared.statements.Callee.TheVariants as callee
use Rattle.profile_image.specs.declared.statements.Destination.TheVariants as destination
use Rattle.profile_machine.specs.Notation.{decl, expr, stmt, scope, subprogram, task_unit, protected_unit, task, p, region, t, declaration, statement, scope_text, subprogram_text, task_unit_text, protected_unit_text, dispatching_range, policies, main_procedure}
use Rattle.profile_machine.specs.Run.{run_of}
use Rattle.profile_machine.specs.Computing.{computing}
use Rattle.std.specs.Fmt.{digits}
use Rattle.std.specs.Prelude.{Bool}
use Rattle.profile_machine.specs.WellFormed.{run_is_well_formed}
use Rattle.profile_machine.specs.Releases.{releases_ok}

-- Row edf.levels: its run stops before tick 40, so every greater bound gives the same trace.
abbrev pub row_edf_levels_program : Image
row_edf_levels_program =
    record {
      declarations =
          declaration (codes "p") (codes "pk.p") (kind.Protected (protected_unit 0)) (scope 0) 0 16 Free None
          ∷ declaration (codes "a") (codes "pk.a") (kind.Task (task_unit 0)) (scope 0) 16 1 Free None
          ∷ declaration (codes "b") (codes "pk.b") (kind.Task (task_unit 1)) (scope 0) 17 1 Free None
          ∷ declaration (codes "c") (codes "pk.c") (kind.Task (task_unit 2)) (scope 0) 18 1 Free None
          ∷ [];
      expressions =
          Known (Ticks (pos 1))
          ∷ Known (Ticks (pos 11))
          ∷ Known (Ticks (pos 9))
          ∷ Known (Whole (pos 100))
          ∷ Span (pos 1) (expr 3)
          ∷ Known (Whole (pos 30))
          ∷ Span (pos 1) (expr 5)
          ∷ Known (Whole (pos 40))
          ∷ Span (pos 1) (expr 7)
          ∷ [];
      statements =
          statement (form.CallMain) 0 None
          ∷ statement (form.Null) 0 None
          ∷ statement (form.Null) 0 None
          ∷ statement (form.Null) 0 (Some (stmt 2))
          ∷ statement (form.Null) 0 (Some (stmt 3))
          ∷ statement (form.Null) 0 (Some (stmt 4))
          ∷ statement (form.Call (callee.Operation (decl 0) (subprogram 0)) [] destination.Nowhere) 0 None
          ∷ statement (form.Delay (expr 0)) 0 (Some (stmt 6))
          ∷ statement (form.EndActivation) 0 (Some (stmt 7))
          ∷ statement (form.Null) 0 None
          ∷ statement (form.Null) 0 (Some (stmt 9))
          ∷ statement (form.Null) 0 (Some (stmt 10))
          ∷ statement (form.Delay (expr 1)) 0 (Some (stmt 11))
          ∷ statement (form.EndActivation) 0 (Some (stmt 12))
          ∷ statement (form.Null) 0 None
          ∷ statement (form.Delay (expr 2)) 0 (Some (stmt 14))
          ∷ statement (form.EndActivation) 0 (Some (stmt 15))
          ∷ statement (form.Activate 1) 0 (Some (stmt 0))
          ∷ statement (form.CreateTask (decl 3) 1) 0 (Some (stmt 17))
          ∷ statement (form.CreateTask (decl 2) 1) 0 (Some (stmt 18))
          ∷ statement (form.CreateTask (decl 1) 1) 0 (Some (stmt 19))
          ∷ statement (form.Declare (decl 0)) 0 (Some (stmt 20))
          ∷ [];
      scopes =
          scope_text None 19 [] true (Some (stmt 21))
          ∷ scope_text (Some (scope 0)) 0 [] false (Some (stmt 5))
          ∷ scope_text (Some (scope 0)) 0 [] false (Some (stmt 8))
          ∷ scope_text (Some (scope 0)) 0 [] false (Some (stmt 13))
          ∷ scope_text (Some (scope 0)) 0 [] false (Some (stmt 16))
          ∷ scope_text (Some (scope 0)) 0 [] false (Some (stmt 1))
          ∷ [];
      subprograms =
          subprogram_text (codes "go") (scope 1) [] None (Some (protected_unit 0))
          ∷ [];
      task_units =
          task_unit_text (scope 2) (Some 5) (Some (expr 4)) []
          ∷ task_unit_text (scope 3) (Some 18) (Some (expr 6)) []
          ∷ task_unit_text (scope 4) (Some 18) (Some (expr 8)) []
          ∷ [];
      protected_units =
          protected_unit_text 12 [] [] []
          ∷ [];
      entries = [];
      controlled_types = [];
      enumerations = [];
      policies = (policies (dispatching_range EdfAcrossPriorities 0 30 ∷ []) queuing.Fifo None 30);
      environment = (scope 0);
      main = (main_procedure (codes "main") 31 (scope 5));
    }

abbrev pub row_edf_levels_script : List (ℤ × Item)
row_edf_levels_script = []

-- the lines of its run up to tick 40
unfoldable pub row_edf_levels_lines : List (ℕ × Event)
row_edf_levels_lines = run_of row_edf_levels_program row_edf_levels_script 40

unfoldable pub row_edf_levels_trace : List (ℕ × Event)
row_edf_levels_trace =
    (0, line.New (created.Task (task 0)) (codes "main") 31)
    ∷ (0, line.Ready (t 0) 31 Tail None)
    ∷ (0, line.Run (t 0))
    ∷ (1, line.New (created.Object (p 1)) (codes "pk.p") 12)
    ∷ (3, line.New (created.Task (task 1)) (codes "pk.a") 5)
    ∷ (5, line.New (created.Task (task 2)) (codes "pk.b") 18)
    ∷ (7, line.New (created.Task (task 3)) (codes "pk.c") 18)
    ∷ (9, line.Ready (t 1) 31 Tail None)
    ∷ (9, line.Ready (t 2) 31 Tail None)
    ∷ (9, line.Ready (t 3) 31 Tail None)
    ∷ (9, line.Block (t 0) waits.Activation)
    ∷ (9, line.Run (t 1))
    ∷ (12, line.Block (t 1) waits.Delay)
    ∷ (12, line.Run (t 2))
    ∷ (13, line.Ready (t 1) 0 Tail (Some (pos 109)))
    ∷ (15, line.Block (t 2) waits.Delay)
    ∷ (15, line.Run (t 3))
    ∷ (16, line.Ready (t 0) 31 Tail None)
    ∷ (18, line.Block (t 3) waits.Delay)
    ∷ (18, line.Run (t 0))
    ∷ (23, line.Leave (t 0) (region 1) leaves.End)
    ∷ (23, line.Block (t 0) waits.Dependents)
    ∷ (23, line.Run (t 1))
    ∷ (25, line.Enter (t 1) (p 1) Write)
    ∷ (25, line.Ready (t 1) 12 Head (Some (pos 109)))
    ∷ (26, line.Ready (t 2) 12 Tail (Some (pos 39)))
    ∷ (26, line.Run (t 2))
    ∷ (27, line.Ready (t 3) 12 Tail (Some (pos 49)))
    ∷ (30, line.Done (task 2))
    ∷ (30, line.Run (t 3))
    ∷ (32, line.Done (task 3))
    ∷ (32, line.Run (t 1))
    ∷ (37, line.Exit (t 1) (p 1))
    ∷ (37, line.Ready (t 1) 0 Head (Some (pos 109)))
    ∷ (38, line.Done (task 1))
    ∷ (38, line.Ready (t 0) 31 Tail None)
    ∷ (38, line.Run (t 0))
    ∷ (39, line.Left (t 0) (region 1))
    ∷ (39, line.Done (task 0))
    ∷ (39, line.End end.Completed)
    ∷ []

pub row_edf_levels_runs : row_edf_levels_lines ≡ row_edf_levels_trace
unfolding row_edf_levels_lines row_edf_levels_trace digits computing
row_edf_levels_runs = refl

-- whether every world of its run is well formed
unfoldable pub row_edf_levels_worlds : Bool
row_edf_levels_worlds = run_is_well_formed row_edf_levels_program row_edf_levels_script 40

pub row_edf_levels_keeps : row_edf_levels_worlds ≡ true
unfolding row_edf_levels_worlds computing
row_edf_levels_keeps = refl

-- whether each handler is released at its tick
unfoldable pub row_edf_levels_handlers : Bool
row_edf_levels_handlers = releases_ok row_edf_levels_program row_edf_levels_script 40

pub row_edf_levels_releases : row_edf_levels_handlers ≡ true
unfolding row_edf_levels_handlers computing
row_edf_levels_releases = refl
