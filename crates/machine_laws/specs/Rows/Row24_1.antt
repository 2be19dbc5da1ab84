use Rattle.std.specs.Prelude.{◌≡◌, ℕ, ℤ, pos, List, [], ◌∷◌, Some, None, true, false, codes, refl}
use Rattle.trace_text.specs.declared.events.Event.{Event}
use Rattle.trace_text.specs.declared.events.Event.TheVariants as line
use Rattle.trace_text.specs.declared.events.Created.TheVariants as created
use Rattle.trace_text.specs.declared.events.Ended.TheVariants as end
use Rattle.trace_text.specs.declared.events.Leaves.TheVariants as leaves
use Rattle.trace_text.specs.declared.events.QueueEnd.TheVariants.{Head, Tail}
use Rattle.trace_text.specs.declared.events.Waits.TheVariants as waits
use Rattle.profile_image.specs.declared.script_items.Item.{Item}
use Rattle.profile_image.specs.declared.image.Image.{Image}
use Rattle.profile_image.specs.declared.image.Queuing.TheVariants as queuing
use Rattle.profile_image.specs.declared.values.Value.TheVariants.{Whole, Ticks}
use Rattle.profile_image.specs.declared.values.Constraint.TheVariants.{Free, Whole, Ticks}
use Rattle.profile_image.specs.declared.expressions.Expression.TheVariants.{Known, Variable, Binary, Clock, Span}
use Rattle.profile_image.specs.declared.expressions.ObjectName.TheVariants.{Declared}
use Rattle.profile_image.specs.declared.expressions.BinaryOperator.TheVariants as binary
use Rattle.profile_image.specs.declared.declarations.DeclarationKind.TheVariants as kind
use Rattle.profile_image.specs.declared.declarations.Initial.TheVariants as initial
use Rattle.profile_image.specs.declared.statements.StatementForm.TheVariants as form
use Rattle.profile_machine.specs.Notation.{decl, expr, stmt, scope, task_unit, task, region, t, declaration, variable, statement, cell_run, scope_text, task_unit_text, policies, main_procedure}
use Rattle.profile_machine.specs.Run.{run_of}
use Rattle.profile_machine.specs.Computing.{computing}
use Rattle.std.specs.Fmt.{digits}
use Rattle.std.specs.Prelude.{Bool}
use Rattle.profile_machine.specs.WellFormed.{run_is_well_formed}
use Rattle.profile_machine.specs.Releases.{releases_ok}

-- Row 24 for one task: its run stops before tick 10113, so every greater bound gives the same trace.
abbrev pub row_24_1_program : Image
row_24_1_program =
    record {
      declarations =
          declaration (codes "t1") (codes "load.t1") (kind.Task (task_unit 0)) (scope 1) 0 1 Free None
          ∷ declaration (codes "next") (codes "load.t1.next") (kind.Object (initial.Scalar (expr 7))) (scope 2) 0 1 Free None
          ∷ declaration (codes "k") (codes "load.t1.k") kind.Parameter (scope 2) 1 2 Free None
          ∷ [];
      expressions =
          Variable (variable (Declared (decl 1)) None)
          ∷ Variable (variable (Declared (decl 1)) None)
          ∷ Known (Whole (pos 1010))
          ∷ Span (pos 1) (expr 2)
          ∷ Binary binary.Plus (expr 1) (expr 3)
          ∷ Known (Whole (pos 1))
          ∷ Known (Whole (pos 10))
          ∷ Clock
          ∷ [];
      statements =
          statement (form.CallMain) 0 None
          ∷ statement (form.For (decl 2) false (expr 5) (expr 6) (stmt 2) None) 0 None
          ∷ statement (form.FirstTurn (decl 2) false (stmt 5)) 0 None
          ∷ statement (form.LaterTurn (decl 2) false (stmt 5)) 0 None
          ∷ statement (form.DelayUntil (expr 0)) 0 (Some (stmt 3))
          ∷ statement (form.Assign (variable (Declared (decl 1)) None) (expr 4)) 2 (Some (stmt 4))
          ∷ statement (form.EndActivation) 0 (Some (stmt 1))
          ∷ statement (form.Declare (decl 1)) 1 (Some (stmt 6))
          ∷ statement (form.Null) 0 None
          ∷ statement (form.Activate 0) 0 (Some (stmt 8))
          ∷ statement (form.CreateTask (decl 0) 0) 0 (Some (stmt 9))
          ∷ [];
      scopes =
          scope_text None 0 [] false (Some (stmt 0))
          ∷ scope_text (Some (scope 0)) 1 [] true (Some (stmt 10))
          ∷ scope_text (Some (scope 1)) 3 (cell_run 0 1 (Ticks (pos 0)) ∷ []) false (Some (stmt 7))
          ∷ [];
      subprograms = [];
      task_units =
          task_unit_text (scope 2) (Some 1) None []
          ∷ [];
      protected_units = [];
      entries = [];
      controlled_types = [];
      enumerations = [];
      policies = (policies [] queuing.Fifo None 30);
      environment = (scope 0);
      main = (main_procedure (codes "load") 15 (scope 1));
    }

abbrev pub row_24_1_script : List (ℤ × Item)
row_24_1_script = []

-- the lines of its run up to tick 10113
unfoldable pub row_24_1_lines : List (ℕ × Event)
row_24_1_lines = run_of row_24_1_program row_24_1_script 10113

unfoldable pub row_24_1_trace : List (ℕ × Event)
row_24_1_trace =
    (0, line.New (created.Task (task 0)) (codes "load") 15)
    ∷ (0, line.Ready (t 0) 15 Tail None)
    ∷ (0, line.Run (t 0))
    ∷ (4, line.New (created.Task (task 1)) (codes "load.t1") 1)
    ∷ (6, line.Ready (t 1) 15 Tail None)
    ∷ (6, line.Block (t 0) waits.Activation)
    ∷ (6, line.Run (t 1))
    ∷ (9, line.Ready (t 0) 15 Tail None)
    ∷ (9, line.Ready (t 1) 1 Head None)
    ∷ (9, line.Run (t 0))
    ∷ (11, line.Leave (t 0) (region 1) leaves.End)
    ∷ (11, line.Block (t 0) waits.Dependents)
    ∷ (11, line.Run (t 1))
    ∷ (18, line.Block (t 1) waits.Delay)
    ∷ (18, line.Idle)
    ∷ (1018, line.Ready (t 1) 1 Tail None)
    ∷ (1018, line.Run (t 1))
    ∷ (1024, line.Block (t 1) waits.Delay)
    ∷ (1024, line.Idle)
    ∷ (2028, line.Ready (t 1) 1 Tail None)
    ∷ (2028, line.Run (t 1))
    ∷ (2034, line.Block (t 1) waits.Delay)
    ∷ (2034, line.Idle)
    ∷ (3038, line.Ready (t 1) 1 Tail None)
    ∷ (3038, line.Run (t 1))
    ∷ (3044, line.Block (t 1) waits.Delay)
    ∷ (3044, line.Idle)
    ∷ (4048, line.Ready (t 1) 1 Tail None)
    ∷ (4048, line.Run (t 1))
    ∷ (4054, line.Block (t 1) waits.Delay)
    ∷ (4054, line.Idle)
    ∷ (5058, line.Ready (t 1) 1 Tail None)
    ∷ (5058, line.Run (t 1))
    ∷ (5064, line.Block (t 1) waits.Delay)
    ∷ (5064, line.Idle)
    ∷ (6068, line.Ready (t 1) 1 Tail None)
    ∷ (6068, line.Run (t 1))
    ∷ (6074, line.Block (t 1) waits.Delay)
    ∷ (6074, line.Idle)
    ∷ (7078, line.Ready (t 1) 1 Tail None)
    ∷ (7078, line.Run (t 1))
    ∷ (7084, line.Block (t 1) waits.Delay)
    ∷ (7084, line.Idle)
    ∷ (8088, line.Ready (t 1) 1 Tail None)
    ∷ (8088, line.Run (t 1))
    ∷ (8094, line.Block (t 1) waits.Delay)
    ∷ (8094, line.Idle)
    ∷ (9098, line.Ready (t 1) 1 Tail None)
    ∷ (9098, line.Run (t 1))
    ∷ (9104, line.Block (t 1) waits.Delay)
    ∷ (9104, line.Idle)
    ∷ (10108, line.Ready (t 1) 1 Tail None)
    ∷ (10108, line.Run (t 1))
    ∷ (10110, line.Done (task 1))
    ∷ (10110, line.Ready (t 0) 15 Tail None)
    ∷ (10110, line.Run (t 0))
    ∷ (10111, line.Left (t 0) (region 1))
    ∷ (10112, line.Done (task 0))
    ∷ (10112, line.End end.Completed)
    ∷ []

pub row_24_1_runs : row_24_1_lines ≡ row_24_1_trace
unfolding row_24_1_lines row_24_1_trace digits computing
row_24_1_runs = refl

-- whether each handler is released at its tick
unfoldable pub row_24_1_handlers : Bool
row_24_1_handlers = releases_ok row_24_1_program row_24_1_script 10113

pub row_24_1_releases : row_24_1_handlers ≡ true
unfolding row_24_1_handlers computing
row_24_1_releases = refl

-- whether every world of its run up to tick 3,000, with three of its periods, is well formed
unfoldable pub row_24_1_worlds : Bool
row_24_1_worlds = run_is_well_formed row_24_1_program row_24_1_script 3000

pub row_24_1_keeps : row_24_1_worlds ≡ true
unfolding row_24_1_worlds computing
row_24_1_keeps = refl
