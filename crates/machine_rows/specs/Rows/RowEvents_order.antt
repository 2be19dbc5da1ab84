use Rattle.std.specs.Prelude.{◌≡◌, ℕ, ℤ, pos, List, [], ◌∷◌, Some, None, true, false, codes, refl}
use Rattle.trace_text.specs.declared.events.Event.{Event}
use Rattle.trace_text.specs.declared.events.Event.TheVariants as line
use Rattle.trace_text.specs.declared.events.Created.TheVariants as created
use Rattle.trace_text.specs.declared.events.Ended.TheVariants as end
use Rattle.trace_text.specs.declared.events.Leaves.TheVariants as leaves
use Rattle.trace_text.specs.declared.events.Mode.TheVariants.{Write}
use Rattle.trace_text.specs.declared.events.QueueEnd.TheVariants.{Tail}
use Rattle.trace_text.specs.declared.events.Waits.TheVariants as waits
use Rattle.profile_image.specs.declared.script_items.Item.{Item}
use Rattle.profile_image.specs.declared.image.Image.{Image}
use Rattle.profile_image.specs.declared.image.Queuing.TheVariants as queuing
use Rattle.profile_image.specs.declared.values.Value.TheVariants.{Whole, Ticks}
use Rattle.profile_image.specs.declared.values.Constraint.TheVariants.{Free, Whole, Ticks}
use Rattle.profile_image.specs.declared.expressions.Expression.TheVariants.{Known, Binary, Span}
use Rattle.profile_image.specs.declared.expressions.BinaryOperator.TheVariants as binary
use Rattle.profile_image.specs.declared.declarations.DeclarationKind.TheVariants as kind
use Rattle.profile_image.specs.declared.statements.StatementForm.TheVariants as form
use Rattle.profile_image.specs.declared.statements.Setting.TheVariants as setting
use Rattle.profile_machine.specs.Notation.{decl, expr, stmt, scope, subprogram, task_unit, protected_unit, task, p, region, t, agent, declaration, statement, handler_name, scope_text, formal, subprogram_text, task_unit_text, protected_unit_text, policies, main_procedure}
use Rattle.profile_machine.specs.Run.{run_of}
use Rattle.profile_machine.specs.Computing.{computing}
use Rattle.std.specs.Fmt.{digits}
use Rattle.std.specs.Prelude.{Bool}
use Rattle.profile_machine.specs.WellFormed.{run_is_well_formed}
use Rattle.profile_machine.specs.Releases.{releases_ok}

-- Row events.order: its run stops before tick 42, so every greater bound gives the same trace.
abbrev pub row_events_order_program : Image
row_events_order_program =
    record {
      declarations =
          declaration (codes "e") (codes "pk.e") kind.Event (scope 0) 0 1 Free None
          ∷ declaration (codes "h") (codes "pk.h") (kind.Protected (protected_unit 0)) (scope 0) 1 16 Free None
          ∷ declaration (codes "e") (codes "pk.h.e") kind.Parameter (scope 1) 0 1 Free None
          ∷ declaration (codes "t") (codes "main.t") (kind.Task (task_unit 0)) (scope 2) 0 1 Free None
          ∷ [];
      expressions =
          Known (Ticks (pos 0))
          ∷ Known (Whole (pos 29))
          ∷ Span (pos 1) (expr 1)
          ∷ Binary binary.Plus (expr 0) (expr 2)
          ∷ Known (Ticks (pos 0))
          ∷ Known (Whole (pos 29))
          ∷ Span (pos 1) (expr 5)
          ∷ Binary binary.Plus (expr 4) (expr 6)
          ∷ Known (Ticks (pos 1000000))
          ∷ Known (Ticks (pos 20))
          ∷ Known (Ticks (pos 0))
          ∷ Known (Whole (pos 29))
          ∷ Span (pos 1) (expr 11)
          ∷ Binary binary.Plus (expr 10) (expr 12)
          ∷ [];
      statements =
          statement (form.CallMain) 0 None
          ∷ statement (form.Null) 0 None
          ∷ statement (form.DelayUntil (expr 3)) 2 (Some (stmt 1))
          ∷ statement (form.EndActivation) 0 (Some (stmt 2))
          ∷ statement (form.AsynchronousSelect (stmt 6) (stmt 7)) 2 None
          ∷ statement (form.Null) 0 None
          ∷ statement (form.DelayUntil (expr 7)) 2 (Some (stmt 5))
          ∷ statement (form.Delay (expr 8)) 0 None
          ∷ statement (form.AsynchronousSelect (stmt 9) (stmt 10)) 0 (Some (stmt 4))
          ∷ statement (form.Delay (expr 9)) 0 (Some (stmt 4))
          ∷ statement (form.Null) 0 None
          ∷ statement (form.SetEvent (decl 0) (setting.At (expr 13)) (Some (handler_name (decl 1) (subprogram 0)))) 2 (Some (stmt 8))
          ∷ statement (form.Activate 0) 0 (Some (stmt 11))
          ∷ statement (form.CreateTask (decl 3) 0) 0 (Some (stmt 12))
          ∷ statement (form.Null) 0 None
          ∷ statement (form.Declare (decl 1)) 0 (Some (stmt 0))
          ∷ statement (form.Declare (decl 0)) 0 (Some (stmt 15))
          ∷ [];
      scopes =
          scope_text None 17 [] false (Some (stmt 16))
          ∷ scope_text (Some (scope 0)) 1 [] false (Some (stmt 14))
          ∷ scope_text (Some (scope 0)) 1 [] true (Some (stmt 13))
          ∷ scope_text (Some (scope 2)) 0 [] false (Some (stmt 3))
          ∷ [];
      subprograms =
          subprogram_text (codes "fire") (scope 1) (formal Free (Whole (pos 0)) ∷ []) None (Some (protected_unit 0))
          ∷ [];
      task_units =
          task_unit_text (scope 3) (Some 20) None []
          ∷ [];
      protected_units =
          protected_unit_text 31 [] [] []
          ∷ [];
      entries = [];
      controlled_types = [];
      enumerations = [];
      policies = (policies [] queuing.Fifo None 30);
      environment = (scope 0);
      main = (main_procedure (codes "main") 15 (scope 2));
    }

abbrev pub row_events_order_script : List (ℤ × Item)
row_events_order_script = []

-- the lines of its run up to tick 42
unfoldable pub row_events_order_lines : List (ℕ × Event)
row_events_order_lines = run_of row_events_order_program row_events_order_script 42

unfoldable pub row_events_order_trace : List (ℕ × Event)
row_events_order_trace =
    (0, line.New (created.Task (task 0)) (codes "main") 15)
    ∷ (0, line.Ready (t 0) 15 Tail None)
    ∷ (0, line.Run (t 0))
    ∷ (2, line.New (created.Object (p 1)) (codes "pk.h") 31)
    ∷ (6, line.New (created.Task (task 1)) (codes "main.t") 20)
    ∷ (8, line.Ready (t 1) 20 Tail None)
    ∷ (8, line.Block (t 0) waits.Activation)
    ∷ (8, line.Run (t 1))
    ∷ (9, line.Ready (t 0) 15 Tail None)
    ∷ (13, line.Block (t 1) waits.Delay)
    ∷ (13, line.Run (t 0))
    ∷ (27, line.Block (t 0) waits.Delay)
    ∷ (27, line.Idle)
    ∷ (29, line.Release 1 (p 1) (codes "fire"))
    ∷ (29, line.Ready agent 31 Tail None)
    ∷ (29, line.Ready (t 1) 20 Tail None)
    ∷ (29, line.Trigger (task 0))
    ∷ (29, line.Ready (t 0) 15 Tail None)
    ∷ (29, line.Run agent)
    ∷ (29, line.Serve 1)
    ∷ (31, line.Enter agent (p 1) Write)
    ∷ (34, line.Exit agent (p 1))
    ∷ (34, line.Served 1)
    ∷ (34, line.Block agent waits.Release)
    ∷ (34, line.Run (t 1))
    ∷ (36, line.Done (task 1))
    ∷ (36, line.Run (t 0))
    ∷ (39, line.Leave (t 0) (region 1) leaves.End)
    ∷ (40, line.Left (t 0) (region 1))
    ∷ (41, line.Done (task 0))
    ∷ (41, line.End end.Completed)
    ∷ []

pub row_events_order_runs : row_events_order_lines ≡ row_events_order_trace
unfolding row_events_order_lines row_events_order_trace digits computing
row_events_order_runs = refl

-- whether every world of its run is well formed
unfoldable pub row_events_order_worlds : Bool
row_events_order_worlds = run_is_well_formed row_events_order_program row_events_order_script 42

pub row_events_order_keeps : row_events_order_worlds ≡ true
unfolding row_events_order_worlds computing
row_events_order_keeps = refl

-- whether each handler is released at its tick
unfoldable pub row_events_order_handlers : Bool
row_events_order_handlers = releases_ok row_events_order_program row_events_order_script 42

pub row_events_order_releases : row_events_order_handlers ≡ true
unfolding row_events_order_handlers computing
row_events_order_releases = refl
