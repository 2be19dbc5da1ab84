use Rattle.std.specs.Prelude.{◌≡◌, ℕ, ℤ, pos, List, [], ◌∷◌, Some, None, true, false, codes, refl}
use Rattle.trace_text.specs.declared.events.Event.{Event}
use Rattle.trace_text.specs.declared.events.Event.TheVariants as line
use Rattle.trace_text.specs.declared.events.Created.TheVariants as created
use Rattle.trace_text.specs.declared.events.Ended.TheVariants as end
use Rattle.trace_text.specs.declared.events.Leaves.TheVariants as leaves
use Rattle.trace_text.specs.declared.events.QueueEnd.TheVariants.{Tail}
use Rattle.trace_text.specs.declared.events.Waits.TheVariants as waits
use Rattle.profile_image.specs.declared.script_items.Item.{Item}
use Rattle.profile_image.specs.declared.image.Image.{Image}
use Rattle.profile_image.specs.declared.image.Queuing.TheVariants as queuing
use Rattle.profile_image.specs.declared.values.Value.TheVariants.{Whole, Truth, Ticks}
use Rattle.profile_image.specs.declared.values.Constraint.TheVariants.{Free, Whole, Truth, Ticks}
use Rattle.profile_image.specs.declared.expressions.Expression.TheVariants.{Known, Span}
use Rattle.profile_image.specs.declared.expressions.ObjectName.TheVariants.{Declared}
use Rattle.profile_image.specs.declared.declarations.DeclarationKind.TheVariants as kind
use Rattle.profile_image.specs.declared.declarations.Initial.TheVariants as initial
use Rattle.profile_image.specs.declared.declarations.EntryUnit.TheVariants as unit
use Rattle.profile_image.specs.declared.statements.StatementForm.TheVariants as form
use Rattle.profile_image.specs.declared.statements.EntryOwner.TheVariants as owner
use Rattle.profile_image.specs.declared.statements.Setting.TheVariants as setting
use Rattle.profile_machine.specs.Notation.{decl, expr, stmt, scope, subprogram, task_unit, protected_unit, entry, task, call, p, region, t, of_task, declaration, variable, statement, handler_name, cell_run, scope_text, formal, subprogram_text, task_unit_text, protected_unit_text, entry_text, policies, main_procedure}
use Rattle.profile_machine.specs.Run.{run_of}
use Rattle.profile_machine.specs.Computing.{computing}
use Rattle.std.specs.Fmt.{digits}
use Rattle.std.specs.Prelude.{Bool}
use Rattle.profile_machine.specs.WellFormed.{run_is_well_formed}
use Rattle.profile_machine.specs.Releases.{releases_ok}

-- Row events.pending: its run stops before tick 48, so every greater bound gives the same trace.
abbrev pub row_events_pending_program : Image
row_events_pending_program =
    record {
      declarations =
          declaration (codes "e") (codes "pk.e") kind.Event (scope 0) 0 1 Free None
          ∷ declaration (codes "h") (codes "pk.h") (kind.Protected (protected_unit 0)) (scope 0) 1 16 Free None
          ∷ declaration (codes "e") (codes "pk.h.e") kind.Parameter (scope 1) 0 1 Free None
          ∷ declaration (codes "a") (codes "main.a") (kind.Task (task_unit 0)) (scope 2) 0 1 Free None
          ∷ declaration (codes "b") (codes "main.b") (kind.Task (task_unit 1)) (scope 2) 1 1 Free None
          ∷ declaration (codes "c") (codes "main.c") (kind.Task (task_unit 2)) (scope 2) 2 1 Free None
          ∷ declaration (codes "x") (codes "main.x") (kind.Object initial.Default) (scope 2) 3 1 (Truth false true) None
          ∷ [];
      expressions =
          Known (Ticks (pos 24))
          ∷ Known (Ticks (pos 18))
          ∷ Known (Ticks (pos 20))
          ∷ Known (Ticks (pos 1000000))
          ∷ Known (Ticks (pos 4))
          ∷ Known (Ticks (pos 1000000))
          ∷ Known (Whole (pos 2))
          ∷ Span (pos 1) (expr 6)
          ∷ Known (Whole (pos 9))
          ∷ Span (pos 1) (expr 8)
          ∷ [];
      statements =
          statement (form.CallMain) 0 None
          ∷ statement (form.Delay (expr 0)) 0 None
          ∷ statement (form.EndActivation) 0 (Some (stmt 1))
          ∷ statement (form.EntryCall (entry 0) (owner.Object (decl 3)) []) 0 None
          ∷ statement (form.Delay (expr 1)) 0 None
          ∷ statement (form.TimedCall (stmt 3) (stmt 4)) 0 None
          ∷ statement (form.EndActivation) 0 (Some (stmt 5))
          ∷ statement (form.AsynchronousSelect (stmt 9) (stmt 11)) 0 None
          ∷ statement (form.Null) 0 None
          ∷ statement (form.Delay (expr 2)) 0 (Some (stmt 8))
          ∷ statement (form.Delay (expr 3)) 0 None
          ∷ statement (form.AsynchronousSelect (stmt 12) (stmt 13)) 0 (Some (stmt 10))
          ∷ statement (form.Delay (expr 4)) 0 (Some (stmt 10))
          ∷ statement (form.Delay (expr 5)) 0 None
          ∷ statement (form.EndActivation) 0 (Some (stmt 7))
          ∷ statement (form.CancelEvent (decl 0) (variable (Declared (decl 6)) None)) 0 None
          ∷ statement (form.SetEvent (decl 0) (setting.In (expr 7)) None) 1 (Some (stmt 15))
          ∷ statement (form.SetEvent (decl 0) (setting.In (expr 9)) (Some (handler_name (decl 1) (subprogram 0)))) 1 (Some (stmt 16))
          ∷ statement (form.Activate 0) 0 (Some (stmt 17))
          ∷ statement (form.Declare (decl 6)) 0 (Some (stmt 18))
          ∷ statement (form.CreateTask (decl 5) 0) 0 (Some (stmt 19))
          ∷ statement (form.CreateTask (decl 4) 0) 0 (Some (stmt 20))
          ∷ statement (form.CreateTask (decl 3) 0) 0 (Some (stmt 21))
          ∷ statement (form.Null) 0 None
          ∷ statement (form.Declare (decl 1)) 0 (Some (stmt 0))
          ∷ statement (form.Declare (decl 0)) 0 (Some (stmt 24))
          ∷ [];
      scopes =
          scope_text None 17 [] false (Some (stmt 25))
          ∷ scope_text (Some (scope 0)) 1 [] false (Some (stmt 23))
          ∷ scope_text (Some (scope 0)) 4 (cell_run 3 1 (Truth false) ∷ []) true (Some (stmt 22))
          ∷ scope_text (Some (scope 2)) 0 [] false (Some (stmt 2))
          ∷ scope_text (Some (scope 2)) 0 [] false (Some (stmt 6))
          ∷ scope_text (Some (scope 2)) 0 [] false (Some (stmt 14))
          ∷ [];
      subprograms =
          subprogram_text (codes "fire") (scope 1) (formal Free (Whole (pos 0)) ∷ []) None (Some (protected_unit 0))
          ∷ [];
      task_units =
          task_unit_text (scope 3) None None ((entry 0) ∷ [])
          ∷ task_unit_text (scope 4) None None []
          ∷ task_unit_text (scope 5) None None []
          ∷ [];
      protected_units =
          protected_unit_text 31 [] [] []
          ∷ [];
      entries =
          entry_text (codes "e") (unit.Task (task_unit 0)) 0 [] None
          ∷ [];
      controlled_types = [];
      enumerations = [];
      policies = (policies [] queuing.Fifo None 30);
      environment = (scope 0);
      main = (main_procedure (codes "main") 15 (scope 2));
    }

abbrev pub row_events_pending_script : List (ℤ × Item)
row_events_pending_script = []

-- the lines of its run up to tick 48
unfoldable pub row_events_pending_lines : List (ℕ × Event)
row_events_pending_lines = run_of row_events_pending_program row_events_pending_script 48

unfoldable pub row_events_pending_trace : List (ℕ × Event)
row_events_pending_trace =
    (0, line.New (created.Task (task 0)) (codes "main") 15)
    ∷ (0, line.Ready (t 0) 15 Tail None)
    ∷ (0, line.Run (t 0))
    ∷ (2, line.New (created.Object (p 1)) (codes "pk.h") 31)
    ∷ (6, line.New (created.Task (task 1)) (codes "main.a") 15)
    ∷ (8, line.New (created.Task (task 2)) (codes "main.b") 15)
    ∷ (10, line.New (created.Task (task 3)) (codes "main.c") 15)
    ∷ (13, line.Ready (t 1) 15 Tail None)
    ∷ (13, line.Ready (t 2) 15 Tail None)
    ∷ (13, line.Ready (t 3) 15 Tail None)
    ∷ (13, line.Block (t 0) waits.Activation)
    ∷ (13, line.Run (t 1))
    ∷ (16, line.Block (t 1) waits.Delay)
    ∷ (16, line.Run (t 2))
    ∷ (19, line.Call (task 2) (call 1) (of_task 1 (codes "e")) 15)
    ∷ (19, line.Block (t 2) waits.Entry)
    ∷ (19, line.Run (t 3))
    ∷ (20, line.Ready (t 0) 15 Tail None)
    ∷ (26, line.Block (t 3) waits.Delay)
    ∷ (26, line.Run (t 0))
    ∷ (28, line.Trigger (task 3))
    ∷ (28, line.Ready (t 3) 15 Tail None)
    ∷ (35, line.Leave (t 0) (region 1) leaves.End)
    ∷ (35, line.Block (t 0) waits.Dependents)
    ∷ (35, line.Run (t 3))
    ∷ (37, line.Cancel (task 2) (call 1))
    ∷ (37, line.Ready (t 2) 15 Tail None)
    ∷ (38, line.Block (t 3) waits.Delay)
    ∷ (38, line.Run (t 2))
    ∷ (39, line.Done (task 2))
    ∷ (39, line.Idle)
    ∷ (40, line.Ready (t 1) 15 Tail None)
    ∷ (40, line.Run (t 1))
    ∷ (41, line.Done (task 1))
    ∷ (41, line.Idle)
    ∷ (42, line.Trigger (task 3))
    ∷ (42, line.Ready (t 3) 15 Tail None)
    ∷ (42, line.Run (t 3))
    ∷ (45, line.Done (task 3))
    ∷ (45, line.Ready (t 0) 15 Tail None)
    ∷ (45, line.Run (t 0))
    ∷ (46, line.Left (t 0) (region 1))
    ∷ (47, line.Done (task 0))
    ∷ (47, line.End end.Completed)
    ∷ []

pub row_events_pending_runs : row_events_pending_lines ≡ row_events_pending_trace
unfolding row_events_pending_lines row_events_pending_trace digits computing
row_events_pending_runs = refl

-- whether every world of its run is well formed
unfoldable pub row_events_pending_worlds : Bool
row_events_pending_worlds = run_is_well_formed row_events_pending_program row_events_pending_script 48

pub row_events_pending_keeps : row_events_pending_worlds ≡ true
unfolding row_events_pending_worlds computing
row_events_pending_keeps = refl

-- whether each handler is released at its tick
unfoldable pub row_events_pending_handlers : Bool
row_events_pending_handlers = releases_ok row_events_pending_program row_events_pending_script 48

pub row_events_pending_releases : row_events_pending_handlers ≡ true
unfolding row_events_pending_handlers computing
row_events_pending_releases = refl
