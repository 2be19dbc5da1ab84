use Rattle.std.specs.Prelude.{◌≡◌, ℕ, ℤ, pos, List, [], ◌∷◌, Some, None, true, false, codes, refl}
use Rattle.trace_text.specs.declared.events.Event.{Event}
use Rattle.trace_text.specs.declared.events.Event.TheVariants as line
use Rattle.trace_text.specs.declared.events.Created.TheVariants as created
use Rattle.trace_text.specs.declared.events.Ended.TheVariants as end
use Rattle.trace_text.specs.declared.events.Finished.TheVariants as finished
use Rattle.trace_text.specs.declared.events.Leaves.TheVariants as leaves
use Rattle.trace_text.specs.declared.events.QueueEnd.TheVariants.{Head, Tail}
use Rattle.trace_text.specs.declared.events.Waits.TheVariants as waits
use Rattle.profile_image.specs.declared.script_items.Item.{Item}
use Rattle.profile_image.specs.declared.image.Image.{Image}
use Rattle.profile_image.specs.declared.image.Queuing.TheVariants as queuing
use Rattle.profile_image.specs.declared.values.Value.TheVariants.{Ticks}
use Rattle.profile_image.specs.declared.values.Constraint.TheVariants.{Free, Ticks}
use Rattle.profile_image.specs.declared.expressions.Expression.TheVariants.{Known}
use Rattle.profile_image.specs.declared.declarations.DeclarationKind.TheVariants as kind
use Rattle.profile_image.specs.declared.declarations.EntryUnit.TheVariants as unit
use Rattle.profile_image.specs.declared.statements.StatementForm.TheVariants as form
use Rattle.profile_image.specs.declared.statements.EntryOwner.TheVariants as owner
use Rattle.profile_machine.specs.Notation.{decl, expr, stmt, scope, task_unit, entry, task, call, region, t, of_task, declaration, statement, scope_text, task_unit_text, entry_text, policies, main_procedure}
use Rattle.profile_machine.specs.Run.{run_of}
use Rattle.profile_machine.specs.Computing.{computing}
use Rattle.std.specs.Fmt.{digits}
use Rattle.std.specs.Prelude.{Bool}
use Rattle.profile_machine.specs.WellFormed.{run_is_well_formed}
use Rattle.profile_machine.specs.Releases.{releases_ok}

-- Row requeue.late: its run stops before tick 48, so every greater bound gives the same trace.
abbrev pub row_requeue_late_program : Image
row_requeue_late_program =
    record {
      declarations =
          declaration (codes "t") (codes "main.t") (kind.Task (task_unit 0)) (scope 1) 0 1 Free None
          ∷ declaration (codes "c") (codes "main.c") (kind.Task (task_unit 1)) (scope 1) 1 1 Free None
          ∷ [];
      expressions =
          Known (Ticks (pos 3))
          ∷ Known (Ticks (pos 6))
          ∷ Known (Ticks (pos 3))
          ∷ [];
      statements =
          statement (form.CallMain) 0 None
          ∷ statement (form.Accept (entry 1) (scope 5)) 0 None
          ∷ statement (form.Delay (expr 0)) 0 (Some (stmt 1))
          ∷ statement (form.Accept (entry 0) (scope 4)) 0 (Some (stmt 2))
          ∷ statement (form.Requeue (entry 1) owner.Own false) 0 None
          ∷ statement (form.Accept (entry 0) (scope 3)) 0 (Some (stmt 3))
          ∷ statement (form.Requeue (entry 1) owner.Own true) 0 None
          ∷ statement (form.Delay (expr 1)) 0 (Some (stmt 6))
          ∷ statement (form.EndActivation) 0 (Some (stmt 5))
          ∷ statement (form.AsynchronousSelect (stmt 11) (stmt 12)) 0 None
          ∷ statement (form.Null) 0 None
          ∷ statement (form.EntryCall (entry 0) (owner.Object (decl 0)) []) 0 (Some (stmt 10))
          ∷ statement (form.Null) 0 None
          ∷ statement (form.EntryCall (entry 0) (owner.Object (decl 0)) []) 0 (Some (stmt 9))
          ∷ statement (form.Delay (expr 2)) 0 (Some (stmt 9))
          ∷ statement (form.TimedCall (stmt 13) (stmt 14)) 0 (Some (stmt 9))
          ∷ statement (form.EndActivation) 0 (Some (stmt 15))
          ∷ statement (form.Null) 0 None
          ∷ statement (form.Activate 0) 0 (Some (stmt 17))
          ∷ statement (form.CreateTask (decl 1) 0) 0 (Some (stmt 18))
          ∷ statement (form.CreateTask (decl 0) 0) 0 (Some (stmt 19))
          ∷ [];
      scopes =
          scope_text None 0 [] false (Some (stmt 0))
          ∷ scope_text (Some (scope 0)) 2 [] true (Some (stmt 20))
          ∷ scope_text (Some (scope 1)) 0 [] false (Some (stmt 8))
          ∷ scope_text (Some (scope 2)) 0 [] false (Some (stmt 7))
          ∷ scope_text (Some (scope 2)) 0 [] false (Some (stmt 4))
          ∷ scope_text (Some (scope 2)) 0 [] false None
          ∷ scope_text (Some (scope 1)) 0 [] false (Some (stmt 16))
          ∷ [];
      subprograms = [];
      task_units =
          task_unit_text (scope 2) (Some 20) None ((entry 0) ∷ (entry 1) ∷ [])
          ∷ task_unit_text (scope 6) (Some 10) None []
          ∷ [];
      protected_units = [];
      entries =
          entry_text (codes "e") (unit.Task (task_unit 0)) 0 [] None
          ∷ entry_text (codes "f") (unit.Task (task_unit 0)) 1 [] None
          ∷ [];
      controlled_types = [];
      enumerations = [];
      policies = (policies [] queuing.Fifo None 30);
      environment = (scope 0);
      main = (main_procedure (codes "main") 15 (scope 1));
    }

abbrev pub row_requeue_late_script : List (ℤ × Item)
row_requeue_late_script = []

-- the lines of its run up to tick 48
unfoldable pub row_requeue_late_lines : List (ℕ × Event)
row_requeue_late_lines = run_of row_requeue_late_program row_requeue_late_script 48

unfoldable pub row_requeue_late_trace : List (ℕ × Event)
row_requeue_late_trace =
    (0, line.New (created.Task (task 0)) (codes "main") 15)
    ∷ (0, line.Ready (t 0) 15 Tail None)
    ∷ (0, line.Run (t 0))
    ∷ (4, line.New (created.Task (task 1)) (codes "main.t") 20)
    ∷ (6, line.New (created.Task (task 2)) (codes "main.c") 10)
    ∷ (8, line.Ready (t 1) 20 Tail None)
    ∷ (8, line.Ready (t 2) 15 Tail None)
    ∷ (8, line.Block (t 0) waits.Activation)
    ∷ (8, line.Run (t 1))
    ∷ (11, line.Block (t 1) waits.Accept)
    ∷ (11, line.Run (t 2))
    ∷ (12, line.Ready (t 0) 15 Tail None)
    ∷ (12, line.Ready (t 2) 10 Head None)
    ∷ (12, line.Run (t 0))
    ∷ (14, line.Leave (t 0) (region 1) leaves.End)
    ∷ (14, line.Block (t 0) waits.Dependents)
    ∷ (14, line.Run (t 2))
    ∷ (16, line.Call (task 2) (call 1) (of_task 1 (codes "e")) 10)
    ∷ (16, line.Start (t 1) (call 1))
    ∷ (16, line.Ready (t 1) 20 Tail None)
    ∷ (16, line.Block (t 2) waits.Entry)
    ∷ (16, line.Run (t 1))
    ∷ (18, line.Block (t 1) waits.Delay)
    ∷ (18, line.Idle)
    ∷ (24, line.Ready (t 1) 20 Tail None)
    ∷ (24, line.Run (t 1))
    ∷ (27, line.Finish (t 1) (call 1) finished.Requeue)
    ∷ (27, line.Call (task 2) (call 1) (of_task 1 (codes "f")) 10)
    ∷ (27, line.Cancel (task 2) (call 1))
    ∷ (27, line.Ready (t 2) 10 Tail None)
    ∷ (29, line.Block (t 1) waits.Accept)
    ∷ (29, line.Run (t 2))
    ∷ (31, line.Call (task 2) (call 2) (of_task 1 (codes "e")) 10)
    ∷ (31, line.Start (t 1) (call 2))
    ∷ (31, line.Ready (t 1) 20 Tail None)
    ∷ (31, line.Block (t 2) waits.Entry)
    ∷ (31, line.Run (t 1))
    ∷ (34, line.Finish (t 1) (call 2) finished.Requeue)
    ∷ (34, line.Call (task 2) (call 2) (of_task 1 (codes "f")) 10)
    ∷ (36, line.Block (t 1) waits.Delay)
    ∷ (36, line.Idle)
    ∷ (39, line.Ready (t 1) 20 Tail None)
    ∷ (39, line.Run (t 1))
    ∷ (41, line.Start (t 1) (call 2))
    ∷ (42, line.Finish (t 1) (call 2) finished.Ok)
    ∷ (42, line.Ready (t 2) 10 Tail None)
    ∷ (43, line.Done (task 1))
    ∷ (43, line.Run (t 2))
    ∷ (45, line.Done (task 2))
    ∷ (45, line.Ready (t 0) 15 Tail None)
    ∷ (45, line.Run (t 0))
    ∷ (46, line.Left (t 0) (region 1))
    ∷ (47, line.Done (task 0))
    ∷ (47, line.End end.Completed)
    ∷ []

pub row_requeue_late_runs : row_requeue_late_lines ≡ row_requeue_late_trace
unfolding row_requeue_late_lines row_requeue_late_trace digits computing
row_requeue_late_runs = refl

-- whether every world of its run is well formed
unfoldable pub row_requeue_late_worlds : Bool
row_requeue_late_worlds = run_is_well_formed row_requeue_late_program row_requeue_late_script 48

pub row_requeue_late_keeps : row_requeue_late_worlds ≡ true
unfolding row_requeue_late_worlds computing
row_requeue_late_keeps = refl

-- whether each handler is released at its tick
unfoldable pub row_requeue_late_handlers : Bool
row_requeue_late_handlers = releases_ok row_requeue_late_program row_requeue_late_script 48

pub row_requeue_late_releases : row_requeue_late_handlers ≡ true
unfolding row_requeue_late_handlers computing
row_requeue_late_releases = refl
