use Rattle.std.specs.Prelude.{◌≡◌, ℕ, ℤ, pos, List, [], ◌∷◌, Some, None, true, false, codes, refl}
use Rattle.trace_text.specs.declared.events.Event.{Event}
use Rattle.trace_text.specs.declared.events.Event.TheVariants as line
use Rattle.trace_text.specs.declared.events.Created.TheVariants as created
use Rattle.trace_text.specs.declared.events.Ended.TheVariants as end
use Rattle.trace_text.specs.declared.events.Finished.TheVariants as finished
use Rattle.trace_text.specs.declared.events.Leaves.TheVariants as leaves
use Rattle.trace_text.specs.declared.events.QueueEnd.TheVariants.{Tail}
use Rattle.trace_text.specs.declared.events.Waits.TheVariants as waits
use Rattle.profile_image.specs.declared.script_items.Item.{Item}
use Rattle.profile_image.specs.declared.image.Image.{Image}
use Rattle.profile_image.specs.declared.image.Queuing.TheVariants as queuing
use Rattle.profile_image.specs.declared.values.Value.TheVariants.{Whole, Ticks}
use Rattle.profile_image.specs.declared.values.Constraint.TheVariants.{Free, Whole, Ticks}
use Rattle.profile_image.specs.declared.expressions.Expression.TheVariants.{Known}
use Rattle.profile_image.specs.declared.declarations.DeclarationKind.TheVariants as kind
use Rattle.profile_image.specs.declared.declarations.EntryUnit.TheVariants as unit
use Rattle.profile_image.specs.declared.statements.StatementForm.TheVariants as form
use Rattle.profile_image.specs.declared.statements.EntryOwner.TheVariants as owner
use Rattle.profile_machine.specs.Notation.{decl, expr, stmt, scope, task_unit, entry, task, call, region, t, of_task, declaration, statement, scope_text, task_unit_text, entry_text, policies, main_procedure}
use Rattle.profile_machine.specs.Run.{run_of}
use Rattle.profile_machine.specs.Computing.{computing}
use Rattle.std.specs.Fmt.{digits}
use Rattle.std.specs.Prelude.{Bool}
use Rattle.profile_machine.specs.WellFormed.{run_is_well_formed}
use Rattle.profile_machine.specs.Releases.{releases_ok}

-- Row requeue.kinds: its run stops before tick 45, so every greater bound gives the same trace.
abbrev pub row_requeue_kinds_program : Image
row_requeue_kinds_program =
    record {
      declarations =
          declaration (codes "t") (codes "main.t") (kind.Task (task_unit 0)) (scope 1) 0 1 Free None
          ∷ declaration (codes "i") (codes "main.t.i") kind.Parameter (scope 2) 0 2 Free None
          ∷ [];
      expressions =
          Known (Whole (pos 1))
          ∷ Known (Whole (pos 3))
          ∷ Known (Ticks (pos 1))
          ∷ [];
      statements =
          statement (form.CallMain) 0 None
          ∷ statement (form.Accept (entry 1) (scope 4)) 0 None
          ∷ statement (form.For (decl 1) false (expr 0) (expr 1) (stmt 3) None) 0 (Some (stmt 1))
          ∷ statement (form.FirstTurn (decl 1) false (stmt 5)) 0 (Some (stmt 1))
          ∷ statement (form.LaterTurn (decl 1) false (stmt 5)) 0 (Some (stmt 1))
          ∷ statement (form.Accept (entry 0) (scope 3)) 0 (Some (stmt 4))
          ∷ statement (form.Requeue (entry 1) owner.Own true) 0 None
          ∷ statement (form.Null) 0 (Some (stmt 6))
          ∷ statement (form.EndActivation) 0 (Some (stmt 2))
          ∷ statement (form.EntryCall (entry 0) (owner.Object (decl 0)) []) 0 None
          ∷ statement (form.EntryCall (entry 0) (owner.Object (decl 0)) []) 0 (Some (stmt 9))
          ∷ statement (form.Delay (expr 2)) 0 (Some (stmt 9))
          ∷ statement (form.TimedCall (stmt 10) (stmt 11)) 0 (Some (stmt 9))
          ∷ statement (form.EntryCall (entry 0) (owner.Object (decl 0)) []) 0 (Some (stmt 12))
          ∷ statement (form.Null) 0 (Some (stmt 12))
          ∷ statement (form.ConditionalCall (stmt 13) (stmt 14)) 0 (Some (stmt 12))
          ∷ statement (form.Activate 0) 0 (Some (stmt 15))
          ∷ statement (form.CreateTask (decl 0) 0) 0 (Some (stmt 16))
          ∷ [];
      scopes =
          scope_text None 0 [] false (Some (stmt 0))
          ∷ scope_text (Some (scope 0)) 1 [] true (Some (stmt 17))
          ∷ scope_text (Some (scope 1)) 2 [] false (Some (stmt 8))
          ∷ scope_text (Some (scope 2)) 0 [] false (Some (stmt 7))
          ∷ scope_text (Some (scope 2)) 0 [] false None
          ∷ [];
      subprograms = [];
      task_units =
          task_unit_text (scope 2) (Some 20) None ((entry 0) ∷ (entry 1) ∷ [])
          ∷ [];
      protected_units = [];
      entries =
          entry_text (codes "e") (unit.Task (task_unit 0)) 0 [] None
          ∷ entry_text (codes "f") (unit.Task (task_unit 0)) 1 [] None
          ∷ [];
      controlled_types = [];
      enumerations = [];
      policies = (policies [] queuing.Fifo None 30);
      environment = (scope 0);
      main = (main_procedure (codes "main") 15 (scope 1));
    }

abbrev pub row_requeue_kinds_script : List (ℤ × Item)
row_requeue_kinds_script = []

-- the lines of its run up to tick 45
unfoldable pub row_requeue_kinds_lines : List (ℕ × Event)
row_requeue_kinds_lines = run_of row_requeue_kinds_program row_requeue_kinds_script 45

unfoldable pub row_requeue_kinds_trace : List (ℕ × Event)
row_requeue_kinds_trace =
    (0, line.New (created.Task (task 0)) (codes "main") 15)
    ∷ (0, line.Ready (t 0) 15 Tail None)
    ∷ (0, line.Run (t 0))
    ∷ (4, line.New (created.Task (task 1)) (codes "main.t") 20)
    ∷ (6, line.Ready (t 1) 20 Tail None)
    ∷ (6, line.Block (t 0) waits.Activation)
    ∷ (6, line.Run (t 1))
    ∷ (7, line.Ready (t 0) 15 Tail None)
    ∷ (11, line.Block (t 1) waits.Accept)
    ∷ (11, line.Run (t 0))
    ∷ (13, line.Call (task 0) (call 1) (of_task 1 (codes "e")) 15)
    ∷ (13, line.Start (t 1) (call 1))
    ∷ (13, line.Ready (t 1) 20 Tail None)
    ∷ (13, line.Block (t 0) waits.Entry)
    ∷ (13, line.Run (t 1))
    ∷ (17, line.Finish (t 1) (call 1) finished.Requeue)
    ∷ (17, line.Call (task 0) (call 1) (of_task 1 (codes "f")) 15)
    ∷ (17, line.Cancel (task 0) (call 1))
    ∷ (17, line.Ready (t 0) 15 Tail None)
    ∷ (20, line.Block (t 1) waits.Accept)
    ∷ (20, line.Run (t 0))
    ∷ (23, line.Call (task 0) (call 2) (of_task 1 (codes "e")) 15)
    ∷ (23, line.Start (t 1) (call 2))
    ∷ (23, line.Ready (t 1) 20 Tail None)
    ∷ (23, line.Block (t 0) waits.Entry)
    ∷ (23, line.Run (t 1))
    ∷ (27, line.Finish (t 1) (call 2) finished.Requeue)
    ∷ (27, line.Call (task 0) (call 2) (of_task 1 (codes "f")) 15)
    ∷ (27, line.Cancel (task 0) (call 2))
    ∷ (27, line.Ready (t 0) 15 Tail None)
    ∷ (30, line.Block (t 1) waits.Accept)
    ∷ (30, line.Run (t 0))
    ∷ (32, line.Call (task 0) (call 3) (of_task 1 (codes "e")) 15)
    ∷ (32, line.Start (t 1) (call 3))
    ∷ (32, line.Ready (t 1) 20 Tail None)
    ∷ (32, line.Block (t 0) waits.Entry)
    ∷ (32, line.Run (t 1))
    ∷ (36, line.Finish (t 1) (call 3) finished.Requeue)
    ∷ (36, line.Call (task 0) (call 3) (of_task 1 (codes "f")) 15)
    ∷ (39, line.Start (t 1) (call 3))
    ∷ (40, line.Finish (t 1) (call 3) finished.Ok)
    ∷ (40, line.Ready (t 0) 15 Tail None)
    ∷ (41, line.Done (task 1))
    ∷ (41, line.Run (t 0))
    ∷ (42, line.Leave (t 0) (region 1) leaves.End)
    ∷ (43, line.Left (t 0) (region 1))
    ∷ (44, line.Done (task 0))
    ∷ (44, line.End end.Completed)
    ∷ []

pub row_requeue_kinds_runs : row_requeue_kinds_lines ≡ row_requeue_kinds_trace
unfolding row_requeue_kinds_lines row_requeue_kinds_trace digits computing
row_requeue_kinds_runs = refl

-- whether every world of its run is well formed
unfoldable pub row_requeue_kinds_worlds : Bool
row_requeue_kinds_worlds = run_is_well_formed row_requeue_kinds_program row_requeue_kinds_script 45

pub row_requeue_kinds_keeps : row_requeue_kinds_worlds ≡ true
unfolding row_requeue_kinds_worlds computing
row_requeue_kinds_keeps = refl

-- whether each handler is released at its tick
unfoldable pub row_requeue_kinds_handlers : Bool
row_requeue_kinds_handlers = releases_ok row_requeue_kinds_program row_requeue_kinds_script 45

pub row_requeue_kinds_releases : row_requeue_kinds_handlers ≡ true
unfolding row_requeue_kinds_handlers computing
row_requeue_kinds_releases = refl
