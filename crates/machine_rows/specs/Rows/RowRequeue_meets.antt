use Rattle.std.specs.Prelude.{◌≡◌, ℕ, ℤ, pos, List, [], ◌∷◌, Some, None, true, false, codes, refl}
use Rattle.ann_base.specs.declared.exceptions.Raised.TheVariants as exception
use Rattle.trace_text.specs.declared.events.Event.{Event}
use Rattle.trace_text.specs.declared.events.Event.TheVariants as line
use Rattle.trace_text.specs.declared.events.Created.TheVariants as created
use Rattle.trace_text.specs.declared.events.Ended.TheVariants as end
use Rattle.trace_text.specs.declared.events.Finished.TheVariants as finished
use Rattle.trace_text.specs.declared.events.Leaves.TheVariants as leaves
use Rattle.trace_text.specs.declared.events.QueueEnd.TheVariants.{Head, Tail}
use Rattle.trace_text.specs.declared.events.Waits.TheVariants as waits
use Rattle.profile_image.specs.declared.script_items.Item.{Item}
use Rattle.profile_image.specs.declared.image.Image.{Image}
use Rattle.profile_image.specs.declared.image.Queuing.TheVariants as queuing
use Rattle.profile_image.specs.declared.values.Value.TheVariants.{Whole}
use Rattle.profile_image.specs.declared.values.Constraint.TheVariants.{Free, Whole}
use Rattle.profile_image.specs.declared.expressions.Expression.TheVariants.{Known}
use Rattle.profile_image.specs.declared.declarations.DeclarationKind.TheVariants as kind
use Rattle.profile_image.specs.declared.declarations.EntryUnit.TheVariants as unit
use Rattle.profile_image.specs.declared.declarations.ExceptionChoice.TheVariants as exception_choice
use Rattle.profile_image.specs.declared.statements.StatementForm.TheVariants as form
use Rattle.profile_image.specs.declared.statements.EntryOwner.TheVariants as owner
use Rattle.profile_machine.specs.Notation.{decl, expr, stmt, scope, task_unit, entry, task, call, region, t, of_task, declaration, statement, handler, scope_text, task_unit_text, entry_text, policies, main_procedure}
use Rattle.profile_machine.specs.Run.{run_of}
use Rattle.profile_machine.specs.Computing.{computing}
use Rattle.std.specs.Fmt.{digits}
use Rattle.std.specs.Prelude.{Bool}
use Rattle.profile_machine.specs.WellFormed.{run_is_well_formed}
use Rattle.profile_machine.specs.Releases.{releases_ok}

-- Row requeue.meets: its run stops before tick 56, so every greater bound gives the same trace.
abbrev pub row_requeue_meets_program : Image
row_requeue_meets_program =
    record {
      declarations =
          declaration (codes "s") (codes "main.s") (kind.Task (task_unit 0)) (scope 1) 0 1 Free None
          ∷ declaration (codes "t") (codes "main.t") (kind.Task (task_unit 1)) (scope 1) 1 1 Free None
          ∷ declaration (codes "c") (codes "main.c") (kind.Task (task_unit 2)) (scope 1) 2 1 Free None
          ∷ declaration (codes "k") (codes "main.t.k") kind.Parameter (scope 5) 0 2 Free None
          ∷ [];
      expressions =
          Known (Whole (pos 1))
          ∷ Known (Whole (pos 3))
          ∷ [];
      statements =
          statement (form.CallMain) 0 None
          ∷ statement (form.Accept (entry 0) (scope 4)) 0 None
          ∷ statement (form.Accept (entry 0) (scope 3)) 0 (Some (stmt 1))
          ∷ statement (form.EndActivation) 0 (Some (stmt 2))
          ∷ statement (form.For (decl 3) false (expr 0) (expr 1) (stmt 5) None) 0 None
          ∷ statement (form.FirstTurn (decl 3) false (stmt 7)) 0 None
          ∷ statement (form.LaterTurn (decl 3) false (stmt 7)) 0 None
          ∷ statement (form.Accept (entry 1) (scope 6)) 0 (Some (stmt 6))
          ∷ statement (form.Requeue (entry 0) (owner.Object (decl 0)) true) 0 None
          ∷ statement (form.EndActivation) 0 (Some (stmt 4))
          ∷ statement (form.Handled (handler (exception_choice.Named exception.Tasking ∷ []) (stmt 16) ∷ []) (stmt 12)) 0 None
          ∷ statement (form.EntryCall (entry 1) (owner.Object (decl 1)) []) 0 None
          ∷ statement (form.AsynchronousSelect (stmt 14) (stmt 15)) 0 (Some (stmt 11))
          ∷ statement (form.Null) 0 (Some (stmt 11))
          ∷ statement (form.EntryCall (entry 1) (owner.Object (decl 1)) []) 0 (Some (stmt 13))
          ∷ statement (form.Null) 0 None
          ∷ statement (form.Null) 0 None
          ∷ statement (form.EndActivation) 0 (Some (stmt 10))
          ∷ statement (form.EntryCall (entry 1) (owner.Object (decl 1)) []) 0 None
          ∷ statement (form.Activate 0) 0 (Some (stmt 18))
          ∷ statement (form.CreateTask (decl 2) 0) 0 (Some (stmt 19))
          ∷ statement (form.CreateTask (decl 1) 0) 0 (Some (stmt 20))
          ∷ statement (form.CreateTask (decl 0) 0) 0 (Some (stmt 21))
          ∷ [];
      scopes =
          scope_text None 0 [] false (Some (stmt 0))
          ∷ scope_text (Some (scope 0)) 3 [] true (Some (stmt 22))
          ∷ scope_text (Some (scope 1)) 0 [] false (Some (stmt 3))
          ∷ scope_text (Some (scope 2)) 0 [] false None
          ∷ scope_text (Some (scope 2)) 0 [] false None
          ∷ scope_text (Some (scope 1)) 2 [] false (Some (stmt 9))
          ∷ scope_text (Some (scope 5)) 0 [] false (Some (stmt 8))
          ∷ scope_text (Some (scope 1)) 0 [] false (Some (stmt 17))
          ∷ [];
      subprograms = [];
      task_units =
          task_unit_text (scope 2) (Some 20) None ((entry 0) ∷ [])
          ∷ task_unit_text (scope 5) None None ((entry 1) ∷ [])
          ∷ task_unit_text (scope 7) (Some 5) None []
          ∷ [];
      protected_units = [];
      entries =
          entry_text (codes "f") (unit.Task (task_unit 0)) 0 [] None
          ∷ entry_text (codes "e") (unit.Task (task_unit 1)) 0 [] None
          ∷ [];
      controlled_types = [];
      enumerations = [];
      policies = (policies [] queuing.Fifo None 30);
      environment = (scope 0);
      main = (main_procedure (codes "main") 15 (scope 1));
    }

abbrev pub row_requeue_meets_script : List (ℤ × Item)
row_requeue_meets_script = []

-- the lines of its run up to tick 56
unfoldable pub row_requeue_meets_lines : List (ℕ × Event)
row_requeue_meets_lines = run_of row_requeue_meets_program row_requeue_meets_script 56

unfoldable pub row_requeue_meets_trace : List (ℕ × Event)
row_requeue_meets_trace =
    (0, line.New (created.Task (task 0)) (codes "main") 15)
    ∷ (0, line.Ready (t 0) 15 Tail None)
    ∷ (0, line.Run (t 0))
    ∷ (4, line.New (created.Task (task 1)) (codes "main.s") 20)
    ∷ (6, line.New (created.Task (task 2)) (codes "main.t") 15)
    ∷ (8, line.New (created.Task (task 3)) (codes "main.c") 5)
    ∷ (10, line.Ready (t 1) 20 Tail None)
    ∷ (10, line.Ready (t 2) 15 Tail None)
    ∷ (10, line.Ready (t 3) 15 Tail None)
    ∷ (10, line.Block (t 0) waits.Activation)
    ∷ (10, line.Run (t 1))
    ∷ (13, line.Block (t 1) waits.Accept)
    ∷ (13, line.Run (t 2))
    ∷ (18, line.Block (t 2) waits.Accept)
    ∷ (18, line.Run (t 3))
    ∷ (19, line.Ready (t 0) 15 Tail None)
    ∷ (19, line.Ready (t 3) 5 Head None)
    ∷ (19, line.Run (t 0))
    ∷ (21, line.Call (task 0) (call 1) (of_task 2 (codes "e")) 15)
    ∷ (21, line.Start (t 2) (call 1))
    ∷ (21, line.Ready (t 2) 15 Tail None)
    ∷ (21, line.Block (t 0) waits.Entry)
    ∷ (21, line.Run (t 2))
    ∷ (24, line.Finish (t 2) (call 1) finished.Requeue)
    ∷ (24, line.Call (task 0) (call 1) (of_task 1 (codes "f")) 15)
    ∷ (24, line.Start (t 1) (call 1))
    ∷ (24, line.Ready (t 1) 20 Tail None)
    ∷ (24, line.Run (t 1))
    ∷ (25, line.Finish (t 1) (call 1) finished.Ok)
    ∷ (25, line.Ready (t 0) 15 Tail None)
    ∷ (27, line.Block (t 1) waits.Accept)
    ∷ (27, line.Run (t 2))
    ∷ (30, line.Block (t 2) waits.Accept)
    ∷ (30, line.Run (t 0))
    ∷ (31, line.Leave (t 0) (region 1) leaves.End)
    ∷ (31, line.Block (t 0) waits.Dependents)
    ∷ (31, line.Run (t 3))
    ∷ (33, line.Call (task 3) (call 2) (of_task 2 (codes "e")) 5)
    ∷ (33, line.Start (t 2) (call 2))
    ∷ (33, line.Ready (t 2) 15 Tail None)
    ∷ (33, line.Block (t 3) waits.Entry)
    ∷ (33, line.Run (t 2))
    ∷ (36, line.Finish (t 2) (call 2) finished.Requeue)
    ∷ (36, line.Call (task 3) (call 2) (of_task 1 (codes "f")) 5)
    ∷ (36, line.Start (t 1) (call 2))
    ∷ (36, line.Ready (t 1) 20 Tail None)
    ∷ (36, line.Ready (t 3) 5 Tail None)
    ∷ (36, line.Run (t 1))
    ∷ (37, line.Finish (t 1) (call 2) finished.Ok)
    ∷ (37, line.Trigger (task 3))
    ∷ (38, line.Done (task 1))
    ∷ (38, line.Run (t 2))
    ∷ (41, line.Block (t 2) waits.Accept)
    ∷ (41, line.Run (t 3))
    ∷ (45, line.Call (task 3) (call 3) (of_task 2 (codes "e")) 5)
    ∷ (45, line.Start (t 2) (call 3))
    ∷ (45, line.Ready (t 2) 15 Tail None)
    ∷ (45, line.Block (t 3) waits.Entry)
    ∷ (45, line.Run (t 2))
    ∷ (48, line.Finish (t 2) (call 3) finished.Requeue)
    ∷ (48, line.Call (task 3) (call 3) (of_task 1 (codes "f")) 5)
    ∷ (48, line.Gone (task 3) (call 3))
    ∷ (48, line.Ready (t 3) 5 Tail None)
    ∷ (48, line.Raise (t 3) (codes "tasking_error"))
    ∷ (50, line.Done (task 2))
    ∷ (50, line.Run (t 3))
    ∷ (53, line.Done (task 3))
    ∷ (53, line.Ready (t 0) 15 Tail None)
    ∷ (53, line.Run (t 0))
    ∷ (54, line.Left (t 0) (region 1))
    ∷ (55, line.Done (task 0))
    ∷ (55, line.End end.Completed)
    ∷ []

pub row_requeue_meets_runs : row_requeue_meets_lines ≡ row_requeue_meets_trace
unfolding row_requeue_meets_lines row_requeue_meets_trace digits computing
row_requeue_meets_runs = refl

-- whether every world of its run is well formed
unfoldable pub row_requeue_meets_worlds : Bool
row_requeue_meets_worlds = run_is_well_formed row_requeue_meets_program row_requeue_meets_script 56

pub row_requeue_meets_keeps : row_requeue_meets_worlds ≡ true
unfolding row_requeue_meets_worlds computing
row_requeue_meets_keeps = refl

-- whether each handler is released at its tick
unfoldable pub row_requeue_meets_handlers : Bool
row_requeue_meets_handlers = releases_ok row_requeue_meets_program row_requeue_meets_script 56

pub row_requeue_meets_releases : row_requeue_meets_handlers ≡ true
unfolding row_requeue_meets_handlers computing
row_requeue_meets_releases = refl
