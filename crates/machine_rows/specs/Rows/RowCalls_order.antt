use Rattle.std.specs.Prelude.{◌≡◌, ℕ, ℤ, pos, List, [], ◌∷◌, Some, None, true, false, codes, refl}
use Rattle.ann_base.specs.declared.exceptions.Raised.TheVariants as exception
use Rattle.trace_text.specs.declared.events.Event.{Event}
use Rattle.trace_text.specs.declared.events.Event.TheVariants as line
use Rattle.trace_text.specs.declared.events.Created.TheVariants as created
use Rattle.trace_text.specs.declared.events.Ended.TheVariants as end
use Rattle.trace_text.specs.declared.events.Leaves.TheVariants as leaves
use Rattle.trace_text.specs.declared.events.QueueEnd.TheVariants.{Head, Tail}
use Rattle.trace_text.specs.declared.events.Waits.TheVariants as waits
use Rattle.profile_image.specs.declared.script_items.Item.{Item}
use Rattle.profile_image.specs.declared.image.Image.{Image}
use Rattle.profile_image.specs.declared.image.Queuing.TheVariants as queuing
use Rattle.profile_image.specs.declared.values.Value.TheVariants.{Ticks}
use Rattle.profile_image.specs.declared.values.Constraint.TheVariants.{Free, Ticks}
use Rattle.profile_image.specs.declared.expressions.Expression.TheVariants.{Known}
use Rattle.profile_image.specs.declared.declarations.DeclarationKind.TheVariants as kind
use Rattle.profile_image.specs.declared.declarations.EntryUnit.TheVariants as unit
use Rattle.profile_image.specs.declared.declarations.ExceptionChoice.TheVariants as exception_choice
use Rattle.profile_image.specs.declared.statements.StatementForm.TheVariants as form
use Rattle.profile_image.specs.declared.statements.EntryOwner.TheVariants as owner
use Rattle.profile_machine.specs.Notation.{decl, expr, stmt, scope, task_unit, entry, task, call, region, t, of_task, declaration, statement, handler, scope_text, task_unit_text, entry_text, policies, main_procedure}
use Rattle.profile_machine.specs.Run.{run_of}
use Rattle.profile_machine.specs.Computing.{computing}
use Rattle.std.specs.Fmt.{digits}
use Rattle.std.specs.Prelude.{Bool}
use Rattle.profile_machine.specs.WellFormed.{run_is_well_formed}
use Rattle.profile_machine.specs.Releases.{releases_ok}

-- Row calls.order: its run stops before tick 39, so every greater bound gives the same trace.
abbrev pub row_calls_order_program : Image
row_calls_order_program =
    record {
      declarations =
          declaration (codes "s") (codes "main.s") (kind.Task (task_unit 0)) (scope 1) 0 1 Free None
          ∷ declaration (codes "t") (codes "main.t") (kind.Task (task_unit 1)) (scope 1) 1 1 Free None
          ∷ declaration (codes "c") (codes "main.c") (kind.Task (task_unit 2)) (scope 1) 2 1 Free None
          ∷ [];
      expressions =
          Known (Ticks (pos 11))
          ∷ [];
      statements =
          statement (form.CallMain) 0 None
          ∷ statement (form.Null) 0 None
          ∷ statement (form.EndActivation) 0 (Some (stmt 1))
          ∷ statement (form.Delay (expr 0)) 0 None
          ∷ statement (form.EndActivation) 0 (Some (stmt 3))
          ∷ statement (form.AsynchronousSelect (stmt 7) (stmt 8)) 0 None
          ∷ statement (form.Null) 0 None
          ∷ statement (form.EntryCall (entry 2) (owner.Object (decl 1)) []) 0 (Some (stmt 6))
          ∷ statement (form.EntryCall (entry 1) (owner.Object (decl 1)) []) 0 None
          ∷ statement (form.EndActivation) 0 (Some (stmt 5))
          ∷ statement (form.Handled (handler (exception_choice.Named exception.Tasking ∷ []) (stmt 13) ∷ []) (stmt 12)) 0 None
          ∷ statement (form.EntryCall (entry 1) (owner.Object (decl 1)) []) 0 None
          ∷ statement (form.Activate 0) 0 (Some (stmt 11))
          ∷ statement (form.Null) 0 None
          ∷ statement (form.CreateTask (decl 2) 0) 0 (Some (stmt 10))
          ∷ statement (form.CreateTask (decl 1) 0) 0 (Some (stmt 14))
          ∷ statement (form.CreateTask (decl 0) 0) 0 (Some (stmt 15))
          ∷ [];
      scopes =
          scope_text None 0 [] false (Some (stmt 0))
          ∷ scope_text (Some (scope 0)) 3 [] true (Some (stmt 16))
          ∷ scope_text (Some (scope 1)) 0 [] false (Some (stmt 2))
          ∷ scope_text (Some (scope 1)) 0 [] false (Some (stmt 4))
          ∷ scope_text (Some (scope 1)) 0 [] false (Some (stmt 9))
          ∷ [];
      subprograms = [];
      task_units =
          task_unit_text (scope 2) (Some 5) None ((entry 0) ∷ [])
          ∷ task_unit_text (scope 3) None None ((entry 1) ∷ (entry 2) ∷ [])
          ∷ task_unit_text (scope 4) (Some 20) None []
          ∷ [];
      protected_units = [];
      entries =
          entry_text (codes "e") (unit.Task (task_unit 0)) 0 [] None
          ∷ entry_text (codes "a") (unit.Task (task_unit 1)) 0 [] None
          ∷ entry_text (codes "b") (unit.Task (task_unit 1)) 1 [] None
          ∷ [];
      controlled_types = [];
      enumerations = [];
      policies = (policies [] queuing.Fifo None 30);
      environment = (scope 0);
      main = (main_procedure (codes "main") 15 (scope 1));
    }

abbrev pub row_calls_order_script : List (ℤ × Item)
row_calls_order_script = []

-- the lines of its run up to tick 39
unfoldable pub row_calls_order_lines : List (ℕ × Event)
row_calls_order_lines = run_of row_calls_order_program row_calls_order_script 39

unfoldable pub row_calls_order_trace : List (ℕ × Event)
row_calls_order_trace =
    (0, line.New (created.Task (task 0)) (codes "main") 15)
    ∷ (0, line.Ready (t 0) 15 Tail None)
    ∷ (0, line.Run (t 0))
    ∷ (4, line.New (created.Task (task 1)) (codes "main.s") 5)
    ∷ (6, line.New (created.Task (task 2)) (codes "main.t") 15)
    ∷ (8, line.New (created.Task (task 3)) (codes "main.c") 20)
    ∷ (10, line.Ready (t 1) 15 Tail None)
    ∷ (10, line.Ready (t 2) 15 Tail None)
    ∷ (10, line.Ready (t 3) 20 Tail None)
    ∷ (10, line.Block (t 0) waits.Activation)
    ∷ (10, line.Run (t 3))
    ∷ (13, line.Call (task 3) (call 1) (of_task 2 (codes "b")) 20)
    ∷ (15, line.Call (task 3) (call 2) (of_task 2 (codes "a")) 20)
    ∷ (15, line.Block (t 3) waits.Entry)
    ∷ (15, line.Run (t 1))
    ∷ (16, line.Ready (t 1) 5 Head None)
    ∷ (16, line.Run (t 2))
    ∷ (17, line.Ready (t 0) 15 Tail None)
    ∷ (19, line.Block (t 2) waits.Delay)
    ∷ (19, line.Run (t 0))
    ∷ (21, line.Call (task 0) (call 3) (of_task 2 (codes "a")) 15)
    ∷ (21, line.Block (t 0) waits.Entry)
    ∷ (21, line.Run (t 1))
    ∷ (23, line.Done (task 1))
    ∷ (23, line.Idle)
    ∷ (30, line.Ready (t 2) 15 Tail None)
    ∷ (30, line.Run (t 2))
    ∷ (31, line.Done (task 2))
    ∷ (31, line.Gone (task 0) (call 3))
    ∷ (31, line.Ready (t 0) 15 Tail None)
    ∷ (31, line.Raise (t 0) (codes "tasking_error"))
    ∷ (31, line.Gone (task 3) (call 1))
    ∷ (31, line.Trigger (task 3))
    ∷ (31, line.Gone (task 3) (call 2))
    ∷ (31, line.Ready (t 3) 20 Tail None)
    ∷ (31, line.Raise (t 3) (codes "tasking_error"))
    ∷ (31, line.Run (t 3))
    ∷ (32, line.Raise (t 3) (codes "tasking_error"))
    ∷ (33, line.Done (task 3))
    ∷ (33, line.Run (t 0))
    ∷ (36, line.Leave (t 0) (region 1) leaves.End)
    ∷ (37, line.Left (t 0) (region 1))
    ∷ (38, line.Done (task 0))
    ∷ (38, line.End end.Completed)
    ∷ []

pub row_calls_order_runs : row_calls_order_lines ≡ row_calls_order_trace
unfolding row_calls_order_lines row_calls_order_trace digits computing
row_calls_order_runs = refl

-- whether every world of its run is well formed
unfoldable pub row_calls_order_worlds : Bool
row_calls_order_worlds = run_is_well_formed row_calls_order_program row_calls_order_script 39

pub row_calls_order_keeps : row_calls_order_worlds ≡ true
unfolding row_calls_order_worlds computing
row_calls_order_keeps = refl

-- whether each handler is released at its tick
unfoldable pub row_calls_order_handlers : Bool
row_calls_order_handlers = releases_ok row_calls_order_program row_calls_order_script 39

pub row_calls_order_releases : row_calls_order_handlers ≡ true
unfolding row_calls_order_handlers computing
row_calls_order_releases = refl
