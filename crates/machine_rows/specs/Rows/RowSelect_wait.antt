use Rattle.std.specs.Prelude.{◌≡◌, ℕ, ℤ, pos, List, [], ◌∷◌, Some, None, true, false, codes, refl}
use Rattle.trace_text.specs.declared.events.Event.{Event}
use Rattle.trace_text.specs.declared.events.Event.TheVariants as line
use Rattle.trace_text.specs.declared.events.Created.TheVariants as created
use Rattle.trace_text.specs.declared.events.Ended.TheVariants as end
use Rattle.trace_text.specs.declared.events.Finished.TheVariants as finished
use Rattle.trace_text.specs.declared.events.Leaves.TheVariants as leaves
use Rattle.trace_text.specs.declared.events.QueueEnd.TheVariants.{Tail}
use Rattle.trace_text.specs.declared.events.Waits.TheVariants as waits
use Rattle.profile_image.specs.declared.script_items.Item.{Item}
use Rattle.profile_image.specs.declared.image.Image.{Image}
use Rattle.profile_image.specs.declared.image.Queuing.TheVariants as queuing
use Rattle.profile_image.specs.declared.values.Value.TheVariants.{Ticks}
use Rattle.profile_image.specs.declared.values.Constraint.TheVariants.{Free, Ticks}
use Rattle.profile_image.specs.declared.expressions.Expression.TheVariants.{Known}
use Rattle.profile_image.specs.declared.declarations.DeclarationKind.TheVariants as kind
use Rattle.profile_image.specs.declared.declarations.EntryUnit.TheVariants as unit
use Rattle.profile_image.specs.declared.declarations.ExceptionChoice.TheVariants as exception_choice
use Rattle.profile_image.specs.declared.statements.StatementForm.TheVariants as form
use Rattle.profile_image.specs.declared.statements.EntryOwner.TheVariants as owner
use Rattle.profile_machine.specs.Notation.{decl, expr, stmt, scope, task_unit, entry, task, call, region, t, of_task, declaration, statement, handler, scope_text, subprogram_text, task_unit_text, entry_text, policies, main_procedure}
use Rattle.profile_machine.specs.Run.{run_of}
use Rattle.profile_machine.specs.Computing.{computing}
use Rattle.std.specs.Fmt.{digits}
use Rattle.std.specs.Prelude.{Bool}
use Rattle.profile_machine.specs.WellFormed.{run_is_well_formed}
use Rattle.profile_machine.specs.Releases.{releases_ok}

-- Row select.wait: its run stops before tick 37, so every greater bound gives the same trace.
abbrev pub row_select_wait_program : Image
row_select_wait_program =
    record {
      declarations =
          declaration (codes "t") (codes "a.t") (kind.Task (task_unit 0)) (scope 0) 0 1 Free None
          ∷ [];
      expressions =
          Known (Ticks (pos 9))
          ∷ Known (Ticks (pos 4))
          ∷ Known (Ticks (pos 6))
          ∷ [];
      statements =
          statement (form.CallMain) 0 None
          ∷ statement (form.Null) 0 None
          ∷ statement (form.Null) 0 None
          ∷ statement (form.Handled (handler (exception_choice.Others ∷ []) (stmt 5) ∷ []) (stmt 4)) 0 (Some (stmt 0))
          ∷ statement (form.Null) 0 None
          ∷ statement (form.Null) 0 (Some (stmt 0))
          ∷ statement (form.Accept (entry 0) (scope 2)) 0 None
          ∷ statement (form.Requeue (entry 1) owner.Own true) 0 None
          ∷ statement (form.Delay (expr 0)) 0 (Some (stmt 7))
          ∷ statement (form.Delay (expr 1)) 0 (Some (stmt 6))
          ∷ statement (form.EndActivation) 0 (Some (stmt 9))
          ∷ statement (form.AsynchronousSelect (stmt 14) (stmt 15)) 0 (Some (stmt 3))
          ∷ statement (form.Null) 0 (Some (stmt 3))
          ∷ statement (form.Null) 0 (Some (stmt 12))
          ∷ statement (form.EntryCall (entry 0) (owner.Object (decl 0)) []) 0 (Some (stmt 13))
          ∷ statement (form.Delay (expr 2)) 0 None
          ∷ statement (form.Activate 1) 0 (Some (stmt 11))
          ∷ statement (form.CreateTask (decl 0) 1) 0 (Some (stmt 16))
          ∷ [];
      scopes =
          scope_text None 1 [] true (Some (stmt 17))
          ∷ scope_text (Some (scope 0)) 0 [] false (Some (stmt 10))
          ∷ scope_text (Some (scope 1)) 0 [] false (Some (stmt 8))
          ∷ scope_text (Some (scope 0)) 0 [] false (Some (stmt 2))
          ∷ scope_text (Some (scope 0)) 0 [] false (Some (stmt 1))
          ∷ [];
      subprograms =
          subprogram_text (codes "q") (scope 3) [] None None
          ∷ [];
      task_units =
          task_unit_text (scope 1) (Some 20) None ((entry 0) ∷ (entry 1) ∷ [])
          ∷ [];
      protected_units = [];
      entries =
          entry_text (codes "e") (unit.Task (task_unit 0)) 0 [] None
          ∷ entry_text (codes "f") (unit.Task (task_unit 0)) 1 [] None
          ∷ [];
      controlled_types = [];
      enumerations = [];
      policies = (policies [] queuing.Fifo None 30);
      environment = (scope 0);
      main = (main_procedure (codes "main") 15 (scope 4));
    }

abbrev pub row_select_wait_script : List (ℤ × Item)
row_select_wait_script = []

-- the lines of its run up to tick 37
unfoldable pub row_select_wait_lines : List (ℕ × Event)
row_select_wait_lines = run_of row_select_wait_program row_select_wait_script 37

unfoldable pub row_select_wait_trace : List (ℕ × Event)
row_select_wait_trace =
    (0, line.New (created.Task (task 0)) (codes "main") 15)
    ∷ (0, line.Ready (t 0) 15 Tail None)
    ∷ (0, line.Run (t 0))
    ∷ (2, line.New (created.Task (task 1)) (codes "a.t") 20)
    ∷ (4, line.Ready (t 1) 20 Tail None)
    ∷ (4, line.Block (t 0) waits.Activation)
    ∷ (4, line.Run (t 1))
    ∷ (5, line.Ready (t 0) 15 Tail None)
    ∷ (7, line.Block (t 1) waits.Delay)
    ∷ (7, line.Run (t 0))
    ∷ (9, line.Call (task 0) (call 1) (of_task 1 (codes "e")) 15)
    ∷ (11, line.Block (t 0) waits.Delay)
    ∷ (11, line.Ready (t 1) 20 Tail None)
    ∷ (11, line.Run (t 1))
    ∷ (13, line.Start (t 1) (call 1))
    ∷ (15, line.Block (t 1) waits.Delay)
    ∷ (15, line.Idle)
    ∷ (17, line.Ready (t 0) 15 Tail None)
    ∷ (17, line.Run (t 0))
    ∷ (18, line.Block (t 0) waits.Call)
    ∷ (18, line.Idle)
    ∷ (24, line.Ready (t 1) 20 Tail None)
    ∷ (24, line.Run (t 1))
    ∷ (27, line.Finish (t 1) (call 1) finished.Requeue)
    ∷ (27, line.Call (task 0) (call 1) (of_task 1 (codes "f")) 15)
    ∷ (27, line.Cancel (task 0) (call 1))
    ∷ (27, line.Ready (t 0) 15 Tail None)
    ∷ (28, line.Done (task 1))
    ∷ (28, line.Run (t 0))
    ∷ (35, line.Leave (t 0) (region 1) leaves.End)
    ∷ (36, line.Left (t 0) (region 1))
    ∷ (36, line.Done (task 0))
    ∷ (36, line.End end.Completed)
    ∷ []

pub row_select_wait_runs : row_select_wait_lines ≡ row_select_wait_trace
unfolding row_select_wait_lines row_select_wait_trace digits computing
row_select_wait_runs = refl

-- whether every world of its run is well formed
unfoldable pub row_select_wait_worlds : Bool
row_select_wait_worlds = run_is_well_formed row_select_wait_program row_select_wait_script 37

pub row_select_wait_keeps : row_select_wait_worlds ≡ true
unfolding row_select_wait_worlds computing
row_select_wait_keeps = refl

-- whether each handler is released at its tick
unfoldable pub row_select_wait_handlers : Bool
row_select_wait_handlers = releases_ok row_select_wait_program row_select_wait_script 37

pub row_select_wait_releases : row_select_wait_handlers ≡ true
unfolding row_select_wait_handlers computing
row_select_wait_releases = refl
