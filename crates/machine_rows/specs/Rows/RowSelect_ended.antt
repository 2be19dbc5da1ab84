use Rattle.std.specs.Prelude.{◌≡◌, ℕ, ℤ, pos, List, [], ◌∷◌, Some, None, true, false, codes, refl}
use Rattle.trace_text.specs.declared.events.Event.{Event}
use Rattle.trace_text.specs.declared.events.Event.TheVariants as line
use Rattle.trace_text.specs.declared.events.Created.TheVariants as created
use Rattle.trace_text.specs.declared.events.Ended.TheVariants as end
use Rattle.trace_text.specs.declared.events.Finished.TheVariants as finished
use Rattle.trace_text.specs.declared.events.Leaves.TheVariants as leaves
use Rattle.trace_text.specs.declared.events.QueueEnd.TheVariants.{Head, Tail}
use Rattle.trace_text.specs.declared.events.Waits.TheVariants as waits
use Rattle.profile_image.specs.declared.script_items.Item.{Item}
use Rattle.profile_image.specs.declared.image.Image.{Image}
use Rattle.profile_image.specs.declared.image.Queuing.TheVariants as queuing
use Rattle.profile_image.specs.declared.values.Value.TheVariants.{Ticks}
use Rattle.profile_image.specs.declared.values.Constraint.TheVariants.{Free, Ticks}
use Rattle.profile_image.specs.declared.expressions.Expression.TheVariants.{Known}
use Rattle.profile_image.specs.declared.declarations.DeclarationKind.TheVariants as kind
use Rattle.profile_image.specs.declared.declarations.EntryUnit.TheVariants as unit
use Rattle.profile_image.specs.declared.statements.StatementForm.TheVariants as form
use Rattle.profile_image.specs.declared.statements.EntryOwner.TheVariants as owner
use Rattle.profile_machine.specs.Notation.{decl, expr, stmt, scope, task_unit, entry, task, call, region, t, of_task, declaration, statement, scope_text, task_unit_text, entry_text, policies, main_procedure}
use Rattle.profile_machine.specs.Run.{run_of}
use Rattle.profile_machine.specs.Computing.{computing}
use Rattle.std.specs.Fmt.{digits}
use Rattle.std.specs.Prelude.{Bool}
use Rattle.profile_machine.specs.WellFormed.{run_is_well_formed}
use Rattle.profile_machine.specs.Releases.{releases_ok}

-- Row select.ended: its run stops before tick 41, so every greater bound gives the same trace.
abbrev pub row_select_ended_program : Image
row_select_ended_program =
    record {
      declarations =
          declaration (codes "t") (codes "main.t") (kind.Task (task_unit 0)) (scope 1) 0 1 Free None
          ∷ declaration (codes "c") (codes "main.c") (kind.Task (task_unit 1)) (scope 1) 1 1 Free None
          ∷ [];
      expressions =
          Known (Ticks (pos 12))
          ∷ Known (Ticks (pos 9))
          ∷ [];
      statements =
          statement (form.CallMain) 0 None
          ∷ statement (form.Accept (entry 0) (scope 3)) 0 None
          ∷ statement (form.Delay (expr 0)) 0 None
          ∷ statement (form.Null) 0 (Some (stmt 1))
          ∷ statement (form.EndActivation) 0 (Some (stmt 3))
          ∷ statement (form.AsynchronousSelect (stmt 8) (stmt 9)) 0 None
          ∷ statement (form.Null) 0 None
          ∷ statement (form.Null) 0 (Some (stmt 6))
          ∷ statement (form.EntryCall (entry 0) (owner.Object (decl 0)) []) 0 (Some (stmt 7))
          ∷ statement (form.Delay (expr 1)) 0 None
          ∷ statement (form.EndActivation) 0 (Some (stmt 5))
          ∷ statement (form.Null) 0 None
          ∷ statement (form.Activate 0) 0 (Some (stmt 11))
          ∷ statement (form.CreateTask (decl 1) 0) 0 (Some (stmt 12))
          ∷ statement (form.CreateTask (decl 0) 0) 0 (Some (stmt 13))
          ∷ [];
      scopes =
          scope_text None 0 [] false (Some (stmt 0))
          ∷ scope_text (Some (scope 0)) 2 [] true (Some (stmt 14))
          ∷ scope_text (Some (scope 1)) 0 [] false (Some (stmt 4))
          ∷ scope_text (Some (scope 2)) 0 [] false (Some (stmt 2))
          ∷ scope_text (Some (scope 1)) 0 [] false (Some (stmt 10))
          ∷ [];
      subprograms = [];
      task_units =
          task_unit_text (scope 2) (Some 10) None ((entry 0) ∷ [])
          ∷ task_unit_text (scope 4) (Some 20) None []
          ∷ [];
      protected_units = [];
      entries =
          entry_text (codes "e") (unit.Task (task_unit 0)) 0 [] None
          ∷ [];
      controlled_types = [];
      enumerations = [];
      policies = (policies [] queuing.Fifo None 30);
      environment = (scope 0);
      main = (main_procedure (codes "main") 15 (scope 1));
    }

abbrev pub row_select_ended_script : List (ℤ × Item)
row_select_ended_script = []

-- the lines of its run up to tick 41
unfoldable pub row_select_ended_lines : List (ℕ × Event)
row_select_ended_lines = run_of row_select_ended_program row_select_ended_script 41

unfoldable pub row_select_ended_trace : List (ℕ × Event)
row_select_ended_trace =
    (0, line.New (created.Task (task 0)) (codes "main") 15)
    ∷ (0, line.Ready (t 0) 15 Tail None)
    ∷ (0, line.Run (t 0))
    ∷ (4, line.New (created.Task (task 1)) (codes "main.t") 10)
    ∷ (6, line.New (created.Task (task 2)) (codes "main.c") 20)
    ∷ (8, line.Ready (t 1) 15 Tail None)
    ∷ (8, line.Ready (t 2) 20 Tail None)
    ∷ (8, line.Block (t 0) waits.Activation)
    ∷ (8, line.Run (t 2))
    ∷ (11, line.Call (task 2) (call 1) (of_task 1 (codes "e")) 20)
    ∷ (13, line.Block (t 2) waits.Delay)
    ∷ (13, line.Run (t 1))
    ∷ (14, line.Ready (t 0) 15 Tail None)
    ∷ (14, line.Ready (t 1) 10 Head None)
    ∷ (14, line.Run (t 0))
    ∷ (16, line.Leave (t 0) (region 1) leaves.End)
    ∷ (16, line.Block (t 0) waits.Dependents)
    ∷ (16, line.Run (t 1))
    ∷ (19, line.Start (t 1) (call 1))
    ∷ (19, line.Ready (t 1) 20 Head None)
    ∷ (21, line.Block (t 1) waits.Delay)
    ∷ (21, line.Idle)
    ∷ (22, line.Ready (t 2) 20 Tail None)
    ∷ (22, line.Run (t 2))
    ∷ (23, line.Block (t 2) waits.Call)
    ∷ (23, line.Idle)
    ∷ (33, line.Ready (t 1) 20 Tail None)
    ∷ (33, line.Run (t 1))
    ∷ (34, line.Finish (t 1) (call 1) finished.Ok)
    ∷ (34, line.Ready (t 2) 20 Tail None)
    ∷ (34, line.Ready (t 1) 10 Head None)
    ∷ (34, line.Run (t 2))
    ∷ (37, line.Done (task 2))
    ∷ (37, line.Run (t 1))
    ∷ (38, line.Done (task 1))
    ∷ (38, line.Ready (t 0) 15 Tail None)
    ∷ (38, line.Run (t 0))
    ∷ (39, line.Left (t 0) (region 1))
    ∷ (40, line.Done (task 0))
    ∷ (40, line.End end.Completed)
    ∷ []

pub row_select_ended_runs : row_select_ended_lines ≡ row_select_ended_trace
unfolding row_select_ended_lines row_select_ended_trace digits computing
row_select_ended_runs = refl

-- whether every world of its run is well formed
unfoldable pub row_select_ended_worlds : Bool
row_select_ended_worlds = run_is_well_formed row_select_ended_program row_select_ended_script 41

pub row_select_ended_keeps : row_select_ended_worlds ≡ true
unfolding row_select_ended_worlds computing
row_select_ended_keeps = refl

-- whether each handler is released at its tick
unfoldable pub row_select_ended_handlers : Bool
row_select_ended_handlers = releases_ok row_select_ended_program row_select_ended_script 41

pub row_select_ended_releases : row_select_ended_handlers ≡ true
unfolding row_select_ended_handlers computing
row_select_ended_releases = refl
