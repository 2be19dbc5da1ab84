use Rattle.std.specs.Prelude.{◌≡◌, ℕ, ℤ, pos, List, [], ◌∷◌, Some, None, true, false, codes, refl}
use Rattle.ann_base.specs.declared.exceptions.Raised.TheVariants as exception
use Rattle.trace_text.specs.declared.events.Event.{Event}
use Rattle.trace_text.specs.declared.events.Event.TheVariants as line
use Rattle.trace_text.specs.declared.events.Created.TheVariants as created
use Rattle.trace_text.specs.declared.events.Ended.TheVariants as end
use Rattle.trace_text.specs.declared.events.Finished.TheVariants as finished
use Rattle.trace_text.specs.declared.events.Leaves.TheVariants as leaves
use Rattle.trace_text.specs.declared.events.QueueEnd.TheVariants.{Tail}
use Rattle.trace_text.specs.declared.events.Waits.TheVariants as waits
use Rattle.profile_image.specs.declared.script_items.Item.{Item}
use Rattle.profile_image.specs.declared.image.Image.{Image}
use Rattle.profile_image.specs.declared.image.Queuing.TheVariants as queuing
use Rattle.profile_image.specs.declared.values.Value.TheVariants.{Ticks}
use Rattle.profile_image.specs.declared.values.Constraint.TheVariants.{Free, Ticks}
use Rattle.profile_image.specs.declared.expressions.Expression.TheVariants.{Known}
use Rattle.profile_image.specs.declared.declarations.DeclarationKind.TheVariants as kind
use Rattle.profile_image.specs.declared.declarations.EntryUnit.TheVariants as unit
use Rattle.profile_image.specs.declared.declarations.ExceptionChoice.TheVariants as exception_choice
use Rattle.profile_image.specs.declared.statements.StatementForm.TheVariants as form
use Rattle.profile_image.specs.declared.statements.EntryOwner.TheVariants as owner
use Rattle.profile_machine.specs.Notation.{decl, expr, stmt, scope, task_unit, entry, task, call, region, t, of_task, declaration, statement, handler, scope_text, task_unit_text, entry_text, policies, main_procedure}
use Rattle.profile_machine.specs.Run.{run_of}
use Rattle.profile_machine.specs.Computing.{computing}
use Rattle.std.specs.Fmt.{digits}
use Rattle.std.specs.Prelude.{Bool}
use Rattle.profile_machine.specs.WellFormed.{run_is_well_formed}
use Rattle.profile_machine.specs.Releases.{releases_ok}

-- Row select.raised: its run stops before tick 36, so every greater bound gives the same trace.
abbrev pub row_select_raised_program : Image
row_select_raised_program =
    record {
      declarations =
          declaration (codes "t") (codes "main.t") (kind.Task (task_unit 0)) (scope 1) 0 1 Free None
          ∷ [];
      expressions =
          Known (Ticks (pos 9))
          ∷ Known (Ticks (pos 4))
          ∷ Known (Ticks (pos 6))
          ∷ [];
      statements =
          statement (form.CallMain) 0 None
          ∷ statement (form.Accept (entry 0) (scope 3)) 0 None
          ∷ statement (form.Raise exception.Constraint) 0 None
          ∷ statement (form.Delay (expr 0)) 0 (Some (stmt 2))
          ∷ statement (form.Delay (expr 1)) 0 (Some (stmt 1))
          ∷ statement (form.EndActivation) 0 (Some (stmt 4))
          ∷ statement (form.Handled (handler (exception_choice.Named exception.Constraint ∷ []) (stmt 13) ∷ []) (stmt 11)) 0 None
          ∷ statement (form.AsynchronousSelect (stmt 9) (stmt 10)) 0 None
          ∷ statement (form.Null) 0 None
          ∷ statement (form.EntryCall (entry 0) (owner.Object (decl 0)) []) 0 (Some (stmt 8))
          ∷ statement (form.Delay (expr 2)) 0 None
          ∷ statement (form.Activate 0) 0 (Some (stmt 7))
          ∷ statement (form.Null) 0 None
          ∷ statement (form.Null) 0 (Some (stmt 12))
          ∷ statement (form.CreateTask (decl 0) 0) 0 (Some (stmt 6))
          ∷ [];
      scopes =
          scope_text None 0 [] false (Some (stmt 0))
          ∷ scope_text (Some (scope 0)) 1 [] true (Some (stmt 14))
          ∷ scope_text (Some (scope 1)) 0 [] false (Some (stmt 5))
          ∷ scope_text (Some (scope 2)) 0 [] false (Some (stmt 3))
          ∷ [];
      subprograms = [];
      task_units =
          task_unit_text (scope 2) (Some 20) None ((entry 0) ∷ [])
          ∷ [];
      protected_units = [];
      entries =
          entry_text (codes "e") (unit.Task (task_unit 0)) 0 [] None
          ∷ [];
      controlled_types = [];
      enumerations = [];
      policies = (policies [] queuing.Fifo None 30);
      environment = (scope 0);
      main = (main_procedure (codes "main") 15 (scope 1));
    }

abbrev pub row_select_raised_script : List (ℤ × Item)
row_select_raised_script = []

-- the lines of its run up to tick 36
unfoldable pub row_select_raised_lines : List (ℕ × Event)
row_select_raised_lines = run_of row_select_raised_program row_select_raised_script 36

unfoldable pub row_select_raised_trace : List (ℕ × Event)
row_select_raised_trace =
    (0, line.New (created.Task (task 0)) (codes "main") 15)
    ∷ (0, line.Ready (t 0) 15 Tail None)
    ∷ (0, line.Run (t 0))
    ∷ (4, line.New (created.Task (task 1)) (codes "main.t") 20)
    ∷ (6, line.Ready (t 1) 20 Tail None)
    ∷ (6, line.Block (t 0) waits.Activation)
    ∷ (6, line.Run (t 1))
    ∷ (7, line.Ready (t 0) 15 Tail None)
    ∷ (9, line.Block (t 1) waits.Delay)
    ∷ (9, line.Run (t 0))
    ∷ (11, line.Call (task 0) (call 1) (of_task 1 (codes "e")) 15)
    ∷ (13, line.Block (t 0) waits.Delay)
    ∷ (13, line.Ready (t 1) 20 Tail None)
    ∷ (13, line.Run (t 1))
    ∷ (15, line.Start (t 1) (call 1))
    ∷ (17, line.Block (t 1) waits.Delay)
    ∷ (17, line.Idle)
    ∷ (19, line.Ready (t 0) 15 Tail None)
    ∷ (19, line.Run (t 0))
    ∷ (20, line.Block (t 0) waits.Call)
    ∷ (20, line.Idle)
    ∷ (26, line.Ready (t 1) 20 Tail None)
    ∷ (26, line.Run (t 1))
    ∷ (27, line.Raise (t 1) (codes "constraint_error"))
    ∷ (28, line.Finish (t 1) (call 1) (finished.Raised (codes "constraint_error")))
    ∷ (28, line.Ready (t 0) 15 Tail None)
    ∷ (28, line.Raise (t 0) (codes "constraint_error"))
    ∷ (29, line.Done (task 1))
    ∷ (29, line.Run (t 0))
    ∷ (33, line.Leave (t 0) (region 1) leaves.End)
    ∷ (34, line.Left (t 0) (region 1))
    ∷ (35, line.Done (task 0))
    ∷ (35, line.End end.Completed)
    ∷ []

pub row_select_raised_runs : row_select_raised_lines ≡ row_select_raised_trace
unfolding row_select_raised_lines row_select_raised_trace digits computing
row_select_raised_runs = refl

-- whether every world of its run is well formed
unfoldable pub row_select_raised_worlds : Bool
row_select_raised_worlds = run_is_well_formed row_select_raised_program row_select_raised_script 36

pub row_select_raised_keeps : row_select_raised_worlds ≡ true
unfolding row_select_raised_worlds computing
row_select_raised_keeps = refl

-- whether each handler is released at its tick
unfoldable pub row_select_raised_handlers : Bool
row_select_raised_handlers = releases_ok row_select_raised_program row_select_raised_script 36

pub row_select_raised_releases : row_select_raised_handlers ≡ true
unfolding row_select_raised_handlers computing
row_select_raised_releases = refl
