use Rattle.std.specs.Prelude.{◌≡◌, ℕ, ℤ, pos, List, [], ◌∷◌, Some, None, true, false, codes, refl}
use Rattle.ann_base.specs.declared.exceptions.Raised.TheVariants as exception
use Rattle.trace_text.specs.declared.events.Event.{Event}
use Rattle.trace_text.specs.declared.events.Event.TheVariants as line
use Rattle.trace_text.specs.declared.events.Created.TheVariants as created
use Rattle.trace_text.specs.declared.events.Ended.TheVariants as end
use Rattle.trace_text.specs.declared.events.Leaves.TheVariants as leaves
use Rattle.trace_text.specs.declared.events.QueueEnd.TheVariants.{Tail}
use Rattle.trace_text.specs.declared.events.Waits.TheVariants as waits
use Rattle.profile_image.specs.declared.script_items.Item.{Item}
use Rattle.profile_image.specs.declared.image.Image.{Image}
use Rattle.profile_image.specs.declared.image.Queuing.TheVariants as queuing
use Rattle.profile_image.specs.declared.values.Value.TheVariants.{Whole, Ticks}
use Rattle.profile_image.specs.declared.values.Constraint.TheVariants.{Free, Whole, Ticks}
use Rattle.profile_image.specs.declared.expressions.Expression.TheVariants.{Known}
use Rattle.profile_image.specs.declared.declarations.DeclarationKind.TheVariants as kind
use Rattle.profile_image.specs.declared.declarations.EntryUnit.TheVariants as unit
use Rattle.profile_image.specs.declared.declarations.ExceptionChoice.TheVariants as exception_choice
use Rattle.profile_image.specs.declared.statements.StatementForm.TheVariants as form
use Rattle.profile_image.specs.declared.statements.EntryOwner.TheVariants as owner
use Rattle.profile_machine.specs.Notation.{decl, expr, stmt, scope, subprogram, task_unit, entry, controlled_type, task, call, region, t, of_task, declaration, statement, handler, scope_text, formal, subprogram_text, task_unit_text, entry_text, controlled_text, policies, main_procedure}
use Rattle.profile_machine.specs.Run.{run_of}
use Rattle.profile_machine.specs.Computing.{computing}
use Rattle.std.specs.Fmt.{digits}
use Rattle.std.specs.Prelude.{Bool}
use Rattle.profile_machine.specs.WellFormed.{run_is_well_formed}
use Rattle.profile_machine.specs.Releases.{releases_ok}

-- Row select.outer: its run stops before tick 44, so every greater bound gives the same trace.
abbrev pub row_select_outer_program : Image
row_select_outer_program =
    record {
      declarations =
          declaration (codes "o") (codes "pk.o") kind.Parameter (scope 1) 0 1 Free None
          ∷ declaration (codes "t") (codes "main.t") (kind.Task (task_unit 0)) (scope 2) 0 1 Free None
          ∷ declaration (codes "c") (codes "main.c") (kind.Task (task_unit 1)) (scope 2) 1 1 Free None
          ∷ declaration (codes "o") (codes "main.c.o") (kind.Controlled (controlled_type 0)) (scope 5) 0 1 Free None
          ∷ [];
      expressions =
          Known (Ticks (pos 9))
          ∷ Known (Ticks (pos 3))
          ∷ Known (Ticks (pos 12))
          ∷ [];
      statements =
          statement (form.CallMain) 0 None
          ∷ statement (form.Delay (expr 0)) 0 None
          ∷ statement (form.EndActivation) 0 (Some (stmt 1))
          ∷ statement (form.AsynchronousSelect (stmt 4) (stmt 5)) 0 None
          ∷ statement (form.EntryCall (entry 0) (owner.Object (decl 1)) []) 0 None
          ∷ statement (form.Block (scope 5)) 0 None
          ∷ statement (form.Null) 0 None
          ∷ statement (form.Initialize (decl 3)) 0 (Some (stmt 6))
          ∷ statement (form.Declare (decl 3)) 0 (Some (stmt 7))
          ∷ statement (form.EndActivation) 0 (Some (stmt 3))
          ∷ statement (form.Handled (handler (exception_choice.Named exception.Tasking ∷ []) (stmt 15) ∷ []) (stmt 14)) 0 None
          ∷ statement (form.EntryCall (entry 1) (owner.Object (decl 2)) []) 0 None
          ∷ statement (form.Abort ((decl 2) ∷ [])) 0 (Some (stmt 11))
          ∷ statement (form.Delay (expr 1)) 0 (Some (stmt 12))
          ∷ statement (form.Activate 0) 0 (Some (stmt 13))
          ∷ statement (form.Null) 0 None
          ∷ statement (form.CreateTask (decl 2) 0) 0 (Some (stmt 10))
          ∷ statement (form.CreateTask (decl 1) 0) 0 (Some (stmt 16))
          ∷ statement (form.Delay (expr 2)) 0 None
          ∷ [];
      scopes =
          scope_text None 0 [] false (Some (stmt 0))
          ∷ scope_text (Some (scope 0)) 1 [] false (Some (stmt 18))
          ∷ scope_text (Some (scope 0)) 2 [] true (Some (stmt 17))
          ∷ scope_text (Some (scope 2)) 0 [] false (Some (stmt 2))
          ∷ scope_text (Some (scope 2)) 0 [] false (Some (stmt 9))
          ∷ scope_text (Some (scope 4)) 1 [] true (Some (stmt 8))
          ∷ [];
      subprograms =
          subprogram_text (codes "initialize") (scope 1) (formal Free (Whole (pos 0)) ∷ []) None None
          ∷ [];
      task_units =
          task_unit_text (scope 3) (Some 20) None ((entry 0) ∷ [])
          ∷ task_unit_text (scope 4) None None ((entry 1) ∷ [])
          ∷ [];
      protected_units = [];
      entries =
          entry_text (codes "e") (unit.Task (task_unit 0)) 0 [] None
          ∷ entry_text (codes "g") (unit.Task (task_unit 1)) 0 [] None
          ∷ [];
      controlled_types =
          controlled_text [] (Some (subprogram 0)) None None
          ∷ [];
      enumerations = [];
      policies = (policies [] queuing.Fifo None 30);
      environment = (scope 0);
      main = (main_procedure (codes "main") 15 (scope 2));
    }

abbrev pub row_select_outer_script : List (ℤ × Item)
row_select_outer_script = []

-- the lines of its run up to tick 44
unfoldable pub row_select_outer_lines : List (ℕ × Event)
row_select_outer_lines = run_of row_select_outer_program row_select_outer_script 44

unfoldable pub row_select_outer_trace : List (ℕ × Event)
row_select_outer_trace =
    (0, line.New (created.Task (task 0)) (codes "main") 15)
    ∷ (0, line.Ready (t 0) 15 Tail None)
    ∷ (0, line.Run (t 0))
    ∷ (4, line.New (created.Task (task 1)) (codes "main.t") 20)
    ∷ (6, line.New (created.Task (task 2)) (codes "main.c") 15)
    ∷ (8, line.Ready (t 1) 20 Tail None)
    ∷ (8, line.Ready (t 2) 15 Tail None)
    ∷ (8, line.Block (t 0) waits.Activation)
    ∷ (8, line.Run (t 1))
    ∷ (11, line.Block (t 1) waits.Delay)
    ∷ (11, line.Run (t 2))
    ∷ (12, line.Ready (t 0) 15 Tail None)
    ∷ (14, line.Call (task 2) (call 1) (of_task 1 (codes "e")) 15)
    ∷ (20, line.Block (t 2) waits.Delay)
    ∷ (20, line.Ready (t 1) 20 Tail None)
    ∷ (20, line.Run (t 1))
    ∷ (21, line.Done (task 1))
    ∷ (21, line.Gone (task 2) (call 1))
    ∷ (21, line.Trigger (task 2))
    ∷ (21, line.Run (t 0))
    ∷ (23, line.Block (t 0) waits.Delay)
    ∷ (23, line.Idle)
    ∷ (26, line.Ready (t 0) 15 Tail None)
    ∷ (26, line.Run (t 0))
    ∷ (28, line.Abort (task 0) (task 2))
    ∷ (30, line.Call (task 0) (call 2) (of_task 2 (codes "g")) 15)
    ∷ (30, line.Gone (task 0) (call 2))
    ∷ (30, line.Raise (t 0) (codes "tasking_error"))
    ∷ (32, line.Ready (t 2) 15 Tail None)
    ∷ (33, line.Leave (t 0) (region 1) leaves.End)
    ∷ (33, line.Block (t 0) waits.Dependents)
    ∷ (33, line.Run (t 2))
    ∷ (35, line.Init (t 2) 1 (region 2) (codes "o"))
    ∷ (36, line.Leave (t 2) (region 2) leaves.Abort)
    ∷ (38, line.Final (t 2) 1)
    ∷ (39, line.Left (t 2) (region 2))
    ∷ (41, line.Done (task 2))
    ∷ (41, line.Ready (t 0) 15 Tail None)
    ∷ (41, line.Run (t 0))
    ∷ (42, line.Left (t 0) (region 1))
    ∷ (43, line.Done (task 0))
    ∷ (43, line.End end.Completed)
    ∷ []

pub row_select_outer_runs : row_select_outer_lines ≡ row_select_outer_trace
unfolding row_select_outer_lines row_select_outer_trace digits computing
row_select_outer_runs = refl

-- whether every world of its run is well formed
unfoldable pub row_select_outer_worlds : Bool
row_select_outer_worlds = run_is_well_formed row_select_outer_program row_select_outer_script 44

pub row_select_outer_keeps : row_select_outer_worlds ≡ true
unfolding row_select_outer_worlds computing
row_select_outer_keeps = refl

-- whether each handler is released at its tick
unfoldable pub row_select_outer_handlers : Bool
row_select_outer_handlers = releases_ok row_select_outer_program row_select_outer_script 44

pub row_select_outer_releases : row_select_outer_handlers ≡ true
unfolding row_select_outer_handlers computing
row_select_outer_releases = refl
