use Rattle.std.specs.Prelude.{◌≡◌, ℕ, ℤ, pos, List, [], ◌∷◌, Some, None, true, false, codes, refl}
use Rattle.trace_text.specs.declared.events.Event.{Event}
use Rattle.trace_text.specs.declared.events.Event.TheVariants as line
use Rattle.trace_text.specs.declared.events.Created.TheVariants as created
use Rattle.trace_text.specs.declared.events.Ended.TheVariants as end
use Rattle.trace_text.specs.declared.events.Leaves.TheVariants as leaves
use Rattle.trace_text.specs.declared.events.QueueEnd.TheVariants.{Tail}
use Rattle.trace_text.specs.declared.events.Waits.TheVariants as waits
use Rattle.profile_image.specs.declared.script_items.Item.{Item}
use Rattle.profile_image.specs.declared.image.Image.{Image}
use Rattle.profile_image.specs.declared.image.Queuing.TheVariants as queuing
use Rattle.profile_image.specs.declared.values.Value.TheVariants.{Whole, Ticks}
use Rattle.profile_image.specs.declared.values.Constraint.TheVariants.{Free, Whole, Ticks}
use Rattle.profile_image.specs.declared.expressions.Expression.TheVariants.{Known, Binary, Span}
use Rattle.profile_image.specs.declared.expressions.BinaryOperator.TheVariants as binary
use Rattle.profile_image.specs.declared.declarations.DeclarationKind.TheVariants as kind
use Rattle.profile_image.specs.declared.declarations.EntryUnit.TheVariants as unit
use Rattle.profile_image.specs.declared.statements.StatementForm.TheVariants as form
use Rattle.profile_image.specs.declared.statements.EntryOwner.TheVariants as owner
use Rattle.profile_image.specs.declared.statements.SelectKind.TheVariants as select
use Rattle.profile_machine.specs.Notation.{decl, expr, stmt, scope, task_unit, entry, task, call, region, t, of_task, declaration, statement, select_alternative, scope_text, task_unit_text, entry_text, policies, main_procedure}
use Rattle.profile_machine.specs.Run.{run_of}
use Rattle.profile_machine.specs.Computing.{computing}
use Rattle.std.specs.Fmt.{digits}
use Rattle.std.specs.Prelude.{Bool}
use Rattle.profile_machine.specs.WellFormed.{run_is_well_formed}
use Rattle.profile_machine.specs.Releases.{releases_ok}

-- Row select.moments: its run stops before tick 40, so every greater bound gives the same trace.
abbrev pub row_select_moments_program : Image
row_select_moments_program =
    record {
      declarations =
          declaration (codes "s") (codes "main.s") (kind.Task (task_unit 0)) (scope 1) 0 1 Free None
          ∷ declaration (codes "c") (codes "main.c") (kind.Task (task_unit 1)) (scope 1) 1 1 Free None
          ∷ [];
      expressions =
          Known (Ticks (pos 0))
          ∷ Known (Whole (pos 33))
          ∷ Span (pos 1) (expr 1)
          ∷ Binary binary.Plus (expr 0) (expr 2)
          ∷ Known (Ticks (pos 0))
          ∷ Known (Ticks (pos 0))
          ∷ Known (Ticks (pos 0))
          ∷ Known (Whole (pos 33))
          ∷ Span (pos 1) (expr 7)
          ∷ Binary binary.Plus (expr 6) (expr 8)
          ∷ Known (Ticks (pos 9))
          ∷ Known (Ticks (pos 12))
          ∷ [];
      statements =
          statement (form.CallMain) 0 None
          ∷ statement (form.DelayUntil (expr 3)) 2 None
          ∷ statement (form.Accept (entry 0) (scope 3)) 0 (Some (stmt 1))
          ∷ statement (form.Delay (expr 4)) 0 (Some (stmt 1))
          ∷ statement (form.Null) 0 (Some (stmt 1))
          ∷ statement (form.Delay (expr 5)) 0 (Some (stmt 4))
          ∷ statement (form.SelectiveAccept (select_alternative None (select.Accept (stmt 2)) ∷ select_alternative None (select.Delay (stmt 3)) ∷ select_alternative None (select.Delay (stmt 5)) ∷ []) None) 0 (Some (stmt 1))
          ∷ statement (form.EndActivation) 0 (Some (stmt 6))
          ∷ statement (form.EntryCall (entry 0) (owner.Object (decl 0)) []) 0 None
          ∷ statement (form.DelayUntil (expr 9)) 2 None
          ∷ statement (form.TimedCall (stmt 8) (stmt 9)) 2 None
          ∷ statement (form.EndActivation) 0 (Some (stmt 10))
          ∷ statement (form.AsynchronousSelect (stmt 13) (stmt 16)) 0 None
          ∷ statement (form.Delay (expr 10)) 0 None
          ∷ statement (form.Null) 0 None
          ∷ statement (form.Null) 0 (Some (stmt 14))
          ∷ statement (form.Delay (expr 11)) 0 (Some (stmt 15))
          ∷ statement (form.Activate 0) 0 (Some (stmt 12))
          ∷ statement (form.CreateTask (decl 1) 0) 0 (Some (stmt 17))
          ∷ statement (form.CreateTask (decl 0) 0) 0 (Some (stmt 18))
          ∷ [];
      scopes =
          scope_text None 0 [] false (Some (stmt 0))
          ∷ scope_text (Some (scope 0)) 2 [] true (Some (stmt 19))
          ∷ scope_text (Some (scope 1)) 0 [] false (Some (stmt 7))
          ∷ scope_text (Some (scope 2)) 0 [] false None
          ∷ scope_text (Some (scope 1)) 0 [] false (Some (stmt 11))
          ∷ [];
      subprograms = [];
      task_units =
          task_unit_text (scope 2) (Some 20) None ((entry 0) ∷ [])
          ∷ task_unit_text (scope 4) None None []
          ∷ [];
      protected_units = [];
      entries =
          entry_text (codes "e") (unit.Task (task_unit 0)) 0 [] None
          ∷ [];
      controlled_types = [];
      enumerations = [];
      policies = (policies [] queuing.Fifo None 30);
      environment = (scope 0);
      main = (main_procedure (codes "main") 15 (scope 1));
    }

abbrev pub row_select_moments_script : List (ℤ × Item)
row_select_moments_script = []

-- the lines of its run up to tick 40
unfoldable pub row_select_moments_lines : List (ℕ × Event)
row_select_moments_lines = run_of row_select_moments_program row_select_moments_script 40

unfoldable pub row_select_moments_trace : List (ℕ × Event)
row_select_moments_trace =
    (0, line.New (created.Task (task 0)) (codes "main") 15)
    ∷ (0, line.Ready (t 0) 15 Tail None)
    ∷ (0, line.Run (t 0))
    ∷ (4, line.New (created.Task (task 1)) (codes "main.s") 20)
    ∷ (6, line.New (created.Task (task 2)) (codes "main.c") 15)
    ∷ (8, line.Ready (t 1) 20 Tail None)
    ∷ (8, line.Ready (t 2) 15 Tail None)
    ∷ (8, line.Block (t 0) waits.Activation)
    ∷ (8, line.Run (t 1))
    ∷ (18, line.Block (t 1) waits.Delay)
    ∷ (18, line.Run (t 2))
    ∷ (19, line.Ready (t 0) 15 Tail None)
    ∷ (23, line.Call (task 2) (call 1) (of_task 1 (codes "e")) 15)
    ∷ (23, line.Block (t 2) waits.Entry)
    ∷ (23, line.Run (t 0))
    ∷ (27, line.Block (t 0) waits.Delay)
    ∷ (27, line.Idle)
    ∷ (33, line.Ready (t 1) 20 Tail None)
    ∷ (33, line.Cancel (task 2) (call 1))
    ∷ (33, line.Ready (t 2) 15 Tail None)
    ∷ (33, line.Run (t 1))
    ∷ (34, line.Done (task 1))
    ∷ (34, line.Trigger (task 0))
    ∷ (34, line.Ready (t 0) 15 Tail None)
    ∷ (34, line.Run (t 2))
    ∷ (35, line.Done (task 2))
    ∷ (35, line.Run (t 0))
    ∷ (37, line.Leave (t 0) (region 1) leaves.End)
    ∷ (38, line.Left (t 0) (region 1))
    ∷ (39, line.Done (task 0))
    ∷ (39, line.End end.Completed)
    ∷ []

pub row_select_moments_runs : row_select_moments_lines ≡ row_select_moments_trace
unfolding row_select_moments_lines row_select_moments_trace digits computing
row_select_moments_runs = refl

-- whether every world of its run is well formed
unfoldable pub row_select_moments_worlds : Bool
row_select_moments_worlds = run_is_well_formed row_select_moments_program row_select_moments_script 40

pub row_select_moments_keeps : row_select_moments_worlds ≡ true
unfolding row_select_moments_worlds computing
row_select_moments_keeps = refl

-- whether each handler is released at its tick
unfoldable pub row_select_moments_handlers : Bool
row_select_moments_handlers = releases_ok row_select_moments_program row_select_moments_script 40

pub row_select_moments_releases : row_select_moments_handlers ≡ true
unfolding row_select_moments_handlers computing
row_select_moments_releases = refl
