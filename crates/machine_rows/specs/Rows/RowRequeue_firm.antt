use Rattle.std.specs.Prelude.{◌≡◌, ℕ, ℤ, pos, List, [], ◌∷◌, Some, None, true, false, codes, refl}
use Rattle.trace_text.specs.declared.events.Event.{Event}
use Rattle.trace_text.specs.declared.events.Event.TheVariants as line
use Rattle.trace_text.specs.declared.events.Created.TheVariants as created
use Rattle.trace_text.specs.declared.events.Ended.TheVariants as end
use Rattle.trace_text.specs.declared.events.Finished.TheVariants as finished
use Rattle.trace_text.specs.declared.events.Leaves.TheVariants as leaves
use Rattle.trace_text.specs.declared.events.QueueEnd.TheVariants.{Head, Tail}
use Rattle.trace_text.specs.declared.events.Waits.TheVariants as waits
use Rattle.profile_image.specs.declared.script_items.Item.{Item}
use Rattle.profile_image.specs.declared.image.Image.{Image}
use Rattle.profile_image.specs.declared.image.Queuing.TheVariants as queuing
use Rattle.profile_image.specs.declared.values.Value.TheVariants.{Ticks}
use Rattle.profile_image.specs.declared.values.Constraint.TheVariants.{Free, Ticks}
use Rattle.profile_image.specs.declared.expressions.Expression.TheVariants.{Known}
use Rattle.profile_image.specs.declared.declarations.DeclarationKind.TheVariants as kind
use Rattle.profile_image.specs.declared.declarations.EntryUnit.TheVariants as unit
use Rattle.profile_image.specs.declared.statements.StatementForm.TheVariants as form
use Rattle.profile_image.specs.declared.statements.EntryOwner.TheVariants as owner
use Rattle.profile_machine.specs.Notation.{decl, expr, stmt, scope, task_unit, entry, task, call, region, t, of_task, declaration, statement, scope_text, task_unit_text, entry_text, policies, main_procedure}
use Rattle.profile_machine.specs.Run.{run_of}
use Rattle.profile_machine.specs.Computing.{computing}
use Rattle.std.specs.Fmt.{digits}
use Rattle.std.specs.Prelude.{Bool}
use Rattle.profile_machine.specs.WellFormed.{run_is_well_formed}
use Rattle.profile_machine.specs.Releases.{releases_ok}

-- Row requeue.firm: its run stops before tick 39, so every greater bound gives the same trace.
abbrev pub row_requeue_firm_program : Image
row_requeue_firm_program =
    record {
      declarations =
          declaration (codes "t") (codes "main.t") (kind.Task (task_unit 0)) (scope 1) 0 1 Free None
          ∷ declaration (codes "c") (codes "main.c") (kind.Task (task_unit 1)) (scope 1) 1 1 Free None
          ∷ [];
      expressions =
          Known (Ticks (pos 10))
          ∷ Known (Ticks (pos 5))
          ∷ Known (Ticks (pos 12))
          ∷ [];
      statements =
          statement (form.CallMain) 0 None
          ∷ statement (form.Accept (entry 1) (scope 4)) 0 None
          ∷ statement (form.Delay (expr 0)) 0 (Some (stmt 1))
          ∷ statement (form.Accept (entry 0) (scope 3)) 0 (Some (stmt 2))
          ∷ statement (form.Requeue (entry 1) owner.Own false) 0 None
          ∷ statement (form.EndActivation) 0 (Some (stmt 3))
          ∷ statement (form.EntryCall (entry 0) (owner.Object (decl 0)) []) 0 None
          ∷ statement (form.Delay (expr 1)) 0 None
          ∷ statement (form.TimedCall (stmt 6) (stmt 7)) 0 None
          ∷ statement (form.EndActivation) 0 (Some (stmt 8))
          ∷ statement (form.Abort ((decl 1) ∷ [])) 0 None
          ∷ statement (form.Delay (expr 2)) 0 (Some (stmt 10))
          ∷ statement (form.Activate 0) 0 (Some (stmt 11))
          ∷ statement (form.CreateTask (decl 1) 0) 0 (Some (stmt 12))
          ∷ statement (form.CreateTask (decl 0) 0) 0 (Some (stmt 13))
          ∷ [];
      scopes =
          scope_text None 0 [] false (Some (stmt 0))
          ∷ scope_text (Some (scope 0)) 2 [] true (Some (stmt 14))
          ∷ scope_text (Some (scope 1)) 0 [] false (Some (stmt 5))
          ∷ scope_text (Some (scope 2)) 0 [] false (Some (stmt 4))
          ∷ scope_text (Some (scope 2)) 0 [] false None
          ∷ scope_text (Some (scope 1)) 0 [] false (Some (stmt 9))
          ∷ [];
      subprograms = [];
      task_units =
          task_unit_text (scope 2) (Some 10) None ((entry 0) ∷ (entry 1) ∷ [])
          ∷ task_unit_text (scope 5) (Some 20) None []
          ∷ [];
      protected_units = [];
      entries =
          entry_text (codes "e") (unit.Task (task_unit 0)) 0 [] None
          ∷ entry_text (codes "f") (unit.Task (task_unit 0)) 1 [] None
          ∷ [];
      controlled_types = [];
      enumerations = [];
      policies = (policies [] queuing.Fifo None 30);
      environment = (scope 0);
      main = (main_procedure (codes "main") 15 (scope 1));
    }

abbrev pub row_requeue_firm_script : List (ℤ × Item)
row_requeue_firm_script = []

-- the lines of its run up to tick 39
unfoldable pub row_requeue_firm_lines : List (ℕ × Event)
row_requeue_firm_lines = run_of row_requeue_firm_program row_requeue_firm_script 39

unfoldable pub row_requeue_firm_trace : List (ℕ × Event)
row_requeue_firm_trace =
    (0, line.New (created.Task (task 0)) (codes "main") 15)
    ∷ (0, line.Ready (t 0) 15 Tail None)
    ∷ (0, line.Run (t 0))
    ∷ (4, line.New (created.Task (task 1)) (codes "main.t") 10)
    ∷ (6, line.New (created.Task (task 2)) (codes "main.c") 20)
    ∷ (8, line.Ready (t 1) 15 Tail None)
    ∷ (8, line.Ready (t 2) 20 Tail None)
    ∷ (8, line.Block (t 0) waits.Activation)
    ∷ (8, line.Run (t 2))
    ∷ (11, line.Call (task 2) (call 1) (of_task 1 (codes "e")) 20)
    ∷ (11, line.Block (t 2) waits.Entry)
    ∷ (11, line.Run (t 1))
    ∷ (12, line.Ready (t 0) 15 Tail None)
    ∷ (12, line.Ready (t 1) 10 Head None)
    ∷ (12, line.Run (t 0))
    ∷ (14, line.Block (t 0) waits.Delay)
    ∷ (14, line.Run (t 1))
    ∷ (16, line.Start (t 1) (call 1))
    ∷ (16, line.Ready (t 1) 20 Head None)
    ∷ (19, line.Finish (t 1) (call 1) finished.Requeue)
    ∷ (19, line.Call (task 2) (call 1) (of_task 1 (codes "f")) 20)
    ∷ (19, line.Ready (t 1) 10 Head None)
    ∷ (21, line.Block (t 1) waits.Delay)
    ∷ (21, line.Idle)
    ∷ (26, line.Ready (t 0) 15 Tail None)
    ∷ (26, line.Run (t 0))
    ∷ (28, line.Abort (task 0) (task 2))
    ∷ (29, line.Leave (t 0) (region 1) leaves.End)
    ∷ (29, line.Block (t 0) waits.Dependents)
    ∷ (29, line.Idle)
    ∷ (31, line.Ready (t 1) 10 Tail None)
    ∷ (31, line.Run (t 1))
    ∷ (33, line.Start (t 1) (call 1))
    ∷ (33, line.Ready (t 1) 20 Head None)
    ∷ (34, line.Finish (t 1) (call 1) finished.Ok)
    ∷ (34, line.Ready (t 2) 20 Tail None)
    ∷ (34, line.Ready (t 1) 10 Head None)
    ∷ (34, line.Run (t 2))
    ∷ (35, line.Done (task 2))
    ∷ (35, line.Run (t 1))
    ∷ (36, line.Done (task 1))
    ∷ (36, line.Ready (t 0) 15 Tail None)
    ∷ (36, line.Run (t 0))
    ∷ (37, line.Left (t 0) (region 1))
    ∷ (38, line.Done (task 0))
    ∷ (38, line.End end.Completed)
    ∷ []

pub row_requeue_firm_runs : row_requeue_firm_lines ≡ row_requeue_firm_trace
unfolding row_requeue_firm_lines row_requeue_firm_trace digits computing
row_requeue_firm_runs = refl

-- whether every world of its run is well formed
unfoldable pub row_requeue_firm_worlds : Bool
row_requeue_firm_worlds = run_is_well_formed row_requeue_firm_program row_requeue_firm_script 39

pub row_requeue_firm_keeps : row_requeue_firm_worlds ≡ true
unfolding row_requeue_firm_worlds computing
row_requeue_firm_keeps = refl

-- whether each handler is released at its tick
unfoldable pub row_requeue_firm_handlers : Bool
row_requeue_firm_handlers = releases_ok row_requeue_firm_program row_requeue_firm_script 39

pub row_requeue_firm_releases : row_requeue_firm_handlers ≡ true
unfolding row_requeue_firm_handlers computing
row_requeue_firm_releases = refl
