use Rattle.std.specs.Prelude.{◌≡◌, ℕ, ℤ, pos, List, [], ◌∷◌, Some, None, true, false, codes, refl}
use Rattle.trace_text.specs.declared.events.Event.{Event}
use Rattle.trace_text.specs.declared.events.Event.TheVariants as line
use Rattle.trace_text.specs.declared.events.Created.TheVariants as created
use Rattle.trace_text.specs.declared.events.Ended.TheVariants as end
use Rattle.trace_text.specs.declared.events.Finished.TheVariants as finished
use Rattle.trace_text.specs.declared.events.Leaves.TheVariants as leaves
use Rattle.trace_text.specs.declared.events.QueueEnd.TheVariants.{Head, Tail}
use Rattle.trace_text.specs.declared.events.Waits.TheVariants as waits
use Rattle.profile_image.specs.declared.script_items.Item.{Item}
use Rattle.profile_image.specs.declared.image.Image.{Image}
use Rattle.profile_image.specs.declared.image.Queuing.TheVariants as queuing
use Rattle.profile_image.specs.declared.values.Value.TheVariants.{Ticks}
use Rattle.profile_image.specs.declared.values.Constraint.TheVariants.{Free, Ticks}
use Rattle.profile_image.specs.declared.expressions.Expression.TheVariants.{Known}
use Rattle.profile_image.specs.declared.declarations.DeclarationKind.TheVariants as kind
use Rattle.profile_image.specs.declared.declarations.EntryUnit.TheVariants as unit
use Rattle.profile_image.specs.declared.statements.StatementForm.TheVariants as form
use Rattle.profile_image.specs.declared.statements.EntryOwner.TheVariants as owner
use Rattle.profile_image.specs.declared.statements.Piece.TheVariants as piece
use Rattle.profile_machine.specs.Notation.{decl, expr, stmt, scope, task_unit, entry, task, call, region, t, of_task, declaration, statement, scope_text, task_unit_text, entry_text, policies, main_procedure}
use Rattle.profile_machine.specs.Run.{run_of}
use Rattle.profile_machine.specs.Computing.{computing}
use Rattle.std.specs.Fmt.{digits}
use Rattle.std.specs.Prelude.{Bool}
use Rattle.profile_machine.specs.WellFormed.{run_is_well_formed}
use Rattle.profile_machine.specs.Releases.{releases_ok}

-- Row abort.action: its run stops before tick 41, so every greater bound gives the same trace.
abbrev pub row_abort_action_program : Image
row_abort_action_program =
    record {
      declarations =
          declaration (codes "t") (codes "main.t") (kind.Task (task_unit 0)) (scope 1) 0 1 Free None
          ∷ declaration (codes "c") (codes "main.c") (kind.Task (task_unit 1)) (scope 1) 1 1 Free None
          ∷ [];
      expressions =
          Known (Ticks (pos 8))
          ∷ Known (Ticks (pos 8))
          ∷ Known (Ticks (pos 10))
          ∷ [];
      statements =
          statement (form.CallMain) 0 None
          ∷ statement (form.PutLine (piece.Text (codes "no") ∷ [])) 0 None
          ∷ statement (form.PutLine (piece.Text (codes "t") ∷ [])) 0 (Some (stmt 1))
          ∷ statement (form.Accept (entry 0) (scope 3)) 0 (Some (stmt 2))
          ∷ statement (form.Delay (expr 0)) 0 None
          ∷ statement (form.EndActivation) 0 (Some (stmt 3))
          ∷ statement (form.PutLine (piece.Text (codes "no") ∷ [])) 0 None
          ∷ statement (form.EntryCall (entry 0) (owner.Object (decl 0)) []) 0 (Some (stmt 6))
          ∷ statement (form.EndActivation) 0 (Some (stmt 7))
          ∷ statement (form.Abort ((decl 0) ∷ [])) 0 None
          ∷ statement (form.Delay (expr 1)) 0 (Some (stmt 9))
          ∷ statement (form.Abort ((decl 1) ∷ [])) 0 (Some (stmt 10))
          ∷ statement (form.Delay (expr 2)) 0 (Some (stmt 11))
          ∷ statement (form.Activate 0) 0 (Some (stmt 12))
          ∷ statement (form.CreateTask (decl 1) 0) 0 (Some (stmt 13))
          ∷ statement (form.CreateTask (decl 0) 0) 0 (Some (stmt 14))
          ∷ [];
      scopes =
          scope_text None 0 [] false (Some (stmt 0))
          ∷ scope_text (Some (scope 0)) 2 [] true (Some (stmt 15))
          ∷ scope_text (Some (scope 1)) 0 [] false (Some (stmt 5))
          ∷ scope_text (Some (scope 2)) 0 [] false (Some (stmt 4))
          ∷ scope_text (Some (scope 1)) 0 [] false (Some (stmt 8))
          ∷ [];
      subprograms = [];
      task_units =
          task_unit_text (scope 2) (Some 10) None ((entry 0) ∷ [])
          ∷ task_unit_text (scope 4) (Some 12) None []
          ∷ [];
      protected_units = [];
      entries =
          entry_text (codes "e") (unit.Task (task_unit 0)) 0 [] None
          ∷ [];
      controlled_types = [];
      enumerations = [];
      policies = (policies [] queuing.Fifo None 30);
      environment = (scope 0);
      main = (main_procedure (codes "main") 15 (scope 1));
    }

abbrev pub row_abort_action_script : List (ℤ × Item)
row_abort_action_script = []

-- the lines of its run up to tick 41
unfoldable pub row_abort_action_lines : List (ℕ × Event)
row_abort_action_lines = run_of row_abort_action_program row_abort_action_script 41

unfoldable pub row_abort_action_trace : List (ℕ × Event)
row_abort_action_trace =
    (0, line.New (created.Task (task 0)) (codes "main") 15)
    ∷ (0, line.Ready (t 0) 15 Tail None)
    ∷ (0, line.Run (t 0))
    ∷ (4, line.New (created.Task (task 1)) (codes "main.t") 10)
    ∷ (6, line.New (created.Task (task 2)) (codes "main.c") 12)
    ∷ (8, line.Ready (t 1) 15 Tail None)
    ∷ (8, line.Ready (t 2) 15 Tail None)
    ∷ (8, line.Block (t 0) waits.Activation)
    ∷ (8, line.Run (t 1))
    ∷ (9, line.Ready (t 1) 10 Head None)
    ∷ (9, line.Run (t 2))
    ∷ (10, line.Ready (t 0) 15 Tail None)
    ∷ (10, line.Ready (t 2) 12 Head None)
    ∷ (10, line.Run (t 0))
    ∷ (12, line.Block (t 0) waits.Delay)
    ∷ (12, line.Run (t 2))
    ∷ (14, line.Call (task 2) (call 1) (of_task 1 (codes "e")) 12)
    ∷ (14, line.Block (t 2) waits.Entry)
    ∷ (14, line.Run (t 1))
    ∷ (16, line.Start (t 1) (call 1))
    ∷ (16, line.Ready (t 1) 12 Head None)
    ∷ (18, line.Block (t 1) waits.Delay)
    ∷ (18, line.Idle)
    ∷ (22, line.Ready (t 0) 15 Tail None)
    ∷ (22, line.Run (t 0))
    ∷ (24, line.Abort (task 0) (task 2))
    ∷ (26, line.Block (t 0) waits.Delay)
    ∷ (26, line.Ready (t 1) 12 Tail None)
    ∷ (26, line.Run (t 1))
    ∷ (27, line.Finish (t 1) (call 1) finished.Ok)
    ∷ (27, line.Ready (t 2) 12 Tail None)
    ∷ (27, line.Ready (t 1) 10 Head None)
    ∷ (27, line.Run (t 2))
    ∷ (28, line.Done (task 2))
    ∷ (28, line.Run (t 1))
    ∷ (32, line.Put (t 1) (codes "t"))
    ∷ (34, line.Ready (t 0) 15 Tail None)
    ∷ (34, line.Run (t 0))
    ∷ (36, line.Abort (task 0) (task 1))
    ∷ (37, line.Leave (t 0) (region 1) leaves.End)
    ∷ (37, line.Block (t 0) waits.Dependents)
    ∷ (37, line.Run (t 1))
    ∷ (38, line.Done (task 1))
    ∷ (38, line.Ready (t 0) 15 Tail None)
    ∷ (38, line.Run (t 0))
    ∷ (39, line.Left (t 0) (region 1))
    ∷ (40, line.Done (task 0))
    ∷ (40, line.End end.Completed)
    ∷ []

pub row_abort_action_runs : row_abort_action_lines ≡ row_abort_action_trace
unfolding row_abort_action_lines row_abort_action_trace digits computing
row_abort_action_runs = refl

-- whether every world of its run is well formed
unfoldable pub row_abort_action_worlds : Bool
row_abort_action_worlds = run_is_well_formed row_abort_action_program row_abort_action_script 41

pub row_abort_action_keeps : row_abort_action_worlds ≡ true
unfolding row_abort_action_worlds computing
row_abort_action_keeps = refl

-- whether each handler is released at its tick
unfoldable pub row_abort_action_handlers : Bool
row_abort_action_handlers = releases_ok row_abort_action_program row_abort_action_script 41

pub row_abort_action_releases : row_abort_action_handlers ≡ true
unfolding row_abort_action_handlers computing
row_abort_action_releases = refl
