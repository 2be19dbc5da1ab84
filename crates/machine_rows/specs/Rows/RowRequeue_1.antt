use Rattle.std.specs.Prelude.{◌≡◌, ℕ, ℤ, List, [], ◌∷◌, Some, None, true, false, codes, refl}
use Rattle.trace_text.specs.declared.events.Event.{Event}
use Rattle.trace_text.specs.declared.events.Event.TheVariants as line
use Rattle.trace_text.specs.declared.events.Created.TheVariants as created
use Rattle.trace_text.specs.declared.events.Ended.TheVariants as end
use Rattle.trace_text.specs.declared.events.Finished.TheVariants as finished
use Rattle.trace_text.specs.declared.events.Leaves.TheVariants as leaves
use Rattle.trace_text.specs.declared.events.QueueEnd.TheVariants.{Tail}
use Rattle.trace_text.specs.declared.events.Waits.TheVariants as waits
use Rattle.profile_image.specs.declared.script_items.Item.{Item}
use Rattle.profile_image.specs.declared.image.Image.{Image}
use Rattle.profile_image.specs.declared.image.Queuing.TheVariants as queuing
use Rattle.profile_image.specs.declared.values.Constraint.TheVariants.{Free}
use Rattle.profile_image.specs.declared.declarations.DeclarationKind.TheVariants as kind
use Rattle.profile_image.specs.declared.declarations.EntryUnit.TheVariants as unit
use Rattle.profile_image.specs.declared.statements.StatementForm.TheVariants as form
use Rattle.profile_image.specs.declared.statements.EntryOwner.TheVariants as owner
use Rattle.profile_image.specs.declared.statements.Piece.TheVariants as piece
use Rattle.profile_machine.specs.Notation.{decl, stmt, scope, task_unit, entry, task, call, region, t, of_task, declaration, statement, scope_text, task_unit_text, entry_text, policies, main_procedure}
use Rattle.profile_machine.specs.Run.{run_of}
use Rattle.profile_machine.specs.Computing.{computing}
use Rattle.std.specs.Fmt.{digits}
use Rattle.std.specs.Prelude.{Bool}
use Rattle.profile_machine.specs.WellFormed.{run_is_well_formed}
use Rattle.profile_machine.specs.Releases.{releases_ok}

-- Row requeue.1: its run stops before tick 27, so every greater bound gives the same trace.
abbrev pub row_requeue_1_program : Image
row_requeue_1_program =
    record {
      declarations =
          declaration (codes "s") (codes "main.s") (kind.Task (task_unit 0)) (scope 1) 0 1 Free None
          ∷ [];
      expressions = [];
      statements =
          statement (form.CallMain) 0 None
          ∷ statement (form.Accept (entry 1) (scope 4)) 0 None
          ∷ statement (form.Null) 0 None
          ∷ statement (form.Accept (entry 0) (scope 3)) 0 (Some (stmt 1))
          ∷ statement (form.Requeue (entry 1) owner.Own false) 0 None
          ∷ statement (form.EndActivation) 0 (Some (stmt 3))
          ∷ statement (form.PutLine (piece.Text (codes "ok") ∷ [])) 0 None
          ∷ statement (form.EntryCall (entry 0) (owner.Object (decl 0)) []) 0 (Some (stmt 6))
          ∷ statement (form.Activate 0) 0 (Some (stmt 7))
          ∷ statement (form.CreateTask (decl 0) 0) 0 (Some (stmt 8))
          ∷ [];
      scopes =
          scope_text None 0 [] false (Some (stmt 0))
          ∷ scope_text (Some (scope 0)) 1 [] true (Some (stmt 9))
          ∷ scope_text (Some (scope 1)) 0 [] false (Some (stmt 5))
          ∷ scope_text (Some (scope 2)) 0 [] false (Some (stmt 4))
          ∷ scope_text (Some (scope 2)) 0 [] false (Some (stmt 2))
          ∷ [];
      subprograms = [];
      task_units =
          task_unit_text (scope 2) None None ((entry 0) ∷ (entry 1) ∷ [])
          ∷ [];
      protected_units = [];
      entries =
          entry_text (codes "a") (unit.Task (task_unit 0)) 0 [] None
          ∷ entry_text (codes "b") (unit.Task (task_unit 0)) 1 [] None
          ∷ [];
      controlled_types = [];
      enumerations = [];
      policies = (policies [] queuing.Fifo None 30);
      environment = (scope 0);
      main = (main_procedure (codes "main") 15 (scope 1));
    }

abbrev pub row_requeue_1_script : List (ℤ × Item)
row_requeue_1_script = []

-- the lines of its run up to tick 27
unfoldable pub row_requeue_1_lines : List (ℕ × Event)
row_requeue_1_lines = run_of row_requeue_1_program row_requeue_1_script 27

unfoldable pub row_requeue_1_trace : List (ℕ × Event)
row_requeue_1_trace =
    (0, line.New (created.Task (task 0)) (codes "main") 15)
    ∷ (0, line.Ready (t 0) 15 Tail None)
    ∷ (0, line.Run (t 0))
    ∷ (4, line.New (created.Task (task 1)) (codes "main.s") 15)
    ∷ (6, line.Ready (t 1) 15 Tail None)
    ∷ (6, line.Block (t 0) waits.Activation)
    ∷ (6, line.Run (t 1))
    ∷ (7, line.Ready (t 0) 15 Tail None)
    ∷ (9, line.Block (t 1) waits.Accept)
    ∷ (9, line.Run (t 0))
    ∷ (11, line.Call (task 0) (call 1) (of_task 1 (codes "a")) 15)
    ∷ (11, line.Start (t 1) (call 1))
    ∷ (11, line.Ready (t 1) 15 Tail None)
    ∷ (11, line.Block (t 0) waits.Entry)
    ∷ (11, line.Run (t 1))
    ∷ (14, line.Finish (t 1) (call 1) finished.Requeue)
    ∷ (14, line.Call (task 0) (call 1) (of_task 1 (codes "b")) 15)
    ∷ (16, line.Start (t 1) (call 1))
    ∷ (18, line.Finish (t 1) (call 1) finished.Ok)
    ∷ (18, line.Ready (t 0) 15 Tail None)
    ∷ (19, line.Done (task 1))
    ∷ (19, line.Run (t 0))
    ∷ (23, line.Put (t 0) (codes "ok"))
    ∷ (24, line.Leave (t 0) (region 1) leaves.End)
    ∷ (25, line.Left (t 0) (region 1))
    ∷ (26, line.Done (task 0))
    ∷ (26, line.End end.Completed)
    ∷ []

pub row_requeue_1_runs : row_requeue_1_lines ≡ row_requeue_1_trace
unfolding row_requeue_1_lines row_requeue_1_trace digits computing
row_requeue_1_runs = refl

-- whether every world of its run is well formed
unfoldable pub row_requeue_1_worlds : Bool
row_requeue_1_worlds = run_is_well_formed row_requeue_1_program row_requeue_1_script 27

pub row_requeue_1_keeps : row_requeue_1_worlds ≡ true
unfolding row_requeue_1_worlds computing
row_requeue_1_keeps = refl

-- whether each handler is released at its tick
unfoldable pub row_requeue_1_handlers : Bool
row_requeue_1_handlers = releases_ok row_requeue_1_program row_requeue_1_script 27

pub row_requeue_1_releases : row_requeue_1_handlers ≡ true
unfolding row_requeue_1_handlers computing
row_requeue_1_releases = refl
