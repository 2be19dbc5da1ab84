use Rattle.std.specs.Prelude.{◌≡◌, ℕ, ℤ, pos, List, [], ◌∷◌, Some, None, true, false, codes, refl}
use Rattle.ann_base.specs.declared.exceptions.Raised.TheVariants as exception
use Rattle.trace_text.specs.declared.events.Event.{Event}
use Rattle.trace_text.specs.declared.events.Event.TheVariants as line
use Rattle.trace_text.specs.declared.events.Created.TheVariants as created
use Rattle.trace_text.specs.declared.events.Ended.TheVariants as end
use Rattle.trace_text.specs.declared.events.Finished.TheVariants as finished
use Rattle.trace_text.specs.declared.events.Leaves.TheVariants as leaves
use Rattle.trace_text.specs.declared.events.QueueEnd.TheVariants.{Tail}
use Rattle.trace_text.specs.declared.events.Waits.TheVariants as waits
use Rattle.profile_image.specs.declared.script_items.Item.{Item}
use Rattle.profile_image.specs.declared.image.Image.{Image}
use Rattle.profile_image.specs.declared.image.Queuing.TheVariants as queuing
use Rattle.profile_image.specs.declared.values.Value.TheVariants.{Whole, Ticks}
use Rattle.profile_image.specs.declared.values.Constraint.TheVariants.{Free, Whole, Ticks}
use Rattle.profile_image.specs.declared.expressions.Expression.TheVariants.{Known}
use Rattle.profile_image.specs.declared.declarations.DeclarationKind.TheVariants as kind
use Rattle.profile_image.specs.declared.declarations.EntryUnit.TheVariants as unit
use Rattle.profile_image.specs.declared.declarations.ExceptionChoice.TheVariants as exception_choice
use Rattle.profile_image.specs.declared.statements.StatementForm.TheVariants as form
use Rattle.profile_image.specs.declared.statements.EntryOwner.TheVariants as owner
use Rattle.profile_image.specs.declared.statements.SelectKind.TheVariants as select
use Rattle.profile_image.specs.declared.statements.Piece.TheVariants as piece
use Rattle.profile_machine.specs.Notation.{decl, expr, stmt, scope, subprogram, task_unit, entry, controlled_type, task, call, region, t, of_task, declaration, statement, select_alternative, handler, scope_text, formal, subprogram_text, task_unit_text, entry_text, controlled_text, policies, main_procedure}
use Rattle.profile_machine.specs.Run.{run_of}
use Rattle.profile_machine.specs.Computing.{computing}
use Rattle.std.specs.Fmt.{digits}
use Rattle.std.specs.Prelude.{Bool}
use Rattle.profile_machine.specs.WellFormed.{run_is_well_formed}
use Rattle.profile_machine.specs.Releases.{releases_ok}

-- Row requeue.dropped: its run stops before tick 50, so every greater bound gives the same trace.
abbrev pub row_requeue_dropped_program : Image
row_requeue_dropped_program =
    record {
      declarations =
          declaration (codes "o") (codes "pk.o") kind.Parameter (scope 1) 0 1 Free None
          ∷ declaration (codes "t") (codes "main.t") (kind.Task (task_unit 0)) (scope 2) 0 1 Free None
          ∷ declaration (codes "a") (codes "main.t.a") (kind.Controlled (controlled_type 0)) (scope 6) 0 1 Free None
          ∷ [];
      expressions =
          Known (Ticks (pos 10))
          ∷ [];
      statements =
          statement (form.CallMain) 0 None
          ∷ statement (form.Accept (entry 1) (scope 7)) 0 None
          ∷ statement (form.Delay (expr 0)) 0 None
          ∷ statement (form.SelectiveAccept (select_alternative None (select.Accept (stmt 1)) ∷ select_alternative None (select.Delay (stmt 2)) ∷ []) None) 0 None
          ∷ statement (form.Accept (entry 0) (scope 4)) 0 (Some (stmt 3))
          ∷ statement (form.Block (scope 5)) 0 None
          ∷ statement (form.Handled (handler (exception_choice.Named exception.Program ∷ []) (stmt 11) ∷ []) (stmt 7)) 0 None
          ∷ statement (form.Block (scope 6)) 0 None
          ∷ statement (form.Requeue (entry 1) owner.Own true) 0 None
          ∷ statement (form.Initialize (decl 2)) 0 (Some (stmt 8))
          ∷ statement (form.Declare (decl 2)) 0 (Some (stmt 9))
          ∷ statement (form.PutLine (piece.Text (codes "pe") ∷ [])) 0 None
          ∷ statement (form.EndActivation) 0 (Some (stmt 4))
          ∷ statement (form.PutLine (piece.Text (codes "back") ∷ [])) 0 None
          ∷ statement (form.EntryCall (entry 0) (owner.Object (decl 1)) []) 0 (Some (stmt 13))
          ∷ statement (form.Activate 0) 0 (Some (stmt 14))
          ∷ statement (form.CreateTask (decl 1) 0) 0 (Some (stmt 15))
          ∷ statement (form.Raise exception.Constraint) 0 None
          ∷ [];
      scopes =
          scope_text None 0 [] false (Some (stmt 0))
          ∷ scope_text (Some (scope 0)) 1 [] false (Some (stmt 17))
          ∷ scope_text (Some (scope 0)) 1 [] true (Some (stmt 16))
          ∷ scope_text (Some (scope 2)) 0 [] false (Some (stmt 12))
          ∷ scope_text (Some (scope 3)) 0 [] false (Some (stmt 5))
          ∷ scope_text (Some (scope 4)) 0 [] false (Some (stmt 6))
          ∷ scope_text (Some (scope 5)) 1 [] true (Some (stmt 10))
          ∷ scope_text (Some (scope 3)) 0 [] false None
          ∷ [];
      subprograms =
          subprogram_text (codes "finalize") (scope 1) (formal Free (Whole (pos 0)) ∷ []) None None
          ∷ [];
      task_units =
          task_unit_text (scope 3) None None ((entry 0) ∷ (entry 1) ∷ [])
          ∷ [];
      protected_units = [];
      entries =
          entry_text (codes "e") (unit.Task (task_unit 0)) 0 [] None
          ∷ entry_text (codes "f") (unit.Task (task_unit 0)) 1 [] None
          ∷ [];
      controlled_types =
          controlled_text [] None (Some (subprogram 0)) None
          ∷ [];
      enumerations = [];
      policies = (policies [] queuing.Fifo None 30);
      environment = (scope 0);
      main = (main_procedure (codes "main") 15 (scope 2));
    }

abbrev pub row_requeue_dropped_script : List (ℤ × Item)
row_requeue_dropped_script = []

-- the lines of its run up to tick 50
unfoldable pub row_requeue_dropped_lines : List (ℕ × Event)
row_requeue_dropped_lines = run_of row_requeue_dropped_program row_requeue_dropped_script 50

unfoldable pub row_requeue_dropped_trace : List (ℕ × Event)
row_requeue_dropped_trace =
    (0, line.New (created.Task (task 0)) (codes "main") 15)
    ∷ (0, line.Ready (t 0) 15 Tail None)
    ∷ (0, line.Run (t 0))
    ∷ (4, line.New (created.Task (task 1)) (codes "main.t") 15)
    ∷ (6, line.Ready (t 1) 15 Tail None)
    ∷ (6, line.Block (t 0) waits.Activation)
    ∷ (6, line.Run (t 1))
    ∷ (7, line.Ready (t 0) 15 Tail None)
    ∷ (9, line.Block (t 1) waits.Accept)
    ∷ (9, line.Run (t 0))
    ∷ (11, line.Call (task 0) (call 1) (of_task 1 (codes "e")) 15)
    ∷ (11, line.Start (t 1) (call 1))
    ∷ (11, line.Ready (t 1) 15 Tail None)
    ∷ (11, line.Block (t 0) waits.Entry)
    ∷ (11, line.Run (t 1))
    ∷ (16, line.Init (t 1) 1 (region 2) (codes "a"))
    ∷ (19, line.Leave (t 1) (region 2) leaves.Return)
    ∷ (21, line.Final (t 1) 1)
    ∷ (22, line.Raise (t 1) (codes "constraint_error"))
    ∷ (25, line.Left (t 1) (region 2))
    ∷ (25, line.Raise (t 1) (codes "program_error"))
    ∷ (30, line.Put (t 1) (codes "pe"))
    ∷ (32, line.Finish (t 1) (call 1) finished.Ok)
    ∷ (32, line.Ready (t 0) 15 Tail None)
    ∷ (36, line.Block (t 1) waits.Select)
    ∷ (36, line.Run (t 0))
    ∷ (40, line.Put (t 0) (codes "back"))
    ∷ (41, line.Leave (t 0) (region 1) leaves.End)
    ∷ (41, line.Block (t 0) waits.Dependents)
    ∷ (41, line.Idle)
    ∷ (46, line.Ready (t 1) 15 Tail None)
    ∷ (46, line.Run (t 1))
    ∷ (47, line.Done (task 1))
    ∷ (47, line.Ready (t 0) 15 Tail None)
    ∷ (47, line.Run (t 0))
    ∷ (48, line.Left (t 0) (region 1))
    ∷ (49, line.Done (task 0))
    ∷ (49, line.End end.Completed)
    ∷ []

pub row_requeue_dropped_runs : row_requeue_dropped_lines ≡ row_requeue_dropped_trace
unfolding row_requeue_dropped_lines row_requeue_dropped_trace digits computing
row_requeue_dropped_runs = refl

-- whether every world of its run is well formed
unfoldable pub row_requeue_dropped_worlds : Bool
row_requeue_dropped_worlds = run_is_well_formed row_requeue_dropped_program row_requeue_dropped_script 50

pub row_requeue_dropped_keeps : row_requeue_dropped_worlds ≡ true
unfolding row_requeue_dropped_worlds computing
row_requeue_dropped_keeps = refl

-- whether each handler is released at its tick
unfoldable pub row_requeue_dropped_handlers : Bool
row_requeue_dropped_handlers = releases_ok row_requeue_dropped_program row_requeue_dropped_script 50

pub row_requeue_dropped_releases : row_requeue_dropped_handlers ≡ true
unfolding row_requeue_dropped_handlers computing
row_requeue_dropped_releases = refl
