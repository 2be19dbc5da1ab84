use Rattle.std.specs.Prelude.{◌≡◌, ℕ, ℤ, pos, List, [], ◌∷◌, Some, None, true, false, codes, refl}
use Rattle.trace_text.specs.declared.events.Event.{Event}
use Rattle.trace_text.specs.declared.events.Event.TheVariants as line
use Rattle.trace_text.specs.declared.events.Created.TheVariants as created
use Rattle.trace_text.specs.declared.events.Ended.TheVariants as end
use Rattle.trace_text.specs.declared.events.Finished.TheVariants as finished
use Rattle.trace_text.specs.declared.events.Leaves.TheVariants as leaves
use Rattle.trace_text.specs.declared.events.QueueEnd.TheVariants.{Head, Tail}
use Rattle.trace_text.specs.declared.events.Waits.TheVariants as waits
use Rattle.profile_image.specs.declared.script_items.Item.{Item}
use Rattle.profile_image.specs.declared.image.Image.{Image}
use Rattle.profile_image.specs.declared.image.Queuing.TheVariants as queuing
use Rattle.profile_image.specs.declared.values.Value.TheVariants.{Ticks}
use Rattle.profile_image.specs.declared.values.Constraint.TheVariants.{Free, Ticks}
use Rattle.profile_image.specs.declared.expressions.Expression.TheVariants.{Known}
use Rattle.profile_image.specs.declared.declarations.DeclarationKind.TheVariants as kind
use Rattle.profile_image.specs.declared.declarations.EntryUnit.TheVariants as unit
use Rattle.profile_image.specs.declared.statements.StatementForm.TheVariants as form
use Rattle.profile_image.specs.declared.statements.EntryOwner.TheVariants as owner
use Rattle.profile_image.specs.declared.statements.Piece.TheVariants as piece
use Rattle.profile_machine.specs.Notation.{decl, expr, stmt, scope, task_unit, entry, task, call, region, t, of_task, declaration, statement, scope_text, task_unit_text, entry_text, policies, main_procedure}
use Rattle.profile_machine.specs.Run.{run_of}
use Rattle.profile_machine.specs.Computing.{computing}
use Rattle.std.specs.Fmt.{digits}
use Rattle.std.specs.Prelude.{Bool}
use Rattle.profile_machine.specs.WellFormed.{run_is_well_formed}
use Rattle.profile_machine.specs.Releases.{releases_ok}

-- Row 08a: its run stops before tick 22, so every greater bound gives the same trace.
abbrev pub row_08a_program : Image
row_08a_program =
    record {
      declarations =
          declaration (codes "t") (codes "main.t") (kind.Task (task_unit 0)) (scope 1) 0 1 Free None
          ∷ [];
      expressions =
          Known (Ticks (pos 3))
          ∷ [];
      statements =
          statement (form.CallMain) 0 None
          ∷ statement (form.Accept (entry 0) (scope 3)) 0 None
          ∷ statement (form.Null) 0 (Some (stmt 1))
          ∷ statement (form.EndActivation) 0 (Some (stmt 2))
          ∷ statement (form.PutLine (piece.Text (codes "yes") ∷ [])) 0 None
          ∷ statement (form.EntryCall (entry 0) (owner.Object (decl 0)) []) 0 (Some (stmt 4))
          ∷ statement (form.PutLine (piece.Text (codes "no") ∷ [])) 0 None
          ∷ statement (form.Delay (expr 0)) 0 (Some (stmt 6))
          ∷ statement (form.TimedCall (stmt 5) (stmt 7)) 0 None
          ∷ statement (form.Activate 0) 0 (Some (stmt 8))
          ∷ statement (form.CreateTask (decl 0) 0) 0 (Some (stmt 9))
          ∷ [];
      scopes =
          scope_text None 0 [] false (Some (stmt 0))
          ∷ scope_text (Some (scope 0)) 1 [] true (Some (stmt 10))
          ∷ scope_text (Some (scope 1)) 0 [] false (Some (stmt 3))
          ∷ scope_text (Some (scope 2)) 0 [] false None
          ∷ [];
      subprograms = [];
      task_units =
          task_unit_text (scope 2) (Some 10) None ((entry 0) ∷ [])
          ∷ [];
      protected_units = [];
      entries =
          entry_text (codes "e") (unit.Task (task_unit 0)) 0 [] None
          ∷ [];
      controlled_types = [];
      enumerations = [];
      policies = (policies [] queuing.Fifo None 30);
      environment = (scope 0);
      main = (main_procedure (codes "main") 15 (scope 1));
    }

abbrev pub row_08a_script : List (ℤ × Item)
row_08a_script = []

-- the lines of its run up to tick 22
unfoldable pub row_08a_lines : List (ℕ × Event)
row_08a_lines = run_of row_08a_program row_08a_script 22

unfoldable pub row_08a_trace : List (ℕ × Event)
row_08a_trace =
    (0, line.New (created.Task (task 0)) (codes "main") 15)
    ∷ (0, line.Ready (t 0) 15 Tail None)
    ∷ (0, line.Run (t 0))
    ∷ (4, line.New (created.Task (task 1)) (codes "main.t") 10)
    ∷ (6, line.Ready (t 1) 15 Tail None)
    ∷ (6, line.Block (t 0) waits.Activation)
    ∷ (6, line.Run (t 1))
    ∷ (7, line.Ready (t 0) 15 Tail None)
    ∷ (7, line.Ready (t 1) 10 Head None)
    ∷ (7, line.Run (t 0))
    ∷ (9, line.Call (task 0) (call 1) (of_task 1 (codes "e")) 15)
    ∷ (9, line.Block (t 0) waits.Entry)
    ∷ (9, line.Run (t 1))
    ∷ (12, line.Start (t 1) (call 1))
    ∷ (12, line.Ready (t 1) 15 Head None)
    ∷ (13, line.Finish (t 1) (call 1) finished.Ok)
    ∷ (13, line.Ready (t 0) 15 Tail None)
    ∷ (13, line.Ready (t 1) 10 Head None)
    ∷ (13, line.Run (t 0))
    ∷ (17, line.Put (t 0) (codes "yes"))
    ∷ (18, line.Leave (t 0) (region 1) leaves.End)
    ∷ (18, line.Block (t 0) waits.Dependents)
    ∷ (18, line.Run (t 1))
    ∷ (19, line.Done (task 1))
    ∷ (19, line.Ready (t 0) 15 Tail None)
    ∷ (19, line.Run (t 0))
    ∷ (20, line.Left (t 0) (region 1))
    ∷ (21, line.Done (task 0))
    ∷ (21, line.End end.Completed)
    ∷ []

pub row_08a_runs : row_08a_lines ≡ row_08a_trace
unfolding row_08a_lines row_08a_trace digits computing
row_08a_runs = refl

-- whether every world of its run is well formed
unfoldable pub row_08a_worlds : Bool
row_08a_worlds = run_is_well_formed row_08a_program row_08a_script 22

pub row_08a_keeps : row_08a_worlds ≡ true
unfolding row_08a_worlds computing
row_08a_keeps = refl

-- whether each handler is released at its tick
unfoldable pub row_08a_handlers : Bool
row_08a_handlers = releases_ok row_08a_program row_08a_script 22

pub row_08a_releases : row_08a_handlers ≡ true
unfolding row_08a_handlers computing
row_08a_releases = refl
