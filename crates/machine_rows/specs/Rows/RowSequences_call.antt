use Rattle.std.specs.Prelude.{◌≡◌, ℕ, ℤ, List, [], ◌∷◌, Some, None, true, false, codes, refl}
use Rattle.trace_text.specs.declared.events.Event.{Event}
use Rattle.trace_text.specs.declared.events.Event.TheVariants as line
use Rattle.trace_text.specs.declared.events.Created.TheVariants as created
use Rattle.trace_text.specs.declared.events.Ended.TheVariants as end
use Rattle.trace_text.specs.declared.events.Finished.TheVariants as finished
use Rattle.trace_text.specs.declared.events.Leaves.TheVariants as leaves
use Rattle.trace_text.specs.declared.events.QueueEnd.TheVariants.{Tail}
use Rattle.trace_text.specs.declared.events.Waits.TheVariants as waits
use Rattle.profile_image.specs.declared.script_items.Item.{Item}
use Rattle.profile_image.specs.declared.image.Image.{Image}
use Rattle.profile_image.specs.declared.image.Queuing.TheVariants as queuing
use Rattle.profile_image.specs.declared.values.Constraint.TheVariants.{Free}
use Rattle.profile_image.specs.declared.declarations.DeclarationKind.TheVariants as kind
use Rattle.profile_image.specs.declared.declarations.EntryUnit.TheVariants as unit
use Rattle.profile_image.specs.declared.declarations.ExceptionChoice.TheVariants as exception_choice
use Rattle.profile_image.specs.declared.statements.StatementForm.TheVariants as form
use Rattle.profile_image.specs.declared.statements.EntryOwner.TheVariants as owner
use Rattle.profile_image.specs.declared.statements.Piece.TheVariants as piece
use Rattle.profile_machine.specs.Notation.{decl, stmt, scope, task_unit, entry, task, call, region, t, of_task, declaration, statement, handler, scope_text, subprogram_text, task_unit_text, entry_text, policies, main_procedure}
use Rattle.profile_machine.specs.Run.{run_of}
use Rattle.profile_machine.specs.Computing.{computing}
use Rattle.std.specs.Fmt.{digits}
use Rattle.std.specs.Prelude.{Bool}
use Rattle.profile_machine.specs.WellFormed.{run_is_well_formed}
use Rattle.profile_machine.specs.Releases.{releases_ok}

-- Row sequences.call: its run stops before tick 23, so every greater bound gives the same trace.
abbrev pub row_sequences_call_program : Image
row_sequences_call_program =
    record {
      declarations =
          declaration (codes "t") (codes "a.t") (kind.Task (task_unit 0)) (scope 0) 0 1 Free None
          ∷ [];
      expressions = [];
      statements =
          statement (form.CallMain) 0 None
          ∷ statement (form.PutLine (piece.Text (codes "hi") ∷ [])) 0 None
          ∷ statement (form.Null) 0 None
          ∷ statement (form.Handled (handler (exception_choice.Others ∷ []) (stmt 5) ∷ []) (stmt 4)) 0 (Some (stmt 0))
          ∷ statement (form.Null) 0 None
          ∷ statement (form.Null) 0 (Some (stmt 0))
          ∷ statement (form.Accept (entry 0) (scope 2)) 0 None
          ∷ statement (form.EndActivation) 0 (Some (stmt 6))
          ∷ statement (form.EntryCall (entry 0) (owner.Object (decl 0)) []) 0 (Some (stmt 3))
          ∷ statement (form.Activate 1) 0 (Some (stmt 8))
          ∷ statement (form.CreateTask (decl 0) 1) 0 (Some (stmt 9))
          ∷ [];
      scopes =
          scope_text None 1 [] true (Some (stmt 10))
          ∷ scope_text (Some (scope 0)) 0 [] false (Some (stmt 7))
          ∷ scope_text (Some (scope 1)) 0 [] false None
          ∷ scope_text (Some (scope 0)) 0 [] false (Some (stmt 2))
          ∷ scope_text (Some (scope 0)) 0 [] false (Some (stmt 1))
          ∷ [];
      subprograms =
          subprogram_text (codes "q") (scope 3) [] None None
          ∷ [];
      task_units =
          task_unit_text (scope 1) None None ((entry 0) ∷ [])
          ∷ [];
      protected_units = [];
      entries =
          entry_text (codes "e") (unit.Task (task_unit 0)) 0 [] None
          ∷ [];
      controlled_types = [];
      enumerations = [];
      policies = (policies [] queuing.Fifo None 30);
      environment = (scope 0);
      main = (main_procedure (codes "main") 15 (scope 4));
    }

abbrev pub row_sequences_call_script : List (ℤ × Item)
row_sequences_call_script = []

-- the lines of its run up to tick 23
unfoldable pub row_sequences_call_lines : List (ℕ × Event)
row_sequences_call_lines = run_of row_sequences_call_program row_sequences_call_script 23

unfoldable pub row_sequences_call_trace : List (ℕ × Event)
row_sequences_call_trace =
    (0, line.New (created.Task (task 0)) (codes "main") 15)
    ∷ (0, line.Ready (t 0) 15 Tail None)
    ∷ (0, line.Run (t 0))
    ∷ (2, line.New (created.Task (task 1)) (codes "a.t") 15)
    ∷ (4, line.Ready (t 1) 15 Tail None)
    ∷ (4, line.Block (t 0) waits.Activation)
    ∷ (4, line.Run (t 1))
    ∷ (5, line.Ready (t 0) 15 Tail None)
    ∷ (7, line.Block (t 1) waits.Accept)
    ∷ (7, line.Run (t 0))
    ∷ (9, line.Call (task 0) (call 1) (of_task 1 (codes "e")) 15)
    ∷ (9, line.Start (t 1) (call 1))
    ∷ (9, line.Ready (t 1) 15 Tail None)
    ∷ (9, line.Block (t 0) waits.Entry)
    ∷ (9, line.Run (t 1))
    ∷ (10, line.Finish (t 1) (call 1) finished.Ok)
    ∷ (10, line.Ready (t 0) 15 Tail None)
    ∷ (11, line.Done (task 1))
    ∷ (11, line.Run (t 0))
    ∷ (19, line.Put (t 0) (codes "hi"))
    ∷ (21, line.Leave (t 0) (region 1) leaves.End)
    ∷ (22, line.Left (t 0) (region 1))
    ∷ (22, line.Done (task 0))
    ∷ (22, line.End end.Completed)
    ∷ []

pub row_sequences_call_runs : row_sequences_call_lines ≡ row_sequences_call_trace
unfolding row_sequences_call_lines row_sequences_call_trace digits computing
row_sequences_call_runs = refl

-- whether every world of its run is well formed
unfoldable pub row_sequences_call_worlds : Bool
row_sequences_call_worlds = run_is_well_formed row_sequences_call_program row_sequences_call_script 23

pub row_sequences_call_keeps : row_sequences_call_worlds ≡ true
unfolding row_sequences_call_worlds computing
row_sequences_call_keeps = refl

-- whether each handler is released at its tick
unfoldable pub row_sequences_call_handlers : Bool
row_sequences_call_handlers = releases_ok row_sequences_call_program row_sequences_call_script 23

pub row_sequences_call_releases : row_sequences_call_handlers ≡ true
unfolding row_sequences_call_handlers computing
row_sequences_call_releases = refl
