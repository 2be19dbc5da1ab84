use Rattle.std.specs.Prelude.{◌≡◌, ℕ, ℤ, List, [], ◌∷◌, Some, None, true, false, codes, refl}
use Rattle.trace_text.specs.declared.events.Event.{Event}
use Rattle.trace_text.specs.declared.events.Event.TheVariants as line
use Rattle.trace_text.specs.declared.events.Created.TheVariants as created
use Rattle.trace_text.specs.declared.events.Ended.TheVariants as end
use Rattle.trace_text.specs.declared.events.Leaves.TheVariants as leaves
use Rattle.trace_text.specs.declared.events.QueueEnd.TheVariants.{Tail}
use Rattle.trace_text.specs.declared.events.Waits.TheVariants as waits
use Rattle.profile_image.specs.declared.script_items.Item.{Item}
use Rattle.profile_image.specs.declared.image.Image.{Image}
use Rattle.profile_image.specs.declared.image.Queuing.TheVariants as queuing
use Rattle.profile_image.specs.declared.values.Constraint.TheVariants.{Free}
use Rattle.profile_image.specs.declared.declarations.DeclarationKind.TheVariants as kind
use Rattle.profile_image.specs.declared.declarations.EntryUnit.TheVariants as unit
use Rattle.profile_image.specs.declared.statements.StatementForm.TheVariants as form
use Rattle.profile_image.specs.declared.statements.SelectKind.TheVariants as select
use Rattle.profile_machine.specs.Notation.{decl, stmt, scope, task_unit, entry, task, region, t, declaration, statement, select_alternative, scope_text, task_unit_text, entry_text, policies, main_procedure}
use Rattle.profile_machine.specs.Run.{run_of}
use Rattle.profile_machine.specs.Computing.{computing}
use Rattle.std.specs.Fmt.{digits}
use Rattle.std.specs.Prelude.{Bool}
use Rattle.profile_machine.specs.WellFormed.{run_is_well_formed}
use Rattle.profile_machine.specs.Releases.{releases_ok}

-- Row 10: its run stops before tick 17, so every greater bound gives the same trace.
abbrev pub row_10_program : Image
row_10_program =
    record {
      declarations =
          declaration (codes "t") (codes "main.t") (kind.Task (task_unit 0)) (scope 1) 0 1 Free None
          ∷ [];
      expressions = [];
      statements =
          statement (form.CallMain) 0 None
          ∷ statement (form.Accept (entry 0) (scope 3)) 0 None
          ∷ statement (form.SelectiveAccept (select_alternative None (select.Accept (stmt 1)) ∷ select_alternative None select.Terminate ∷ []) None) 0 None
          ∷ statement (form.EndActivation) 0 (Some (stmt 2))
          ∷ statement (form.Null) 0 None
          ∷ statement (form.Activate 0) 0 (Some (stmt 4))
          ∷ statement (form.CreateTask (decl 0) 0) 0 (Some (stmt 5))
          ∷ [];
      scopes =
          scope_text None 0 [] false (Some (stmt 0))
          ∷ scope_text (Some (scope 0)) 1 [] true (Some (stmt 6))
          ∷ scope_text (Some (scope 1)) 0 [] false (Some (stmt 3))
          ∷ scope_text (Some (scope 2)) 0 [] false None
          ∷ [];
      subprograms = [];
      task_units =
          task_unit_text (scope 2) None None ((entry 0) ∷ [])
          ∷ [];
      protected_units = [];
      entries =
          entry_text (codes "e") (unit.Task (task_unit 0)) 0 [] None
          ∷ [];
      controlled_types = [];
      enumerations = [];
      policies = (policies [] queuing.Fifo None 30);
      environment = (scope 0);
      main = (main_procedure (codes "main") 15 (scope 1));
    }

abbrev pub row_10_script : List (ℤ × Item)
row_10_script = []

-- the lines of its run up to tick 17
unfoldable pub row_10_lines : List (ℕ × Event)
row_10_lines = run_of row_10_program row_10_script 17

unfoldable pub row_10_trace : List (ℕ × Event)
row_10_trace =
    (0, line.New (created.Task (task 0)) (codes "main") 15)
    ∷ (0, line.Ready (t 0) 15 Tail None)
    ∷ (0, line.Run (t 0))
    ∷ (4, line.New (created.Task (task 1)) (codes "main.t") 15)
    ∷ (6, line.Ready (t 1) 15 Tail None)
    ∷ (6, line.Block (t 0) waits.Activation)
    ∷ (6, line.Run (t 1))
    ∷ (7, line.Ready (t 0) 15 Tail None)
    ∷ (11, line.Block (t 1) waits.Select)
    ∷ (11, line.Run (t 0))
    ∷ (13, line.Leave (t 0) (region 1) leaves.End)
    ∷ (13, line.Ready (t 1) 15 Tail None)
    ∷ (13, line.Block (t 0) waits.Dependents)
    ∷ (13, line.Run (t 1))
    ∷ (14, line.Done (task 1))
    ∷ (14, line.Ready (t 0) 15 Tail None)
    ∷ (14, line.Run (t 0))
    ∷ (15, line.Left (t 0) (region 1))
    ∷ (16, line.Done (task 0))
    ∷ (16, line.End end.Completed)
    ∷ []

pub row_10_runs : row_10_lines ≡ row_10_trace
unfolding row_10_lines row_10_trace digits computing
row_10_runs = refl

-- whether every world of its run is well formed
unfoldable pub row_10_worlds : Bool
row_10_worlds = run_is_well_formed row_10_program row_10_script 17

pub row_10_keeps : row_10_worlds ≡ true
unfolding row_10_worlds computing
row_10_keeps = refl

-- whether each handler is released at its tick
unfoldable pub row_10_handlers : Bool
row_10_handlers = releases_ok row_10_program row_10_script 17

pub row_10_releases : row_10_handlers ≡ true
unfolding row_10_handlers computing
row_10_releases = refl
