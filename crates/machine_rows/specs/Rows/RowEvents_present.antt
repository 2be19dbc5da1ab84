use Rattle.std.specs.Prelude.{◌≡◌, ℕ, ℤ, pos, List, [], ◌∷◌, Some, None, true, false, codes, refl}
use Rattle.trace_text.specs.declared.events.Event.{Event}
use Rattle.trace_text.specs.declared.events.Event.TheVariants as line
use Rattle.trace_text.specs.declared.events.Created.TheVariants as created
use Rattle.trace_text.specs.declared.events.Ended.TheVariants as end
use Rattle.trace_text.specs.declared.events.Leaves.TheVariants as leaves
use Rattle.trace_text.specs.declared.events.Mode.TheVariants.{Write}
use Rattle.trace_text.specs.declared.events.QueueEnd.TheVariants.{Tail}
use Rattle.trace_text.specs.declared.events.Waits.TheVariants as waits
use Rattle.profile_image.specs.declared.script_items.Item.{Item}
use Rattle.profile_image.specs.declared.script_items.Item.TheVariants as item
use Rattle.profile_image.specs.declared.image.Image.{Image}
use Rattle.profile_image.specs.declared.image.Queuing.TheVariants as queuing
use Rattle.profile_image.specs.declared.values.Value.TheVariants.{Whole}
use Rattle.profile_image.specs.declared.values.Constraint.TheVariants.{Free, Whole}
use Rattle.profile_image.specs.declared.expressions.Expression.TheVariants.{Clock}
use Rattle.profile_image.specs.declared.declarations.DeclarationKind.TheVariants as kind
use Rattle.profile_image.specs.declared.declarations.EntryUnit.TheVariants as unit
use Rattle.profile_image.specs.declared.statements.StatementForm.TheVariants as form
use Rattle.profile_image.specs.declared.statements.EntryOwner.TheVariants as owner
use Rattle.profile_image.specs.declared.statements.Setting.TheVariants as setting
use Rattle.profile_machine.specs.Notation.{decl, expr, stmt, scope, subprogram, task_unit, protected_unit, entry, task, p, region, t, agent, declaration, statement, handler_name, scope_text, formal, subprogram_text, task_unit_text, protected_unit_text, entry_text, policies, main_procedure}
use Rattle.profile_machine.specs.Run.{run_of}
use Rattle.profile_machine.specs.Computing.{computing}
use Rattle.std.specs.Fmt.{digits}
use Rattle.std.specs.Prelude.{Bool}
use Rattle.profile_machine.specs.WellFormed.{run_is_well_formed}
use Rattle.profile_machine.specs.Releases.{releases_ok}

-- Row events.present: its run stops before tick 24, so every greater bound gives the same trace.
abbrev pub row_events_present_program : Image
row_events_present_program =
    record {
      declarations =
          declaration (codes "e") (codes "pk.e") kind.Event (scope 0) 0 1 Free None
          ∷ declaration (codes "t") (codes "pk.t") (kind.Task (task_unit 0)) (scope 0) 1 1 Free None
          ∷ declaration (codes "h") (codes "pk.h") (kind.Protected (protected_unit 0)) (scope 0) 2 16 Free None
          ∷ declaration (codes "e") (codes "pk.h.e") kind.Parameter (scope 2) 0 1 Free None
          ∷ [];
      expressions =
          Clock
          ∷ [];
      statements =
          statement (form.CallMain) 0 None
          ∷ statement (form.SetEvent (decl 0) (setting.At (expr 0)) (Some (handler_name (decl 2) (subprogram 0)))) 1 None
          ∷ statement (form.Null) 0 None
          ∷ statement (form.EndActivation) 0 (Some (stmt 2))
          ∷ statement (form.EntryCall (entry 0) (owner.Object (decl 1)) []) 0 None
          ∷ statement (form.Activate 1) 0 (Some (stmt 0))
          ∷ statement (form.Declare (decl 2)) 0 (Some (stmt 5))
          ∷ statement (form.CreateTask (decl 1) 1) 0 (Some (stmt 6))
          ∷ statement (form.Declare (decl 0)) 0 (Some (stmt 7))
          ∷ [];
      scopes =
          scope_text None 18 [] true (Some (stmt 8))
          ∷ scope_text (Some (scope 0)) 0 [] false (Some (stmt 3))
          ∷ scope_text (Some (scope 0)) 1 [] false (Some (stmt 4))
          ∷ scope_text (Some (scope 0)) 0 [] false (Some (stmt 1))
          ∷ [];
      subprograms =
          subprogram_text (codes "fire") (scope 2) (formal Free (Whole (pos 0)) ∷ []) None (Some (protected_unit 0))
          ∷ [];
      task_units =
          task_unit_text (scope 1) None None ((entry 0) ∷ [])
          ∷ [];
      protected_units =
          protected_unit_text 31 [] [] []
          ∷ [];
      entries =
          entry_text (codes "g") (unit.Task (task_unit 0)) 0 [] None
          ∷ [];
      controlled_types = [];
      enumerations = [];
      policies = (policies [] queuing.Fifo None 30);
      environment = (scope 0);
      main = (main_procedure (codes "main") 15 (scope 3));
    }

abbrev pub row_events_present_script : List (ℤ × Item)
row_events_present_script =
    (pos 14, item.Port 3 (pos 7))
    ∷ []

-- the lines of its run up to tick 24
unfoldable pub row_events_present_lines : List (ℕ × Event)
row_events_present_lines = run_of row_events_present_program row_events_present_script 24

unfoldable pub row_events_present_trace : List (ℕ × Event)
row_events_present_trace =
    (0, line.New (created.Task (task 0)) (codes "main") 15)
    ∷ (0, line.Ready (t 0) 15 Tail None)
    ∷ (0, line.Run (t 0))
    ∷ (3, line.New (created.Task (task 1)) (codes "pk.t") 15)
    ∷ (4, line.New (created.Object (p 1)) (codes "pk.h") 31)
    ∷ (6, line.Ready (t 1) 15 Tail None)
    ∷ (6, line.Block (t 0) waits.Activation)
    ∷ (6, line.Run (t 1))
    ∷ (7, line.Ready (t 0) 15 Tail None)
    ∷ (9, line.Done (task 1))
    ∷ (9, line.Run (t 0))
    ∷ (14, line.Release 1 (p 1) (codes "fire"))
    ∷ (14, line.Ready agent 31 Tail None)
    ∷ (14, line.Port 3 (pos 7))
    ∷ (14, line.Run agent)
    ∷ (14, line.Serve 1)
    ∷ (16, line.Enter agent (p 1) Write)
    ∷ (18, line.Raise agent (codes "program_error"))
    ∷ (20, line.Exit agent (p 1))
    ∷ (20, line.Served 1)
    ∷ (20, line.Block agent waits.Release)
    ∷ (20, line.Run (t 0))
    ∷ (22, line.Leave (t 0) (region 1) leaves.End)
    ∷ (23, line.Left (t 0) (region 1))
    ∷ (23, line.Done (task 0))
    ∷ (23, line.End end.Completed)
    ∷ []

pub row_events_present_runs : row_events_present_lines ≡ row_events_present_trace
unfolding row_events_present_lines row_events_present_trace digits computing
row_events_present_runs = refl

-- whether every world of its run is well formed
unfoldable pub row_events_present_worlds : Bool
row_events_present_worlds = run_is_well_formed row_events_present_program row_events_present_script 24

pub row_events_present_keeps : row_events_present_worlds ≡ true
unfolding row_events_present_worlds computing
row_events_present_keeps = refl

-- whether each handler is released at its tick
unfoldable pub row_events_present_handlers : Bool
row_events_present_handlers = releases_ok row_events_present_program row_events_present_script 24

pub row_events_present_releases : row_events_present_handlers ≡ true
unfolding row_events_present_handlers computing
row_events_present_releases = refl
