use Rattle.std.specs.Prelude.{◌≡◌, ℕ, ℤ, pos, List, [], ◌∷◌, Some, None, true, false, codes, refl}
use Rattle.ann_base.specs.declared.exceptions.Raised.TheVariants as exception
use Rattle.trace_text.specs.declared.events.Event.{Event}
use Rattle.trace_text.specs.declared.events.Event.TheVariants as line
use Rattle.trace_text.specs.declared.events.Created.TheVariants as created
use Rattle.trace_text.specs.declared.events.Ended.TheVariants as end
use Rattle.trace_text.specs.declared.events.Leaves.TheVariants as leaves
use Rattle.trace_text.specs.declared.events.QueueEnd.TheVariants.{Tail}
use Rattle.trace_text.specs.declared.events.Waits.TheVariants as waits
use Rattle.profile_image.specs.declared.script_items.Item.{Item}
use Rattle.profile_image.specs.declared.image.Image.{Image}
use Rattle.profile_image.specs.declared.image.Queuing.TheVariants as queuing
use Rattle.profile_image.specs.declared.values.Value.TheVariants.{Whole}
use Rattle.profile_image.specs.declared.values.Constraint.TheVariants.{Free, Whole}
use Rattle.profile_image.specs.declared.declarations.DeclarationKind.TheVariants as kind
use Rattle.profile_image.specs.declared.declarations.EntryUnit.TheVariants as unit
use Rattle.profile_image.specs.declared.declarations.ExceptionChoice.TheVariants as exception_choice
use Rattle.profile_image.specs.declared.statements.StatementForm.TheVariants as form
use Rattle.profile_image.specs.declared.statements.SelectKind.TheVariants as select
use Rattle.profile_machine.specs.Notation.{decl, stmt, scope, subprogram, task_unit, entry, controlled_type, task, region, t, declaration, statement, select_alternative, handler, scope_text, formal, subprogram_text, task_unit_text, entry_text, controlled_text, policies, main_procedure}
use Rattle.profile_machine.specs.Run.{run_of}
use Rattle.profile_machine.specs.Computing.{computing}
use Rattle.std.specs.Fmt.{digits}
use Rattle.std.specs.Prelude.{Bool}
use Rattle.profile_machine.specs.WellFormed.{run_is_well_formed}
use Rattle.profile_machine.specs.Releases.{releases_ok}

-- Row controlled.dropped: its run stops before tick 39, so every greater bound gives the same trace.
abbrev pub row_controlled_dropped_program : Image
row_controlled_dropped_program =
    record {
      declarations =
          declaration (codes "t") (codes "pk.t") (kind.Task (task_unit 0)) (scope 0) 0 1 Free None
          ∷ declaration (codes "o") (codes "pk.o") kind.Parameter (scope 1) 0 1 Free None
          ∷ declaration (codes "a") (codes "pk.t.a") (kind.Controlled (controlled_type 0)) (scope 2) 0 1 Free None
          ∷ declaration (codes "x") (codes "main.x") kind.Other (scope 0) 0 0 Free None
          ∷ declaration (codes "a") (codes "main.a") (kind.Controlled (controlled_type 0)) (scope 5) 0 1 Free None
          ∷ [];
      expressions = [];
      statements =
          statement (form.CallMain) 0 None
          ∷ statement (form.Handled (handler (exception_choice.Named exception.Program ∷ []) (stmt 6) ∷ []) (stmt 2)) 0 None
          ∷ statement (form.Block (scope 5)) 0 None
          ∷ statement (form.Raise (exception.User 3)) 0 None
          ∷ statement (form.Initialize (decl 4)) 0 (Some (stmt 3))
          ∷ statement (form.Declare (decl 4)) 0 (Some (stmt 4))
          ∷ statement (form.Null) 0 None
          ∷ statement (form.Raise exception.Constraint) 0 None
          ∷ statement (form.Accept (entry 0) (scope 3)) 0 None
          ∷ statement (form.SelectiveAccept (select_alternative None (select.Accept (stmt 8)) ∷ select_alternative None select.Terminate ∷ []) None) 0 None
          ∷ statement (form.EndActivation) 0 (Some (stmt 9))
          ∷ statement (form.Initialize (decl 2)) 0 (Some (stmt 10))
          ∷ statement (form.Declare (decl 2)) 0 (Some (stmt 11))
          ∷ statement (form.Activate 1) 0 (Some (stmt 0))
          ∷ statement (form.CreateTask (decl 0) 1) 0 (Some (stmt 13))
          ∷ [];
      scopes =
          scope_text None 1 [] true (Some (stmt 14))
          ∷ scope_text (Some (scope 0)) 1 [] false (Some (stmt 7))
          ∷ scope_text (Some (scope 0)) 1 [] true (Some (stmt 12))
          ∷ scope_text (Some (scope 2)) 0 [] false None
          ∷ scope_text (Some (scope 0)) 0 [] false (Some (stmt 1))
          ∷ scope_text (Some (scope 4)) 1 [] true (Some (stmt 5))
          ∷ [];
      subprograms =
          subprogram_text (codes "finalize") (scope 1) (formal Free (Whole (pos 0)) ∷ []) None None
          ∷ [];
      task_units =
          task_unit_text (scope 2) None None ((entry 0) ∷ [])
          ∷ [];
      protected_units = [];
      entries =
          entry_text (codes "e") (unit.Task (task_unit 0)) 0 [] None
          ∷ [];
      controlled_types =
          controlled_text [] None (Some (subprogram 0)) None
          ∷ [];
      enumerations = [];
      policies = (policies [] queuing.Fifo None 30);
      environment = (scope 0);
      main = (main_procedure (codes "main") 15 (scope 4));
    }

abbrev pub row_controlled_dropped_script : List (ℤ × Item)
row_controlled_dropped_script = []

-- the lines of its run up to tick 39
unfoldable pub row_controlled_dropped_lines : List (ℕ × Event)
row_controlled_dropped_lines = run_of row_controlled_dropped_program row_controlled_dropped_script 39

unfoldable pub row_controlled_dropped_trace : List (ℕ × Event)
row_controlled_dropped_trace =
    (0, line.New (created.Task (task 0)) (codes "main") 15)
    ∷ (0, line.Ready (t 0) 15 Tail None)
    ∷ (0, line.Run (t 0))
    ∷ (2, line.New (created.Task (task 1)) (codes "pk.t") 15)
    ∷ (4, line.Ready (t 1) 15 Tail None)
    ∷ (4, line.Block (t 0) waits.Activation)
    ∷ (4, line.Run (t 1))
    ∷ (7, line.Init (t 1) 1 (region 2) (codes "a"))
    ∷ (8, line.Ready (t 0) 15 Tail None)
    ∷ (12, line.Block (t 1) waits.Select)
    ∷ (12, line.Run (t 0))
    ∷ (18, line.Init (t 0) 2 (region 3) (codes "a"))
    ∷ (19, line.Raise (t 0) (codes "main.x"))
    ∷ (20, line.Leave (t 0) (region 3) leaves.Exception)
    ∷ (22, line.Final (t 0) 2)
    ∷ (23, line.Raise (t 0) (codes "constraint_error"))
    ∷ (26, line.Left (t 0) (region 3))
    ∷ (26, line.Raise (t 0) (codes "program_error"))
    ∷ (30, line.Leave (t 0) (region 1) leaves.End)
    ∷ (30, line.Ready (t 1) 15 Tail None)
    ∷ (30, line.Block (t 0) waits.Dependents)
    ∷ (30, line.Run (t 1))
    ∷ (31, line.Leave (t 1) (region 2) leaves.Terminate)
    ∷ (33, line.Final (t 1) 1)
    ∷ (34, line.Raise (t 1) (codes "constraint_error"))
    ∷ (37, line.Left (t 1) (region 2))
    ∷ (37, line.Done (task 1))
    ∷ (37, line.Ready (t 0) 15 Tail None)
    ∷ (37, line.Run (t 0))
    ∷ (38, line.Left (t 0) (region 1))
    ∷ (38, line.Done (task 0))
    ∷ (38, line.End end.Completed)
    ∷ []

pub row_controlled_dropped_runs : row_controlled_dropped_lines ≡ row_controlled_dropped_trace
unfolding row_controlled_dropped_lines row_controlled_dropped_trace digits computing
row_controlled_dropped_runs = refl

-- whether every world of its run is well formed
unfoldable pub row_controlled_dropped_worlds : Bool
row_controlled_dropped_worlds = run_is_well_formed row_controlled_dropped_program row_controlled_dropped_script 39

pub row_controlled_dropped_keeps : row_controlled_dropped_worlds ≡ true
unfolding row_controlled_dropped_worlds computing
row_controlled_dropped_keeps = refl

-- whether each handler is released at its tick
unfoldable pub row_controlled_dropped_handlers : Bool
row_controlled_dropped_handlers = releases_ok row_controlled_dropped_program row_controlled_dropped_script 39

pub row_controlled_dropped_releases : row_controlled_dropped_handlers ≡ true
unfolding row_controlled_dropped_handlers computing
row_controlled_dropped_releases = refl
