use Rattle.std.specs.Prelude.{◌≡◌, ℕ, ℤ, List, [], ◌∷◌, Some, None, true, false, codes, refl}
use Rattle.trace_text.specs.declared.events.Event.{Event}
use Rattle.trace_text.specs.declared.events.Event.TheVariants as line
use Rattle.trace_text.specs.declared.events.Created.TheVariants as created
use Rattle.trace_text.specs.declared.events.Ended.TheVariants as end
use Rattle.trace_text.specs.declared.events.Leaves.TheVariants as leaves
use Rattle.trace_text.specs.declared.events.QueueEnd.TheVariants.{Head, Tail}
use Rattle.trace_text.specs.declared.events.Waits.TheVariants as waits
use Rattle.profile_image.specs.declared.script_items.Item.{Item}
use Rattle.profile_image.specs.declared.image.Image.{Image}
use Rattle.profile_image.specs.declared.image.Queuing.TheVariants as queuing
use Rattle.profile_image.specs.declared.values.Constraint.TheVariants.{Free}
use Rattle.profile_image.specs.declared.declarations.DeclarationKind.TheVariants as kind
use Rattle.profile_image.specs.declared.declarations.EntryUnit.TheVariants as unit
use Rattle.profile_image.specs.declared.statements.StatementForm.TheVariants as form
use Rattle.profile_image.specs.declared.statements.EntryOwner.TheVariants as owner
use Rattle.profile_machine.specs.Notation.{decl, stmt, scope, task_unit, entry, task, call, region, t, of_task, declaration, statement, scope_text, task_unit_text, entry_text, policies, main_procedure}
use Rattle.profile_machine.specs.Run.{run_of}
use Rattle.profile_machine.specs.Computing.{computing}
use Rattle.std.specs.Fmt.{digits}
use Rattle.std.specs.Prelude.{Bool}
use Rattle.profile_machine.specs.WellFormed.{run_is_well_formed}
use Rattle.profile_machine.specs.Releases.{releases_ok}

-- Row budgets.1: its run stops before tick 14, so every greater bound gives the same trace.
abbrev pub row_budgets_1_program : Image
row_budgets_1_program =
    record {
      declarations =
          declaration (codes "t") (codes "main.t") (kind.Task (task_unit 0)) (scope 1) 0 1 Free None
          ∷ [];
      expressions = [];
      statements =
          statement (form.CallMain) 0 None
          ∷ statement (form.Accept (entry 0) (scope 3)) 0 None
          ∷ statement (form.Null) 0 (Some (stmt 1))
          ∷ statement (form.EndActivation) 0 (Some (stmt 2))
          ∷ statement (form.EntryCall (entry 0) (owner.Object (decl 0)) []) 0 None
          ∷ statement (form.Activate 0) 0 (Some (stmt 4))
          ∷ statement (form.CreateTask (decl 0) 0) 0 (Some (stmt 5))
          ∷ [];
      scopes =
          scope_text None 0 [] false (Some (stmt 0))
          ∷ scope_text (Some (scope 0)) 1 [] true (Some (stmt 6))
          ∷ scope_text (Some (scope 1)) 0 [] false (Some (stmt 3))
          ∷ scope_text (Some (scope 2)) 0 [] false None
          ∷ [];
      subprograms = [];
      task_units =
          task_unit_text (scope 2) (Some 10) None ((entry 0) ∷ [])
          ∷ [];
      protected_units = [];
      entries =
          entry_text (codes "e") (unit.Task (task_unit 0)) 0 [] None
          ∷ [];
      controlled_types = [];
      enumerations = [];
      policies = (policies [] queuing.Fifo (Some 0) 30);
      environment = (scope 0);
      main = (main_procedure (codes "main") 15 (scope 1));
    }

abbrev pub row_budgets_1_script : List (ℤ × Item)
row_budgets_1_script = []

-- the lines of its run up to tick 14
unfoldable pub row_budgets_1_lines : List (ℕ × Event)
row_budgets_1_lines = run_of row_budgets_1_program row_budgets_1_script 14

unfoldable pub row_budgets_1_trace : List (ℕ × Event)
row_budgets_1_trace =
    (0, line.New (created.Task (task 0)) (codes "main") 15)
    ∷ (0, line.Ready (t 0) 15 Tail None)
    ∷ (0, line.Run (t 0))
    ∷ (4, line.New (created.Task (task 1)) (codes "main.t") 10)
    ∷ (6, line.Ready (t 1) 15 Tail None)
    ∷ (6, line.Block (t 0) waits.Activation)
    ∷ (6, line.Run (t 1))
    ∷ (7, line.Ready (t 0) 15 Tail None)
    ∷ (7, line.Ready (t 1) 10 Head None)
    ∷ (7, line.Run (t 0))
    ∷ (9, line.Call (task 0) (call 1) (of_task 1 (codes "e")) 15)
    ∷ (9, line.Raise (t 0) (codes "program_error"))
    ∷ (10, line.Leave (t 0) (region 1) leaves.Exception)
    ∷ (10, line.Block (t 0) waits.Dependents)
    ∷ (10, line.Run (t 1))
    ∷ (13, line.Block (t 1) waits.Accept)
    ∷ (13, line.End end.Stuck)
    ∷ []

pub row_budgets_1_runs : row_budgets_1_lines ≡ row_budgets_1_trace
unfolding row_budgets_1_lines row_budgets_1_trace digits computing
row_budgets_1_runs = refl

-- whether every world of its run is well formed
unfoldable pub row_budgets_1_worlds : Bool
row_budgets_1_worlds = run_is_well_formed row_budgets_1_program row_budgets_1_script 14

pub row_budgets_1_keeps : row_budgets_1_worlds ≡ true
unfolding row_budgets_1_worlds computing
row_budgets_1_keeps = refl

-- whether each handler is released at its tick
unfoldable pub row_budgets_1_handlers : Bool
row_budgets_1_handlers = releases_ok row_budgets_1_program row_budgets_1_script 14

pub row_budgets_1_releases : row_budgets_1_handlers ≡ true
unfolding row_budgets_1_handlers computing
row_budgets_1_releases = refl
