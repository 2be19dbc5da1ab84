use Rattle.std.specs.Prelude.{◌≡◌, ℕ, ℤ, pos, List, [], ◌∷◌, Some, None, true, false, codes, refl}
use Rattle.trace_text.specs.declared.events.Event.{Event}
use Rattle.trace_text.specs.declared.events.Event.TheVariants as line
use Rattle.trace_text.specs.declared.events.Created.TheVariants as created
use Rattle.trace_text.specs.declared.events.Ended.TheVariants as end
use Rattle.trace_text.specs.declared.events.Leaves.TheVariants as leaves
use Rattle.trace_text.specs.declared.events.QueueEnd.TheVariants.{Tail}
use Rattle.trace_text.specs.declared.events.Waits.TheVariants as waits
use Rattle.profile_image.specs.declared.script_items.Item.{Item}
use Rattle.profile_image.specs.declared.image.Image.{Image}
use Rattle.profile_image.specs.declared.image.Dispatching.TheVariants.{RoundRobinWithinPriorities}
use Rattle.profile_image.specs.declared.image.Queuing.TheVariants as queuing
use Rattle.profile_image.specs.declared.values.Value.TheVariants.{Whole, Ticks}
use Rattle.profile_image.specs.declared.values.Constraint.TheVariants.{Free, Whole, Ticks}
use Rattle.profile_image.specs.declared.expressions.Expression.TheVariants.{Known, Span}
use Rattle.profile_image.specs.declared.declarations.DeclarationKind.TheVariants as kind
use Rattle.profile_image.specs.declared.statements.StatementForm.TheVariants as form
use Rattle.profile_machine.specs.Notation.{decl, expr, stmt, scope, task_unit, task, region, t, declaration, statement, scope_text, task_unit_text, dispatching_range, policies, main_procedure}
use Rattle.profile_machine.specs.Run.{run_of}
use Rattle.profile_machine.specs.Computing.{computing}
use Rattle.std.specs.Fmt.{digits}
use Rattle.std.specs.Prelude.{Bool}
use Rattle.profile_machine.specs.WellFormed.{run_is_well_formed}
use Rattle.profile_machine.specs.Releases.{releases_ok}

-- Row policies.1: its run stops before tick 29, so every greater bound gives the same trace.
abbrev pub row_policies_1_program : Image
row_policies_1_program =
    record {
      declarations =
          declaration (codes "t") (codes "main.t") (kind.Task (task_unit 0)) (scope 1) 0 1 Free None
          ∷ [];
      expressions =
          Known (Ticks (pos 0))
          ∷ Known (Ticks (pos 0))
          ∷ Known (Ticks (pos 0))
          ∷ Known (Whole (pos 15))
          ∷ Known (Whole (pos 4))
          ∷ Span (pos 1) (expr 4)
          ∷ [];
      statements =
          statement (form.CallMain) 0 None
          ∷ statement (form.Null) 0 None
          ∷ statement (form.Null) 0 (Some (stmt 1))
          ∷ statement (form.Delay (expr 0)) 0 (Some (stmt 2))
          ∷ statement (form.Delay (expr 1)) 0 (Some (stmt 3))
          ∷ statement (form.EndActivation) 0 (Some (stmt 4))
          ∷ statement (form.Null) 0 None
          ∷ statement (form.Null) 0 (Some (stmt 6))
          ∷ statement (form.Null) 0 (Some (stmt 7))
          ∷ statement (form.Null) 0 (Some (stmt 8))
          ∷ statement (form.Null) 0 (Some (stmt 9))
          ∷ statement (form.Null) 0 (Some (stmt 10))
          ∷ statement (form.Delay (expr 2)) 0 (Some (stmt 11))
          ∷ statement (form.SetQuantum (expr 3) (expr 5)) 1 (Some (stmt 12))
          ∷ statement (form.Activate 0) 0 (Some (stmt 13))
          ∷ statement (form.CreateTask (decl 0) 0) 0 (Some (stmt 14))
          ∷ [];
      scopes =
          scope_text None 0 [] false (Some (stmt 0))
          ∷ scope_text (Some (scope 0)) 1 [] true (Some (stmt 15))
          ∷ scope_text (Some (scope 1)) 0 [] false (Some (stmt 5))
          ∷ [];
      subprograms = [];
      task_units =
          task_unit_text (scope 2) None None []
          ∷ [];
      protected_units = [];
      entries = [];
      controlled_types = [];
      enumerations = [];
      policies = (policies (dispatching_range RoundRobinWithinPriorities 0 31 ∷ []) queuing.Fifo None 30);
      environment = (scope 0);
      main = (main_procedure (codes "main") 15 (scope 1));
    }

abbrev pub row_policies_1_script : List (ℤ × Item)
row_policies_1_script = []

-- the lines of its run up to tick 29
unfoldable pub row_policies_1_lines : List (ℕ × Event)
row_policies_1_lines = run_of row_policies_1_program row_policies_1_script 29

unfoldable pub row_policies_1_trace : List (ℕ × Event)
row_policies_1_trace =
    (0, line.New (created.Task (task 0)) (codes "main") 15)
    ∷ (0, line.Ready (t 0) 15 Tail None)
    ∷ (0, line.Run (t 0))
    ∷ (4, line.New (created.Task (task 1)) (codes "main.t") 15)
    ∷ (6, line.Ready (t 1) 15 Tail None)
    ∷ (6, line.Block (t 0) waits.Activation)
    ∷ (6, line.Run (t 1))
    ∷ (7, line.Ready (t 0) 15 Tail None)
    ∷ (9, line.Ready (t 1) 15 Tail None)
    ∷ (9, line.Run (t 0))
    ∷ (14, line.Ready (t 0) 15 Tail None)
    ∷ (14, line.Run (t 1))
    ∷ (16, line.Ready (t 1) 15 Tail None)
    ∷ (16, line.Run (t 0))
    ∷ (20, line.Quantum (task 0))
    ∷ (20, line.Ready (t 0) 15 Tail None)
    ∷ (20, line.Run (t 1))
    ∷ (23, line.Done (task 1))
    ∷ (23, line.Run (t 0))
    ∷ (26, line.Leave (t 0) (region 1) leaves.End)
    ∷ (27, line.Left (t 0) (region 1))
    ∷ (27, line.Quantum (task 0))
    ∷ (27, line.Ready (t 0) 15 Tail None)
    ∷ (28, line.Done (task 0))
    ∷ (28, line.End end.Completed)
    ∷ []

pub row_policies_1_runs : row_policies_1_lines ≡ row_policies_1_trace
unfolding row_policies_1_lines row_policies_1_trace digits computing
row_policies_1_runs = refl

-- whether every world of its run is well formed
unfoldable pub row_policies_1_worlds : Bool
row_policies_1_worlds = run_is_well_formed row_policies_1_program row_policies_1_script 29

pub row_policies_1_keeps : row_policies_1_worlds ≡ true
unfolding row_policies_1_worlds computing
row_policies_1_keeps = refl

-- whether each handler is released at its tick
unfoldable pub row_policies_1_handlers : Bool
row_policies_1_handlers = releases_ok row_policies_1_program row_policies_1_script 29

pub row_policies_1_releases : row_policies_1_handlers ≡ true
unfolding row_policies_1_handlers computing
row_policies_1_releases = refl
