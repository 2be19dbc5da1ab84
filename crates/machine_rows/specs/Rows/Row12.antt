use Rattle.std.specs.Prelude.{◌≡◌, ℕ, ℤ, pos, List, [], ◌∷◌, Some, None, true, false, codes, refl}
use Rattle.trace_text.specs.declared.events.Event.{Event}
use Rattle.trace_text.specs.declared.events.Event.TheVariants as line
use Rattle.trace_text.specs.declared.events.Created.TheVariants as created
use Rattle.trace_text.specs.declared.events.Ended.TheVariants as end
use Rattle.trace_text.specs.declared.events.Leaves.TheVariants as leaves
use Rattle.trace_text.specs.declared.events.QueueEnd.TheVariants.{Head, Tail}
use Rattle.trace_text.specs.declared.events.Waits.TheVariants as waits
use Rattle.profile_image.specs.declared.script_items.Item.{Item}
use Rattle.profile_image.specs.declared.image.Image.{Image}
use Rattle.profile_image.specs.declared.image.Queuing.TheVariants as queuing
use Rattle.profile_image.specs.declared.values.Value.TheVariants.{Whole, Ticks}
use Rattle.profile_image.specs.declared.values.Constraint.TheVariants.{Free, Whole, Ticks}
use Rattle.profile_image.specs.declared.expressions.Expression.TheVariants.{Known}
use Rattle.profile_image.specs.declared.declarations.DeclarationKind.TheVariants as kind
use Rattle.profile_image.specs.declared.statements.StatementForm.TheVariants as form
use Rattle.profile_machine.specs.Notation.{decl, expr, stmt, scope, subprogram, task_unit, controlled_type, task, region, t, declaration, statement, scope_text, formal, subprogram_text, task_unit_text, controlled_text, policies, main_procedure}
use Rattle.profile_machine.specs.Run.{run_of}
use Rattle.profile_machine.specs.Computing.{computing}
use Rattle.std.specs.Fmt.{digits}
use Rattle.std.specs.Prelude.{Bool}
use Rattle.profile_machine.specs.WellFormed.{run_is_well_formed}
use Rattle.profile_machine.specs.Releases.{releases_ok}

-- Row 12: its run stops before tick 38, so every greater bound gives the same trace.
abbrev pub row_12_program : Image
row_12_program =
    record {
      declarations =
          declaration (codes "o") (codes "pk.o") kind.Parameter (scope 1) 0 1 Free None
          ∷ declaration (codes "t") (codes "main.t") (kind.Task (task_unit 0)) (scope 2) 0 1 Free None
          ∷ declaration (codes "a") (codes "main.t.a") (kind.Controlled (controlled_type 0)) (scope 3) 0 1 Free None
          ∷ declaration (codes "b") (codes "main.t.b") (kind.Controlled (controlled_type 0)) (scope 3) 1 1 Free None
          ∷ [];
      expressions =
          Known (Ticks (pos 6))
          ∷ [];
      statements =
          statement (form.CallMain) 0 None
          ∷ statement (form.Null) 0 None
          ∷ statement (form.EndActivation) 0 (Some (stmt 1))
          ∷ statement (form.Initialize (decl 3)) 0 (Some (stmt 2))
          ∷ statement (form.Declare (decl 3)) 0 (Some (stmt 3))
          ∷ statement (form.Initialize (decl 2)) 0 (Some (stmt 4))
          ∷ statement (form.Declare (decl 2)) 0 (Some (stmt 5))
          ∷ statement (form.Abort ((decl 1) ∷ [])) 0 None
          ∷ statement (form.Abort ((decl 1) ∷ [])) 0 (Some (stmt 7))
          ∷ statement (form.Delay (expr 0)) 0 (Some (stmt 8))
          ∷ statement (form.Activate 0) 0 (Some (stmt 9))
          ∷ statement (form.CreateTask (decl 1) 0) 0 (Some (stmt 10))
          ∷ statement (form.Null) 0 None
          ∷ statement (form.Null) 0 (Some (stmt 12))
          ∷ [];
      scopes =
          scope_text None 0 [] false (Some (stmt 0))
          ∷ scope_text (Some (scope 0)) 1 [] false (Some (stmt 13))
          ∷ scope_text (Some (scope 0)) 1 [] true (Some (stmt 11))
          ∷ scope_text (Some (scope 2)) 2 [] true (Some (stmt 6))
          ∷ [];
      subprograms =
          subprogram_text (codes "finalize") (scope 1) (formal Free (Whole (pos 0)) ∷ []) None None
          ∷ [];
      task_units =
          task_unit_text (scope 3) (Some 10) None []
          ∷ [];
      protected_units = [];
      entries = [];
      controlled_types =
          controlled_text [] None (Some (subprogram 0)) None
          ∷ [];
      enumerations = [];
      policies = (policies [] queuing.Fifo None 30);
      environment = (scope 0);
      main = (main_procedure (codes "main") 15 (scope 2));
    }

abbrev pub row_12_script : List (ℤ × Item)
row_12_script = []

-- the lines of its run up to tick 38
unfoldable pub row_12_lines : List (ℕ × Event)
row_12_lines = run_of row_12_program row_12_script 38

unfoldable pub row_12_trace : List (ℕ × Event)
row_12_trace =
    (0, line.New (created.Task (task 0)) (codes "main") 15)
    ∷ (0, line.Ready (t 0) 15 Tail None)
    ∷ (0, line.Run (t 0))
    ∷ (4, line.New (created.Task (task 1)) (codes "main.t") 10)
    ∷ (6, line.Ready (t 1) 15 Tail None)
    ∷ (6, line.Block (t 0) waits.Activation)
    ∷ (6, line.Run (t 1))
    ∷ (9, line.Init (t 1) 1 (region 2) (codes "a"))
    ∷ (12, line.Init (t 1) 2 (region 2) (codes "b"))
    ∷ (13, line.Ready (t 0) 15 Tail None)
    ∷ (13, line.Ready (t 1) 10 Head None)
    ∷ (13, line.Run (t 0))
    ∷ (15, line.Block (t 0) waits.Delay)
    ∷ (15, line.Run (t 1))
    ∷ (17, line.Leave (t 1) (region 2) leaves.End)
    ∷ (19, line.Final (t 1) 2)
    ∷ (21, line.Ready (t 0) 15 Tail None)
    ∷ (21, line.Run (t 0))
    ∷ (23, line.Abort (task 0) (task 1))
    ∷ (26, line.Leave (t 0) (region 1) leaves.End)
    ∷ (26, line.Block (t 0) waits.Dependents)
    ∷ (26, line.Run (t 1))
    ∷ (30, line.Final (t 1) 1)
    ∷ (35, line.Left (t 1) (region 2))
    ∷ (35, line.Done (task 1))
    ∷ (35, line.Ready (t 0) 15 Tail None)
    ∷ (35, line.Run (t 0))
    ∷ (36, line.Left (t 0) (region 1))
    ∷ (37, line.Done (task 0))
    ∷ (37, line.End end.Completed)
    ∷ []

pub row_12_runs : row_12_lines ≡ row_12_trace
unfolding row_12_lines row_12_trace digits computing
row_12_runs = refl

-- whether every world of its run is well formed
unfoldable pub row_12_worlds : Bool
row_12_worlds = run_is_well_formed row_12_program row_12_script 38

pub row_12_keeps : row_12_worlds ≡ true
unfolding row_12_worlds computing
row_12_keeps = refl

-- whether each handler is released at its tick
unfoldable pub row_12_handlers : Bool
row_12_handlers = releases_ok row_12_program row_12_script 38

pub row_12_releases : row_12_handlers ≡ true
unfolding row_12_handlers computing
row_12_releases = refl
