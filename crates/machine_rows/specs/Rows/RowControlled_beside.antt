use Rattle.std.specs.Prelude.{◌≡◌, ℕ, ℤ, pos, List, [], ◌∷◌, Some, None, true, false, codes, refl}
use Rattle.trace_text.specs.declared.events.Event.{Event}
use Rattle.trace_text.specs.declared.events.Event.TheVariants as line
use Rattle.trace_text.specs.declared.events.Created.TheVariants as created
use Rattle.trace_text.specs.declared.events.Ended.TheVariants as end
use Rattle.trace_text.specs.declared.events.Leaves.TheVariants as leaves
use Rattle.trace_text.specs.declared.events.QueueEnd.TheVariants.{Tail}
use Rattle.trace_text.specs.declared.events.Waits.TheVariants as waits
use Rattle.profile_image.specs.declared.script_items.Item.{Item}
use Rattle.profile_image.specs.declared.image.Image.{Image}
use Rattle.profile_image.specs.declared.image.Queuing.TheVariants as queuing
use Rattle.profile_image.specs.declared.values.Value.TheVariants.{Whole, Ticks}
use Rattle.profile_image.specs.declared.values.Constraint.TheVariants.{Free, Whole, Ticks}
use Rattle.profile_image.specs.declared.expressions.Expression.TheVariants.{Known}
use Rattle.profile_image.specs.declared.declarations.DeclarationKind.TheVariants as kind
use Rattle.profile_image.specs.declared.statements.StatementForm.TheVariants as form
use Rattle.profile_machine.specs.Notation.{decl, expr, stmt, scope, subprogram, task_unit, controlled_type, task, region, t, declaration, statement, scope_text, formal, subprogram_text, task_unit_text, controlled_text, policies, main_procedure}
use Rattle.profile_machine.specs.Run.{run_of}
use Rattle.profile_machine.specs.Computing.{computing}
use Rattle.std.specs.Fmt.{digits}
use Rattle.std.specs.Prelude.{Bool}
use Rattle.profile_machine.specs.WellFormed.{run_is_well_formed}
use Rattle.profile_machine.specs.Releases.{releases_ok}

-- Row controlled.beside: its run stops before tick 40, so every greater bound gives the same trace.
abbrev pub row_controlled_beside_program : Image
row_controlled_beside_program =
    record {
      declarations =
          declaration (codes "o") (codes "pk.o") kind.Parameter (scope 1) 0 1 Free None
          ∷ declaration (codes "t") (codes "main.t") (kind.Task (task_unit 0)) (scope 2) 0 1 Free None
          ∷ declaration (codes "a") (codes "main.t.a") (kind.Controlled (controlled_type 1)) (scope 4) 0 1 Free None
          ∷ declaration (codes "b") (codes "main.b") (kind.Controlled (controlled_type 0)) (scope 5) 0 1 Free None
          ∷ [];
      expressions =
          Known (Ticks (pos 10))
          ∷ [];
      statements =
          statement (form.CallMain) 0 None
          ∷ statement (form.Block (scope 4)) 0 None
          ∷ statement (form.Null) 0 None
          ∷ statement (form.Initialize (decl 2)) 0 (Some (stmt 2))
          ∷ statement (form.Declare (decl 2)) 0 (Some (stmt 3))
          ∷ statement (form.Delay (expr 0)) 0 (Some (stmt 1))
          ∷ statement (form.EndActivation) 0 (Some (stmt 5))
          ∷ statement (form.Block (scope 5)) 0 None
          ∷ statement (form.Null) 0 None
          ∷ statement (form.Initialize (decl 3)) 0 (Some (stmt 8))
          ∷ statement (form.Declare (decl 3)) 0 (Some (stmt 9))
          ∷ statement (form.Activate 0) 0 (Some (stmt 7))
          ∷ statement (form.CreateTask (decl 1) 0) 0 (Some (stmt 11))
          ∷ statement (form.Null) 0 None
          ∷ statement (form.Null) 0 (Some (stmt 13))
          ∷ statement (form.Null) 0 (Some (stmt 14))
          ∷ statement (form.Null) 0 (Some (stmt 15))
          ∷ statement (form.Null) 0 (Some (stmt 16))
          ∷ statement (form.Null) 0 (Some (stmt 17))
          ∷ [];
      scopes =
          scope_text None 0 [] false (Some (stmt 0))
          ∷ scope_text (Some (scope 0)) 1 [] false (Some (stmt 18))
          ∷ scope_text (Some (scope 0)) 1 [] true (Some (stmt 12))
          ∷ scope_text (Some (scope 2)) 0 [] false (Some (stmt 6))
          ∷ scope_text (Some (scope 3)) 1 [] true (Some (stmt 4))
          ∷ scope_text (Some (scope 2)) 1 [] true (Some (stmt 10))
          ∷ [];
      subprograms =
          subprogram_text (codes "initialize") (scope 1) (formal Free (Whole (pos 0)) ∷ []) None None
          ∷ [];
      task_units =
          task_unit_text (scope 3) (Some 20) None []
          ∷ [];
      protected_units = [];
      entries = [];
      controlled_types =
          controlled_text [] (Some (subprogram 0)) None None
          ∷ controlled_text [] None None None
          ∷ [];
      enumerations = [];
      policies = (policies [] queuing.Fifo None 30);
      environment = (scope 0);
      main = (main_procedure (codes "main") 15 (scope 2));
    }

abbrev pub row_controlled_beside_script : List (ℤ × Item)
row_controlled_beside_script = []

-- the lines of its run up to tick 40
unfoldable pub row_controlled_beside_lines : List (ℕ × Event)
row_controlled_beside_lines = run_of row_controlled_beside_program row_controlled_beside_script 40

unfoldable pub row_controlled_beside_trace : List (ℕ × Event)
row_controlled_beside_trace =
    (0, line.New (created.Task (task 0)) (codes "main") 15)
    ∷ (0, line.Ready (t 0) 15 Tail None)
    ∷ (0, line.Run (t 0))
    ∷ (4, line.New (created.Task (task 1)) (codes "main.t") 20)
    ∷ (6, line.Ready (t 1) 20 Tail None)
    ∷ (6, line.Block (t 0) waits.Activation)
    ∷ (6, line.Run (t 1))
    ∷ (7, line.Ready (t 0) 15 Tail None)
    ∷ (9, line.Block (t 1) waits.Delay)
    ∷ (9, line.Run (t 0))
    ∷ (19, line.Ready (t 1) 20 Tail None)
    ∷ (19, line.Run (t 1))
    ∷ (23, line.Init (t 1) 1 (region 3) (codes "a"))
    ∷ (25, line.Leave (t 1) (region 3) leaves.End)
    ∷ (27, line.Final (t 1) 1)
    ∷ (28, line.Left (t 1) (region 3))
    ∷ (29, line.Done (task 1))
    ∷ (29, line.Run (t 0))
    ∷ (31, line.Init (t 0) 2 (region 2) (codes "b"))
    ∷ (33, line.Leave (t 0) (region 2) leaves.End)
    ∷ (35, line.Final (t 0) 2)
    ∷ (36, line.Left (t 0) (region 2))
    ∷ (37, line.Leave (t 0) (region 1) leaves.End)
    ∷ (38, line.Left (t 0) (region 1))
    ∷ (39, line.Done (task 0))
    ∷ (39, line.End end.Completed)
    ∷ []

pub row_controlled_beside_runs : row_controlled_beside_lines ≡ row_controlled_beside_trace
unfolding row_controlled_beside_lines row_controlled_beside_trace digits computing
row_controlled_beside_runs = refl

-- whether every world of its run is well formed
unfoldable pub row_controlled_beside_worlds : Bool
row_controlled_beside_worlds = run_is_well_formed row_controlled_beside_program row_controlled_beside_script 40

pub row_controlled_beside_keeps : row_controlled_beside_worlds ≡ true
unfolding row_controlled_beside_worlds computing
row_controlled_beside_keeps = refl

-- whether each handler is released at its tick
unfoldable pub row_controlled_beside_handlers : Bool
row_controlled_beside_handlers = releases_ok row_controlled_beside_program row_controlled_beside_script 40

pub row_controlled_beside_releases : row_controlled_beside_handlers ≡ true
unfolding row_controlled_beside_handlers computing
row_controlled_beside_releases = refl
