use Rattle.std.specs.Prelude.{◌≡◌, ℕ, ℤ, pos, List, [], ◌∷◌, Some, None, true, false, codes, refl}
use Rattle.trace_text.specs.declared.events.Event.{Event}
use Rattle.trace_text.specs.declared.events.Event.TheVariants as line
use Rattle.trace_text.specs.declared.events.Created.TheVariants as created
use Rattle.trace_text.specs.declared.events.Ended.TheVariants as end
use Rattle.trace_text.specs.declared.events.Leaves.TheVariants as leaves
use Rattle.trace_text.specs.declared.events.QueueEnd.TheVariants.{Tail}
use Rattle.trace_text.specs.declared.events.Waits.TheVariants as waits
use Rattle.profile_image.specs.declared.script_items.Item.{Item}
use Rattle.profile_image.specs.declared.image.Image.{Image}
use Rattle.profile_image.specs.declared.image.Queuing.TheVariants as queuing
use Rattle.profile_image.specs.declared.values.Value.TheVariants.{Ticks}
use Rattle.profile_image.specs.declared.values.Constraint.TheVariants.{Free, Ticks}
use Rattle.profile_image.specs.declared.expressions.Expression.TheVariants.{Known}
use Rattle.profile_image.specs.declared.declarations.DeclarationKind.TheVariants as kind
use Rattle.profile_image.specs.declared.statements.StatementForm.TheVariants as form
use Rattle.profile_image.specs.declared.statements.Piece.TheVariants as piece
use Rattle.profile_machine.specs.Notation.{decl, expr, stmt, scope, task_unit, task, region, t, declaration, statement, scope_text, task_unit_text, policies, main_procedure}
use Rattle.profile_machine.specs.Run.{run_of}
use Rattle.profile_machine.specs.Computing.{computing}
use Rattle.std.specs.Fmt.{digits}
use Rattle.std.specs.Prelude.{Bool}
use Rattle.profile_machine.specs.WellFormed.{run_is_well_formed}
use Rattle.profile_machine.specs.Releases.{releases_ok}

-- Row 03: its run stops before tick 36, so every greater bound gives the same trace.
abbrev pub row_03_program : Image
row_03_program =
    record {
      declarations =
          declaration (codes "hi") (codes "main.hi") (kind.Task (task_unit 0)) (scope 1) 0 1 Free None
          ∷ declaration (codes "a") (codes "main.a") (kind.Task (task_unit 1)) (scope 1) 1 1 Free None
          ∷ declaration (codes "b") (codes "main.b") (kind.Task (task_unit 2)) (scope 1) 2 1 Free None
          ∷ [];
      expressions =
          Known (Ticks (pos 10))
          ∷ [];
      statements =
          statement (form.CallMain) 0 None
          ∷ statement (form.PutLine (piece.Text (codes "hi") ∷ [])) 0 None
          ∷ statement (form.Delay (expr 0)) 0 (Some (stmt 1))
          ∷ statement (form.EndActivation) 0 (Some (stmt 2))
          ∷ statement (form.PutLine (piece.Text (codes "a") ∷ [])) 0 None
          ∷ statement (form.Null) 0 (Some (stmt 4))
          ∷ statement (form.EndActivation) 0 (Some (stmt 5))
          ∷ statement (form.PutLine (piece.Text (codes "b") ∷ [])) 0 None
          ∷ statement (form.EndActivation) 0 (Some (stmt 7))
          ∷ statement (form.Null) 0 None
          ∷ statement (form.Activate 0) 0 (Some (stmt 9))
          ∷ statement (form.CreateTask (decl 2) 0) 0 (Some (stmt 10))
          ∷ statement (form.CreateTask (decl 1) 0) 0 (Some (stmt 11))
          ∷ statement (form.CreateTask (decl 0) 0) 0 (Some (stmt 12))
          ∷ [];
      scopes =
          scope_text None 0 [] false (Some (stmt 0))
          ∷ scope_text (Some (scope 0)) 3 [] true (Some (stmt 13))
          ∷ scope_text (Some (scope 1)) 0 [] false (Some (stmt 3))
          ∷ scope_text (Some (scope 1)) 0 [] false (Some (stmt 6))
          ∷ scope_text (Some (scope 1)) 0 [] false (Some (stmt 8))
          ∷ [];
      subprograms = [];
      task_units =
          task_unit_text (scope 2) (Some 20) None []
          ∷ task_unit_text (scope 3) None None []
          ∷ task_unit_text (scope 4) None None []
          ∷ [];
      protected_units = [];
      entries = [];
      controlled_types = [];
      enumerations = [];
      policies = (policies [] queuing.Fifo None 30);
      environment = (scope 0);
      main = (main_procedure (codes "main") 15 (scope 1));
    }

abbrev pub row_03_script : List (ℤ × Item)
row_03_script = []

-- the lines of its run up to tick 36
unfoldable pub row_03_lines : List (ℕ × Event)
row_03_lines = run_of row_03_program row_03_script 36

unfoldable pub row_03_trace : List (ℕ × Event)
row_03_trace =
    (0, line.New (created.Task (task 0)) (codes "main") 15)
    ∷ (0, line.Ready (t 0) 15 Tail None)
    ∷ (0, line.Run (t 0))
    ∷ (4, line.New (created.Task (task 1)) (codes "main.hi") 20)
    ∷ (6, line.New (created.Task (task 2)) (codes "main.a") 15)
    ∷ (8, line.New (created.Task (task 3)) (codes "main.b") 15)
    ∷ (10, line.Ready (t 1) 20 Tail None)
    ∷ (10, line.Ready (t 2) 15 Tail None)
    ∷ (10, line.Ready (t 3) 15 Tail None)
    ∷ (10, line.Block (t 0) waits.Activation)
    ∷ (10, line.Run (t 1))
    ∷ (13, line.Block (t 1) waits.Delay)
    ∷ (13, line.Run (t 2))
    ∷ (19, line.Put (t 2) (codes "a"))
    ∷ (20, line.Done (task 2))
    ∷ (20, line.Run (t 3))
    ∷ (21, line.Ready (t 0) 15 Tail None)
    ∷ (23, line.Ready (t 1) 20 Tail None)
    ∷ (23, line.Run (t 1))
    ∷ (27, line.Put (t 1) (codes "hi"))
    ∷ (28, line.Done (task 1))
    ∷ (28, line.Run (t 3))
    ∷ (30, line.Put (t 3) (codes "b"))
    ∷ (31, line.Done (task 3))
    ∷ (31, line.Run (t 0))
    ∷ (33, line.Leave (t 0) (region 1) leaves.End)
    ∷ (34, line.Left (t 0) (region 1))
    ∷ (35, line.Done (task 0))
    ∷ (35, line.End end.Completed)
    ∷ []

pub row_03_runs : row_03_lines ≡ row_03_trace
unfolding row_03_lines row_03_trace digits computing
row_03_runs = refl

-- whether every world of its run is well formed
unfoldable pub row_03_worlds : Bool
row_03_worlds = run_is_well_formed row_03_program row_03_script 36

pub row_03_keeps : row_03_worlds ≡ true
unfolding row_03_worlds computing
row_03_keeps = refl

-- whether each handler is released at its tick
unfoldable pub row_03_handlers : Bool
row_03_handlers = releases_ok row_03_program row_03_script 36

pub row_03_releases : row_03_handlers ≡ true
unfolding row_03_handlers computing
row_03_releases = refl
