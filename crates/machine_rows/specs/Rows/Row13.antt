use Rattle.std.specs.Prelude.{◌≡◌, ℕ, ℤ, pos, List, [], ◌∷◌, Some, None, true, false, codes, refl}
use Rattle.trace_text.specs.declared.events.Event.{Event}
use Rattle.trace_text.specs.declared.events.Event.TheVariants as line
use Rattle.trace_text.specs.declared.events.Created.TheVariants as created
use Rattle.trace_text.specs.declared.events.Ended.TheVariants as end
use Rattle.trace_text.specs.declared.events.Leaves.TheVariants as leaves
use Rattle.trace_text.specs.declared.events.Mode.TheVariants.{Write}
use Rattle.trace_text.specs.declared.events.QueueEnd.TheVariants.{Head, Tail}
use Rattle.trace_text.specs.declared.events.Waits.TheVariants as waits
use Rattle.profile_image.specs.declared.script_items.Item.{Item}
use Rattle.profile_image.specs.declared.image.Image.{Image}
use Rattle.profile_image.specs.declared.image.Queuing.TheVariants as queuing
use Rattle.profile_image.specs.declared.values.Value.TheVariants.{Ticks}
use Rattle.profile_image.specs.declared.values.Constraint.TheVariants.{Free, Ticks}
use Rattle.profile_image.specs.declared.expressions.Expression.TheVariants.{Known}
use Rattle.profile_image.specs.declared.declarations.DeclarationKind.TheVariants as kind
use Rattle.profile_image.specs.declared.statements.StatementForm.TheVariants as form
use Rattle.profile_image.specs.declared.statements.Callee.TheVariants as callee
use Rattle.profile_image.specs.declared.statements.Destination.TheVariants as destination
use Rattle.profile_image.specs.declared.statements.Piece.TheVariants as piece
use Rattle.profile_machine.specs.Notation.{decl, expr, stmt, scope, subprogram, task_unit, protected_unit, task, p, region, t, declaration, statement, scope_text, subprogram_text, task_unit_text, protected_unit_text, policies, main_procedure}
use Rattle.profile_machine.specs.Run.{run_of}
use Rattle.profile_machine.specs.Computing.{computing}
use Rattle.std.specs.Fmt.{digits}
use Rattle.std.specs.Prelude.{Bool}
use Rattle.profile_machine.specs.WellFormed.{run_is_well_formed}
use Rattle.profile_machine.specs.Releases.{releases_ok}

-- Row 13: its run stops before tick 24, so every greater bound gives the same trace.
abbrev pub row_13_program : Image
row_13_program =
    record {
      declarations =
          declaration (codes "p") (codes "main.p") (kind.Protected (protected_unit 0)) (scope 1) 0 16 Free None
          ∷ declaration (codes "t") (codes "main.t") (kind.Task (task_unit 0)) (scope 1) 16 1 Free None
          ∷ [];
      expressions =
          Known (Ticks (pos 4))
          ∷ [];
      statements =
          statement (form.CallMain) 0 None
          ∷ statement (form.Null) 0 None
          ∷ statement (form.Null) 0 (Some (stmt 1))
          ∷ statement (form.Null) 0 (Some (stmt 2))
          ∷ statement (form.PutLine (piece.Text (codes "no") ∷ [])) 0 None
          ∷ statement (form.Call (callee.Operation (decl 0) (subprogram 0)) [] destination.Nowhere) 0 (Some (stmt 4))
          ∷ statement (form.EndActivation) 0 (Some (stmt 5))
          ∷ statement (form.Abort ((decl 1) ∷ [])) 0 None
          ∷ statement (form.Delay (expr 0)) 0 (Some (stmt 7))
          ∷ statement (form.Activate 0) 0 (Some (stmt 8))
          ∷ statement (form.CreateTask (decl 1) 0) 0 (Some (stmt 9))
          ∷ statement (form.Declare (decl 0)) 0 (Some (stmt 10))
          ∷ [];
      scopes =
          scope_text None 0 [] false (Some (stmt 0))
          ∷ scope_text (Some (scope 0)) 17 [] true (Some (stmt 11))
          ∷ scope_text (Some (scope 1)) 0 [] false (Some (stmt 3))
          ∷ scope_text (Some (scope 1)) 0 [] false (Some (stmt 6))
          ∷ [];
      subprograms =
          subprogram_text (codes "go") (scope 2) [] None (Some (protected_unit 0))
          ∷ [];
      task_units =
          task_unit_text (scope 3) (Some 10) None []
          ∷ [];
      protected_units =
          protected_unit_text 12 [] [] []
          ∷ [];
      entries = [];
      controlled_types = [];
      enumerations = [];
      policies = (policies [] queuing.Fifo None 30);
      environment = (scope 0);
      main = (main_procedure (codes "main") 15 (scope 1));
    }

abbrev pub row_13_script : List (ℤ × Item)
row_13_script = []

-- the lines of its run up to tick 24
unfoldable pub row_13_lines : List (ℕ × Event)
row_13_lines = run_of row_13_program row_13_script 24

unfoldable pub row_13_trace : List (ℕ × Event)
row_13_trace =
    (0, line.New (created.Task (task 0)) (codes "main") 15)
    ∷ (0, line.Ready (t 0) 15 Tail None)
    ∷ (0, line.Run (t 0))
    ∷ (3, line.New (created.Object (p 1)) (codes "main.p") 12)
    ∷ (5, line.New (created.Task (task 1)) (codes "main.t") 10)
    ∷ (7, line.Ready (t 1) 15 Tail None)
    ∷ (7, line.Block (t 0) waits.Activation)
    ∷ (7, line.Run (t 1))
    ∷ (8, line.Ready (t 0) 15 Tail None)
    ∷ (8, line.Ready (t 1) 10 Head None)
    ∷ (8, line.Run (t 0))
    ∷ (10, line.Block (t 0) waits.Delay)
    ∷ (10, line.Run (t 1))
    ∷ (12, line.Enter (t 1) (p 1) Write)
    ∷ (12, line.Ready (t 1) 12 Head None)
    ∷ (14, line.Ready (t 0) 15 Tail None)
    ∷ (14, line.Run (t 0))
    ∷ (16, line.Abort (task 0) (task 1))
    ∷ (17, line.Leave (t 0) (region 1) leaves.End)
    ∷ (17, line.Block (t 0) waits.Dependents)
    ∷ (17, line.Run (t 1))
    ∷ (20, line.Exit (t 1) (p 1))
    ∷ (20, line.Ready (t 1) 10 Head None)
    ∷ (21, line.Done (task 1))
    ∷ (21, line.Ready (t 0) 15 Tail None)
    ∷ (21, line.Run (t 0))
    ∷ (22, line.Left (t 0) (region 1))
    ∷ (23, line.Done (task 0))
    ∷ (23, line.End end.Completed)
    ∷ []

pub row_13_runs : row_13_lines ≡ row_13_trace
unfolding row_13_lines row_13_trace digits computing
row_13_runs = refl

-- whether every world of its run is well formed
unfoldable pub row_13_worlds : Bool
row_13_worlds = run_is_well_formed row_13_program row_13_script 24

pub row_13_keeps : row_13_worlds ≡ true
unfolding row_13_worlds computing
row_13_keeps = refl

-- whether each handler is released at its tick
unfoldable pub row_13_handlers : Bool
row_13_handlers = releases_ok row_13_program row_13_script 24

pub row_13_releases : row_13_handlers ≡ true
unfolding row_13_handlers computing
row_13_releases = refl
