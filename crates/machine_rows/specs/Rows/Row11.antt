use Rattle.std.specs.Prelude.{◌≡◌, ℕ, ℤ, pos, List, [], ◌∷◌, Some, None, true, false, codes, refl}
use Rattle.trace_text.specs.declared.events.Event.{Event}
use Rattle.trace_text.specs.declared.events.Event.TheVariants as line
use Rattle.trace_text.specs.declared.events.Created.TheVariants as created
use Rattle.trace_text.specs.declared.events.Ended.TheVariants as end
use Rattle.trace_text.specs.declared.events.Leaves.TheVariants as leaves
use Rattle.trace_text.specs.declared.events.QueueEnd.TheVariants.{Tail}
use Rattle.profile_image.specs.declared.script_items.Item.{Item}
use Rattle.profile_image.specs.declared.image.Image.{Image}
use Rattle.profile_image.specs.declared.image.Queuing.TheVariants as queuing
use Rattle.profile_image.specs.declared.values.Value.TheVariants.{Whole, Ticks}
use Rattle.profile_image.specs.declared.values.Constraint.TheVariants.{Free, Whole, Ticks}
use Rattle.profile_image.specs.declared.expressions.Expression.TheVariants.{Known}
use Rattle.profile_image.specs.declared.declarations.DeclarationKind.TheVariants as kind
use Rattle.profile_image.specs.declared.statements.StatementForm.TheVariants as form
use Rattle.profile_image.specs.declared.statements.Piece.TheVariants as piece
use Rattle.profile_machine.specs.Notation.{decl, expr, stmt, scope, subprogram, controlled_type, task, region, t, declaration, statement, scope_text, formal, subprogram_text, controlled_text, policies, main_procedure}
use Rattle.profile_machine.specs.Run.{run_of}
use Rattle.profile_machine.specs.Computing.{computing}
use Rattle.std.specs.Fmt.{digits}
use Rattle.std.specs.Prelude.{Bool}
use Rattle.profile_machine.specs.WellFormed.{run_is_well_formed}
use Rattle.profile_machine.specs.Releases.{releases_ok}

-- Row 11: its run stops before tick 35, so every greater bound gives the same trace.
abbrev pub row_11_program : Image
row_11_program =
    record {
      declarations =
          declaration (codes "o") (codes "pk.o") kind.Parameter (scope 1) 0 1 Free None
          ∷ declaration (codes "a") (codes "main.a") (kind.Controlled (controlled_type 0)) (scope 3) 0 1 Free None
          ∷ declaration (codes "b") (codes "main.b") (kind.Controlled (controlled_type 0)) (scope 3) 1 1 Free None
          ∷ declaration (codes "c") (codes "main.c") (kind.Controlled (controlled_type 0)) (scope 3) 2 1 Free None
          ∷ [];
      expressions =
          Known (Ticks (pos 14))
          ∷ [];
      statements =
          statement (form.CallMain) 0 None
          ∷ statement (form.AsynchronousSelect (stmt 3) (stmt 4)) 0 None
          ∷ statement (form.PutLine (piece.Text (codes "late") ∷ [])) 0 None
          ∷ statement (form.Delay (expr 0)) 0 (Some (stmt 2))
          ∷ statement (form.Block (scope 3)) 0 None
          ∷ statement (form.Null) 0 None
          ∷ statement (form.Initialize (decl 3)) 0 (Some (stmt 5))
          ∷ statement (form.Declare (decl 3)) 0 (Some (stmt 6))
          ∷ statement (form.Initialize (decl 2)) 0 (Some (stmt 7))
          ∷ statement (form.Declare (decl 2)) 0 (Some (stmt 8))
          ∷ statement (form.Initialize (decl 1)) 0 (Some (stmt 9))
          ∷ statement (form.Declare (decl 1)) 0 (Some (stmt 10))
          ∷ statement (form.Null) 0 None
          ∷ statement (form.Null) 0 (Some (stmt 12))
          ∷ statement (form.Null) 0 (Some (stmt 13))
          ∷ [];
      scopes =
          scope_text None 0 [] false (Some (stmt 0))
          ∷ scope_text (Some (scope 0)) 1 [] false (Some (stmt 14))
          ∷ scope_text (Some (scope 0)) 0 [] false (Some (stmt 1))
          ∷ scope_text (Some (scope 2)) 3 [] true (Some (stmt 11))
          ∷ [];
      subprograms =
          subprogram_text (codes "initialize") (scope 1) (formal Free (Whole (pos 0)) ∷ []) None None
          ∷ [];
      task_units = [];
      protected_units = [];
      entries = [];
      controlled_types =
          controlled_text [] (Some (subprogram 0)) None None
          ∷ [];
      enumerations = [];
      policies = (policies [] queuing.Fifo None 30);
      environment = (scope 0);
      main = (main_procedure (codes "main") 15 (scope 2));
    }

abbrev pub row_11_script : List (ℤ × Item)
row_11_script = []

-- the lines of its run up to tick 35
unfoldable pub row_11_lines : List (ℕ × Event)
row_11_lines = run_of row_11_program row_11_script 35

unfoldable pub row_11_trace : List (ℕ × Event)
row_11_trace =
    (0, line.New (created.Task (task 0)) (codes "main") 15)
    ∷ (0, line.Ready (t 0) 15 Tail None)
    ∷ (0, line.Run (t 0))
    ∷ (13, line.Init (t 0) 1 (region 1) (codes "a"))
    ∷ (18, line.Trigger (task 0))
    ∷ (21, line.Init (t 0) 2 (region 1) (codes "b"))
    ∷ (22, line.Leave (t 0) (region 1) leaves.Abort)
    ∷ (24, line.Final (t 0) 2)
    ∷ (26, line.Final (t 0) 1)
    ∷ (27, line.Left (t 0) (region 1))
    ∷ (32, line.Put (t 0) (codes "late"))
    ∷ (34, line.Done (task 0))
    ∷ (34, line.End end.Completed)
    ∷ []

pub row_11_runs : row_11_lines ≡ row_11_trace
unfolding row_11_lines row_11_trace digits computing
row_11_runs = refl

-- whether every world of its run is well formed
unfoldable pub row_11_worlds : Bool
row_11_worlds = run_is_well_formed row_11_program row_11_script 35

pub row_11_keeps : row_11_worlds ≡ true
unfolding row_11_worlds computing
row_11_keeps = refl

-- whether each handler is released at its tick
unfoldable pub row_11_handlers : Bool
row_11_handlers = releases_ok row_11_program row_11_script 35

pub row_11_releases : row_11_handlers ≡ true
unfolding row_11_handlers computing
row_11_releases = refl
