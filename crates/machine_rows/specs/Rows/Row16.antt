use Rattle.std.specs.Prelude.{◌≡◌, ℕ, ℤ, pos, negsuc, List, [], ◌∷◌, Some, None, true, false, codes, refl}
use Rattle.trace_text.specs.declared.events.Event.{Event}
use Rattle.trace_text.specs.declared.events.Event.TheVariants as line
use Rattle.trace_text.specs.declared.events.Created.TheVariants as created
use Rattle.trace_text.specs.declared.events.Ended.TheVariants as end
use Rattle.trace_text.specs.declared.events.Mode.TheVariants.{Write}
use Rattle.trace_text.specs.declared.events.QueueEnd.TheVariants.{Tail}
use Rattle.trace_text.specs.declared.events.Waits.TheVariants as waits
use Rattle.profile_image.specs.declared.script_items.Item.{Item}
use Rattle.profile_image.specs.declared.image.Image.{Image}
use Rattle.profile_image.specs.declared.image.Queuing.TheVariants as queuing
use Rattle.profile_image.specs.declared.values.Value.TheVariants.{Whole, Truth}
use Rattle.profile_image.specs.declared.values.Constraint.TheVariants.{Free, Whole, Truth}
use Rattle.profile_image.specs.declared.expressions.Expression.TheVariants.{Known, Variable, Binary, Clock, Span}
use Rattle.profile_image.specs.declared.expressions.ObjectName.TheVariants.{Declared, OwnComponent}
use Rattle.profile_image.specs.declared.expressions.BinaryOperator.TheVariants as binary
use Rattle.profile_image.specs.declared.declarations.DeclarationKind.TheVariants as kind
use Rattle.profile_image.specs.declared.declarations.Initial.TheVariants as initial
use Rattle.profile_image.specs.declared.statements.StatementForm.TheVariants as form
use Rattle.profile_image.specs.declared.statements.Piece.TheVariants as piece
use Rattle.profile_image.specs.declared.statements.Setting.TheVariants as setting
use Rattle.profile_machine.specs.Notation.{decl, expr, stmt, scope, subprogram, protected_unit, task, p, t, agent, declaration, variable, statement, handler_name, cell_run, scope_text, formal, subprogram_text, protected_unit_text, policies, main_procedure}
use Rattle.profile_machine.specs.Run.{run_of}
use Rattle.profile_machine.specs.Computing.{computing}
use Rattle.std.specs.Fmt.{digits}
use Rattle.std.specs.Prelude.{Bool}
use Rattle.profile_machine.specs.WellFormed.{run_is_well_formed}
use Rattle.profile_machine.specs.Releases.{releases_ok}

-- Row 16: its run stops before tick 32, so every greater bound gives the same trace.
abbrev pub row_16_program : Image
row_16_program =
    record {
      declarations =
          declaration (codes "e") (codes "ev.e") kind.Event (scope 0) 0 1 Free None
          ∷ declaration (codes "h") (codes "ev.h") (kind.Protected (protected_unit 0)) (scope 0) 1 17 Free None
          ∷ declaration (codes "n") (codes "ev.h.n") (kind.Object (initial.Scalar (expr 12))) (scope 0) 0 1 (Whole (negsuc 2147483647) (pos 2147483647)) None
          ∷ declaration (codes "event") (codes "ev.h.event") kind.Parameter (scope 1) 0 1 Free None
          ∷ declaration (codes "c") (codes "main.c") (kind.Object initial.Default) (scope 2) 0 1 (Truth false true) None
          ∷ [];
      expressions =
          Variable (variable (Declared (decl 4)) None)
          ∷ Clock
          ∷ Clock
          ∷ Known (Whole (pos 5))
          ∷ Span (pos 1) (expr 3)
          ∷ Binary binary.Plus (expr 2) (expr 4)
          ∷ Variable (variable (OwnComponent (protected_unit 0) (decl 2)) None)
          ∷ Known (Whole (pos 1))
          ∷ Binary binary.Equal (expr 6) (expr 7)
          ∷ Variable (variable (OwnComponent (protected_unit 0) (decl 2)) None)
          ∷ Known (Whole (pos 1))
          ∷ Binary binary.Plus (expr 9) (expr 10)
          ∷ Known (Whole (pos 0))
          ∷ [];
      statements =
          statement (form.CallMain) 0 None
          ∷ statement (form.PutLine (piece.Text (codes "cancelled") ∷ [])) 0 None
          ∷ statement (form.If (expr 0) (stmt 1) None) 0 None
          ∷ statement (form.CancelEvent (decl 0) (variable (Declared (decl 4)) None)) 0 (Some (stmt 2))
          ∷ statement (form.Null) 0 (Some (stmt 3))
          ∷ statement (form.SetEvent (decl 0) (setting.At (expr 1)) (Some (handler_name (decl 1) (subprogram 0)))) 1 (Some (stmt 4))
          ∷ statement (form.Declare (decl 4)) 0 (Some (stmt 5))
          ∷ statement (form.SetEvent (decl 3) (setting.At (expr 5)) (Some (handler_name (decl 1) (subprogram 0)))) 3 None
          ∷ statement (form.If (expr 8) (stmt 7) None) 1 None
          ∷ statement (form.Assign (variable (OwnComponent (protected_unit 0) (decl 2)) None) (expr 11)) 1 (Some (stmt 8))
          ∷ statement (form.Declare (decl 1)) 0 (Some (stmt 0))
          ∷ statement (form.Declare (decl 0)) 0 (Some (stmt 10))
          ∷ [];
      scopes =
          scope_text None 18 [] false (Some (stmt 11))
          ∷ scope_text (Some (scope 0)) 1 [] false (Some (stmt 9))
          ∷ scope_text (Some (scope 0)) 1 (cell_run 0 1 (Truth false) ∷ []) false (Some (stmt 6))
          ∷ [];
      subprograms =
          subprogram_text (codes "fire") (scope 1) (formal Free (Whole (pos 0)) ∷ []) None (Some (protected_unit 0))
          ∷ [];
      task_units = [];
      protected_units =
          protected_unit_text 31 [] ((decl 2) ∷ []) []
          ∷ [];
      entries = [];
      controlled_types = [];
      enumerations = [];
      policies = (policies [] queuing.Fifo None 30);
      environment = (scope 0);
      main = (main_procedure (codes "main") 15 (scope 2));
    }

abbrev pub row_16_script : List (ℤ × Item)
row_16_script = []

-- the lines of its run up to tick 32
unfoldable pub row_16_lines : List (ℕ × Event)
row_16_lines = run_of row_16_program row_16_script 32

unfoldable pub row_16_trace : List (ℕ × Event)
row_16_trace =
    (0, line.New (created.Task (task 0)) (codes "main") 15)
    ∷ (0, line.Ready (t 0) 15 Tail None)
    ∷ (0, line.Run (t 0))
    ∷ (2, line.New (created.Object (p 1)) (codes "ev.h") 31)
    ∷ (8, line.Release 1 (p 1) (codes "fire"))
    ∷ (8, line.Ready agent 31 Tail None)
    ∷ (8, line.Run agent)
    ∷ (8, line.Serve 1)
    ∷ (10, line.Enter agent (p 1) Write)
    ∷ (21, line.Exit agent (p 1))
    ∷ (21, line.Served 1)
    ∷ (21, line.Block agent waits.Release)
    ∷ (21, line.Run (t 0))
    ∷ (29, line.Put (t 0) (codes "cancelled"))
    ∷ (31, line.Done (task 0))
    ∷ (31, line.End end.Completed)
    ∷ []

pub row_16_runs : row_16_lines ≡ row_16_trace
unfolding row_16_lines row_16_trace digits computing
row_16_runs = refl

-- whether every world of its run is well formed
unfoldable pub row_16_worlds : Bool
row_16_worlds = run_is_well_formed row_16_program row_16_script 32

pub row_16_keeps : row_16_worlds ≡ true
unfolding row_16_worlds computing
row_16_keeps = refl

-- whether each handler is released at its tick
unfoldable pub row_16_handlers : Bool
row_16_handlers = releases_ok row_16_program row_16_script 32

pub row_16_releases : row_16_handlers ≡ true
unfolding row_16_handlers computing
row_16_releases = refl
