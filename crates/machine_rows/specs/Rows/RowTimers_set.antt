use Rattle.std.specs.Prelude.{◌≡◌, ℕ, ℤ, pos, List, [], ◌∷◌, Some, None, true, false, codes, refl}
use Rattle.trace_text.specs.declared.events.Event.{Event}
use Rattle.trace_text.specs.declared.events.Event.TheVariants as line
use Rattle.trace_text.specs.declared.events.Created.TheVariants as created
use Rattle.trace_text.specs.declared.events.Ended.TheVariants as end
use Rattle.trace_text.specs.declared.events.Mode.TheVariants.{Write}
use Rattle.trace_text.specs.declared.events.QueueEnd.TheVariants.{Tail}
use Rattle.trace_text.specs.declared.events.Waits.TheVariants as waits
use Rattle.profile_image.specs.declared.script_items.Item.{Item}
use Rattle.profile_image.specs.declared.image.Image.{Image}
use Rattle.profile_image.specs.declared.image.Queuing.TheVariants as queuing
use Rattle.profile_image.specs.declared.values.Value.TheVariants.{Whole, Truth, Task}
use Rattle.profile_image.specs.declared.values.Constraint.TheVariants.{Free, Whole, Truth}
use Rattle.profile_image.specs.declared.expressions.Expression.TheVariants.{Known, Variable, Span, CurrentTask}
use Rattle.profile_image.specs.declared.expressions.ObjectName.TheVariants.{Declared}
use Rattle.profile_image.specs.declared.declarations.DeclarationKind.TheVariants as kind
use Rattle.profile_image.specs.declared.declarations.Initial.TheVariants as initial
use Rattle.profile_image.specs.declared.statements.StatementForm.TheVariants as form
use Rattle.profile_image.specs.declared.statements.Piece.TheVariants as piece
use Rattle.profile_image.specs.declared.statements.Setting.TheVariants as setting
use Rattle.profile_machine.specs.Notation.{decl, expr, stmt, scope, subprogram, protected_unit, task, p, t, agent, declaration, variable, statement, handler_name, cell_run, scope_text, formal, subprogram_text, protected_unit_text, policies, main_procedure}
use Rattle.profile_machine.specs.Run.{run_of}
use Rattle.profile_machine.specs.Computing.{computing}
use Rattle.std.specs.Fmt.{digits}
use Rattle.std.specs.Prelude.{Bool}
use Rattle.profile_machine.specs.WellFormed.{run_is_well_formed}
use Rattle.profile_machine.specs.Releases.{releases_ok}

-- Row timers.set: its run stops before tick 50, so every greater bound gives the same trace.
abbrev pub row_timers_set_program : Image
row_timers_set_program =
    record {
      declarations =
          declaration (codes "id") (codes "pk.id") (kind.Object (initial.Scalar (expr 12))) (scope 0) 0 1 Free None
          ∷ declaration (codes "t") (codes "pk.t") (kind.Timer (decl 0)) (scope 0) 1 1 Free None
          ∷ declaration (codes "h") (codes "pk.h") (kind.Protected (protected_unit 0)) (scope 0) 2 16 Free None
          ∷ declaration (codes "l") (codes "pk.l") (kind.Protected (protected_unit 1)) (scope 0) 18 16 Free None
          ∷ declaration (codes "e") (codes "pk.h.e") kind.Parameter (scope 1) 0 1 Free None
          ∷ declaration (codes "e") (codes "pk.l.e") kind.Parameter (scope 2) 0 1 Free None
          ∷ declaration (codes "c") (codes "main.c") (kind.Object initial.Default) (scope 3) 0 1 (Truth false true) None
          ∷ [];
      expressions =
          Known (Whole (pos 5))
          ∷ Span (pos 1) (expr 0)
          ∷ Known (Whole (pos 0))
          ∷ Span (pos 1) (expr 2)
          ∷ Variable (variable (Declared (decl 6)) None)
          ∷ Known (Whole (pos 6))
          ∷ Span (pos 1) (expr 5)
          ∷ Known (Whole (pos 9))
          ∷ Span (pos 1) (expr 7)
          ∷ Variable (variable (Declared (decl 6)) None)
          ∷ Known (Whole (pos 2))
          ∷ Span (pos 1) (expr 10)
          ∷ CurrentTask
          ∷ [];
      statements =
          statement (form.CallMain) 0 None
          ∷ statement (form.SetTimer (decl 1) (setting.In (expr 1)) (Some (handler_name (decl 3) (subprogram 1)))) 1 None
          ∷ statement (form.SetTimer (decl 1) (setting.In (expr 3)) (Some (handler_name (decl 2) (subprogram 0)))) 1 (Some (stmt 1))
          ∷ statement (form.PutLine (piece.Truth (expr 4) ∷ [])) 0 (Some (stmt 2))
          ∷ statement (form.CancelTimer (decl 1) (variable (Declared (decl 6)) None)) 0 (Some (stmt 3))
          ∷ statement (form.SetTimer (decl 1) (setting.In (expr 6)) (Some (handler_name (decl 2) (subprogram 0)))) 1 (Some (stmt 4))
          ∷ statement (form.SetTimer (decl 1) (setting.In (expr 8)) (Some (handler_name (decl 2) (subprogram 0)))) 1 (Some (stmt 5))
          ∷ statement (form.PutLine (piece.Truth (expr 9) ∷ [])) 0 (Some (stmt 6))
          ∷ statement (form.CancelTimer (decl 1) (variable (Declared (decl 6)) None)) 0 (Some (stmt 7))
          ∷ statement (form.Null) 0 (Some (stmt 8))
          ∷ statement (form.Null) 0 (Some (stmt 9))
          ∷ statement (form.SetTimer (decl 1) (setting.In (expr 11)) (Some (handler_name (decl 2) (subprogram 0)))) 1 (Some (stmt 10))
          ∷ statement (form.Declare (decl 6)) 0 (Some (stmt 11))
          ∷ statement (form.Null) 0 None
          ∷ statement (form.Null) 0 None
          ∷ statement (form.Declare (decl 3)) 0 (Some (stmt 0))
          ∷ statement (form.Declare (decl 2)) 0 (Some (stmt 15))
          ∷ statement (form.Declare (decl 1)) 0 (Some (stmt 16))
          ∷ statement (form.Declare (decl 0)) 1 (Some (stmt 17))
          ∷ [];
      scopes =
          scope_text None 34 (cell_run 0 1 (Task None) ∷ []) false (Some (stmt 18))
          ∷ scope_text (Some (scope 0)) 1 [] false (Some (stmt 13))
          ∷ scope_text (Some (scope 0)) 1 [] false (Some (stmt 14))
          ∷ scope_text (Some (scope 0)) 1 (cell_run 0 1 (Truth false) ∷ []) false (Some (stmt 12))
          ∷ [];
      subprograms =
          subprogram_text (codes "fire") (scope 1) (formal Free (Whole (pos 0)) ∷ []) None (Some (protected_unit 0))
          ∷ subprogram_text (codes "fire") (scope 2) (formal Free (Whole (pos 0)) ∷ []) None (Some (protected_unit 1))
          ∷ [];
      task_units = [];
      protected_units =
          protected_unit_text 31 [] [] []
          ∷ protected_unit_text 20 [] [] []
          ∷ [];
      entries = [];
      controlled_types = [];
      enumerations = [];
      policies = (policies [] queuing.Fifo None 30);
      environment = (scope 0);
      main = (main_procedure (codes "main") 15 (scope 3));
    }

abbrev pub row_timers_set_script : List (ℤ × Item)
row_timers_set_script = []

-- the lines of its run up to tick 50
unfoldable pub row_timers_set_lines : List (ℕ × Event)
row_timers_set_lines = run_of row_timers_set_program row_timers_set_script 50

unfoldable pub row_timers_set_trace : List (ℕ × Event)
row_timers_set_trace =
    (0, line.New (created.Task (task 0)) (codes "main") 15)
    ∷ (0, line.Ready (t 0) 15 Tail None)
    ∷ (0, line.Run (t 0))
    ∷ (4, line.New (created.Object (p 1)) (codes "pk.h") 31)
    ∷ (5, line.New (created.Object (p 2)) (codes "pk.l") 20)
    ∷ (13, line.Release 1 (p 1) (codes "fire"))
    ∷ (13, line.Ready agent 31 Tail None)
    ∷ (13, line.Run agent)
    ∷ (13, line.Serve 1)
    ∷ (15, line.Enter agent (p 1) Write)
    ∷ (18, line.Exit agent (p 1))
    ∷ (18, line.Served 1)
    ∷ (18, line.Block agent waits.Release)
    ∷ (18, line.Run (t 0))
    ∷ (24, line.Put (t 0) (codes "FALSE"))
    ∷ (36, line.Put (t 0) (codes "TRUE"))
    ∷ (39, line.Release 2 (p 1) (codes "fire"))
    ∷ (39, line.Ready agent 31 Tail None)
    ∷ (39, line.Run agent)
    ∷ (39, line.Serve 2)
    ∷ (41, line.Enter agent (p 1) Write)
    ∷ (44, line.Exit agent (p 1))
    ∷ (44, line.Served 2)
    ∷ (44, line.Block agent waits.Release)
    ∷ (44, line.Run (t 0))
    ∷ (47, line.Raise (t 0) (codes "program_error"))
    ∷ (49, line.Done (task 0))
    ∷ (49, line.End (end.Exception (codes "program_error")))
    ∷ []

pub row_timers_set_runs : row_timers_set_lines ≡ row_timers_set_trace
unfolding row_timers_set_lines row_timers_set_trace digits computing
row_timers_set_runs = refl

-- whether every world of its run is well formed
unfoldable pub row_timers_set_worlds : Bool
row_timers_set_worlds = run_is_well_formed row_timers_set_program row_timers_set_script 50

pub row_timers_set_keeps : row_timers_set_worlds ≡ true
unfolding row_timers_set_worlds computing
row_timers_set_keeps = refl

-- whether each handler is released at its tick
unfoldable pub row_timers_set_handlers : Bool
row_timers_set_handlers = releases_ok row_timers_set_program row_timers_set_script 50

pub row_timers_set_releases : row_timers_set_handlers ≡ true
unfolding row_timers_set_handlers computing
row_timers_set_releases = refl
