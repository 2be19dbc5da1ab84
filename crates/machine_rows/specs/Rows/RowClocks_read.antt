use Rattle.std.specs.Prelude.{◌≡◌, ℕ, ℤ, pos, List, [], ◌∷◌, Some, None, true, false, codes, refl}
use Rattle.trace_text.specs.declared.events.Event.{Event}
use Rattle.trace_text.specs.declared.events.Event.TheVariants as line
use Rattle.trace_text.specs.declared.events.Created.TheVariants as created
use Rattle.trace_text.specs.declared.events.Ended.TheVariants as end
use Rattle.trace_text.specs.declared.events.QueueEnd.TheVariants.{Tail}
use Rattle.trace_text.specs.declared.events.Waits.TheVariants as waits
use Rattle.profile_image.specs.declared.script_items.Item.{Item}
use Rattle.profile_image.specs.declared.image.Image.{Image}
use Rattle.profile_image.specs.declared.image.Queuing.TheVariants as queuing
use Rattle.profile_image.specs.declared.values.Value.TheVariants.{Whole, Ticks, Task}
use Rattle.profile_image.specs.declared.values.Constraint.TheVariants.{Free, Whole, Ticks}
use Rattle.profile_image.specs.declared.expressions.Expression.TheVariants.{Known, Variable, Binary, Span, SameTicks, CurrentTask, ExecutionTime, Deadline, TimeOfEvent, TimeRemaining, BudgetRemaining}
use Rattle.profile_image.specs.declared.expressions.ObjectName.TheVariants.{Declared}
use Rattle.profile_image.specs.declared.expressions.BinaryOperator.TheVariants as binary
use Rattle.profile_image.specs.declared.declarations.DeclarationKind.TheVariants as kind
use Rattle.profile_image.specs.declared.declarations.Initial.TheVariants as initial
use Rattle.profile_image.specs.declared.statements.StatementForm.TheVariants as form
use Rattle.profile_image.specs.declared.statements.Piece.TheVariants as piece
use Rattle.profile_image.specs.declared.statements.Setting.TheVariants as setting
use Rattle.profile_machine.specs.Notation.{decl, expr, stmt, scope, subprogram, protected_unit, task, p, t, declaration, variable, statement, handler_name, cell_run, scope_text, formal, subprogram_text, protected_unit_text, policies, main_procedure}
use Rattle.profile_machine.specs.Run.{run_of}
use Rattle.profile_machine.specs.Computing.{computing}
use Rattle.std.specs.Fmt.{digits}
use Rattle.std.specs.Prelude.{Bool}
use Rattle.profile_machine.specs.WellFormed.{run_is_well_formed}
use Rattle.profile_machine.specs.Releases.{releases_ok}

-- Row clocks.read: its run stops before tick 58, so every greater bound gives the same trace.
abbrev pub row_clocks_read_program : Image
row_clocks_read_program =
    record {
      declarations =
          declaration (codes "e") (codes "pk.e") kind.Event (scope 0) 0 1 Free None
          ∷ declaration (codes "b") (codes "pk.b") kind.Budget (scope 0) 1 1 Free None
          ∷ declaration (codes "id") (codes "pk.id") (kind.Object (initial.Scalar (expr 36))) (scope 0) 2 1 Free None
          ∷ declaration (codes "t") (codes "pk.t") (kind.Timer (decl 2)) (scope 0) 3 1 Free None
          ∷ declaration (codes "h") (codes "pk.h") (kind.Protected (protected_unit 0)) (scope 0) 4 16 Free None
          ∷ declaration (codes "e") (codes "pk.h.e") kind.Parameter (scope 1) 0 1 Free None
          ∷ declaration (codes "t") (codes "pk.h.t") kind.Parameter (scope 2) 0 1 Free None
          ∷ declaration (codes "c") (codes "main.c") (kind.Object (initial.Scalar (expr 37))) (scope 3) 0 1 Free None
          ∷ [];
      expressions =
          TimeRemaining (decl 3)
          ∷ Known (Whole (pos 0))
          ∷ Span (pos 1) (expr 1)
          ∷ Binary binary.Equal (expr 0) (expr 2)
          ∷ ExecutionTime None
          ∷ Variable (variable (Declared (decl 7)) None)
          ∷ Binary binary.Minus (expr 4) (expr 5)
          ∷ Known (Whole (pos 43))
          ∷ Span (pos 1) (expr 7)
          ∷ Binary binary.Equal (expr 6) (expr 8)
          ∷ Known (Whole (pos 40))
          ∷ Span (pos 1) (expr 10)
          ∷ TimeOfEvent (decl 0)
          ∷ Known (Ticks (pos 0))
          ∷ Known (Whole (pos 90))
          ∷ Span (pos 1) (expr 14)
          ∷ Binary binary.Plus (expr 13) (expr 15)
          ∷ Binary binary.Equal (expr 12) (expr 16)
          ∷ TimeRemaining (decl 3)
          ∷ Known (Whole (pos 21))
          ∷ Span (pos 1) (expr 19)
          ∷ Binary binary.Equal (expr 18) (expr 20)
          ∷ BudgetRemaining (decl 1)
          ∷ SameTicks (expr 22)
          ∷ Known (Ticks (pos 0))
          ∷ Binary binary.Equal (expr 23) (expr 24)
          ∷ Deadline None
          ∷ Known (Ticks (pos 4611686018427387903))
          ∷ Binary binary.Equal (expr 26) (expr 27)
          ∷ Known (Whole (pos 40))
          ∷ Span (pos 1) (expr 29)
          ∷ Known (Ticks (pos 2))
          ∷ Known (Ticks (pos 0))
          ∷ Known (Whole (pos 90))
          ∷ Span (pos 1) (expr 33)
          ∷ Binary binary.Plus (expr 32) (expr 34)
          ∷ CurrentTask
          ∷ ExecutionTime None
          ∷ [];
      statements =
          statement (form.CallMain) 0 None
          ∷ statement (form.PutLine (piece.Truth (expr 3) ∷ piece.Truth (expr 9) ∷ [])) 8 None
          ∷ statement (form.SetTimer (decl 3) (setting.In (expr 11)) None) 1 (Some (stmt 1))
          ∷ statement (form.PutLine (piece.Truth (expr 17) ∷ piece.Truth (expr 21) ∷ piece.Truth (expr 25) ∷ piece.Truth (expr 28) ∷ [])) 15 (Some (stmt 2))
          ∷ statement (form.SetTimer (decl 3) (setting.In (expr 30)) (Some (handler_name (decl 4) (subprogram 1)))) 1 (Some (stmt 3))
          ∷ statement (form.Delay (expr 31)) 0 (Some (stmt 4))
          ∷ statement (form.SetEvent (decl 0) (setting.At (expr 35)) (Some (handler_name (decl 4) (subprogram 0)))) 2 (Some (stmt 5))
          ∷ statement (form.Declare (decl 7)) 1 (Some (stmt 6))
          ∷ statement (form.Null) 0 None
          ∷ statement (form.Null) 0 None
          ∷ statement (form.Declare (decl 4)) 0 (Some (stmt 0))
          ∷ statement (form.Declare (decl 3)) 0 (Some (stmt 10))
          ∷ statement (form.Declare (decl 2)) 1 (Some (stmt 11))
          ∷ statement (form.Declare (decl 1)) 0 (Some (stmt 12))
          ∷ statement (form.Declare (decl 0)) 0 (Some (stmt 13))
          ∷ [];
      scopes =
          scope_text None 20 (cell_run 2 1 (Task None) ∷ []) false (Some (stmt 14))
          ∷ scope_text (Some (scope 0)) 1 [] false (Some (stmt 8))
          ∷ scope_text (Some (scope 0)) 1 [] false (Some (stmt 9))
          ∷ scope_text (Some (scope 0)) 1 (cell_run 0 1 (Ticks (pos 0)) ∷ []) false (Some (stmt 7))
          ∷ [];
      subprograms =
          subprogram_text (codes "fire") (scope 1) (formal Free (Whole (pos 0)) ∷ []) None (Some (protected_unit 0))
          ∷ subprogram_text (codes "reach") (scope 2) (formal Free (Whole (pos 0)) ∷ []) None (Some (protected_unit 0))
          ∷ [];
      task_units = [];
      protected_units =
          protected_unit_text 31 [] [] []
          ∷ [];
      entries = [];
      controlled_types = [];
      enumerations = [];
      policies = (policies [] queuing.Fifo None 30);
      environment = (scope 0);
      main = (main_procedure (codes "main") 15 (scope 3));
    }

abbrev pub row_clocks_read_script : List (ℤ × Item)
row_clocks_read_script = []

-- the lines of its run up to tick 58
unfoldable pub row_clocks_read_lines : List (ℕ × Event)
row_clocks_read_lines = run_of row_clocks_read_program row_clocks_read_script 58

unfoldable pub row_clocks_read_trace : List (ℕ × Event)
row_clocks_read_trace =
    (0, line.New (created.Task (task 0)) (codes "main") 15)
    ∷ (0, line.Ready (t 0) 15 Tail None)
    ∷ (0, line.Run (t 0))
    ∷ (6, line.New (created.Object (p 1)) (codes "pk.h") 31)
    ∷ (16, line.Block (t 0) waits.Delay)
    ∷ (16, line.Idle)
    ∷ (18, line.Ready (t 0) 15 Tail None)
    ∷ (18, line.Run (t 0))
    ∷ (40, line.Put (t 0) (codes "TRUETRUETRUETRUE"))
    ∷ (55, line.Put (t 0) (codes "TRUETRUE"))
    ∷ (57, line.Done (task 0))
    ∷ (57, line.End end.Completed)
    ∷ []

pub row_clocks_read_runs : row_clocks_read_lines ≡ row_clocks_read_trace
unfolding row_clocks_read_lines row_clocks_read_trace digits computing
row_clocks_read_runs = refl

-- whether every world of its run is well formed
unfoldable pub row_clocks_read_worlds : Bool
row_clocks_read_worlds = run_is_well_formed row_clocks_read_program row_clocks_read_script 58

pub row_clocks_read_keeps : row_clocks_read_worlds ≡ true
unfolding row_clocks_read_worlds computing
row_clocks_read_keeps = refl

-- whether each handler is released at its tick
unfoldable pub row_clocks_read_handlers : Bool
row_clocks_read_handlers = releases_ok row_clocks_read_program row_clocks_read_script 58

pub row_clocks_read_releases : row_clocks_read_handlers ≡ true
unfolding row_clocks_read_handlers computing
row_clocks_read_releases = refl
