use Rattle.std.specs.Prelude.{◌≡◌, ℕ, ℤ, pos, negsuc, List, [], ◌∷◌, Some, None, true, false, codes, refl}
use Rattle.trace_text.specs.declared.events.Event.{Event}
use Rattle.trace_text.specs.declared.events.Event.TheVariants as line
use Rattle.trace_text.specs.declared.events.Created.TheVariants as created
use Rattle.trace_text.specs.declared.events.Ended.TheVariants as end
use Rattle.trace_text.specs.declared.events.Leaves.TheVariants as leaves
use Rattle.trace_text.specs.declared.events.QueueEnd.TheVariants.{Tail}
use Rattle.trace_text.specs.declared.events.Waits.TheVariants as waits
use Rattle.profile_image.specs.declared.script_items.Item.{Item}
use Rattle.profile_image.specs.declared.image.Image.{Image}
use Rattle.profile_image.specs.declared.image.Queuing.TheVariants as queuing
use Rattle.profile_image.specs.declared.values.Value.TheVariants.{Whole, Ticks}
use Rattle.profile_image.specs.declared.values.Constraint.TheVariants.{Free, Whole, Ticks}
use Rattle.profile_image.specs.declared.expressions.Expression.TheVariants.{Known}
use Rattle.profile_image.specs.declared.declarations.DeclarationKind.TheVariants as kind
use Rattle.profile_image.specs.declared.declarations.Initial.TheVariants as initial
use Rattle.profile_image.specs.declared.declarations.EntryUnit.TheVariants as unit
use Rattle.profile_image.specs.declared.statements.StatementForm.TheVariants as form
use Rattle.profile_image.specs.declared.statements.SelectKind.TheVariants as select
use Rattle.profile_machine.specs.Notation.{decl, expr, stmt, scope, task_unit, entry, task, region, t, declaration, statement, select_alternative, scope_text, task_unit_text, entry_text, policies, main_procedure}
use Rattle.profile_machine.specs.Run.{run_of}
use Rattle.profile_machine.specs.Computing.{computing}
use Rattle.std.specs.Fmt.{digits}
use Rattle.std.specs.Prelude.{Bool}
use Rattle.profile_machine.specs.WellFormed.{run_is_well_formed}
use Rattle.profile_machine.specs.Releases.{releases_ok}

-- Row abort.blocked: its run stops before tick 34, so every greater bound gives the same trace.
abbrev pub row_abort_blocked_program : Image
row_abort_blocked_program =
    record {
      declarations =
          declaration (codes "a") (codes "main.a") (kind.Task (task_unit 0)) (scope 1) 0 1 Free None
          ∷ declaration (codes "b") (codes "main.b") (kind.Task (task_unit 1)) (scope 1) 1 1 Free None
          ∷ declaration (codes "c") (codes "main.c") (kind.Task (task_unit 2)) (scope 1) 2 1 Free None
          ∷ declaration (codes "i") (codes "main.a.i") (kind.Task (task_unit 3)) (scope 2) 0 1 Free None
          ∷ declaration (codes "x") (codes "main.a.i.x") (kind.Object (initial.Scalar (expr 2))) (scope 3) 0 1 (Whole (negsuc 2147483647) (pos 2147483647)) None
          ∷ [];
      expressions =
          Known (Ticks (pos 50))
          ∷ Known (Ticks (pos 90))
          ∷ Known (Whole (pos 0))
          ∷ [];
      statements =
          statement (form.CallMain) 0 None
          ∷ statement (form.Delay (expr 0)) 0 None
          ∷ statement (form.EndActivation) 0 (Some (stmt 1))
          ∷ statement (form.Declare (decl 4)) 0 (Some (stmt 2))
          ∷ statement (form.Null) 0 None
          ∷ statement (form.Activate 0) 0 (Some (stmt 4))
          ∷ statement (form.EndActivation) 0 (Some (stmt 5))
          ∷ statement (form.CreateTask (decl 3) 0) 0 (Some (stmt 6))
          ∷ statement (form.Accept (entry 0) (scope 5)) 0 None
          ∷ statement (form.EndActivation) 0 (Some (stmt 8))
          ∷ statement (form.Accept (entry 1) (scope 7)) 0 None
          ∷ statement (form.Delay (expr 1)) 0 None
          ∷ statement (form.SelectiveAccept (select_alternative None (select.Accept (stmt 10)) ∷ select_alternative None (select.Delay (stmt 11)) ∷ []) None) 0 None
          ∷ statement (form.EndActivation) 0 (Some (stmt 12))
          ∷ statement (form.Abort ((decl 0) ∷ (decl 1) ∷ (decl 2) ∷ [])) 0 None
          ∷ statement (form.Activate 0) 0 (Some (stmt 14))
          ∷ statement (form.CreateTask (decl 2) 0) 0 (Some (stmt 15))
          ∷ statement (form.CreateTask (decl 1) 0) 0 (Some (stmt 16))
          ∷ statement (form.CreateTask (decl 0) 0) 0 (Some (stmt 17))
          ∷ [];
      scopes =
          scope_text None 0 [] false (Some (stmt 0))
          ∷ scope_text (Some (scope 0)) 3 [] true (Some (stmt 18))
          ∷ scope_text (Some (scope 1)) 1 [] true (Some (stmt 7))
          ∷ scope_text (Some (scope 2)) 1 [] false (Some (stmt 3))
          ∷ scope_text (Some (scope 1)) 0 [] false (Some (stmt 9))
          ∷ scope_text (Some (scope 4)) 0 [] false None
          ∷ scope_text (Some (scope 1)) 0 [] false (Some (stmt 13))
          ∷ scope_text (Some (scope 6)) 0 [] false None
          ∷ [];
      subprograms = [];
      task_units =
          task_unit_text (scope 2) None None []
          ∷ task_unit_text (scope 4) (Some 20) None ((entry 0) ∷ [])
          ∷ task_unit_text (scope 6) (Some 20) None ((entry 1) ∷ [])
          ∷ task_unit_text (scope 3) None None []
          ∷ [];
      protected_units = [];
      entries =
          entry_text (codes "e") (unit.Task (task_unit 1)) 0 [] None
          ∷ entry_text (codes "e") (unit.Task (task_unit 2)) 0 [] None
          ∷ [];
      controlled_types = [];
      enumerations = [];
      policies = (policies [] queuing.Fifo None 30);
      environment = (scope 0);
      main = (main_procedure (codes "main") 15 (scope 1));
    }

abbrev pub row_abort_blocked_script : List (ℤ × Item)
row_abort_blocked_script = []

-- the lines of its run up to tick 34
unfoldable pub row_abort_blocked_lines : List (ℕ × Event)
row_abort_blocked_lines = run_of row_abort_blocked_program row_abort_blocked_script 34

unfoldable pub row_abort_blocked_trace : List (ℕ × Event)
row_abort_blocked_trace =
    (0, line.New (created.Task (task 0)) (codes "main") 15)
    ∷ (0, line.Ready (t 0) 15 Tail None)
    ∷ (0, line.Run (t 0))
    ∷ (4, line.New (created.Task (task 1)) (codes "main.a") 15)
    ∷ (6, line.New (created.Task (task 2)) (codes "main.b") 20)
    ∷ (8, line.New (created.Task (task 3)) (codes "main.c") 20)
    ∷ (10, line.Ready (t 1) 15 Tail None)
    ∷ (10, line.Ready (t 2) 20 Tail None)
    ∷ (10, line.Ready (t 3) 20 Tail None)
    ∷ (10, line.Block (t 0) waits.Activation)
    ∷ (10, line.Run (t 2))
    ∷ (13, line.Block (t 2) waits.Accept)
    ∷ (13, line.Run (t 3))
    ∷ (18, line.Block (t 3) waits.Select)
    ∷ (18, line.Run (t 1))
    ∷ (20, line.New (created.Task (task 4)) (codes "main.a.i") 15)
    ∷ (21, line.Ready (t 0) 15 Tail None)
    ∷ (23, line.Ready (t 4) 15 Tail None)
    ∷ (23, line.Block (t 1) waits.Activation)
    ∷ (23, line.Run (t 0))
    ∷ (25, line.Abort (task 0) (task 1))
    ∷ (25, line.Abort (task 0) (task 2))
    ∷ (25, line.Abort (task 0) (task 3))
    ∷ (25, line.Abort (task 0) (task 4))
    ∷ (25, line.Ready (t 1) 15 Tail None)
    ∷ (25, line.Ready (t 2) 20 Tail None)
    ∷ (25, line.Ready (t 3) 20 Tail None)
    ∷ (25, line.Run (t 2))
    ∷ (26, line.Done (task 2))
    ∷ (26, line.Run (t 3))
    ∷ (27, line.Done (task 3))
    ∷ (27, line.Run (t 0))
    ∷ (28, line.Leave (t 0) (region 1) leaves.End)
    ∷ (28, line.Block (t 0) waits.Dependents)
    ∷ (28, line.Run (t 4))
    ∷ (29, line.Done (task 4))
    ∷ (29, line.Run (t 1))
    ∷ (30, line.Leave (t 1) (region 2) leaves.Abort)
    ∷ (31, line.Left (t 1) (region 2))
    ∷ (31, line.Done (task 1))
    ∷ (31, line.Ready (t 0) 15 Tail None)
    ∷ (31, line.Run (t 0))
    ∷ (32, line.Left (t 0) (region 1))
    ∷ (33, line.Done (task 0))
    ∷ (33, line.End end.Completed)
    ∷ []

pub row_abort_blocked_runs : row_abort_blocked_lines ≡ row_abort_blocked_trace
unfolding row_abort_blocked_lines row_abort_blocked_trace digits computing
row_abort_blocked_runs = refl

-- whether every world of its run is well formed
unfoldable pub row_abort_blocked_worlds : Bool
row_abort_blocked_worlds = run_is_well_formed row_abort_blocked_program row_abort_blocked_script 34

pub row_abort_blocked_keeps : row_abort_blocked_worlds ≡ true
unfolding row_abort_blocked_worlds computing
row_abort_blocked_keeps = refl

-- whether each handler is released at its tick
unfoldable pub row_abort_blocked_handlers : Bool
row_abort_blocked_handlers = releases_ok row_abort_blocked_program row_abort_blocked_script 34

pub row_abort_blocked_releases : row_abort_blocked_handlers ≡ true
unfolding row_abort_blocked_handlers computing
row_abort_blocked_releases = refl
