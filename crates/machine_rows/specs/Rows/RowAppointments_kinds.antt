use Rattle.std.specs.Prelude.{◌≡◌, ℕ, ℤ, pos, List, [], ◌∷◌, Some, None, true, false, codes, refl}
use Rattle.trace_text.specs.declared.events.Event.{Event}
use Rattle.trace_text.specs.declared.events.Event.TheVariants as line
use Rattle.trace_text.specs.declared.events.Created.TheVariants as created
use Rattle.trace_text.specs.declared.events.Ended.TheVariants as end
use Rattle.trace_text.specs.declared.events.Finished.TheVariants as finished
use Rattle.trace_text.specs.declared.events.Leaves.TheVariants as leaves
use Rattle.trace_text.specs.declared.events.Mode.TheVariants.{Write}
use Rattle.trace_text.specs.declared.events.QueueEnd.TheVariants.{Head, Tail}
use Rattle.trace_text.specs.declared.events.Waits.TheVariants as waits
use Rattle.profile_image.specs.declared.script_items.Item.{Item}
use Rattle.profile_image.specs.declared.image.Image.{Image}
use Rattle.profile_image.specs.declared.image.Queuing.TheVariants as queuing
use Rattle.profile_image.specs.declared.values.Value.TheVariants.{Whole, Ticks}
use Rattle.profile_image.specs.declared.values.Constraint.TheVariants.{Free, Whole, Ticks}
use Rattle.profile_image.specs.declared.expressions.Expression.TheVariants.{Known, Binary, Span}
use Rattle.profile_image.specs.declared.expressions.BinaryOperator.TheVariants as binary
use Rattle.profile_image.specs.declared.declarations.DeclarationKind.TheVariants as kind
use Rattle.profile_image.specs.declared.declarations.EntryUnit.TheVariants as unit
use Rattle.profile_image.specs.declared.statements.StatementForm.TheVariants as form
use Rattle.profile_image.specs.declared.statements.EntryOwner.TheVariants as owner
use Rattle.profile_image.specs.declared.statements.Setting.TheVariants as setting
use Rattle.profile_machine.specs.Notation.{decl, expr, stmt, scope, subprogram, task_unit, protected_unit, entry, task, call, p, region, t, agent, of_task, declaration, statement, handler_name, scope_text, formal, subprogram_text, task_unit_text, protected_unit_text, entry_text, policies, main_procedure}
use Rattle.profile_machine.specs.Run.{run_of}
use Rattle.profile_machine.specs.Computing.{computing}
use Rattle.std.specs.Fmt.{digits}
use Rattle.std.specs.Prelude.{Bool}
use Rattle.profile_machine.specs.WellFormed.{run_is_well_formed}
use Rattle.profile_machine.specs.Releases.{releases_ok}

-- Row appointments.kinds: its run stops before tick 59, so every greater bound gives the same trace.
abbrev pub row_appointments_kinds_program : Image
row_appointments_kinds_program =
    record {
      declarations =
          declaration (codes "e") (codes "pk.e") kind.Event (scope 0) 0 1 Free None
          ∷ declaration (codes "h") (codes "pk.h") (kind.Protected (protected_unit 0)) (scope 0) 1 16 Free None
          ∷ declaration (codes "e") (codes "pk.h.e") kind.Parameter (scope 1) 0 1 Free None
          ∷ declaration (codes "t") (codes "main.t") (kind.Task (task_unit 0)) (scope 2) 0 1 Free None
          ∷ declaration (codes "c") (codes "main.c") (kind.Task (task_unit 1)) (scope 2) 1 1 Free None
          ∷ declaration (codes "d") (codes "main.d") (kind.Task (task_unit 2)) (scope 2) 2 1 Free None
          ∷ declaration (codes "s") (codes "main.s") (kind.Task (task_unit 3)) (scope 2) 3 1 Free None
          ∷ [];
      expressions =
          Known (Ticks (pos 3))
          ∷ Known (Ticks (pos 9))
          ∷ Known (Ticks (pos 30))
          ∷ Known (Ticks (pos 40))
          ∷ Known (Ticks (pos 12))
          ∷ Known (Ticks (pos 14))
          ∷ Known (Ticks (pos 10))
          ∷ Known (Ticks (pos 0))
          ∷ Known (Whole (pos 51))
          ∷ Span (pos 1) (expr 8)
          ∷ Binary binary.Plus (expr 7) (expr 9)
          ∷ [];
      statements =
          statement (form.CallMain) 0 None
          ∷ statement (form.Accept (entry 0) (scope 4)) 0 None
          ∷ statement (form.EndActivation) 0 (Some (stmt 1))
          ∷ statement (form.Delay (expr 0)) 0 None
          ∷ statement (form.AsynchronousSelect (stmt 5) (stmt 6)) 0 (Some (stmt 3))
          ∷ statement (form.Delay (expr 1)) 0 (Some (stmt 3))
          ∷ statement (form.Null) 0 None
          ∷ statement (form.EntryCall (entry 0) (owner.Object (decl 3)) []) 0 (Some (stmt 4))
          ∷ statement (form.Delay (expr 2)) 0 (Some (stmt 4))
          ∷ statement (form.TimedCall (stmt 7) (stmt 8)) 0 (Some (stmt 4))
          ∷ statement (form.EndActivation) 0 (Some (stmt 9))
          ∷ statement (form.Delay (expr 3)) 0 None
          ∷ statement (form.EndActivation) 0 (Some (stmt 11))
          ∷ statement (form.AsynchronousSelect (stmt 14) (stmt 15)) 0 None
          ∷ statement (form.Delay (expr 4)) 0 None
          ∷ statement (form.Delay (expr 5)) 0 None
          ∷ statement (form.AsynchronousSelect (stmt 17) (stmt 18)) 0 (Some (stmt 13))
          ∷ statement (form.Delay (expr 6)) 0 (Some (stmt 13))
          ∷ statement (form.Null) 0 None
          ∷ statement (form.EndActivation) 0 (Some (stmt 16))
          ∷ statement (form.Abort ((decl 5) ∷ [])) 0 None
          ∷ statement (form.Activate 0) 0 (Some (stmt 20))
          ∷ statement (form.CreateTask (decl 6) 0) 0 (Some (stmt 21))
          ∷ statement (form.CreateTask (decl 5) 0) 0 (Some (stmt 22))
          ∷ statement (form.CreateTask (decl 4) 0) 0 (Some (stmt 23))
          ∷ statement (form.CreateTask (decl 3) 0) 0 (Some (stmt 24))
          ∷ statement (form.Null) 0 None
          ∷ statement (form.SetEvent (decl 0) (setting.At (expr 10)) (Some (handler_name (decl 1) (subprogram 0)))) 2 (Some (stmt 0))
          ∷ statement (form.Declare (decl 1)) 0 (Some (stmt 27))
          ∷ statement (form.Declare (decl 0)) 0 (Some (stmt 28))
          ∷ [];
      scopes =
          scope_text None 17 [] false (Some (stmt 29))
          ∷ scope_text (Some (scope 0)) 1 [] false (Some (stmt 26))
          ∷ scope_text (Some (scope 0)) 4 [] true (Some (stmt 25))
          ∷ scope_text (Some (scope 2)) 0 [] false (Some (stmt 2))
          ∷ scope_text (Some (scope 3)) 0 [] false None
          ∷ scope_text (Some (scope 2)) 0 [] false (Some (stmt 10))
          ∷ scope_text (Some (scope 2)) 0 [] false (Some (stmt 12))
          ∷ scope_text (Some (scope 2)) 0 [] false (Some (stmt 19))
          ∷ [];
      subprograms =
          subprogram_text (codes "fire") (scope 1) (formal Free (Whole (pos 0)) ∷ []) None (Some (protected_unit 0))
          ∷ [];
      task_units =
          task_unit_text (scope 3) None None ((entry 0) ∷ [])
          ∷ task_unit_text (scope 5) (Some 20) None []
          ∷ task_unit_text (scope 6) (Some 20) None []
          ∷ task_unit_text (scope 7) (Some 20) None []
          ∷ [];
      protected_units =
          protected_unit_text 31 [] [] []
          ∷ [];
      entries =
          entry_text (codes "a") (unit.Task (task_unit 0)) 0 [] None
          ∷ [];
      controlled_types = [];
      enumerations = [];
      policies = (policies [] queuing.Fifo None 30);
      environment = (scope 0);
      main = (main_procedure (codes "main") 15 (scope 2));
    }

abbrev pub row_appointments_kinds_script : List (ℤ × Item)
row_appointments_kinds_script = []

-- the lines of its run up to tick 59
unfoldable pub row_appointments_kinds_lines : List (ℕ × Event)
row_appointments_kinds_lines = run_of row_appointments_kinds_program row_appointments_kinds_script 59

unfoldable pub row_appointments_kinds_trace : List (ℕ × Event)
row_appointments_kinds_trace =
    (0, line.New (created.Task (task 0)) (codes "main") 15)
    ∷ (0, line.Ready (t 0) 15 Tail None)
    ∷ (0, line.Run (t 0))
    ∷ (2, line.New (created.Object (p 1)) (codes "pk.h") 31)
    ∷ (10, line.New (created.Task (task 1)) (codes "main.t") 15)
    ∷ (12, line.New (created.Task (task 2)) (codes "main.c") 20)
    ∷ (14, line.New (created.Task (task 3)) (codes "main.d") 20)
    ∷ (16, line.New (created.Task (task 4)) (codes "main.s") 20)
    ∷ (18, line.Ready (t 1) 15 Tail None)
    ∷ (18, line.Ready (t 2) 20 Tail None)
    ∷ (18, line.Ready (t 3) 20 Tail None)
    ∷ (18, line.Ready (t 4) 20 Tail None)
    ∷ (18, line.Block (t 0) waits.Activation)
    ∷ (18, line.Run (t 2))
    ∷ (21, line.Call (task 2) (call 1) (of_task 1 (codes "a")) 20)
    ∷ (21, line.Block (t 2) waits.Entry)
    ∷ (21, line.Run (t 3))
    ∷ (24, line.Block (t 3) waits.Delay)
    ∷ (24, line.Run (t 4))
    ∷ (33, line.Block (t 4) waits.Delay)
    ∷ (33, line.Run (t 1))
    ∷ (34, line.Ready (t 0) 15 Tail None)
    ∷ (36, line.Start (t 1) (call 1))
    ∷ (36, line.Ready (t 1) 20 Head None)
    ∷ (37, line.Finish (t 1) (call 1) finished.Ok)
    ∷ (37, line.Ready (t 2) 20 Tail None)
    ∷ (37, line.Ready (t 1) 15 Head None)
    ∷ (37, line.Run (t 2))
    ∷ (43, line.Block (t 2) waits.Delay)
    ∷ (43, line.Trigger (task 4))
    ∷ (43, line.Ready (t 4) 20 Tail None)
    ∷ (43, line.Run (t 4))
    ∷ (45, line.Done (task 4))
    ∷ (45, line.Run (t 1))
    ∷ (46, line.Done (task 1))
    ∷ (46, line.Ready (t 2) 20 Tail None)
    ∷ (46, line.Run (t 2))
    ∷ (47, line.Done (task 2))
    ∷ (47, line.Run (t 0))
    ∷ (49, line.Abort (task 0) (task 3))
    ∷ (49, line.Ready (t 3) 20 Tail None)
    ∷ (49, line.Run (t 3))
    ∷ (50, line.Done (task 3))
    ∷ (50, line.Run (t 0))
    ∷ (51, line.Leave (t 0) (region 1) leaves.End)
    ∷ (51, line.Release 1 (p 1) (codes "fire"))
    ∷ (51, line.Ready agent 31 Tail None)
    ∷ (51, line.Run agent)
    ∷ (51, line.Serve 1)
    ∷ (53, line.Enter agent (p 1) Write)
    ∷ (56, line.Exit agent (p 1))
    ∷ (56, line.Served 1)
    ∷ (56, line.Block agent waits.Release)
    ∷ (56, line.Run (t 0))
    ∷ (57, line.Left (t 0) (region 1))
    ∷ (58, line.Done (task 0))
    ∷ (58, line.End end.Completed)
    ∷ []

pub row_appointments_kinds_runs : row_appointments_kinds_lines ≡ row_appointments_kinds_trace
unfolding row_appointments_kinds_lines row_appointments_kinds_trace digits computing
row_appointments_kinds_runs = refl

-- whether every world of its run is well formed
unfoldable pub row_appointments_kinds_worlds : Bool
row_appointments_kinds_worlds = run_is_well_formed row_appointments_kinds_program row_appointments_kinds_script 59

pub row_appointments_kinds_keeps : row_appointments_kinds_worlds ≡ true
unfolding row_appointments_kinds_worlds computing
row_appointments_kinds_keeps = refl

-- whether each handler is released at its tick
unfoldable pub row_appointments_kinds_handlers : Bool
row_appointments_kinds_handlers = releases_ok row_appointments_kinds_program row_appointments_kinds_script 59

pub row_appointments_kinds_releases : row_appointments_kinds_handlers ≡ true
unfolding row_appointments_kinds_handlers computing
row_appointments_kinds_releases = refl
