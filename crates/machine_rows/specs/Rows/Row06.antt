use Rattle.std.specs.Prelude.{◌≡◌, ℕ, ℤ, pos, List, [], ◌∷◌, Some, None, true, false, codes, refl}
use Rattle.trace_text.specs.declared.events.Event.{Event}
use Rattle.trace_text.specs.declared.events.Event.TheVariants as line
use Rattle.trace_text.specs.declared.events.Created.TheVariants as created
use Rattle.trace_text.specs.declared.events.Ended.TheVariants as end
use Rattle.trace_text.specs.declared.events.Finished.TheVariants as finished
use Rattle.trace_text.specs.declared.events.Leaves.TheVariants as leaves
use Rattle.trace_text.specs.declared.events.Mode.TheVariants.{Write}
use Rattle.trace_text.specs.declared.events.QueueEnd.TheVariants.{Head, Tail}
use Rattle.trace_text.specs.declared.events.Waits.TheVariants as waits
use Rattle.profile_image.specs.declared.script_items.Item.{Item}
use Rattle.profile_image.specs.declared.image.Image.{Image}
use Rattle.profile_image.specs.declared.image.Queuing.TheVariants as queuing
use Rattle.profile_image.specs.declared.values.Value.TheVariants.{Ticks}
use Rattle.profile_image.specs.declared.values.Constraint.TheVariants.{Free, Ticks}
use Rattle.profile_image.specs.declared.expressions.Expression.TheVariants.{Known}
use Rattle.profile_image.specs.declared.declarations.DeclarationKind.TheVariants as kind
use Rattle.profile_image.specs.declared.declarations.EntryUnit.TheVariants as unit
use Rattle.profile_image.specs.declared.statements.StatementForm.TheVariants as form
use Rattle.profile_image.specs.declared.statements.Callee.TheVariants as callee
use Rattle.profile_image.specs.declared.statements.Destination.TheVariants as destination
use Rattle.profile_image.specs.declared.statements.EntryOwner.TheVariants as owner
use Rattle.profile_machine.specs.Notation.{decl, expr, stmt, scope, subprogram, task_unit, protected_unit, entry, task, call, p, region, t, of_task, declaration, statement, scope_text, subprogram_text, task_unit_text, protected_unit_text, entry_text, policies, main_procedure}
use Rattle.profile_machine.specs.Run.{run_of}
use Rattle.profile_machine.specs.Computing.{computing}
use Rattle.std.specs.Fmt.{digits}
use Rattle.std.specs.Prelude.{Bool}
use Rattle.profile_machine.specs.WellFormed.{run_is_well_formed}
use Rattle.profile_machine.specs.Releases.{releases_ok}

-- Row 06: its run stops before tick 45, so every greater bound gives the same trace.
abbrev pub row_06_program : Image
row_06_program =
    record {
      declarations =
          declaration (codes "p") (codes "main.p") (kind.Protected (protected_unit 0)) (scope 1) 0 16 Free None
          ∷ declaration (codes "h") (codes "main.h") (kind.Task (task_unit 0)) (scope 1) 16 1 Free None
          ∷ declaration (codes "a") (codes "main.a") (kind.Task (task_unit 1)) (scope 1) 17 1 Free None
          ∷ declaration (codes "c") (codes "main.c") (kind.Task (task_unit 2)) (scope 1) 18 1 Free None
          ∷ [];
      expressions =
          Known (Ticks (pos 10))
          ∷ [];
      statements =
          statement (form.CallMain) 0 None
          ∷ statement (form.Null) 0 None
          ∷ statement (form.Null) 0 (Some (stmt 1))
          ∷ statement (form.Null) 0 (Some (stmt 2))
          ∷ statement (form.Call (callee.Operation (decl 0) (subprogram 0)) [] destination.Nowhere) 0 None
          ∷ statement (form.EndActivation) 0 (Some (stmt 4))
          ∷ statement (form.Call (callee.Operation (decl 0) (subprogram 0)) [] destination.Nowhere) 0 None
          ∷ statement (form.Accept (entry 0) (scope 5)) 0 (Some (stmt 6))
          ∷ statement (form.EndActivation) 0 (Some (stmt 7))
          ∷ statement (form.EntryCall (entry 0) (owner.Object (decl 2)) []) 0 None
          ∷ statement (form.Delay (expr 0)) 0 (Some (stmt 9))
          ∷ statement (form.EndActivation) 0 (Some (stmt 10))
          ∷ statement (form.Null) 0 None
          ∷ statement (form.Activate 0) 0 (Some (stmt 12))
          ∷ statement (form.CreateTask (decl 3) 0) 0 (Some (stmt 13))
          ∷ statement (form.CreateTask (decl 2) 0) 0 (Some (stmt 14))
          ∷ statement (form.CreateTask (decl 1) 0) 0 (Some (stmt 15))
          ∷ statement (form.Declare (decl 0)) 0 (Some (stmt 16))
          ∷ [];
      scopes =
          scope_text None 0 [] false (Some (stmt 0))
          ∷ scope_text (Some (scope 0)) 19 [] true (Some (stmt 17))
          ∷ scope_text (Some (scope 1)) 0 [] false (Some (stmt 3))
          ∷ scope_text (Some (scope 1)) 0 [] false (Some (stmt 5))
          ∷ scope_text (Some (scope 1)) 0 [] false (Some (stmt 8))
          ∷ scope_text (Some (scope 4)) 0 [] false None
          ∷ scope_text (Some (scope 1)) 0 [] false (Some (stmt 11))
          ∷ [];
      subprograms =
          subprogram_text (codes "go") (scope 2) [] None (Some (protected_unit 0))
          ∷ [];
      task_units =
          task_unit_text (scope 3) (Some 10) None []
          ∷ task_unit_text (scope 4) (Some 10) None ((entry 0) ∷ [])
          ∷ task_unit_text (scope 6) (Some 20) None []
          ∷ [];
      protected_units =
          protected_unit_text 10 [] [] []
          ∷ [];
      entries =
          entry_text (codes "e") (unit.Task (task_unit 1)) 0 [] None
          ∷ [];
      controlled_types = [];
      enumerations = [];
      policies = (policies [] queuing.Fifo None 30);
      environment = (scope 0);
      main = (main_procedure (codes "main") 15 (scope 1));
    }

abbrev pub row_06_script : List (ℤ × Item)
row_06_script = []

-- the lines of its run up to tick 45
unfoldable pub row_06_lines : List (ℕ × Event)
row_06_lines = run_of row_06_program row_06_script 45

unfoldable pub row_06_trace : List (ℕ × Event)
row_06_trace =
    (0, line.New (created.Task (task 0)) (codes "main") 15)
    ∷ (0, line.Ready (t 0) 15 Tail None)
    ∷ (0, line.Run (t 0))
    ∷ (3, line.New (created.Object (p 1)) (codes "main.p") 10)
    ∷ (5, line.New (created.Task (task 1)) (codes "main.h") 10)
    ∷ (7, line.New (created.Task (task 2)) (codes "main.a") 10)
    ∷ (9, line.New (created.Task (task 3)) (codes "main.c") 20)
    ∷ (11, line.Ready (t 1) 15 Tail None)
    ∷ (11, line.Ready (t 2) 15 Tail None)
    ∷ (11, line.Ready (t 3) 20 Tail None)
    ∷ (11, line.Block (t 0) waits.Activation)
    ∷ (11, line.Run (t 3))
    ∷ (14, line.Block (t 3) waits.Delay)
    ∷ (14, line.Run (t 1))
    ∷ (15, line.Ready (t 1) 10 Head None)
    ∷ (15, line.Run (t 2))
    ∷ (16, line.Ready (t 0) 15 Tail None)
    ∷ (16, line.Ready (t 2) 10 Head None)
    ∷ (16, line.Run (t 0))
    ∷ (18, line.Leave (t 0) (region 1) leaves.End)
    ∷ (18, line.Block (t 0) waits.Dependents)
    ∷ (18, line.Run (t 2))
    ∷ (20, line.Block (t 2) waits.Accept)
    ∷ (20, line.Run (t 1))
    ∷ (22, line.Enter (t 1) (p 1) Write)
    ∷ (24, line.Ready (t 3) 20 Tail None)
    ∷ (24, line.Run (t 3))
    ∷ (26, line.Call (task 3) (call 1) (of_task 2 (codes "e")) 20)
    ∷ (26, line.Start (t 2) (call 1))
    ∷ (26, line.Ready (t 2) 20 Tail None)
    ∷ (26, line.Block (t 3) waits.Entry)
    ∷ (26, line.Run (t 2))
    ∷ (27, line.Finish (t 2) (call 1) finished.Ok)
    ∷ (27, line.Ready (t 3) 20 Tail None)
    ∷ (27, line.Ready (t 2) 10 Head None)
    ∷ (27, line.Run (t 3))
    ∷ (28, line.Done (task 3))
    ∷ (28, line.Run (t 2))
    ∷ (30, line.Held (t 2) (p 1) Write)
    ∷ (30, line.Ready (t 2) 10 Tail None)
    ∷ (30, line.Run (t 1))
    ∷ (33, line.Exit (t 1) (p 1))
    ∷ (34, line.Done (task 1))
    ∷ (34, line.Run (t 2))
    ∷ (36, line.Enter (t 2) (p 1) Write)
    ∷ (41, line.Exit (t 2) (p 1))
    ∷ (42, line.Done (task 2))
    ∷ (42, line.Ready (t 0) 15 Tail None)
    ∷ (42, line.Run (t 0))
    ∷ (43, line.Left (t 0) (region 1))
    ∷ (44, line.Done (task 0))
    ∷ (44, line.End end.Completed)
    ∷ []

pub row_06_runs : row_06_lines ≡ row_06_trace
unfolding row_06_lines row_06_trace digits computing
row_06_runs = refl

-- whether every world of its run is well formed
unfoldable pub row_06_worlds : Bool
row_06_worlds = run_is_well_formed row_06_program row_06_script 45

pub row_06_keeps : row_06_worlds ≡ true
unfolding row_06_worlds computing
row_06_keeps = refl

-- whether each handler is released at its tick
unfoldable pub row_06_handlers : Bool
row_06_handlers = releases_ok row_06_program row_06_script 45

pub row_06_releases : row_06_handlers ≡ true
unfolding row_06_handlers computing
row_06_releases = refl
