use Rattle.std.specs.Prelude.{◌≡◌, ℕ, ℤ, pos, negsuc, List, [], ◌∷◌, Some, None, true, false, codes, refl}
use Rattle.trace_text.specs.declared.events.Event.{Event}
use Rattle.trace_text.specs.declared.events.Event.TheVariants as line
use Rattle.trace_text.specs.declared.events.Created.TheVariants as created
use Rattle.trace_text.specs.declared.events.Ended.TheVariants as end
use Rattle.trace_text.specs.declared.events.Finished.TheVariants as finished
use Rattle.trace_text.specs.declared.events.Leaves.TheVariants as leaves
use Rattle.trace_text.specs.declared.events.Mode.TheVariants.{Read, Write}
use Rattle.trace_text.specs.declared.events.QueueEnd.TheVariants.{Head, Tail}
use Rattle.trace_text.specs.declared.events.Waits.TheVariants as waits
use Rattle.profile_image.specs.declared.script_items.Item.{Item}
use Rattle.profile_image.specs.declared.image.Image.{Image}
use Rattle.profile_image.specs.declared.image.Queuing.TheVariants as queuing
use Rattle.profile_image.specs.declared.values.Value.TheVariants.{Whole, Ticks}
use Rattle.profile_image.specs.declared.values.Constraint.TheVariants.{Free, Whole, Ticks}
use Rattle.profile_image.specs.declared.expressions.Expression.TheVariants.{Known}
use Rattle.profile_image.specs.declared.expressions.ObjectName.TheVariants.{Declared}
use Rattle.profile_image.specs.declared.declarations.DeclarationKind.TheVariants as kind
use Rattle.profile_image.specs.declared.declarations.Initial.TheVariants as initial
use Rattle.profile_image.specs.declared.declarations.EntryUnit.TheVariants as unit
use Rattle.profile_image.specs.declared.statements.StatementForm.TheVariants as form
use Rattle.profile_image.specs.declared.statements.Callee.TheVariants as callee
use Rattle.profile_image.specs.declared.statements.Destination.TheVariants as destination
use Rattle.profile_image.specs.declared.statements.EntryOwner.TheVariants as owner
use Rattle.profile_machine.specs.Notation.{decl, expr, stmt, scope, subprogram, task_unit, protected_unit, entry, task, call, p, region, t, of_task, declaration, variable, statement, scope_text, subprogram_text, task_unit_text, protected_unit_text, entry_text, policies, main_procedure}
use Rattle.profile_machine.specs.Run.{run_of}
use Rattle.profile_machine.specs.Computing.{computing}
use Rattle.std.specs.Fmt.{digits}
use Rattle.std.specs.Prelude.{Bool}
use Rattle.profile_machine.specs.WellFormed.{run_is_well_formed}
use Rattle.profile_machine.specs.Releases.{releases_ok}

-- Row protected.writer: its run stops before tick 43, so every greater bound gives the same trace.
abbrev pub row_protected_writer_program : Image
row_protected_writer_program =
    record {
      declarations =
          declaration (codes "p") (codes "main.p") (kind.Protected (protected_unit 0)) (scope 1) 0 16 Free None
          ∷ declaration (codes "h") (codes "main.h") (kind.Task (task_unit 0)) (scope 1) 16 1 Free None
          ∷ declaration (codes "a") (codes "main.a") (kind.Task (task_unit 1)) (scope 1) 17 1 Free None
          ∷ declaration (codes "c") (codes "main.c") (kind.Task (task_unit 2)) (scope 1) 18 1 Free None
          ∷ declaration (codes "n") (codes "main.a.n") (kind.Object initial.Default) (scope 5) 0 1 (Whole (negsuc 2147483647) (pos 2147483647)) None
          ∷ [];
      expressions =
          Known (Whole (pos 1))
          ∷ Known (Ticks (pos 9))
          ∷ [];
      statements =
          statement (form.CallMain) 0 None
          ∷ statement (form.ReturnValue (subprogram 0) (expr 0)) 0 None
          ∷ statement (form.Null) 0 None
          ∷ statement (form.Null) 0 (Some (stmt 2))
          ∷ statement (form.Call (callee.Operation (decl 0) (subprogram 1)) [] destination.Nowhere) 0 None
          ∷ statement (form.EndActivation) 0 (Some (stmt 4))
          ∷ statement (form.Call (callee.Operation (decl 0) (subprogram 0)) [] (destination.Variable (variable (Declared (decl 4)) None))) 0 None
          ∷ statement (form.Accept (entry 0) (scope 6)) 0 (Some (stmt 6))
          ∷ statement (form.EndActivation) 0 (Some (stmt 7))
          ∷ statement (form.Declare (decl 4)) 0 (Some (stmt 8))
          ∷ statement (form.EntryCall (entry 0) (owner.Object (decl 2)) []) 0 None
          ∷ statement (form.Delay (expr 1)) 0 (Some (stmt 10))
          ∷ statement (form.EndActivation) 0 (Some (stmt 11))
          ∷ statement (form.Null) 0 None
          ∷ statement (form.Activate 0) 0 (Some (stmt 13))
          ∷ statement (form.CreateTask (decl 3) 0) 0 (Some (stmt 14))
          ∷ statement (form.CreateTask (decl 2) 0) 0 (Some (stmt 15))
          ∷ statement (form.CreateTask (decl 1) 0) 0 (Some (stmt 16))
          ∷ statement (form.Declare (decl 0)) 0 (Some (stmt 17))
          ∷ [];
      scopes =
          scope_text None 0 [] false (Some (stmt 0))
          ∷ scope_text (Some (scope 0)) 19 [] true (Some (stmt 18))
          ∷ scope_text (Some (scope 1)) 1 [] false (Some (stmt 1))
          ∷ scope_text (Some (scope 1)) 0 [] false (Some (stmt 3))
          ∷ scope_text (Some (scope 1)) 0 [] false (Some (stmt 5))
          ∷ scope_text (Some (scope 1)) 1 [] false (Some (stmt 9))
          ∷ scope_text (Some (scope 5)) 0 [] false None
          ∷ scope_text (Some (scope 1)) 0 [] false (Some (stmt 12))
          ∷ [];
      subprograms =
          subprogram_text (codes "f") (scope 2) [] (Some (Whole (negsuc 2147483647) (pos 2147483647))) (Some (protected_unit 0))
          ∷ subprogram_text (codes "go") (scope 3) [] None (Some (protected_unit 0))
          ∷ [];
      task_units =
          task_unit_text (scope 4) (Some 10) None []
          ∷ task_unit_text (scope 5) (Some 10) None ((entry 0) ∷ [])
          ∷ task_unit_text (scope 7) (Some 20) None []
          ∷ [];
      protected_units =
          protected_unit_text 10 [] [] []
          ∷ [];
      entries =
          entry_text (codes "e") (unit.Task (task_unit 1)) 0 [] None
          ∷ [];
      controlled_types = [];
      enumerations = [];
      policies = (policies [] queuing.Fifo None 30);
      environment = (scope 0);
      main = (main_procedure (codes "main") 15 (scope 1));
    }

abbrev pub row_protected_writer_script : List (ℤ × Item)
row_protected_writer_script = []

-- the lines of its run up to tick 43
unfoldable pub row_protected_writer_lines : List (ℕ × Event)
row_protected_writer_lines = run_of row_protected_writer_program row_protected_writer_script 43

unfoldable pub row_protected_writer_trace : List (ℕ × Event)
row_protected_writer_trace =
    (0, line.New (created.Task (task 0)) (codes "main") 15)
    ∷ (0, line.Ready (t 0) 15 Tail None)
    ∷ (0, line.Run (t 0))
    ∷ (3, line.New (created.Object (p 1)) (codes "main.p") 10)
    ∷ (5, line.New (created.Task (task 1)) (codes "main.h") 10)
    ∷ (7, line.New (created.Task (task 2)) (codes "main.a") 10)
    ∷ (9, line.New (created.Task (task 3)) (codes "main.c") 20)
    ∷ (11, line.Ready (t 1) 15 Tail None)
    ∷ (11, line.Ready (t 2) 15 Tail None)
    ∷ (11, line.Ready (t 3) 20 Tail None)
    ∷ (11, line.Block (t 0) waits.Activation)
    ∷ (11, line.Run (t 3))
    ∷ (14, line.Block (t 3) waits.Delay)
    ∷ (14, line.Run (t 1))
    ∷ (15, line.Ready (t 1) 10 Head None)
    ∷ (15, line.Run (t 2))
    ∷ (17, line.Ready (t 0) 15 Tail None)
    ∷ (17, line.Ready (t 2) 10 Head None)
    ∷ (17, line.Run (t 0))
    ∷ (19, line.Leave (t 0) (region 1) leaves.End)
    ∷ (19, line.Block (t 0) waits.Dependents)
    ∷ (19, line.Run (t 2))
    ∷ (21, line.Block (t 2) waits.Accept)
    ∷ (21, line.Run (t 1))
    ∷ (23, line.Enter (t 1) (p 1) Write)
    ∷ (23, line.Ready (t 3) 20 Tail None)
    ∷ (23, line.Run (t 3))
    ∷ (25, line.Call (task 3) (call 1) (of_task 2 (codes "e")) 20)
    ∷ (25, line.Start (t 2) (call 1))
    ∷ (25, line.Ready (t 2) 20 Tail None)
    ∷ (25, line.Block (t 3) waits.Entry)
    ∷ (25, line.Run (t 2))
    ∷ (26, line.Finish (t 2) (call 1) finished.Ok)
    ∷ (26, line.Ready (t 3) 20 Tail None)
    ∷ (26, line.Ready (t 2) 10 Head None)
    ∷ (26, line.Run (t 3))
    ∷ (27, line.Done (task 3))
    ∷ (27, line.Run (t 2))
    ∷ (29, line.Held (t 2) (p 1) Read)
    ∷ (29, line.Ready (t 2) 10 Tail None)
    ∷ (29, line.Run (t 1))
    ∷ (33, line.Exit (t 1) (p 1))
    ∷ (34, line.Done (task 1))
    ∷ (34, line.Run (t 2))
    ∷ (36, line.Enter (t 2) (p 1) Read)
    ∷ (39, line.Exit (t 2) (p 1))
    ∷ (40, line.Done (task 2))
    ∷ (40, line.Ready (t 0) 15 Tail None)
    ∷ (40, line.Run (t 0))
    ∷ (41, line.Left (t 0) (region 1))
    ∷ (42, line.Done (task 0))
    ∷ (42, line.End end.Completed)
    ∷ []

pub row_protected_writer_runs : row_protected_writer_lines ≡ row_protected_writer_trace
unfolding row_protected_writer_lines row_protected_writer_trace digits computing
row_protected_writer_runs = refl

-- whether every world of its run is well formed
unfoldable pub row_protected_writer_worlds : Bool
row_protected_writer_worlds = run_is_well_formed row_protected_writer_program row_protected_writer_script 43

pub row_protected_writer_keeps : row_protected_writer_worlds ≡ true
unfolding row_protected_writer_worlds computing
row_protected_writer_keeps = refl

-- whether each handler is released at its tick
unfoldable pub row_protected_writer_handlers : Bool
row_protected_writer_handlers = releases_ok row_protected_writer_program row_protected_writer_script 43

pub row_protected_writer_releases : row_protected_writer_handlers ≡ true
unfolding row_protected_writer_handlers computing
row_protected_writer_releases = refl
