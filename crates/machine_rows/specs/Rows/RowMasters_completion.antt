use Rattle.std.specs.Prelude.{◌≡◌, ℕ, ℤ, pos, List, [], ◌∷◌, Some, None, true, false, codes, refl}
use Rattle.trace_text.specs.declared.events.Event.{Event}
use Rattle.trace_text.specs.declared.events.Event.TheVariants as line
use Rattle.trace_text.specs.declared.events.Created.TheVariants as created
use Rattle.trace_text.specs.declared.events.Ended.TheVariants as end
use Rattle.trace_text.specs.declared.events.Finished.TheVariants as finished
use Rattle.trace_text.specs.declared.events.Leaves.TheVariants as leaves
use Rattle.trace_text.specs.declared.events.Mode.TheVariants.{Write}
use Rattle.trace_text.specs.declared.events.QueueEnd.TheVariants.{Head, Tail}
use Rattle.trace_text.specs.declared.events.Waits.TheVariants as waits
use Rattle.profile_image.specs.declared.script_items.Item.{Item}
use Rattle.profile_image.specs.declared.image.Image.{Image}
use Rattle.profile_image.specs.declared.image.Queuing.TheVariants as queuing
use Rattle.profile_image.specs.declared.values.Value.TheVariants.{Truth, Ticks}
use Rattle.profile_image.specs.declared.values.Constraint.TheVariants.{Free, Truth, Ticks}
use Rattle.profile_image.specs.declared.expressions.Expression.TheVariants.{Known}
use Rattle.profile_image.specs.declared.declarations.DeclarationKind.TheVariants as kind
use Rattle.profile_image.specs.declared.declarations.EntryUnit.TheVariants as unit
use Rattle.profile_image.specs.declared.declarations.ExceptionChoice.TheVariants as exception_choice
use Rattle.profile_image.specs.declared.statements.StatementForm.TheVariants as form
use Rattle.profile_image.specs.declared.statements.Callee.TheVariants as callee
use Rattle.profile_image.specs.declared.statements.Destination.TheVariants as destination
use Rattle.profile_image.specs.declared.statements.EntryOwner.TheVariants as owner
use Rattle.profile_machine.specs.Notation.{decl, expr, stmt, scope, subprogram, task_unit, protected_unit, entry, controlled_type, task, call, p, region, t, of_task, of_object, declaration, statement, handler, scope_text, subprogram_text, task_unit_text, protected_unit_text, entry_body, entry_text, controlled_text, policies, main_procedure}
use Rattle.profile_machine.specs.Run.{run_of}
use Rattle.profile_machine.specs.Computing.{computing}
use Rattle.std.specs.Fmt.{digits}
use Rattle.std.specs.Prelude.{Bool}
use Rattle.profile_machine.specs.WellFormed.{run_is_well_formed}
use Rattle.profile_machine.specs.Releases.{releases_ok}

-- Row masters.completion: its run stops before tick 56, so every greater bound gives the same trace.
abbrev pub row_masters_completion_program : Image
row_masters_completion_program =
    record {
      declarations =
          declaration (codes "o") (codes "main.o") (kind.Protected (protected_unit 0)) (scope 1) 0 16 Free None
          ∷ declaration (codes "t") (codes "main.t") (kind.Task (task_unit 0)) (scope 1) 16 1 Free None
          ∷ declaration (codes "a") (codes "main.o.e.a") (kind.Controlled (controlled_type 0)) (scope 2) 0 1 Free None
          ∷ declaration (codes "a") (codes "main.p.a") (kind.Controlled (controlled_type 0)) (scope 3) 0 1 Free None
          ∷ declaration (codes "j") (codes "main.t.j") (kind.Task (task_unit 1)) (scope 4) 0 1 Free None
          ∷ [];
      expressions =
          Known (Ticks (pos 36))
          ∷ Known (Truth true)
          ∷ [];
      statements =
          statement (form.CallMain) 0 None
          ∷ statement (form.Null) 0 None
          ∷ statement (form.Initialize (decl 2)) 0 (Some (stmt 1))
          ∷ statement (form.Declare (decl 2)) 0 (Some (stmt 2))
          ∷ statement (form.Null) 0 None
          ∷ statement (form.Initialize (decl 3)) 0 (Some (stmt 4))
          ∷ statement (form.Declare (decl 3)) 0 (Some (stmt 5))
          ∷ statement (form.Delay (expr 0)) 0 None
          ∷ statement (form.EndActivation) 0 (Some (stmt 7))
          ∷ statement (form.Accept (entry 1) (scope 6)) 0 None
          ∷ statement (form.EntryCall (entry 0) (owner.Object (decl 0)) []) 0 (Some (stmt 9))
          ∷ statement (form.Call (callee.Subprogram (subprogram 0)) [] destination.Nowhere) 0 (Some (stmt 10))
          ∷ statement (form.Activate 0) 0 (Some (stmt 11))
          ∷ statement (form.EndActivation) 0 (Some (stmt 12))
          ∷ statement (form.CreateTask (decl 4) 0) 0 (Some (stmt 13))
          ∷ statement (form.Handled (handler (exception_choice.Others ∷ []) (stmt 19) ∷ []) (stmt 18)) 0 None
          ∷ statement (form.EntryCall (entry 2) (owner.Object (decl 1)) []) 0 None
          ∷ statement (form.EntryCall (entry 1) (owner.Object (decl 1)) []) 0 (Some (stmt 16))
          ∷ statement (form.Activate 0) 0 (Some (stmt 17))
          ∷ statement (form.Null) 0 None
          ∷ statement (form.CreateTask (decl 1) 0) 0 (Some (stmt 15))
          ∷ statement (form.Declare (decl 0)) 0 (Some (stmt 20))
          ∷ [];
      scopes =
          scope_text None 0 [] false (Some (stmt 0))
          ∷ scope_text (Some (scope 0)) 17 [] true (Some (stmt 21))
          ∷ scope_text (Some (scope 1)) 1 [] true (Some (stmt 3))
          ∷ scope_text (Some (scope 1)) 1 [] true (Some (stmt 6))
          ∷ scope_text (Some (scope 1)) 1 [] true (Some (stmt 14))
          ∷ scope_text (Some (scope 4)) 0 [] false (Some (stmt 8))
          ∷ scope_text (Some (scope 4)) 0 [] false None
          ∷ [];
      subprograms =
          subprogram_text (codes "p") (scope 3) [] None None
          ∷ [];
      task_units =
          task_unit_text (scope 4) (Some 20) None ((entry 1) ∷ (entry 2) ∷ [])
          ∷ task_unit_text (scope 5) None None []
          ∷ [];
      protected_units =
          protected_unit_text 30 ((entry 0) ∷ []) [] []
          ∷ [];
      entries =
          entry_text (codes "e") (unit.Protected (protected_unit 0)) 0 [] (Some (entry_body (expr 1) (scope 2)))
          ∷ entry_text (codes "e") (unit.Task (task_unit 0)) 0 [] None
          ∷ entry_text (codes "f") (unit.Task (task_unit 0)) 1 [] None
          ∷ [];
      controlled_types =
          controlled_text [] None None None
          ∷ [];
      enumerations = [];
      policies = (policies [] queuing.Fifo None 30);
      environment = (scope 0);
      main = (main_procedure (codes "main") 15 (scope 1));
    }

abbrev pub row_masters_completion_script : List (ℤ × Item)
row_masters_completion_script = []

-- the lines of its run up to tick 56
unfoldable pub row_masters_completion_lines : List (ℕ × Event)
row_masters_completion_lines = run_of row_masters_completion_program row_masters_completion_script 56

unfoldable pub row_masters_completion_trace : List (ℕ × Event)
row_masters_completion_trace =
    (0, line.New (created.Task (task 0)) (codes "main") 15)
    ∷ (0, line.Ready (t 0) 15 Tail None)
    ∷ (0, line.Run (t 0))
    ∷ (3, line.New (created.Object (p 1)) (codes "main.o") 30)
    ∷ (5, line.New (created.Task (task 1)) (codes "main.t") 20)
    ∷ (7, line.Ready (t 1) 20 Tail None)
    ∷ (7, line.Block (t 0) waits.Activation)
    ∷ (7, line.Run (t 1))
    ∷ (9, line.New (created.Task (task 2)) (codes "main.t.j") 20)
    ∷ (10, line.Ready (t 0) 15 Tail None)
    ∷ (12, line.Ready (t 2) 20 Tail None)
    ∷ (12, line.Block (t 1) waits.Activation)
    ∷ (12, line.Run (t 2))
    ∷ (13, line.Ready (t 1) 20 Tail None)
    ∷ (15, line.Block (t 2) waits.Delay)
    ∷ (15, line.Run (t 1))
    ∷ (20, line.Init (t 1) 1 (region 3) (codes "a"))
    ∷ (22, line.Leave (t 1) (region 3) leaves.End)
    ∷ (24, line.Final (t 1) 1)
    ∷ (25, line.Left (t 1) (region 3))
    ∷ (27, line.Call (task 1) (call 1) (of_object 1 (codes "e")) 20)
    ∷ (27, line.Enter (t 1) (p 1) Write)
    ∷ (27, line.Start (t 1) (call 1))
    ∷ (27, line.Ready (t 1) 30 Head None)
    ∷ (30, line.Init (t 1) 2 (region 4) (codes "a"))
    ∷ (32, line.Leave (t 1) (region 4) leaves.End)
    ∷ (34, line.Final (t 1) 2)
    ∷ (35, line.Left (t 1) (region 4))
    ∷ (36, line.Finish (t 1) (call 1) finished.Ok)
    ∷ (36, line.Exit (t 1) (p 1))
    ∷ (36, line.Ready (t 1) 20 Head None)
    ∷ (38, line.Block (t 1) waits.Accept)
    ∷ (38, line.Run (t 0))
    ∷ (40, line.Call (task 0) (call 2) (of_task 1 (codes "e")) 15)
    ∷ (40, line.Start (t 1) (call 2))
    ∷ (40, line.Ready (t 1) 20 Tail None)
    ∷ (40, line.Block (t 0) waits.Entry)
    ∷ (40, line.Run (t 1))
    ∷ (41, line.Finish (t 1) (call 2) finished.Ok)
    ∷ (41, line.Ready (t 0) 15 Tail None)
    ∷ (42, line.Leave (t 1) (region 2) leaves.End)
    ∷ (42, line.Block (t 1) waits.Dependents)
    ∷ (42, line.Run (t 0))
    ∷ (44, line.Call (task 0) (call 3) (of_task 1 (codes "f")) 15)
    ∷ (44, line.Gone (task 0) (call 3))
    ∷ (44, line.Raise (t 0) (codes "tasking_error"))
    ∷ (47, line.Leave (t 0) (region 1) leaves.End)
    ∷ (47, line.Block (t 0) waits.Dependents)
    ∷ (47, line.Idle)
    ∷ (51, line.Ready (t 2) 20 Tail None)
    ∷ (51, line.Run (t 2))
    ∷ (52, line.Done (task 2))
    ∷ (52, line.Ready (t 1) 20 Tail None)
    ∷ (52, line.Run (t 1))
    ∷ (53, line.Left (t 1) (region 2))
    ∷ (53, line.Done (task 1))
    ∷ (53, line.Ready (t 0) 15 Tail None)
    ∷ (53, line.Run (t 0))
    ∷ (54, line.Left (t 0) (region 1))
    ∷ (55, line.Done (task 0))
    ∷ (55, line.End end.Completed)
    ∷ []

pub row_masters_completion_runs : row_masters_completion_lines ≡ row_masters_completion_trace
unfolding row_masters_completion_lines row_masters_completion_trace digits computing
row_masters_completion_runs = refl

-- whether every world of its run is well formed
unfoldable pub row_masters_completion_worlds : Bool
row_masters_completion_worlds = run_is_well_formed row_masters_completion_program row_masters_completion_script 56

pub row_masters_completion_keeps : row_masters_completion_worlds ≡ true
unfolding row_masters_completion_worlds computing
row_masters_completion_keeps = refl

-- whether each handler is released at its tick
unfoldable pub row_masters_completion_handlers : Bool
row_masters_completion_handlers = releases_ok row_masters_completion_program row_masters_completion_script 56

pub row_masters_completion_releases : row_masters_completion_handlers ≡ true
unfolding row_masters_completion_handlers computing
row_masters_completion_releases = refl
