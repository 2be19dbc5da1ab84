use Rattle.std.specs.Prelude.{◌≡◌, ℕ, ℤ, pos, List, [], ◌∷◌, Some, None, true, false, codes, refl}
use Rattle.ann_base.specs.declared.exceptions.Raised.TheVariants as exception
use Rattle.trace_text.specs.declared.events.Event.{Event}
use Rattle.trace_text.specs.declared.events.Event.TheVariants as line
use Rattle.trace_text.specs.declared.events.Created.TheVariants as created
use Rattle.trace_text.specs.declared.events.Ended.TheVariants as end
use Rattle.trace_text.specs.declared.events.Finished.TheVariants as finished
use Rattle.trace_text.specs.declared.events.Leaves.TheVariants as leaves
use Rattle.trace_text.specs.declared.events.Mode.TheVariants.{Write}
use Rattle.trace_text.specs.declared.events.QueueEnd.TheVariants.{Head, Tail}
use Rattle.trace_text.specs.declared.events.Waits.TheVariants as waits
use Rattle.profile_image.specs.declared.script_items.Item.{Item}
use Rattle.profile_image.specs.declared.image.Image.{Image}
use Rattle.profile_image.specs.declared.image.Queuing.TheVariants as queuing
use Rattle.profile_image.specs.declared.values.Value.TheVariants.{Whole, Truth, Ticks}
use Rattle.profile_image.specs.declared.values.Constraint.TheVariants.{Free, Whole, Truth, Ticks}
use Rattle.profile_image.specs.declared.expressions.Expression.TheVariants.{Known}
use Rattle.profile_image.specs.declared.declarations.DeclarationKind.TheVariants as kind
use Rattle.profile_image.specs.declared.declarations.EntryUnit.TheVariants as unit
use Rattle.profile_image.specs.declared.declarations.ExceptionChoice.TheVariants as exception_choice
use Rattle.profile_image.specs.declared.statements.StatementForm.TheVariants as form
use Rattle.profile_image.specs.declared.statements.Callee.TheVariants as callee
use Rattle.profile_image.specs.declared.statements.Destination.TheVariants as destination
use Rattle.profile_image.specs.declared.statements.EntryOwner.TheVariants as owner
use Rattle.profile_machine.specs.Notation.{decl, expr, stmt, scope, subprogram, task_unit, protected_unit, entry, controlled_type, task, call, p, region, t, of_object, declaration, statement, handler, scope_text, formal, subprogram_text, task_unit_text, protected_unit_text, entry_body, entry_text, controlled_text, policies, main_procedure}
use Rattle.profile_machine.specs.Run.{run_of}
use Rattle.profile_machine.specs.Computing.{computing}
use Rattle.std.specs.Fmt.{digits}
use Rattle.std.specs.Prelude.{Bool}
use Rattle.profile_machine.specs.WellFormed.{run_is_well_formed}
use Rattle.profile_machine.specs.Releases.{releases_ok}

-- Row bodies.left: its run stops before tick 57, so every greater bound gives the same trace.
abbrev pub row_bodies_left_program : Image
row_bodies_left_program =
    record {
      declarations =
          declaration (codes "o") (codes "pk.o") kind.Parameter (scope 1) 0 1 Free None
          ∷ declaration (codes "t") (codes "main.t") (kind.Task (task_unit 0)) (scope 2) 0 1 Free None
          ∷ declaration (codes "u") (codes "main.u") (kind.Task (task_unit 1)) (scope 2) 1 1 Free None
          ∷ declaration (codes "o") (codes "main.o") (kind.Protected (protected_unit 0)) (scope 2) 2 16 Free None
          ∷ declaration (codes "a") (codes "main.a") (kind.Controlled (controlled_type 0)) (scope 10) 0 1 Free None
          ∷ [];
      expressions =
          Known (Ticks (pos 1000000))
          ∷ Known (Truth true)
          ∷ [];
      statements =
          statement (form.CallMain) 0 None
          ∷ statement (form.Loop (stmt 2) None) 0 None
          ∷ statement (form.Block (scope 4)) 0 (Some (stmt 1))
          ∷ statement (form.Exit None (stmt 1)) 0 None
          ∷ statement (form.Handled (handler (exception_choice.Others ∷ []) (stmt 9) ∷ []) (stmt 5)) 0 None
          ∷ statement (form.Block (scope 6)) 0 None
          ∷ statement (form.Handled (handler (exception_choice.Others ∷ []) (stmt 8) ∷ []) (stmt 7)) 0 None
          ∷ statement (form.Delay (expr 0)) 0 None
          ∷ statement (form.Null) 0 None
          ∷ statement (form.Null) 0 None
          ∷ statement (form.EndActivation) 0 (Some (stmt 4))
          ∷ statement (form.Return) 0 None
          ∷ statement (form.EntryCall (entry 0) (owner.Object (decl 3)) []) 0 (Some (stmt 11))
          ∷ statement (form.EndActivation) 0 (Some (stmt 12))
          ∷ statement (form.Handled (handler (exception_choice.Others ∷ []) (stmt 20) ∷ []) (stmt 16)) 0 None
          ∷ statement (form.Null) 0 None
          ∷ statement (form.Block (scope 9)) 0 (Some (stmt 15))
          ∷ statement (form.Handled (handler (exception_choice.Others ∷ []) (stmt 19) ∷ []) (stmt 18)) 0 None
          ∷ statement (form.Return) 0 None
          ∷ statement (form.Null) 0 None
          ∷ statement (form.Null) 0 None
          ∷ statement (form.Handled (handler (exception_choice.Named exception.Program ∷ []) (stmt 30) ∷ []) (stmt 29)) 0 None
          ∷ statement (form.Loop (stmt 23) (Some (stmt 21))) 0 None
          ∷ statement (form.Block (scope 10)) 0 (Some (stmt 22))
          ∷ statement (form.Exit None (stmt 22)) 0 None
          ∷ statement (form.Initialize (decl 4)) 0 (Some (stmt 24))
          ∷ statement (form.Declare (decl 4)) 0 (Some (stmt 25))
          ∷ statement (form.Abort ((decl 1) ∷ [])) 0 (Some (stmt 22))
          ∷ statement (form.Call (callee.Subprogram (subprogram 1)) [] destination.Nowhere) 0 (Some (stmt 27))
          ∷ statement (form.Activate 0) 0 (Some (stmt 28))
          ∷ statement (form.Null) 0 None
          ∷ statement (form.Declare (decl 3)) 0 (Some (stmt 21))
          ∷ statement (form.CreateTask (decl 2) 0) 0 (Some (stmt 31))
          ∷ statement (form.CreateTask (decl 1) 0) 0 (Some (stmt 32))
          ∷ statement (form.Raise exception.Storage) 0 None
          ∷ [];
      scopes =
          scope_text None 0 [] false (Some (stmt 0))
          ∷ scope_text (Some (scope 0)) 1 [] false (Some (stmt 34))
          ∷ scope_text (Some (scope 0)) 18 [] true (Some (stmt 33))
          ∷ scope_text (Some (scope 2)) 0 [] false (Some (stmt 1))
          ∷ scope_text (Some (scope 3)) 0 [] false (Some (stmt 3))
          ∷ scope_text (Some (scope 2)) 0 [] false (Some (stmt 10))
          ∷ scope_text (Some (scope 5)) 0 [] false (Some (stmt 6))
          ∷ scope_text (Some (scope 2)) 0 [] false (Some (stmt 13))
          ∷ scope_text (Some (scope 2)) 0 [] false (Some (stmt 14))
          ∷ scope_text (Some (scope 8)) 0 [] false (Some (stmt 17))
          ∷ scope_text (Some (scope 2)) 1 [] true (Some (stmt 26))
          ∷ [];
      subprograms =
          subprogram_text (codes "finalize") (scope 1) (formal Free (Whole (pos 0)) ∷ []) None None
          ∷ subprogram_text (codes "p") (scope 8) [] None None
          ∷ [];
      task_units =
          task_unit_text (scope 5) (Some 20) None []
          ∷ task_unit_text (scope 7) (Some 20) None []
          ∷ [];
      protected_units =
          protected_unit_text 30 ((entry 0) ∷ []) [] []
          ∷ [];
      entries =
          entry_text (codes "e") (unit.Protected (protected_unit 0)) 0 [] (Some (entry_body (expr 1) (scope 3)))
          ∷ [];
      controlled_types =
          controlled_text [] None (Some (subprogram 0)) None
          ∷ [];
      enumerations = [];
      policies = (policies [] queuing.Fifo None 30);
      environment = (scope 0);
      main = (main_procedure (codes "main") 15 (scope 2));
    }

abbrev pub row_bodies_left_script : List (ℤ × Item)
row_bodies_left_script = []

-- the lines of its run up to tick 57
unfoldable pub row_bodies_left_lines : List (ℕ × Event)
row_bodies_left_lines = run_of row_bodies_left_program row_bodies_left_script 57

unfoldable pub row_bodies_left_trace : List (ℕ × Event)
row_bodies_left_trace =
    (0, line.New (created.Task (task 0)) (codes "main") 15)
    ∷ (0, line.Ready (t 0) 15 Tail None)
    ∷ (0, line.Run (t 0))
    ∷ (4, line.New (created.Task (task 1)) (codes "main.t") 20)
    ∷ (6, line.New (created.Task (task 2)) (codes "main.u") 20)
    ∷ (7, line.New (created.Object (p 1)) (codes "main.o") 30)
    ∷ (9, line.Ready (t 1) 20 Tail None)
    ∷ (9, line.Ready (t 2) 20 Tail None)
    ∷ (9, line.Block (t 0) waits.Activation)
    ∷ (9, line.Run (t 1))
    ∷ (13, line.Block (t 1) waits.Delay)
    ∷ (13, line.Run (t 2))
    ∷ (14, line.Ready (t 0) 15 Tail None)
    ∷ (16, line.Call (task 2) (call 1) (of_object 1 (codes "e")) 20)
    ∷ (16, line.Enter (t 2) (p 1) Write)
    ∷ (16, line.Start (t 2) (call 1))
    ∷ (16, line.Ready (t 2) 30 Head None)
    ∷ (22, line.Finish (t 2) (call 1) finished.Ok)
    ∷ (22, line.Exit (t 2) (p 1))
    ∷ (22, line.Ready (t 2) 20 Head None)
    ∷ (24, line.Done (task 2))
    ∷ (24, line.Run (t 0))
    ∷ (34, line.Abort (task 0) (task 1))
    ∷ (34, line.Ready (t 1) 20 Tail None)
    ∷ (34, line.Run (t 1))
    ∷ (38, line.Done (task 1))
    ∷ (38, line.Run (t 0))
    ∷ (43, line.Init (t 0) 1 (region 2) (codes "a"))
    ∷ (45, line.Leave (t 0) (region 2) leaves.Exit)
    ∷ (47, line.Final (t 0) 1)
    ∷ (48, line.Raise (t 0) (codes "storage_error"))
    ∷ (51, line.Left (t 0) (region 2))
    ∷ (51, line.Raise (t 0) (codes "program_error"))
    ∷ (54, line.Leave (t 0) (region 1) leaves.End)
    ∷ (55, line.Left (t 0) (region 1))
    ∷ (56, line.Done (task 0))
    ∷ (56, line.End end.Completed)
    ∷ []

pub row_bodies_left_runs : row_bodies_left_lines ≡ row_bodies_left_trace
unfolding row_bodies_left_lines row_bodies_left_trace digits computing
row_bodies_left_runs = refl

-- whether every world of its run is well formed
unfoldable pub row_bodies_left_worlds : Bool
row_bodies_left_worlds = run_is_well_formed row_bodies_left_program row_bodies_left_script 57

pub row_bodies_left_keeps : row_bodies_left_worlds ≡ true
unfolding row_bodies_left_worlds computing
row_bodies_left_keeps = refl

-- whether each handler is released at its tick
unfoldable pub row_bodies_left_handlers : Bool
row_bodies_left_handlers = releases_ok row_bodies_left_program row_bodies_left_script 57

pub row_bodies_left_releases : row_bodies_left_handlers ≡ true
unfolding row_bodies_left_handlers computing
row_bodies_left_releases = refl
