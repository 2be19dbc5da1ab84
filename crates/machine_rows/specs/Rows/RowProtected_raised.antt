use Rattle.std.specs.Prelude.{◌≡◌, ℕ, ℤ, pos, negsuc, List, [], ◌∷◌, Some, None, true, false, codes, refl}
use Rattle.ann_base.specs.declared.exceptions.Raised.TheVariants as exception
use Rattle.trace_text.specs.declared.events.Event.{Event}
use Rattle.trace_text.specs.declared.events.Event.TheVariants as line
use Rattle.trace_text.specs.declared.events.Created.TheVariants as created
use Rattle.trace_text.specs.declared.events.Ended.TheVariants as end
use Rattle.trace_text.specs.declared.events.Finished.TheVariants as finished
use Rattle.trace_text.specs.declared.events.Leaves.TheVariants as leaves
use Rattle.trace_text.specs.declared.events.Mode.TheVariants.{Write}
use Rattle.trace_text.specs.declared.events.QueueEnd.TheVariants.{Head, Tail}
use Rattle.trace_text.specs.declared.events.Waits.TheVariants as waits
use Rattle.profile_image.specs.declared.script_items.Item.{Item}
use Rattle.profile_image.specs.declared.image.Image.{Image}
use Rattle.profile_image.specs.declared.image.Queuing.TheVariants as queuing
use Rattle.profile_image.specs.declared.values.Value.TheVariants.{Whole, Truth}
use Rattle.profile_image.specs.declared.values.Constraint.TheVariants.{Free, Whole, Truth}
use Rattle.profile_image.specs.declared.expressions.Expression.TheVariants.{Known, Variable, Binary}
use Rattle.profile_image.specs.declared.expressions.ObjectName.TheVariants.{OwnComponent}
use Rattle.profile_image.specs.declared.expressions.BinaryOperator.TheVariants as binary
use Rattle.profile_image.specs.declared.declarations.DeclarationKind.TheVariants as kind
use Rattle.profile_image.specs.declared.declarations.Initial.TheVariants as initial
use Rattle.profile_image.specs.declared.declarations.EntryUnit.TheVariants as unit
use Rattle.profile_image.specs.declared.declarations.ExceptionChoice.TheVariants as exception_choice
use Rattle.profile_image.specs.declared.statements.StatementForm.TheVariants as form
use Rattle.profile_image.specs.declared.statements.Callee.TheVariants as callee
use Rattle.profile_image.specs.declared.statements.Destination.TheVariants as destination
use Rattle.profile_image.specs.declared.statements.EntryOwner.TheVariants as owner
use Rattle.profile_machine.specs.Notation.{decl, expr, stmt, scope, subprogram, task_unit, protected_unit, entry, task, call, p, region, t, of_object, declaration, variable, statement, handler, cell_run, scope_text, subprogram_text, task_unit_text, protected_unit_text, entry_body, entry_text, policies, main_procedure}
use Rattle.profile_machine.specs.Run.{run_of}
use Rattle.profile_machine.specs.Computing.{computing}
use Rattle.std.specs.Fmt.{digits}
use Rattle.std.specs.Prelude.{Bool}
use Rattle.profile_machine.specs.WellFormed.{run_is_well_formed}
use Rattle.profile_machine.specs.Releases.{releases_ok}

-- Row protected.raised: its run stops before tick 62, so every greater bound gives the same trace.
abbrev pub row_protected_raised_program : Image
row_protected_raised_program =
    record {
      declarations =
          declaration (codes "b") (codes "main.gate.b") (kind.Object (initial.Scalar (expr 8))) (scope 0) 0 1 (Truth false true) None
          ∷ declaration (codes "n") (codes "main.gate.n") (kind.Object (initial.Scalar (expr 9))) (scope 0) 1 1 (Whole (negsuc 2147483647) (pos 2147483647)) None
          ∷ declaration (codes "o") (codes "main.o") (kind.Protected (protected_unit 0)) (scope 1) 0 18 Free None
          ∷ declaration (codes "a") (codes "main.a") (kind.Task (task_unit 0)) (scope 1) 18 1 Free None
          ∷ declaration (codes "b") (codes "main.b") (kind.Task (task_unit 1)) (scope 1) 19 1 Free None
          ∷ declaration (codes "c") (codes "main.c") (kind.Task (task_unit 2)) (scope 1) 20 1 Free None
          ∷ [];
      expressions =
          Variable (variable (OwnComponent (protected_unit 0) (decl 1)) None)
          ∷ Known (Whole (pos 2))
          ∷ Binary binary.Equal (expr 0) (expr 1)
          ∷ Variable (variable (OwnComponent (protected_unit 0) (decl 1)) None)
          ∷ Known (Whole (pos 1))
          ∷ Binary binary.Plus (expr 3) (expr 4)
          ∷ Known (Truth true)
          ∷ Variable (variable (OwnComponent (protected_unit 0) (decl 0)) None)
          ∷ Known (Truth false)
          ∷ Known (Whole (pos 0))
          ∷ [];
      statements =
          statement (form.CallMain) 0 None
          ∷ statement (form.Raise exception.Storage) 0 None
          ∷ statement (form.If (expr 2) (stmt 1) None) 1 None
          ∷ statement (form.Assign (variable (OwnComponent (protected_unit 0) (decl 1)) None) (expr 5)) 1 (Some (stmt 2))
          ∷ statement (form.Raise exception.Constraint) 0 None
          ∷ statement (form.Assign (variable (OwnComponent (protected_unit 0) (decl 0)) None) (expr 6)) 0 (Some (stmt 4))
          ∷ statement (form.Call (callee.Operation (decl 2) (subprogram 0)) [] destination.Nowhere) 0 None
          ∷ statement (form.EntryCall (entry 0) (owner.Object (decl 2)) []) 0 None
          ∷ statement (form.EndActivation) 0 (Some (stmt 7))
          ∷ statement (form.EntryCall (entry 0) (owner.Object (decl 2)) []) 0 None
          ∷ statement (form.EndActivation) 0 (Some (stmt 9))
          ∷ statement (form.EntryCall (entry 0) (owner.Object (decl 2)) []) 0 None
          ∷ statement (form.EndActivation) 0 (Some (stmt 11))
          ∷ statement (form.Call (callee.Operation (decl 2) (subprogram 1)) [] destination.Nowhere) 0 None
          ∷ statement (form.Block (scope 8)) 0 (Some (stmt 13))
          ∷ statement (form.Handled (handler (exception_choice.Named exception.Constraint ∷ []) (stmt 17) ∷ []) (stmt 16)) 0 None
          ∷ statement (form.Call (callee.Operation (decl 2) (subprogram 0)) [] destination.Nowhere) 0 None
          ∷ statement (form.Null) 0 None
          ∷ statement (form.Activate 0) 0 (Some (stmt 14))
          ∷ statement (form.CreateTask (decl 5) 0) 0 (Some (stmt 18))
          ∷ statement (form.CreateTask (decl 4) 0) 0 (Some (stmt 19))
          ∷ statement (form.CreateTask (decl 3) 0) 0 (Some (stmt 20))
          ∷ statement (form.Declare (decl 2)) 0 (Some (stmt 21))
          ∷ [];
      scopes =
          scope_text None 0 [] false (Some (stmt 0))
          ∷ scope_text (Some (scope 0)) 21 (cell_run 16 1 (Truth false) ∷ []) true (Some (stmt 22))
          ∷ scope_text (Some (scope 1)) 0 [] false (Some (stmt 3))
          ∷ scope_text (Some (scope 1)) 0 [] false (Some (stmt 5))
          ∷ scope_text (Some (scope 1)) 0 [] false (Some (stmt 6))
          ∷ scope_text (Some (scope 1)) 0 [] false (Some (stmt 8))
          ∷ scope_text (Some (scope 1)) 0 [] false (Some (stmt 10))
          ∷ scope_text (Some (scope 1)) 0 [] false (Some (stmt 12))
          ∷ scope_text (Some (scope 1)) 0 [] false (Some (stmt 15))
          ∷ [];
      subprograms =
          subprogram_text (codes "open") (scope 3) [] None (Some (protected_unit 0))
          ∷ subprogram_text (codes "p") (scope 4) [] None (Some (protected_unit 0))
          ∷ [];
      task_units =
          task_unit_text (scope 5) (Some 20) None []
          ∷ task_unit_text (scope 6) (Some 20) None []
          ∷ task_unit_text (scope 7) (Some 20) None []
          ∷ [];
      protected_units =
          protected_unit_text 30 ((entry 0) ∷ []) ((decl 0) ∷ (decl 1) ∷ []) []
          ∷ [];
      entries =
          entry_text (codes "e") (unit.Protected (protected_unit 0)) 0 [] (Some (entry_body (expr 7) (scope 2)))
          ∷ [];
      controlled_types = [];
      enumerations = [];
      policies = (policies [] queuing.Fifo None 30);
      environment = (scope 0);
      main = (main_procedure (codes "main") 15 (scope 1));
    }

abbrev pub row_protected_raised_script : List (ℤ × Item)
row_protected_raised_script = []

-- the lines of its run up to tick 62
unfoldable pub row_protected_raised_lines : List (ℕ × Event)
row_protected_raised_lines = run_of row_protected_raised_program row_protected_raised_script 62

unfoldable pub row_protected_raised_trace : List (ℕ × Event)
row_protected_raised_trace =
    (0, line.New (created.Task (task 0)) (codes "main") 15)
    ∷ (0, line.Ready (t 0) 15 Tail None)
    ∷ (0, line.Run (t 0))
    ∷ (3, line.New (created.Object (p 1)) (codes "main.o") 30)
    ∷ (5, line.New (created.Task (task 1)) (codes "main.a") 20)
    ∷ (7, line.New (created.Task (task 2)) (codes "main.b") 20)
    ∷ (9, line.New (created.Task (task 3)) (codes "main.c") 20)
    ∷ (11, line.Ready (t 1) 20 Tail None)
    ∷ (11, line.Ready (t 2) 20 Tail None)
    ∷ (11, line.Ready (t 3) 20 Tail None)
    ∷ (11, line.Block (t 0) waits.Activation)
    ∷ (11, line.Run (t 1))
    ∷ (14, line.Call (task 1) (call 1) (of_object 1 (codes "e")) 20)
    ∷ (14, line.Enter (t 1) (p 1) Write)
    ∷ (14, line.Exit (t 1) (p 1))
    ∷ (14, line.Block (t 1) waits.Entry)
    ∷ (14, line.Run (t 2))
    ∷ (17, line.Call (task 2) (call 2) (of_object 1 (codes "e")) 20)
    ∷ (17, line.Enter (t 2) (p 1) Write)
    ∷ (17, line.Exit (t 2) (p 1))
    ∷ (17, line.Block (t 2) waits.Entry)
    ∷ (17, line.Run (t 3))
    ∷ (18, line.Ready (t 0) 15 Tail None)
    ∷ (20, line.Call (task 3) (call 3) (of_object 1 (codes "e")) 20)
    ∷ (20, line.Enter (t 3) (p 1) Write)
    ∷ (20, line.Exit (t 3) (p 1))
    ∷ (20, line.Block (t 3) waits.Entry)
    ∷ (20, line.Run (t 0))
    ∷ (23, line.Enter (t 0) (p 1) Write)
    ∷ (23, line.Ready (t 0) 30 Head None)
    ∷ (25, line.Raise (t 0) (codes "constraint_error"))
    ∷ (27, line.Start (t 0) (call 1))
    ∷ (33, line.Finish (t 0) (call 1) finished.Ok)
    ∷ (33, line.Ready (t 1) 20 Tail None)
    ∷ (33, line.Start (t 0) (call 2))
    ∷ (38, line.Raise (t 0) (codes "storage_error"))
    ∷ (40, line.Finish (t 0) (call 2) (finished.Raised (codes "storage_error")))
    ∷ (40, line.Ready (t 2) 20 Tail None)
    ∷ (40, line.Raise (t 2) (codes "storage_error"))
    ∷ (40, line.Start (t 0) (call 3))
    ∷ (46, line.Finish (t 0) (call 3) finished.Ok)
    ∷ (46, line.Ready (t 3) 20 Tail None)
    ∷ (46, line.Exit (t 0) (p 1))
    ∷ (46, line.Ready (t 0) 15 Head None)
    ∷ (46, line.Run (t 1))
    ∷ (47, line.Done (task 1))
    ∷ (47, line.Run (t 2))
    ∷ (48, line.Done (task 2))
    ∷ (48, line.Run (t 3))
    ∷ (49, line.Done (task 3))
    ∷ (49, line.Run (t 0))
    ∷ (54, line.Enter (t 0) (p 1) Write)
    ∷ (54, line.Ready (t 0) 30 Head None)
    ∷ (56, line.Raise (t 0) (codes "program_error"))
    ∷ (58, line.Exit (t 0) (p 1))
    ∷ (58, line.Ready (t 0) 15 Head None)
    ∷ (59, line.Leave (t 0) (region 1) leaves.Exception)
    ∷ (60, line.Left (t 0) (region 1))
    ∷ (61, line.Done (task 0))
    ∷ (61, line.End (end.Exception (codes "program_error")))
    ∷ []

pub row_protected_raised_runs : row_protected_raised_lines ≡ row_protected_raised_trace
unfolding row_protected_raised_lines row_protected_raised_trace digits computing
row_protected_raised_runs = refl

-- whether every world of its run is well formed
unfoldable pub row_protected_raised_worlds : Bool
row_protected_raised_worlds = run_is_well_formed row_protected_raised_program row_protected_raised_script 62

pub row_protected_raised_keeps : row_protected_raised_worlds ≡ true
unfolding row_protected_raised_worlds computing
row_protected_raised_keeps = refl

-- whether each handler is released at its tick
unfoldable pub row_protected_raised_handlers : Bool
row_protected_raised_handlers = releases_ok row_protected_raised_program row_protected_raised_script 62

pub row_protected_raised_releases : row_protected_raised_handlers ≡ true
unfolding row_protected_raised_handlers computing
row_protected_raised_releases = refl
