use Rattle.std.specs.Prelude.{◌≡◌, ℕ, ℤ, pos, negsuc, List, [], ◌∷◌, Some, None, true, false, codes, refl}
use Rattle.ann_base.specs.declared.exceptions.Raised.TheVariants as exception
use Rattle.trace_text.specs.declared.events.Event.{Event}
use Rattle.trace_text.specs.declared.events.Event.TheVariants as line
use Rattle.trace_text.specs.declared.events.Created.TheVariants as created
use Rattle.trace_text.specs.declared.events.Ended.TheVariants as end
use Rattle.trace_text.specs.declared.events.Finished.TheVariants as finished
use Rattle.trace_text.specs.declared.events.Leaves.TheVariants as leaves
use Rattle.trace_text.specs.declared.events.Mode.TheVariants.{Write}
use Rattle.trace_text.specs.declared.events.QueueEnd.TheVariants.{Head, Tail}
use Rattle.trace_text.specs.declared.events.Waits.TheVariants as waits
use Rattle.profile_image.specs.declared.script_items.Item.{Item}
use Rattle.profile_image.specs.declared.image.Image.{Image}
use Rattle.profile_image.specs.declared.image.Queuing.TheVariants as queuing
use Rattle.profile_image.specs.declared.values.Value.TheVariants.{Whole}
use Rattle.profile_image.specs.declared.values.Constraint.TheVariants.{Free, Whole}
use Rattle.profile_image.specs.declared.expressions.Expression.TheVariants.{Known}
use Rattle.profile_image.specs.declared.expressions.ObjectName.TheVariants.{Declared}
use Rattle.profile_image.specs.declared.declarations.DeclarationKind.TheVariants as kind
use Rattle.profile_image.specs.declared.declarations.Initial.TheVariants as initial
use Rattle.profile_image.specs.declared.declarations.EntryUnit.TheVariants as unit
use Rattle.profile_image.specs.declared.declarations.ExceptionChoice.TheVariants as exception_choice
use Rattle.profile_image.specs.declared.statements.StatementForm.TheVariants as form
use Rattle.profile_image.specs.declared.statements.Actual.TheVariants as actual
use Rattle.profile_image.specs.declared.statements.Callee.TheVariants as callee
use Rattle.profile_image.specs.declared.statements.Destination.TheVariants as destination
use Rattle.profile_image.specs.declared.statements.EntryOwner.TheVariants as owner
use Rattle.profile_machine.specs.Notation.{decl, expr, stmt, scope, subprogram, task_unit, protected_unit, entry, task, call, p, region, t, of_task, declaration, variable, statement, handler, scope_text, formal, subprogram_text, task_unit_text, protected_unit_text, entry_text, policies, main_procedure}
use Rattle.profile_machine.specs.Run.{run_of}
use Rattle.profile_machine.specs.Computing.{computing}
use Rattle.std.specs.Fmt.{digits}
use Rattle.std.specs.Prelude.{Bool}
use Rattle.profile_machine.specs.WellFormed.{run_is_well_formed}
use Rattle.profile_machine.specs.Releases.{releases_ok}

-- Row rendezvous.handled: its run stops before tick 40, so every greater bound gives the same trace.
abbrev pub row_rendezvous_handled_program : Image
row_rendezvous_handled_program =
    record {
      declarations =
          declaration (codes "o") (codes "main.o") (kind.Protected (protected_unit 0)) (scope 1) 0 16 Free None
          ∷ declaration (codes "t") (codes "main.t") (kind.Task (task_unit 0)) (scope 1) 16 1 Free None
          ∷ declaration (codes "n") (codes "main.n") (kind.Object (initial.Scalar (expr 2))) (scope 1) 17 1 (Whole (negsuc 2147483647) (pos 2147483647)) None
          ∷ declaration (codes "x") (codes "main.t.x") kind.Parameter (scope 4) 0 1 (Whole (negsuc 2147483647) (pos 2147483647)) None
          ∷ [];
      expressions =
          Known (Whole (pos 2))
          ∷ Known (Whole (pos 3))
          ∷ Known (Whole (pos 1))
          ∷ [];
      statements =
          statement (form.CallMain) 0 None
          ∷ statement (form.Null) 0 None
          ∷ statement (form.Handled (handler (exception_choice.Others ∷ []) (stmt 10) ∷ []) (stmt 3)) 0 None
          ∷ statement (form.Accept (entry 0) (scope 4)) 0 None
          ∷ statement (form.Handled (handler (exception_choice.Others ∷ []) (stmt 9) ∷ []) (stmt 7)) 0 None
          ∷ statement (form.Raise exception.Program) 0 None
          ∷ statement (form.Call (callee.Operation (decl 0) (subprogram 0)) [] destination.Nowhere) 0 (Some (stmt 5))
          ∷ statement (form.Assign (variable (Declared (decl 3)) None) (expr 0)) 0 (Some (stmt 6))
          ∷ statement (form.RaiseAgain (scope 4)) 0 None
          ∷ statement (form.Assign (variable (Declared (decl 3)) None) (expr 1)) 0 (Some (stmt 8))
          ∷ statement (form.Accept (entry 1) (scope 5)) 0 None
          ∷ statement (form.Return) 0 None
          ∷ statement (form.EndActivation) 0 (Some (stmt 2))
          ∷ statement (form.EntryCall (entry 1) (owner.Object (decl 1)) []) 0 None
          ∷ statement (form.Block (scope 6)) 0 (Some (stmt 13))
          ∷ statement (form.Handled (handler (exception_choice.Named exception.Program ∷ []) (stmt 17) ∷ []) (stmt 16)) 0 None
          ∷ statement (form.EntryCall (entry 0) (owner.Object (decl 1)) (actual.InOut (variable (Declared (decl 2)) None) ∷ [])) 0 None
          ∷ statement (form.Null) 0 None
          ∷ statement (form.Activate 0) 0 (Some (stmt 14))
          ∷ statement (form.Declare (decl 2)) 0 (Some (stmt 18))
          ∷ statement (form.CreateTask (decl 1) 0) 0 (Some (stmt 19))
          ∷ statement (form.Declare (decl 0)) 0 (Some (stmt 20))
          ∷ [];
      scopes =
          scope_text None 0 [] false (Some (stmt 0))
          ∷ scope_text (Some (scope 0)) 18 [] true (Some (stmt 21))
          ∷ scope_text (Some (scope 1)) 0 [] false (Some (stmt 1))
          ∷ scope_text (Some (scope 1)) 0 [] false (Some (stmt 12))
          ∷ scope_text (Some (scope 3)) 1 [] false (Some (stmt 4))
          ∷ scope_text (Some (scope 3)) 0 [] false (Some (stmt 11))
          ∷ scope_text (Some (scope 1)) 0 [] false (Some (stmt 15))
          ∷ [];
      subprograms =
          subprogram_text (codes "p") (scope 2) [] None (Some (protected_unit 0))
          ∷ [];
      task_units =
          task_unit_text (scope 3) (Some 10) None ((entry 0) ∷ (entry 1) ∷ [])
          ∷ [];
      protected_units =
          protected_unit_text 25 [] [] []
          ∷ [];
      entries =
          entry_text (codes "e") (unit.Task (task_unit 0)) 0 (formal (Whole (negsuc 2147483647) (pos 2147483647)) (Whole (pos 0)) ∷ []) None
          ∷ entry_text (codes "f") (unit.Task (task_unit 0)) 1 [] None
          ∷ [];
      controlled_types = [];
      enumerations = [];
      policies = (policies [] queuing.Fifo None 30);
      environment = (scope 0);
      main = (main_procedure (codes "main") 15 (scope 1));
    }

abbrev pub row_rendezvous_handled_script : List (ℤ × Item)
row_rendezvous_handled_script = []

-- the lines of its run up to tick 40
unfoldable pub row_rendezvous_handled_lines : List (ℕ × Event)
row_rendezvous_handled_lines = run_of row_rendezvous_handled_program row_rendezvous_handled_script 40

unfoldable pub row_rendezvous_handled_trace : List (ℕ × Event)
row_rendezvous_handled_trace =
    (0, line.New (created.Task (task 0)) (codes "main") 15)
    ∷ (0, line.Ready (t 0) 15 Tail None)
    ∷ (0, line.Run (t 0))
    ∷ (3, line.New (created.Object (p 1)) (codes "main.o") 25)
    ∷ (5, line.New (created.Task (task 1)) (codes "main.t") 10)
    ∷ (8, line.Ready (t 1) 15 Tail None)
    ∷ (8, line.Block (t 0) waits.Activation)
    ∷ (8, line.Run (t 1))
    ∷ (9, line.Ready (t 0) 15 Tail None)
    ∷ (9, line.Ready (t 1) 10 Head None)
    ∷ (9, line.Run (t 0))
    ∷ (12, line.Call (task 0) (call 1) (of_task 1 (codes "e")) 15)
    ∷ (12, line.Block (t 0) waits.Entry)
    ∷ (12, line.Run (t 1))
    ∷ (14, line.Start (t 1) (call 1))
    ∷ (14, line.Ready (t 1) 15 Head None)
    ∷ (17, line.Enter (t 1) (p 1) Write)
    ∷ (17, line.Ready (t 1) 25 Head None)
    ∷ (20, line.Exit (t 1) (p 1))
    ∷ (20, line.Ready (t 1) 15 Head None)
    ∷ (21, line.Raise (t 1) (codes "program_error"))
    ∷ (24, line.Raise (t 1) (codes "program_error"))
    ∷ (25, line.Finish (t 1) (call 1) (finished.Raised (codes "program_error")))
    ∷ (25, line.Ready (t 0) 15 Tail None)
    ∷ (25, line.Raise (t 0) (codes "program_error"))
    ∷ (25, line.Ready (t 1) 10 Head None)
    ∷ (25, line.Run (t 0))
    ∷ (30, line.Call (task 0) (call 2) (of_task 1 (codes "f")) 15)
    ∷ (30, line.Block (t 0) waits.Entry)
    ∷ (30, line.Run (t 1))
    ∷ (33, line.Start (t 1) (call 2))
    ∷ (33, line.Ready (t 1) 15 Head None)
    ∷ (35, line.Finish (t 1) (call 2) finished.Ok)
    ∷ (35, line.Ready (t 0) 15 Tail None)
    ∷ (35, line.Ready (t 1) 10 Head None)
    ∷ (35, line.Run (t 0))
    ∷ (36, line.Leave (t 0) (region 1) leaves.End)
    ∷ (36, line.Block (t 0) waits.Dependents)
    ∷ (36, line.Run (t 1))
    ∷ (37, line.Done (task 1))
    ∷ (37, line.Ready (t 0) 15 Tail None)
    ∷ (37, line.Run (t 0))
    ∷ (38, line.Left (t 0) (region 1))
    ∷ (39, line.Done (task 0))
    ∷ (39, line.End end.Completed)
    ∷ []

pub row_rendezvous_handled_runs : row_rendezvous_handled_lines ≡ row_rendezvous_handled_trace
unfolding row_rendezvous_handled_lines row_rendezvous_handled_trace digits computing
row_rendezvous_handled_runs = refl

-- whether every world of its run is well formed
unfoldable pub row_rendezvous_handled_worlds : Bool
row_rendezvous_handled_worlds = run_is_well_formed row_rendezvous_handled_program row_rendezvous_handled_script 40

pub row_rendezvous_handled_keeps : row_rendezvous_handled_worlds ≡ true
unfolding row_rendezvous_handled_worlds computing
row_rendezvous_handled_keeps = refl

-- whether each handler is released at its tick
unfoldable pub row_rendezvous_handled_handlers : Bool
row_rendezvous_handled_handlers = releases_ok row_rendezvous_handled_program row_rendezvous_handled_script 40

pub row_rendezvous_handled_releases : row_rendezvous_handled_handlers ≡ true
unfolding row_rendezvous_handled_handlers computing
row_rendezvous_handled_releases = refl
