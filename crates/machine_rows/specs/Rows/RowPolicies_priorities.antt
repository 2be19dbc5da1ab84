use Rattle.std.specs.Prelude.{◌≡◌, ℕ, ℤ, pos, negsuc, List, [], ◌∷◌, Some, None, true, false, codes, refl}
use Rattle.ann_base.specs.declared.exceptions.Raised.TheVariants as exception
use Rattle.trace_text.specs.declared.events.Event.{Event}
use Rattle.trace_text.specs.declared.events.Event.TheVariants as line
use Rattle.trace_text.specs.declared.events.Created.TheVariants as created
use Rattle.trace_text.specs.declared.events.Ended.TheVariants as end
use Rattle.trace_text.specs.declared.events.Finished.TheVariants as finished
use Rattle.trace_text.specs.declared.events.Leaves.TheVariants as leaves
use Rattle.trace_text.specs.declared.events.Mode.TheVariants.{Write}
use Rattle.trace_text.specs.declared.events.QueueEnd.TheVariants.{Head, Tail}
use Rattle.trace_text.specs.declared.events.Waits.TheVariants as waits
use Rattle.profile_image.specs.declared.script_items.Item.{Item}
use Rattle.profile_image.specs.declared.image.Image.{Image}
use Rattle.profile_image.specs.declared.image.Dispatching.TheVariants.{RoundRobinWithinPriorities}
use Rattle.profile_image.specs.declared.image.Queuing.TheVariants as queuing
use Rattle.profile_image.specs.declared.values.Value.TheVariants.{Whole, Ticks, Thing}
use Rattle.profile_image.specs.declared.values.Constraint.TheVariants.{Free, Whole, Ticks}
use Rattle.profile_image.specs.declared.expressions.Expression.TheVariants.{Known, Variable, Thing, Binary, Count, Span, Priority}
use Rattle.profile_image.specs.declared.expressions.ObjectName.TheVariants.{Declared, OwnComponent}
use Rattle.profile_image.specs.declared.expressions.BinaryOperator.TheVariants as binary
use Rattle.profile_image.specs.declared.declarations.DeclarationKind.TheVariants as kind
use Rattle.profile_image.specs.declared.declarations.Initial.TheVariants as initial
use Rattle.profile_image.specs.declared.declarations.EntryUnit.TheVariants as unit
use Rattle.profile_image.specs.declared.declarations.ExceptionChoice.TheVariants as exception_choice
use Rattle.profile_image.specs.declared.statements.StatementForm.TheVariants as form
use Rattle.profile_image.specs.declared.statements.Actual.TheVariants as actual
use Rattle.profile_image.specs.declared.statements.Callee.TheVariants as callee
use Rattle.profile_image.specs.declared.statements.Destination.TheVariants as destination
use Rattle.profile_image.specs.declared.statements.EntryOwner.TheVariants as owner
use Rattle.profile_image.specs.declared.statements.SelectKind.TheVariants as select
use Rattle.profile_image.specs.declared.statements.Piece.TheVariants as piece
use Rattle.profile_machine.specs.Notation.{decl, expr, stmt, scope, subprogram, task_unit, protected_unit, entry, task, call, p, region, t, of_task, declaration, variable, statement, select_alternative, handler, scope_text, formal, subprogram_text, task_unit_text, protected_unit_text, entry_text, dispatching_range, policies, main_procedure}
use Rattle.profile_machine.specs.Run.{run_of}
use Rattle.profile_machine.specs.Computing.{computing}
use Rattle.std.specs.Fmt.{digits}
use Rattle.std.specs.Prelude.{Bool}
use Rattle.profile_machine.specs.WellFormed.{run_is_well_formed}
use Rattle.profile_machine.specs.Releases.{releases_ok}

-- Row policies.priorities: its run stops before tick 158, so every greater bound gives the same trace.
abbrev pub row_policies_priorities_program : Image
row_policies_priorities_program =
    record {
      declarations =
          declaration (codes "p") (codes "main.p") (kind.Protected (protected_unit 0)) (scope 1) 0 17 Free None
          ∷ declaration (codes "n") (codes "main.p.n") (kind.Object (initial.Scalar (expr 37))) (scope 0) 0 1 (Whole (negsuc 2147483647) (pos 2147483647)) None
          ∷ declaration (codes "t") (codes "main.t") (kind.Task (task_unit 0)) (scope 1) 17 1 Free None
          ∷ declaration (codes "a") (codes "main.a") (kind.Task (task_unit 1)) (scope 1) 18 1 Free None
          ∷ declaration (codes "b") (codes "main.b") (kind.Task (task_unit 2)) (scope 1) 19 1 Free None
          ∷ declaration (codes "c") (codes "main.c") (kind.Task (task_unit 3)) (scope 1) 20 1 Free None
          ∷ declaration (codes "i") (codes "main.t.i") kind.Parameter (scope 3) 0 2 Free None
          ∷ declaration (codes "x") (codes "main.t.x") kind.Parameter (scope 5) 0 1 (Whole (negsuc 2147483647) (pos 2147483647)) None
          ∷ [];
      expressions =
          Variable (variable (OwnComponent (protected_unit 0) (decl 1)) None)
          ∷ Known (Whole (pos 1))
          ∷ Binary binary.Plus (expr 0) (expr 1)
          ∷ Variable (variable (OwnComponent (protected_unit 0) (decl 1)) None)
          ∷ Known (Whole (pos 1))
          ∷ Binary binary.Plus (expr 3) (expr 4)
          ∷ Known (Whole (pos 7))
          ∷ Variable (variable (OwnComponent (protected_unit 0) (decl 1)) None)
          ∷ Known (Whole (pos 1))
          ∷ Binary binary.Plus (expr 7) (expr 8)
          ∷ Variable (variable (Declared (decl 7)) None)
          ∷ Count (entry 0)
          ∷ Known (Whole (pos 1))
          ∷ Known (Whole (pos 3))
          ∷ Known (Ticks (pos 30))
          ∷ Known (Whole (pos 1))
          ∷ Known (Ticks (pos 0))
          ∷ Known (Whole (pos 4))
          ∷ Known (Whole (pos 3))
          ∷ Span (pos 1) (expr 18)
          ∷ Known (Whole (pos 2))
          ∷ Known (Whole (pos 3))
          ∷ Thing (decl 2)
          ∷ Priority (Some (expr 22))
          ∷ Thing (decl 3)
          ∷ Priority (Some (expr 24))
          ∷ Known (Whole (pos 4))
          ∷ Thing (decl 3)
          ∷ Known (Ticks (pos 60))
          ∷ Known (Whole (pos 5))
          ∷ Thing (decl 4)
          ∷ Known (Whole (pos 9))
          ∷ Thing (decl 3)
          ∷ Known (Ticks (pos 20))
          ∷ Known (Whole (pos 7))
          ∷ Known (Whole (pos 5))
          ∷ Span (pos 1) (expr 35)
          ∷ Known (Whole (pos 0))
          ∷ [];
      statements =
          statement (form.CallMain) 0 None
          ∷ statement (form.Assign (variable (OwnComponent (protected_unit 0) (decl 1)) None) (expr 2)) 1 None
          ∷ statement (form.Assign (variable (OwnComponent (protected_unit 0) (decl 1)) None) (expr 5)) 1 (Some (stmt 1))
          ∷ statement (form.SetPriority (expr 6) None) 0 (Some (stmt 2))
          ∷ statement (form.Assign (variable (OwnComponent (protected_unit 0) (decl 1)) None) (expr 9)) 1 (Some (stmt 3))
          ∷ statement (form.Handled (handler (exception_choice.Others ∷ []) (stmt 16) ∷ []) (stmt 15)) 0 None
          ∷ statement (form.Accept (entry 1) (scope 6)) 0 None
          ∷ statement (form.Raise exception.Constraint) 0 None
          ∷ statement (form.For (decl 6) false (expr 12) (expr 13) (stmt 9) (Some (stmt 5))) 0 (Some (stmt 6))
          ∷ statement (form.FirstTurn (decl 6) false (stmt 14)) 0 (Some (stmt 6))
          ∷ statement (form.LaterTurn (decl 6) false (stmt 14)) 0 (Some (stmt 6))
          ∷ statement (form.Accept (entry 1) (scope 4)) 0 (Some (stmt 10))
          ∷ statement (form.Accept (entry 0) (scope 5)) 0 (Some (stmt 10))
          ∷ statement (form.PutLine (piece.Whole (expr 10) ∷ piece.Whole (expr 11) ∷ [])) 1 None
          ∷ statement (form.SelectiveAccept (select_alternative None (select.Accept (stmt 11)) ∷ select_alternative None (select.Accept (stmt 12)) ∷ []) None) 0 (Some (stmt 10))
          ∷ statement (form.Delay (expr 14)) 0 (Some (stmt 8))
          ∷ statement (form.PutLine (piece.Text (codes "t") ∷ [])) 0 None
          ∷ statement (form.EndActivation) 0 (Some (stmt 5))
          ∷ statement (form.EntryCall (entry 1) (owner.Object (decl 2)) []) 0 None
          ∷ statement (form.Null) 0 (Some (stmt 18))
          ∷ statement (form.Null) 0 (Some (stmt 19))
          ∷ statement (form.Null) 0 (Some (stmt 20))
          ∷ statement (form.Null) 0 (Some (stmt 21))
          ∷ statement (form.Call (callee.Operation (decl 0) (subprogram 0)) [] destination.Nowhere) 0 (Some (stmt 22))
          ∷ statement (form.EntryCall (entry 0) (owner.Object (decl 2)) (actual.In (expr 15) ∷ [])) 0 (Some (stmt 23))
          ∷ statement (form.EndActivation) 0 (Some (stmt 24))
          ∷ statement (form.Delay (expr 16)) 0 None
          ∷ statement (form.Null) 0 (Some (stmt 26))
          ∷ statement (form.Null) 0 (Some (stmt 27))
          ∷ statement (form.Null) 0 (Some (stmt 28))
          ∷ statement (form.Null) 0 (Some (stmt 29))
          ∷ statement (form.Null) 0 (Some (stmt 30))
          ∷ statement (form.Null) 0 (Some (stmt 31))
          ∷ statement (form.SetQuantum (expr 17) (expr 19)) 1 (Some (stmt 32))
          ∷ statement (form.EntryCall (entry 0) (owner.Object (decl 2)) (actual.In (expr 20) ∷ [])) 0 (Some (stmt 33))
          ∷ statement (form.EndActivation) 0 (Some (stmt 34))
          ∷ statement (form.Null) 0 None
          ∷ statement (form.EntryCall (entry 0) (owner.Object (decl 2)) (actual.In (expr 21) ∷ [])) 0 (Some (stmt 36))
          ∷ statement (form.EndActivation) 0 (Some (stmt 37))
          ∷ statement (form.Handled (handler (exception_choice.Named exception.Tasking ∷ []) (stmt 54) ∷ []) (stmt 53)) 0 None
          ∷ statement (form.PutLine (piece.Whole (expr 23) ∷ [])) 1 None
          ∷ statement (form.Block (scope 10)) 0 (Some (stmt 40))
          ∷ statement (form.Handled (handler (exception_choice.Named exception.Constraint ∷ []) (stmt 44) ∷ handler (exception_choice.Named exception.Tasking ∷ []) (stmt 45) ∷ []) (stmt 43)) 0 None
          ∷ statement (form.EntryCall (entry 1) (owner.Object (decl 2)) []) 0 None
          ∷ statement (form.PutLine (piece.Text (codes "ce") ∷ [])) 0 None
          ∷ statement (form.PutLine (piece.Text (codes "te") ∷ [])) 0 None
          ∷ statement (form.PutLine (piece.Whole (expr 25) ∷ [])) 1 (Some (stmt 41))
          ∷ statement (form.SetPriority (expr 26) (Some (expr 27))) 0 (Some (stmt 46))
          ∷ statement (form.Delay (expr 28)) 0 (Some (stmt 47))
          ∷ statement (form.SetPriority (expr 29) (Some (expr 30))) 0 (Some (stmt 48))
          ∷ statement (form.SetPriority (expr 31) (Some (expr 32))) 0 (Some (stmt 49))
          ∷ statement (form.Delay (expr 33)) 0 (Some (stmt 50))
          ∷ statement (form.SetQuantum (expr 34) (expr 36)) 1 (Some (stmt 51))
          ∷ statement (form.Activate 0) 0 (Some (stmt 52))
          ∷ statement (form.PutLine (piece.Text (codes "gone") ∷ [])) 0 None
          ∷ statement (form.CreateTask (decl 5) 0) 0 (Some (stmt 39))
          ∷ statement (form.CreateTask (decl 4) 0) 0 (Some (stmt 55))
          ∷ statement (form.CreateTask (decl 3) 0) 0 (Some (stmt 56))
          ∷ statement (form.CreateTask (decl 2) 0) 0 (Some (stmt 57))
          ∷ statement (form.Declare (decl 0)) 0 (Some (stmt 58))
          ∷ [];
      scopes =
          scope_text None 0 [] false (Some (stmt 0))
          ∷ scope_text (Some (scope 0)) 21 [] true (Some (stmt 59))
          ∷ scope_text (Some (scope 1)) 0 [] false (Some (stmt 4))
          ∷ scope_text (Some (scope 1)) 2 [] false (Some (stmt 17))
          ∷ scope_text (Some (scope 3)) 0 [] false None
          ∷ scope_text (Some (scope 3)) 1 [] false (Some (stmt 13))
          ∷ scope_text (Some (scope 3)) 0 [] false (Some (stmt 7))
          ∷ scope_text (Some (scope 1)) 0 [] false (Some (stmt 25))
          ∷ scope_text (Some (scope 1)) 0 [] false (Some (stmt 35))
          ∷ scope_text (Some (scope 1)) 0 [] false (Some (stmt 38))
          ∷ scope_text (Some (scope 1)) 0 [] false (Some (stmt 42))
          ∷ [];
      subprograms =
          subprogram_text (codes "go") (scope 2) [] None (Some (protected_unit 0))
          ∷ [];
      task_units =
          task_unit_text (scope 3) (Some 8) None ((entry 0) ∷ (entry 1) ∷ [])
          ∷ task_unit_text (scope 7) (Some 4) None []
          ∷ task_unit_text (scope 8) (Some 4) None []
          ∷ task_unit_text (scope 9) (Some 6) None []
          ∷ [];
      protected_units =
          protected_unit_text 20 [] ((decl 1) ∷ []) []
          ∷ [];
      entries =
          entry_text (codes "e") (unit.Task (task_unit 0)) 0 (formal (Whole (negsuc 2147483647) (pos 2147483647)) (Whole (pos 0)) ∷ []) None
          ∷ entry_text (codes "f") (unit.Task (task_unit 0)) 1 [] None
          ∷ [];
      controlled_types = [];
      enumerations = [];
      policies = (policies (dispatching_range RoundRobinWithinPriorities 0 31 ∷ []) queuing.Priority None 30);
      environment = (scope 0);
      main = (main_procedure (codes "main") 15 (scope 1));
    }

abbrev pub row_policies_priorities_script : List (ℤ × Item)
row_policies_priorities_script = []

-- the lines of its run up to tick 158
unfoldable pub row_policies_priorities_lines : List (ℕ × Event)
row_policies_priorities_lines = run_of row_policies_priorities_program row_policies_priorities_script 158

unfoldable pub row_policies_priorities_trace : List (ℕ × Event)
row_policies_priorities_trace =
    (0, line.New (created.Task (task 0)) (codes "main") 15)
    ∷ (0, line.Ready (t 0) 15 Tail None)
    ∷ (0, line.Run (t 0))
    ∷ (3, line.New (created.Object (p 1)) (codes "main.p") 20)
    ∷ (5, line.New (created.Task (task 1)) (codes "main.t") 8)
    ∷ (7, line.New (created.Task (task 2)) (codes "main.a") 4)
    ∷ (9, line.New (created.Task (task 3)) (codes "main.b") 4)
    ∷ (11, line.New (created.Task (task 4)) (codes "main.c") 6)
    ∷ (13, line.Ready (t 1) 15 Tail None)
    ∷ (13, line.Ready (t 2) 15 Tail None)
    ∷ (13, line.Ready (t 3) 15 Tail None)
    ∷ (13, line.Ready (t 4) 15 Tail None)
    ∷ (13, line.Block (t 0) waits.Activation)
    ∷ (13, line.Run (t 1))
    ∷ (14, line.Ready (t 1) 8 Head None)
    ∷ (14, line.Quantum (task 1))
    ∷ (14, line.Ready (t 1) 8 Tail None)
    ∷ (14, line.Run (t 2))
    ∷ (15, line.Ready (t 2) 4 Head None)
    ∷ (15, line.Quantum (task 2))
    ∷ (15, line.Ready (t 2) 4 Tail None)
    ∷ (15, line.Run (t 3))
    ∷ (16, line.Ready (t 3) 4 Head None)
    ∷ (16, line.Quantum (task 3))
    ∷ (16, line.Ready (t 3) 4 Tail None)
    ∷ (16, line.Run (t 4))
    ∷ (17, line.Ready (t 0) 15 Tail None)
    ∷ (17, line.Ready (t 4) 6 Head None)
    ∷ (17, line.Quantum (task 4))
    ∷ (17, line.Ready (t 4) 6 Tail None)
    ∷ (17, line.Run (t 0))
    ∷ (22, line.Block (t 0) waits.Delay)
    ∷ (22, line.Run (t 1))
    ∷ (24, line.Block (t 1) waits.Delay)
    ∷ (24, line.Run (t 4))
    ∷ (26, line.Call (task 4) (call 1) (of_task 1 (codes "e")) 6)
    ∷ (26, line.Block (t 4) waits.Entry)
    ∷ (26, line.Run (t 2))
    ∷ (28, line.Call (task 2) (call 2) (of_task 1 (codes "e")) 4)
    ∷ (28, line.Block (t 2) waits.Entry)
    ∷ (28, line.Run (t 3))
    ∷ (30, line.Call (task 3) (call 3) (of_task 1 (codes "e")) 4)
    ∷ (30, line.Block (t 3) waits.Entry)
    ∷ (30, line.Idle)
    ∷ (42, line.Ready (t 0) 15 Tail None)
    ∷ (42, line.Run (t 0))
    ∷ (44, line.Base (task 2) 9)
    ∷ (46, line.Base (task 3) 5)
    ∷ (48, line.Block (t 0) waits.Delay)
    ∷ (48, line.Idle)
    ∷ (54, line.Ready (t 1) 8 Tail None)
    ∷ (54, line.Run (t 1))
    ∷ (60, line.Start (t 1) (call 2))
    ∷ (60, line.Ready (t 1) 9 Head None)
    ∷ (65, line.Put (t 1) (codes " 1 2"))
    ∷ (66, line.Finish (t 1) (call 2) finished.Ok)
    ∷ (66, line.Ready (t 2) 9 Tail None)
    ∷ (66, line.Ready (t 1) 8 Head None)
    ∷ (66, line.Run (t 2))
    ∷ (68, line.Enter (t 2) (p 1) Write)
    ∷ (68, line.Ready (t 2) 20 Head None)
    ∷ (78, line.Exit (t 2) (p 1))
    ∷ (78, line.Ready (t 2) 9 Head None)
    ∷ (78, line.Base (task 2) 7)
    ∷ (78, line.Ready (t 2) 7 Tail None)
    ∷ (78, line.Run (t 1))
    ∷ (83, line.Start (t 1) (call 1))
    ∷ (88, line.Put (t 1) (codes " 3 1"))
    ∷ (89, line.Finish (t 1) (call 1) finished.Ok)
    ∷ (89, line.Ready (t 4) 6 Tail None)
    ∷ (94, line.Start (t 1) (call 3))
    ∷ (99, line.Put (t 1) (codes " 2 0"))
    ∷ (100, line.Finish (t 1) (call 3) finished.Ok)
    ∷ (100, line.Ready (t 3) 5 Tail None)
    ∷ (103, line.Block (t 1) waits.Accept)
    ∷ (103, line.Run (t 2))
    ∷ (108, line.Ready (t 0) 15 Tail None)
    ∷ (108, line.Quantum (task 2))
    ∷ (108, line.Ready (t 2) 7 Tail None)
    ∷ (108, line.Run (t 0))
    ∷ (110, line.Base (task 2) 4)
    ∷ (110, line.Ready (t 2) 4 Tail None)
    ∷ (115, line.Put (t 0) (codes " 4"))
    ∷ (118, line.Call (task 0) (call 4) (of_task 1 (codes "f")) 15)
    ∷ (118, line.Start (t 1) (call 4))
    ∷ (118, line.Ready (t 1) 15 Tail None)
    ∷ (118, line.Block (t 0) waits.Entry)
    ∷ (118, line.Run (t 1))
    ∷ (119, line.Raise (t 1) (codes "constraint_error"))
    ∷ (120, line.Finish (t 1) (call 4) (finished.Raised (codes "constraint_error")))
    ∷ (120, line.Ready (t 0) 15 Tail None)
    ∷ (120, line.Raise (t 0) (codes "constraint_error"))
    ∷ (120, line.Ready (t 1) 8 Head None)
    ∷ (120, line.Run (t 0))
    ∷ (125, line.Put (t 0) (codes "ce"))
    ∷ (131, line.Put (t 0) (codes " 8"))
    ∷ (133, line.Leave (t 0) (region 1) leaves.End)
    ∷ (133, line.Block (t 0) waits.Dependents)
    ∷ (133, line.Run (t 1))
    ∷ (138, line.Put (t 1) (codes "t"))
    ∷ (139, line.Done (task 1))
    ∷ (139, line.Run (t 4))
    ∷ (141, line.Done (task 4))
    ∷ (141, line.Run (t 3))
    ∷ (152, line.Ready (t 3) 5 Tail None)
    ∷ (153, line.Done (task 3))
    ∷ (153, line.Run (t 2))
    ∷ (154, line.Call (task 2) (call 5) (of_task 1 (codes "f")) 4)
    ∷ (154, line.Gone (task 2) (call 5))
    ∷ (154, line.Raise (t 2) (codes "tasking_error"))
    ∷ (155, line.Done (task 2))
    ∷ (155, line.Ready (t 0) 15 Tail None)
    ∷ (155, line.Run (t 0))
    ∷ (156, line.Left (t 0) (region 1))
    ∷ (157, line.Done (task 0))
    ∷ (157, line.End end.Completed)
    ∷ []

pub row_policies_priorities_runs : row_policies_priorities_lines ≡ row_policies_priorities_trace
unfolding row_policies_priorities_lines row_policies_priorities_trace digits computing
row_policies_priorities_runs = refl

-- whether every world of its run is well formed
unfoldable pub row_policies_priorities_worlds : Bool
row_policies_priorities_worlds = run_is_well_formed row_policies_priorities_program row_policies_priorities_script 158

pub row_policies_priorities_keeps : row_policies_priorities_worlds ≡ true
unfolding row_policies_priorities_worlds computing
row_policies_priorities_keeps = refl

-- whether each handler is released at its tick
unfoldable pub row_policies_priorities_handlers : Bool
row_policies_priorities_handlers = releases_ok row_policies_priorities_program row_policies_priorities_script 158

pub row_policies_priorities_releases : row_policies_priorities_handlers ≡ true
unfolding row_policies_priorities_handlers computing
row_policies_priorities_releases = refl
