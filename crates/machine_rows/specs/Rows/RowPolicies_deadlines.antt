use Rattle.std.specs.Prelude.{◌≡◌, ℕ, ℤ, pos, negsuc, List, [], ◌∷◌, Some, None, true, false, codes, refl}
use Rattle.ann_base.specs.declared.exceptions.Raised.TheVariants as exception
use Rattle.trace_text.specs.declared.events.Event.{Event}
use Rattle.trace_text.specs.declared.events.Event.TheVariants as line
use Rattle.trace_text.specs.declared.events.Created.TheVariants as created
use Rattle.trace_text.specs.declared.events.Ended.TheVariants as end
use Rattle.trace_text.specs.declared.events.Leaves.TheVariants as leaves
use Rattle.trace_text.specs.declared.events.Mode.TheVariants.{Write}
use Rattle.trace_text.specs.declared.events.QueueEnd.TheVariants.{Head, Tail}
use Rattle.trace_text.specs.declared.events.Waits.TheVariants as waits
use Rattle.profile_image.specs.declared.script_items.Item.{Item}
use Rattle.profile_image.specs.declared.image.Image.{Image}
use Rattle.profile_image.specs.declared.image.Dispatching.TheVariants.{EdfAcrossPriorities}
use Rattle.profile_image.specs.declared.image.Queuing.TheVariants as queuing
use Rattle.profile_image.specs.declared.values.Value.TheVariants.{Whole, Truth, Ticks}
use Rattle.profile_image.specs.declared.values.Constraint.TheVariants.{Free, Whole, Truth, Ticks}
use Rattle.profile_image.specs.declared.expressions.Expression.TheVariants.{Known, Variable, Binary, Clock, Span}
use Rattle.profile_image.specs.declared.expressions.ObjectName.TheVariants.{Declared, OwnComponent}
use Rattle.profile_image.specs.declared.expressions.BinaryOperator.TheVariants as binary
use Rattle.profile_image.specs.declared.declarations.DeclarationKind.TheVariants as kind
use Rattle.profile_image.specs.declared.declarations.Initial.TheVariants as initial
use Rattle.profile_image.specs.declared.declarations.EntryUnit.TheVariants as unit
use Rattle.profile_image.specs.declared.declarations.ExceptionChoice.TheVariants as exception_choice
use Rattle.profile_image.specs.declared.statements.StatementForm.TheVariants as form
use Rattle.profile_image.specs.declared.statements.Actual.TheVariants as actual
use Rattle.profile_image.specs.declared.statements.Callee.TheVariants as callee
use Rattle.profile_image.specs.declared.statements.Destination.TheVariants as destination
use Rattle.profile_image.specs.declared.statements.EntryOwner.TheVariants as owner
use Rattle.profile_machine.specs.Notation.{decl, expr, stmt, scope, subprogram, task_unit, protected_unit, entry, task, p, region, t, declaration, variable, statement, handler, cell_run, scope_text, formal, subprogram_text, task_unit_text, protected_unit_text, entry_body, entry_text, dispatching_range, policies, main_procedure}
use Rattle.profile_machine.specs.Run.{run_of}
use Rattle.profile_machine.specs.Computing.{computing}
use Rattle.std.specs.Fmt.{digits}
use Rattle.std.specs.Prelude.{Bool}
use Rattle.profile_machine.specs.WellFormed.{run_is_well_formed}
use Rattle.profile_machine.specs.Releases.{releases_ok}

-- Row policies.deadlines: its run stops before tick 233, so every greater bound gives the same trace.
abbrev pub row_policies_deadlines_program : Image
row_policies_deadlines_program =
    record {
      declarations =
          declaration (codes "p") (codes "pk.p") (kind.Protected (protected_unit 0)) (scope 0) 0 18 Free None
          ∷ declaration (codes "b") (codes "pk.p.b") (kind.Object (initial.Scalar (expr 45))) (scope 0) 0 1 (Truth false true) None
          ∷ declaration (codes "k") (codes "pk.p.k") (kind.Object (initial.Scalar (expr 46))) (scope 0) 1 1 (Whole (negsuc 2147483647) (pos 2147483647)) None
          ∷ declaration (codes "q") (codes "pk.q") (kind.Protected (protected_unit 1)) (scope 0) 18 17 Free None
          ∷ declaration (codes "k") (codes "pk.q.k") (kind.Object (initial.Scalar (expr 47))) (scope 0) 0 1 (Whole (negsuc 2147483647) (pos 2147483647)) None
          ∷ declaration (codes "a") (codes "pk.a") (kind.Task (task_unit 0)) (scope 0) 35 1 Free None
          ∷ declaration (codes "b") (codes "pk.b") (kind.Task (task_unit 1)) (scope 0) 36 1 Free None
          ∷ declaration (codes "c") (codes "pk.c") (kind.Task (task_unit 2)) (scope 0) 37 1 Free None
          ∷ declaration (codes "n") (codes "pk.p.n") kind.Parameter (scope 1) 0 1 (Whole (negsuc 2147483647) (pos 2147483647)) None
          ∷ declaration (codes "i") (codes "pk.p.go.i") kind.Parameter (scope 1) 1 2 Free None
          ∷ declaration (codes "i") (codes "pk.a.i") kind.Parameter (scope 4) 0 2 Free None
          ∷ [];
      expressions =
          Known (Whole (pos 3))
          ∷ Known (Ticks (pos 200))
          ∷ Known (Truth true)
          ∷ Variable (variable (OwnComponent (protected_unit 0) (decl 2)) None)
          ∷ Known (Whole (pos 1))
          ∷ Binary binary.Plus (expr 3) (expr 4)
          ∷ Known (Whole (pos 1))
          ∷ Variable (variable (Declared (decl 8)) None)
          ∷ Known (Truth false)
          ∷ Variable (variable (OwnComponent (protected_unit 1) (decl 4)) None)
          ∷ Known (Whole (pos 2))
          ∷ Binary binary.Times (expr 9) (expr 10)
          ∷ Known (Ticks (pos 0))
          ∷ Known (Whole (pos 500))
          ∷ Span (pos 1) (expr 13)
          ∷ Binary binary.Plus (expr 12) (expr 14)
          ∷ Variable (variable (OwnComponent (protected_unit 1) (decl 4)) None)
          ∷ Known (Whole (pos 1))
          ∷ Binary binary.Plus (expr 16) (expr 17)
          ∷ Known (Ticks (pos 4))
          ∷ Known (Whole (pos 5))
          ∷ Known (Whole (pos 1))
          ∷ Known (Whole (pos 3))
          ∷ Known (Ticks (pos 1))
          ∷ Known (Whole (pos 1))
          ∷ Clock
          ∷ Known (Whole (pos 9))
          ∷ Span (pos 1) (expr 26)
          ∷ Binary binary.Plus (expr 25) (expr 27)
          ∷ Known (Whole (pos 7))
          ∷ Span (pos 1) (expr 29)
          ∷ Known (Ticks (pos 12))
          ∷ Known (Ticks (pos 10))
          ∷ Clock
          ∷ Known (Whole (pos 3))
          ∷ Span (pos 1) (expr 34)
          ∷ Binary binary.Plus (expr 33) (expr 35)
          ∷ Known (Ticks (pos 5))
          ∷ Known (Whole (pos 100))
          ∷ Span (pos 1) (expr 38)
          ∷ Known (Whole (pos 40))
          ∷ Span (pos 1) (expr 40)
          ∷ Known (Whole (pos 20))
          ∷ Span (pos 1) (expr 42)
          ∷ Variable (variable (OwnComponent (protected_unit 0) (decl 1)) None)
          ∷ Known (Truth false)
          ∷ Known (Whole (pos 0))
          ∷ Known (Whole (pos 0))
          ∷ [];
      statements =
          statement (form.CallMain) 0 None
          ∷ statement (form.Block (scope 8)) 0 None
          ∷ statement (form.Handled (handler (exception_choice.Named exception.Program ∷ []) (stmt 4) ∷ []) (stmt 3)) 0 None
          ∷ statement (form.SetPriority (expr 0) None) 0 None
          ∷ statement (form.Null) 0 None
          ∷ statement (form.Delay (expr 1)) 0 (Some (stmt 1))
          ∷ statement (form.Assign (variable (OwnComponent (protected_unit 0) (decl 1)) None) (expr 2)) 0 None
          ∷ statement (form.For (decl 9) false (expr 6) (expr 7) (stmt 8) None) 0 (Some (stmt 6))
          ∷ statement (form.FirstTurn (decl 9) false (stmt 10)) 0 (Some (stmt 6))
          ∷ statement (form.LaterTurn (decl 9) false (stmt 10)) 0 (Some (stmt 6))
          ∷ statement (form.Assign (variable (OwnComponent (protected_unit 0) (decl 2)) None) (expr 5)) 1 (Some (stmt 9))
          ∷ statement (form.Assign (variable (OwnComponent (protected_unit 0) (decl 1)) None) (expr 8)) 0 None
          ∷ statement (form.Assign (variable (OwnComponent (protected_unit 1) (decl 4)) None) (expr 11)) 1 None
          ∷ statement (form.SetDeadline (expr 15) None) 2 (Some (stmt 12))
          ∷ statement (form.Assign (variable (OwnComponent (protected_unit 1) (decl 4)) None) (expr 18)) 1 (Some (stmt 13))
          ∷ statement (form.For (decl 10) false (expr 21) (expr 22) (stmt 16) None) 0 None
          ∷ statement (form.FirstTurn (decl 10) false (stmt 19)) 0 None
          ∷ statement (form.LaterTurn (decl 10) false (stmt 19)) 0 None
          ∷ statement (form.Delay (expr 19)) 0 (Some (stmt 17))
          ∷ statement (form.Call (callee.Operation (decl 0) (subprogram 0)) (actual.In (expr 20) ∷ []) destination.Nowhere) 0 (Some (stmt 18))
          ∷ statement (form.Delay (expr 23)) 0 (Some (stmt 15))
          ∷ statement (form.EndActivation) 0 (Some (stmt 20))
          ∷ statement (form.Call (callee.Operation (decl 0) (subprogram 0)) (actual.In (expr 24) ∷ []) destination.Nowhere) 0 None
          ∷ statement (form.DelayUntilAndSetDeadline (expr 28) (expr 30)) 4 (Some (stmt 22))
          ∷ statement (form.Call (callee.Operation (decl 3) (subprogram 1)) [] destination.Nowhere) 0 (Some (stmt 23))
          ∷ statement (form.EntryCall (entry 0) (owner.Object (decl 0)) []) 0 (Some (stmt 24))
          ∷ statement (form.Delay (expr 31)) 0 (Some (stmt 25))
          ∷ statement (form.EndActivation) 0 (Some (stmt 26))
          ∷ statement (form.EntryCall (entry 0) (owner.Object (decl 0)) []) 0 None
          ∷ statement (form.Null) 0 (Some (stmt 28))
          ∷ statement (form.Delay (expr 32)) 0 (Some (stmt 29))
          ∷ statement (form.Null) 0 (Some (stmt 30))
          ∷ statement (form.SetDeadline (expr 36) None) 3 (Some (stmt 31))
          ∷ statement (form.Call (callee.Operation (decl 3) (subprogram 1)) [] destination.Nowhere) 0 (Some (stmt 32))
          ∷ statement (form.Delay (expr 37)) 0 (Some (stmt 33))
          ∷ statement (form.EndActivation) 0 (Some (stmt 34))
          ∷ statement (form.Activate 1) 0 (Some (stmt 0))
          ∷ statement (form.CreateTask (decl 7) 1) 0 (Some (stmt 36))
          ∷ statement (form.CreateTask (decl 6) 1) 0 (Some (stmt 37))
          ∷ statement (form.CreateTask (decl 5) 1) 0 (Some (stmt 38))
          ∷ statement (form.Declare (decl 3)) 0 (Some (stmt 39))
          ∷ statement (form.Declare (decl 0)) 0 (Some (stmt 40))
          ∷ [];
      scopes =
          scope_text None 38 (cell_run 16 1 (Truth false) ∷ []) true (Some (stmt 41))
          ∷ scope_text (Some (scope 0)) 3 [] false (Some (stmt 7))
          ∷ scope_text (Some (scope 0)) 0 [] false (Some (stmt 11))
          ∷ scope_text (Some (scope 0)) 0 [] false (Some (stmt 14))
          ∷ scope_text (Some (scope 0)) 2 [] false (Some (stmt 21))
          ∷ scope_text (Some (scope 0)) 0 [] false (Some (stmt 27))
          ∷ scope_text (Some (scope 0)) 0 [] false (Some (stmt 35))
          ∷ scope_text (Some (scope 0)) 0 [] false (Some (stmt 5))
          ∷ scope_text (Some (scope 7)) 0 [] false (Some (stmt 2))
          ∷ [];
      subprograms =
          subprogram_text (codes "go") (scope 1) (formal (Whole (negsuc 2147483647) (pos 2147483647)) (Whole (pos 0)) ∷ []) None (Some (protected_unit 0))
          ∷ subprogram_text (codes "go") (scope 3) [] None (Some (protected_unit 1))
          ∷ [];
      task_units =
          task_unit_text (scope 4) (Some 5) (Some (expr 39)) []
          ∷ task_unit_text (scope 5) (Some 14) (Some (expr 41)) []
          ∷ task_unit_text (scope 6) (Some 18) (Some (expr 43)) []
          ∷ [];
      protected_units =
          protected_unit_text 12 ((entry 0) ∷ []) ((decl 1) ∷ (decl 2) ∷ []) []
          ∷ protected_unit_text 20 [] ((decl 4) ∷ []) []
          ∷ [];
      entries =
          entry_text (codes "e") (unit.Protected (protected_unit 0)) 0 [] (Some (entry_body (expr 44) (scope 2)))
          ∷ [];
      controlled_types = [];
      enumerations = [];
      policies = (policies (dispatching_range EdfAcrossPriorities 0 30 ∷ []) queuing.Priority None 30);
      environment = (scope 0);
      main = (main_procedure (codes "main") 31 (scope 7));
    }

abbrev pub row_policies_deadlines_script : List (ℤ × Item)
row_policies_deadlines_script = []

-- the lines of its run up to tick 233
unfoldable pub row_policies_deadlines_lines : List (ℕ × Event)
row_policies_deadlines_lines = run_of row_policies_deadlines_program row_policies_deadlines_script 233

unfoldable pub row_policies_deadlines_trace : List (ℕ × Event)
row_policies_deadlines_trace =
    (0, line.New (created.Task (task 0)) (codes "main") 31)
    ∷ (0, line.Ready (t 0) 31 Tail None)
    ∷ (0, line.Run (t 0))
    ∷ (1, line.New (created.Object (p 1)) (codes "pk.p") 12)
    ∷ (2, line.New (created.Object (p 2)) (codes "pk.q") 20)
    ∷ (4, line.New (created.Task (task 1)) (codes "pk.a") 5)
    ∷ (6, line.New (created.Task (task 2)) (codes "pk.b") 14)
    ∷ (8, line.New (created.Task (task 3)) (codes "pk.c") 18)
    ∷ (10, line.Ready (t 1) 31 Tail None)
    ∷ (10, line.Ready (t 2) 31 Tail None)
    ∷ (10, line.Ready (t 3) 31 Tail None)
    ∷ (10, line.Block (t 0) waits.Activation)
    ∷ (10, line.Run (t 1))
    ∷ (13, line.Block (t 1) waits.Delay)
    ∷ (13, line.Run (t 2))
    ∷ (14, line.Ready (t 1) 0 Tail (Some (pos 110)))
    ∷ (16, line.Block (t 2) waits.Delay)
    ∷ (16, line.Run (t 3))
    ∷ (17, line.Ready (t 0) 31 Tail None)
    ∷ (19, line.Block (t 3) waits.Delay)
    ∷ (19, line.Run (t 0))
    ∷ (23, line.Block (t 0) waits.Delay)
    ∷ (23, line.Run (t 1))
    ∷ (24, line.Ready (t 3) 0 Tail (Some (pos 30)))
    ∷ (24, line.Run (t 3))
    ∷ (26, line.Enter (t 3) (p 2) Write)
    ∷ (26, line.Ready (t 3) 20 Head (Some (pos 30)))
    ∷ (28, line.Ready (t 2) 0 Tail (Some (pos 50)))
    ∷ (36, line.Exit (t 3) (p 2))
    ∷ (36, line.Ready (t 3) 0 Head (Some (pos 30)))
    ∷ (36, line.Deadline (task 3) (pos 500))
    ∷ (36, line.Ready (t 3) 0 Tail (Some (pos 500)))
    ∷ (36, line.Run (t 2))
    ∷ (38, line.Raise (t 2) (codes "program_error"))
    ∷ (39, line.Done (task 2))
    ∷ (39, line.Run (t 1))
    ∷ (42, line.Enter (t 1) (p 1) Write)
    ∷ (42, line.Ready (t 1) 12 Head (Some (pos 110)))
    ∷ (62, line.Exit (t 1) (p 1))
    ∷ (62, line.Ready (t 1) 0 Head (Some (pos 110)))
    ∷ (64, line.Block (t 1) waits.Delay)
    ∷ (64, line.Run (t 3))
    ∷ (68, line.Ready (t 1) 0 Tail (Some (pos 110)))
    ∷ (68, line.Run (t 1))
    ∷ (71, line.Enter (t 1) (p 1) Write)
    ∷ (71, line.Ready (t 1) 12 Head (Some (pos 110)))
    ∷ (91, line.Exit (t 1) (p 1))
    ∷ (91, line.Ready (t 1) 0 Head (Some (pos 110)))
    ∷ (93, line.Block (t 1) waits.Delay)
    ∷ (93, line.Run (t 3))
    ∷ (94, line.Deadline (task 3) (pos 97))
    ∷ (94, line.Ready (t 3) 0 Tail (Some (pos 97)))
    ∷ (97, line.Block (t 3) waits.Delay)
    ∷ (97, line.Ready (t 1) 0 Tail (Some (pos 110)))
    ∷ (97, line.Run (t 1))
    ∷ (100, line.Enter (t 1) (p 1) Write)
    ∷ (100, line.Ready (t 1) 12 Head (Some (pos 110)))
    ∷ (107, line.Ready (t 3) 12 Tail (Some (pos 97)))
    ∷ (107, line.Run (t 3))
    ∷ (110, line.Raise (t 3) (codes "program_error"))
    ∷ (111, line.Done (task 3))
    ∷ (111, line.Run (t 1))
    ∷ (124, line.Exit (t 1) (p 1))
    ∷ (124, line.Ready (t 1) 0 Head (Some (pos 110)))
    ∷ (126, line.Block (t 1) waits.Delay)
    ∷ (126, line.Idle)
    ∷ (130, line.Ready (t 1) 0 Tail (Some (pos 110)))
    ∷ (130, line.Run (t 1))
    ∷ (132, line.Done (task 1))
    ∷ (132, line.Idle)
    ∷ (223, line.Ready (t 0) 31 Tail None)
    ∷ (223, line.Run (t 0))
    ∷ (226, line.Raise (t 0) (codes "program_error"))
    ∷ (231, line.Leave (t 0) (region 1) leaves.End)
    ∷ (232, line.Left (t 0) (region 1))
    ∷ (232, line.Done (task 0))
    ∷ (232, line.End end.Completed)
    ∷ []

pub row_policies_deadlines_runs : row_policies_deadlines_lines ≡ row_policies_deadlines_trace
unfolding row_policies_deadlines_lines row_policies_deadlines_trace digits computing
row_policies_deadlines_runs = refl

-- whether every world of its run is well formed
unfoldable pub row_policies_deadlines_worlds : Bool
row_policies_deadlines_worlds = run_is_well_formed row_policies_deadlines_program row_policies_deadlines_script 233

pub row_policies_deadlines_keeps : row_policies_deadlines_worlds ≡ true
unfolding row_policies_deadlines_worlds computing
row_policies_deadlines_keeps = refl

-- whether each handler is released at its tick
unfoldable pub row_policies_deadlines_handlers : Bool
row_policies_deadlines_handlers = releases_ok row_policies_deadlines_program row_policies_deadlines_script 233

pub row_policies_deadlines_releases : row_policies_deadlines_handlers ≡ true
unfolding row_policies_deadlines_handlers computing
row_policies_deadlines_releases = refl
