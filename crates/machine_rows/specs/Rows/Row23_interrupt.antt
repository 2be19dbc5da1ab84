use Rattle.std.specs.Prelude.{◌≡◌, ℕ, ℤ, pos, negsuc, List, [], ◌∷◌, Some, None, true, false, codes, refl}
use Rattle.trace_text.specs.declared.events.Event.{Event}
use Rattle.trace_text.specs.declared.events.Event.TheVariants as line
use Rattle.trace_text.specs.declared.events.Created.TheVariants as created
use Rattle.trace_text.specs.declared.events.Ended.TheVariants as end
use Rattle.trace_text.specs.declared.events.Leaves.TheVariants as leaves
use Rattle.trace_text.specs.declared.events.Mode.TheVariants.{Write}
use Rattle.trace_text.specs.declared.events.QueueEnd.TheVariants.{Tail}
use Rattle.trace_text.specs.declared.events.Waits.TheVariants as waits
use Rattle.profile_image.specs.declared.script_items.Item.{Item}
use Rattle.profile_image.specs.declared.script_items.Item.TheVariants as item
use Rattle.profile_image.specs.declared.image.Image.{Image}
use Rattle.profile_image.specs.declared.image.Queuing.TheVariants as queuing
use Rattle.profile_image.specs.declared.values.Value.TheVariants.{Whole, Truth, Ticks}
use Rattle.profile_image.specs.declared.values.Constraint.TheVariants.{Free, Whole, Truth, Ticks}
use Rattle.profile_image.specs.declared.expressions.Expression.TheVariants.{Known, Variable, Binary, Clock, Span}
use Rattle.profile_image.specs.declared.expressions.ObjectName.TheVariants.{Declared, OwnComponent}
use Rattle.profile_image.specs.declared.expressions.BinaryOperator.TheVariants as binary
use Rattle.profile_image.specs.declared.declarations.DeclarationKind.TheVariants as kind
use Rattle.profile_image.specs.declared.declarations.Initial.TheVariants as initial
use Rattle.profile_image.specs.declared.declarations.EntryUnit.TheVariants as unit
use Rattle.profile_image.specs.declared.statements.StatementForm.TheVariants as form
use Rattle.profile_image.specs.declared.statements.Actual.TheVariants as actual
use Rattle.profile_image.specs.declared.statements.Callee.TheVariants as callee
use Rattle.profile_image.specs.declared.statements.Destination.TheVariants as destination
use Rattle.profile_image.specs.declared.statements.EntryOwner.TheVariants as owner
use Rattle.profile_image.specs.declared.statements.Setting.TheVariants as setting
use Rattle.profile_machine.specs.Notation.{decl, expr, stmt, scope, subprogram, task_unit, protected_unit, entry, task, p, region, t, agent, declaration, variable, statement, handler_name, cell_run, scope_text, formal, subprogram_text, task_unit_text, attachment, protected_unit_text, entry_body, entry_text, policies, main_procedure}
use Rattle.profile_machine.specs.Run.{run_of}
use Rattle.profile_machine.specs.Computing.{computing}
use Rattle.std.specs.Fmt.{digits}

-- Row 23.interrupt: its run up to tick 600.
abbrev pub row_23_interrupt_program : Image
row_23_interrupt_program =
    record {
      declarations =
          declaration (codes "buffer") (codes "plant.buffer") (kind.Protected (protected_unit 0)) (scope 0) 0 18 Free None
          ∷ declaration (codes "full") (codes "plant.buffer.full") (kind.Object (initial.Scalar (expr 32))) (scope 0) 0 1 (Truth false true) None
          ∷ declaration (codes "item") (codes "plant.buffer.item") (kind.Object (initial.Scalar (expr 33))) (scope 0) 1 1 (Whole (negsuc 2147483647) (pos 2147483647)) None
          ∷ declaration (codes "alarm") (codes "plant.alarm") (kind.Protected (protected_unit 1)) (scope 0) 18 17 Free None
          ∷ declaration (codes "hits") (codes "plant.alarm.hits") (kind.Object (initial.Scalar (expr 34))) (scope 0) 0 1 (Whole (negsuc 2147483647) (pos 2147483647)) None
          ∷ declaration (codes "dog") (codes "plant.dog") kind.Event (scope 0) 35 1 Free None
          ∷ declaration (codes "writer") (codes "plant.writer") (kind.Task (task_unit 0)) (scope 0) 36 1 Free None
          ∷ declaration (codes "reader") (codes "plant.reader") (kind.Task (task_unit 1)) (scope 0) 37 1 Free None
          ∷ declaration (codes "watch") (codes "plant.watch") (kind.Task (task_unit 2)) (scope 0) 38 1 Free None
          ∷ declaration (codes "x") (codes "plant.buffer.x") kind.Parameter (scope 1) 0 1 (Whole (negsuc 2147483647) (pos 2147483647)) None
          ∷ declaration (codes "x") (codes "plant.buffer.x") kind.Parameter (scope 2) 0 1 (Whole (negsuc 2147483647) (pos 2147483647)) None
          ∷ declaration (codes "event") (codes "plant.alarm.event") kind.Parameter (scope 4) 0 1 Free None
          ∷ declaration (codes "next") (codes "plant.writer.next") (kind.Object (initial.Scalar (expr 35))) (scope 5) 0 1 Free None
          ∷ declaration (codes "n") (codes "plant.writer.n") (kind.Object (initial.Scalar (expr 36))) (scope 5) 1 1 (Whole (negsuc 2147483647) (pos 2147483647)) None
          ∷ declaration (codes "next") (codes "plant.reader.next") (kind.Object (initial.Scalar (expr 37))) (scope 6) 0 1 Free None
          ∷ declaration (codes "v") (codes "plant.reader.v") (kind.Object initial.Default) (scope 6) 1 1 (Whole (negsuc 2147483647) (pos 2147483647)) None
          ∷ declaration (codes "next") (codes "plant.watch.next") (kind.Object (initial.Scalar (expr 38))) (scope 7) 0 1 Free None
          ∷ [];
      expressions =
          Known (Truth true)
          ∷ Variable (variable (Declared (decl 9)) None)
          ∷ Known (Truth false)
          ∷ Variable (variable (OwnComponent (protected_unit 0) (decl 2)) None)
          ∷ Variable (variable (OwnComponent (protected_unit 1) (decl 4)) None)
          ∷ Known (Whole (pos 1))
          ∷ Binary binary.Plus (expr 4) (expr 5)
          ∷ Variable (variable (OwnComponent (protected_unit 1) (decl 4)) None)
          ∷ Known (Whole (pos 100))
          ∷ Binary binary.Plus (expr 7) (expr 8)
          ∷ Variable (variable (Declared (decl 13)) None)
          ∷ Variable (variable (Declared (decl 13)) None)
          ∷ Known (Whole (pos 1))
          ∷ Binary binary.Plus (expr 11) (expr 12)
          ∷ Variable (variable (Declared (decl 12)) None)
          ∷ Variable (variable (Declared (decl 12)) None)
          ∷ Known (Whole (pos 10))
          ∷ Span (pos 1000) (expr 16)
          ∷ Binary binary.Plus (expr 15) (expr 17)
          ∷ Variable (variable (Declared (decl 14)) None)
          ∷ Variable (variable (Declared (decl 14)) None)
          ∷ Known (Whole (pos 20))
          ∷ Span (pos 1000) (expr 21)
          ∷ Binary binary.Plus (expr 20) (expr 22)
          ∷ Known (Whole (pos 90))
          ∷ Span (pos 1000) (expr 24)
          ∷ Variable (variable (Declared (decl 16)) None)
          ∷ Variable (variable (Declared (decl 16)) None)
          ∷ Known (Whole (pos 40))
          ∷ Span (pos 1000) (expr 28)
          ∷ Binary binary.Plus (expr 27) (expr 29)
          ∷ Variable (variable (OwnComponent (protected_unit 0) (decl 1)) None)
          ∷ Known (Truth false)
          ∷ Known (Whole (pos 0))
          ∷ Known (Whole (pos 0))
          ∷ Clock
          ∷ Known (Whole (pos 0))
          ∷ Clock
          ∷ Clock
          ∷ [];
      statements =
          statement (form.CallMain) 0 None
          ∷ statement (form.Null) 0 None
          ∷ statement (form.Assign (variable (OwnComponent (protected_unit 0) (decl 1)) None) (expr 0)) 0 None
          ∷ statement (form.Assign (variable (OwnComponent (protected_unit 0) (decl 2)) None) (expr 1)) 0 (Some (stmt 2))
          ∷ statement (form.Assign (variable (OwnComponent (protected_unit 0) (decl 1)) None) (expr 2)) 0 None
          ∷ statement (form.Assign (variable (Declared (decl 10)) None) (expr 3)) 0 (Some (stmt 4))
          ∷ statement (form.Assign (variable (OwnComponent (protected_unit 1) (decl 4)) None) (expr 6)) 1 None
          ∷ statement (form.Assign (variable (OwnComponent (protected_unit 1) (decl 4)) None) (expr 9)) 1 None
          ∷ statement (form.Loop (stmt 12) None) 0 None
          ∷ statement (form.Call (callee.Operation (decl 0) (subprogram 0)) (actual.In (expr 10) ∷ []) destination.Nowhere) 0 (Some (stmt 8))
          ∷ statement (form.Assign (variable (Declared (decl 13)) None) (expr 13)) 1 (Some (stmt 9))
          ∷ statement (form.DelayUntil (expr 14)) 0 (Some (stmt 10))
          ∷ statement (form.Assign (variable (Declared (decl 12)) None) (expr 18)) 2 (Some (stmt 11))
          ∷ statement (form.EndActivation) 0 (Some (stmt 8))
          ∷ statement (form.Declare (decl 13)) 0 (Some (stmt 13))
          ∷ statement (form.Declare (decl 12)) 1 (Some (stmt 14))
          ∷ statement (form.Loop (stmt 21) None) 0 None
          ∷ statement (form.EntryCall (entry 0) (owner.Object (decl 0)) (actual.Out (variable (Declared (decl 15)) None) ∷ [])) 0 (Some (stmt 16))
          ∷ statement (form.Null) 0 (Some (stmt 16))
          ∷ statement (form.ConditionalCall (stmt 17) (stmt 18)) 0 (Some (stmt 16))
          ∷ statement (form.DelayUntil (expr 19)) 0 (Some (stmt 19))
          ∷ statement (form.Assign (variable (Declared (decl 14)) None) (expr 23)) 2 (Some (stmt 20))
          ∷ statement (form.EndActivation) 0 (Some (stmt 16))
          ∷ statement (form.Declare (decl 15)) 0 (Some (stmt 22))
          ∷ statement (form.Declare (decl 14)) 1 (Some (stmt 23))
          ∷ statement (form.Loop (stmt 28) None) 0 None
          ∷ statement (form.SetEvent (decl 5) (setting.In (expr 25)) (Some (handler_name (decl 3) (subprogram 2)))) 1 (Some (stmt 25))
          ∷ statement (form.DelayUntil (expr 26)) 0 (Some (stmt 26))
          ∷ statement (form.Assign (variable (Declared (decl 16)) None) (expr 30)) 2 (Some (stmt 27))
          ∷ statement (form.EndActivation) 0 (Some (stmt 25))
          ∷ statement (form.Declare (decl 16)) 1 (Some (stmt 29))
          ∷ statement (form.Activate 1) 0 (Some (stmt 0))
          ∷ statement (form.CreateTask (decl 8) 1) 0 (Some (stmt 31))
          ∷ statement (form.CreateTask (decl 7) 1) 0 (Some (stmt 32))
          ∷ statement (form.CreateTask (decl 6) 1) 0 (Some (stmt 33))
          ∷ statement (form.Declare (decl 5)) 0 (Some (stmt 34))
          ∷ statement (form.Declare (decl 3)) 0 (Some (stmt 35))
          ∷ statement (form.Declare (decl 0)) 0 (Some (stmt 36))
          ∷ [];
      scopes =
          scope_text None 39 (cell_run 16 1 (Truth false) ∷ []) true (Some (stmt 37))
          ∷ scope_text (Some (scope 0)) 1 [] false (Some (stmt 3))
          ∷ scope_text (Some (scope 0)) 1 [] false (Some (stmt 5))
          ∷ scope_text (Some (scope 0)) 0 [] false (Some (stmt 6))
          ∷ scope_text (Some (scope 0)) 1 [] false (Some (stmt 7))
          ∷ scope_text (Some (scope 0)) 2 (cell_run 0 1 (Ticks (pos 0)) ∷ []) false (Some (stmt 15))
          ∷ scope_text (Some (scope 0)) 2 (cell_run 0 1 (Ticks (pos 0)) ∷ []) false (Some (stmt 24))
          ∷ scope_text (Some (scope 0)) 1 (cell_run 0 1 (Ticks (pos 0)) ∷ []) false (Some (stmt 30))
          ∷ scope_text (Some (scope 0)) 0 [] false (Some (stmt 1))
          ∷ [];
      subprograms =
          subprogram_text (codes "put") (scope 1) (formal (Whole (negsuc 2147483647) (pos 2147483647)) (Whole (pos 0)) ∷ []) None (Some (protected_unit 0))
          ∷ subprogram_text (codes "strike") (scope 3) [] None (Some (protected_unit 1))
          ∷ subprogram_text (codes "late") (scope 4) (formal Free (Whole (pos 0)) ∷ []) None (Some (protected_unit 1))
          ∷ [];
      task_units =
          task_unit_text (scope 5) (Some 20) None []
          ∷ task_unit_text (scope 6) (Some 22) None []
          ∷ task_unit_text (scope 7) (Some 24) None []
          ∷ [];
      protected_units =
          protected_unit_text 25 ((entry 0) ∷ []) ((decl 1) ∷ (decl 2) ∷ []) []
          ∷ protected_unit_text 31 [] ((decl 4) ∷ []) (attachment 3 (subprogram 1) ∷ [])
          ∷ [];
      entries =
          entry_text (codes "get") (unit.Protected (protected_unit 0)) 0 (formal (Whole (negsuc 2147483647) (pos 2147483647)) (Whole (pos 0)) ∷ []) (Some (entry_body (expr 31) (scope 2)))
          ∷ [];
      controlled_types = [];
      enumerations = [];
      policies = (policies [] queuing.Fifo None 30);
      environment = (scope 0);
      main = (main_procedure (codes "main") 15 (scope 8));
    }

abbrev pub row_23_interrupt_script : List (ℤ × Item)
row_23_interrupt_script =
    (pos 550, item.Interrupt 3)
    ∷ []

-- the lines of its run up to tick 600
unfoldable pub row_23_interrupt_lines : List (ℕ × Event)
row_23_interrupt_lines = run_of row_23_interrupt_program row_23_interrupt_script 600

unfoldable pub row_23_interrupt_trace : List (ℕ × Event)
row_23_interrupt_trace =
    (0, line.New (created.Task (task 0)) (codes "main") 15)
    ∷ (0, line.Ready (t 0) 15 Tail None)
    ∷ (0, line.Run (t 0))
    ∷ (1, line.New (created.Object (p 1)) (codes "plant.buffer") 25)
    ∷ (2, line.New (created.Object (p 2)) (codes "plant.alarm") 31)
    ∷ (5, line.New (created.Task (task 1)) (codes "plant.writer") 20)
    ∷ (7, line.New (created.Task (task 2)) (codes "plant.reader") 22)
    ∷ (9, line.New (created.Task (task 3)) (codes "plant.watch") 24)
    ∷ (11, line.Ready (t 1) 20 Tail None)
    ∷ (11, line.Ready (t 2) 22 Tail None)
    ∷ (11, line.Ready (t 3) 24 Tail None)
    ∷ (11, line.Block (t 0) waits.Activation)
    ∷ (11, line.Run (t 3))
    ∷ (20, line.Block (t 3) waits.Delay)
    ∷ (20, line.Run (t 2))
    ∷ (30, line.Block (t 2) waits.Delay)
    ∷ (30, line.Run (t 1))
    ∷ (34, line.Ready (t 0) 15 Tail None)
    ∷ (40, line.Block (t 1) waits.Delay)
    ∷ (40, line.Run (t 0))
    ∷ (45, line.Leave (t 0) (region 1) leaves.End)
    ∷ (45, line.Block (t 0) waits.Dependents)
    ∷ (45, line.Idle)
    ∷ (550, line.Interrupt 3)
    ∷ (550, line.Release 1 (p 2) (codes "strike"))
    ∷ (550, line.Ready agent 31 Tail None)
    ∷ (550, line.Run agent)
    ∷ (550, line.Serve 1)
    ∷ (552, line.Enter agent (p 2) Write)
    ∷ (556, line.Exit agent (p 2))
    ∷ (556, line.Served 1)
    ∷ (556, line.Block agent waits.Release)
    ∷ (556, line.Idle)
    ∷ (600, line.End end.Bound)
    ∷ []

pub row_23_interrupt_runs : row_23_interrupt_lines ≡ row_23_interrupt_trace
unfolding row_23_interrupt_lines row_23_interrupt_trace digits computing
row_23_interrupt_runs = refl
