use Rattle.std.specs.Prelude.{◌≡◌, ℕ, ℤ, pos, List, [], ◌∷◌, Some, None, true, false, codes, refl}
use Rattle.trace_text.specs.declared.events.Event.{Event}
use Rattle.trace_text.specs.declared.events.Event.TheVariants as line
use Rattle.trace_text.specs.declared.events.Created.TheVariants as created
use Rattle.trace_text.specs.declared.events.Ended.TheVariants as end
use Rattle.trace_text.specs.declared.events.Leaves.TheVariants as leaves
use Rattle.trace_text.specs.declared.events.Mode.TheVariants.{Write}
use Rattle.trace_text.specs.declared.events.QueueEnd.TheVariants.{Head, Tail}
use Rattle.trace_text.specs.declared.events.Waits.TheVariants as waits
use Rattle.profile_image.specs.declared.script_items.Item.{Item}
use Rattle.profile_image.specs.declared.image.Image.{Image}
use Rattle.profile_image.specs.declared.image.Dispatching.TheVariants.{EdfAcrossPriorities}
use Rattle.profile_image.specs.declared.image.Queuing.TheVariants as queuing
use Rattle.profile_image.specs.declared.values.Value.TheVariants.{Whole, Ticks}
use Rattle.profile_image.specs.declared.values.Constraint.TheVariants.{Free, Whole, Ticks}
use Rattle.profile_image.specs.declared.expressions.Expression.TheVariants.{Known, Span}
use Rattle.profile_image.specs.declared.declarations.DeclarationKind.TheVariants as kind
use Rattle.profile_image.specs.declared.statements.StatementForm.TheVariants as form
use Rattle.profile_image.specs.declared.statements.Callee.TheVariants as callee
use Rattle.profile_image.specs.declared.statements.Destination.TheVariants as destination
use Rattle.profile_machine.specs.Notation.{decl, expr, stmt, scope, subprogram, task_unit, protected_unit, task, p, region, t, declaration, statement, scope_text, subprogram_text, task_unit_text, protected_unit_text, dispatching_range, policies, main_procedure}
use Rattle.profile_machine.specs.Run.{run_of}
use Rattle.profile_machine.specs.Computing.{computing}
use Rattle.std.specs.Fmt.{digits}
use Rattle.std.specs.Prelude.{Bool}
use Rattle.profile_machine.specs.WellFormed.{run_is_well_formed}
use Rattle.profile_machine.specs.Releases.{releases_ok}

-- Row edf.rivals: its run stops before tick 57, so every greater bound gives the same trace.
abbrev pub row_edf_rivals_program : Image
row_edf_rivals_program =
    record {
      declarations =
          declaration (codes "p") (codes "pk.p") (kind.Protected (protected_unit 0)) (scope 0) 0 16 Free None
          ∷ declaration (codes "a") (codes "pk.a") (kind.Task (task_unit 0)) (scope 0) 16 1 Free None
          ∷ declaration (codes "b") (codes "pk.b") (kind.Task (task_unit 1)) (scope 0) 17 1 Free None
          ∷ declaration (codes "c") (codes "pk.c") (kind.Task (task_unit 2)) (scope 0) 18 1 Free None
          ∷ declaration (codes "d") (codes "pk.d") (kind.Task (task_unit 3)) (scope 0) 19 1 Free None
          ∷ declaration (codes "e") (codes "pk.e") (kind.Task (task_unit 4)) (scope 0) 20 1 Free None
          ∷ [];
      expressions =
          Known (Ticks (pos 1))
          ∷ Known (Ticks (pos 1))
          ∷ Known (Ticks (pos 18))
          ∷ Known (Ticks (pos 17))
          ∷ Known (Ticks (pos 29))
          ∷ Known (Ticks (pos 8))
          ∷ Known (Whole (pos 100))
          ∷ Span (pos 1) (expr 6)
          ∷ Known (Whole (pos 40))
          ∷ Span (pos 1) (expr 8)
          ∷ Known (Whole (pos 20))
          ∷ Span (pos 1) (expr 10)
          ∷ Known (Whole (pos 10))
          ∷ Span (pos 1) (expr 12)
          ∷ Known (Whole (pos 200))
          ∷ Span (pos 1) (expr 14)
          ∷ [];
      statements =
          statement (form.CallMain) 0 None
          ∷ statement (form.Null) 0 None
          ∷ statement (form.Null) 0 None
          ∷ statement (form.Null) 0 (Some (stmt 2))
          ∷ statement (form.Null) 0 (Some (stmt 3))
          ∷ statement (form.Null) 0 (Some (stmt 4))
          ∷ statement (form.Null) 0 (Some (stmt 5))
          ∷ statement (form.Null) 0 (Some (stmt 6))
          ∷ statement (form.Null) 0 (Some (stmt 7))
          ∷ statement (form.Call (callee.Operation (decl 0) (subprogram 0)) [] destination.Nowhere) 0 None
          ∷ statement (form.Delay (expr 0)) 0 (Some (stmt 9))
          ∷ statement (form.EndActivation) 0 (Some (stmt 10))
          ∷ statement (form.Delay (expr 1)) 0 None
          ∷ statement (form.Delay (expr 2)) 0 (Some (stmt 12))
          ∷ statement (form.EndActivation) 0 (Some (stmt 13))
          ∷ statement (form.Delay (expr 3)) 0 None
          ∷ statement (form.EndActivation) 0 (Some (stmt 15))
          ∷ statement (form.Delay (expr 4)) 0 None
          ∷ statement (form.EndActivation) 0 (Some (stmt 17))
          ∷ statement (form.Delay (expr 5)) 0 None
          ∷ statement (form.EndActivation) 0 (Some (stmt 19))
          ∷ statement (form.Activate 1) 0 (Some (stmt 0))
          ∷ statement (form.CreateTask (decl 5) 1) 0 (Some (stmt 21))
          ∷ statement (form.CreateTask (decl 4) 1) 0 (Some (stmt 22))
          ∷ statement (form.CreateTask (decl 3) 1) 0 (Some (stmt 23))
          ∷ statement (form.CreateTask (decl 2) 1) 0 (Some (stmt 24))
          ∷ statement (form.CreateTask (decl 1) 1) 0 (Some (stmt 25))
          ∷ statement (form.Declare (decl 0)) 0 (Some (stmt 26))
          ∷ [];
      scopes =
          scope_text None 21 [] true (Some (stmt 27))
          ∷ scope_text (Some (scope 0)) 0 [] false (Some (stmt 8))
          ∷ scope_text (Some (scope 0)) 0 [] false (Some (stmt 11))
          ∷ scope_text (Some (scope 0)) 0 [] false (Some (stmt 14))
          ∷ scope_text (Some (scope 0)) 0 [] false (Some (stmt 16))
          ∷ scope_text (Some (scope 0)) 0 [] false (Some (stmt 18))
          ∷ scope_text (Some (scope 0)) 0 [] false (Some (stmt 20))
          ∷ scope_text (Some (scope 0)) 0 [] false (Some (stmt 1))
          ∷ [];
      subprograms =
          subprogram_text (codes "go") (scope 1) [] None (Some (protected_unit 0))
          ∷ [];
      task_units =
          task_unit_text (scope 2) (Some 5) (Some (expr 7)) []
          ∷ task_unit_text (scope 3) (Some 18) (Some (expr 9)) []
          ∷ task_unit_text (scope 4) (Some 12) (Some (expr 11)) []
          ∷ task_unit_text (scope 5) (Some 5) (Some (expr 13)) []
          ∷ task_unit_text (scope 6) (Some 18) (Some (expr 15)) []
          ∷ [];
      protected_units =
          protected_unit_text 12 [] [] []
          ∷ [];
      entries = [];
      controlled_types = [];
      enumerations = [];
      policies = (policies (dispatching_range EdfAcrossPriorities 0 30 ∷ []) queuing.Fifo None 30);
      environment = (scope 0);
      main = (main_procedure (codes "main") 31 (scope 7));
    }

abbrev pub row_edf_rivals_script : List (ℤ × Item)
row_edf_rivals_script = []

-- the lines of its run up to tick 57
unfoldable pub row_edf_rivals_lines : List (ℕ × Event)
row_edf_rivals_lines = run_of row_edf_rivals_program row_edf_rivals_script 57

unfoldable pub row_edf_rivals_trace : List (ℕ × Event)
row_edf_rivals_trace =
    (0, line.New (created.Task (task 0)) (codes "main") 31)
    ∷ (0, line.Ready (t 0) 31 Tail None)
    ∷ (0, line.Run (t 0))
    ∷ (1, line.New (created.Object (p 1)) (codes "pk.p") 12)
    ∷ (3, line.New (created.Task (task 1)) (codes "pk.a") 5)
    ∷ (5, line.New (created.Task (task 2)) (codes "pk.b") 18)
    ∷ (7, line.New (created.Task (task 3)) (codes "pk.c") 12)
    ∷ (9, line.New (created.Task (task 4)) (codes "pk.d") 5)
    ∷ (11, line.New (created.Task (task 5)) (codes "pk.e") 18)
    ∷ (13, line.Ready (t 1) 31 Tail None)
    ∷ (13, line.Ready (t 2) 31 Tail None)
    ∷ (13, line.Ready (t 3) 31 Tail None)
    ∷ (13, line.Ready (t 4) 31 Tail None)
    ∷ (13, line.Ready (t 5) 31 Tail None)
    ∷ (13, line.Block (t 0) waits.Activation)
    ∷ (13, line.Run (t 1))
    ∷ (16, line.Block (t 1) waits.Delay)
    ∷ (16, line.Run (t 2))
    ∷ (17, line.Ready (t 1) 0 Tail (Some (pos 113)))
    ∷ (19, line.Block (t 2) waits.Delay)
    ∷ (19, line.Run (t 3))
    ∷ (22, line.Block (t 3) waits.Delay)
    ∷ (22, line.Run (t 4))
    ∷ (25, line.Block (t 4) waits.Delay)
    ∷ (25, line.Run (t 5))
    ∷ (26, line.Ready (t 0) 31 Tail None)
    ∷ (28, line.Block (t 5) waits.Delay)
    ∷ (28, line.Run (t 0))
    ∷ (33, line.Leave (t 0) (region 1) leaves.End)
    ∷ (33, line.Block (t 0) waits.Dependents)
    ∷ (33, line.Run (t 1))
    ∷ (35, line.Enter (t 1) (p 1) Write)
    ∷ (35, line.Ready (t 1) 12 Head (Some (pos 113)))
    ∷ (36, line.Ready (t 5) 0 Tail (Some (pos 213)))
    ∷ (37, line.Ready (t 2) 12 Tail (Some (pos 53)))
    ∷ (37, line.Run (t 2))
    ∷ (39, line.Block (t 2) waits.Delay)
    ∷ (39, line.Ready (t 3) 0 Tail (Some (pos 33)))
    ∷ (39, line.Run (t 1))
    ∷ (40, line.Ready (t 2) 0 Tail (Some (pos 53)))
    ∷ (46, line.Exit (t 1) (p 1))
    ∷ (46, line.Ready (t 1) 0 Head (Some (pos 113)))
    ∷ (46, line.Run (t 3))
    ∷ (47, line.Done (task 3))
    ∷ (47, line.Run (t 2))
    ∷ (48, line.Done (task 2))
    ∷ (48, line.Run (t 1))
    ∷ (49, line.Done (task 1))
    ∷ (49, line.Run (t 5))
    ∷ (50, line.Done (task 5))
    ∷ (50, line.Idle)
    ∷ (54, line.Ready (t 4) 0 Tail (Some (pos 23)))
    ∷ (54, line.Run (t 4))
    ∷ (55, line.Done (task 4))
    ∷ (55, line.Ready (t 0) 31 Tail None)
    ∷ (55, line.Run (t 0))
    ∷ (56, line.Left (t 0) (region 1))
    ∷ (56, line.Done (task 0))
    ∷ (56, line.End end.Completed)
    ∷ []

pub row_edf_rivals_runs : row_edf_rivals_lines ≡ row_edf_rivals_trace
unfolding row_edf_rivals_lines row_edf_rivals_trace digits computing
row_edf_rivals_runs = refl

-- whether every world of its run is well formed
unfoldable pub row_edf_rivals_worlds : Bool
row_edf_rivals_worlds = run_is_well_formed row_edf_rivals_program row_edf_rivals_script 57

pub row_edf_rivals_keeps : row_edf_rivals_worlds ≡ true
unfolding row_edf_rivals_worlds computing
row_edf_rivals_keeps = refl

-- whether each handler is released at its tick
unfoldable pub row_edf_rivals_handlers : Bool
row_edf_rivals_handlers = releases_ok row_edf_rivals_program row_edf_rivals_script 57

pub row_edf_rivals_releases : row_edf_rivals_handlers ≡ true
unfolding row_edf_rivals_handlers computing
row_edf_rivals_releases = refl
