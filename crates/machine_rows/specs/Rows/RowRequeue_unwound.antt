use Rattle.std.specs.Prelude.{◌≡◌, ℕ, ℤ, pos, List, [], ◌∷◌, Some, None, true, false, codes, refl}
use Rattle.trace_text.specs.declared.events.Event.{Event}
use Rattle.trace_text.specs.declared.events.Event.TheVariants as line
use Rattle.trace_text.specs.declared.events.Created.TheVariants as created
use Rattle.trace_text.specs.declared.events.Ended.TheVariants as end
use Rattle.trace_text.specs.declared.events.Finished.TheVariants as finished
use Rattle.trace_text.specs.declared.events.Leaves.TheVariants as leaves
use Rattle.trace_text.specs.declared.events.Mode.TheVariants.{Write}
use Rattle.trace_text.specs.declared.events.QueueEnd.TheVariants.{Head, Tail}
use Rattle.trace_text.specs.declared.events.Waits.TheVariants as waits
use Rattle.profile_image.specs.declared.script_items.Item.{Item}
use Rattle.profile_image.specs.declared.image.Image.{Image}
use Rattle.profile_image.specs.declared.image.Queuing.TheVariants as queuing
use Rattle.profile_image.specs.declared.values.Value.TheVariants.{Truth, Ticks}
use Rattle.profile_image.specs.declared.values.Constraint.TheVariants.{Free, Truth, Ticks}
use Rattle.profile_image.specs.declared.expressions.Expression.TheVariants.{Known, Variable}
use Rattle.profile_image.specs.declared.expressions.ObjectName.TheVariants.{OwnComponent}
use Rattle.profile_image.specs.declared.declarations.DeclarationKind.TheVariants as kind
use Rattle.profile_image.specs.declared.declarations.Initial.TheVariants as initial
use Rattle.profile_image.specs.declared.declarations.EntryUnit.TheVariants as unit
use Rattle.profile_image.specs.declared.statements.StatementForm.TheVariants as form
use Rattle.profile_image.specs.declared.statements.EntryOwner.TheVariants as owner
use Rattle.profile_machine.specs.Notation.{decl, expr, stmt, scope, task_unit, protected_unit, entry, task, call, p, region, t, of_object, declaration, variable, statement, cell_run, scope_text, task_unit_text, protected_unit_text, entry_body, entry_text, policies, main_procedure}
use Rattle.profile_machine.specs.Run.{run_of}
use Rattle.profile_machine.specs.Computing.{computing}
use Rattle.std.specs.Fmt.{digits}
use Rattle.std.specs.Prelude.{Bool}
use Rattle.profile_machine.specs.WellFormed.{run_is_well_formed}
use Rattle.profile_machine.specs.Releases.{releases_ok}

-- Row requeue.unwound: its run stops before tick 26, so every greater bound gives the same trace.
abbrev pub row_requeue_unwound_program : Image
row_requeue_unwound_program =
    record {
      declarations =
          declaration (codes "o") (codes "main.o") (kind.Protected (protected_unit 0)) (scope 1) 0 17 Free None
          ∷ declaration (codes "b") (codes "main.o.b") (kind.Object (initial.Scalar (expr 3))) (scope 0) 0 1 (Truth false true) None
          ∷ declaration (codes "c") (codes "main.c") (kind.Task (task_unit 0)) (scope 1) 17 1 Free None
          ∷ [];
      expressions =
          Known (Ticks (pos 4))
          ∷ Known (Truth true)
          ∷ Variable (variable (OwnComponent (protected_unit 0) (decl 1)) None)
          ∷ Known (Truth false)
          ∷ [];
      statements =
          statement (form.CallMain) 0 None
          ∷ statement (form.Requeue (entry 1) owner.Own true) 0 None
          ∷ statement (form.Null) 0 (Some (stmt 1))
          ∷ statement (form.Null) 0 (Some (stmt 2))
          ∷ statement (form.Null) 0 (Some (stmt 3))
          ∷ statement (form.Null) 0 None
          ∷ statement (form.EntryCall (entry 0) (owner.Object (decl 0)) []) 0 None
          ∷ statement (form.EndActivation) 0 (Some (stmt 6))
          ∷ statement (form.Abort ((decl 2) ∷ [])) 0 None
          ∷ statement (form.Delay (expr 0)) 0 (Some (stmt 8))
          ∷ statement (form.Activate 0) 0 (Some (stmt 9))
          ∷ statement (form.CreateTask (decl 2) 0) 0 (Some (stmt 10))
          ∷ statement (form.Declare (decl 0)) 0 (Some (stmt 11))
          ∷ [];
      scopes =
          scope_text None 0 [] false (Some (stmt 0))
          ∷ scope_text (Some (scope 0)) 18 (cell_run 16 1 (Truth false) ∷ []) true (Some (stmt 12))
          ∷ scope_text (Some (scope 1)) 0 [] false (Some (stmt 4))
          ∷ scope_text (Some (scope 1)) 0 [] false (Some (stmt 5))
          ∷ scope_text (Some (scope 1)) 0 [] false (Some (stmt 7))
          ∷ [];
      subprograms = [];
      task_units =
          task_unit_text (scope 4) (Some 10) None []
          ∷ [];
      protected_units =
          protected_unit_text 20 ((entry 0) ∷ (entry 1) ∷ []) ((decl 1) ∷ []) []
          ∷ [];
      entries =
          entry_text (codes "e") (unit.Protected (protected_unit 0)) 0 [] (Some (entry_body (expr 1) (scope 2)))
          ∷ entry_text (codes "f") (unit.Protected (protected_unit 0)) 1 [] (Some (entry_body (expr 2) (scope 3)))
          ∷ [];
      controlled_types = [];
      enumerations = [];
      policies = (policies [] queuing.Fifo None 30);
      environment = (scope 0);
      main = (main_procedure (codes "main") 25 (scope 1));
    }

abbrev pub row_requeue_unwound_script : List (ℤ × Item)
row_requeue_unwound_script = []

-- the lines of its run up to tick 26
unfoldable pub row_requeue_unwound_lines : List (ℕ × Event)
row_requeue_unwound_lines = run_of row_requeue_unwound_program row_requeue_unwound_script 26

unfoldable pub row_requeue_unwound_trace : List (ℕ × Event)
row_requeue_unwound_trace =
    (0, line.New (created.Task (task 0)) (codes "main") 25)
    ∷ (0, line.Ready (t 0) 25 Tail None)
    ∷ (0, line.Run (t 0))
    ∷ (3, line.New (created.Object (p 1)) (codes "main.o") 20)
    ∷ (5, line.New (created.Task (task 1)) (codes "main.c") 10)
    ∷ (7, line.Ready (t 1) 25 Tail None)
    ∷ (7, line.Block (t 0) waits.Activation)
    ∷ (7, line.Run (t 1))
    ∷ (8, line.Ready (t 0) 25 Tail None)
    ∷ (8, line.Ready (t 1) 10 Head None)
    ∷ (8, line.Run (t 0))
    ∷ (10, line.Block (t 0) waits.Delay)
    ∷ (10, line.Run (t 1))
    ∷ (12, line.Call (task 1) (call 1) (of_object 1 (codes "e")) 10)
    ∷ (12, line.Enter (t 1) (p 1) Write)
    ∷ (12, line.Start (t 1) (call 1))
    ∷ (12, line.Ready (t 1) 20 Head None)
    ∷ (14, line.Ready (t 0) 25 Tail None)
    ∷ (14, line.Run (t 0))
    ∷ (16, line.Abort (task 0) (task 1))
    ∷ (17, line.Leave (t 0) (region 1) leaves.End)
    ∷ (17, line.Block (t 0) waits.Dependents)
    ∷ (17, line.Run (t 1))
    ∷ (22, line.Finish (t 1) (call 1) finished.Requeue)
    ∷ (22, line.Call (task 1) (call 1) (of_object 1 (codes "f")) 10)
    ∷ (22, line.Exit (t 1) (p 1))
    ∷ (22, line.Cancel (task 1) (call 1))
    ∷ (22, line.Ready (t 1) 10 Head None)
    ∷ (23, line.Done (task 1))
    ∷ (23, line.Ready (t 0) 25 Tail None)
    ∷ (23, line.Run (t 0))
    ∷ (24, line.Left (t 0) (region 1))
    ∷ (25, line.Done (task 0))
    ∷ (25, line.End end.Completed)
    ∷ []

pub row_requeue_unwound_runs : row_requeue_unwound_lines ≡ row_requeue_unwound_trace
unfolding row_requeue_unwound_lines row_requeue_unwound_trace digits computing
row_requeue_unwound_runs = refl

-- whether every world of its run is well formed
unfoldable pub row_requeue_unwound_worlds : Bool
row_requeue_unwound_worlds = run_is_well_formed row_requeue_unwound_program row_requeue_unwound_script 26

pub row_requeue_unwound_keeps : row_requeue_unwound_worlds ≡ true
unfolding row_requeue_unwound_worlds computing
row_requeue_unwound_keeps = refl

-- whether each handler is released at its tick
unfoldable pub row_requeue_unwound_handlers : Bool
row_requeue_unwound_handlers = releases_ok row_requeue_unwound_program row_requeue_unwound_script 26

pub row_requeue_unwound_releases : row_requeue_unwound_handlers ≡ true
unfolding row_requeue_unwound_handlers computing
row_requeue_unwound_releases = refl
