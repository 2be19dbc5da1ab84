use Rattle.std.specs.Prelude.{◌≡◌, ℕ, ℤ, List, [], ◌∷◌, Some, None, true, false, codes, refl}
use Rattle.ann_base.specs.declared.exceptions.Raised.TheVariants as exception
use Rattle.trace_text.specs.declared.events.Event.{Event}
use Rattle.trace_text.specs.declared.events.Event.TheVariants as line
use Rattle.trace_text.specs.declared.events.Created.TheVariants as created
use Rattle.trace_text.specs.declared.events.Ended.TheVariants as end
use Rattle.trace_text.specs.declared.events.Finished.TheVariants as finished
use Rattle.trace_text.specs.declared.events.Leaves.TheVariants as leaves
use Rattle.trace_text.specs.declared.events.Mode.TheVariants.{Write}
use Rattle.trace_text.specs.declared.events.QueueEnd.TheVariants.{Head, Tail}
use Rattle.trace_text.specs.declared.events.Waits.TheVariants as waits
use Rattle.profile_image.specs.declared.script_items.Item.{Item}
use Rattle.profile_image.specs.declared.image.Image.{Image}
use Rattle.profile_image.specs.declared.image.Queuing.TheVariants as queuing
use Rattle.profile_image.specs.declared.values.Value.TheVariants.{Truth}
use Rattle.profile_image.specs.declared.values.Constraint.TheVariants.{Free, Truth}
use Rattle.profile_image.specs.declared.expressions.Expression.TheVariants.{Known, Variable}
use Rattle.profile_image.specs.declared.expressions.ObjectName.TheVariants.{OwnComponent}
use Rattle.profile_image.specs.declared.declarations.DeclarationKind.TheVariants as kind
use Rattle.profile_image.specs.declared.declarations.Initial.TheVariants as initial
use Rattle.profile_image.specs.declared.declarations.EntryUnit.TheVariants as unit
use Rattle.profile_image.specs.declared.statements.StatementForm.TheVariants as form
use Rattle.profile_image.specs.declared.statements.Callee.TheVariants as callee
use Rattle.profile_image.specs.declared.statements.Destination.TheVariants as destination
use Rattle.profile_image.specs.declared.statements.EntryOwner.TheVariants as owner
use Rattle.profile_machine.specs.Notation.{decl, expr, stmt, scope, subprogram, task_unit, protected_unit, entry, task, call, p, region, t, of_object, declaration, variable, statement, cell_run, scope_text, subprogram_text, task_unit_text, protected_unit_text, entry_body, entry_text, policies, main_procedure}
use Rattle.profile_machine.specs.Run.{run_of}
use Rattle.profile_machine.specs.Computing.{computing}
use Rattle.std.specs.Fmt.{digits}
use Rattle.std.specs.Prelude.{Bool}
use Rattle.profile_machine.specs.WellFormed.{run_is_well_formed}
use Rattle.profile_machine.specs.Releases.{releases_ok}

-- Row requeue.own: its run stops before tick 32, so every greater bound gives the same trace.
abbrev pub row_requeue_own_program : Image
row_requeue_own_program =
    record {
      declarations =
          declaration (codes "o") (codes "main.o") (kind.Protected (protected_unit 0)) (scope 1) 0 17 Free None
          ∷ declaration (codes "b") (codes "main.o.b") (kind.Object (initial.Scalar (expr 4))) (scope 0) 0 1 (Truth false true) None
          ∷ declaration (codes "c") (codes "main.c") (kind.Task (task_unit 0)) (scope 1) 17 1 Free None
          ∷ [];
      expressions =
          Known (Truth true)
          ∷ Known (Truth true)
          ∷ Variable (variable (OwnComponent (protected_unit 0) (decl 1)) None)
          ∷ Known (Truth true)
          ∷ Known (Truth false)
          ∷ [];
      statements =
          statement (form.CallMain) 0 None
          ∷ statement (form.Requeue (entry 1) owner.Own false) 0 None
          ∷ statement (form.Requeue (entry 2) owner.Own true) 0 None
          ∷ statement (form.Raise exception.Constraint) 0 None
          ∷ statement (form.Assign (variable (OwnComponent (protected_unit 0) (decl 1)) None) (expr 0)) 0 None
          ∷ statement (form.AsynchronousSelect (stmt 7) (stmt 8)) 0 None
          ∷ statement (form.Null) 0 None
          ∷ statement (form.EntryCall (entry 0) (owner.Object (decl 0)) []) 0 (Some (stmt 6))
          ∷ statement (form.Null) 0 None
          ∷ statement (form.EndActivation) 0 (Some (stmt 5))
          ∷ statement (form.Call (callee.Operation (decl 0) (subprogram 0)) [] destination.Nowhere) 0 None
          ∷ statement (form.Activate 0) 0 (Some (stmt 10))
          ∷ statement (form.CreateTask (decl 2) 0) 0 (Some (stmt 11))
          ∷ statement (form.Declare (decl 0)) 0 (Some (stmt 12))
          ∷ [];
      scopes =
          scope_text None 0 [] false (Some (stmt 0))
          ∷ scope_text (Some (scope 0)) 18 (cell_run 16 1 (Truth false) ∷ []) true (Some (stmt 13))
          ∷ scope_text (Some (scope 1)) 0 [] false (Some (stmt 1))
          ∷ scope_text (Some (scope 1)) 0 [] false (Some (stmt 2))
          ∷ scope_text (Some (scope 1)) 0 [] false (Some (stmt 3))
          ∷ scope_text (Some (scope 1)) 0 [] false (Some (stmt 4))
          ∷ scope_text (Some (scope 1)) 0 [] false (Some (stmt 9))
          ∷ [];
      subprograms =
          subprogram_text (codes "go") (scope 5) [] None (Some (protected_unit 0))
          ∷ [];
      task_units =
          task_unit_text (scope 6) (Some 20) None []
          ∷ [];
      protected_units =
          protected_unit_text 30 ((entry 0) ∷ (entry 1) ∷ (entry 2) ∷ []) ((decl 1) ∷ []) []
          ∷ [];
      entries =
          entry_text (codes "e") (unit.Protected (protected_unit 0)) 0 [] (Some (entry_body (expr 1) (scope 2)))
          ∷ entry_text (codes "f") (unit.Protected (protected_unit 0)) 1 [] (Some (entry_body (expr 2) (scope 3)))
          ∷ entry_text (codes "g") (unit.Protected (protected_unit 0)) 2 [] (Some (entry_body (expr 3) (scope 4)))
          ∷ [];
      controlled_types = [];
      enumerations = [];
      policies = (policies [] queuing.Fifo None 30);
      environment = (scope 0);
      main = (main_procedure (codes "main") 15 (scope 1));
    }

abbrev pub row_requeue_own_script : List (ℤ × Item)
row_requeue_own_script = []

-- the lines of its run up to tick 32
unfoldable pub row_requeue_own_lines : List (ℕ × Event)
row_requeue_own_lines = run_of row_requeue_own_program row_requeue_own_script 32

unfoldable pub row_requeue_own_trace : List (ℕ × Event)
row_requeue_own_trace =
    (0, line.New (created.Task (task 0)) (codes "main") 15)
    ∷ (0, line.Ready (t 0) 15 Tail None)
    ∷ (0, line.Run (t 0))
    ∷ (3, line.New (created.Object (p 1)) (codes "main.o") 30)
    ∷ (5, line.New (created.Task (task 1)) (codes "main.c") 20)
    ∷ (7, line.Ready (t 1) 20 Tail None)
    ∷ (7, line.Block (t 0) waits.Activation)
    ∷ (7, line.Run (t 1))
    ∷ (8, line.Ready (t 0) 15 Tail None)
    ∷ (10, line.Call (task 1) (call 1) (of_object 1 (codes "e")) 20)
    ∷ (10, line.Enter (t 1) (p 1) Write)
    ∷ (10, line.Start (t 1) (call 1))
    ∷ (10, line.Ready (t 1) 30 Head None)
    ∷ (14, line.Finish (t 1) (call 1) finished.Requeue)
    ∷ (14, line.Call (task 1) (call 1) (of_object 1 (codes "f")) 20)
    ∷ (14, line.Exit (t 1) (p 1))
    ∷ (14, line.Ready (t 1) 20 Head None)
    ∷ (14, line.Block (t 1) waits.Entry)
    ∷ (14, line.Run (t 0))
    ∷ (16, line.Enter (t 0) (p 1) Write)
    ∷ (16, line.Ready (t 0) 30 Head None)
    ∷ (19, line.Start (t 0) (call 1))
    ∷ (23, line.Finish (t 0) (call 1) finished.Requeue)
    ∷ (23, line.Call (task 1) (call 1) (of_object 1 (codes "g")) 20)
    ∷ (23, line.Start (t 0) (call 1))
    ∷ (23, line.Ready (t 1) 20 Tail None)
    ∷ (24, line.Raise (t 0) (codes "constraint_error"))
    ∷ (26, line.Finish (t 0) (call 1) (finished.Raised (codes "constraint_error")))
    ∷ (26, line.Trigger (task 1))
    ∷ (26, line.Exit (t 0) (p 1))
    ∷ (26, line.Ready (t 0) 15 Head None)
    ∷ (26, line.Run (t 1))
    ∷ (27, line.Raise (t 1) (codes "constraint_error"))
    ∷ (28, line.Done (task 1))
    ∷ (28, line.Run (t 0))
    ∷ (29, line.Leave (t 0) (region 1) leaves.End)
    ∷ (30, line.Left (t 0) (region 1))
    ∷ (31, line.Done (task 0))
    ∷ (31, line.End end.Completed)
    ∷ []

pub row_requeue_own_runs : row_requeue_own_lines ≡ row_requeue_own_trace
unfolding row_requeue_own_lines row_requeue_own_trace digits computing
row_requeue_own_runs = refl

-- whether every world of its run is well formed
unfoldable pub row_requeue_own_worlds : Bool
row_requeue_own_worlds = run_is_well_formed row_requeue_own_program row_requeue_own_script 32

pub row_requeue_own_keeps : row_requeue_own_worlds ≡ true
unfolding row_requeue_own_worlds computing
row_requeue_own_keeps = refl

-- whether each handler is released at its tick
unfoldable pub row_requeue_own_handlers : Bool
row_requeue_own_handlers = releases_ok row_requeue_own_program row_requeue_own_script 32

pub row_requeue_own_releases : row_requeue_own_handlers ≡ true
unfolding row_requeue_own_handlers computing
row_requeue_own_releases = refl
