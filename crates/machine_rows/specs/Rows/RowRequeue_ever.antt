use Rattle.std.specs.Prelude.{◌≡◌, ℕ, ℤ, List, [], ◌∷◌, Some, None, true, false, codes, refl}
use Rattle.trace_text.specs.declared.events.Event.{Event}
use Rattle.trace_text.specs.declared.events.Event.TheVariants as line
use Rattle.trace_text.specs.declared.events.Created.TheVariants as created
use Rattle.trace_text.specs.declared.events.Ended.TheVariants as end
use Rattle.trace_text.specs.declared.events.Finished.TheVariants as finished
use Rattle.trace_text.specs.declared.events.Mode.TheVariants.{Write}
use Rattle.trace_text.specs.declared.events.QueueEnd.TheVariants.{Head, Tail}
use Rattle.trace_text.specs.declared.events.Waits.TheVariants as waits
use Rattle.profile_image.specs.declared.script_items.Item.{Item}
use Rattle.profile_image.specs.declared.image.Image.{Image}
use Rattle.profile_image.specs.declared.image.Queuing.TheVariants as queuing
use Rattle.profile_image.specs.declared.values.Value.TheVariants.{Truth}
use Rattle.profile_image.specs.declared.values.Constraint.TheVariants.{Free, Truth}
use Rattle.profile_image.specs.declared.expressions.Expression.TheVariants.{Known, Variable}
use Rattle.profile_image.specs.declared.expressions.ObjectName.TheVariants.{OwnComponent}
use Rattle.profile_image.specs.declared.declarations.DeclarationKind.TheVariants as kind
use Rattle.profile_image.specs.declared.declarations.Initial.TheVariants as initial
use Rattle.profile_image.specs.declared.declarations.EntryUnit.TheVariants as unit
use Rattle.profile_image.specs.declared.statements.StatementForm.TheVariants as form
use Rattle.profile_image.specs.declared.statements.EntryOwner.TheVariants as owner
use Rattle.profile_machine.specs.Notation.{decl, expr, stmt, scope, protected_unit, entry, task, call, p, t, of_object, declaration, variable, statement, cell_run, scope_text, protected_unit_text, entry_body, entry_text, policies, main_procedure}
use Rattle.profile_machine.specs.Run.{run_of}
use Rattle.profile_machine.specs.Computing.{computing}
use Rattle.std.specs.Fmt.{digits}
use Rattle.std.specs.Prelude.{Bool}
use Rattle.profile_machine.specs.WellFormed.{run_is_well_formed}
use Rattle.profile_machine.specs.Releases.{releases_ok}

-- Row requeue.ever: its run stops before tick 16, so every greater bound gives the same trace.
abbrev pub row_requeue_ever_program : Image
row_requeue_ever_program =
    record {
      declarations =
          declaration (codes "o") (codes "main.o") (kind.Protected (protected_unit 0)) (scope 1) 0 17 Free None
          ∷ declaration (codes "b") (codes "main.o.b") (kind.Object (initial.Scalar (expr 3))) (scope 0) 0 1 (Truth false true) None
          ∷ [];
      expressions =
          Known (Truth true)
          ∷ Known (Truth true)
          ∷ Variable (variable (OwnComponent (protected_unit 0) (decl 1)) None)
          ∷ Known (Truth false)
          ∷ [];
      statements =
          statement (form.CallMain) 0 None
          ∷ statement (form.Requeue (entry 1) owner.Own true) 0 None
          ∷ statement (form.Requeue (entry 2) owner.Own false) 0 None
          ∷ statement (form.Null) 0 None
          ∷ statement (form.AsynchronousSelect (stmt 5) (stmt 6)) 0 None
          ∷ statement (form.EntryCall (entry 0) (owner.Object (decl 0)) []) 0 None
          ∷ statement (form.Null) 0 None
          ∷ statement (form.Declare (decl 0)) 0 (Some (stmt 4))
          ∷ [];
      scopes =
          scope_text None 0 [] false (Some (stmt 0))
          ∷ scope_text (Some (scope 0)) 17 (cell_run 16 1 (Truth false) ∷ []) false (Some (stmt 7))
          ∷ scope_text (Some (scope 1)) 0 [] false (Some (stmt 1))
          ∷ scope_text (Some (scope 1)) 0 [] false (Some (stmt 2))
          ∷ scope_text (Some (scope 1)) 0 [] false (Some (stmt 3))
          ∷ [];
      subprograms = [];
      task_units = [];
      protected_units =
          protected_unit_text 30 ((entry 0) ∷ (entry 1) ∷ (entry 2) ∷ []) ((decl 1) ∷ []) []
          ∷ [];
      entries =
          entry_text (codes "e") (unit.Protected (protected_unit 0)) 0 [] (Some (entry_body (expr 0) (scope 2)))
          ∷ entry_text (codes "f") (unit.Protected (protected_unit 0)) 1 [] (Some (entry_body (expr 1) (scope 3)))
          ∷ entry_text (codes "g") (unit.Protected (protected_unit 0)) 2 [] (Some (entry_body (expr 2) (scope 4)))
          ∷ [];
      controlled_types = [];
      enumerations = [];
      policies = (policies [] queuing.Fifo None 30);
      environment = (scope 0);
      main = (main_procedure (codes "main") 15 (scope 1));
    }

abbrev pub row_requeue_ever_script : List (ℤ × Item)
row_requeue_ever_script = []

-- the lines of its run up to tick 16
unfoldable pub row_requeue_ever_lines : List (ℕ × Event)
row_requeue_ever_lines = run_of row_requeue_ever_program row_requeue_ever_script 16

unfoldable pub row_requeue_ever_trace : List (ℕ × Event)
row_requeue_ever_trace =
    (0, line.New (created.Task (task 0)) (codes "main") 15)
    ∷ (0, line.Ready (t 0) 15 Tail None)
    ∷ (0, line.Run (t 0))
    ∷ (3, line.New (created.Object (p 1)) (codes "main.o") 30)
    ∷ (5, line.Call (task 0) (call 1) (of_object 1 (codes "e")) 15)
    ∷ (5, line.Enter (t 0) (p 1) Write)
    ∷ (5, line.Start (t 0) (call 1))
    ∷ (5, line.Ready (t 0) 30 Head None)
    ∷ (9, line.Finish (t 0) (call 1) finished.Requeue)
    ∷ (9, line.Call (task 0) (call 1) (of_object 1 (codes "f")) 15)
    ∷ (9, line.Start (t 0) (call 1))
    ∷ (13, line.Finish (t 0) (call 1) finished.Requeue)
    ∷ (13, line.Call (task 0) (call 1) (of_object 1 (codes "g")) 15)
    ∷ (13, line.Exit (t 0) (p 1))
    ∷ (13, line.Ready (t 0) 15 Head None)
    ∷ (15, line.Block (t 0) waits.Call)
    ∷ (15, line.End end.Stuck)
    ∷ []

pub row_requeue_ever_runs : row_requeue_ever_lines ≡ row_requeue_ever_trace
unfolding row_requeue_ever_lines row_requeue_ever_trace digits computing
row_requeue_ever_runs = refl

-- whether every world of its run is well formed
unfoldable pub row_requeue_ever_worlds : Bool
row_requeue_ever_worlds = run_is_well_formed row_requeue_ever_program row_requeue_ever_script 16

pub row_requeue_ever_keeps : row_requeue_ever_worlds ≡ true
unfolding row_requeue_ever_worlds computing
row_requeue_ever_keeps = refl

-- whether each handler is released at its tick
unfoldable pub row_requeue_ever_handlers : Bool
row_requeue_ever_handlers = releases_ok row_requeue_ever_program row_requeue_ever_script 16

pub row_requeue_ever_releases : row_requeue_ever_handlers ≡ true
unfolding row_requeue_ever_handlers computing
row_requeue_ever_releases = refl
