use Rattle.std.specs.Prelude.{◌≡◌, ℕ, ℤ, List, [], ◌∷◌, Some, None, true, false, codes, refl}
use Rattle.trace_text.specs.declared.events.Event.{Event}
use Rattle.trace_text.specs.declared.events.Event.TheVariants as line
use Rattle.trace_text.specs.declared.events.Created.TheVariants as created
use Rattle.trace_text.specs.declared.events.Ended.TheVariants as end
use Rattle.trace_text.specs.declared.events.Mode.TheVariants.{Write}
use Rattle.trace_text.specs.declared.events.QueueEnd.TheVariants.{Tail}
use Rattle.profile_image.specs.declared.script_items.Item.{Item}
use Rattle.profile_image.specs.declared.image.Image.{Image}
use Rattle.profile_image.specs.declared.image.Queuing.TheVariants as queuing
use Rattle.profile_image.specs.declared.values.Value.TheVariants.{Truth}
use Rattle.profile_image.specs.declared.values.Constraint.TheVariants.{Free, Truth}
use Rattle.profile_image.specs.declared.expressions.Expression.TheVariants.{Known, Variable}
use Rattle.profile_image.specs.declared.expressions.ObjectName.TheVariants.{OwnComponent}
use Rattle.profile_image.specs.declared.declarations.DeclarationKind.TheVariants as kind
use Rattle.profile_image.specs.declared.declarations.Initial.TheVariants as initial
use Rattle.profile_image.specs.declared.declarations.EntryUnit.TheVariants as unit
use Rattle.profile_image.specs.declared.declarations.ExceptionChoice.TheVariants as exception_choice
use Rattle.profile_image.specs.declared.statements.StatementForm.TheVariants as form
use Rattle.profile_image.specs.declared.statements.EntryOwner.TheVariants as owner
use Rattle.profile_machine.specs.Notation.{decl, expr, stmt, scope, protected_unit, entry, task, call, p, t, of_object, declaration, variable, statement, handler, cell_run, scope_text, protected_unit_text, entry_body, entry_text, policies, main_procedure}
use Rattle.profile_machine.specs.Run.{run_of}
use Rattle.profile_machine.specs.Computing.{computing}
use Rattle.std.specs.Fmt.{digits}
use Rattle.std.specs.Prelude.{Bool}
use Rattle.profile_machine.specs.WellFormed.{run_is_well_formed}
use Rattle.profile_machine.specs.Releases.{releases_ok}

-- Row queues.protected: its run stops before tick 10, so every greater bound gives the same trace.
abbrev pub row_queues_protected_program : Image
row_queues_protected_program =
    record {
      declarations =
          declaration (codes "o") (codes "main.o") (kind.Protected (protected_unit 0)) (scope 1) 0 17 Free None
          ∷ declaration (codes "b") (codes "main.o.b") (kind.Object (initial.Scalar (expr 1))) (scope 0) 0 1 (Truth false true) None
          ∷ [];
      expressions =
          Variable (variable (OwnComponent (protected_unit 0) (decl 1)) None)
          ∷ Known (Truth false)
          ∷ [];
      statements =
          statement (form.CallMain) 0 None
          ∷ statement (form.Null) 0 None
          ∷ statement (form.Handled (handler (exception_choice.Others ∷ []) (stmt 4) ∷ []) (stmt 3)) 0 None
          ∷ statement (form.EntryCall (entry 0) (owner.Object (decl 0)) []) 0 None
          ∷ statement (form.Null) 0 None
          ∷ statement (form.Declare (decl 0)) 0 (Some (stmt 2))
          ∷ [];
      scopes =
          scope_text None 0 [] false (Some (stmt 0))
          ∷ scope_text (Some (scope 0)) 17 (cell_run 16 1 (Truth false) ∷ []) false (Some (stmt 5))
          ∷ scope_text (Some (scope 1)) 0 [] false (Some (stmt 1))
          ∷ [];
      subprograms = [];
      task_units = [];
      protected_units =
          protected_unit_text 30 ((entry 0) ∷ []) ((decl 1) ∷ []) []
          ∷ [];
      entries =
          entry_text (codes "e") (unit.Protected (protected_unit 0)) 0 [] (Some (entry_body (expr 0) (scope 2)))
          ∷ [];
      controlled_types = [];
      enumerations = [];
      policies = (policies [] queuing.Fifo (Some 0) 30);
      environment = (scope 0);
      main = (main_procedure (codes "main") 15 (scope 1));
    }

abbrev pub row_queues_protected_script : List (ℤ × Item)
row_queues_protected_script = []

-- the lines of its run up to tick 10
unfoldable pub row_queues_protected_lines : List (ℕ × Event)
row_queues_protected_lines = run_of row_queues_protected_program row_queues_protected_script 10

unfoldable pub row_queues_protected_trace : List (ℕ × Event)
row_queues_protected_trace =
    (0, line.New (created.Task (task 0)) (codes "main") 15)
    ∷ (0, line.Ready (t 0) 15 Tail None)
    ∷ (0, line.Run (t 0))
    ∷ (3, line.New (created.Object (p 1)) (codes "main.o") 30)
    ∷ (5, line.Call (task 0) (call 1) (of_object 1 (codes "e")) 15)
    ∷ (5, line.Enter (t 0) (p 1) Write)
    ∷ (5, line.Exit (t 0) (p 1))
    ∷ (5, line.Raise (t 0) (codes "program_error"))
    ∷ (9, line.Done (task 0))
    ∷ (9, line.End end.Completed)
    ∷ []

pub row_queues_protected_runs : row_queues_protected_lines ≡ row_queues_protected_trace
unfolding row_queues_protected_lines row_queues_protected_trace digits computing
row_queues_protected_runs = refl

-- whether every world of its run is well formed
unfoldable pub row_queues_protected_worlds : Bool
row_queues_protected_worlds = run_is_well_formed row_queues_protected_program row_queues_protected_script 10

pub row_queues_protected_keeps : row_queues_protected_worlds ≡ true
unfolding row_queues_protected_worlds computing
row_queues_protected_keeps = refl

-- whether each handler is released at its tick
unfoldable pub row_queues_protected_handlers : Bool
row_queues_protected_handlers = releases_ok row_queues_protected_program row_queues_protected_script 10

pub row_queues_protected_releases : row_queues_protected_handlers ≡ true
unfolding row_queues_protected_handlers computing
row_queues_protected_releases = refl
