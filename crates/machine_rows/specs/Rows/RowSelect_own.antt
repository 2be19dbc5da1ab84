use Rattle.std.specs.Prelude.{◌≡◌, ℕ, ℤ, List, [], ◌∷◌, Some, None, true, false, codes, refl}
use Rattle.ann_base.specs.declared.exceptions.Raised.TheVariants as exception
use Rattle.trace_text.specs.declared.events.Event.{Event}
use Rattle.trace_text.specs.declared.events.Event.TheVariants as line
use Rattle.trace_text.specs.declared.events.Created.TheVariants as created
use Rattle.trace_text.specs.declared.events.Ended.TheVariants as end
use Rattle.trace_text.specs.declared.events.Finished.TheVariants as finished
use Rattle.trace_text.specs.declared.events.Mode.TheVariants.{Write}
use Rattle.trace_text.specs.declared.events.QueueEnd.TheVariants.{Head, Tail}
use Rattle.profile_image.specs.declared.script_items.Item.{Item}
use Rattle.profile_image.specs.declared.image.Image.{Image}
use Rattle.profile_image.specs.declared.image.Queuing.TheVariants as queuing
use Rattle.profile_image.specs.declared.values.Value.TheVariants.{Truth}
use Rattle.profile_image.specs.declared.values.Constraint.TheVariants.{Free, Truth}
use Rattle.profile_image.specs.declared.expressions.Expression.TheVariants.{Known, Variable}
use Rattle.profile_image.specs.declared.expressions.ObjectName.TheVariants.{OwnComponent}
use Rattle.profile_image.specs.declared.declarations.DeclarationKind.TheVariants as kind
use Rattle.profile_image.specs.declared.declarations.Initial.TheVariants as initial
use Rattle.profile_image.specs.declared.declarations.EntryUnit.TheVariants as unit
use Rattle.profile_image.specs.declared.declarations.ExceptionChoice.TheVariants as exception_choice
use Rattle.profile_image.specs.declared.statements.StatementForm.TheVariants as form
use Rattle.profile_image.specs.declared.statements.Callee.TheVariants as callee
use Rattle.profile_image.specs.declared.statements.Destination.TheVariants as destination
use Rattle.profile_image.specs.declared.statements.EntryOwner.TheVariants as owner
use Rattle.profile_machine.specs.Notation.{decl, expr, stmt, scope, subprogram, protected_unit, entry, task, call, p, t, of_object, declaration, variable, statement, handler, cell_run, scope_text, subprogram_text, protected_unit_text, entry_body, entry_text, policies, main_procedure}
use Rattle.profile_machine.specs.Run.{run_of}
use Rattle.profile_machine.specs.Computing.{computing}
use Rattle.std.specs.Fmt.{digits}
use Rattle.std.specs.Prelude.{Bool}
use Rattle.profile_machine.specs.WellFormed.{run_is_well_formed}
use Rattle.profile_machine.specs.Releases.{releases_ok}

-- Row select.own: its run stops before tick 19, so every greater bound gives the same trace.
abbrev pub row_select_own_program : Image
row_select_own_program =
    record {
      declarations =
          declaration (codes "x") (codes "main.x") kind.Other (scope 0) 0 0 Free None
          ∷ declaration (codes "p") (codes "main.p") (kind.Protected (protected_unit 0)) (scope 1) 0 17 Free None
          ∷ declaration (codes "b") (codes "main.p.b") (kind.Object (initial.Scalar (expr 2))) (scope 0) 0 1 (Truth false true) None
          ∷ [];
      expressions =
          Known (Truth true)
          ∷ Variable (variable (OwnComponent (protected_unit 0) (decl 2)) None)
          ∷ Known (Truth false)
          ∷ [];
      statements =
          statement (form.CallMain) 0 None
          ∷ statement (form.Raise (exception.User 0)) 0 None
          ∷ statement (form.Assign (variable (OwnComponent (protected_unit 0) (decl 2)) None) (expr 0)) 0 None
          ∷ statement (form.Handled (handler (exception_choice.Named (exception.User 0) ∷ []) (stmt 8) ∷ []) (stmt 4)) 0 None
          ∷ statement (form.AsynchronousSelect (stmt 5) (stmt 7)) 0 None
          ∷ statement (form.EntryCall (entry 0) (owner.Object (decl 1)) []) 0 None
          ∷ statement (form.Null) 0 None
          ∷ statement (form.Call (callee.Operation (decl 1) (subprogram 0)) [] destination.Nowhere) 0 (Some (stmt 6))
          ∷ statement (form.Null) 0 None
          ∷ statement (form.Declare (decl 1)) 0 (Some (stmt 3))
          ∷ [];
      scopes =
          scope_text None 0 [] false (Some (stmt 0))
          ∷ scope_text (Some (scope 0)) 17 (cell_run 16 1 (Truth false) ∷ []) false (Some (stmt 9))
          ∷ scope_text (Some (scope 1)) 0 [] false (Some (stmt 1))
          ∷ scope_text (Some (scope 1)) 0 [] false (Some (stmt 2))
          ∷ [];
      subprograms =
          subprogram_text (codes "open") (scope 3) [] None (Some (protected_unit 0))
          ∷ [];
      task_units = [];
      protected_units =
          protected_unit_text 30 ((entry 0) ∷ []) ((decl 2) ∷ []) []
          ∷ [];
      entries =
          entry_text (codes "e") (unit.Protected (protected_unit 0)) 0 [] (Some (entry_body (expr 1) (scope 2)))
          ∷ [];
      controlled_types = [];
      enumerations = [];
      policies = (policies [] queuing.Fifo None 30);
      environment = (scope 0);
      main = (main_procedure (codes "main") 15 (scope 1));
    }

abbrev pub row_select_own_script : List (ℤ × Item)
row_select_own_script = []

-- the lines of its run up to tick 19
unfoldable pub row_select_own_lines : List (ℕ × Event)
row_select_own_lines = run_of row_select_own_program row_select_own_script 19

unfoldable pub row_select_own_trace : List (ℕ × Event)
row_select_own_trace =
    (0, line.New (created.Task (task 0)) (codes "main") 15)
    ∷ (0, line.Ready (t 0) 15 Tail None)
    ∷ (0, line.Run (t 0))
    ∷ (3, line.New (created.Object (p 1)) (codes "main.p") 30)
    ∷ (5, line.Call (task 0) (call 1) (of_object 1 (codes "e")) 15)
    ∷ (5, line.Enter (t 0) (p 1) Write)
    ∷ (5, line.Exit (t 0) (p 1))
    ∷ (7, line.Enter (t 0) (p 1) Write)
    ∷ (7, line.Ready (t 0) 30 Head None)
    ∷ (10, line.Start (t 0) (call 1))
    ∷ (11, line.Raise (t 0) (codes "main.x"))
    ∷ (13, line.Finish (t 0) (call 1) (finished.Raised (codes "main.x")))
    ∷ (13, line.Trigger (task 0))
    ∷ (13, line.Exit (t 0) (p 1))
    ∷ (13, line.Ready (t 0) 15 Head None)
    ∷ (14, line.Raise (t 0) (codes "main.x"))
    ∷ (18, line.Done (task 0))
    ∷ (18, line.End end.Completed)
    ∷ []

pub row_select_own_runs : row_select_own_lines ≡ row_select_own_trace
unfolding row_select_own_lines row_select_own_trace digits computing
row_select_own_runs = refl

-- whether every world of its run is well formed
unfoldable pub row_select_own_worlds : Bool
row_select_own_worlds = run_is_well_formed row_select_own_program row_select_own_script 19

pub row_select_own_keeps : row_select_own_worlds ≡ true
unfolding row_select_own_worlds computing
row_select_own_keeps = refl

-- whether each handler is released at its tick
unfoldable pub row_select_own_handlers : Bool
row_select_own_handlers = releases_ok row_select_own_program row_select_own_script 19

pub row_select_own_releases : row_select_own_handlers ≡ true
unfolding row_select_own_handlers computing
row_select_own_releases = refl
