use Rattle.std.specs.Prelude.{◌≡◌, ℕ, ℤ, pos, List, [], ◌∷◌, Some, None, true, false, codes, refl}
use Rattle.ann_base.specs.declared.exceptions.Raised.TheVariants as exception
use Rattle.trace_text.specs.declared.events.Event.{Event}
use Rattle.trace_text.specs.declared.events.Event.TheVariants as line
use Rattle.trace_text.specs.declared.events.Created.TheVariants as created
use Rattle.trace_text.specs.declared.events.Ended.TheVariants as end
use Rattle.trace_text.specs.declared.events.Leaves.TheVariants as leaves
use Rattle.trace_text.specs.declared.events.Mode.TheVariants.{Write}
use Rattle.trace_text.specs.declared.events.QueueEnd.TheVariants.{Head, Tail}
use Rattle.trace_text.specs.declared.events.Waits.TheVariants as waits
use Rattle.profile_image.specs.declared.script_items.Item.{Item}
use Rattle.profile_image.specs.declared.image.Image.{Image}
use Rattle.profile_image.specs.declared.image.Queuing.TheVariants as queuing
use Rattle.profile_image.specs.declared.values.Value.TheVariants.{Ticks}
use Rattle.profile_image.specs.declared.values.Constraint.TheVariants.{Free, Ticks}
use Rattle.profile_image.specs.declared.expressions.Expression.TheVariants.{Known}
use Rattle.profile_image.specs.declared.declarations.DeclarationKind.TheVariants as kind
use Rattle.profile_image.specs.declared.declarations.EntryUnit.TheVariants as unit
use Rattle.profile_image.specs.declared.declarations.ExceptionChoice.TheVariants as exception_choice
use Rattle.profile_image.specs.declared.statements.StatementForm.TheVariants as form
use Rattle.profile_image.specs.declared.statements.Callee.TheVariants as callee
use Rattle.profile_image.specs.declared.statements.Destination.TheVariants as destination
use Rattle.profile_image.specs.declared.statements.EntryOwner.TheVariants as owner
use Rattle.profile_machine.specs.Notation.{decl, expr, stmt, scope, subprogram, task_unit, protected_unit, entry, task, p, region, t, declaration, statement, handler, scope_text, subprogram_text, task_unit_text, protected_unit_text, entry_text, policies, main_procedure}
use Rattle.profile_machine.specs.Run.{run_of}
use Rattle.profile_machine.specs.Computing.{computing}
use Rattle.std.specs.Fmt.{digits}
use Rattle.std.specs.Prelude.{Bool}
use Rattle.profile_machine.specs.WellFormed.{run_is_well_formed}
use Rattle.profile_machine.specs.Releases.{releases_ok}

-- Row protected.forbidden: its run stops before tick 30, so every greater bound gives the same trace.
abbrev pub row_protected_forbidden_program : Image
row_protected_forbidden_program =
    record {
      declarations =
          declaration (codes "o") (codes "main.o") (kind.Protected (protected_unit 0)) (scope 1) 0 16 Free None
          ∷ declaration (codes "t") (codes "main.t") (kind.Task (task_unit 0)) (scope 1) 16 1 Free None
          ∷ [];
      expressions =
          Known (Ticks (pos 0))
          ∷ [];
      statements =
          statement (form.CallMain) 0 None
          ∷ statement (form.EntryCall (entry 0) (owner.Object (decl 1)) []) 0 None
          ∷ statement (form.Block (scope 3)) 0 (Some (stmt 1))
          ∷ statement (form.Handled (handler (exception_choice.Named exception.Program ∷ []) (stmt 5) ∷ []) (stmt 4)) 0 None
          ∷ statement (form.Abort ((decl 1) ∷ [])) 0 None
          ∷ statement (form.Null) 0 None
          ∷ statement (form.SetDeadline (expr 0) None) 0 (Some (stmt 2))
          ∷ statement (form.Null) 0 None
          ∷ statement (form.EndActivation) 0 (Some (stmt 7))
          ∷ statement (form.Handled (handler (exception_choice.Named exception.Program ∷ []) (stmt 12) ∷ []) (stmt 11)) 0 None
          ∷ statement (form.Call (callee.Operation (decl 0) (subprogram 0)) [] destination.Nowhere) 0 None
          ∷ statement (form.Activate 0) 0 (Some (stmt 10))
          ∷ statement (form.Null) 0 None
          ∷ statement (form.CreateTask (decl 1) 0) 0 (Some (stmt 9))
          ∷ statement (form.Declare (decl 0)) 0 (Some (stmt 13))
          ∷ [];
      scopes =
          scope_text None 0 [] false (Some (stmt 0))
          ∷ scope_text (Some (scope 0)) 17 [] true (Some (stmt 14))
          ∷ scope_text (Some (scope 1)) 0 [] false (Some (stmt 6))
          ∷ scope_text (Some (scope 2)) 0 [] false (Some (stmt 3))
          ∷ scope_text (Some (scope 1)) 0 [] false (Some (stmt 8))
          ∷ [];
      subprograms =
          subprogram_text (codes "p") (scope 2) [] None (Some (protected_unit 0))
          ∷ [];
      task_units =
          task_unit_text (scope 4) None None ((entry 0) ∷ [])
          ∷ [];
      protected_units =
          protected_unit_text 30 [] [] []
          ∷ [];
      entries =
          entry_text (codes "e") (unit.Task (task_unit 0)) 0 [] None
          ∷ [];
      controlled_types = [];
      enumerations = [];
      policies = (policies [] queuing.Fifo None 30);
      environment = (scope 0);
      main = (main_procedure (codes "main") 15 (scope 1));
    }

abbrev pub row_protected_forbidden_script : List (ℤ × Item)
row_protected_forbidden_script = []

-- the lines of its run up to tick 30
unfoldable pub row_protected_forbidden_lines : List (ℕ × Event)
row_protected_forbidden_lines = run_of row_protected_forbidden_program row_protected_forbidden_script 30

unfoldable pub row_protected_forbidden_trace : List (ℕ × Event)
row_protected_forbidden_trace =
    (0, line.New (created.Task (task 0)) (codes "main") 15)
    ∷ (0, line.Ready (t 0) 15 Tail None)
    ∷ (0, line.Run (t 0))
    ∷ (3, line.New (created.Object (p 1)) (codes "main.o") 30)
    ∷ (5, line.New (created.Task (task 1)) (codes "main.t") 15)
    ∷ (7, line.Ready (t 1) 15 Tail None)
    ∷ (7, line.Block (t 0) waits.Activation)
    ∷ (7, line.Run (t 1))
    ∷ (8, line.Ready (t 0) 15 Tail None)
    ∷ (10, line.Done (task 1))
    ∷ (10, line.Run (t 0))
    ∷ (12, line.Enter (t 0) (p 1) Write)
    ∷ (12, line.Ready (t 0) 30 Head None)
    ∷ (14, line.Deadline (task 0) (pos 0))
    ∷ (17, line.Raise (t 0) (codes "program_error"))
    ∷ (22, line.Raise (t 0) (codes "program_error"))
    ∷ (24, line.Exit (t 0) (p 1))
    ∷ (24, line.Ready (t 0) 15 Head None)
    ∷ (27, line.Leave (t 0) (region 1) leaves.End)
    ∷ (28, line.Left (t 0) (region 1))
    ∷ (29, line.Done (task 0))
    ∷ (29, line.End end.Completed)
    ∷ []

pub row_protected_forbidden_runs : row_protected_forbidden_lines ≡ row_protected_forbidden_trace
unfolding row_protected_forbidden_lines row_protected_forbidden_trace digits computing
row_protected_forbidden_runs = refl

-- whether every world of its run is well formed
unfoldable pub row_protected_forbidden_worlds : Bool
row_protected_forbidden_worlds = run_is_well_formed row_protected_forbidden_program row_protected_forbidden_script 30

pub row_protected_forbidden_keeps : row_protected_forbidden_worlds ≡ true
unfolding row_protected_forbidden_worlds computing
row_protected_forbidden_keeps = refl

-- whether each handler is released at its tick
unfoldable pub row_protected_forbidden_handlers : Bool
row_protected_forbidden_handlers = releases_ok row_protected_forbidden_program row_protected_forbidden_script 30

pub row_protected_forbidden_releases : row_protected_forbidden_handlers ≡ true
unfolding row_protected_forbidden_handlers computing
row_protected_forbidden_releases = refl
