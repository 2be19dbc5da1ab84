use Rattle.std.specs.Prelude.{◌≡◌, ℕ, ℤ, pos, List, [], ◌∷◌, Some, None, true, false, codes, refl}
use Rattle.ann_base.specs.declared.exceptions.Raised.TheVariants as exception
use Rattle.trace_text.specs.declared.events.Event.{Event}
use Rattle.trace_text.specs.declared.events.Event.TheVariants as line
use Rattle.trace_text.specs.declared.events.Created.TheVariants as created
use Rattle.trace_text.specs.declared.events.Ended.TheVariants as end
use Rattle.trace_text.specs.declared.events.Mode.TheVariants.{Write}
use Rattle.trace_text.specs.declared.events.QueueEnd.TheVariants.{Tail}
use Rattle.trace_text.specs.declared.events.Waits.TheVariants as waits
use Rattle.profile_image.specs.declared.script_items.Item.{Item}
use Rattle.profile_image.specs.declared.image.Image.{Image}
use Rattle.profile_image.specs.declared.image.Dispatching.TheVariants.{RoundRobinWithinPriorities}
use Rattle.profile_image.specs.declared.image.Queuing.TheVariants as queuing
use Rattle.profile_image.specs.declared.values.Value.TheVariants.{Whole, Ticks}
use Rattle.profile_image.specs.declared.values.Constraint.TheVariants.{Free, Whole, Ticks}
use Rattle.profile_image.specs.declared.expressions.Expression.TheVariants.{Known, Span}
use Rattle.profile_image.specs.declared.declarations.DeclarationKind.TheVariants as kind
use Rattle.profile_image.specs.declared.declarations.ExceptionChoice.TheVariants as exception_choice
use Rattle.profile_image.specs.declared.statements.StatementForm.TheVariants as form
use Rattle.profile_image.specs.declared.statements.Callee.TheVariants as callee
use Rattle.profile_image.specs.declared.statements.Destination.TheVariants as destination
use Rattle.profile_machine.specs.Notation.{decl, expr, stmt, scope, subprogram, protected_unit, task, p, t, declaration, statement, handler, scope_text, subprogram_text, protected_unit_text, dispatching_range, policies, main_procedure}
use Rattle.profile_machine.specs.Run.{run_of}
use Rattle.profile_machine.specs.Computing.{computing}
use Rattle.std.specs.Fmt.{digits}
use Rattle.std.specs.Prelude.{Bool}
use Rattle.profile_machine.specs.WellFormed.{run_is_well_formed}
use Rattle.profile_machine.specs.Releases.{releases_ok}

-- Row policies.quanta: its run stops before tick 35, so every greater bound gives the same trace.
abbrev pub row_policies_quanta_program : Image
row_policies_quanta_program =
    record {
      declarations =
          declaration (codes "o") (codes "main.o") (kind.Protected (protected_unit 0)) (scope 1) 0 16 Free None
          ∷ [];
      expressions =
          Known (Ticks (pos 1))
          ∷ Known (Whole (pos 15))
          ∷ Known (Whole (pos 4))
          ∷ Span (pos 1) (expr 2)
          ∷ Known (Whole (pos 15))
          ∷ Known (Whole (pos 1001))
          ∷ Span (pos 1000000) (expr 5)
          ∷ Known (Whole (pos 15))
          ∷ Known (Whole (pos 0))
          ∷ Span (pos 1) (expr 8)
          ∷ [];
      statements =
          statement (form.CallMain) 0 None
          ∷ statement (form.Null) 0 None
          ∷ statement (form.Null) 0 (Some (stmt 1))
          ∷ statement (form.Null) 0 (Some (stmt 2))
          ∷ statement (form.Null) 0 (Some (stmt 3))
          ∷ statement (form.Null) 0 None
          ∷ statement (form.Call (callee.Operation (decl 0) (subprogram 0)) [] destination.Nowhere) 0 (Some (stmt 5))
          ∷ statement (form.Delay (expr 0)) 0 (Some (stmt 6))
          ∷ statement (form.SetQuantum (expr 1) (expr 3)) 1 (Some (stmt 7))
          ∷ statement (form.Block (scope 4)) 0 (Some (stmt 8))
          ∷ statement (form.Handled (handler (exception_choice.Named exception.DispatchingPolicy ∷ []) (stmt 12) ∷ []) (stmt 11)) 0 None
          ∷ statement (form.SetQuantum (expr 4) (expr 6)) 1 None
          ∷ statement (form.Null) 0 None
          ∷ statement (form.Block (scope 3)) 0 (Some (stmt 9))
          ∷ statement (form.Handled (handler (exception_choice.Named exception.DispatchingPolicy ∷ []) (stmt 16) ∷ []) (stmt 15)) 0 None
          ∷ statement (form.SetQuantum (expr 7) (expr 9)) 1 None
          ∷ statement (form.Null) 0 None
          ∷ statement (form.Declare (decl 0)) 0 (Some (stmt 13))
          ∷ [];
      scopes =
          scope_text None 0 [] false (Some (stmt 0))
          ∷ scope_text (Some (scope 0)) 16 [] false (Some (stmt 17))
          ∷ scope_text (Some (scope 1)) 0 [] false (Some (stmt 4))
          ∷ scope_text (Some (scope 1)) 0 [] false (Some (stmt 14))
          ∷ scope_text (Some (scope 1)) 0 [] false (Some (stmt 10))
          ∷ [];
      subprograms =
          subprogram_text (codes "p") (scope 2) [] None (Some (protected_unit 0))
          ∷ [];
      task_units = [];
      protected_units =
          protected_unit_text 15 [] [] []
          ∷ [];
      entries = [];
      controlled_types = [];
      enumerations = [];
      policies = (policies (dispatching_range RoundRobinWithinPriorities 0 31 ∷ []) queuing.Fifo None 30);
      environment = (scope 0);
      main = (main_procedure (codes "main") 15 (scope 1));
    }

abbrev pub row_policies_quanta_script : List (ℤ × Item)
row_policies_quanta_script = []

-- the lines of its run up to tick 35
unfoldable pub row_policies_quanta_lines : List (ℕ × Event)
row_policies_quanta_lines = run_of row_policies_quanta_program row_policies_quanta_script 35

unfoldable pub row_policies_quanta_trace : List (ℕ × Event)
row_policies_quanta_trace =
    (0, line.New (created.Task (task 0)) (codes "main") 15)
    ∷ (0, line.Ready (t 0) 15 Tail None)
    ∷ (0, line.Run (t 0))
    ∷ (3, line.New (created.Object (p 1)) (codes "main.o") 15)
    ∷ (7, line.Raise (t 0) (codes "dispatching_policy_error"))
    ∷ (14, line.Raise (t 0) (codes "dispatching_policy_error"))
    ∷ (22, line.Block (t 0) waits.Delay)
    ∷ (22, line.Idle)
    ∷ (23, line.Ready (t 0) 15 Tail None)
    ∷ (23, line.Run (t 0))
    ∷ (25, line.Enter (t 0) (p 1) Write)
    ∷ (31, line.Exit (t 0) (p 1))
    ∷ (31, line.Quantum (task 0))
    ∷ (31, line.Ready (t 0) 15 Tail None)
    ∷ (34, line.Done (task 0))
    ∷ (34, line.End end.Completed)
    ∷ []

pub row_policies_quanta_runs : row_policies_quanta_lines ≡ row_policies_quanta_trace
unfolding row_policies_quanta_lines row_policies_quanta_trace digits computing
row_policies_quanta_runs = refl

-- whether every world of its run is well formed
unfoldable pub row_policies_quanta_worlds : Bool
row_policies_quanta_worlds = run_is_well_formed row_policies_quanta_program row_policies_quanta_script 35

pub row_policies_quanta_keeps : row_policies_quanta_worlds ≡ true
unfolding row_policies_quanta_worlds computing
row_policies_quanta_keeps = refl

-- whether each handler is released at its tick
unfoldable pub row_policies_quanta_handlers : Bool
row_policies_quanta_handlers = releases_ok row_policies_quanta_program row_policies_quanta_script 35

pub row_policies_quanta_releases : row_policies_quanta_handlers ≡ true
unfolding row_policies_quanta_handlers computing
row_policies_quanta_releases = refl
