use Rattle.std.specs.Prelude.{◌≡◌, ℕ, ℤ, pos, List, [], ◌∷◌, Some, None, true, false, codes, refl}
use Rattle.ann_base.specs.declared.exceptions.Raised.TheVariants as exception
use Rattle.trace_text.specs.declared.events.Event.{Event}
use Rattle.trace_text.specs.declared.events.Event.TheVariants as line
use Rattle.trace_text.specs.declared.events.Created.TheVariants as created
use Rattle.trace_text.specs.declared.events.Ended.TheVariants as end
use Rattle.trace_text.specs.declared.events.Leaves.TheVariants as leaves
use Rattle.trace_text.specs.declared.events.QueueEnd.TheVariants.{Head, Tail}
use Rattle.trace_text.specs.declared.events.Waits.TheVariants as waits
use Rattle.profile_image.specs.declared.script_items.Item.{Item}
use Rattle.profile_image.specs.declared.image.Image.{Image}
use Rattle.profile_image.specs.declared.image.Queuing.TheVariants as queuing
use Rattle.profile_image.specs.declared.values.Value.TheVariants.{Whole, Ticks}
use Rattle.profile_image.specs.declared.values.Constraint.TheVariants.{Free, Whole, Ticks}
use Rattle.profile_image.specs.declared.expressions.Expression.TheVariants.{Known}
use Rattle.profile_image.specs.declared.declarations.DeclarationKind.TheVariants as kind
use Rattle.profile_image.specs.declared.declarations.EntryUnit.TheVariants as unit
use Rattle.profile_image.specs.declared.declarations.ExceptionChoice.TheVariants as exception_choice
use Rattle.profile_image.specs.declared.statements.StatementForm.TheVariants as form
use Rattle.profile_image.specs.declared.statements.EntryOwner.TheVariants as owner
use Rattle.profile_machine.specs.Notation.{decl, expr, stmt, scope, subprogram, task_unit, entry, controlled_type, task, call, region, t, of_task, declaration, statement, handler, scope_text, formal, subprogram_text, task_unit_text, entry_text, controlled_text, policies, main_procedure}
use Rattle.profile_machine.specs.Run.{run_of}
use Rattle.profile_machine.specs.Computing.{computing}
use Rattle.std.specs.Fmt.{digits}
use Rattle.std.specs.Prelude.{Bool}
use Rattle.profile_machine.specs.WellFormed.{run_is_well_formed}
use Rattle.profile_machine.specs.Releases.{releases_ok}

-- Row deferred.inside: its run stops before tick 38, so every greater bound gives the same trace.
abbrev pub row_deferred_inside_program : Image
row_deferred_inside_program =
    record {
      declarations =
          declaration (codes "t") (codes "pk.t") (kind.Task (task_unit 0)) (scope 0) 0 1 Free None
          ∷ declaration (codes "o") (codes "pk.o") kind.Parameter (scope 1) 0 1 Free None
          ∷ declaration (codes "x") (codes "pk.initialize.x") (kind.Task (task_unit 1)) (scope 3) 0 1 Free None
          ∷ declaration (codes "a") (codes "main.a") (kind.Controlled (controlled_type 0)) (scope 7) 0 1 Free None
          ∷ [];
      expressions =
          Known (Ticks (pos 1000000))
          ∷ [];
      statements =
          statement (form.CallMain) 0 None
          ∷ statement (form.Abort ((decl 0) ∷ [])) 0 None
          ∷ statement (form.Initialize (decl 3)) 0 (Some (stmt 1))
          ∷ statement (form.Declare (decl 3)) 0 (Some (stmt 2))
          ∷ statement (form.Handled (handler (exception_choice.Named exception.Program ∷ []) (stmt 18) ∷ []) (stmt 17)) 0 None
          ∷ statement (form.Block (scope 3)) 0 None
          ∷ statement (form.Null) 0 None
          ∷ statement (form.Activate 0) 0 (Some (stmt 6))
          ∷ statement (form.CreateTask (decl 2) 0) 0 (Some (stmt 7))
          ∷ statement (form.Block (scope 2)) 0 (Some (stmt 5))
          ∷ statement (form.Handled (handler (exception_choice.Named exception.Program ∷ []) (stmt 14) ∷ []) (stmt 11)) 0 None
          ∷ statement (form.AsynchronousSelect (stmt 12) (stmt 13)) 0 None
          ∷ statement (form.Delay (expr 0)) 0 None
          ∷ statement (form.Null) 0 None
          ∷ statement (form.Null) 0 None
          ∷ statement (form.EntryCall (entry 0) (owner.Object (decl 0)) []) 0 (Some (stmt 9))
          ∷ statement (form.Null) 0 (Some (stmt 9))
          ∷ statement (form.ConditionalCall (stmt 15) (stmt 16)) 0 (Some (stmt 9))
          ∷ statement (form.Null) 0 None
          ∷ statement (form.Accept (entry 0) (scope 5)) 0 None
          ∷ statement (form.EndActivation) 0 (Some (stmt 19))
          ∷ statement (form.Null) 0 None
          ∷ statement (form.EndActivation) 0 (Some (stmt 21))
          ∷ statement (form.Activate 1) 0 (Some (stmt 0))
          ∷ statement (form.CreateTask (decl 0) 1) 0 (Some (stmt 23))
          ∷ [];
      scopes =
          scope_text None 1 [] true (Some (stmt 24))
          ∷ scope_text (Some (scope 0)) 1 [] false (Some (stmt 4))
          ∷ scope_text (Some (scope 1)) 0 [] false (Some (stmt 10))
          ∷ scope_text (Some (scope 1)) 1 [] true (Some (stmt 8))
          ∷ scope_text (Some (scope 0)) 0 [] false (Some (stmt 20))
          ∷ scope_text (Some (scope 4)) 0 [] false None
          ∷ scope_text (Some (scope 0)) 0 [] false (Some (stmt 22))
          ∷ scope_text (Some (scope 0)) 1 [] true (Some (stmt 3))
          ∷ [];
      subprograms =
          subprogram_text (codes "initialize") (scope 1) (formal Free (Whole (pos 0)) ∷ []) None None
          ∷ [];
      task_units =
          task_unit_text (scope 4) (Some 10) None ((entry 0) ∷ [])
          ∷ task_unit_text (scope 6) None None []
          ∷ [];
      protected_units = [];
      entries =
          entry_text (codes "e") (unit.Task (task_unit 0)) 0 [] None
          ∷ [];
      controlled_types =
          controlled_text [] (Some (subprogram 0)) None None
          ∷ [];
      enumerations = [];
      policies = (policies [] queuing.Fifo None 30);
      environment = (scope 0);
      main = (main_procedure (codes "main") 15 (scope 7));
    }

abbrev pub row_deferred_inside_script : List (ℤ × Item)
row_deferred_inside_script = []

-- the lines of its run up to tick 38
unfoldable pub row_deferred_inside_lines : List (ℕ × Event)
row_deferred_inside_lines = run_of row_deferred_inside_program row_deferred_inside_script 38

unfoldable pub row_deferred_inside_trace : List (ℕ × Event)
row_deferred_inside_trace =
    (0, line.New (created.Task (task 0)) (codes "main") 15)
    ∷ (0, line.Ready (t 0) 15 Tail None)
    ∷ (0, line.Run (t 0))
    ∷ (2, line.New (created.Task (task 1)) (codes "pk.t") 10)
    ∷ (4, line.Ready (t 1) 15 Tail None)
    ∷ (4, line.Block (t 0) waits.Activation)
    ∷ (4, line.Run (t 1))
    ∷ (5, line.Ready (t 0) 15 Tail None)
    ∷ (5, line.Ready (t 1) 10 Head None)
    ∷ (5, line.Run (t 0))
    ∷ (12, line.Call (task 0) (call 1) (of_task 1 (codes "e")) 15)
    ∷ (12, line.Cancel (task 0) (call 1))
    ∷ (16, line.Raise (t 0) (codes "program_error"))
    ∷ (22, line.Raise (t 0) (codes "program_error"))
    ∷ (23, line.Leave (t 0) (region 3) leaves.Exception)
    ∷ (24, line.Left (t 0) (region 3))
    ∷ (28, line.Init (t 0) 1 (region 2) (codes "a"))
    ∷ (30, line.Abort (task 0) (task 1))
    ∷ (31, line.Leave (t 0) (region 2) leaves.End)
    ∷ (33, line.Final (t 0) 1)
    ∷ (34, line.Left (t 0) (region 2))
    ∷ (35, line.Leave (t 0) (region 1) leaves.End)
    ∷ (35, line.Block (t 0) waits.Dependents)
    ∷ (35, line.Run (t 1))
    ∷ (36, line.Done (task 1))
    ∷ (36, line.Ready (t 0) 15 Tail None)
    ∷ (36, line.Run (t 0))
    ∷ (37, line.Left (t 0) (region 1))
    ∷ (37, line.Done (task 0))
    ∷ (37, line.End end.Completed)
    ∷ []

pub row_deferred_inside_runs : row_deferred_inside_lines ≡ row_deferred_inside_trace
unfolding row_deferred_inside_lines row_deferred_inside_trace digits computing
row_deferred_inside_runs = refl

-- whether every world of its run is well formed
unfoldable pub row_deferred_inside_worlds : Bool
row_deferred_inside_worlds = run_is_well_formed row_deferred_inside_program row_deferred_inside_script 38

pub row_deferred_inside_keeps : row_deferred_inside_worlds ≡ true
unfolding row_deferred_inside_worlds computing
row_deferred_inside_keeps = refl

-- whether each handler is released at its tick
unfoldable pub row_deferred_inside_handlers : Bool
row_deferred_inside_handlers = releases_ok row_deferred_inside_program row_deferred_inside_script 38

pub row_deferred_inside_releases : row_deferred_inside_handlers ≡ true
unfolding row_deferred_inside_handlers computing
row_deferred_inside_releases = refl
