use Rattle.std.specs.Prelude.{◌≡◌, ℕ, ℤ, pos, List, [], ◌∷◌, Some, None, true, false, codes, refl}
use Rattle.trace_text.specs.declared.events.Event.{Event}
use Rattle.trace_text.specs.declared.events.Event.TheVariants as line
use Rattle.trace_text.specs.declared.events.Created.TheVariants as created
use Rattle.trace_text.specs.declared.events.Ended.TheVariants as end
use Rattle.trace_text.specs.declared.events.Leaves.TheVariants as leaves
use Rattle.trace_text.specs.declared.events.Mode.TheVariants.{Write}
use Rattle.trace_text.specs.declared.events.QueueEnd.TheVariants.{Head, Tail}
use Rattle.trace_text.specs.declared.events.Waits.TheVariants as waits
use Rattle.profile_image.specs.declared.script_items.Item.{Item}
use Rattle.profile_image.specs.declared.image.Image.{Image}
use Rattle.profile_image.specs.declared.image.Queuing.TheVariants as queuing
use Rattle.profile_image.specs.declared.values.Value.TheVariants.{Whole, Task, Thing}
use Rattle.profile_image.specs.declared.values.Constraint.TheVariants.{Free, Whole}
use Rattle.profile_image.specs.declared.expressions.Expression.TheVariants.{Known, Thing, Span}
use Rattle.profile_image.specs.declared.declarations.DeclarationKind.TheVariants as kind
use Rattle.profile_image.specs.declared.declarations.Initial.TheVariants as initial
use Rattle.profile_image.specs.declared.statements.StatementForm.TheVariants as form
use Rattle.profile_image.specs.declared.statements.Setting.TheVariants as setting
use Rattle.profile_machine.specs.Notation.{decl, expr, stmt, scope, subprogram, task_unit, protected_unit, task, p, region, t, agent, declaration, statement, handler_name, cell_run, scope_text, formal, subprogram_text, task_unit_text, protected_unit_text, policies, main_procedure}
use Rattle.profile_machine.specs.Run.{run_of}
use Rattle.profile_machine.specs.Computing.{computing}
use Rattle.std.specs.Fmt.{digits}
use Rattle.std.specs.Prelude.{Bool}
use Rattle.profile_machine.specs.WellFormed.{run_is_well_formed}
use Rattle.profile_machine.specs.Releases.{releases_ok}

-- Row timers.other: its run stops before tick 28, so every greater bound gives the same trace.
abbrev pub row_timers_other_program : Image
row_timers_other_program =
    record {
      declarations =
          declaration (codes "t") (codes "pk.t") (kind.Task (task_unit 0)) (scope 0) 0 1 Free None
          ∷ declaration (codes "id") (codes "pk.id") (kind.Object (initial.Scalar (expr 2))) (scope 0) 1 1 Free None
          ∷ declaration (codes "c") (codes "pk.c") (kind.Timer (decl 1)) (scope 0) 2 1 Free None
          ∷ declaration (codes "h") (codes "pk.h") (kind.Protected (protected_unit 0)) (scope 0) 3 16 Free None
          ∷ declaration (codes "e") (codes "pk.h.e") kind.Parameter (scope 1) 0 1 Free None
          ∷ [];
      expressions =
          Known (Whole (pos 3))
          ∷ Span (pos 1) (expr 0)
          ∷ Thing (decl 0)
          ∷ [];
      statements =
          statement (form.CallMain) 0 None
          ∷ statement (form.Null) 0 None
          ∷ statement (form.Null) 0 (Some (stmt 1))
          ∷ statement (form.SetTimer (decl 2) (setting.In (expr 1)) (Some (handler_name (decl 3) (subprogram 0)))) 1 (Some (stmt 2))
          ∷ statement (form.Null) 0 None
          ∷ statement (form.Null) 0 None
          ∷ statement (form.Null) 0 (Some (stmt 5))
          ∷ statement (form.Null) 0 (Some (stmt 6))
          ∷ statement (form.EndActivation) 0 (Some (stmt 7))
          ∷ statement (form.Activate 1) 0 (Some (stmt 0))
          ∷ statement (form.Declare (decl 3)) 0 (Some (stmt 9))
          ∷ statement (form.Declare (decl 2)) 0 (Some (stmt 10))
          ∷ statement (form.Declare (decl 1)) 0 (Some (stmt 11))
          ∷ statement (form.CreateTask (decl 0) 1) 0 (Some (stmt 12))
          ∷ [];
      scopes =
          scope_text None 19 (cell_run 1 1 (Task None) ∷ []) true (Some (stmt 13))
          ∷ scope_text (Some (scope 0)) 1 [] false (Some (stmt 4))
          ∷ scope_text (Some (scope 0)) 0 [] false (Some (stmt 8))
          ∷ scope_text (Some (scope 0)) 0 [] false (Some (stmt 3))
          ∷ [];
      subprograms =
          subprogram_text (codes "fire") (scope 1) (formal Free (Whole (pos 0)) ∷ []) None (Some (protected_unit 0))
          ∷ [];
      task_units =
          task_unit_text (scope 2) (Some 5) None []
          ∷ [];
      protected_units =
          protected_unit_text 31 [] [] []
          ∷ [];
      entries = [];
      controlled_types = [];
      enumerations = [];
      policies = (policies [] queuing.Fifo None 30);
      environment = (scope 0);
      main = (main_procedure (codes "main") 15 (scope 3));
    }

abbrev pub row_timers_other_script : List (ℤ × Item)
row_timers_other_script = []

-- the lines of its run up to tick 28
unfoldable pub row_timers_other_lines : List (ℕ × Event)
row_timers_other_lines = run_of row_timers_other_program row_timers_other_script 28

unfoldable pub row_timers_other_trace : List (ℕ × Event)
row_timers_other_trace =
    (0, line.New (created.Task (task 0)) (codes "main") 15)
    ∷ (0, line.Ready (t 0) 15 Tail None)
    ∷ (0, line.Run (t 0))
    ∷ (2, line.New (created.Task (task 1)) (codes "pk.t") 5)
    ∷ (5, line.New (created.Object (p 1)) (codes "pk.h") 31)
    ∷ (7, line.Ready (t 1) 15 Tail None)
    ∷ (7, line.Block (t 0) waits.Activation)
    ∷ (7, line.Run (t 1))
    ∷ (8, line.Ready (t 0) 15 Tail None)
    ∷ (8, line.Ready (t 1) 5 Head None)
    ∷ (8, line.Run (t 0))
    ∷ (17, line.Leave (t 0) (region 1) leaves.End)
    ∷ (17, line.Block (t 0) waits.Dependents)
    ∷ (17, line.Run (t 1))
    ∷ (20, line.Release 1 (p 1) (codes "fire"))
    ∷ (20, line.Ready agent 31 Tail None)
    ∷ (20, line.Run agent)
    ∷ (20, line.Serve 1)
    ∷ (22, line.Enter agent (p 1) Write)
    ∷ (25, line.Exit agent (p 1))
    ∷ (25, line.Served 1)
    ∷ (25, line.Block agent waits.Release)
    ∷ (25, line.Run (t 1))
    ∷ (26, line.Done (task 1))
    ∷ (26, line.Ready (t 0) 15 Tail None)
    ∷ (26, line.Run (t 0))
    ∷ (27, line.Left (t 0) (region 1))
    ∷ (27, line.Done (task 0))
    ∷ (27, line.End end.Completed)
    ∷ []

pub row_timers_other_runs : row_timers_other_lines ≡ row_timers_other_trace
unfolding row_timers_other_lines row_timers_other_trace digits computing
row_timers_other_runs = refl

-- whether every world of its run is well formed
unfoldable pub row_timers_other_worlds : Bool
row_timers_other_worlds = run_is_well_formed row_timers_other_program row_timers_other_script 28

pub row_timers_other_keeps : row_timers_other_worlds ≡ true
unfolding row_timers_other_worlds computing
row_timers_other_keeps = refl

-- whether each handler is released at its tick
unfoldable pub row_timers_other_handlers : Bool
row_timers_other_handlers = releases_ok row_timers_other_program row_timers_other_script 28

pub row_timers_other_releases : row_timers_other_handlers ≡ true
unfolding row_timers_other_handlers computing
row_timers_other_releases = refl
