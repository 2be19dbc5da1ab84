use Rattle.std.specs.Prelude.{◌≡◌, ℕ, ℤ, pos, List, [], ◌∷◌, Some, None, true, false, codes, refl}
use Rattle.ann_base.specs.declared.exceptions.Raised.TheVariants as exception
use Rattle.trace_text.specs.declared.events.Event.{Event}
use Rattle.trace_text.specs.declared.events.Event.TheVariants as line
use Rattle.trace_text.specs.declared.events.Created.TheVariants as created
use Rattle.trace_text.specs.declared.events.Ended.TheVariants as end
use Rattle.trace_text.specs.declared.events.Leaves.TheVariants as leaves
use Rattle.trace_text.specs.declared.events.QueueEnd.TheVariants.{Head, Tail}
use Rattle.trace_text.specs.declared.events.Waits.TheVariants as waits
use Rattle.profile_image.specs.declared.script_items.Item.{Item}
use Rattle.profile_image.specs.declared.image.Image.{Image}
use Rattle.profile_image.specs.declared.image.Queuing.TheVariants as queuing
use Rattle.profile_image.specs.declared.values.Value.TheVariants.{Whole, Ticks}
use Rattle.profile_image.specs.declared.values.Constraint.TheVariants.{Free, Whole, Ticks}
use Rattle.profile_image.specs.declared.expressions.Expression.TheVariants.{Known}
use Rattle.profile_image.specs.declared.declarations.DeclarationKind.TheVariants as kind
use Rattle.profile_image.specs.declared.declarations.EntryUnit.TheVariants as unit
use Rattle.profile_image.specs.declared.declarations.ExceptionChoice.TheVariants as exception_choice
use Rattle.profile_image.specs.declared.statements.StatementForm.TheVariants as form
use Rattle.profile_image.specs.declared.statements.EntryOwner.TheVariants as owner
use Rattle.profile_machine.specs.Notation.{decl, expr, stmt, scope, subprogram, task_unit, entry, controlled_type, task, call, region, t, of_task, declaration, statement, handler, scope_text, formal, subprogram_text, task_unit_text, entry_text, controlled_text, policies, main_procedure}
use Rattle.profile_machine.specs.Run.{run_of}
use Rattle.profile_machine.specs.Computing.{computing}
use Rattle.std.specs.Fmt.{digits}
use Rattle.std.specs.Prelude.{Bool}
use Rattle.profile_machine.specs.WellFormed.{run_is_well_formed}
use Rattle.profile_machine.specs.Releases.{releases_ok}

-- Row rendezvous.abort: its run stops before tick 43, so every greater bound gives the same trace.
abbrev pub row_rendezvous_abort_program : Image
row_rendezvous_abort_program =
    record {
      declarations =
          declaration (codes "o") (codes "pk.o") kind.Parameter (scope 1) 0 1 Free None
          ∷ declaration (codes "s") (codes "main.s") (kind.Task (task_unit 0)) (scope 2) 0 1 Free None
          ∷ declaration (codes "c") (codes "main.c") (kind.Task (task_unit 1)) (scope 2) 1 1 Free None
          ∷ declaration (codes "a") (codes "main.s.a") (kind.Controlled (controlled_type 0)) (scope 5) 0 1 Free None
          ∷ [];
      expressions =
          Known (Ticks (pos 8))
          ∷ Known (Ticks (pos 3))
          ∷ [];
      statements =
          statement (form.CallMain) 0 None
          ∷ statement (form.Accept (entry 0) (scope 4)) 0 None
          ∷ statement (form.Block (scope 5)) 0 None
          ∷ statement (form.Delay (expr 0)) 0 None
          ∷ statement (form.Initialize (decl 3)) 0 (Some (stmt 3))
          ∷ statement (form.Declare (decl 3)) 0 (Some (stmt 4))
          ∷ statement (form.EndActivation) 0 (Some (stmt 1))
          ∷ statement (form.Handled (handler (exception_choice.Named exception.Tasking ∷ []) (stmt 9) ∷ []) (stmt 8)) 0 None
          ∷ statement (form.EntryCall (entry 0) (owner.Object (decl 1)) []) 0 None
          ∷ statement (form.Null) 0 None
          ∷ statement (form.EndActivation) 0 (Some (stmt 7))
          ∷ statement (form.Abort ((decl 1) ∷ [])) 0 None
          ∷ statement (form.Delay (expr 1)) 0 (Some (stmt 11))
          ∷ statement (form.Activate 0) 0 (Some (stmt 12))
          ∷ statement (form.CreateTask (decl 2) 0) 0 (Some (stmt 13))
          ∷ statement (form.CreateTask (decl 1) 0) 0 (Some (stmt 14))
          ∷ statement (form.Raise exception.Constraint) 0 None
          ∷ [];
      scopes =
          scope_text None 0 [] false (Some (stmt 0))
          ∷ scope_text (Some (scope 0)) 1 [] false (Some (stmt 16))
          ∷ scope_text (Some (scope 0)) 2 [] true (Some (stmt 15))
          ∷ scope_text (Some (scope 2)) 0 [] false (Some (stmt 6))
          ∷ scope_text (Some (scope 3)) 0 [] false (Some (stmt 2))
          ∷ scope_text (Some (scope 4)) 1 [] true (Some (stmt 5))
          ∷ scope_text (Some (scope 2)) 0 [] false (Some (stmt 10))
          ∷ [];
      subprograms =
          subprogram_text (codes "finalize") (scope 1) (formal Free (Whole (pos 0)) ∷ []) None None
          ∷ [];
      task_units =
          task_unit_text (scope 3) None None ((entry 0) ∷ [])
          ∷ task_unit_text (scope 6) (Some 20) None []
          ∷ [];
      protected_units = [];
      entries =
          entry_text (codes "e") (unit.Task (task_unit 0)) 0 [] None
          ∷ [];
      controlled_types =
          controlled_text [] None (Some (subprogram 0)) None
          ∷ [];
      enumerations = [];
      policies = (policies [] queuing.Fifo None 30);
      environment = (scope 0);
      main = (main_procedure (codes "main") 15 (scope 2));
    }

abbrev pub row_rendezvous_abort_script : List (ℤ × Item)
row_rendezvous_abort_script = []

-- the lines of its run up to tick 43
unfoldable pub row_rendezvous_abort_lines : List (ℕ × Event)
row_rendezvous_abort_lines = run_of row_rendezvous_abort_program row_rendezvous_abort_script 43

unfoldable pub row_rendezvous_abort_trace : List (ℕ × Event)
row_rendezvous_abort_trace =
    (0, line.New (created.Task (task 0)) (codes "main") 15)
    ∷ (0, line.Ready (t 0) 15 Tail None)
    ∷ (0, line.Run (t 0))
    ∷ (4, line.New (created.Task (task 1)) (codes "main.s") 15)
    ∷ (6, line.New (created.Task (task 2)) (codes "main.c") 20)
    ∷ (8, line.Ready (t 1) 15 Tail None)
    ∷ (8, line.Ready (t 2) 20 Tail None)
    ∷ (8, line.Block (t 0) waits.Activation)
    ∷ (8, line.Run (t 2))
    ∷ (11, line.Call (task 2) (call 1) (of_task 1 (codes "e")) 20)
    ∷ (11, line.Block (t 2) waits.Entry)
    ∷ (11, line.Run (t 1))
    ∷ (12, line.Ready (t 0) 15 Tail None)
    ∷ (14, line.Start (t 1) (call 1))
    ∷ (14, line.Ready (t 1) 20 Head None)
    ∷ (18, line.Init (t 1) 1 (region 2) (codes "a"))
    ∷ (20, line.Block (t 1) waits.Delay)
    ∷ (20, line.Run (t 0))
    ∷ (22, line.Block (t 0) waits.Delay)
    ∷ (22, line.Idle)
    ∷ (25, line.Ready (t 0) 15 Tail None)
    ∷ (25, line.Run (t 0))
    ∷ (27, line.Abort (task 0) (task 1))
    ∷ (27, line.Ready (t 1) 20 Tail None)
    ∷ (27, line.Run (t 1))
    ∷ (28, line.Leave (t 1) (region 2) leaves.Abort)
    ∷ (30, line.Final (t 1) 1)
    ∷ (31, line.Raise (t 1) (codes "constraint_error"))
    ∷ (34, line.Left (t 1) (region 2))
    ∷ (35, line.Gone (task 2) (call 1))
    ∷ (35, line.Ready (t 2) 20 Tail None)
    ∷ (35, line.Raise (t 2) (codes "tasking_error"))
    ∷ (35, line.Ready (t 1) 15 Head None)
    ∷ (35, line.Run (t 2))
    ∷ (38, line.Done (task 2))
    ∷ (38, line.Run (t 1))
    ∷ (39, line.Done (task 1))
    ∷ (39, line.Run (t 0))
    ∷ (40, line.Leave (t 0) (region 1) leaves.End)
    ∷ (41, line.Left (t 0) (region 1))
    ∷ (42, line.Done (task 0))
    ∷ (42, line.End end.Completed)
    ∷ []

pub row_rendezvous_abort_runs : row_rendezvous_abort_lines ≡ row_rendezvous_abort_trace
unfolding row_rendezvous_abort_lines row_rendezvous_abort_trace digits computing
row_rendezvous_abort_runs = refl

-- whether every world of its run is well formed
unfoldable pub row_rendezvous_abort_worlds : Bool
row_rendezvous_abort_worlds = run_is_well_formed row_rendezvous_abort_program row_rendezvous_abort_script 43

pub row_rendezvous_abort_keeps : row_rendezvous_abort_worlds ≡ true
unfolding row_rendezvous_abort_worlds computing
row_rendezvous_abort_keeps = refl

-- whether each handler is released at its tick
unfoldable pub row_rendezvous_abort_handlers : Bool
row_rendezvous_abort_handlers = releases_ok row_rendezvous_abort_program row_rendezvous_abort_script 43

pub row_rendezvous_abort_releases : row_rendezvous_abort_handlers ≡ true
unfolding row_rendezvous_abort_handlers computing
row_rendezvous_abort_releases = refl
