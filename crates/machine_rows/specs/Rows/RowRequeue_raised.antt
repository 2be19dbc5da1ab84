use Rattle.std.specs.Prelude.{◌≡◌, ℕ, ℤ, pos, List, [], ◌∷◌, Some, None, true, false, codes, refl}
use Rattle.ann_base.specs.declared.exceptions.Raised.TheVariants as exception
use Rattle.trace_text.specs.declared.events.Event.{Event}
use Rattle.trace_text.specs.declared.events.Event.TheVariants as line
use Rattle.trace_text.specs.declared.events.Created.TheVariants as created
use Rattle.trace_text.specs.declared.events.Ended.TheVariants as end
use Rattle.trace_text.specs.declared.events.Finished.TheVariants as finished
use Rattle.trace_text.specs.declared.events.Leaves.TheVariants as leaves
use Rattle.trace_text.specs.declared.events.Mode.TheVariants.{Write}
use Rattle.trace_text.specs.declared.events.QueueEnd.TheVariants.{Head, Tail}
use Rattle.profile_image.specs.declared.script_items.Item.{Item}
use Rattle.profile_image.specs.declared.image.Image.{Image}
use Rattle.profile_image.specs.declared.image.Queuing.TheVariants as queuing
use Rattle.profile_image.specs.declared.values.Value.TheVariants.{Whole, Truth}
use Rattle.profile_image.specs.declared.values.Constraint.TheVariants.{Free, Whole, Truth}
use Rattle.profile_image.specs.declared.expressions.Expression.TheVariants.{Known}
use Rattle.profile_image.specs.declared.declarations.DeclarationKind.TheVariants as kind
use Rattle.profile_image.specs.declared.declarations.EntryUnit.TheVariants as unit
use Rattle.profile_image.specs.declared.declarations.ExceptionChoice.TheVariants as exception_choice
use Rattle.profile_image.specs.declared.statements.StatementForm.TheVariants as form
use Rattle.profile_image.specs.declared.statements.EntryOwner.TheVariants as owner
use Rattle.profile_machine.specs.Notation.{decl, expr, stmt, scope, subprogram, protected_unit, entry, controlled_type, task, call, p, region, t, of_object, declaration, statement, handler, scope_text, formal, subprogram_text, protected_unit_text, entry_body, entry_text, controlled_text, policies, main_procedure}
use Rattle.profile_machine.specs.Run.{run_of}
use Rattle.profile_machine.specs.Computing.{computing}
use Rattle.std.specs.Fmt.{digits}
use Rattle.std.specs.Prelude.{Bool}
use Rattle.profile_machine.specs.WellFormed.{run_is_well_formed}
use Rattle.profile_machine.specs.Releases.{releases_ok}

-- Row requeue.raised: its run stops before tick 25, so every greater bound gives the same trace.
abbrev pub row_requeue_raised_program : Image
row_requeue_raised_program =
    record {
      declarations =
          declaration (codes "o") (codes "pk.o") kind.Parameter (scope 1) 0 1 Free None
          ∷ declaration (codes "o") (codes "main.o") (kind.Protected (protected_unit 0)) (scope 2) 0 16 Free None
          ∷ declaration (codes "a") (codes "main.o.e.a") (kind.Controlled (controlled_type 0)) (scope 4) 0 1 Free None
          ∷ [];
      expressions =
          Known (Truth true)
          ∷ Known (Truth true)
          ∷ [];
      statements =
          statement (form.CallMain) 0 None
          ∷ statement (form.Handled (handler (exception_choice.Others ∷ []) (stmt 6) ∷ []) (stmt 2)) 0 None
          ∷ statement (form.Block (scope 4)) 0 None
          ∷ statement (form.Requeue (entry 1) owner.Own false) 0 None
          ∷ statement (form.Initialize (decl 2)) 0 (Some (stmt 3))
          ∷ statement (form.Declare (decl 2)) 0 (Some (stmt 4))
          ∷ statement (form.Null) 0 None
          ∷ statement (form.Null) 0 None
          ∷ statement (form.EntryCall (entry 0) (owner.Object (decl 1)) []) 0 None
          ∷ statement (form.Declare (decl 1)) 0 (Some (stmt 8))
          ∷ statement (form.Raise exception.Program) 0 None
          ∷ [];
      scopes =
          scope_text None 0 [] false (Some (stmt 0))
          ∷ scope_text (Some (scope 0)) 1 [] false (Some (stmt 10))
          ∷ scope_text (Some (scope 0)) 16 [] false (Some (stmt 9))
          ∷ scope_text (Some (scope 2)) 0 [] false (Some (stmt 1))
          ∷ scope_text (Some (scope 3)) 1 [] true (Some (stmt 5))
          ∷ scope_text (Some (scope 2)) 0 [] false (Some (stmt 7))
          ∷ [];
      subprograms =
          subprogram_text (codes "finalize") (scope 1) (formal Free (Whole (pos 0)) ∷ []) None None
          ∷ [];
      task_units = [];
      protected_units =
          protected_unit_text 30 ((entry 0) ∷ (entry 1) ∷ []) [] []
          ∷ [];
      entries =
          entry_text (codes "e") (unit.Protected (protected_unit 0)) 0 [] (Some (entry_body (expr 0) (scope 3)))
          ∷ entry_text (codes "f") (unit.Protected (protected_unit 0)) 1 [] (Some (entry_body (expr 1) (scope 5)))
          ∷ [];
      controlled_types =
          controlled_text [] None (Some (subprogram 0)) None
          ∷ [];
      enumerations = [];
      policies = (policies [] queuing.Fifo None 30);
      environment = (scope 0);
      main = (main_procedure (codes "main") 15 (scope 2));
    }

abbrev pub row_requeue_raised_script : List (ℤ × Item)
row_requeue_raised_script = []

-- the lines of its run up to tick 25
unfoldable pub row_requeue_raised_lines : List (ℕ × Event)
row_requeue_raised_lines = run_of row_requeue_raised_program row_requeue_raised_script 25

unfoldable pub row_requeue_raised_trace : List (ℕ × Event)
row_requeue_raised_trace =
    (0, line.New (created.Task (task 0)) (codes "main") 15)
    ∷ (0, line.Ready (t 0) 15 Tail None)
    ∷ (0, line.Run (t 0))
    ∷ (3, line.New (created.Object (p 1)) (codes "main.o") 30)
    ∷ (5, line.Call (task 0) (call 1) (of_object 1 (codes "e")) 15)
    ∷ (5, line.Enter (t 0) (p 1) Write)
    ∷ (5, line.Start (t 0) (call 1))
    ∷ (5, line.Ready (t 0) 30 Head None)
    ∷ (9, line.Init (t 0) 1 (region 1) (codes "a"))
    ∷ (12, line.Leave (t 0) (region 1) leaves.Return)
    ∷ (14, line.Final (t 0) 1)
    ∷ (15, line.Raise (t 0) (codes "program_error"))
    ∷ (18, line.Left (t 0) (region 1))
    ∷ (18, line.Raise (t 0) (codes "program_error"))
    ∷ (22, line.Finish (t 0) (call 1) finished.Ok)
    ∷ (22, line.Exit (t 0) (p 1))
    ∷ (22, line.Ready (t 0) 15 Head None)
    ∷ (24, line.Done (task 0))
    ∷ (24, line.End end.Completed)
    ∷ []

pub row_requeue_raised_runs : row_requeue_raised_lines ≡ row_requeue_raised_trace
unfolding row_requeue_raised_lines row_requeue_raised_trace digits computing
row_requeue_raised_runs = refl

-- whether every world of its run is well formed
unfoldable pub row_requeue_raised_worlds : Bool
row_requeue_raised_worlds = run_is_well_formed row_requeue_raised_program row_requeue_raised_script 25

pub row_requeue_raised_keeps : row_requeue_raised_worlds ≡ true
unfolding row_requeue_raised_worlds computing
row_requeue_raised_keeps = refl

-- whether each handler is released at its tick
unfoldable pub row_requeue_raised_handlers : Bool
row_requeue_raised_handlers = releases_ok row_requeue_raised_program row_requeue_raised_script 25

pub row_requeue_raised_releases : row_requeue_raised_handlers ≡ true
unfolding row_requeue_raised_handlers computing
row_requeue_raised_releases = refl
