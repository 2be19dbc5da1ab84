use Rattle.std.specs.Prelude.{◌≡◌, ℕ, ℤ, pos, negsuc, List, [], ◌∷◌, Some, None, true, false, codes, refl}
use Rattle.trace_text.specs.declared.events.Event.{Event}
use Rattle.trace_text.specs.declared.events.Event.TheVariants as line
use Rattle.trace_text.specs.declared.events.Created.TheVariants as created
use Rattle.trace_text.specs.declared.events.Ended.TheVariants as end
use Rattle.trace_text.specs.declared.events.Finished.TheVariants as finished
use Rattle.trace_text.specs.declared.events.Mode.TheVariants.{Write}
use Rattle.trace_text.specs.declared.events.QueueEnd.TheVariants.{Head, Tail}
use Rattle.profile_image.specs.declared.script_items.Item.{Item}
use Rattle.profile_image.specs.declared.image.Image.{Image}
use Rattle.profile_image.specs.declared.image.Queuing.TheVariants as queuing
use Rattle.profile_image.specs.declared.values.Value.TheVariants.{Whole, Truth}
use Rattle.profile_image.specs.declared.values.Constraint.TheVariants.{Free, Whole, Truth}
use Rattle.profile_image.specs.declared.expressions.Expression.TheVariants.{Known, Variable}
use Rattle.profile_image.specs.declared.expressions.ObjectName.TheVariants.{Declared}
use Rattle.profile_image.specs.declared.declarations.DeclarationKind.TheVariants as kind
use Rattle.profile_image.specs.declared.declarations.Initial.TheVariants as initial
use Rattle.profile_image.specs.declared.declarations.EntryUnit.TheVariants as unit
use Rattle.profile_image.specs.declared.statements.StatementForm.TheVariants as form
use Rattle.profile_image.specs.declared.statements.Actual.TheVariants as actual
use Rattle.profile_image.specs.declared.statements.EntryOwner.TheVariants as owner
use Rattle.profile_image.specs.declared.statements.Piece.TheVariants as piece
use Rattle.profile_machine.specs.Notation.{decl, expr, stmt, scope, protected_unit, entry, task, call, p, t, of_object, declaration, variable, statement, scope_text, formal, protected_unit_text, entry_body, entry_text, policies, main_procedure}
use Rattle.profile_machine.specs.Run.{run_of}
use Rattle.profile_machine.specs.Computing.{computing}
use Rattle.std.specs.Fmt.{digits}
use Rattle.std.specs.Prelude.{Bool}
use Rattle.profile_machine.specs.WellFormed.{run_is_well_formed}
use Rattle.profile_machine.specs.Releases.{releases_ok}

-- Row requeue.parameters: its run stops before tick 19, so every greater bound gives the same trace.
abbrev pub row_requeue_parameters_program : Image
row_requeue_parameters_program =
    record {
      declarations =
          declaration (codes "p") (codes "main.p") (kind.Protected (protected_unit 0)) (scope 1) 0 16 Free None
          ∷ declaration (codes "n") (codes "main.p.n") kind.Parameter (scope 2) 0 1 (Whole (negsuc 2147483647) (pos 2147483647)) None
          ∷ declaration (codes "x") (codes "main.p.b.x") (kind.Object initial.Default) (scope 3) 0 1 (Whole (negsuc 2147483647) (pos 2147483647)) None
          ∷ [];
      expressions =
          Variable (variable (Declared (decl 2)) None)
          ∷ Known (Whole (pos 7))
          ∷ Known (Truth true)
          ∷ Known (Truth true)
          ∷ [];
      statements =
          statement (form.CallMain) 0 None
          ∷ statement (form.Requeue (entry 1) owner.Own false) 0 None
          ∷ statement (form.PutLine (piece.Whole (expr 0) ∷ [])) 0 None
          ∷ statement (form.Declare (decl 2)) 0 (Some (stmt 2))
          ∷ statement (form.EntryCall (entry 0) (owner.Object (decl 0)) (actual.In (expr 1) ∷ [])) 0 None
          ∷ statement (form.Declare (decl 0)) 0 (Some (stmt 4))
          ∷ [];
      scopes =
          scope_text None 0 [] false (Some (stmt 0))
          ∷ scope_text (Some (scope 0)) 16 [] false (Some (stmt 5))
          ∷ scope_text (Some (scope 1)) 1 [] false (Some (stmt 1))
          ∷ scope_text (Some (scope 1)) 1 [] false (Some (stmt 3))
          ∷ [];
      subprograms = [];
      task_units = [];
      protected_units =
          protected_unit_text 30 ((entry 0) ∷ (entry 1) ∷ []) [] []
          ∷ [];
      entries =
          entry_text (codes "a") (unit.Protected (protected_unit 0)) 0 (formal (Whole (negsuc 2147483647) (pos 2147483647)) (Whole (pos 0)) ∷ []) (Some (entry_body (expr 2) (scope 2)))
          ∷ entry_text (codes "b") (unit.Protected (protected_unit 0)) 1 [] (Some (entry_body (expr 3) (scope 3)))
          ∷ [];
      controlled_types = [];
      enumerations = [];
      policies = (policies [] queuing.Fifo None 30);
      environment = (scope 0);
      main = (main_procedure (codes "main") 15 (scope 1));
    }

abbrev pub row_requeue_parameters_script : List (ℤ × Item)
row_requeue_parameters_script = []

-- the lines of its run up to tick 19
unfoldable pub row_requeue_parameters_lines : List (ℕ × Event)
row_requeue_parameters_lines = run_of row_requeue_parameters_program row_requeue_parameters_script 19

unfoldable pub row_requeue_parameters_trace : List (ℕ × Event)
row_requeue_parameters_trace =
    (0, line.New (created.Task (task 0)) (codes "main") 15)
    ∷ (0, line.Ready (t 0) 15 Tail None)
    ∷ (0, line.Run (t 0))
    ∷ (3, line.New (created.Object (p 1)) (codes "main.p") 30)
    ∷ (5, line.Call (task 0) (call 1) (of_object 1 (codes "a")) 15)
    ∷ (5, line.Enter (t 0) (p 1) Write)
    ∷ (5, line.Start (t 0) (call 1))
    ∷ (5, line.Ready (t 0) 30 Head None)
    ∷ (9, line.Finish (t 0) (call 1) finished.Requeue)
    ∷ (9, line.Call (task 0) (call 1) (of_object 1 (codes "b")) 15)
    ∷ (9, line.Start (t 0) (call 1))
    ∷ (14, line.Put (t 0) (codes " 0"))
    ∷ (16, line.Finish (t 0) (call 1) finished.Ok)
    ∷ (16, line.Exit (t 0) (p 1))
    ∷ (16, line.Ready (t 0) 15 Head None)
    ∷ (18, line.Done (task 0))
    ∷ (18, line.End end.Completed)
    ∷ []

pub row_requeue_parameters_runs : row_requeue_parameters_lines ≡ row_requeue_parameters_trace
unfolding row_requeue_parameters_lines row_requeue_parameters_trace digits computing
row_requeue_parameters_runs = refl

-- whether every world of its run is well formed
unfoldable pub row_requeue_parameters_worlds : Bool
row_requeue_parameters_worlds = run_is_well_formed row_requeue_parameters_program row_requeue_parameters_script 19

pub row_requeue_parameters_keeps : row_requeue_parameters_worlds ≡ true
unfolding row_requeue_parameters_worlds computing
row_requeue_parameters_keeps = refl

-- whether each handler is released at its tick
unfoldable pub row_requeue_parameters_handlers : Bool
row_requeue_parameters_handlers = releases_ok row_requeue_parameters_program row_requeue_parameters_script 19

pub row_requeue_parameters_releases : row_requeue_parameters_handlers ≡ true
unfolding row_requeue_parameters_handlers computing
row_requeue_parameters_releases = refl
