use Rattle.std.specs.Prelude.{◌≡◌, ℕ, ℤ, pos, negsuc, List, [], ◌∷◌, Some, None, true, false, codes, refl}
use Rattle.trace_text.specs.declared.events.Event.{Event}
use Rattle.trace_text.specs.declared.events.Event.TheVariants as line
use Rattle.trace_text.specs.declared.events.Created.TheVariants as created
use Rattle.trace_text.specs.declared.events.Ended.TheVariants as end
use Rattle.trace_text.specs.declared.events.Finished.TheVariants as finished
use Rattle.trace_text.specs.declared.events.Leaves.TheVariants as leaves
use Rattle.trace_text.specs.declared.events.QueueEnd.TheVariants.{Tail}
use Rattle.trace_text.specs.declared.events.Waits.TheVariants as waits
use Rattle.profile_image.specs.declared.script_items.Item.{Item}
use Rattle.profile_image.specs.declared.image.Image.{Image}
use Rattle.profile_image.specs.declared.image.Queuing.TheVariants as queuing
use Rattle.profile_image.specs.declared.values.Value.TheVariants.{Whole}
use Rattle.profile_image.specs.declared.values.Constraint.TheVariants.{Free, Whole}
use Rattle.profile_image.specs.declared.expressions.Expression.TheVariants.{Known, Variable, Binary}
use Rattle.profile_image.specs.declared.expressions.ObjectName.TheVariants.{Component}
use Rattle.profile_image.specs.declared.expressions.BinaryOperator.TheVariants as binary
use Rattle.profile_image.specs.declared.declarations.DeclarationKind.TheVariants as kind
use Rattle.profile_image.specs.declared.declarations.Initial.TheVariants as initial
use Rattle.profile_image.specs.declared.declarations.EntryUnit.TheVariants as unit
use Rattle.profile_image.specs.declared.statements.StatementForm.TheVariants as form
use Rattle.profile_image.specs.declared.statements.EntryOwner.TheVariants as owner
use Rattle.profile_machine.specs.Notation.{decl, expr, stmt, scope, subprogram, task_unit, entry, controlled_type, task, call, region, t, of_task, declaration, variable, statement, scope_text, formal, subprogram_text, task_unit_text, entry_text, controlled_text, policies, main_procedure}
use Rattle.profile_machine.specs.Run.{run_of}
use Rattle.profile_machine.specs.Computing.{computing}
use Rattle.std.specs.Fmt.{digits}
use Rattle.std.specs.Prelude.{Bool}
use Rattle.profile_machine.specs.WellFormed.{run_is_well_formed}
use Rattle.profile_machine.specs.Releases.{releases_ok}

-- Row calls.inside: its run stops before tick 54, so every greater bound gives the same trace.
abbrev pub row_calls_inside_program : Image
row_calls_inside_program =
    record {
      declarations =
          declaration (codes "n") (codes "pk.r.n") (kind.Object initial.Default) (scope 0) 0 1 (Whole (negsuc 2147483647) (pos 2147483647)) None
          ∷ declaration (codes "t") (codes "pk.t") (kind.Task (task_unit 0)) (scope 0) 0 1 Free None
          ∷ declaration (codes "o") (codes "pk.o") kind.Parameter (scope 1) 0 2 Free None
          ∷ declaration (codes "o") (codes "pk.o") kind.Parameter (scope 2) 0 2 Free None
          ∷ declaration (codes "a") (codes "main.a") (kind.Controlled (controlled_type 0)) (scope 6) 0 2 Free None
          ∷ declaration (codes "b") (codes "main.b") (kind.Controlled (controlled_type 0)) (scope 6) 2 2 Free None
          ∷ [];
      expressions =
          Known (Whole (pos 1))
          ∷ Variable (variable (Component (decl 2) (decl 0)) None)
          ∷ Known (Whole (pos 1))
          ∷ Binary binary.Equal (expr 1) (expr 2)
          ∷ [];
      statements =
          statement (form.CallMain) 0 None
          ∷ statement (form.AssignControlled (decl 4) (decl 5)) 0 None
          ∷ statement (form.Assign (variable (Component (decl 4) (decl 0)) None) (expr 0)) 0 (Some (stmt 1))
          ∷ statement (form.Initialize (decl 5)) 0 (Some (stmt 2))
          ∷ statement (form.Declare (decl 5)) 0 (Some (stmt 3))
          ∷ statement (form.Initialize (decl 4)) 0 (Some (stmt 4))
          ∷ statement (form.Declare (decl 4)) 0 (Some (stmt 5))
          ∷ statement (form.EntryCall (entry 0) (owner.Object (decl 1)) []) 0 None
          ∷ statement (form.If (expr 3) (stmt 7) None) 1 None
          ∷ statement (form.EntryCall (entry 0) (owner.Object (decl 1)) []) 0 None
          ∷ statement (form.Accept (entry 0) (scope 5)) 0 None
          ∷ statement (form.Accept (entry 0) (scope 4)) 0 (Some (stmt 10))
          ∷ statement (form.EndActivation) 0 (Some (stmt 11))
          ∷ statement (form.Activate 1) 0 (Some (stmt 0))
          ∷ statement (form.CreateTask (decl 1) 1) 0 (Some (stmt 13))
          ∷ [];
      scopes =
          scope_text None 1 [] true (Some (stmt 14))
          ∷ scope_text (Some (scope 0)) 2 [] false (Some (stmt 8))
          ∷ scope_text (Some (scope 0)) 2 [] false (Some (stmt 9))
          ∷ scope_text (Some (scope 0)) 0 [] false (Some (stmt 12))
          ∷ scope_text (Some (scope 3)) 0 [] false None
          ∷ scope_text (Some (scope 3)) 0 [] false None
          ∷ scope_text (Some (scope 0)) 4 [] true (Some (stmt 6))
          ∷ [];
      subprograms =
          subprogram_text (codes "finalize") (scope 1) (formal Free (Whole (pos 0)) ∷ []) None None
          ∷ subprogram_text (codes "adjust") (scope 2) (formal Free (Whole (pos 0)) ∷ []) None None
          ∷ [];
      task_units =
          task_unit_text (scope 3) None None ((entry 0) ∷ [])
          ∷ [];
      protected_units = [];
      entries =
          entry_text (codes "e") (unit.Task (task_unit 0)) 0 [] None
          ∷ [];
      controlled_types =
          controlled_text ((decl 0) ∷ []) None (Some (subprogram 0)) (Some (subprogram 1))
          ∷ [];
      enumerations = [];
      policies = (policies [] queuing.Fifo None 30);
      environment = (scope 0);
      main = (main_procedure (codes "main") 15 (scope 6));
    }

abbrev pub row_calls_inside_script : List (ℤ × Item)
row_calls_inside_script = []

-- the lines of its run up to tick 54
unfoldable pub row_calls_inside_lines : List (ℕ × Event)
row_calls_inside_lines = run_of row_calls_inside_program row_calls_inside_script 54

unfoldable pub row_calls_inside_trace : List (ℕ × Event)
row_calls_inside_trace =
    (0, line.New (created.Task (task 0)) (codes "main") 15)
    ∷ (0, line.Ready (t 0) 15 Tail None)
    ∷ (0, line.Run (t 0))
    ∷ (2, line.New (created.Task (task 1)) (codes "pk.t") 15)
    ∷ (4, line.Ready (t 1) 15 Tail None)
    ∷ (4, line.Block (t 0) waits.Activation)
    ∷ (4, line.Run (t 1))
    ∷ (5, line.Ready (t 0) 15 Tail None)
    ∷ (7, line.Block (t 1) waits.Accept)
    ∷ (7, line.Run (t 0))
    ∷ (12, line.Init (t 0) 1 (region 2) (codes "a"))
    ∷ (15, line.Init (t 0) 2 (region 2) (codes "b"))
    ∷ (17, line.Replace (t 0) 1)
    ∷ (23, line.Call (task 0) (call 1) (of_task 1 (codes "e")) 15)
    ∷ (23, line.Start (t 1) (call 1))
    ∷ (23, line.Ready (t 1) 15 Tail None)
    ∷ (23, line.Block (t 0) waits.Entry)
    ∷ (23, line.Run (t 1))
    ∷ (24, line.Finish (t 1) (call 1) finished.Ok)
    ∷ (24, line.Ready (t 0) 15 Tail None)
    ∷ (26, line.Block (t 1) waits.Accept)
    ∷ (26, line.Run (t 0))
    ∷ (33, line.Call (task 0) (call 2) (of_task 1 (codes "e")) 15)
    ∷ (33, line.Start (t 1) (call 2))
    ∷ (33, line.Ready (t 1) 15 Tail None)
    ∷ (33, line.Block (t 0) waits.Entry)
    ∷ (33, line.Run (t 1))
    ∷ (34, line.Finish (t 1) (call 2) finished.Ok)
    ∷ (34, line.Ready (t 0) 15 Tail None)
    ∷ (35, line.Done (task 1))
    ∷ (35, line.Run (t 0))
    ∷ (38, line.Leave (t 0) (region 2) leaves.End)
    ∷ (40, line.Final (t 0) 2)
    ∷ (46, line.Final (t 0) 1)
    ∷ (51, line.Left (t 0) (region 2))
    ∷ (52, line.Leave (t 0) (region 1) leaves.End)
    ∷ (53, line.Left (t 0) (region 1))
    ∷ (53, line.Done (task 0))
    ∷ (53, line.End end.Completed)
    ∷ []

pub row_calls_inside_runs : row_calls_inside_lines ≡ row_calls_inside_trace
unfolding row_calls_inside_lines row_calls_inside_trace digits computing
row_calls_inside_runs = refl

-- whether every world of its run is well formed
unfoldable pub row_calls_inside_worlds : Bool
row_calls_inside_worlds = run_is_well_formed row_calls_inside_program row_calls_inside_script 54

pub row_calls_inside_keeps : row_calls_inside_worlds ≡ true
unfolding row_calls_inside_worlds computing
row_calls_inside_keeps = refl

-- whether each handler is released at its tick
unfoldable pub row_calls_inside_handlers : Bool
row_calls_inside_handlers = releases_ok row_calls_inside_program row_calls_inside_script 54

pub row_calls_inside_releases : row_calls_inside_handlers ≡ true
unfolding row_calls_inside_handlers computing
row_calls_inside_releases = refl
