use Rattle.std.specs.Prelude.{◌≡◌, ℕ, ℤ, pos, negsuc, List, [], ◌∷◌, Some, None, true, false, codes, refl}
use Rattle.trace_text.specs.declared.events.Event.{Event}
use Rattle.trace_text.specs.declared.events.Event.TheVariants as line
use Rattle.trace_text.specs.declared.events.Created.TheVariants as created
use Rattle.trace_text.specs.declared.events.Ended.TheVariants as end
use Rattle.trace_text.specs.declared.events.Leaves.TheVariants as leaves
use Rattle.trace_text.specs.declared.events.QueueEnd.TheVariants.{Tail}
use Rattle.trace_text.specs.declared.events.Waits.TheVariants as waits
use Rattle.profile_image.specs.declared.script_items.Item.{Item}
use Rattle.profile_image.specs.declared.image.Image.{Image}
use Rattle.profile_image.specs.declared.image.Queuing.TheVariants as queuing
use Rattle.profile_image.specs.declared.values.Value.TheVariants.{Whole, Truth, Ticks}
use Rattle.profile_image.specs.declared.values.Constraint.TheVariants.{Free, Whole, Truth, Ticks}
use Rattle.profile_image.specs.declared.expressions.Expression.TheVariants.{Known, Variable, Binary}
use Rattle.profile_image.specs.declared.expressions.ObjectName.TheVariants.{Declared}
use Rattle.profile_image.specs.declared.expressions.BinaryOperator.TheVariants as binary
use Rattle.profile_image.specs.declared.declarations.DeclarationKind.TheVariants as kind
use Rattle.profile_image.specs.declared.declarations.Initial.TheVariants as initial
use Rattle.profile_image.specs.declared.declarations.EntryUnit.TheVariants as unit
use Rattle.profile_image.specs.declared.statements.StatementForm.TheVariants as form
use Rattle.profile_image.specs.declared.statements.Actual.TheVariants as actual
use Rattle.profile_image.specs.declared.statements.Callee.TheVariants as callee
use Rattle.profile_image.specs.declared.statements.Destination.TheVariants as destination
use Rattle.profile_image.specs.declared.statements.EntryOwner.TheVariants as owner
use Rattle.profile_image.specs.declared.statements.SelectKind.TheVariants as select
use Rattle.profile_machine.specs.Notation.{decl, expr, stmt, scope, subprogram, task_unit, entry, task, call, region, t, of_task, declaration, variable, statement, select_alternative, scope_text, formal, subprogram_text, task_unit_text, entry_text, policies, main_procedure}
use Rattle.profile_machine.specs.Run.{run_of}
use Rattle.profile_machine.specs.Computing.{computing}
use Rattle.std.specs.Fmt.{digits}
use Rattle.std.specs.Prelude.{Bool}
use Rattle.profile_machine.specs.WellFormed.{run_is_well_formed}
use Rattle.profile_machine.specs.Releases.{releases_ok}

-- Row select.past: its run stops before tick 43, so every greater bound gives the same trace.
abbrev pub row_select_past_program : Image
row_select_past_program =
    record {
      declarations =
          declaration (codes "v") (codes "main.v") (kind.Object (initial.Scalar (expr 10))) (scope 1) 0 1 (Whole (negsuc 2147483647) (pos 2147483647)) None
          ∷ declaration (codes "x") (codes "main.x") kind.Parameter (scope 2) 0 1 (Whole (negsuc 2147483647) (pos 2147483647)) None
          ∷ declaration (codes "t") (codes "main.t") (kind.Task (task_unit 0)) (scope 1) 1 1 Free None
          ∷ [];
      expressions =
          Known (Ticks (pos 9))
          ∷ Known (Whole (pos 7))
          ∷ Known (Ticks (pos 9))
          ∷ Known (Truth false)
          ∷ Variable (variable (Declared (decl 0)) None)
          ∷ Known (Whole (pos 5))
          ∷ Binary binary.Equal (expr 4) (expr 5)
          ∷ Known (Ticks (pos 6))
          ∷ Known (Ticks (pos 0))
          ∷ Known (Ticks (pos 0))
          ∷ Known (Whole (pos 5))
          ∷ [];
      statements =
          statement (form.CallMain) 0 None
          ∷ statement (form.Delay (expr 0)) 0 None
          ∷ statement (form.Assign (variable (Declared (decl 1)) None) (expr 1)) 0 (Some (stmt 1))
          ∷ statement (form.Delay (expr 2)) 0 None
          ∷ statement (form.Accept (entry 0) (scope 5)) 0 (Some (stmt 3))
          ∷ statement (form.Null) 0 (Some (stmt 3))
          ∷ statement (form.SelectiveAccept (select_alternative None (select.Accept (stmt 4)) ∷ []) (Some (stmt 5))) 0 (Some (stmt 3))
          ∷ statement (form.Accept (entry 0) (scope 4)) 0 (Some (stmt 6))
          ∷ statement (form.Null) 0 (Some (stmt 6))
          ∷ statement (form.SelectiveAccept (select_alternative (Some (expr 3)) (select.Accept (stmt 7)) ∷ []) (Some (stmt 8))) 0 (Some (stmt 6))
          ∷ statement (form.EndActivation) 0 (Some (stmt 9))
          ∷ statement (form.Null) 0 None
          ∷ statement (form.Null) 0 (Some (stmt 11))
          ∷ statement (form.If (expr 6) (stmt 12) None) 1 None
          ∷ statement (form.AsynchronousSelect (stmt 15) (stmt 16)) 0 (Some (stmt 13))
          ∷ statement (form.Delay (expr 7)) 0 (Some (stmt 13))
          ∷ statement (form.Call (callee.Subprogram (subprogram 0)) (actual.Out (variable (Declared (decl 0)) None) ∷ []) destination.Nowhere) 0 None
          ∷ statement (form.AsynchronousSelect (stmt 19) (stmt 21)) 0 (Some (stmt 14))
          ∷ statement (form.Null) 0 (Some (stmt 14))
          ∷ statement (form.Delay (expr 8)) 0 (Some (stmt 18))
          ∷ statement (form.Null) 0 None
          ∷ statement (form.Null) 0 (Some (stmt 20))
          ∷ statement (form.EntryCall (entry 0) (owner.Object (decl 2)) []) 0 (Some (stmt 17))
          ∷ statement (form.Null) 0 (Some (stmt 17))
          ∷ statement (form.Null) 0 (Some (stmt 23))
          ∷ statement (form.Delay (expr 9)) 0 (Some (stmt 24))
          ∷ statement (form.TimedCall (stmt 22) (stmt 25)) 0 (Some (stmt 17))
          ∷ statement (form.Activate 0) 0 (Some (stmt 26))
          ∷ statement (form.CreateTask (decl 2) 0) 0 (Some (stmt 27))
          ∷ statement (form.Declare (decl 0)) 0 (Some (stmt 28))
          ∷ [];
      scopes =
          scope_text None 0 [] false (Some (stmt 0))
          ∷ scope_text (Some (scope 0)) 2 [] true (Some (stmt 29))
          ∷ scope_text (Some (scope 1)) 1 [] false (Some (stmt 2))
          ∷ scope_text (Some (scope 1)) 0 [] false (Some (stmt 10))
          ∷ scope_text (Some (scope 3)) 0 [] false None
          ∷ scope_text (Some (scope 3)) 0 [] false None
          ∷ [];
      subprograms =
          subprogram_text (codes "p") (scope 2) (formal (Whole (negsuc 2147483647) (pos 2147483647)) (Whole (pos 0)) ∷ []) None None
          ∷ [];
      task_units =
          task_unit_text (scope 3) None None ((entry 0) ∷ [])
          ∷ [];
      protected_units = [];
      entries =
          entry_text (codes "e") (unit.Task (task_unit 0)) 0 [] None
          ∷ [];
      controlled_types = [];
      enumerations = [];
      policies = (policies [] queuing.Fifo None 30);
      environment = (scope 0);
      main = (main_procedure (codes "main") 15 (scope 1));
    }

abbrev pub row_select_past_script : List (ℤ × Item)
row_select_past_script = []

-- the lines of its run up to tick 43
unfoldable pub row_select_past_lines : List (ℕ × Event)
row_select_past_lines = run_of row_select_past_program row_select_past_script 43

unfoldable pub row_select_past_trace : List (ℕ × Event)
row_select_past_trace =
    (0, line.New (created.Task (task 0)) (codes "main") 15)
    ∷ (0, line.Ready (t 0) 15 Tail None)
    ∷ (0, line.Run (t 0))
    ∷ (5, line.New (created.Task (task 1)) (codes "main.t") 15)
    ∷ (7, line.Ready (t 1) 15 Tail None)
    ∷ (7, line.Block (t 0) waits.Activation)
    ∷ (7, line.Run (t 1))
    ∷ (8, line.Ready (t 0) 15 Tail None)
    ∷ (18, line.Block (t 1) waits.Delay)
    ∷ (18, line.Run (t 0))
    ∷ (20, line.Call (task 0) (call 1) (of_task 1 (codes "e")) 15)
    ∷ (20, line.Cancel (task 0) (call 1))
    ∷ (27, line.Ready (t 1) 15 Tail None)
    ∷ (32, line.Block (t 0) waits.Delay)
    ∷ (32, line.Run (t 1))
    ∷ (33, line.Done (task 1))
    ∷ (33, line.Trigger (task 0))
    ∷ (33, line.Ready (t 0) 15 Tail None)
    ∷ (33, line.Run (t 0))
    ∷ (40, line.Leave (t 0) (region 1) leaves.End)
    ∷ (41, line.Left (t 0) (region 1))
    ∷ (42, line.Done (task 0))
    ∷ (42, line.End end.Completed)
    ∷ []

pub row_select_past_runs : row_select_past_lines ≡ row_select_past_trace
unfolding row_select_past_lines row_select_past_trace digits computing
row_select_past_runs = refl

-- whether every world of its run is well formed
unfoldable pub row_select_past_worlds : Bool
row_select_past_worlds = run_is_well_formed row_select_past_program row_select_past_script 43

pub row_select_past_keeps : row_select_past_worlds ≡ true
unfolding row_select_past_worlds computing
row_select_past_keeps = refl

-- whether each handler is released at its tick
unfoldable pub row_select_past_handlers : Bool
row_select_past_handlers = releases_ok row_select_past_program row_select_past_script 43

pub row_select_past_releases : row_select_past_handlers ≡ true
unfolding row_select_past_handlers computing
row_select_past_releases = refl
