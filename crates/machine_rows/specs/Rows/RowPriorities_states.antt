use Rattle.std.specs.Prelude.{◌≡◌, ℕ, ℤ, pos, negsuc, List, [], ◌∷◌, Some, None, true, false, codes, refl}
use Rattle.ann_base.specs.declared.exceptions.Raised.TheVariants as exception
use Rattle.trace_text.specs.declared.events.Event.{Event}
use Rattle.trace_text.specs.declared.events.Event.TheVariants as line
use Rattle.trace_text.specs.declared.events.Created.TheVariants as created
use Rattle.trace_text.specs.declared.events.Ended.TheVariants as end
use Rattle.trace_text.specs.declared.events.Leaves.TheVariants as leaves
use Rattle.trace_text.specs.declared.events.QueueEnd.TheVariants.{Tail}
use Rattle.trace_text.specs.declared.events.Waits.TheVariants as waits
use Rattle.profile_image.specs.declared.script_items.Item.{Item}
use Rattle.profile_image.specs.declared.image.Image.{Image}
use Rattle.profile_image.specs.declared.image.Queuing.TheVariants as queuing
use Rattle.profile_image.specs.declared.values.Value.TheVariants.{Whole, Ticks, Thing}
use Rattle.profile_image.specs.declared.values.Constraint.TheVariants.{Free, Whole, Ticks}
use Rattle.profile_image.specs.declared.expressions.Expression.TheVariants.{Known, Variable, Thing, Priority}
use Rattle.profile_image.specs.declared.expressions.ObjectName.TheVariants.{Declared}
use Rattle.profile_image.specs.declared.declarations.DeclarationKind.TheVariants as kind
use Rattle.profile_image.specs.declared.declarations.Initial.TheVariants as initial
use Rattle.profile_image.specs.declared.declarations.ExceptionChoice.TheVariants as exception_choice
use Rattle.profile_image.specs.declared.statements.StatementForm.TheVariants as form
use Rattle.profile_image.specs.declared.statements.Callee.TheVariants as callee
use Rattle.profile_image.specs.declared.statements.Destination.TheVariants as destination
use Rattle.profile_machine.specs.Notation.{decl, expr, stmt, scope, subprogram, task_unit, task, region, t, declaration, variable, statement, handler, scope_text, subprogram_text, task_unit_text, policies, main_procedure}
use Rattle.profile_machine.specs.Run.{run_of}
use Rattle.profile_machine.specs.Computing.{computing}
use Rattle.std.specs.Fmt.{digits}
use Rattle.std.specs.Prelude.{Bool}
use Rattle.profile_machine.specs.WellFormed.{run_is_well_formed}
use Rattle.profile_machine.specs.Releases.{releases_ok}

-- Row priorities.states: its run stops before tick 45, so every greater bound gives the same trace.
abbrev pub row_priorities_states_program : Image
row_priorities_states_program =
    record {
      declarations =
          declaration (codes "a") (codes "pk.a") (kind.Task (task_unit 0)) (scope 0) 0 1 Free None
          ∷ declaration (codes "x") (codes "pk.x") (kind.Object initial.Default) (scope 0) 1 1 (Whole (negsuc 2147483647) (pos 2147483647)) None
          ∷ declaration (codes "b") (codes "pk.b") (kind.Task (task_unit 1)) (scope 0) 2 1 Free None
          ∷ [];
      expressions =
          Variable (variable (Declared (decl 1)) None)
          ∷ Thing (decl 0)
          ∷ Priority (Some (expr 1))
          ∷ Variable (variable (Declared (decl 1)) None)
          ∷ Known (Whole (pos 32))
          ∷ Known (Whole (pos 8))
          ∷ Thing (decl 2)
          ∷ Known (Whole (pos 1))
          ∷ Thing (decl 0)
          ∷ Known (Whole (negsuc 0))
          ∷ Known (Whole (pos 18))
          ∷ Thing (decl 0)
          ∷ Known (Ticks (pos 12))
          ∷ [];
      statements =
          statement (form.CallMain) 0 None
          ∷ statement (form.Handled (handler (exception_choice.Named exception.Constraint ∷ []) (stmt 13) ∷ []) (stmt 12)) 0 None
          ∷ statement (form.SetPriority (expr 0) None) 0 None
          ∷ statement (form.Block (scope 6)) 0 (Some (stmt 2))
          ∷ statement (form.Handled (handler (exception_choice.Named exception.Tasking ∷ []) (stmt 6) ∷ []) (stmt 5)) 0 None
          ∷ statement (form.Assign (variable (Declared (decl 1)) None) (expr 2)) 1 None
          ∷ statement (form.Null) 0 None
          ∷ statement (form.Block (scope 5)) 0 (Some (stmt 3))
          ∷ statement (form.Handled (handler (exception_choice.Named exception.Constraint ∷ []) (stmt 10) ∷ []) (stmt 9)) 0 None
          ∷ statement (form.SetPriority (expr 3) None) 0 None
          ∷ statement (form.Assign (variable (Declared (decl 1)) None) (expr 4)) 0 None
          ∷ statement (form.SetPriority (expr 5) (Some (expr 6))) 0 (Some (stmt 7))
          ∷ statement (form.SetPriority (expr 7) (Some (expr 8))) 0 (Some (stmt 11))
          ∷ statement (form.Null) 0 None
          ∷ statement (form.ReturnValue (subprogram 0) (expr 9)) 0 None
          ∷ statement (form.SetPriority (expr 10) (Some (expr 11))) 0 (Some (stmt 14))
          ∷ statement (form.Null) 0 None
          ∷ statement (form.EndActivation) 0 (Some (stmt 16))
          ∷ statement (form.Delay (expr 12)) 0 None
          ∷ statement (form.EndActivation) 0 (Some (stmt 18))
          ∷ statement (form.Activate 1) 0 (Some (stmt 0))
          ∷ statement (form.CreateTask (decl 2) 1) 0 (Some (stmt 20))
          ∷ statement (form.Call (callee.Subprogram (subprogram 0)) [] (destination.Declaration (decl 1))) 0 (Some (stmt 21))
          ∷ statement (form.CreateTask (decl 0) 1) 0 (Some (stmt 22))
          ∷ [];
      scopes =
          scope_text None 3 [] true (Some (stmt 23))
          ∷ scope_text (Some (scope 0)) 1 [] false (Some (stmt 15))
          ∷ scope_text (Some (scope 0)) 0 [] false (Some (stmt 17))
          ∷ scope_text (Some (scope 0)) 0 [] false (Some (stmt 19))
          ∷ scope_text (Some (scope 0)) 0 [] false (Some (stmt 1))
          ∷ scope_text (Some (scope 4)) 0 [] false (Some (stmt 8))
          ∷ scope_text (Some (scope 4)) 0 [] false (Some (stmt 4))
          ∷ [];
      subprograms =
          subprogram_text (codes "f") (scope 1) [] (Some (Whole (negsuc 2147483647) (pos 2147483647))) None
          ∷ [];
      task_units =
          task_unit_text (scope 2) None None []
          ∷ task_unit_text (scope 3) (Some 20) None []
          ∷ [];
      protected_units = [];
      entries = [];
      controlled_types = [];
      enumerations = [];
      policies = (policies [] queuing.Fifo None 30);
      environment = (scope 0);
      main = (main_procedure (codes "main") 15 (scope 4));
    }

abbrev pub row_priorities_states_script : List (ℤ × Item)
row_priorities_states_script = []

-- the lines of its run up to tick 45
unfoldable pub row_priorities_states_lines : List (ℕ × Event)
row_priorities_states_lines = run_of row_priorities_states_program row_priorities_states_script 45

unfoldable pub row_priorities_states_trace : List (ℕ × Event)
row_priorities_states_trace =
    (0, line.New (created.Task (task 0)) (codes "main") 15)
    ∷ (0, line.Ready (t 0) 15 Tail None)
    ∷ (0, line.Run (t 0))
    ∷ (2, line.New (created.Task (task 1)) (codes "pk.a") 15)
    ∷ (6, line.Base (task 1) 18)
    ∷ (10, line.New (created.Task (task 2)) (codes "pk.b") 20)
    ∷ (12, line.Ready (t 1) 18 Tail None)
    ∷ (12, line.Ready (t 2) 20 Tail None)
    ∷ (12, line.Block (t 0) waits.Activation)
    ∷ (12, line.Run (t 2))
    ∷ (15, line.Block (t 2) waits.Delay)
    ∷ (15, line.Run (t 1))
    ∷ (16, line.Ready (t 0) 15 Tail None)
    ∷ (18, line.Done (task 1))
    ∷ (18, line.Run (t 0))
    ∷ (24, line.Base (task 2) 8)
    ∷ (27, line.Raise (t 0) (codes "constraint_error"))
    ∷ (27, line.Ready (t 2) 8 Tail None)
    ∷ (33, line.Raise (t 0) (codes "tasking_error"))
    ∷ (38, line.Raise (t 0) (codes "constraint_error"))
    ∷ (42, line.Leave (t 0) (region 1) leaves.End)
    ∷ (42, line.Block (t 0) waits.Dependents)
    ∷ (42, line.Run (t 2))
    ∷ (43, line.Done (task 2))
    ∷ (43, line.Ready (t 0) 15 Tail None)
    ∷ (43, line.Run (t 0))
    ∷ (44, line.Left (t 0) (region 1))
    ∷ (44, line.Done (task 0))
    ∷ (44, line.End end.Completed)
    ∷ []

pub row_priorities_states_runs : row_priorities_states_lines ≡ row_priorities_states_trace
unfolding row_priorities_states_lines row_priorities_states_trace digits computing
row_priorities_states_runs = refl

-- whether every world of its run is well formed
unfoldable pub row_priorities_states_worlds : Bool
row_priorities_states_worlds = run_is_well_formed row_priorities_states_program row_priorities_states_script 45

pub row_priorities_states_keeps : row_priorities_states_worlds ≡ true
unfolding row_priorities_states_worlds computing
row_priorities_states_keeps = refl

-- whether each handler is released at its tick
unfoldable pub row_priorities_states_handlers : Bool
row_priorities_states_handlers = releases_ok row_priorities_states_program row_priorities_states_script 45

pub row_priorities_states_releases : row_priorities_states_handlers ≡ true
unfolding row_priorities_states_handlers computing
row_priorities_states_releases = refl
