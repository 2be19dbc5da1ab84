use Rattle.std.specs.Prelude.{◌≡◌, ℕ, ℤ, pos, negsuc, List, [], ◌∷◌, Some, None, true, false, codes, refl}
use Rattle.ann_base.specs.declared.exceptions.Raised.TheVariants as exception
use Rattle.trace_text.specs.declared.events.Event.{Event}
use Rattle.trace_text.specs.declared.events.Event.TheVariants as line
use Rattle.trace_text.specs.declared.events.Created.TheVariants as created
use Rattle.trace_text.specs.declared.events.Ended.TheVariants as end
use Rattle.trace_text.specs.declared.events.Finished.TheVariants as finished
use Rattle.trace_text.specs.declared.events.Leaves.TheVariants as leaves
use Rattle.trace_text.specs.declared.events.QueueEnd.TheVariants.{Tail}
use Rattle.trace_text.specs.declared.events.Waits.TheVariants as waits
use Rattle.profile_image.specs.declared.script_items.Item.{Item}
use Rattle.profile_image.specs.declared.image.Image.{Image}
use Rattle.profile_image.specs.declared.image.Queuing.TheVariants as queuing
use Rattle.profile_image.specs.declared.values.Value.TheVariants.{Whole}
use Rattle.profile_image.specs.declared.values.Constraint.TheVariants.{Free, Whole}
use Rattle.profile_image.specs.declared.expressions.Expression.TheVariants.{Known}
use Rattle.profile_image.specs.declared.declarations.DeclarationKind.TheVariants as kind
use Rattle.profile_image.specs.declared.declarations.Initial.TheVariants as initial
use Rattle.profile_image.specs.declared.declarations.EntryUnit.TheVariants as unit
use Rattle.profile_image.specs.declared.declarations.ExceptionChoice.TheVariants as exception_choice
use Rattle.profile_image.specs.declared.statements.StatementForm.TheVariants as form
use Rattle.profile_image.specs.declared.statements.Callee.TheVariants as callee
use Rattle.profile_image.specs.declared.statements.Destination.TheVariants as destination
use Rattle.profile_image.specs.declared.statements.EntryOwner.TheVariants as owner
use Rattle.profile_machine.specs.Notation.{decl, expr, stmt, scope, subprogram, task_unit, entry, task, call, region, t, of_task, declaration, statement, handler, scope_text, subprogram_text, task_unit_text, entry_text, policies, main_procedure}
use Rattle.profile_machine.specs.Run.{run_of}
use Rattle.profile_machine.specs.Computing.{computing}
use Rattle.std.specs.Fmt.{digits}
use Rattle.std.specs.Prelude.{Bool}
use Rattle.profile_machine.specs.WellFormed.{run_is_well_formed}
use Rattle.profile_machine.specs.Releases.{releases_ok}

-- Row calls.undeclared: its run stops before tick 33, so every greater bound gives the same trace.
abbrev pub row_calls_undeclared_program : Image
row_calls_undeclared_program =
    record {
      declarations =
          declaration (codes "n") (codes "main.n") (kind.Object initial.Default) (scope 1) 0 1 (Whole (negsuc 2147483647) (pos 2147483647)) None
          ∷ declaration (codes "t") (codes "main.t") (kind.Task (task_unit 0)) (scope 1) 1 1 Free None
          ∷ [];
      expressions =
          Known (Whole (pos 1))
          ∷ [];
      statements =
          statement (form.CallMain) 0 None
          ∷ statement (form.ReturnValue (subprogram 0) (expr 0)) 0 None
          ∷ statement (form.Block (scope 4)) 0 (Some (stmt 1))
          ∷ statement (form.Handled (handler (exception_choice.Named exception.Program ∷ []) (stmt 5) ∷ []) (stmt 4)) 0 None
          ∷ statement (form.Abort ((decl 1) ∷ [])) 0 None
          ∷ statement (form.Null) 0 None
          ∷ statement (form.Block (scope 3)) 0 (Some (stmt 2))
          ∷ statement (form.Handled (handler (exception_choice.Named exception.Program ∷ []) (stmt 9) ∷ []) (stmt 8)) 0 None
          ∷ statement (form.EntryCall (entry 0) (owner.Object (decl 1)) []) 0 None
          ∷ statement (form.Null) 0 None
          ∷ statement (form.Accept (entry 0) (scope 6)) 0 None
          ∷ statement (form.EndActivation) 0 (Some (stmt 10))
          ∷ statement (form.EntryCall (entry 0) (owner.Object (decl 1)) []) 0 None
          ∷ statement (form.Activate 0) 0 (Some (stmt 12))
          ∷ statement (form.CreateTask (decl 1) 0) 0 (Some (stmt 13))
          ∷ statement (form.Call (callee.Subprogram (subprogram 0)) [] (destination.Declaration (decl 0))) 0 (Some (stmt 14))
          ∷ [];
      scopes =
          scope_text None 0 [] false (Some (stmt 0))
          ∷ scope_text (Some (scope 0)) 2 [] true (Some (stmt 15))
          ∷ scope_text (Some (scope 1)) 1 [] false (Some (stmt 6))
          ∷ scope_text (Some (scope 2)) 0 [] false (Some (stmt 7))
          ∷ scope_text (Some (scope 2)) 0 [] false (Some (stmt 3))
          ∷ scope_text (Some (scope 1)) 0 [] false (Some (stmt 11))
          ∷ scope_text (Some (scope 5)) 0 [] false None
          ∷ [];
      subprograms =
          subprogram_text (codes "call") (scope 2) [] (Some (Whole (negsuc 2147483647) (pos 2147483647))) None
          ∷ [];
      task_units =
          task_unit_text (scope 5) None None ((entry 0) ∷ [])
          ∷ [];
      protected_units = [];
      entries =
          entry_text (codes "e") (unit.Task (task_unit 0)) 0 [] None
          ∷ [];
      controlled_types = [];
      enumerations = [];
      policies = (policies [] queuing.Fifo None 30);
      environment = (scope 0);
      main = (main_procedure (codes "main") 15 (scope 1));
    }

abbrev pub row_calls_undeclared_script : List (ℤ × Item)
row_calls_undeclared_script = []

-- the lines of its run up to tick 33
unfoldable pub row_calls_undeclared_lines : List (ℕ × Event)
row_calls_undeclared_lines = run_of row_calls_undeclared_program row_calls_undeclared_script 33

unfoldable pub row_calls_undeclared_trace : List (ℕ × Event)
row_calls_undeclared_trace =
    (0, line.New (created.Task (task 0)) (codes "main") 15)
    ∷ (0, line.Ready (t 0) 15 Tail None)
    ∷ (0, line.Run (t 0))
    ∷ (7, line.Raise (t 0) (codes "program_error"))
    ∷ (13, line.Raise (t 0) (codes "program_error"))
    ∷ (20, line.New (created.Task (task 1)) (codes "main.t") 15)
    ∷ (22, line.Ready (t 1) 15 Tail None)
    ∷ (22, line.Block (t 0) waits.Activation)
    ∷ (22, line.Run (t 1))
    ∷ (23, line.Ready (t 0) 15 Tail None)
    ∷ (25, line.Block (t 1) waits.Accept)
    ∷ (25, line.Run (t 0))
    ∷ (27, line.Call (task 0) (call 1) (of_task 1 (codes "e")) 15)
    ∷ (27, line.Start (t 1) (call 1))
    ∷ (27, line.Ready (t 1) 15 Tail None)
    ∷ (27, line.Block (t 0) waits.Entry)
    ∷ (27, line.Run (t 1))
    ∷ (28, line.Finish (t 1) (call 1) finished.Ok)
    ∷ (28, line.Ready (t 0) 15 Tail None)
    ∷ (29, line.Done (task 1))
    ∷ (29, line.Run (t 0))
    ∷ (30, line.Leave (t 0) (region 1) leaves.End)
    ∷ (31, line.Left (t 0) (region 1))
    ∷ (32, line.Done (task 0))
    ∷ (32, line.End end.Completed)
    ∷ []

pub row_calls_undeclared_runs : row_calls_undeclared_lines ≡ row_calls_undeclared_trace
unfolding row_calls_undeclared_lines row_calls_undeclared_trace digits computing
row_calls_undeclared_runs = refl

-- whether every world of its run is well formed
unfoldable pub row_calls_undeclared_worlds : Bool
row_calls_undeclared_worlds = run_is_well_formed row_calls_undeclared_program row_calls_undeclared_script 33

pub row_calls_undeclared_keeps : row_calls_undeclared_worlds ≡ true
unfolding row_calls_undeclared_worlds computing
row_calls_undeclared_keeps = refl

-- whether each handler is released at its tick
unfoldable pub row_calls_undeclared_handlers : Bool
row_calls_undeclared_handlers = releases_ok row_calls_undeclared_program row_calls_undeclared_script 33

pub row_calls_undeclared_releases : row_calls_undeclared_handlers ≡ true
unfolding row_calls_undeclared_handlers computing
row_calls_undeclared_releases = refl
