use Rattle.std.specs.Prelude.{◌≡◌, ℕ, ℤ, pos, negsuc, List, [], ◌∷◌, Some, None, true, false, codes, refl}
use Rattle.trace_text.specs.declared.events.Event.{Event}
use Rattle.trace_text.specs.declared.events.Event.TheVariants as line
use Rattle.trace_text.specs.declared.events.Created.TheVariants as created
use Rattle.trace_text.specs.declared.events.Ended.TheVariants as end
use Rattle.trace_text.specs.declared.events.Leaves.TheVariants as leaves
use Rattle.trace_text.specs.declared.events.QueueEnd.TheVariants.{Tail}
use Rattle.trace_text.specs.declared.events.Waits.TheVariants as waits
use Rattle.profile_image.specs.declared.script_items.Item.{Item}
use Rattle.profile_image.specs.declared.image.Image.{Image}
use Rattle.profile_image.specs.declared.image.Queuing.TheVariants as queuing
use Rattle.profile_image.specs.declared.values.Value.TheVariants.{Whole}
use Rattle.profile_image.specs.declared.values.Constraint.TheVariants.{Free, Whole}
use Rattle.profile_image.specs.declared.expressions.Expression.TheVariants.{Known, Variable}
use Rattle.profile_image.specs.declared.expressions.ObjectName.TheVariants.{Declared}
use Rattle.profile_image.specs.declared.declarations.DeclarationKind.TheVariants as kind
use Rattle.profile_image.specs.declared.declarations.Initial.TheVariants as initial
use Rattle.profile_image.specs.declared.statements.StatementForm.TheVariants as form
use Rattle.profile_image.specs.declared.statements.Callee.TheVariants as callee
use Rattle.profile_image.specs.declared.statements.Destination.TheVariants as destination
use Rattle.profile_machine.specs.Notation.{decl, expr, stmt, scope, subprogram, task_unit, task, region, t, declaration, variable, statement, scope_text, subprogram_text, task_unit_text, policies, main_procedure}
use Rattle.profile_machine.specs.Run.{run_of}
use Rattle.profile_machine.specs.Computing.{computing}
use Rattle.std.specs.Fmt.{digits}
use Rattle.std.specs.Prelude.{Bool}
use Rattle.profile_machine.specs.WellFormed.{run_is_well_formed}
use Rattle.profile_machine.specs.Releases.{releases_ok}

-- Row activation.made: its run stops before tick 32, so every greater bound gives the same trace.
abbrev pub row_activation_made_program : Image
row_activation_made_program =
    record {
      declarations =
          declaration (codes "t") (codes "pk.t") (kind.Task (task_unit 0)) (scope 0) 0 1 Free None
          ∷ declaration (codes "x") (codes "pk.x") (kind.Object initial.Default) (scope 0) 1 1 (Whole (negsuc 2147483647) (pos 2147483647)) None
          ∷ declaration (codes "t") (codes "main.t") (kind.Task (task_unit 1)) (scope 3) 0 1 Free None
          ∷ declaration (codes "m") (codes "main.m") (kind.Object initial.Default) (scope 3) 1 1 (Whole (negsuc 2147483647) (pos 2147483647)) None
          ∷ declaration (codes "n") (codes "main.n") (kind.Object (initial.Scalar (expr 2))) (scope 3) 2 1 (Whole (pos 0) (pos 2147483647)) None
          ∷ declaration (codes "b") (codes "main.g.b") (kind.Task (task_unit 2)) (scope 5) 0 1 Free None
          ∷ [];
      expressions =
          Known (Whole (pos 1))
          ∷ Known (Whole (negsuc 0))
          ∷ Variable (variable (Declared (decl 1)) None)
          ∷ [];
      statements =
          statement (form.CallMain) 0 None
          ∷ statement (form.Null) 0 None
          ∷ statement (form.EndActivation) 0 (Some (stmt 1))
          ∷ statement (form.Null) 0 None
          ∷ statement (form.EndActivation) 0 (Some (stmt 3))
          ∷ statement (form.ReturnValue (subprogram 1) (expr 0)) 0 None
          ∷ statement (form.Activate 0) 0 (Some (stmt 5))
          ∷ statement (form.CreateTask (decl 5) 0) 0 (Some (stmt 6))
          ∷ statement (form.Null) 0 None
          ∷ statement (form.Activate 0) 0 (Some (stmt 8))
          ∷ statement (form.Declare (decl 4)) 0 (Some (stmt 9))
          ∷ statement (form.Call (callee.Subprogram (subprogram 1)) [] (destination.Declaration (decl 3))) 0 (Some (stmt 10))
          ∷ statement (form.CreateTask (decl 2) 0) 0 (Some (stmt 11))
          ∷ statement (form.ReturnValue (subprogram 0) (expr 1)) 0 None
          ∷ statement (form.Abort ((decl 0) ∷ [])) 0 (Some (stmt 13))
          ∷ statement (form.Null) 0 None
          ∷ statement (form.EndActivation) 0 (Some (stmt 15))
          ∷ statement (form.Activate 1) 0 (Some (stmt 0))
          ∷ statement (form.Call (callee.Subprogram (subprogram 0)) [] (destination.Declaration (decl 1))) 0 (Some (stmt 17))
          ∷ statement (form.CreateTask (decl 0) 1) 0 (Some (stmt 18))
          ∷ [];
      scopes =
          scope_text None 2 [] true (Some (stmt 19))
          ∷ scope_text (Some (scope 0)) 1 [] false (Some (stmt 14))
          ∷ scope_text (Some (scope 0)) 0 [] false (Some (stmt 16))
          ∷ scope_text (Some (scope 0)) 3 [] true (Some (stmt 12))
          ∷ scope_text (Some (scope 3)) 0 [] false (Some (stmt 2))
          ∷ scope_text (Some (scope 3)) 2 [] true (Some (stmt 7))
          ∷ scope_text (Some (scope 5)) 0 [] false (Some (stmt 4))
          ∷ [];
      subprograms =
          subprogram_text (codes "f") (scope 1) [] (Some (Whole (negsuc 2147483647) (pos 2147483647))) None
          ∷ subprogram_text (codes "g") (scope 5) [] (Some (Whole (negsuc 2147483647) (pos 2147483647))) None
          ∷ [];
      task_units =
          task_unit_text (scope 2) None None []
          ∷ task_unit_text (scope 4) None None []
          ∷ task_unit_text (scope 6) None None []
          ∷ [];
      protected_units = [];
      entries = [];
      controlled_types = [];
      enumerations = [];
      policies = (policies [] queuing.Fifo None 30);
      environment = (scope 0);
      main = (main_procedure (codes "main") 15 (scope 3));
    }

abbrev pub row_activation_made_script : List (ℤ × Item)
row_activation_made_script = []

-- the lines of its run up to tick 32
unfoldable pub row_activation_made_lines : List (ℕ × Event)
row_activation_made_lines = run_of row_activation_made_program row_activation_made_script 32

unfoldable pub row_activation_made_trace : List (ℕ × Event)
row_activation_made_trace =
    (0, line.New (created.Task (task 0)) (codes "main") 15)
    ∷ (0, line.Ready (t 0) 15 Tail None)
    ∷ (0, line.Run (t 0))
    ∷ (2, line.New (created.Task (task 1)) (codes "pk.t") 15)
    ∷ (6, line.Abort (task 0) (task 1))
    ∷ (6, line.Done (task 1))
    ∷ (14, line.New (created.Task (task 2)) (codes "main.t") 15)
    ∷ (18, line.New (created.Task (task 3)) (codes "main.g.b") 15)
    ∷ (20, line.Ready (t 3) 15 Tail None)
    ∷ (20, line.Block (t 0) waits.Activation)
    ∷ (20, line.Run (t 3))
    ∷ (21, line.Ready (t 0) 15 Tail None)
    ∷ (23, line.Done (task 3))
    ∷ (23, line.Run (t 0))
    ∷ (25, line.Leave (t 0) (region 3) leaves.Return)
    ∷ (26, line.Left (t 0) (region 3))
    ∷ (27, line.Raise (t 0) (codes "constraint_error"))
    ∷ (28, line.Leave (t 0) (region 2) leaves.Exception)
    ∷ (28, line.Done (task 2))
    ∷ (29, line.Left (t 0) (region 2))
    ∷ (30, line.Leave (t 0) (region 1) leaves.Exception)
    ∷ (31, line.Left (t 0) (region 1))
    ∷ (31, line.Done (task 0))
    ∷ (31, line.End (end.Exception (codes "constraint_error")))
    ∷ []

pub row_activation_made_runs : row_activation_made_lines ≡ row_activation_made_trace
unfolding row_activation_made_lines row_activation_made_trace digits computing
row_activation_made_runs = refl

-- whether every world of its run is well formed
unfoldable pub row_activation_made_worlds : Bool
row_activation_made_worlds = run_is_well_formed row_activation_made_program row_activation_made_script 32

pub row_activation_made_keeps : row_activation_made_worlds ≡ true
unfolding row_activation_made_worlds computing
row_activation_made_keeps = refl

-- whether each handler is released at its tick
unfoldable pub row_activation_made_handlers : Bool
row_activation_made_handlers = releases_ok row_activation_made_program row_activation_made_script 32

pub row_activation_made_releases : row_activation_made_handlers ≡ true
unfolding row_activation_made_handlers computing
row_activation_made_releases = refl
