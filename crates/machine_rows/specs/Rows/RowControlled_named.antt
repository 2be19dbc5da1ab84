use Rattle.std.specs.Prelude.{◌≡◌, ℕ, ℤ, pos, negsuc, List, [], ◌∷◌, Some, None, true, false, codes, refl}
use Rattle.trace_text.specs.declared.events.Event.{Event}
use Rattle.trace_text.specs.declared.events.Event.TheVariants as line
use Rattle.trace_text.specs.declared.events.Created.TheVariants as created
use Rattle.trace_text.specs.declared.events.Ended.TheVariants as end
use Rattle.trace_text.specs.declared.events.Leaves.TheVariants as leaves
use Rattle.trace_text.specs.declared.events.QueueEnd.TheVariants.{Tail}
use Rattle.profile_image.specs.declared.script_items.Item.{Item}
use Rattle.profile_image.specs.declared.image.Image.{Image}
use Rattle.profile_image.specs.declared.image.Queuing.TheVariants as queuing
use Rattle.profile_image.specs.declared.values.Value.TheVariants.{Whole}
use Rattle.profile_image.specs.declared.values.Constraint.TheVariants.{Free, Whole}
use Rattle.profile_image.specs.declared.expressions.Expression.TheVariants.{Known, Variable, Binary}
use Rattle.profile_image.specs.declared.expressions.ObjectName.TheVariants.{Component}
use Rattle.profile_image.specs.declared.expressions.BinaryOperator.TheVariants as binary
use Rattle.profile_image.specs.declared.declarations.DeclarationKind.TheVariants as kind
use Rattle.profile_image.specs.declared.declarations.Initial.TheVariants as initial
use Rattle.profile_image.specs.declared.statements.StatementForm.TheVariants as form
use Rattle.profile_image.specs.declared.statements.Actual.TheVariants as actual
use Rattle.profile_image.specs.declared.statements.Callee.TheVariants as callee
use Rattle.profile_image.specs.declared.statements.Destination.TheVariants as destination
use Rattle.profile_machine.specs.Notation.{decl, expr, stmt, scope, subprogram, controlled_type, task, region, t, declaration, variable, statement, scope_text, formal, subprogram_text, controlled_text, policies, main_procedure}
use Rattle.profile_machine.specs.Run.{run_of}
use Rattle.profile_machine.specs.Computing.{computing}
use Rattle.std.specs.Fmt.{digits}
use Rattle.std.specs.Prelude.{Bool}
use Rattle.profile_machine.specs.WellFormed.{run_is_well_formed}
use Rattle.profile_machine.specs.Releases.{releases_ok}

-- Row controlled.named: its run stops before tick 61, so every greater bound gives the same trace.
abbrev pub row_controlled_named_program : Image
row_controlled_named_program =
    record {
      declarations =
          declaration (codes "m") (codes "pk.q.m") (kind.Object initial.Default) (scope 0) 0 1 (Whole (negsuc 2147483647) (pos 2147483647)) None
          ∷ declaration (codes "n") (codes "pk.r.n") (kind.Object initial.Default) (scope 0) 0 1 (Whole (negsuc 2147483647) (pos 2147483647)) None
          ∷ declaration (codes "o") (codes "pk.o") kind.Parameter (scope 1) 0 2 Free None
          ∷ declaration (codes "a") (codes "pk.finalize.a") (kind.Controlled (controlled_type 0)) (scope 1) 2 2 Free None
          ∷ declaration (codes "b") (codes "pk.finalize.b") (kind.Controlled (controlled_type 0)) (scope 1) 4 2 Free None
          ∷ declaration (codes "a") (codes "main.a") (kind.Controlled (controlled_type 1)) (scope 2) 0 2 Free None
          ∷ [];
      expressions =
          Variable (variable (Component (decl 5) (decl 1)) None)
          ∷ Known (Whole (pos 1))
          ∷ Binary binary.Equal (expr 0) (expr 1)
          ∷ Variable (variable (Component (decl 4) (decl 0)) None)
          ∷ Known (Whole (pos 1))
          ∷ Binary binary.Plus (expr 3) (expr 4)
          ∷ Variable (variable (Component (decl 2) (decl 1)) None)
          ∷ [];
      statements =
          statement (form.CallMain) 0 None
          ∷ statement (form.Null) 0 None
          ∷ statement (form.If (expr 2) (stmt 1) None) 1 None
          ∷ statement (form.Call (callee.Subprogram (subprogram 0)) (actual.Thing (decl 5) ∷ []) destination.Nowhere) 0 (Some (stmt 2))
          ∷ statement (form.Initialize (decl 5)) 0 (Some (stmt 3))
          ∷ statement (form.Declare (decl 5)) 0 (Some (stmt 4))
          ∷ statement (form.Assign (variable (Component (decl 2) (decl 1)) None) (expr 5)) 1 None
          ∷ statement (form.AssignControlled (decl 4) (decl 3)) 0 (Some (stmt 6))
          ∷ statement (form.Assign (variable (Component (decl 3) (decl 0)) None) (expr 6)) 0 (Some (stmt 7))
          ∷ statement (form.Initialize (decl 4)) 0 (Some (stmt 8))
          ∷ statement (form.Declare (decl 4)) 0 (Some (stmt 9))
          ∷ statement (form.Initialize (decl 3)) 0 (Some (stmt 10))
          ∷ statement (form.Declare (decl 3)) 0 (Some (stmt 11))
          ∷ [];
      scopes =
          scope_text None 0 [] false (Some (stmt 0))
          ∷ scope_text (Some (scope 0)) 6 [] true (Some (stmt 12))
          ∷ scope_text (Some (scope 0)) 2 [] true (Some (stmt 5))
          ∷ [];
      subprograms =
          subprogram_text (codes "finalize") (scope 1) (formal Free (Whole (pos 0)) ∷ []) None None
          ∷ [];
      task_units = [];
      protected_units = [];
      entries = [];
      controlled_types =
          controlled_text ((decl 0) ∷ []) None None None
          ∷ controlled_text ((decl 1) ∷ []) None (Some (subprogram 0)) None
          ∷ [];
      enumerations = [];
      policies = (policies [] queuing.Fifo None 30);
      environment = (scope 0);
      main = (main_procedure (codes "main") 15 (scope 2));
    }

abbrev pub row_controlled_named_script : List (ℤ × Item)
row_controlled_named_script = []

-- the lines of its run up to tick 61
unfoldable pub row_controlled_named_lines : List (ℕ × Event)
row_controlled_named_lines = run_of row_controlled_named_program row_controlled_named_script 61

unfoldable pub row_controlled_named_trace : List (ℕ × Event)
row_controlled_named_trace =
    (0, line.New (created.Task (task 0)) (codes "main") 15)
    ∷ (0, line.Ready (t 0) 15 Tail None)
    ∷ (0, line.Run (t 0))
    ∷ (5, line.Init (t 0) 1 (region 1) (codes "a"))
    ∷ (10, line.Init (t 0) 2 (region 2) (codes "a"))
    ∷ (13, line.Init (t 0) 3 (region 2) (codes "b"))
    ∷ (15, line.Replace (t 0) 3)
    ∷ (24, line.Leave (t 0) (region 2) leaves.End)
    ∷ (26, line.Final (t 0) 3)
    ∷ (28, line.Final (t 0) 2)
    ∷ (29, line.Left (t 0) (region 2))
    ∷ (33, line.Leave (t 0) (region 1) leaves.End)
    ∷ (35, line.Final (t 0) 1)
    ∷ (38, line.Init (t 0) 4 (region 3) (codes "a"))
    ∷ (41, line.Init (t 0) 5 (region 3) (codes "b"))
    ∷ (43, line.Replace (t 0) 5)
    ∷ (52, line.Leave (t 0) (region 3) leaves.End)
    ∷ (54, line.Final (t 0) 5)
    ∷ (56, line.Final (t 0) 4)
    ∷ (57, line.Left (t 0) (region 3))
    ∷ (59, line.Left (t 0) (region 1))
    ∷ (60, line.Done (task 0))
    ∷ (60, line.End end.Completed)
    ∷ []

pub row_controlled_named_runs : row_controlled_named_lines ≡ row_controlled_named_trace
unfolding row_controlled_named_lines row_controlled_named_trace digits computing
row_controlled_named_runs = refl

-- whether every world of its run is well formed
unfoldable pub row_controlled_named_worlds : Bool
row_controlled_named_worlds = run_is_well_formed row_controlled_named_program row_controlled_named_script 61

pub row_controlled_named_keeps : row_controlled_named_worlds ≡ true
unfolding row_controlled_named_worlds computing
row_controlled_named_keeps = refl

-- whether each handler is released at its tick
unfoldable pub row_controlled_named_handlers : Bool
row_controlled_named_handlers = releases_ok row_controlled_named_program row_controlled_named_script 61

pub row_controlled_named_releases : row_controlled_named_handlers ≡ true
unfolding row_controlled_named_handlers computing
row_controlled_named_releases = refl
