use Rattle.std.specs.Prelude.{◌≡◌, ℕ, ℤ, pos, negsuc, List, [], ◌∷◌, Some, None, true, false, codes, refl}
use Rattle.trace_text.specs.declared.events.Event.{Event}
use Rattle.trace_text.specs.declared.events.Event.TheVariants as line
use Rattle.trace_text.specs.declared.events.Created.TheVariants as created
use Rattle.trace_text.specs.declared.events.Ended.TheVariants as end
use Rattle.trace_text.specs.declared.events.Leaves.TheVariants as leaves
use Rattle.trace_text.specs.declared.events.QueueEnd.TheVariants.{Tail}
use Rattle.profile_image.specs.declared.script_items.Item.{Item}
use Rattle.profile_image.specs.declared.image.Image.{Image}
use Rattle.profile_image.specs.declared.image.Queuing.TheVariants as queuing
use Rattle.profile_image.specs.declared.values.Value.TheVariants.{Whole}
use Rattle.profile_image.specs.declared.values.Constraint.TheVariants.{Free, Whole}
use Rattle.profile_image.specs.declared.expressions.Expression.TheVariants.{Known, Variable, Binary}
use Rattle.profile_image.specs.declared.expressions.ObjectName.TheVariants.{Component}
use Rattle.profile_image.specs.declared.expressions.BinaryOperator.TheVariants as binary
use Rattle.profile_image.specs.declared.declarations.DeclarationKind.TheVariants as kind
use Rattle.profile_image.specs.declared.declarations.Initial.TheVariants as initial
use Rattle.profile_image.specs.declared.statements.StatementForm.TheVariants as form
use Rattle.profile_image.specs.declared.statements.Piece.TheVariants as piece
use Rattle.profile_machine.specs.Notation.{decl, expr, stmt, scope, subprogram, controlled_type, task, region, t, declaration, variable, statement, scope_text, formal, subprogram_text, controlled_text, policies, main_procedure}
use Rattle.profile_machine.specs.Run.{run_of}
use Rattle.profile_machine.specs.Computing.{computing}
use Rattle.std.specs.Fmt.{digits}
use Rattle.std.specs.Prelude.{Bool}
use Rattle.profile_machine.specs.WellFormed.{run_is_well_formed}
use Rattle.profile_machine.specs.Releases.{releases_ok}

-- Row adjust.1: its run stops before tick 41, so every greater bound gives the same trace.
abbrev pub row_adjust_1_program : Image
row_adjust_1_program =
    record {
      declarations =
          declaration (codes "n") (codes "pk.r.n") (kind.Object initial.Default) (scope 0) 0 1 (Whole (negsuc 2147483647) (pos 2147483647)) None
          ∷ declaration (codes "o") (codes "pk.o") kind.Parameter (scope 1) 0 2 Free None
          ∷ declaration (codes "o") (codes "pk.o") kind.Parameter (scope 2) 0 2 Free None
          ∷ declaration (codes "a") (codes "main.a") (kind.Controlled (controlled_type 0)) (scope 3) 0 2 Free None
          ∷ declaration (codes "b") (codes "main.b") (kind.Controlled (controlled_type 0)) (scope 3) 2 2 Free None
          ∷ [];
      expressions =
          Variable (variable (Component (decl 4) (decl 0)) None)
          ∷ Known (Whole (pos 5))
          ∷ Variable (variable (Component (decl 2) (decl 0)) None)
          ∷ Known (Whole (pos 1))
          ∷ Binary binary.Plus (expr 2) (expr 3)
          ∷ [];
      statements =
          statement (form.CallMain) 0 None
          ∷ statement (form.PutLine (piece.Whole (expr 0) ∷ [])) 0 None
          ∷ statement (form.AssignControlled (decl 4) (decl 4)) 0 (Some (stmt 1))
          ∷ statement (form.AssignControlled (decl 4) (decl 3)) 0 (Some (stmt 2))
          ∷ statement (form.Assign (variable (Component (decl 3) (decl 0)) None) (expr 1)) 0 (Some (stmt 3))
          ∷ statement (form.Initialize (decl 4)) 0 (Some (stmt 4))
          ∷ statement (form.Declare (decl 4)) 0 (Some (stmt 5))
          ∷ statement (form.Initialize (decl 3)) 0 (Some (stmt 6))
          ∷ statement (form.Declare (decl 3)) 0 (Some (stmt 7))
          ∷ statement (form.Null) 0 None
          ∷ statement (form.Assign (variable (Component (decl 2) (decl 0)) None) (expr 4)) 1 None
          ∷ [];
      scopes =
          scope_text None 0 [] false (Some (stmt 0))
          ∷ scope_text (Some (scope 0)) 2 [] false (Some (stmt 9))
          ∷ scope_text (Some (scope 0)) 2 [] false (Some (stmt 10))
          ∷ scope_text (Some (scope 0)) 4 [] true (Some (stmt 8))
          ∷ [];
      subprograms =
          subprogram_text (codes "finalize") (scope 1) (formal Free (Whole (pos 0)) ∷ []) None None
          ∷ subprogram_text (codes "adjust") (scope 2) (formal Free (Whole (pos 0)) ∷ []) None None
          ∷ [];
      task_units = [];
      protected_units = [];
      entries = [];
      controlled_types =
          controlled_text ((decl 0) ∷ []) None (Some (subprogram 0)) (Some (subprogram 1))
          ∷ [];
      enumerations = [];
      policies = (policies [] queuing.Fifo None 30);
      environment = (scope 0);
      main = (main_procedure (codes "main") 15 (scope 3));
    }

abbrev pub row_adjust_1_script : List (ℤ × Item)
row_adjust_1_script = []

-- the lines of its run up to tick 41
unfoldable pub row_adjust_1_lines : List (ℕ × Event)
row_adjust_1_lines = run_of row_adjust_1_program row_adjust_1_script 41

unfoldable pub row_adjust_1_trace : List (ℕ × Event)
row_adjust_1_trace =
    (0, line.New (created.Task (task 0)) (codes "main") 15)
    ∷ (0, line.Ready (t 0) 15 Tail None)
    ∷ (0, line.Run (t 0))
    ∷ (5, line.Init (t 0) 1 (region 1) (codes "a"))
    ∷ (8, line.Init (t 0) 2 (region 1) (codes "b"))
    ∷ (10, line.Replace (t 0) 2)
    ∷ (27, line.Put (t 0) (codes " 6"))
    ∷ (28, line.Leave (t 0) (region 1) leaves.End)
    ∷ (30, line.Final (t 0) 2)
    ∷ (35, line.Final (t 0) 1)
    ∷ (39, line.Left (t 0) (region 1))
    ∷ (40, line.Done (task 0))
    ∷ (40, line.End end.Completed)
    ∷ []

pub row_adjust_1_runs : row_adjust_1_lines ≡ row_adjust_1_trace
unfolding row_adjust_1_lines row_adjust_1_trace digits computing
row_adjust_1_runs = refl

-- whether every world of its run is well formed
unfoldable pub row_adjust_1_worlds : Bool
row_adjust_1_worlds = run_is_well_formed row_adjust_1_program row_adjust_1_script 41

pub row_adjust_1_keeps : row_adjust_1_worlds ≡ true
unfolding row_adjust_1_worlds computing
row_adjust_1_keeps = refl

-- whether each handler is released at its tick
unfoldable pub row_adjust_1_handlers : Bool
row_adjust_1_handlers = releases_ok row_adjust_1_program row_adjust_1_script 41

pub row_adjust_1_releases : row_adjust_1_handlers ≡ true
unfolding row_adjust_1_handlers computing
row_adjust_1_releases = refl
