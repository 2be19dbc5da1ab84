use Rattle.std.specs.Prelude.{◌≡◌, ℕ, ℤ, pos, negsuc, List, [], ◌∷◌, Some, None, true, false, codes, refl}
use Rattle.trace_text.specs.declared.events.Event.{Event}
use Rattle.trace_text.specs.declared.events.Event.TheVariants as line
use Rattle.trace_text.specs.declared.events.Created.TheVariants as created
use Rattle.trace_text.specs.declared.events.Ended.TheVariants as end
use Rattle.trace_text.specs.declared.events.QueueEnd.TheVariants.{Tail}
use Rattle.profile_image.specs.declared.script_items.Item.{Item}
use Rattle.profile_image.specs.declared.image.Image.{Image}
use Rattle.profile_image.specs.declared.image.Queuing.TheVariants as queuing
use Rattle.profile_image.specs.declared.values.Value.TheVariants.{Whole}
use Rattle.profile_image.specs.declared.values.Constraint.TheVariants.{Whole}
use Rattle.profile_image.specs.declared.expressions.Expression.TheVariants.{Known, Variable, Binary}
use Rattle.profile_image.specs.declared.expressions.ObjectName.TheVariants.{Declared}
use Rattle.profile_image.specs.declared.expressions.BinaryOperator.TheVariants as binary
use Rattle.profile_image.specs.declared.declarations.DeclarationKind.TheVariants as kind
use Rattle.profile_image.specs.declared.declarations.Initial.TheVariants as initial
use Rattle.profile_image.specs.declared.statements.StatementForm.TheVariants as form
use Rattle.profile_machine.specs.Notation.{decl, expr, stmt, scope, task, t, declaration, variable, statement, scope_text, policies, main_procedure}
use Rattle.profile_machine.specs.Run.{run_of}
use Rattle.profile_machine.specs.Computing.{computing}
use Rattle.std.specs.Fmt.{digits}
use Rattle.std.specs.Prelude.{Bool}
use Rattle.profile_machine.specs.WellFormed.{run_is_well_formed}
use Rattle.profile_machine.specs.Releases.{releases_ok}

-- Row 20a: its run stops before tick 8, so every greater bound gives the same trace.
abbrev pub row_20a_program : Image
row_20a_program =
    record {
      declarations =
          declaration (codes "x") (codes "main.x") (kind.Object (initial.Scalar (expr 3))) (scope 1) 0 1 (Whole (negsuc 2147483647) (pos 2147483647)) None
          ∷ [];
      expressions =
          Variable (variable (Declared (decl 0)) None)
          ∷ Known (Whole (pos 1))
          ∷ Binary binary.Plus (expr 0) (expr 1)
          ∷ Known (Whole (pos 2147483647))
          ∷ [];
      statements =
          statement (form.CallMain) 0 None
          ∷ statement (form.Assign (variable (Declared (decl 0)) None) (expr 2)) 1 None
          ∷ statement (form.Declare (decl 0)) 0 (Some (stmt 1))
          ∷ [];
      scopes =
          scope_text None 0 [] false (Some (stmt 0))
          ∷ scope_text (Some (scope 0)) 1 [] false (Some (stmt 2))
          ∷ [];
      subprograms = [];
      task_units = [];
      protected_units = [];
      entries = [];
      controlled_types = [];
      enumerations = [];
      policies = (policies [] queuing.Fifo None 30);
      environment = (scope 0);
      main = (main_procedure (codes "main") 15 (scope 1));
    }

abbrev pub row_20a_script : List (ℤ × Item)
row_20a_script = []

-- the lines of its run up to tick 8
unfoldable pub row_20a_lines : List (ℕ × Event)
row_20a_lines = run_of row_20a_program row_20a_script 8

unfoldable pub row_20a_trace : List (ℕ × Event)
row_20a_trace =
    (0, line.New (created.Task (task 0)) (codes "main") 15)
    ∷ (0, line.Ready (t 0) 15 Tail None)
    ∷ (0, line.Run (t 0))
    ∷ (5, line.Raise (t 0) (codes "constraint_error"))
    ∷ (7, line.Done (task 0))
    ∷ (7, line.End (end.Exception (codes "constraint_error")))
    ∷ []

pub row_20a_runs : row_20a_lines ≡ row_20a_trace
unfolding row_20a_lines row_20a_trace digits computing
row_20a_runs = refl

-- whether every world of its run is well formed
unfoldable pub row_20a_worlds : Bool
row_20a_worlds = run_is_well_formed row_20a_program row_20a_script 8

pub row_20a_keeps : row_20a_worlds ≡ true
unfolding row_20a_worlds computing
row_20a_keeps = refl

-- whether each handler is released at its tick
unfoldable pub row_20a_handlers : Bool
row_20a_handlers = releases_ok row_20a_program row_20a_script 8

pub row_20a_releases : row_20a_handlers ≡ true
unfolding row_20a_handlers computing
row_20a_releases = refl
