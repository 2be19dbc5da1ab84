use Rattle.std.specs.Prelude.{◌≡◌, ℕ, ℤ, pos, negsuc, List, [], ◌∷◌, Some, None, true, false, codes, refl}
use Rattle.trace_text.specs.declared.events.Event.{Event}
use Rattle.trace_text.specs.declared.events.Event.TheVariants as line
use Rattle.trace_text.specs.declared.events.Created.TheVariants as created
use Rattle.trace_text.specs.declared.events.Ended.TheVariants as end
use Rattle.trace_text.specs.declared.events.QueueEnd.TheVariants.{Tail}
use Rattle.profile_image.specs.declared.script_items.Item.{Item}
use Rattle.profile_image.specs.declared.image.Image.{Image}
use Rattle.profile_image.specs.declared.image.Queuing.TheVariants as queuing
use Rattle.profile_image.specs.declared.values.Value.TheVariants.{Whole}
use Rattle.profile_image.specs.declared.values.Constraint.TheVariants.{Whole}
use Rattle.profile_image.specs.declared.expressions.Expression.TheVariants.{Known, Variable}
use Rattle.profile_image.specs.declared.expressions.ObjectName.TheVariants.{Declared}
use Rattle.profile_image.specs.declared.declarations.DeclarationKind.TheVariants as kind
use Rattle.profile_image.specs.declared.declarations.Initial.TheVariants as initial
use Rattle.profile_image.specs.declared.statements.StatementForm.TheVariants as form
use Rattle.profile_image.specs.declared.statements.Callee.TheVariants as callee
use Rattle.profile_image.specs.declared.statements.Destination.TheVariants as destination
use Rattle.profile_image.specs.declared.statements.Piece.TheVariants as piece
use Rattle.profile_machine.specs.Notation.{decl, expr, stmt, scope, subprogram, task, t, declaration, variable, statement, scope_text, subprogram_text, policies, main_procedure}
use Rattle.profile_machine.specs.Run.{run_of}
use Rattle.profile_machine.specs.Computing.{computing}
use Rattle.std.specs.Fmt.{digits}
use Rattle.std.specs.Prelude.{Bool}
use Rattle.profile_machine.specs.WellFormed.{run_is_well_formed}
use Rattle.profile_machine.specs.Releases.{releases_ok}

-- Row values.defaults: its run stops before tick 15, so every greater bound gives the same trace.
abbrev pub row_values_defaults_program : Image
row_values_defaults_program =
    record {
      declarations =
          declaration (codes "y") (codes "main.y") (kind.Object initial.Default) (scope 1) 0 1 (Whole (negsuc 2147483647) (pos 2147483647)) None
          ∷ declaration (codes "x") (codes "main.x") (kind.Object initial.Default) (scope 1) 1 1 (Whole (negsuc 2147483647) (pos 2147483647)) None
          ∷ [];
      expressions =
          Known (Whole (pos 1))
          ∷ Known (Whole (pos 5))
          ∷ Variable (variable (Declared (decl 1)) None)
          ∷ [];
      statements =
          statement (form.CallMain) 0 None
          ∷ statement (form.ReturnValue (subprogram 0) (expr 0)) 0 None
          ∷ statement (form.Assign (variable (Declared (decl 1)) None) (expr 1)) 0 (Some (stmt 1))
          ∷ statement (form.PutLine (piece.Whole (expr 2) ∷ [])) 0 None
          ∷ statement (form.Declare (decl 1)) 0 (Some (stmt 3))
          ∷ statement (form.Call (callee.Subprogram (subprogram 0)) [] (destination.Declaration (decl 0))) 0 (Some (stmt 4))
          ∷ [];
      scopes =
          scope_text None 0 [] false (Some (stmt 0))
          ∷ scope_text (Some (scope 0)) 2 [] false (Some (stmt 5))
          ∷ scope_text (Some (scope 1)) 1 [] false (Some (stmt 2))
          ∷ [];
      subprograms =
          subprogram_text (codes "f") (scope 2) [] (Some (Whole (negsuc 2147483647) (pos 2147483647))) None
          ∷ [];
      task_units = [];
      protected_units = [];
      entries = [];
      controlled_types = [];
      enumerations = [];
      policies = (policies [] queuing.Fifo None 30);
      environment = (scope 0);
      main = (main_procedure (codes "main") 15 (scope 1));
    }

abbrev pub row_values_defaults_script : List (ℤ × Item)
row_values_defaults_script = []

-- the lines of its run up to tick 15
unfoldable pub row_values_defaults_lines : List (ℕ × Event)
row_values_defaults_lines = run_of row_values_defaults_program row_values_defaults_script 15

unfoldable pub row_values_defaults_trace : List (ℕ × Event)
row_values_defaults_trace =
    (0, line.New (created.Task (task 0)) (codes "main") 15)
    ∷ (0, line.Ready (t 0) 15 Tail None)
    ∷ (0, line.Run (t 0))
    ∷ (12, line.Put (t 0) (codes " 0"))
    ∷ (14, line.Done (task 0))
    ∷ (14, line.End end.Completed)
    ∷ []

pub row_values_defaults_runs : row_values_defaults_lines ≡ row_values_defaults_trace
unfolding row_values_defaults_lines row_values_defaults_trace digits computing
row_values_defaults_runs = refl

-- whether every world of its run is well formed
unfoldable pub row_values_defaults_worlds : Bool
row_values_defaults_worlds = run_is_well_formed row_values_defaults_program row_values_defaults_script 15

pub row_values_defaults_keeps : row_values_defaults_worlds ≡ true
unfolding row_values_defaults_worlds computing
row_values_defaults_keeps = refl

-- whether each handler is released at its tick
unfoldable pub row_values_defaults_handlers : Bool
row_values_defaults_handlers = releases_ok row_values_defaults_program row_values_defaults_script 15

pub row_values_defaults_releases : row_values_defaults_handlers ≡ true
unfolding row_values_defaults_handlers computing
row_values_defaults_releases = refl
