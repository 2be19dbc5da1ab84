use Rattle.std.specs.Prelude.{◌≡◌, ℕ, ℤ, pos, negsuc, List, [], ◌∷◌, Some, None, true, false, codes, refl}
use Rattle.ann_base.specs.declared.exceptions.Raised.TheVariants as exception
use Rattle.trace_text.specs.declared.events.Event.{Event}
use Rattle.trace_text.specs.declared.events.Event.TheVariants as line
use Rattle.trace_text.specs.declared.events.Created.TheVariants as created
use Rattle.trace_text.specs.declared.events.Ended.TheVariants as end
use Rattle.trace_text.specs.declared.events.Leaves.TheVariants as leaves
use Rattle.trace_text.specs.declared.events.QueueEnd.TheVariants.{Tail}
use Rattle.profile_image.specs.declared.script_items.Item.{Item}
use Rattle.profile_image.specs.declared.image.Image.{Image}
use Rattle.profile_image.specs.declared.image.Queuing.TheVariants as queuing
use Rattle.profile_image.specs.declared.values.Value.TheVariants.{Whole}
use Rattle.profile_image.specs.declared.values.Constraint.TheVariants.{Free, Whole}
use Rattle.profile_image.specs.declared.expressions.Expression.TheVariants.{Known, Variable}
use Rattle.profile_image.specs.declared.expressions.ObjectName.TheVariants.{Declared}
use Rattle.profile_image.specs.declared.declarations.DeclarationKind.TheVariants as kind
use Rattle.profile_image.specs.declared.declarations.Initial.TheVariants as initial
use Rattle.profile_image.specs.declared.declarations.ExceptionChoice.TheVariants as exception_choice
use Rattle.profile_image.specs.declared.statements.StatementForm.TheVariants as form
use Rattle.profile_image.specs.declared.statements.Callee.TheVariants as callee
use Rattle.profile_image.specs.declared.statements.Destination.TheVariants as destination
use Rattle.profile_image.specs.declared.statements.Piece.TheVariants as piece
use Rattle.profile_machine.specs.Notation.{decl, expr, stmt, scope, subprogram, controlled_type, task, region, t, declaration, variable, statement, handler, scope_text, formal, subprogram_text, controlled_text, policies, main_procedure}
use Rattle.profile_machine.specs.Run.{run_of}
use Rattle.profile_machine.specs.Computing.{computing}
use Rattle.std.specs.Fmt.{digits}
use Rattle.std.specs.Prelude.{Bool}
use Rattle.profile_machine.specs.WellFormed.{run_is_well_formed}
use Rattle.profile_machine.specs.Releases.{releases_ok}

-- Row values.fall_through: its run stops before tick 34, so every greater bound gives the same trace.
abbrev pub row_values_fall_through_program : Image
row_values_fall_through_program =
    record {
      declarations =
          declaration (codes "o") (codes "pk.o") kind.Parameter (scope 1) 0 1 Free None
          ∷ declaration (codes "x") (codes "main.x") (kind.Object (initial.Scalar (expr 2))) (scope 2) 0 1 (Whole (negsuc 2147483647) (pos 2147483647)) None
          ∷ declaration (codes "a") (codes "main.f.a") (kind.Controlled (controlled_type 0)) (scope 5) 0 1 Free None
          ∷ [];
      expressions =
          Known (Whole (pos 7))
          ∷ Variable (variable (Declared (decl 1)) None)
          ∷ Known (Whole (pos 0))
          ∷ [];
      statements =
          statement (form.CallMain) 0 None
          ∷ statement (form.Null) 0 None
          ∷ statement (form.Block (scope 4)) 0 (Some (stmt 1))
          ∷ statement (form.Handled (handler (exception_choice.Named exception.Program ∷ []) (stmt 8) ∷ []) (stmt 4)) 0 None
          ∷ statement (form.Block (scope 5)) 0 None
          ∷ statement (form.ReturnValue (subprogram 1) (expr 0)) 0 None
          ∷ statement (form.Initialize (decl 2)) 0 (Some (stmt 5))
          ∷ statement (form.Declare (decl 2)) 0 (Some (stmt 6))
          ∷ statement (form.PutLine (piece.Text (codes "h") ∷ [])) 0 None
          ∷ statement (form.Handled (handler (exception_choice.Named exception.Program ∷ []) (stmt 12) ∷ []) (stmt 11)) 0 None
          ∷ statement (form.PutLine (piece.Whole (expr 1) ∷ [])) 0 None
          ∷ statement (form.Call (callee.Subprogram (subprogram 1)) [] (destination.Variable (variable (Declared (decl 1)) None))) 0 (Some (stmt 10))
          ∷ statement (form.PutLine (piece.Text (codes "pe") ∷ [])) 0 None
          ∷ statement (form.Declare (decl 1)) 0 (Some (stmt 9))
          ∷ statement (form.Raise exception.Constraint) 0 None
          ∷ [];
      scopes =
          scope_text None 0 [] false (Some (stmt 0))
          ∷ scope_text (Some (scope 0)) 1 [] false (Some (stmt 14))
          ∷ scope_text (Some (scope 0)) 1 [] false (Some (stmt 13))
          ∷ scope_text (Some (scope 2)) 1 [] false (Some (stmt 2))
          ∷ scope_text (Some (scope 3)) 0 [] false (Some (stmt 3))
          ∷ scope_text (Some (scope 4)) 1 [] true (Some (stmt 7))
          ∷ [];
      subprograms =
          subprogram_text (codes "finalize") (scope 1) (formal Free (Whole (pos 0)) ∷ []) None None
          ∷ subprogram_text (codes "f") (scope 3) [] (Some (Whole (negsuc 2147483647) (pos 2147483647))) None
          ∷ [];
      task_units = [];
      protected_units = [];
      entries = [];
      controlled_types =
          controlled_text [] None (Some (subprogram 0)) None
          ∷ [];
      enumerations = [];
      policies = (policies [] queuing.Fifo None 30);
      environment = (scope 0);
      main = (main_procedure (codes "main") 15 (scope 2));
    }

abbrev pub row_values_fall_through_script : List (ℤ × Item)
row_values_fall_through_script = []

-- the lines of its run up to tick 34
unfoldable pub row_values_fall_through_lines : List (ℕ × Event)
row_values_fall_through_lines = run_of row_values_fall_through_program row_values_fall_through_script 34

unfoldable pub row_values_fall_through_trace : List (ℕ × Event)
row_values_fall_through_trace =
    (0, line.New (created.Task (task 0)) (codes "main") 15)
    ∷ (0, line.Ready (t 0) 15 Tail None)
    ∷ (0, line.Run (t 0))
    ∷ (10, line.Init (t 0) 1 (region 1) (codes "a"))
    ∷ (12, line.Leave (t 0) (region 1) leaves.Return)
    ∷ (14, line.Final (t 0) 1)
    ∷ (15, line.Raise (t 0) (codes "constraint_error"))
    ∷ (18, line.Left (t 0) (region 1))
    ∷ (18, line.Raise (t 0) (codes "program_error"))
    ∷ (23, line.Put (t 0) (codes "h"))
    ∷ (26, line.Raise (t 0) (codes "program_error"))
    ∷ (31, line.Put (t 0) (codes "pe"))
    ∷ (33, line.Done (task 0))
    ∷ (33, line.End end.Completed)
    ∷ []

pub row_values_fall_through_runs : row_values_fall_through_lines ≡ row_values_fall_through_trace
unfolding row_values_fall_through_lines row_values_fall_through_trace digits computing
row_values_fall_through_runs = refl

-- whether every world of its run is well formed
unfoldable pub row_values_fall_through_worlds : Bool
row_values_fall_through_worlds = run_is_well_formed row_values_fall_through_program row_values_fall_through_script 34

pub row_values_fall_through_keeps : row_values_fall_through_worlds ≡ true
unfolding row_values_fall_through_worlds computing
row_values_fall_through_keeps = refl

-- whether each handler is released at its tick
unfoldable pub row_values_fall_through_handlers : Bool
row_values_fall_through_handlers = releases_ok row_values_fall_through_program row_values_fall_through_script 34

pub row_values_fall_through_releases : row_values_fall_through_handlers ≡ true
unfolding row_values_fall_through_handlers computing
row_values_fall_through_releases = refl
