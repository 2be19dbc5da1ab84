use Rattle.std.specs.Prelude.{◌≡◌, ℕ, ℤ, pos, List, [], ◌∷◌, Some, None, true, false, codes, refl}
use Rattle.ann_base.specs.declared.exceptions.Raised.TheVariants as exception
use Rattle.trace_text.specs.declared.events.Event.{Event}
use Rattle.trace_text.specs.declared.events.Event.TheVariants as line
use Rattle.trace_text.specs.declared.events.Created.TheVariants as created
use Rattle.trace_text.specs.declared.events.Ended.TheVariants as end
use Rattle.trace_text.specs.declared.events.Leaves.TheVariants as leaves
use Rattle.trace_text.specs.declared.events.QueueEnd.TheVariants.{Tail}
use Rattle.profile_image.specs.declared.script_items.Item.{Item}
use Rattle.profile_image.specs.declared.image.Image.{Image}
use Rattle.profile_image.specs.declared.image.Queuing.TheVariants as queuing
use Rattle.profile_image.specs.declared.values.Value.TheVariants.{Whole, Ticks}
use Rattle.profile_image.specs.declared.values.Constraint.TheVariants.{Free, Whole, Ticks}
use Rattle.profile_image.specs.declared.expressions.Expression.TheVariants.{Known}
use Rattle.profile_image.specs.declared.declarations.DeclarationKind.TheVariants as kind
use Rattle.profile_image.specs.declared.declarations.ExceptionChoice.TheVariants as exception_choice
use Rattle.profile_image.specs.declared.statements.StatementForm.TheVariants as form
use Rattle.profile_image.specs.declared.statements.Callee.TheVariants as callee
use Rattle.profile_image.specs.declared.statements.Destination.TheVariants as destination
use Rattle.profile_image.specs.declared.statements.Piece.TheVariants as piece
use Rattle.profile_machine.specs.Notation.{decl, expr, stmt, scope, subprogram, controlled_type, task, region, t, declaration, statement, handler, scope_text, formal, subprogram_text, controlled_text, policies, main_procedure}
use Rattle.profile_machine.specs.Run.{run_of}
use Rattle.profile_machine.specs.Computing.{computing}
use Rattle.std.specs.Fmt.{digits}
use Rattle.std.specs.Prelude.{Bool}
use Rattle.profile_machine.specs.WellFormed.{run_is_well_formed}
use Rattle.profile_machine.specs.Releases.{releases_ok}

-- Row select.left: its run stops before tick 43, so every greater bound gives the same trace.
abbrev pub row_select_left_program : Image
row_select_left_program =
    record {
      declarations =
          declaration (codes "o") (codes "pk.o") kind.Parameter (scope 1) 0 1 Free None
          ∷ declaration (codes "a") (codes "main.a") (kind.Controlled (controlled_type 0)) (scope 5) 0 1 Free None
          ∷ [];
      expressions =
          Known (Ticks (pos 1000000))
          ∷ Known (Ticks (pos 6))
          ∷ Known (Ticks (pos 1000000))
          ∷ Known (Ticks (pos 1000000))
          ∷ [];
      statements =
          statement (form.CallMain) 0 None
          ∷ statement (form.PutLine (piece.Text (codes "no") ∷ [])) 0 None
          ∷ statement (form.AsynchronousSelect (stmt 4) (stmt 5)) 0 (Some (stmt 1))
          ∷ statement (form.PutLine (piece.Text (codes "no") ∷ [])) 0 (Some (stmt 1))
          ∷ statement (form.Delay (expr 0)) 0 (Some (stmt 3))
          ∷ statement (form.Return) 0 None
          ∷ statement (form.Loop (stmt 8) None) 0 None
          ∷ statement (form.Exit None (stmt 6)) 0 (Some (stmt 6))
          ∷ statement (form.AsynchronousSelect (stmt 9) (stmt 10)) 0 (Some (stmt 7))
          ∷ statement (form.Delay (expr 1)) 0 (Some (stmt 7))
          ∷ statement (form.Block (scope 5)) 0 None
          ∷ statement (form.Exit None (stmt 6)) 0 None
          ∷ statement (form.Initialize (decl 1)) 0 (Some (stmt 11))
          ∷ statement (form.Declare (decl 1)) 0 (Some (stmt 12))
          ∷ statement (form.Block (scope 4)) 0 (Some (stmt 6))
          ∷ statement (form.Handled (handler (exception_choice.Named exception.Constraint ∷ []) (stmt 20) ∷ []) (stmt 16)) 0 None
          ∷ statement (form.AsynchronousSelect (stmt 18) (stmt 19)) 0 None
          ∷ statement (form.PutLine (piece.Text (codes "no") ∷ [])) 0 None
          ∷ statement (form.Delay (expr 2)) 0 (Some (stmt 17))
          ∷ statement (form.Raise exception.Constraint) 0 None
          ∷ statement (form.Null) 0 None
          ∷ statement (form.Loop (stmt 23) None) 0 (Some (stmt 14))
          ∷ statement (form.PutLine (piece.Text (codes "no") ∷ [])) 0 (Some (stmt 21))
          ∷ statement (form.AsynchronousSelect (stmt 25) (stmt 26)) 0 (Some (stmt 22))
          ∷ statement (form.PutLine (piece.Text (codes "no") ∷ [])) 0 (Some (stmt 22))
          ∷ statement (form.Delay (expr 3)) 0 (Some (stmt 24))
          ∷ statement (form.Exit None (stmt 21)) 0 None
          ∷ statement (form.Call (callee.Subprogram (subprogram 1)) [] destination.Nowhere) 0 (Some (stmt 21))
          ∷ statement (form.Null) 0 None
          ∷ statement (form.Null) 0 (Some (stmt 28))
          ∷ [];
      scopes =
          scope_text None 0 [] false (Some (stmt 0))
          ∷ scope_text (Some (scope 0)) 1 [] false (Some (stmt 29))
          ∷ scope_text (Some (scope 0)) 0 [] false (Some (stmt 27))
          ∷ scope_text (Some (scope 2)) 0 [] false (Some (stmt 2))
          ∷ scope_text (Some (scope 2)) 0 [] false (Some (stmt 15))
          ∷ scope_text (Some (scope 2)) 1 [] true (Some (stmt 13))
          ∷ [];
      subprograms =
          subprogram_text (codes "finalize") (scope 1) (formal Free (Whole (pos 0)) ∷ []) None None
          ∷ subprogram_text (codes "p") (scope 3) [] None None
          ∷ [];
      task_units = [];
      protected_units = [];
      entries = [];
      controlled_types =
          controlled_text [] None (Some (subprogram 0)) None
          ∷ [];
      enumerations = [];
      policies = (policies [] queuing.Fifo None 30);
      environment = (scope 0);
      main = (main_procedure (codes "main") 15 (scope 2));
    }

abbrev pub row_select_left_script : List (ℤ × Item)
row_select_left_script = []

-- the lines of its run up to tick 43
unfoldable pub row_select_left_lines : List (ℕ × Event)
row_select_left_lines = run_of row_select_left_program row_select_left_script 43

unfoldable pub row_select_left_trace : List (ℕ × Event)
row_select_left_trace =
    (0, line.New (created.Task (task 0)) (codes "main") 15)
    ∷ (0, line.Ready (t 0) 15 Tail None)
    ∷ (0, line.Run (t 0))
    ∷ (18, line.Raise (t 0) (codes "constraint_error"))
    ∷ (29, line.Init (t 0) 1 (region 1) (codes "a"))
    ∷ (31, line.Leave (t 0) (region 1) leaves.Exit)
    ∷ (31, line.Trigger (task 0))
    ∷ (33, line.Final (t 0) 1)
    ∷ (38, line.Left (t 0) (region 1))
    ∷ (42, line.Done (task 0))
    ∷ (42, line.End end.Completed)
    ∷ []

pub row_select_left_runs : row_select_left_lines ≡ row_select_left_trace
unfolding row_select_left_lines row_select_left_trace digits computing
row_select_left_runs = refl

-- whether every world of its run is well formed
unfoldable pub row_select_left_worlds : Bool
row_select_left_worlds = run_is_well_formed row_select_left_program row_select_left_script 43

pub row_select_left_keeps : row_select_left_worlds ≡ true
unfolding row_select_left_worlds computing
row_select_left_keeps = refl

-- whether each handler is released at its tick
unfoldable pub row_select_left_handlers : Bool
row_select_left_handlers = releases_ok row_select_left_program row_select_left_script 43

pub row_select_left_releases : row_select_left_handlers ≡ true
unfolding row_select_left_handlers computing
row_select_left_releases = refl
