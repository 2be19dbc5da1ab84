use Rattle.std.specs.Prelude.{◌≡◌, ℕ, ℤ, pos, List, [], ◌∷◌, Some, None, true, false, codes, refl}
use Rattle.ann_base.specs.declared.exceptions.Raised.TheVariants as exception
use Rattle.trace_text.specs.declared.events.Event.{Event}
use Rattle.trace_text.specs.declared.events.Event.TheVariants as line
use Rattle.trace_text.specs.declared.events.Created.TheVariants as created
use Rattle.trace_text.specs.declared.events.Ended.TheVariants as end
use Rattle.trace_text.specs.declared.events.QueueEnd.TheVariants.{Tail}
use Rattle.trace_text.specs.declared.events.Waits.TheVariants as waits
use Rattle.profile_image.specs.declared.script_items.Item.{Item}
use Rattle.profile_image.specs.declared.image.Image.{Image}
use Rattle.profile_image.specs.declared.image.Queuing.TheVariants as queuing
use Rattle.profile_image.specs.declared.values.Value.TheVariants.{Ticks}
use Rattle.profile_image.specs.declared.values.Constraint.TheVariants.{Ticks}
use Rattle.profile_image.specs.declared.expressions.Expression.TheVariants.{Known}
use Rattle.profile_image.specs.declared.declarations.ExceptionChoice.TheVariants as exception_choice
use Rattle.profile_image.specs.declared.statements.StatementForm.TheVariants as form
use Rattle.profile_machine.specs.Notation.{expr, stmt, scope, task, t, statement, handler, scope_text, subprogram_text, policies, main_procedure}
use Rattle.profile_machine.specs.Run.{run_of}
use Rattle.profile_machine.specs.Computing.{computing}
use Rattle.std.specs.Fmt.{digits}
use Rattle.std.specs.Prelude.{Bool}
use Rattle.profile_machine.specs.WellFormed.{run_is_well_formed}
use Rattle.profile_machine.specs.Releases.{releases_ok}

-- Row sequences.opening: its run stops before tick 16, so every greater bound gives the same trace.
abbrev pub row_sequences_opening_program : Image
row_sequences_opening_program =
    record {
      declarations = [];
      expressions =
          Known (Ticks (pos 3))
          ∷ [];
      statements =
          statement (form.CallMain) 0 None
          ∷ statement (form.Null) 0 None
          ∷ statement (form.Null) 0 None
          ∷ statement (form.Handled (handler (exception_choice.Named exception.Storage ∷ []) (stmt 5) ∷ []) (stmt 4)) 0 (Some (stmt 0))
          ∷ statement (form.Raise exception.Storage) 0 None
          ∷ statement (form.Null) 0 (Some (stmt 0))
          ∷ statement (form.Null) 0 None
          ∷ statement (form.Handled (handler (exception_choice.Named exception.Program ∷ []) (stmt 9) ∷ []) (stmt 8)) 0 (Some (stmt 3))
          ∷ statement (form.Raise exception.Program) 0 None
          ∷ statement (form.Delay (expr 0)) 0 (Some (stmt 3))
          ∷ [];
      scopes =
          scope_text None 0 [] false (Some (stmt 7))
          ∷ scope_text (Some (scope 0)) 0 [] false (Some (stmt 6))
          ∷ scope_text (Some (scope 0)) 0 [] false (Some (stmt 2))
          ∷ scope_text (Some (scope 0)) 0 [] false (Some (stmt 1))
          ∷ [];
      subprograms =
          subprogram_text (codes "p") (scope 1) [] None None
          ∷ subprogram_text (codes "q") (scope 2) [] None None
          ∷ [];
      task_units = [];
      protected_units = [];
      entries = [];
      controlled_types = [];
      enumerations = [];
      policies = (policies [] queuing.Fifo None 30);
      environment = (scope 0);
      main = (main_procedure (codes "main") 15 (scope 3));
    }

abbrev pub row_sequences_opening_script : List (ℤ × Item)
row_sequences_opening_script = []

-- the lines of its run up to tick 16
unfoldable pub row_sequences_opening_lines : List (ℕ × Event)
row_sequences_opening_lines = run_of row_sequences_opening_program row_sequences_opening_script 16

unfoldable pub row_sequences_opening_trace : List (ℕ × Event)
row_sequences_opening_trace =
    (0, line.New (created.Task (task 0)) (codes "main") 15)
    ∷ (0, line.Ready (t 0) 15 Tail None)
    ∷ (0, line.Run (t 0))
    ∷ (1, line.Raise (t 0) (codes "program_error"))
    ∷ (4, line.Block (t 0) waits.Delay)
    ∷ (4, line.Idle)
    ∷ (7, line.Ready (t 0) 15 Tail None)
    ∷ (7, line.Run (t 0))
    ∷ (8, line.Raise (t 0) (codes "storage_error"))
    ∷ (15, line.Done (task 0))
    ∷ (15, line.End end.Completed)
    ∷ []

pub row_sequences_opening_runs : row_sequences_opening_lines ≡ row_sequences_opening_trace
unfolding row_sequences_opening_lines row_sequences_opening_trace digits computing
row_sequences_opening_runs = refl

-- whether every world of its run is well formed
unfoldable pub row_sequences_opening_worlds : Bool
row_sequences_opening_worlds = run_is_well_formed row_sequences_opening_program row_sequences_opening_script 16

pub row_sequences_opening_keeps : row_sequences_opening_worlds ≡ true
unfolding row_sequences_opening_worlds computing
row_sequences_opening_keeps = refl

-- whether each handler is released at its tick
unfoldable pub row_sequences_opening_handlers : Bool
row_sequences_opening_handlers = releases_ok row_sequences_opening_program row_sequences_opening_script 16

pub row_sequences_opening_releases : row_sequences_opening_handlers ≡ true
unfolding row_sequences_opening_handlers computing
row_sequences_opening_releases = refl
