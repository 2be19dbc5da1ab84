use Rattle.std.specs.Prelude.{◌≡◌, ℕ, ℤ, List, [], ◌∷◌, Some, None, true, false, codes, refl}
use Rattle.trace_text.specs.declared.events.Event.{Event}
use Rattle.trace_text.specs.declared.events.Event.TheVariants as line
use Rattle.trace_text.specs.declared.events.Created.TheVariants as created
use Rattle.trace_text.specs.declared.events.Ended.TheVariants as end
use Rattle.trace_text.specs.declared.events.QueueEnd.TheVariants.{Tail}
use Rattle.profile_image.specs.declared.script_items.Item.{Item}
use Rattle.profile_image.specs.declared.image.Image.{Image}
use Rattle.profile_image.specs.declared.image.Queuing.TheVariants as queuing
use Rattle.profile_image.specs.declared.statements.StatementForm.TheVariants as form
use Rattle.profile_image.specs.declared.statements.Piece.TheVariants as piece
use Rattle.profile_machine.specs.Notation.{stmt, scope, task, t, statement, scope_text, policies, main_procedure}
use Rattle.profile_machine.specs.Run.{run_of}
use Rattle.profile_machine.specs.Computing.{computing}
use Rattle.std.specs.Fmt.{digits}
use Rattle.std.specs.Prelude.{Bool}
use Rattle.profile_machine.specs.WellFormed.{run_is_well_formed}
use Rattle.profile_machine.specs.Releases.{releases_ok}

-- Row wide.2: its run stops before tick 10, so every greater bound gives the same trace.
abbrev pub row_wide_2_program : Image
row_wide_2_program =
    record {
      declarations = [];
      expressions = [];
      statements =
          statement (form.CallMain) 0 None
          ∷ statement (form.PutLine (piece.Text (codes "hi") ∷ [])) 0 None
          ∷ statement (form.Null) 0 (Some (stmt 1))
          ∷ [];
      scopes =
          scope_text None 0 [] false (Some (stmt 0))
          ∷ scope_text (Some (scope 0)) 0 [] false (Some (stmt 2))
          ∷ [];
      subprograms = [];
      task_units = [];
      protected_units = [];
      entries = [];
      controlled_types = [];
      enumerations = [];
      policies = (policies [] queuing.Fifo None 97);
      environment = (scope 0);
      main = (main_procedure (codes "main") 48 (scope 1));
    }

abbrev pub row_wide_2_script : List (ℤ × Item)
row_wide_2_script = []

-- the lines of its run up to tick 10
unfoldable pub row_wide_2_lines : List (ℕ × Event)
row_wide_2_lines = run_of row_wide_2_program row_wide_2_script 10

unfoldable pub row_wide_2_trace : List (ℕ × Event)
row_wide_2_trace =
    (0, line.New (created.Task (task 0)) (codes "main") 48)
    ∷ (0, line.Ready (t 0) 48 Tail None)
    ∷ (0, line.Run (t 0))
    ∷ (7, line.Put (t 0) (codes "hi"))
    ∷ (9, line.Done (task 0))
    ∷ (9, line.End end.Completed)
    ∷ []

pub row_wide_2_runs : row_wide_2_lines ≡ row_wide_2_trace
unfolding row_wide_2_lines row_wide_2_trace digits computing
row_wide_2_runs = refl

-- whether every world of its run is well formed
unfoldable pub row_wide_2_worlds : Bool
row_wide_2_worlds = run_is_well_formed row_wide_2_program row_wide_2_script 10

pub row_wide_2_keeps : row_wide_2_worlds ≡ true
unfolding row_wide_2_worlds computing
row_wide_2_keeps = refl

-- whether each handler is released at its tick
unfoldable pub row_wide_2_handlers : Bool
row_wide_2_handlers = releases_ok row_wide_2_program row_wide_2_script 10

pub row_wide_2_releases : row_wide_2_handlers ≡ true
unfolding row_wide_2_handlers computing
row_wide_2_releases = refl
