use Rattle.std.specs.Prelude.{◌≡◌, ℕ, ℤ, List, [], ◌∷◌, Some, None, true, false, codes, refl}
use Rattle.trace_text.specs.declared.events.Event.{Event}
use Rattle.trace_text.specs.declared.events.Event.TheVariants as line
use Rattle.trace_text.specs.declared.events.Created.TheVariants as created
use Rattle.trace_text.specs.declared.events.Ended.TheVariants as end
use Rattle.trace_text.specs.declared.events.QueueEnd.TheVariants.{Tail}
use Rattle.profile_image.specs.declared.script_items.Item.{Item}
use Rattle.profile_image.specs.declared.image.Image.{Image}
use Rattle.profile_image.specs.declared.image.Queuing.TheVariants as queuing
use Rattle.profile_image.specs.declared.statements.StatementForm.TheVariants as form
use Rattle.profile_image.specs.declared.statements.Piece.TheVariants as piece
use Rattle.profile_machine.specs.Notation.{stmt, scope, task, t, statement, scope_text, policies, main_procedure}
use Rattle.profile_machine.specs.Run.{run_of}
use Rattle.profile_machine.specs.Computing.{computing}
use Rattle.std.specs.Fmt.{digits}
use Rattle.std.specs.Prelude.{Bool}
use Rattle.profile_machine.specs.WellFormed.{run_is_well_formed}
use Rattle.profile_machine.specs.Releases.{releases_ok}

-- Row 01: its run stops before tick 10, so every greater bound gives the same trace.
abbrev pub row_01_program : Image
row_01_program =
    record {
      declarations = [];
      expressions = [];
      statements =
          statement (form.CallMain) 0 None
          ∷ statement (form.PutLine (piece.Text (codes "hi") ∷ [])) 0 None
          ∷ statement (form.Null) 0 (Some (stmt 1))
          ∷ [];
      scopes =
          scope_text None 0 [] false (Some (stmt 0))
          ∷ scope_text (Some (scope 0)) 0 [] false (Some (stmt 2))
          ∷ [];
      subprograms = [];
      task_units = [];
      protected_units = [];
      entries = [];
      controlled_types = [];
      enumerations = [];
      policies = (policies [] queuing.Fifo None 30);
      environment = (scope 0);
      main = (main_procedure (codes "main") 15 (scope 1));
    }

abbrev pub row_01_script : List (ℤ × Item)
row_01_script = []

-- the lines of its run up to tick 10
unfoldable pub row_01_lines : List (ℕ × Event)
row_01_lines = run_of row_01_program row_01_script 10

unfoldable pub row_01_trace : List (ℕ × Event)
row_01_trace =
    (0, line.New (created.Task (task 0)) (codes "main") 15)
    ∷ (0, line.Ready (t 0) 15 Tail None)
    ∷ (0, line.Run (t 0))
    ∷ (7, line.Put (t 0) (codes "hi"))
    ∷ (9, line.Done (task 0))
    ∷ (9, line.End end.Completed)
    ∷ []

pub row_01_runs : row_01_lines ≡ row_01_trace
unfolding row_01_lines row_01_trace digits computing
row_01_runs = refl

-- whether every world of its run is well formed
unfoldable pub row_01_worlds : Bool
row_01_worlds = run_is_well_formed row_01_program row_01_script 10

pub row_01_keeps : row_01_worlds ≡ true
unfolding row_01_worlds computing
row_01_keeps = refl

-- whether each handler is released at its tick
unfoldable pub row_01_handlers : Bool
row_01_handlers = releases_ok row_01_program row_01_script 10

pub row_01_releases : row_01_handlers ≡ true
unfolding row_01_handlers computing
row_01_releases = refl
