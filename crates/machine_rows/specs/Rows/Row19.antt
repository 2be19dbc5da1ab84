use Rattle.std.specs.Prelude.{◌≡◌, ℕ, ℤ, List, [], ◌∷◌, Some, None, false, codes, refl}
use Rattle.trace_text.specs.declared.events.Event.{Event}
use Rattle.trace_text.specs.declared.events.Event.TheVariants as line
use Rattle.trace_text.specs.declared.events.Created.TheVariants as created
use Rattle.trace_text.specs.declared.events.Ended.TheVariants as end
use Rattle.trace_text.specs.declared.events.QueueEnd.TheVariants.{Tail}
use Rattle.profile_image.specs.declared.script_items.Item.{Item}
use Rattle.profile_image.specs.declared.image.Image.{Image}
use Rattle.profile_image.specs.declared.image.Queuing.TheVariants as queuing
use Rattle.profile_image.specs.declared.statements.StatementForm.TheVariants as form
use Rattle.profile_image.specs.declared.statements.Callee.TheVariants as callee
use Rattle.profile_image.specs.declared.statements.Destination.TheVariants as destination
use Rattle.profile_machine.specs.Notation.{stmt, scope, subprogram, task, t, statement, scope_text, subprogram_text, policies, main_procedure}
use Rattle.profile_machine.specs.Run.{run_of}
use Rattle.profile_machine.specs.Computing.{computing}
use Rattle.std.specs.Fmt.{digits}

-- Row 19: its run stops before tick 3001, so every greater bound gives the same trace.
abbrev pub row_19_program : Image
row_19_program =
    record {
      declarations = [];
      expressions = [];
      statements =
          statement (form.CallMain) 0 None
          ∷ statement (form.Call (callee.Subprogram (subprogram 0)) [] destination.Nowhere) 0 None
          ∷ statement (form.Call (callee.Subprogram (subprogram 0)) [] destination.Nowhere) 0 None
          ∷ [];
      scopes =
          scope_text None 0 [] false (Some (stmt 0))
          ∷ scope_text (Some (scope 0)) 0 [] false (Some (stmt 2))
          ∷ scope_text (Some (scope 1)) 0 [] false (Some (stmt 1))
          ∷ [];
      subprograms =
          subprogram_text (codes "p") (scope 2) [] None None
          ∷ [];
      task_units = [];
      protected_units = [];
      entries = [];
      controlled_types = [];
      enumerations = [];
      policies = (policies [] queuing.Fifo None 30);
      environment = (scope 0);
      main = (main_procedure (codes "main") 15 (scope 1));
    }

abbrev pub row_19_script : List (ℤ × Item)
row_19_script = []

-- the lines of its run up to tick 3001
unfoldable pub row_19_lines : List (ℕ × Event)
row_19_lines = run_of row_19_program row_19_script 3001

unfoldable pub row_19_trace : List (ℕ × Event)
row_19_trace =
    (0, line.New (created.Task (task 0)) (codes "main") 15)
    ∷ (0, line.Ready (t 0) 15 Tail None)
    ∷ (0, line.Run (t 0))
    ∷ (2000, line.Raise (t 0) (codes "storage_error"))
    ∷ (3000, line.Done (task 0))
    ∷ (3000, line.End (end.Exception (codes "storage_error")))
    ∷ []

pub row_19_runs : row_19_lines ≡ row_19_trace
unfolding row_19_lines row_19_trace digits computing
row_19_runs = refl
