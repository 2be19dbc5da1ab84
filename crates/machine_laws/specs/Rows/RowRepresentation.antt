use Rattle.std.specs.Prelude.{ℕ, ℤ, pos, List, [], ◌∷◌, Some, None, false, codes}
use Rattle.trace_text.specs.declared.events.Event.{Event}
use Rattle.trace_text.specs.declared.events.Event.TheVariants as line
use Rattle.trace_text.specs.declared.events.Created.TheVariants as created
use Rattle.trace_text.specs.declared.events.Ended.TheVariants as end
use Rattle.trace_text.specs.declared.events.QueueEnd.TheVariants.{Tail}
use Rattle.trace_text.specs.declared.events.Waits.TheVariants as waits
use Rattle.profile_image.specs.declared.script_items.Item.{Item}
use Rattle.profile_image.specs.declared.image.Image.{Image}
use Rattle.profile_image.specs.declared.image.Queuing.TheVariants as queuing
use Rattle.profile_image.specs.declared.values.Value.TheVariants.{Ticks}
use Rattle.profile_image.specs.declared.values.Constraint.TheVariants.{Ticks}
use Rattle.profile_image.specs.declared.expressions.Expression.TheVariants.{Known}
use Rattle.profile_image.specs.declared.statements.StatementForm.TheVariants as form
use Rattle.profile_machine.specs.Notation.{expr, stmt, scope, task, t, statement, scope_text, policies, main_procedure}
use Rattle.profile_machine.specs.Run.{run_of}

-- Row representation: one delay of 900 seconds. Its run is computed up to the delay and behind it; between stands an idle
-- stretch, which the law of idle stretches leads over.
abbrev pub row_representation_program : Image
row_representation_program =
    record {
      declarations = [];
      expressions =
          Known (Ticks (pos 900000000))
          ∷ [];
      statements =
          statement (form.CallMain) 0 None
          ∷ statement (form.Delay (expr 0)) 0 None
          ∷ [];
      scopes =
          scope_text None 0 [] false (Some (stmt 0))
          ∷ scope_text (Some (scope 0)) 0 [] false (Some (stmt 1))
          ∷ [];
      subprograms = [];
      task_units = [];
      protected_units = [];
      entries = [];
      controlled_types = [];
      enumerations = [];
      policies = (policies [] queuing.Fifo None 30);
      environment = (scope 0);
      main = (main_procedure (codes "main") 15 (scope 1));
    }

abbrev pub row_representation_script : List (ℤ × Item)
row_representation_script = []

-- the lines of its run up to tick 1000000000
unfoldable pub row_representation_lines : List (ℕ × Event)
row_representation_lines = run_of row_representation_program row_representation_script 1000000000

unfoldable pub row_representation_trace : List (ℕ × Event)
row_representation_trace =
    (0, line.New (created.Task (task 0)) (codes "main") 15)
    ∷ (0, line.Ready (t 0) 15 Tail None)
    ∷ (0, line.Run (t 0))
    ∷ (4, line.Block (t 0) waits.Delay)
    ∷ (4, line.Idle)
    ∷ (900000004, line.Ready (t 0) 15 Tail None)
    ∷ (900000004, line.Run (t 0))
    ∷ (900000006, line.Done (task 0))
    ∷ (900000006, line.End end.Completed)
    ∷ []
