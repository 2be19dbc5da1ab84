use Rattle.std.specs.Prelude.{◌≡◌, ℕ, ℤ, pos, List, [], ◌∷◌, Some, None, true, false, codes, refl}
use Rattle.trace_text.specs.declared.events.Event.{Event}
use Rattle.trace_text.specs.declared.events.Event.TheVariants as line
use Rattle.trace_text.specs.declared.events.Created.TheVariants as created
use Rattle.trace_text.specs.declared.events.Ended.TheVariants as end
use Rattle.trace_text.specs.declared.events.QueueEnd.TheVariants.{Tail}
use Rattle.trace_text.specs.declared.events.Waits.TheVariants as waits
use Rattle.profile_image.specs.declared.script_items.Item.{Item}
use Rattle.profile_image.specs.declared.script_items.Item.TheVariants as item
use Rattle.profile_image.specs.declared.image.Image.{Image}
use Rattle.profile_image.specs.declared.image.Queuing.TheVariants as queuing
use Rattle.profile_image.specs.declared.values.Value.TheVariants.{Ticks}
use Rattle.profile_image.specs.declared.values.Constraint.TheVariants.{Ticks}
use Rattle.profile_image.specs.declared.expressions.Expression.TheVariants.{Known}
use Rattle.profile_image.specs.declared.statements.StatementForm.TheVariants as form
use Rattle.profile_machine.specs.Notation.{expr, stmt, scope, task, t, statement, scope_text, policies, main_procedure}
use Rattle.profile_machine.specs.Run.{run_of}
use Rattle.profile_machine.specs.Computing.{computing}
use Rattle.std.specs.Fmt.{digits}
use Rattle.std.specs.Prelude.{Bool}
use Rattle.profile_machine.specs.WellFormed.{run_is_well_formed}
use Rattle.profile_machine.specs.Releases.{releases_ok}

-- Row wide.1: its run up to tick 70.
abbrev pub row_wide_1_program : Image
row_wide_1_program =
    record {
      declarations = [];
      expressions =
          Known (Ticks (pos 1000000))
          ∷ [];
      statements =
          statement (form.CallMain) 0 None
          ∷ statement (form.Delay (expr 0)) 0 None
          ∷ [];
      scopes =
          scope_text None 0 [] false (Some (stmt 0))
          ∷ scope_text (Some (scope 0)) 0 [] false (Some (stmt 1))
          ∷ [];
      subprograms = [];
      task_units = [];
      protected_units = [];
      entries = [];
      controlled_types = [];
      enumerations = [];
      policies = (policies [] queuing.Fifo None 30);
      environment = (scope 0);
      main = (main_procedure (codes "main") 15 (scope 1));
    }

abbrev pub row_wide_1_script : List (ℤ × Item)
row_wide_1_script =
    (pos 10, item.Interrupt 0)
    ∷ (pos 30, item.Interrupt 0)
    ∷ (pos 40, item.Mask 0)
    ∷ (pos 50, item.Interrupt 0)
    ∷ (pos 60, item.Unmask 0)
    ∷ []

-- the lines of its run up to tick 70
unfoldable pub row_wide_1_lines : List (ℕ × Event)
row_wide_1_lines = run_of row_wide_1_program row_wide_1_script 70

unfoldable pub row_wide_1_trace : List (ℕ × Event)
row_wide_1_trace =
    (0, line.New (created.Task (task 0)) (codes "main") 15)
    ∷ (0, line.Ready (t 0) 15 Tail None)
    ∷ (0, line.Run (t 0))
    ∷ (4, line.Block (t 0) waits.Delay)
    ∷ (4, line.Idle)
    ∷ (10, line.Interrupt 0)
    ∷ (30, line.Interrupt 0)
    ∷ (40, line.Mask 0)
    ∷ (50, line.Masked 0)
    ∷ (60, line.Unmask 0)
    ∷ (60, line.Interrupt 0)
    ∷ (70, line.End end.Bound)
    ∷ []

pub row_wide_1_runs : row_wide_1_lines ≡ row_wide_1_trace
unfolding row_wide_1_lines row_wide_1_trace digits computing
row_wide_1_runs = refl

-- whether every world of its run is well formed
unfoldable pub row_wide_1_worlds : Bool
row_wide_1_worlds = run_is_well_formed row_wide_1_program row_wide_1_script 70

pub row_wide_1_keeps : row_wide_1_worlds ≡ true
unfolding row_wide_1_worlds computing
row_wide_1_keeps = refl

-- whether each handler is released at its tick
unfoldable pub row_wide_1_handlers : Bool
row_wide_1_handlers = releases_ok row_wide_1_program row_wide_1_script 70

pub row_wide_1_releases : row_wide_1_handlers ≡ true
unfolding row_wide_1_handlers computing
row_wide_1_releases = refl
