-- The text of a run, its summary and its stop.
use Rattle.std.specs.Prelude.{ℕ, ℤ, List, []}
use Rattle.trace_text.specs.declared.events.Ended.{Ended}
use Rattle.trace_text.specs.Text.{text_of}
use Rattle.trace_text.specs.Summary.{summary_of}
use Rattle.profile_image.specs.declared.script_items.Item.{Item}
use Rattle.profile_image.specs.declared.image.Image.{Image}
use Rattle.profile_machine.specs.Run.{lines_of_run, stop_of_run}

-- the text of the run of an image without a script up to so many ticks, and its stop
abbrev pub text_of_run : Image → ℕ → List ℕ
text_of_run image ticks = text_of (lines_of_run image [] ticks)

abbrev pub stop_of : Image → ℕ → Ended
stop_of image ticks = stop_of_run image [] ticks

-- the text of the run of an image under the items of a script up to so many ticks, and its stop
abbrev pub text_under : List (ℤ × Item) → Image → ℕ → List ℕ
text_under items image ticks = text_of (lines_of_run image items ticks)

abbrev pub stop_under : List (ℤ × Item) → Image → ℕ → Ended
stop_under items image ticks = stop_of_run image items ticks

-- how often each event word occurs in its lines, and its last line
abbrev pub summary_under : List (ℤ × Item) → Image → ℕ → List ℕ
summary_under items image ticks = summary_of (lines_of_run image items ticks)
