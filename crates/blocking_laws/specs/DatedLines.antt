-- Only tasks have deadlines: a law on lists of lines, of every run of a source whose interrupts have none (D.2.6).
use Rattle.std.specs.Prelude.{ℕ, ℤ, Bool, true, IsTrue, List}
use Rattle.trace_text.specs.declared.events.Event.{Event}
use Rattle.trace_text.specs.declared.events.Event.TheVariants.{Ready}
use Rattle.trace_text.specs.Queue.{TraceLine, AtEachLine}
use Rattle.profile_image.specs.declared.image.Image.{Image}
use Rattle.profile_image.specs.declared.script_items.Item.{Item}
use Rattle.profile_machine.specs.Run.{run_of}
use Rattle.ceiling_laws.specs.CeilingLaws.{edf_is_below_interrupts}
use Rattle.blocking_laws.specs.MovingLaws.{is_dated_rightly}

-- the agent is placed without a deadline
abbrev pub places_dated : Event → Bool
places_dated (Ready who level end deadline) = is_dated_rightly who deadline
places_dated _ = true

-- the line alone decides
abbrev pub shows_nothing : Unit {0} → Event → Unit {0}
shows_nothing s event = tt

abbrev pub DatedLinesOk : List TraceLine → Type 0
DatedLinesOk = AtEachLine shows_nothing tt (λ s event. IsTrue (places_dated event))

abbrev pub RunsDateRightly : Type 0
RunsDateRightly = (p : Image) → IsTrue (edf_is_below_interrupts p) → (script : List (ℤ × Item)) (bound : ℕ)
    → DatedLinesOk (run_of p script bound)
