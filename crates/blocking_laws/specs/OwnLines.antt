-- Who is placed before others, and who enters an object or finds one held: laws on lists of lines, of every run (D.2.1,
-- D.2.3, 9.5.1).
use Rattle.std.specs.Prelude.{ℕ, ℤ, Bool, true, IsTrue, List, [], Option, Some, None}
use Rattle.trace_text.specs.declared.events.Entry.{Entry}
use Rattle.trace_text.specs.declared.events.Event.{Event}
use Rattle.trace_text.specs.declared.events.Event.TheVariants.{Ready, Enter, Held}
use Rattle.trace_text.specs.declared.events.QueueEnd.TheVariants.{Head}
use Rattle.trace_text.specs.declared.events.Who.{Who}
use Rattle.trace_text.specs.Queue.{TraceLine, AtEachLine, head_of, queue_after, runner_after, somebody_eq, who_of}
use Rattle.profile_image.specs.declared.image.Image.{Image}
use Rattle.profile_image.specs.declared.script_items.Item.{Item}
use Rattle.profile_machine.specs.Run.{run_of}

-- only who has run up to now is placed before others, enters an object and finds one held
abbrev pub is_own : Option Who → Event → Bool
is_own runner (Ready who level Head deadline) = somebody_eq runner (Some who)
is_own runner (Enter who object mode) = somebody_eq runner (Some who)
is_own runner (Held who object mode) = somebody_eq runner (Some who)
is_own runner _ = true

abbrev pub OwnLinesOk : List TraceLine → Type 0
OwnLinesOk = AtEachLine runner_after None (λ runner event. IsTrue (is_own runner event))

-- who enters an object, or finds one held, stands first in the ready queues
abbrev pub is_first_entry : List Entry → Event → Bool
is_first_entry queue (Enter who object mode) = somebody_eq (who_of (head_of queue)) (Some who)
is_first_entry queue (Held who object mode) = somebody_eq (who_of (head_of queue)) (Some who)
is_first_entry queue _ = true

abbrev pub FirstEntersOk : List TraceLine → Type 0
FirstEntersOk = AtEachLine queue_after [] (λ queue event. IsTrue (is_first_entry queue event))

abbrev pub RunsEnterFirst : Type 0
RunsEnterFirst = (p : Image) (script : List (ℤ × Item)) (bound : ℕ) → FirstEntersOk (run_of p script bound)

abbrev pub RunsTellOwnLines : Type 0
RunsTellOwnLines = (p : Image) (script : List (ℤ × Item)) (bound : ℕ) → OwnLinesOk (run_of p script bound)
