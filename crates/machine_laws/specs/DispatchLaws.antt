-- The law of dispatching: at each tick of a run the runner is the one in the queue of the highest level, then of the
-- earliest deadline, then of the smallest place, and nobody exactly where the queue is empty (D.2.1, D.2.3, D.2.6). The
-- law is that of traces, and knows lines alone.
use Rattle.std.specs.Prelude.{ℕ, ℤ, List}
use Rattle.trace_text.specs.Laws.{DispatchOk}
use Rattle.profile_image.specs.declared.image.Image.{Image}
use Rattle.profile_image.specs.declared.script_items.Item.{Item}
use Rattle.profile_machine.specs.Run.{run_of}

abbrev pub RunsDispatch : Type 0
RunsDispatch = (p : Image) (script : List (ℤ × Item)) (bound : ℕ) → DispatchOk (run_of p script bound)
