-- Who blocks has no protected action open: a law on lists of lines, of every run (9.5.1, D.3).
use Rattle.std.specs.Prelude.{ℕ, ℤ, Bool, true, not, IsTrue, List, []}
use Rattle.trace_text.specs.declared.events.Action.{Action}
use Rattle.trace_text.specs.declared.events.Event.{Event}
use Rattle.trace_text.specs.declared.events.Event.TheVariants.{Block}
use Rattle.trace_text.specs.Laws.{actions_after}
use Rattle.trace_text.specs.Queue.{TraceLine, AtEachLine}
use Rattle.profile_image.specs.declared.image.Image.{Image}
use Rattle.profile_image.specs.declared.script_items.Item.{Item}
use Rattle.profile_machine.specs.Run.{run_of}
use Rattle.blocking_laws.specs.Stretches.{has_open}

-- who blocks is inside no object
abbrev pub blocks_free : List Action → Event → Bool
blocks_free actions (Block who why) = not (has_open who actions)
blocks_free actions _ = true

abbrev pub FreeBlocksOk : List TraceLine → Type 0
FreeBlocksOk = AtEachLine actions_after [] (λ actions event. IsTrue (blocks_free actions event))

abbrev pub RunsBlockFree : Type 0
RunsBlockFree = (p : Image) (script : List (ℤ × Item)) (bound : ℕ) → FreeBlocksOk (run_of p script bound)
