-- No number of a protected object is given twice: a law on lists of lines, of every run (9.4).
use Rattle.std.specs.Prelude.{ℕ, ℤ, Bool, true, IsTrue, List, [], is_none}
use Rattle.trace_text.specs.declared.events.Created.TheVariants as created
use Rattle.trace_text.specs.declared.events.Event.{Event}
use Rattle.trace_text.specs.declared.events.Event.TheVariants.{New}
use Rattle.trace_text.specs.Laws.{ceilings_after, level_of}
use Rattle.trace_text.specs.Queue.{TraceLine, AtEachLine}
use Rattle.profile_image.specs.declared.image.Image.{Image}
use Rattle.profile_image.specs.declared.script_items.Item.{Item}
use Rattle.profile_machine.specs.Run.{run_of}

-- the number of an object that is made is new
abbrev pub is_object_new : List (ℕ × ℕ) → Event → Bool
is_object_new ceilings (New (created.Object object) name level) = is_none (level_of object.0 ceilings)
is_object_new ceilings _ = true

abbrev pub ObjectsAreNewOk : List TraceLine → Type 0
ObjectsAreNewOk = AtEachLine ceilings_after [] (λ ceilings event. IsTrue (is_object_new ceilings event))

abbrev pub RunsNumberObjects : Type 0
RunsNumberObjects = (p : Image) (script : List (ℤ × Item)) (bound : ℕ) → ObjectsAreNewOk (run_of p script bound)
