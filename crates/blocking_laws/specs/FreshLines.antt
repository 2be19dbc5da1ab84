-- Who enters an object has in that tick neither been placed, nor taken out, nor entered or left one: of every run
-- (D.2.1, 9.5.1).
use Rattle.std.specs.Prelude.{ℕ, ℤ, IsTrue, List}
use Rattle.profile_image.specs.declared.image.Image.{Image}
use Rattle.profile_image.specs.declared.script_items.Item.{Item}
use Rattle.profile_machine.specs.Run.{run_of}
use Rattle.blocking_laws.specs.MovingLaws.{enters_first}

abbrev pub RunsEnterFresh : Type 0
RunsEnterFresh = (p : Image) (script : List (ℤ × Item)) (bound : ℕ) → IsTrue (enters_first (run_of p script bound))
