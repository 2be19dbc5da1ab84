-- Every world that a run reaches is well formed: all that is known of its lists, its tasks, its scopes, its protected
-- objects, its calls, its appointments and its marks.
use Rattle.std.specs.Prelude.{IsTrue, ℕ, ℤ, List}
use Rattle.profile_image.specs.declared.image.Image.{Image}
use Rattle.profile_image.specs.declared.script_items.Item.{Item}
use Rattle.profile_machine.specs.declared.world.World.{World}
use Rattle.profile_machine.specs.WellFormed.{is_well_formed, run_is_well_formed}
use Rattle.machine_laws.specs.Reached.{Reached}
use Rattle.world_laws.specs.SequenceWorlds.{sequences_fit}

-- each world of a run is well formed, before each of its instants and behind it
abbrev pub ReachedWorldsAreWellFormed : Type 0
ReachedWorldsAreWellFormed = (p : Image) → IsTrue (sequences_fit p)
    → (script : List (ℤ × Item)) (bound : ℕ) (w : World) → Reached p script bound w → IsTrue (is_well_formed p w)

-- so the test that computes a run and asks each of its worlds, and that none is beyond the bound, is true of each run
abbrev pub RunsAreWellFormed : Type 0
RunsAreWellFormed = (p : Image) → IsTrue (sequences_fit p) → (script : List (ℤ × Item)) (bound : ℕ)
    → IsTrue (run_is_well_formed p script bound)
