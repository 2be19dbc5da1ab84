-- A value that is stored in a world.
use Rattle.std.specs.Prelude.{◌≡◌, Result, Ok, Err}
use Rattle.ann_base.specs.declared.exceptions.Raised.{Raised}
use Rattle.ann_base.specs.declared.faults.OrMemory.{OrMemory}
use Rattle.ann_base.specs.declared.faults.OrMemory.TheVariants as answer
use Rattle.profile_machine.specs.declared.world.World.{World}
use Rattle.profile_machine.specs.Operators.{Valued}

-- The world is the wanted one behind `Ok`; where the wanted one is an exception, the call answers it, and the world is
-- as it was.
abbrev pub StoresOnly : {X : Type 0} → Result X Raised → Valued World → World → World → Type 0
StoresOnly (Ok x) wanted before after = wanted ≡ Ok after
StoresOnly (Err e) wanted before after = (wanted ≡ Err e) × (after ≡ before)

-- the same unless memory ran out
abbrev pub Stores : {X : Type 0} → Result X (OrMemory Raised) → Valued World → World → World → Type 0
Stores (Ok x) wanted before after = wanted ≡ Ok after
Stores (Err (answer.Fault e)) wanted before after = (wanted ≡ Err e) × (after ≡ before)
Stores (Err answer.Memory) wanted before after = Unit {0}
