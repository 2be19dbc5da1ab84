-- Slots of tables of tasks.
use Rattle.std.specs.Prelude.{◌<◌}
use Rattle.ann_base.specs.declared.identities.Slot.{Slot}
use Rattle.ann_base.specs.declared.identities.TheConstants.{SLOTS}

-- a slot that a table has
abbrev pub IsSlot : Slot → Type 0
IsSlot t = t.0 < SLOTS
