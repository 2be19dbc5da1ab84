-- Policies of sources that break no rule of legality (D.2.2, D.2.6; own).
use Rattle.std.specs.Prelude.{◌≡◌, None, IsTrue}
use Rattle.ada_tree.specs.declared.units.Unit.{Unit as Tree}
use Rattle.ada_legality.specs.Faults.{first_fault_of}
use Rattle.ada_image.specs.ImageOfUnits.{program_of}
use Rattle.ceiling_laws.specs.CeilingLaws.{edf_is_below_interrupts}

-- in the image of such a source no range that is dispatched by deadlines reaches the priority of interrupts
abbrev pub DeadlinesAreBelowInterrupts : Type 0
DeadlinesAreBelowInterrupts = (unit : Tree) → first_fault_of unit ≡ None
    → IsTrue (edf_is_below_interrupts (program_of unit))
