-- The first of the faults among what is found, from the last finding to the first.
use Rattle.std.specs.Prelude.{None, Option, Some, cond}
use Rattle.ada_legality.specs.Faults.{comes_before, same_fault}
use Rattle.ada_legality.specs.declared.faults.Fault.{Fault}
use Rattle.ada_legality.specs.declared.findings.Finding.{Finding}
use Rattle.ada_legality.specs.declared.findings.Finding.TheVariants as finding

-- the first of a fault and those behind it, of which this is the first
abbrev pub earlier : Fault → Option Fault → Fault
earlier f None = f
earlier f (Some g) = cond (same_fault f g) g (cond (comes_before f g) f g)

-- the first of the faults from a finding on
abbrev pub first_with : Finding → Option Fault → Option Fault
first_with (finding.Broken f) first = Some (earlier f first)
first_with f first = first
