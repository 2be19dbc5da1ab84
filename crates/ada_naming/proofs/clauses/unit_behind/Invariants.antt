use Rattle.std.proofs.Common.{◌≡◌, drop}
use Rattle.ada_regions.specs.Regions.{unit_behind}
use Rattle.ada_naming.proofs.clauses.unit_behind.Given as goal

-- the parts that are to come lead to what all lead to
abbrev pub invariant-loop-part : goal.invariant-loop-part
invariant-loop-part l = unit_behind l.found (drop l.part-index l.parts) ≡ unit_behind l.initial.found l.parts
