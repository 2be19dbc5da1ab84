use Rattle.std.proofs.Common.{◌≡◌, drop}
use Rattle.legality_units.specs.Parts.{unit_along}
use Rattle.legality_units.proofs.names.unit_along.Given as goal

-- the parts to come give behind the unit that was met what all of them give
abbrev pub invariant-loop-part : goal.invariant-loop-part
invariant-loop-part l = unit_along l.names (drop l.part-index l.parts) l.unit ≡ unit_along l.names l.parts l.fn.before
