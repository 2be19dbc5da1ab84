use Rattle.std.proofs.Common.{◌≡◌, drop}
use Rattle.ada_regions.specs.Words.{last_from}
use Rattle.ada_entities.proofs.denotations.last_part.Given as goal

-- the last of the parts that are to come is that of all
abbrev pub invariant-loop-part : goal.invariant-loop-part
invariant-loop-part l = last_from l.last (drop l.part-index l.name.parts.others) ≡ last_from l.name.parts.first l.name.parts.others
