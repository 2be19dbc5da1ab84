-- The value of an expression of a source's image is found before the machine has counted its turns.
use Rattle.std.proofs.Common.{ap, ◌∙◌}
use Rattle.world_laws.specs.ValueLaws.{operands_rise}
use Rattle.world_laws.proofs.Counts.ValueCounts.{values_end}
use Rattle.operand_laws.specs.OperandLaws.{ValuesOfSourcesEnd}
use Rattle.operand_laws.proofs.Whole.{operands_are_made_first}

pub values_of_sources_end : ValuesOfSourcesEnd
values_of_sources_end unit q is e more = values_end q (ap (λ p. operands_rise p) is ∙ operands_are_made_first unit) e more
