use Rattle.grammar_laws.proofs.Reading.Whole.{expression_is_spelt}
use Rattle.grammar_laws.proofs.reading_laws.expression_is_spelt.Goals as goal

pub returns : goal.returns
returns c = expression_is_spelt
