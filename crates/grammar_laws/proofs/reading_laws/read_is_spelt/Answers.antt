use Rattle.grammar_laws.proofs.Reading.Whole.{read_is_spelt}
use Rattle.grammar_laws.proofs.reading_laws.read_is_spelt.Goals as goal

pub returns : goal.returns
returns c = read_is_spelt
