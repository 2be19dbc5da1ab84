use Rattle.trace_reading.proofs.LinesShort.{long_none}
use Rattle.trace_reading.proofs.laws.long_texts_are_bad.Goals as goal

pub returns : goal.returns
returns c = long_none
