use Rattle.trace_reading.proofs.TextsDiffer.{line-same, text-same}
use Rattle.trace_reading.proofs.laws.texts_differ.Goals as goal

pub returns-clause-lines : goal.returns-clause-lines
returns-clause-lines c = line-same

pub returns-clause-texts : goal.returns-clause-texts
returns-clause-texts c = text-same
