use Rattle.trace_laws.specs.Verdicts.{texts_in}
use Rattle.trace_files.proofs.LinesOn.{formed_told, only_told}
use Rattle.trace_files.proofs.theorems.lines_tell.Goals as goal

pub returns-clause-formed : goal.returns-clause-formed
returns-clause-formed c = λ bytes lines e. formed_told c.tests_tell.ensures.formed (texts_in bytes) lines e

pub returns-clause-only : goal.returns-clause-only
returns-clause-only c = λ bytes lines h. only_told c.tests_tell.ensures.formed (texts_in bytes) lines h
