-- The test of a stretch says what a stretch is.
use Rattle.blocking_laws.proofs.WindowLemmas.{stretch_told, told_stretch}
use Rattle.blocking_laws.proofs.stretches.tests_tell.Goals as goal

pub returns : goal.returns
returns c = λ lines first last rises. (stretch_told first last lines, told_stretch first last lines rises)
