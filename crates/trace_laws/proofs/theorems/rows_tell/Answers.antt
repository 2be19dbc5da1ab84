-- The definition computes to these verdicts.
use Rattle.std.proofs.Common.{refl}
use Rattle.trace_laws.specs.Rows.{lawful_row, wrong_runner, low_ceiling, not_finalized, new_twice}
use Rattle.trace_laws.proofs.theorems.rows_tell.Goals as goal

pub returns-clause-lawful_row : goal.returns-clause-lawful_row
unfolding lawful_row
returns-clause-lawful_row c = refl

pub returns-clause-wrong_runner : goal.returns-clause-wrong_runner
unfolding wrong_runner
returns-clause-wrong_runner c = refl

pub returns-clause-low_ceiling : goal.returns-clause-low_ceiling
unfolding low_ceiling
returns-clause-low_ceiling c = refl

pub returns-clause-not_finalized : goal.returns-clause-not_finalized
unfolding not_finalized
returns-clause-not_finalized c = refl

pub returns-clause-new_twice : goal.returns-clause-new_twice
unfolding new_twice
returns-clause-new_twice c = refl
