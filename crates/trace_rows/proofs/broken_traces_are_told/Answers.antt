-- The tests compute to false on these traces.
use Rattle.std.proofs.Common.{◌≡◌, false, true, refl}
use Rattle.trace_rows.specs.Broken.{wrong_runner, ceiling_too_low, final_left_out, new_twice}
use Rattle.trace_rows.proofs.broken_traces_are_told.Goals as goal

no : false ≡ true → ⊥
no e = cc

pub returns-clause-dispatch : goal.returns-clause-dispatch
unfolding wrong_runner
returns-clause-dispatch c h = no ((c.tests_tell.ensures.dispatch wrong_runner ((c.tests_tell.ensures.formed wrong_runner).0 refl).rises).1 h)

pub returns-clause-ceilings : goal.returns-clause-ceilings
unfolding ceiling_too_low
returns-clause-ceilings c h = no ((c.tests_tell.ensures.ceilings ceiling_too_low).1 h)

pub returns-clause-leaving : goal.returns-clause-leaving
unfolding final_left_out
returns-clause-leaving c h = no ((c.tests_tell.ensures.leaving final_left_out).1 h)

pub returns-clause-formed : goal.returns-clause-formed
unfolding new_twice
returns-clause-formed c h = no ((c.tests_tell.ensures.formed new_twice).1 h)
