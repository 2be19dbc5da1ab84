-- Each law is followed by its test.
use Rattle.trace_text.specs.Laws.{see_levels, no_levels, is_below_ceiling, actions_after, is_exclusive, remember, is_rightly_left}
use Rattle.std.proofs.Common.{[]}
use Rattle.trace_text.proofs.LawsFollowed.{tells_lines, tells_dispatch, tells_handlers, tells_form, tells_laws}
use Rattle.trace_text.proofs.laws.tests_tell.Goals as goal

pub returns-clause-dispatch : goal.returns-clause-dispatch
returns-clause-dispatch c = tells_dispatch

pub returns-clause-ceilings : goal.returns-clause-ceilings
returns-clause-ceilings c = tells_lines see_levels is_below_ceiling no_levels

pub returns-clause-exclusion : goal.returns-clause-exclusion
returns-clause-exclusion c = tells_lines actions_after is_exclusive []

pub returns-clause-handlers : goal.returns-clause-handlers
returns-clause-handlers c = tells_handlers

pub returns-clause-leaving : goal.returns-clause-leaving
returns-clause-leaving c = tells_lines remember is_rightly_left []

pub returns-clause-formed : goal.returns-clause-formed
returns-clause-formed c = tells_form

pub returns-clause-laws : goal.returns-clause-laws
returns-clause-laws c = tells_laws
