-- The test computes to true on this trace.
use Rattle.std.proofs.Common.{refl}
use Rattle.trace_rows.specs.Plant.{trace_23}
use Rattle.blocking_laws.proofs.WindowLemmas.{stretch_told}
use Rattle.blocking_laws.proofs.stretches.plant_has_a_stretch.Goals as goal

pub returns : goal.returns
unfolding trace_23
returns c = stretch_told 1000 200000 trace_23 refl
