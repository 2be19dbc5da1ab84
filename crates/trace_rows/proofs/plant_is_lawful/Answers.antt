-- The tests compute on these traces.
use Rattle.std.proofs.Common.{refl}
use Rattle.trace_rows.specs.Plant.{trace_23}
use Rattle.trace_rows.proofs.plant_is_lawful.Goals as goal

pub returns : goal.returns
unfolding trace_23
returns c =
    let formed = (c.tests_tell.ensures.formed trace_23).0 refl in
    record { formed = formed; laws = c.tests_tell.ensures.laws trace_23 formed.rises refl }
