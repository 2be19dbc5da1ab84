-- The tests compute on these traces.
use Rattle.std.proofs.Common.{refl}
use Rattle.trace_rows.specs.First.{trace_01, trace_03, trace_04, trace_05a, trace_05b, trace_05c, trace_06, trace_08a, trace_08b, trace_09a, trace_09b}
use Rattle.trace_rows.specs.First.{trace_10, trace_11, trace_12, trace_13, trace_14a, trace_14b, trace_15a, trace_15b, trace_15c, trace_15d}
use Rattle.trace_rows.proofs.worked_traces_are_lawful.Goals as goal

pub returns-clause-trace_01 : goal.returns-clause-trace_01
unfolding trace_01
returns-clause-trace_01 c =
    let formed = (c.tests_tell.ensures.formed trace_01).0 refl in
    record { formed = formed; laws = c.tests_tell.ensures.laws trace_01 formed.rises refl }

pub returns-clause-trace_03 : goal.returns-clause-trace_03
unfolding trace_03
returns-clause-trace_03 c =
    let formed = (c.tests_tell.ensures.formed trace_03).0 refl in
    record { formed = formed; laws = c.tests_tell.ensures.laws trace_03 formed.rises refl }

pub returns-clause-trace_04 : goal.returns-clause-trace_04
unfolding trace_04
returns-clause-trace_04 c =
    let formed = (c.tests_tell.ensures.formed trace_04).0 refl in
    record { formed = formed; laws = c.tests_tell.ensures.laws trace_04 formed.rises refl }

pub returns-clause-trace_05a : goal.returns-clause-trace_05a
unfolding trace_05a
returns-clause-trace_05a c =
    let formed = (c.tests_tell.ensures.formed trace_05a).0 refl in
    record { formed = formed; laws = c.tests_tell.ensures.laws trace_05a formed.rises refl }

pub returns-clause-trace_05b : goal.returns-clause-trace_05b
unfolding trace_05b
returns-clause-trace_05b c =
    let formed = (c.tests_tell.ensures.formed trace_05b).0 refl in
    record { formed = formed; laws = c.tests_tell.ensures.laws trace_05b formed.rises refl }

pub returns-clause-trace_05c : goal.returns-clause-trace_05c
unfolding trace_05c
returns-clause-trace_05c c =
    let formed = (c.tests_tell.ensures.formed trace_05c).0 refl in
    record { formed = formed; laws = c.tests_tell.ensures.laws trace_05c formed.rises refl }

pub returns-clause-trace_06 : goal.returns-clause-trace_06
unfolding trace_06
returns-clause-trace_06 c =
    let formed = (c.tests_tell.ensures.formed trace_06).0 refl in
    record { formed = formed; laws = c.tests_tell.ensures.laws trace_06 formed.rises refl }

pub returns-clause-trace_08a : goal.returns-clause-trace_08a
unfolding trace_08a
returns-clause-trace_08a c =
    let formed = (c.tests_tell.ensures.formed trace_08a).0 refl in
    record { formed = formed; laws = c.tests_tell.ensures.laws trace_08a formed.rises refl }

pub returns-clause-trace_08b : goal.returns-clause-trace_08b
unfolding trace_08b
returns-clause-trace_08b c =
    let formed = (c.tests_tell.ensures.formed trace_08b).0 refl in
    record { formed = formed; laws = c.tests_tell.ensures.laws trace_08b formed.rises refl }

pub returns-clause-trace_09a : goal.returns-clause-trace_09a
unfolding trace_09a
returns-clause-trace_09a c =
    let formed = (c.tests_tell.ensures.formed trace_09a).0 refl in
    record { formed = formed; laws = c.tests_tell.ensures.laws trace_09a formed.rises refl }

pub returns-clause-trace_09b : goal.returns-clause-trace_09b
unfolding trace_09b
returns-clause-trace_09b c =
    let formed = (c.tests_tell.ensures.formed trace_09b).0 refl in
    record { formed = formed; laws = c.tests_tell.ensures.laws trace_09b formed.rises refl }

pub returns-clause-trace_10 : goal.returns-clause-trace_10
unfolding trace_10
returns-clause-trace_10 c =
    let formed = (c.tests_tell.ensures.formed trace_10).0 refl in
    record { formed = formed; laws = c.tests_tell.ensures.laws trace_10 formed.rises refl }

pub returns-clause-trace_11 : goal.returns-clause-trace_11
unfolding trace_11
returns-clause-trace_11 c =
    let formed = (c.tests_tell.ensures.formed trace_11).0 refl in
    record { formed = formed; laws = c.tests_tell.ensures.laws trace_11 formed.rises refl }

pub returns-clause-trace_12 : goal.returns-clause-trace_12
unfolding trace_12
returns-clause-trace_12 c =
    let formed = (c.tests_tell.ensures.formed trace_12).0 refl in
    record { formed = formed; laws = c.tests_tell.ensures.laws trace_12 formed.rises refl }

pub returns-clause-trace_13 : goal.returns-clause-trace_13
unfolding trace_13
returns-clause-trace_13 c =
    let formed = (c.tests_tell.ensures.formed trace_13).0 refl in
    record { formed = formed; laws = c.tests_tell.ensures.laws trace_13 formed.rises refl }

pub returns-clause-trace_14a : goal.returns-clause-trace_14a
unfolding trace_14a
returns-clause-trace_14a c =
    let formed = (c.tests_tell.ensures.formed trace_14a).0 refl in
    record { formed = formed; laws = c.tests_tell.ensures.laws trace_14a formed.rises refl }

pub returns-clause-trace_14b : goal.returns-clause-trace_14b
unfolding trace_14b
returns-clause-trace_14b c =
    let formed = (c.tests_tell.ensures.formed trace_14b).0 refl in
    record { formed = formed; laws = c.tests_tell.ensures.laws trace_14b formed.rises refl }

pub returns-clause-trace_15a : goal.returns-clause-trace_15a
unfolding trace_15a
returns-clause-trace_15a c =
    let formed = (c.tests_tell.ensures.formed trace_15a).0 refl in
    record { formed = formed; laws = c.tests_tell.ensures.laws trace_15a formed.rises refl }

pub returns-clause-trace_15b : goal.returns-clause-trace_15b
unfolding trace_15b
returns-clause-trace_15b c =
    let formed = (c.tests_tell.ensures.formed trace_15b).0 refl in
    record { formed = formed; laws = c.tests_tell.ensures.laws trace_15b formed.rises refl }

pub returns-clause-trace_15c : goal.returns-clause-trace_15c
unfolding trace_15c
returns-clause-trace_15c c =
    let formed = (c.tests_tell.ensures.formed trace_15c).0 refl in
    record { formed = formed; laws = c.tests_tell.ensures.laws trace_15c formed.rises refl }

pub returns-clause-trace_15d : goal.returns-clause-trace_15d
unfolding trace_15d
returns-clause-trace_15d c =
    let formed = (c.tests_tell.ensures.formed trace_15d).0 refl in
    record { formed = formed; laws = c.tests_tell.ensures.laws trace_15d formed.rises refl }
