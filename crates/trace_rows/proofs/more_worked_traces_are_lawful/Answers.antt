-- The tests compute on these traces.
use Rattle.std.proofs.Common.{refl}
use Rattle.trace_rows.specs.Second.{trace_16, trace_19, trace_20a, trace_20b, trace_20c, trace_adjust_1, trace_adjust_2, trace_budgets_1, trace_controlled_1}
use Rattle.trace_rows.specs.Second.{trace_policies_1, trace_representation, trace_requeue_1, trace_requeue_2, trace_requeue_3, trace_wide_1, trace_wide_2}
use Rattle.trace_rows.proofs.more_worked_traces_are_lawful.Goals as goal

pub returns-clause-trace_16 : goal.returns-clause-trace_16
unfolding trace_16
returns-clause-trace_16 c =
    let formed = (c.tests_tell.ensures.formed trace_16).0 refl in
    record { formed = formed; laws = c.tests_tell.ensures.laws trace_16 formed.rises refl }

pub returns-clause-trace_19 : goal.returns-clause-trace_19
unfolding trace_19
returns-clause-trace_19 c =
    let formed = (c.tests_tell.ensures.formed trace_19).0 refl in
    record { formed = formed; laws = c.tests_tell.ensures.laws trace_19 formed.rises refl }

pub returns-clause-trace_20a : goal.returns-clause-trace_20a
unfolding trace_20a
returns-clause-trace_20a c =
    let formed = (c.tests_tell.ensures.formed trace_20a).0 refl in
    record { formed = formed; laws = c.tests_tell.ensures.laws trace_20a formed.rises refl }

pub returns-clause-trace_20b : goal.returns-clause-trace_20b
unfolding trace_20b
returns-clause-trace_20b c =
    let formed = (c.tests_tell.ensures.formed trace_20b).0 refl in
    record { formed = formed; laws = c.tests_tell.ensures.laws trace_20b formed.rises refl }

pub returns-clause-trace_20c : goal.returns-clause-trace_20c
unfolding trace_20c
returns-clause-trace_20c c =
    let formed = (c.tests_tell.ensures.formed trace_20c).0 refl in
    record { formed = formed; laws = c.tests_tell.ensures.laws trace_20c formed.rises refl }

pub returns-clause-trace_adjust_1 : goal.returns-clause-trace_adjust_1
unfolding trace_adjust_1
returns-clause-trace_adjust_1 c =
    let formed = (c.tests_tell.ensures.formed trace_adjust_1).0 refl in
    record { formed = formed; laws = c.tests_tell.ensures.laws trace_adjust_1 formed.rises refl }

pub returns-clause-trace_adjust_2 : goal.returns-clause-trace_adjust_2
unfolding trace_adjust_2
returns-clause-trace_adjust_2 c =
    let formed = (c.tests_tell.ensures.formed trace_adjust_2).0 refl in
    record { formed = formed; laws = c.tests_tell.ensures.laws trace_adjust_2 formed.rises refl }

pub returns-clause-trace_budgets_1 : goal.returns-clause-trace_budgets_1
unfolding trace_budgets_1
returns-clause-trace_budgets_1 c =
    let formed = (c.tests_tell.ensures.formed trace_budgets_1).0 refl in
    record { formed = formed; laws = c.tests_tell.ensures.laws trace_budgets_1 formed.rises refl }

pub returns-clause-trace_controlled_1 : goal.returns-clause-trace_controlled_1
unfolding trace_controlled_1
returns-clause-trace_controlled_1 c =
    let formed = (c.tests_tell.ensures.formed trace_controlled_1).0 refl in
    record { formed = formed; laws = c.tests_tell.ensures.laws trace_controlled_1 formed.rises refl }

pub returns-clause-trace_policies_1 : goal.returns-clause-trace_policies_1
unfolding trace_policies_1
returns-clause-trace_policies_1 c =
    let formed = (c.tests_tell.ensures.formed trace_policies_1).0 refl in
    record { formed = formed; laws = c.tests_tell.ensures.laws trace_policies_1 formed.rises refl }

pub returns-clause-trace_representation : goal.returns-clause-trace_representation
unfolding trace_representation
returns-clause-trace_representation c =
    let formed = (c.tests_tell.ensures.formed trace_representation).0 refl in
    record { formed = formed; laws = c.tests_tell.ensures.laws trace_representation formed.rises refl }

pub returns-clause-trace_requeue_1 : goal.returns-clause-trace_requeue_1
unfolding trace_requeue_1
returns-clause-trace_requeue_1 c =
    let formed = (c.tests_tell.ensures.formed trace_requeue_1).0 refl in
    record { formed = formed; laws = c.tests_tell.ensures.laws trace_requeue_1 formed.rises refl }

pub returns-clause-trace_requeue_2 : goal.returns-clause-trace_requeue_2
unfolding trace_requeue_2
returns-clause-trace_requeue_2 c =
    let formed = (c.tests_tell.ensures.formed trace_requeue_2).0 refl in
    record { formed = formed; laws = c.tests_tell.ensures.laws trace_requeue_2 formed.rises refl }

pub returns-clause-trace_requeue_3 : goal.returns-clause-trace_requeue_3
unfolding trace_requeue_3
returns-clause-trace_requeue_3 c =
    let formed = (c.tests_tell.ensures.formed trace_requeue_3).0 refl in
    record { formed = formed; laws = c.tests_tell.ensures.laws trace_requeue_3 formed.rises refl }

pub returns-clause-trace_wide_1 : goal.returns-clause-trace_wide_1
unfolding trace_wide_1
returns-clause-trace_wide_1 c =
    let formed = (c.tests_tell.ensures.formed trace_wide_1).0 refl in
    record { formed = formed; laws = c.tests_tell.ensures.laws trace_wide_1 formed.rises refl }

pub returns-clause-trace_wide_2 : goal.returns-clause-trace_wide_2
unfolding trace_wide_2
returns-clause-trace_wide_2 c =
    let formed = (c.tests_tell.ensures.formed trace_wide_2).0 refl in
    record { formed = formed; laws = c.tests_tell.ensures.laws trace_wide_2 formed.rises refl }
