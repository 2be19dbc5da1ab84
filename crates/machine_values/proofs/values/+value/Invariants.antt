use Rattle.std.proofs.Common.{◌+◌, ◌*◌}
use Rattle.machine_values.proofs.values.+value.Given as goal

abbrev pub decreases-value_by : goal.decreases-value_by
decreases-value_by l = 4 * l.fuel

abbrev pub decreases-both_values : goal.decreases-both_values
decreases-both_values l = 4 * l.fuel + 1

abbrev pub decreases-indexed : goal.decreases-indexed
decreases-indexed l = 4 * l.fuel + 1

abbrev pub decreases-variable_by : goal.decreases-variable_by
decreases-variable_by l = 4 * l.fuel + 2

abbrev pub decreases-named_task : goal.decreases-named_task
decreases-named_task l = 4 * l.fuel + 1

abbrev pub decreases-live_task_named : goal.decreases-live_task_named
decreases-live_task_named l = 4 * l.fuel + 2

abbrev pub decreases-form_value : goal.decreases-form_value
decreases-form_value l = 4 * l.fuel + 3
