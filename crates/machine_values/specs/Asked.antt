-- What an expression may ask, in parts of the machine's own words.
use Rattle.std.specs.Prelude.{Option, Some, Ok, int_le, pos}
use Rattle.ann_base.specs.Results.{◌>>=◌}
use Rattle.profile_image.specs.declared.numbers.DeclNo.{DeclNo}
use Rattle.profile_image.specs.declared.numbers.ExprNo.{ExprNo}
use Rattle.profile_image.specs.declared.values.Value.{Value}
use Rattle.profile_image.specs.declared.values.Value.TheVariants.{Ticks, Truth}
use Rattle.profile_machine.specs.declared.world.tasks.Task as world
use Rattle.profile_machine.specs.Operators.{Valued}
use Rattle.profile_machine.specs.Values.{Seen, named_task, live_task, number_of_thing}
use Rattle.profile_machine.specs.Values.{event_moment, timer_of, time_left, budget_of}

-- the task of which an expression asks, which has to be there
abbrev pub live_task_named : (ExprNo → Valued Value) → Seen → Option ExprNo → Valued world.Task
live_task_named value q task = named_task value q task >>= λ t. live_task q.world t

abbrev pub time_of_event : Seen → DeclNo → Valued Value
time_of_event q d = number_of_thing q d >>= λ n. Ok (Ticks (event_moment q.world n))

abbrev pub time_remaining : Seen → DeclNo → Valued Value
time_remaining q d =
    number_of_thing q d >>= λ n. live_task q.world (Some (timer_of q.world n).task) >>= λ t.
    Ok (Ticks (time_left (timer_of q.world n).setting t.cpu_ticks))

abbrev pub budget_has_expired : Seen → DeclNo → Valued Value
budget_has_expired q d = number_of_thing q d >>= λ n. Ok (Truth (int_le (budget_of q.world n).remaining (pos 0)))

abbrev pub budget_remaining : Seen → DeclNo → Valued Value
budget_remaining q d = number_of_thing q d >>= λ n. Ok (Ticks (budget_of q.world n).remaining)
