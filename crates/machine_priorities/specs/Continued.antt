-- What is still to be done of a step, once a value of it is given.
use Rattle.std.specs.Prelude.{ℕ, ℤ, Option}
use Rattle.ann_base.specs.Results.{◌>>=◌}
use Rattle.ann_base.specs.declared.identities.TaskNo.{TaskNo}
use Rattle.trace_text.specs.declared.events.Who.{Who}
use Rattle.trace_text.specs.declared.events.Who.TheVariants as who
use Rattle.profile_image.specs.declared.image.Image.{Image}
use Rattle.profile_image.specs.declared.numbers.ExprNo.{ExprNo}
use Rattle.profile_image.specs.declared.numbers.StatementNo.{StatementNo}
use Rattle.profile_image.specs.declared.values.Value.{Value}
use Rattle.profile_machine.specs.declared.world.World.{World}
use Rattle.profile_machine.specs.declared.world.tasks.Task.{Task}
use Rattle.profile_machine.specs.declared.world.lines.Part.TheVariants.{Own}
use Rattle.profile_image.specs.Words.{edit_at}
use Rattle.profile_image.specs.Program.{next_of, interrupt_priority}
use Rattle.profile_machine.specs.Steps.{Step, changes, ◌▷◌}
use Rattle.profile_machine.specs.Tasks.{found_task}
use Rattle.profile_machine.specs.Frames.{goes, given}
use Rattle.profile_machine.specs.Operators.{Valued}
use Rattle.profile_machine.specs.Values.{Seen, value, moment, optional_task, whole_in, live_task, must_be_task}
use Rattle.profile_machine.specs.Statements.{sees}
use Rattle.profile_machine.specs.Priorities.{set_base_of, priority_in_range, quantum_of}
use Rattle.profile_machine.specs.Priorities.{set_or_defer_deadline, delay_with_deadline}

-- the task of which the priority is to be set
abbrev pub task_given : Seen → Option ExprNo → Valued TaskNo
task_given q task = optional_task q task >>= must_be_task

-- the priority that is to be set
abbrev pub level_in_range : Seen → ExprNo → Valued ℕ
level_in_range q e = value q e >>= λ v. priority_in_range (interrupt_priority q.program) (whole_in v)

-- the task of which the deadline is to be set
abbrev pub target_given : Seen → Option ExprNo → Valued Task
target_given q task = optional_task q task >>= λ t. live_task q.world t

-- Set_Priority of a task, once it is known which: the priority is evaluated
abbrev pub level_given : Image → Who → StatementNo → ExprNo → TaskNo → Step
level_given p name s e t =
    sees p name (λ q. given Own name (level_in_range q e)
    (λ level. set_base_of p name s level (found_task (who.Task t) q.world.tasks)))

abbrev pub quantum_set : ℕ → ℕ → World → World
quantum_set level ticks w = record w { quanta = edit_at level (λ _. ticks) w.quanta }

-- Set_Quantum of a level, once the quantum is evaluated
abbrev pub ticks_given : Image → Who → StatementNo → ℤ → ℕ → Step
ticks_given p name s n level =
    given Own name (quantum_of p level n) (λ ticks. goes name (next_of p s) ▷ changes (quantum_set level ticks))

-- Set_Quantum, once the level is evaluated
abbrev pub quantum_given : Image → Who → StatementNo → ExprNo → Value → Step
quantum_given p name s quantum level =
    sees p name (λ q. given Own name (moment q quantum) (λ n.
    given Own name (priority_in_range p.policies.last_priority (whole_in level)) (ticks_given p name s n)))

-- Set_Deadline of a task, once it is known which
abbrev pub deadline_given : Image → Who → StatementNo → ExprNo → Who → Step
deadline_given p name s e target =
    sees p name (λ q. given Own name (moment q e) (λ d. goes name (next_of p s)
    ▷ set_or_defer_deadline p name target d))

-- Delay_Until_And_Set_Deadline, once the moment is evaluated
abbrev pub offset_given : Image → Who → StatementNo → ℤ → ExprNo → Step
offset_given p name s until offset =
    sees p name (λ q. given Own name (moment q offset) (λ o. delay_with_deadline p name s until o))
