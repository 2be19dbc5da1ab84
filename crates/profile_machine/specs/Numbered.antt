-- The numbers by which tasks are found.
use Rattle.std.specs.Prelude.{ℕ, Option, Some, None}
use Rattle.trace_text.specs.declared.events.Who.{Who}
use Rattle.trace_text.specs.declared.events.Who.TheVariants.{Task, Agent}

-- the number by which a task is found; the agent has none
abbrev pub number_in_roster : Who → Option ℕ
number_in_roster (Task t) = Some t.0
number_in_roster Agent = None
