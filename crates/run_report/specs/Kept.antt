-- What is kept of a list of lines for its report: the facts of the list, and a tally for each task, and no lines.
use Rattle.std.specs.Prelude.{◌≡◌, nat_le, ℕ, ◌+◌, ◌-◌, ◌==◌, Bool, true, false, not, ◌&&◌, max}
use Rattle.std.specs.Prelude.{if◌then◌else◌, List, [], ◌∷◌, ◌++◌, Option, Some, None, map, is_some, unwrap_or}
use Rattle.ann_base.specs.declared.identities.TaskNo.{TaskNo}
use Rattle.trace_text.specs.declared.events.Who.{Who}
use Rattle.trace_text.specs.declared.events.Who.TheVariants as subject
use Rattle.trace_text.specs.declared.events.QueueEnd.TheVariants.{Head, Tail}
use Rattle.trace_text.specs.declared.events.Created.TheVariants as created
use Rattle.trace_text.specs.declared.events.Event.{Event}
use Rattle.trace_text.specs.declared.events.Event.TheVariants.{New, Ready, Block, Base, Done}
use Rattle.trace_text.specs.Queue.{TraceLine, who_eq, somebody_eq}
use Rattle.trace_lines.specs.Seen.{Seen, nothing_kept, see_line}
use Rattle.run_report.specs.declared.accounts.Account.{Account}
use Rattle.run_report.specs.declared.tallies.TheConstants.{ROOM}
use Rattle.run_report.specs.declared.tallies.Tally.{Tally}
use Rattle.run_report.specs.declared.tallies.Passing.{Passing}
use Rattle.run_report.specs.declared.tallies.Move.{Move}
use Rattle.run_report.specs.declared.tallies.Move.TheVariants.{Enters, Leaves, Stays}
use Rattle.run_report.specs.declared.report.Kept.{Kept}
use Rattle.run_report.specs.Accounts.{is_lower, is_tick, runner_base, chooses_another}

abbrev pub fresh : Tally
fresh = record {
  jobs = 0;
  worst = 0;
  sum = 0;
  run = 0;
  preempted = 0;
  lower = 0;
  longest = 0;
  base = None;
  since = None;
  tail = None;
  streak = 0;
}

-- so many ticks pass before a line, in which this subject runs with this base priority
abbrev pub passing_in : Seen → ℕ → Passing
passing_in seen tick = record {
  elapsed = tick - seen.tick;
  runner = seen.runner;
  base = runner_base seen.runner seen.bases;
}

-- these ticks, where it is so
abbrev pub ticks_if : Bool → ℕ → ℕ
ticks_if true ticks = ticks
ticks_if false ticks = 0

-- whether it is ready while a task of lower base priority runs
abbrev pub is_waiting : Passing → Tally → Bool
is_waiting passing tally = is_some tally.since && is_lower passing.base tally.base

-- for how many ticks directly before the line it waits so
abbrev pub streak_after : ℕ → Bool → ℕ → ℕ
streak_after elapsed waits streak = if elapsed == 0 then streak else (if waits then streak + elapsed else 0)

abbrev pub leaves_if : Bool → Move
leaves_if holds = if holds then Leaves else Stays

abbrev pub level_if : Bool → ℕ → Option ℕ → Option ℕ
level_if holds level base = if holds then Some level else base

-- whether the line places the task in the queue or takes it out
abbrev pub move_of : TaskNo → Event → Move
move_of task (Ready who level end deadline) = if who_eq who (subject.Task task) then Enters end else Stays
move_of task (Block who why) = leaves_if (who_eq who (subject.Task task))
move_of task (Done other) = leaves_if (other.0 == task.0)
move_of task _ = Stays

abbrev pub since_after : Move → ℕ → Option ℕ → Option ℕ
since_after (Enters end) tick since = Some (unwrap_or since tick)
since_after Leaves tick since = None
since_after Stays tick since = since

abbrev pub tail_at : Move → ℕ → Option ℕ → Option ℕ
tail_at (Enters Head) tick tail = tail
tail_at (Enters Tail) tick tail = Some tick
tail_at Leaves tick tail = tail
tail_at Stays tick tail = tail

-- the response of the job that ends, if one does
abbrev pub response_at : Move → ℕ → Option ℕ → Option ℕ
response_at (Enters end) tick since = None
response_at Leaves tick None = None
response_at Leaves tick (Some since) = Some (tick - since)
response_at Stays tick since = None

-- another subject is chosen, and the task runs, is ready, and was not placed behind all of its level at this tick
abbrev pub is_put_off : TaskNo → Option Who → ℕ → Event → Tally → Bool
is_put_off task runner tick event tally =
    chooses_another task event && somebody_eq runner (Some (subject.Task task)) && is_some tally.since
    && not (is_tick tick tally.tail)

abbrev pub base_after : TaskNo → Option ℕ → Event → Option ℕ
base_after task base (New (created.Task other) name level) = level_if (task.0 == other.0) level base
base_after task base (Base other level) = level_if (task.0 == other.0) level base
base_after task base _ = base

abbrev pub tally_by : TaskNo → Passing → ℕ → Event → Tally → Option ℕ → ℕ → Tally
tally_by task passing tick event tally response streak = record {
  jobs = tally.jobs + ticks_if (is_some response) 1;
  worst = max tally.worst (unwrap_or response 0);
  sum = tally.sum + unwrap_or response 0;
  run = tally.run + ticks_if (somebody_eq passing.runner (Some (subject.Task task))) passing.elapsed;
  preempted = tally.preempted + ticks_if (is_put_off task passing.runner tick event tally) 1;
  lower = tally.lower + ticks_if (is_waiting passing tally) passing.elapsed;
  longest = max tally.longest streak;
  base = base_after task tally.base event;
  since = since_after (move_of task event) tick tally.since;
  tail = tail_at (move_of task event) tick tally.tail;
  streak = streak;
}

-- one line more
abbrev pub tally_after : TaskNo → Passing → ℕ → Event → Tally → Tally
tally_after task passing tick event tally =
    tally_by task passing tick event tally (response_at (move_of task event) tick tally.since)
    (streak_after passing.elapsed (is_waiting passing tally) tally.streak)

-- no figure passes 64 bits with one line more
abbrev pub has_room : Tally → Bool
has_room tally = nat_le tally.jobs ROOM && nat_le tally.sum ROOM && nat_le tally.run ROOM
    && nat_le tally.preempted ROOM && nat_le tally.lower ROOM && nat_le tally.streak ROOM

-- ---- all of it

abbrev pub kept_after : Passing → ℕ → Event → Kept → Kept
kept_after passing tick event kept = record kept { tally = tally_after kept.task passing tick event kept.tally }

abbrev pub newly_kept : Event → List Kept
newly_kept (New (created.Task task) name level) = record {
  task = task;
  name = name;
  tally = record fresh { base = Some level };
} ∷ []
newly_kept _ = []

pub record Reported : Type 0 where
  pub seen : Seen
  pub kept : List Kept
  pub agent_run : ℕ
  pub idle : ℕ

abbrev pub nothing_reported : Reported
nothing_reported = record { seen = nothing_kept; kept = []; agent_run = 0; idle = 0 }

-- one line more
abbrev pub report_line : Reported → TraceLine → Reported
report_line reported line = record {
  seen = see_line reported.seen line;
  kept = map (kept_after (passing_in reported.seen line.0) line.0 line.1) reported.kept ++ newly_kept line.1;
  agent_run = reported.agent_run
      + ticks_if (somebody_eq reported.seen.runner (Some subject.Agent)) (line.0 - reported.seen.tick);
  idle = reported.idle + ticks_if (somebody_eq reported.seen.runner None) (line.0 - reported.seen.tick);
}

abbrev pub reported_after : Reported → List TraceLine → Reported
reported_after reported [] = reported
reported_after reported (line ∷ lines) = reported_after (report_line reported line) lines

abbrev pub reported_of : List TraceLine → Reported
reported_of = reported_after nothing_reported

-- what is kept stands for a list of lines
abbrev pub StandsFor : Reported → List TraceLine → Type 0
StandsFor reported lines = reported ≡ reported_of lines

abbrev pub account_in : Kept → Account
account_in kept = record {
  task = kept.task;
  name = kept.name;
  jobs = kept.tally.jobs;
  worst = kept.tally.worst;
  sum = kept.tally.sum;
  run = kept.tally.run;
  preempted = kept.tally.preempted;
  lower = kept.tally.lower;
  longest = kept.tally.longest;
}

abbrev pub accounts_in : Reported → List Account
accounts_in reported = map account_in reported.kept
