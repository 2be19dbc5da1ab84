-- What a list of lines shows of each task: its jobs, its running, its preemptions, and its waiting for tasks of lower
-- base priority. Nothing here knows how the figures are kept.
use Rattle.std.specs.Prelude.{ℕ, zero, suc, ◌+◌, ◌-◌, ◌==◌, Bool, true, false, not, ◌&&◌, nat_lt, max, if◌then◌else◌}
use Rattle.std.specs.Prelude.{List, [], ◌∷◌, ◌++◌, Option, Some, None, length, map, is_some, flat_map}
use Rattle.ann_base.specs.declared.identities.TaskNo.{TaskNo}
use Rattle.trace_text.specs.declared.events.Who.{Who}
use Rattle.trace_text.specs.declared.events.Who.TheVariants as subject
use Rattle.trace_text.specs.declared.events.Entry.{Entry}
use Rattle.trace_text.specs.declared.events.QueueEnd.TheVariants.{Tail}
use Rattle.trace_text.specs.declared.events.Created.TheVariants as created
use Rattle.trace_text.specs.declared.events.Event.{Event}
use Rattle.trace_text.specs.declared.events.Event.TheVariants.{New, Ready, Run}
use Rattle.trace_text.specs.Queue.{TraceLine, who_eq, somebody_eq, entry_of, queue_after, up_to, last_from}
use Rattle.trace_text.specs.Laws.{level_of}
use Rattle.trace_lines.specs.Seen.{Seen, seen_of}
use Rattle.run_report.specs.declared.accounts.Account.{Account}

-- ---- ticks: for how many of the first n a test holds, for how many directly before n, and the most that held in
-- unbroken order

abbrev pub count_below : ℕ → (ℕ → Bool) → ℕ
count_below zero test = 0
count_below (suc n) test = count_below n test + (if test n then 1 else 0)

abbrev pub streak_below : ℕ → (ℕ → Bool) → ℕ
streak_below zero test = 0
streak_below (suc n) test = if test n then streak_below n test + 1 else 0

abbrev pub longest_below : ℕ → (ℕ → Bool) → ℕ
longest_below zero test = 0
longest_below (suc n) test = max (longest_below n test) (streak_below (suc n) test)

-- at tick n is behind all lines up to tick n
abbrev pub at_tick : List TraceLine → ℕ → Seen
at_tick lines tick = seen_of (up_to tick lines)

-- ---- running

abbrev pub is_runner : Who → Seen → Bool
is_runner who seen = somebody_eq seen.runner (Some who)

abbrev pub is_idle : Seen → Bool
is_idle seen = somebody_eq seen.runner None

-- the ticks in which it is the runner
abbrev pub run_of : Who → List TraceLine → ℕ
run_of who lines = count_below (last_from 0 lines) (λ tick. is_runner who (at_tick lines tick))

-- the ticks without a runner
abbrev pub idle_of : List TraceLine → ℕ
idle_of lines = count_below (last_from 0 lines) (λ tick. is_idle (at_tick lines tick))

-- ---- waiting for tasks of lower base priority

abbrev pub is_in : TaskNo → List Entry → Bool
is_in task queue = is_some (entry_of (subject.Task task) queue)

abbrev pub is_lower : Option ℕ → Option ℕ → Bool
is_lower None own = false
is_lower (Some other) None = false
is_lower (Some other) (Some own) = nat_lt other own

-- the last base priority of who runs; the agent has none
abbrev pub runner_base : Option Who → List (ℕ × ℕ) → Option ℕ
runner_base None bases = None
runner_base (Some (subject.Task task)) bases = level_of task.0 bases
runner_base (Some subject.Agent) bases = None

-- it is ready, and a task of lower base priority runs
abbrev pub is_lowered : TaskNo → Seen → Bool
is_lowered task seen = is_in task seen.queue
    && is_lower (runner_base seen.runner seen.bases) (level_of task.0 seen.bases)

abbrev pub lower_of : TaskNo → List TraceLine → ℕ
lower_of task lines = count_below (last_from 0 lines) (λ tick. is_lowered task (at_tick lines tick))

abbrev pub longest_of : TaskNo → List TraceLine → ℕ
longest_of task lines = longest_below (last_from 0 lines) (λ tick. is_lowered task (at_tick lines tick))

-- ---- jobs: from a line by which the task enters the queue to the next line by which it leaves it

-- since which tick it is in the queue, by whether it was in it before the line and is behind it
abbrev pub since_by : Bool → Bool → ℕ → Option ℕ → Option ℕ
since_by true true tick since = since
since_by true false tick since = None
since_by false true tick since = Some tick
since_by false false tick since = since

-- the response of the job that the line ends
abbrev pub response_by : Bool → Bool → ℕ → Option ℕ → List ℕ
response_by true true tick since = []
response_by true false tick None = []
response_by true false tick (Some begun) = (tick - begun) ∷ []
response_by false after tick since = []

abbrev pub responses_from : TaskNo → List Entry → Option ℕ → List TraceLine → List ℕ
responses_from task queue since [] = []
responses_from task queue since (line ∷ lines) =
    response_by (is_in task queue) (is_in task (queue_after queue line.1)) line.0 since
    ++ responses_from task (queue_after queue line.1)
    (since_by (is_in task queue) (is_in task (queue_after queue line.1)) line.0 since) lines

-- the responses of the jobs that ended, in order
abbrev pub responses_of : TaskNo → List TraceLine → List ℕ
responses_of task = responses_from task [] None

abbrev pub greatest : List ℕ → ℕ
greatest [] = 0
greatest (n ∷ ns) = max n (greatest ns)

abbrev pub total : List ℕ → ℕ
total [] = 0
total (n ∷ ns) = n + total ns

-- ---- preemptions: another subject is chosen while the task runs and is ready, and was not placed behind all of its
-- level at that tick

-- the tick of its last `ready` line with `tail`
abbrev pub tail_after : TaskNo → Option ℕ → TraceLine → Option ℕ
tail_after task tail (tick, Ready who level Tail deadline) = if who_eq who (subject.Task task) then Some tick else tail
tail_after task tail (tick, event) = tail

abbrev pub tail_from : TaskNo → Option ℕ → List TraceLine → Option ℕ
tail_from task tail [] = tail
tail_from task tail (line ∷ lines) = tail_from task (tail_after task tail line) lines

abbrev pub is_tick : ℕ → Option ℕ → Bool
is_tick tick None = false
is_tick tick (Some other) = tick == other

abbrev pub chooses_another : TaskNo → Event → Bool
chooses_another task (Run who) = not (who_eq who (subject.Task task))
chooses_another task _ = false

abbrev pub is_preempted : TaskNo → List TraceLine → TraceLine → Bool
is_preempted task before line =
    chooses_another task line.1 && is_runner (subject.Task task) (seen_of before)
    && is_in task (seen_of before).queue && not (is_tick line.0 (tail_from task None before))

abbrev pub preemptions_from : TaskNo → List TraceLine → List TraceLine → ℕ
preemptions_from task before [] = 0
preemptions_from task before (line ∷ lines) = (if is_preempted task before line then 1 else 0)
    + preemptions_from task (before ++ line ∷ []) lines

-- ---- the accounts

-- the tasks, in the order of their `new` lines, with their names
abbrev pub created_by : Event → List (TaskNo × List ℕ)
created_by (New (created.Task task) name level) = (task, name) ∷ []
created_by _ = []

abbrev pub created_in : List TraceLine → List (TaskNo × List ℕ)
created_in lines = flat_map (λ line. created_by line.1) lines

abbrev pub account_of : List TraceLine → TaskNo × List ℕ → Account
account_of lines named = record {
  task = named.0;
  name = named.1;
  jobs = length (responses_of named.0 lines);
  worst = greatest (responses_of named.0 lines);
  sum = total (responses_of named.0 lines);
  run = run_of (subject.Task named.0) lines;
  preempted = preemptions_from named.0 [] lines;
  lower = lower_of named.0 lines;
  longest = longest_of named.0 lines;
}

abbrev pub accounts_of : List TraceLine → List Account
accounts_of lines = map (account_of lines) (created_in lines)
