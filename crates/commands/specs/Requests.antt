-- What a command may ask for, with the names of its files as bytes.
use Rattle.std.specs.Prelude.{◌<◌, ◌≤◌, ℕ, List}
use Rattle.commands.specs.declared.requests.Work.{Work}
use Rattle.commands.specs.declared.requests.Work.TheVariants as work
use Rattle.commands.specs.declared.requests.TableTest.{TableTest}
use Rattle.commands.specs.declared.requests.TraceWork.{TraceWork}
use Rattle.commands.specs.declared.requests.Request.{Request}
use Rattle.commands.specs.declared.requests.Request.TheVariants as request
use Rattle.load_runs.specs.declared.source.TheConstants.{MOST_TASKS}
use Rattle.commands.specs.declared.requests.TheConstants.{MOST_TICKS}

pub data Asked : Type 0 where
  SourceAsked : List ℕ → Work → Asked
  ScriptAsked : List ℕ → List ℕ → ℕ → Asked
  LoadAsked : ℕ → Asked
  TableAsked : List ℕ → TableTest → Asked
  TraceAsked : List ℕ → TraceWork → Asked

-- a request of the code
abbrev pub seen : Request → Asked
seen (request.Source source work) = SourceAsked source.now work
seen (request.Script source script ticks) = ScriptAsked source.now script.now ticks
seen (request.Load tasks) = LoadAsked tasks
seen (request.Table table test) = TableAsked table.now test
seen (request.Trace trace work) = TraceAsked trace.now work

-- a run has from 1 to MOST_TICKS ticks
abbrev pub IsTicks : ℕ → Type 0
IsTicks ticks = (0 < ticks) × (ticks ≤ MOST_TICKS)

abbrev pub IsWork : Work → Type 0
IsWork (work.Run ticks) = IsTicks ticks
IsWork (work.Summary ticks) = IsTicks ticks
IsWork work.Accept = Unit {0}

-- a load has from 1 to MOST_TASKS tasks
abbrev pub IsLoad : ℕ → Type 0
IsLoad tasks = (0 < tasks) × (tasks ≤ MOST_TASKS)

abbrev pub HasTicks : Asked → Type 0
HasTicks (SourceAsked source work) = IsWork work
HasTicks (ScriptAsked source script ticks) = IsTicks ticks
HasTicks (LoadAsked tasks) = IsLoad tasks
HasTicks (TableAsked table test) = Unit {0}
HasTicks (TraceAsked trace work) = Unit {0}
