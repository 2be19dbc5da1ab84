-- The timed run: instants and tocks in turn from the opening world, up to the first instant at which it stops.
use Rattle.std.specs.Prelude.{ℕ, zero, suc, ◌+◌, ◌-◌, ℤ, pos, false, cond, ◌&&◌, List, []}
use Rattle.std.specs.Prelude.{◌∷◌, ◌++◌, Option, Some, None, eqb, replicate, unwrap_or, map}
use Rattle.std.specs.Option.{option_or}
use Rattle.ann_base.specs.declared.exceptions.Raised.{Raised}
use Rattle.trace_text.specs.declared.events.Event.{Event}
use Rattle.trace_text.specs.declared.events.Event.TheVariants as line
use Rattle.trace_text.specs.declared.events.Created.TheVariants as created
use Rattle.trace_text.specs.declared.events.Ended.{Ended}
use Rattle.trace_text.specs.declared.events.Ended.TheVariants as why
use Rattle.trace_text.specs.declared.events.Who.{Who}
use Rattle.trace_text.specs.declared.events.Who.TheVariants as who
use Rattle.profile_image.specs.declared.limits.TheConstants.{DEFAULT_QUANTUM, LAST_OUTSIDE_LINE}
use Rattle.profile_image.specs.declared.image.Image.{Image}
use Rattle.profile_image.specs.declared.script_items.Item.{Item}
use Rattle.profile_machine.specs.declared.world.World.{World}
use Rattle.profile_machine.specs.declared.world.tasks.Task.{Task}
use Rattle.profile_machine.specs.declared.world.marks.Frame.{Frame}
use Rattle.profile_machine.specs.declared.world.Drawn.{Drawn}
use Rattle.profile_machine.specs.declared.world.appointments.Release.{Release}
use Rattle.profile_machine.specs.declared.world.marks.Purpose.TheVariants as opened_for
use Rattle.profile_machine.specs.declared.world.tasks.Waiting.TheVariants as waits_for
use Rattle.profile_machine.specs.declared.world.tasks.State.TheVariants.{Runnable, Blocked}
use Rattle.profile_image.specs.Words.{same_who, same_option}
use Rattle.ann_base.specs.Lists.{is_empty}
use Rattle.profile_image.specs.Program.{interrupt_priority}
use Rattle.profile_machine.specs.declared.world.lines.Line.TheVariants.{New}
use Rattle.profile_machine.specs.declared.world.lines.Part.TheVariants.{Own}
use Rattle.profile_machine.specs.Steps.{Step, Move, says, changes, settles, rests, watches, ◌▷◌, ◌▶◌}
use Rattle.profile_machine.specs.Tasks.{task_of, edit_task, with_ticks, new_task}
use Rattle.profile_machine.specs.Dispatching.{choose, to_tail}
use Rattle.profile_machine.specs.Frames.{open_sequence}
use Rattle.profile_machine.specs.Lines.{exception_name}
use Rattle.profile_machine.specs.Scopes.{open_scope, plainly}
use Rattle.profile_machine.specs.Cost.{cost}
use Rattle.profile_machine.specs.Handlers.{charge}
use Rattle.profile_machine.specs.Instant.{instant}

-- ---- the opening

abbrev pub environment_task : Image → Task
environment_task p = new_task (who.Task (record { 0 = 0 })) p.main.priority Runnable

-- handlers run on one agent at the priority of interrupts (own)
abbrev pub agent_at_first : Image → Task
agent_at_first p = new_task who.Agent (interrupt_priority p) (Blocked waits_for.Release)

abbrev pub nothing_drawn : Drawn
nothing_drawn = record {
  tasks = 1;
  objects = 0;
  calls = 0;
  regions = 0;
  controlled = 0;
  releases = 0;
  scopes = 0;
  events = 0;
}

-- the world before the environment task is ready
abbrev pub blank_world : Image → List (ℤ × Item) → World
blank_world p script = record {
  time = 0;
  ran = None;
  script = script;
  ports = replicate (LAST_OUTSIDE_LINE + 1) (pos 0);
  masked = replicate (LAST_OUTSIDE_LINE + 1) false;
  kept_interrupts = replicate (LAST_OUTSIDE_LINE + 1) false;
  tasks = environment_task p ∷ [];
  agent = agent_at_first p;
  places = [];
  quanta = replicate (interrupt_priority p + 1) DEFAULT_QUANTUM;
  ended = None;
  scopes = [];
  objects = [];
  calls = [];
  appointments = [];
  timers = [];
  timers_set = [];
  timers_due = [];
  budgets = [];
  budget_due = None;
  registered = [];
  releases = [];
  serving = None;
  drawn = nothing_drawn;
}

abbrev pub environment : Who
environment = who.Task (record { 0 = 0 })

-- the environment task is created and ready, and the program's elaboration is its rest (10.2)
unfoldable pub opens : Image → Step
opens p =
    changes (open_scope p environment p.environment (plainly None) opened_for.Task)
    ▷ says Own (New (created.Task (record { 0 = 0 })) None p.main.priority)
    ▷ to_tail p Own environment
    ▷ open_sequence p Own environment

abbrev pub opening : Image → List (ℤ × Item) → World × List Event
opening p script = settles p (opens p) (blank_world p script)

-- ---- the stop (own)

-- the environment task has terminated
abbrev pub stop_by_end : Image → Option (Option Raised) → Option Ended
stop_by_end p None = None
stop_by_end p (Some None) = Some why.Completed
stop_by_end p (Some (Some e)) = Some (why.Exception (exception_name p e))

-- nobody is ready, and no appointment or item of the script is ahead
abbrev pub stop_by_stuck : World → Option Ended
stop_by_stuck w = cond (is_empty w.places && is_empty w.appointments && is_empty w.script) (Some why.Stuck) None

-- now is the bound
abbrev pub stop_by_bound : ℕ → World → Option Ended
stop_by_bound bound w = cond (eqb w.time bound) (Some why.Bound) None

abbrev pub stop : Image → ℕ → World → Option Ended
stop p bound w = option_or (stop_by_end p w.ended) (option_or (stop_by_stuck w) (stop_by_bound bound w))

-- ---- a tock: the choice, and one tick

abbrev pub say : Event → Move
say event w = (w, event ∷ [])

abbrev pub silently : (World → World) → Move
silently f w = (f w, [])

-- `run` for somebody who did not run the tick before
abbrev pub says_run : Who → Option Who → Move
says_run name ran = cond (same_option same_who ran (Some name)) rests (say (line.Run name))

-- the agent without a rest begins the first release that is pending (own)
abbrev pub with_serving : Release → List Release → World → World
with_serving r rest w = record w { releases = rest; serving = Some r }

abbrev pub begin_release : Release → List Release → Move
begin_release r rest = silently (with_serving r rest) ▶ say (line.Serve r.number)

abbrev pub serve_first : List Release → Move
serve_first [] = rests
serve_first (r ∷ rest) = begin_release r rest

abbrev pub serve_if_free : Option Release → List Frame → List Release → Move
serve_if_free None [] releases = serve_first releases
serve_if_free None (f ∷ fs) releases = rests
serve_if_free (Some r) frames releases = rests

abbrev pub serve : Who → Move
serve (who.Task t) = rests
serve who.Agent = watches (λ w. serve_if_free w.serving w.agent.frames w.releases)

abbrev pub begin_action : Image → Who → World → World
begin_action p name w = edit_task name (with_ticks (Some (unwrap_or (task_of w name).ticks_left (cost p w name)))) w

abbrev pub one_tick_less : Option ℕ → Option ℕ
one_tick_less None = None
one_tick_less (Some n) = Some (n - 1)

abbrev pub spend_tick : Who → World → World
spend_tick name = edit_task name (λ t. with_ticks (one_tick_less t.ticks_left) t)

abbrev pub next_tick : Option Who → World → World
next_tick ran w = record w { time = suc w.time; ran = ran }

-- one tick of who is chosen
abbrev pub tick_of : Image → Who → Move
tick_of p name =
    watches (λ w. says_run name w.ran) ▶ serve name ▶ silently (begin_action p name) ▶ silently (charge p name)
    ▶ silently (spend_tick name) ▶ silently (next_tick (Some name))

-- a tick at which nobody runs
abbrev pub says_idle : Option Who → Move
says_idle None = rests
says_idle (Some name) = say line.Idle

abbrev pub idle_tick : Move
idle_tick = watches (λ w. says_idle w.ran) ▶ silently (next_tick None)

abbrev pub tock_of : Image → Option Who → Move
tock_of p None = idle_tick
tock_of p (Some name) = tick_of p name

abbrev pub tock : Image → Move
tock p = watches (λ w. tock_of p (choose w))

-- ---- the run

pub record Ran : Type 0 where
  pub lines : List (ℕ × Event)
  pub stop : Ended

abbrev pub at_tick : ℕ → List Event → List (ℕ × Event)
at_tick now events = map (λ x. (now, x)) events

abbrev pub stopped : ℕ → List Event → Ended → Ran
stopped now lines reason = record { lines = at_tick now (lines ++ line.End reason ∷ []); stop = reason }

abbrev pub then_runs : ℕ → List Event → Ran → Ran
then_runs now lines rest = record { lines = at_tick now lines ++ rest.lines; stop = rest.stop }

-- what is left of a run, from an instant on: the fuel is one more than the ticks that are left
abbrev pub run_from : ℕ → Image → ℕ → World → Ran
run_from zero p bound w = stopped w.time [] why.Bound
run_from (suc fuel) p bound w =
    let i = instant p w in
    let t = tock p i.0 in
    elim (stop p bound i.0) [
      | Some reason ↦ stopped w.time i.1 reason
      | None ↦ then_runs w.time (i.1 ++ t.1) (run_from fuel p bound t.0)
    ]

abbrev pub run : Image → List (ℤ × Item) → ℕ → Ran
run p script bound =
    let o = opening p script in
    then_runs 0 o.1 (run_from (suc bound) p bound o.0)

-- the lines of the run of this program, script and bound
abbrev pub run_of : Image → List (ℤ × Item) → ℕ → List (ℕ × Event)
run_of p script bound = (run p script bound).lines

-- the same, closed: clauses name it, and the reason why the run stops
unfoldable pub lines_of_run : Image → List (ℤ × Item) → ℕ → List (ℕ × Event)
lines_of_run p script bound = (run p script bound).lines

unfoldable pub stop_of_run : Image → List (ℤ × Item) → ℕ → Ended
stop_of_run p script bound = (run p script bound).stop
