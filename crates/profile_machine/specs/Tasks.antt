-- The tasks of a world and the agent: looking at one, and changing one.
use Rattle.std.specs.Prelude.{ℕ, ℤ, pos, Bool, true, false, List, [], Option, Some, None, find, unwrap_or}
use Rattle.ann_base.specs.declared.identities.TaskNo.{TaskNo}
use Rattle.trace_text.specs.declared.events.Who.{Who}
use Rattle.trace_text.specs.declared.events.Who.TheVariants as who
use Rattle.profile_machine.specs.declared.world.World.{World}
use Rattle.profile_machine.specs.declared.world.tasks.Task.{Task}
use Rattle.profile_machine.specs.declared.world.tasks.State.{State}
use Rattle.profile_machine.specs.declared.world.tasks.Waiting.{Waiting}
use Rattle.profile_machine.specs.declared.world.marks.Frame.{Frame}
use Rattle.profile_machine.specs.declared.world.tasks.State.TheVariants.{Made, Runnable, Blocked}
use Rattle.profile_image.specs.declared.limits.TheConstants.{TIME_LAST}
use Rattle.profile_image.specs.Words.{same_who, set_where}

-- a task, or the agent, as it begins
abbrev pub new_task : Who → ℕ → State → Task
new_task name base state = record {
  who = name;
  declared = None;
  unit = None;
  outer = None;
  state = state;
  frames = [];
  ticks_left = None;
  base = base;
  inherited = [];
  kept_level = None;
  deadline = TIME_LAST;
  relative_deadline = None;
  quantum = 0;
  cpu_ticks = 0;
  master = None;
  declarative_part = 0;
  activator = None;
  group_failed = false;
  completed = false;
  abnormal = false;
  deferred_base = None;
  deferred_deadline = None;
  budget = None;
  queues = [];
}

-- ---- looking

abbrev pub is_who : Who → Task → Bool
is_who name t = same_who name t.who

-- what stands for a task that is not there
abbrev pub nobody : Task
nobody = new_task who.Agent 0 Made

abbrev pub found_task : Who → List Task → Option Task
found_task name tasks = find (is_who name) tasks

-- the task, or the agent, that has this name, if it is there
abbrev pub task_at : World → Who → Option Task
task_at w (who.Task t) = found_task (who.Task t) w.tasks
task_at w who.Agent = Some w.agent

abbrev pub task_of : World → Who → Task
task_of w name = unwrap_or (task_at w name) nobody

abbrev pub number_of : Who → Option TaskNo
number_of (who.Task t) = Some t
number_of who.Agent = None

abbrev pub is_runnable_state : State → Bool
is_runnable_state Made = false
is_runnable_state Runnable = true
is_runnable_state (Blocked waiting) = false

abbrev pub is_made_state : State → Bool
is_made_state Made = true
is_made_state Runnable = false
is_made_state (Blocked waiting) = false

abbrev pub waiting_in : State → Option Waiting
waiting_in Made = None
waiting_in Runnable = None
waiting_in (Blocked waiting) = Some waiting

abbrev pub is_runnable : Task → Bool
is_runnable t = is_runnable_state t.state

abbrev pub is_made : Task → Bool
is_made t = is_made_state t.state

abbrev pub waiting_of : World → Who → Option Waiting
waiting_of w name = waiting_in (task_of w name).state

-- ---- changing

-- the task t in the place of the one that has this name
abbrev pub with_task : Who → Task → World → World
with_task (who.Task n) t w = record w { tasks = set_where (is_who (who.Task n)) t w.tasks }
with_task who.Agent t w = record w { agent = t }

abbrev pub edit_task_found : Who → (Task → Task) → World → Option Task → World
edit_task_found name f w None = w
edit_task_found name f w (Some t) = with_task name (f t) w

-- f at the task that has this name, where it is there
abbrev pub edit_task : Who → (Task → Task) → World → World
edit_task name f w = edit_task_found name f w (task_at w name)

abbrev pub with_state : State → Task → Task
with_state state t = record t { state = state }

abbrev pub with_frames : List Frame → Task → Task
with_frames frames t = record t { frames = frames }

abbrev pub with_ticks : Option ℕ → Task → Task
with_ticks ticks t = record t { ticks_left = ticks }
