-- What of a task decides at which level and with which deadline it is placed, and what of an object decides who is let in; and
-- changes that touch none of these, let no task wait for a moment that waited for none, and leave who made a call.
use Rattle.ann_base.specs.declared.identities.CallNo.{CallNo}
use Rattle.ann_base.specs.declared.identities.TaskNo.{TaskNo}
use Rattle.ceiling_laws.specs.Cores.{ceiling_in, is_delayed}
use Rattle.profile_machine.specs.Calls.{is_call}
use Rattle.profile_machine.specs.declared.world.World.{World}
use Rattle.profile_machine.specs.declared.world.calls.Call.{Call}
use Rattle.profile_machine.specs.declared.world.tasks.Inherited.{Inherited}
use Rattle.profile_machine.specs.declared.world.tasks.State.{State}
use Rattle.profile_machine.specs.declared.world.tasks.Task.{Task}
use Rattle.std.specs.Prelude.{List, Option, Some, find, map, true, ℕ, ℤ, ◌≡◌, ◌≤◌}
use Rattle.trace_text.specs.declared.events.Who.{Who}
use Rattle.trace_text.specs.declared.events.Who.TheVariants as who

-- who it is, its state, what its active priority is made of, and its deadline
pub record Core : Type 0 where
  pub who : Who
  pub state : State
  pub base : ℕ
  pub inherited : List Inherited
  pub kept_level : Option ℕ
  pub deferred_base : Option ℕ
  pub deadline : ℤ

abbrev pub core : Task → Core
core t = record {
  who = t.who;
  state = t.state;
  base = t.base;
  inherited = t.inherited;
  kept_level = t.kept_level;
  deferred_base = t.deferred_base;
  deadline = t.deadline;
}

-- somebody made this call, if it is there
abbrev pub CallerIn : List Call → ℕ → CallNo → Who → Type 0
CallerIn calls last c name = (c.0 ≤ last) × ((d : Call) → find (is_call c) calls ≡ Some d → who.Task d.caller ≡ name)

abbrev pub Caller : CallNo → Who → World → Type 0
Caller c name w = CallerIn w.calls w.drawn.calls c name

-- the second world has the tasks, the agent and the objects of the first, no moment for a task more, and for each call its caller
pub record Same (a b : World) : Type 0 where
  pub tasks : map core b.tasks ≡ map core a.tasks
  pub agent : core b.agent ≡ core a.agent
  pub objects : map ceiling_in b.objects ≡ map ceiling_in a.objects
  pub drawn_tasks : b.drawn.tasks ≡ a.drawn.tasks
  pub drawn_objects : b.drawn.objects ≡ a.drawn.objects
  pub callers : (c : CallNo) (name : Who) → Caller c name a → Caller c name b
  pub delays : (t : TaskNo) → is_delayed t b ≡ true → is_delayed t a ≡ true
