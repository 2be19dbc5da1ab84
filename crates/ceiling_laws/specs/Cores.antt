-- What of a task decides at which level it is placed, and what of an object decides who is let in; and changes that
-- touch none of these, and let no task wait for a moment that waited for none.
use Rattle.ann_base.specs.declared.identities.ObjectNo.{ObjectNo}
use Rattle.ann_base.specs.declared.identities.TaskNo.{TaskNo}
use Rattle.profile_machine.specs.Appointments.{is_delay_of}
use Rattle.profile_machine.specs.declared.world.World.{World}
use Rattle.profile_machine.specs.declared.world.objects.Object.{Object}
use Rattle.profile_machine.specs.declared.world.tasks.Inherited.{Inherited}
use Rattle.profile_machine.specs.declared.world.tasks.State.{State}
use Rattle.profile_machine.specs.declared.world.tasks.Task.{Task}
use Rattle.std.specs.List.{list_any}
use Rattle.std.specs.Prelude.{Bool, List, Option, map, true, ℕ, ◌≡◌}
use Rattle.trace_text.specs.declared.events.Who.{Who}

-- who it is, its state, and what its active priority is made of
pub record Core : Type 0 where
  pub who : Who
  pub state : State
  pub base : ℕ
  pub inherited : List Inherited
  pub kept_level : Option ℕ
  pub deferred_base : Option ℕ

abbrev pub core : Task → Core
core t = record {
  who = t.who;
  state = t.state;
  base = t.base;
  inherited = t.inherited;
  kept_level = t.kept_level;
  deferred_base = t.deferred_base;
}

abbrev pub ceiling_in : Object → ObjectNo × ℕ
ceiling_in x = (x.number, x.ceiling)

-- a moment is appointed for a task
abbrev pub is_delayed : TaskNo → World → Bool
is_delayed t w = list_any (λ a. is_delay_of t a.due) w.appointments

-- the second world has the tasks, the agent and the objects of the first, and no moment for a task more
pub record Same (a b : World) : Type 0 where
  pub tasks : map core b.tasks ≡ map core a.tasks
  pub agent : core b.agent ≡ core a.agent
  pub objects : map ceiling_in b.objects ≡ map ceiling_in a.objects
  pub drawn_tasks : b.drawn.tasks ≡ a.drawn.tasks
  pub drawn_objects : b.drawn.objects ≡ a.drawn.objects
  pub delays : (t : TaskNo) → is_delayed t b ≡ true → is_delayed t a ≡ true
