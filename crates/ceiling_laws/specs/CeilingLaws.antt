-- Ceilings: whom the definitions let into a protected object, what the law of traces makes of an `enter` line, and what
-- stays as it was from the choice of somebody to the effect of its action (D.3, D.2.6).
use Rattle.std.specs.Prelude.{◌≡◌, ℕ, ℤ, ◌≤◌, leb, Bool, true, false, not, ◌||◌, IsTrue, List, Some}
use Rattle.std.specs.List.{list_all}
use Rattle.ann_base.specs.declared.identities.ObjectNo.{ObjectNo}
use Rattle.ann_base.specs.declared.identities.TaskNo.{TaskNo}
use Rattle.ann_base.specs.declared.exceptions.Raised.TheVariants as exception
use Rattle.trace_text.specs.declared.events.Entry.{Entry}
use Rattle.trace_text.specs.declared.events.Event.TheVariants as line
use Rattle.trace_text.specs.declared.events.Mode.{Mode}
use Rattle.trace_text.specs.declared.events.Who.{Who}
use Rattle.trace_text.specs.declared.events.Who.TheVariants as who
use Rattle.trace_text.specs.Queue.{entry_of}
use Rattle.trace_text.specs.Laws.{Levels, level_of, is_below_ceiling}
use Rattle.profile_image.specs.declared.image.Image.{Image}
use Rattle.profile_image.specs.declared.image.DispatchingRange.{DispatchingRange}
use Rattle.profile_image.specs.declared.script_items.Item.{Item}
use Rattle.profile_machine.specs.declared.world.World.{World}
use Rattle.profile_machine.specs.declared.world.lines.Said.{Said}
use Rattle.profile_machine.specs.declared.world.lines.Part.TheVariants.{Own}
use Rattle.profile_machine.specs.declared.world.appointments.Release.{Release}
use Rattle.profile_machine.specs.declared.world.objects.Object.{Object}
use Rattle.profile_machine.specs.declared.world.objects.Entering.TheVariants as entering_is
use Rattle.profile_image.specs.Program.{has_edf, is_edf_level, is_edf_policy, interrupt_priority}
use Rattle.profile_machine.specs.Steps.{Step}
use Rattle.profile_machine.specs.Tasks.{task_of}
use Rattle.profile_machine.specs.Values.{object_of}
use Rattle.profile_machine.specs.Frames.{raises}
use Rattle.profile_machine.specs.Dispatching.{active_of, deadline_shown, choose}
use Rattle.profile_machine.specs.Protected.{is_above_ceiling, entering, where_let_inside}
use Rattle.profile_machine.specs.Serving.{end_release}
use Rattle.profile_machine.specs.Handlers.{call_handler}
use Rattle.profile_machine.specs.Run.{tock}
use Rattle.machine_laws.specs.Reached.{Comes}

-- ---- who is let in

-- Somebody is not above the ceiling of an object that is there: neither its active priority, nor, in a source with an
-- EDF range, its base priority (D.3; own).
pub record IsBelow (p : Image) (w : World) (name : Who) (o : ObjectNo) : Type 0 where
  pub object : Object
  pub found : object_of w o ≡ Some object
  pub active : active_of p w name ≤ object.ceiling
  pub base : has_edf p ≡ true → (task_of w name).base ≤ object.ceiling

-- of any world: who is let into an object is not above its ceiling
abbrev pub LetsInBelow : Type 0
LetsInBelow = (p : Image) (w : World) (name : Who) (o : ObjectNo) (mode : Mode)
    → entering p w name o mode ≡ entering_is.Inside → IsBelow p w name o

-- who is above it raises Program_Error in the place of the step, and nothing else comes of it
abbrev pub RaisesAbove : Type 0
RaisesAbove =
    (p : Image) (w : World) (name : Who) (o : ObjectNo) (mode : Mode) (step : Step) (object : Object) (said : List Said)
    → object_of w o ≡ Some object → is_above_ceiling p w name object.ceiling ≡ true
    → where_let_inside p name o mode step w said ≡ raises Own name exception.Program w said

-- the agent above it serves its release without an action
abbrev pub ServesAbove : Type 0
ServesAbove = (p : Image) (w : World) (r : Release) (object : Object) (said : List Said)
    → object_of w r.handler.object ≡ Some object → is_above_ceiling p w who.Agent object.ceiling ≡ true
    → call_handler p r w said ≡ end_release r.number w said

-- ---- what lines show of it

-- the entry of somebody in the ready queues: at its active priority, and with its deadline on an EDF level alone
abbrev pub entry_in : Image → World → Who → Entry
entry_in p w name = record { who = name; level = active_of p w name; deadline = deadline_shown p (task_of w name) }

-- Lines show of somebody and of an object what the world has: the entry, a task's base priority, the ceiling.
pub record Shows (p : Image) (w : World) (name : Who) (o : ObjectNo) (sight : Levels) : Type 0 where
  pub entry : entry_of name sight.entries ≡ Some (entry_in p w name)
  pub base : (t : TaskNo) → name ≡ who.Task t → level_of t.0 sight.bases ≡ Some (task_of w name).base
  pub ceiling : (object : Object) → object_of w o ≡ Some object → level_of o.0 sight.ceilings ≡ Some object.ceiling

-- no range that is dispatched by deadlines reaches the priority of interrupts (own)
abbrev pub is_below_interrupts : ℕ → DispatchingRange → Bool
is_below_interrupts last range = not (is_edf_policy range.policy) || leb range.last last

abbrev pub edf_is_below_interrupts : Image → Bool
edf_is_below_interrupts p = list_all (is_below_interrupts p.policies.last_priority) p.policies.dispatching

-- so no level of interrupts is dispatched by deadlines
abbrev pub InterruptsHaveNoDeadline : Type 0
InterruptsHaveNoDeadline = (p : Image) (level : ℕ) → IsTrue (edf_is_below_interrupts p)
    → interrupt_priority p ≤ level → is_edf_level p level ≡ false

-- Where lines show what the world has, and the agent has the priority of interrupts, the `enter` line of who is let in
-- keeps the law of ceilings, which knows lines alone.
abbrev pub EntersKeepCeilings : Type 0
EntersKeepCeilings = (p : Image) (w : World) (name : Who) (o : ObjectNo) (mode : Mode) (sight : Levels)
    → IsTrue (edf_is_below_interrupts p) → w.agent.base ≡ interrupt_priority p → Shows p w name o sight
    → entering p w name o mode ≡ entering_is.Inside
    → IsTrue (is_below_ceiling sight (line.Enter name o mode))

-- ---- from the choice to the effect

-- everybody has its priorities and its deadline, and objects and ready queues are what they were
pub record SameLevels (p : Image) (before after : World) : Type 0 where
  pub entries : (name : Who) → entry_in p after name ≡ entry_in p before name
  pub bases : (name : Who) → (task_of after name).base ≡ (task_of before name).base
  pub objects : after.objects ≡ before.objects
  pub places : after.places ≡ before.places

-- of any world: the choice and the tick change none of these
abbrev pub TocksKeepLevels : Type 0
TocksKeepLevels = (p : Image) (w : World) → SameLevels p w (tock p w).0

-- before each instant of a run, whose action may end there stands first in the ready queues
abbrev pub WhoActsIsFirst : Type 0
WhoActsIsFirst = (p : Image) (script : List (ℤ × Item)) (bound : ℕ) (w : World) (name : Who)
    → Comes p script bound w → w.ran ≡ Some name → choose w ≡ Some name
