-- What the machine keeps of protected actions: the actions that objects have are those of marks; whoever has a mark of one is ready and
-- inherits the ceiling; and below a mark that ends with somebody's wait or end no action is open.
use Rattle.std.proofs.Common.{◌≡◌, ℕ, suc, ◌≤◌, ◌<◌, Bool, true, false, eqb, ◌&&◌, ◌||◌, List, [], ◌∷◌, Option, Some, None}
use Rattle.std.specs.List.{list_any}
use Rattle.ann_base.specs.declared.identities.CallNo.{CallNo}
use Rattle.ann_base.specs.declared.identities.ObjectNo.{ObjectNo}
use Rattle.ann_base.specs.declared.identities.RegionNo.{RegionNo}
use Rattle.ann_base.specs.declared.identities.TaskNo.{TaskNo}
use Rattle.trace_text.specs.declared.events.Who.{Who}
use Rattle.trace_text.specs.declared.events.Who.TheVariants as who
use Rattle.profile_machine.specs.declared.world.World.{World}
use Rattle.profile_machine.specs.declared.world.Drawn.{Drawn}
use Rattle.profile_machine.specs.declared.world.tasks.Task.{Task}
use Rattle.profile_machine.specs.declared.world.tasks.State.{State}
use Rattle.profile_machine.specs.declared.world.tasks.Inherited.{Inherited}
use Rattle.profile_machine.specs.declared.world.tasks.Cause.TheVariants as inherited_by
use Rattle.profile_machine.specs.declared.world.calls.Call.{Call}
use Rattle.profile_machine.specs.declared.world.objects.Object.{Object}
use Rattle.profile_image.specs.Words.{same_region, is_the}
use Rattle.profile_machine.specs.Tasks.{is_runnable_state}
use Rattle.profile_machine.specs.Inheritance.{same_cause}
use Rattle.profile_machine.specs.Protected.{has_open}
use Rattle.profile_machine.specs.WellFormed.{number_in}
use Rattle.machine_laws.proofs.ListLemmas.{Falls, Rises}
use Rattle.machine_laws.proofs.FineMoves.{GoodWorld, Naming}
use Rattle.line_laws.proofs.Exits.TaskEdits.{one_of}
use Rattle.line_laws.proofs.Leaving.FreeWorlds.{CallerIn}
use Rattle.world_laws.proofs.Actions.Natures.{Nature, natures, guards, marks, in_region}
use Rattle.world_laws.proofs.Queues.Standing.{object_key}

-- ---- marks

abbrev pub ActionSound : ℕ → Option ObjectNo → List Nature → Type 0
ActionSound drawn None ns = Unit {0}
ActionSound drawn (Some o) ns = (o.0 ≤ drawn) × (marks o ns ≡ false)

-- releases are the agent's
abbrev pub ReleaseSound : Who → Option ℕ → Type 0
ReleaseSound name None = Unit {0}
ReleaseSound name (Some n) = name ≡ who.Agent

-- a call of one's own is one's own
abbrev pub OwnSound : ℕ → List Call → Who → Option CallNo → Type 0
OwnSound drawn calls name None = Unit {0}
OwnSound drawn calls name (Some c) = CallerIn calls drawn c name

abbrev pub RegionSound : ℕ → Option RegionNo → Type 0
RegionSound drawn None = Unit {0}
RegionSound drawn (Some r) = (0 < r.0) × (r.0 ≤ drawn)

abbrev pub MarkSound : Drawn → List Call → Who → Nature → List Nature → Type 0
MarkSound drawn calls name n ns =
    (n.floor ≡ true → guards ns ≡ false) × ActionSound drawn.objects n.action ns × ReleaseSound name n.release × OwnSound drawn.calls calls name n.own
    × RegionSound drawn.regions n.region

abbrev pub MarksSound : Drawn → List Call → Who → List Nature → Type 0
MarksSound drawn calls name [] = Unit {0}
MarksSound drawn calls name (n ∷ ns) = MarkSound drawn calls name n ns × MarksSound drawn calls name ns

-- ---- objects

abbrev pub has_ceiling : ObjectNo → ℕ → List Inherited → Bool
has_ceiling o level [] = false
has_ceiling o level (i ∷ is) = (same_cause (inherited_by.Ceiling o) i.cause && eqb level i.level) || has_ceiling o level is

-- somebody has an action open where it has a mark, and inherits the ceiling
abbrev pub Hold : Who → List Nature → List Inherited → Object → Type 0
Hold name ns is x = (has_open name x.actions ≡ marks x.number ns) × (has_open name x.actions ≡ true → has_ceiling x.number x.ceiling is ≡ true)

abbrev pub EachObject : (Object → Type 0) → List Object → Type 0
EachObject P [] = Unit {0}
EachObject P (x ∷ xs) = P x × EachObject P xs

-- ---- regions that have dependents

abbrev pub dependents : List Task → RegionNo → Bool
dependents tasks r = list_any (λ t. is_the same_region t.master r) tasks

-- below the region no action is open
abbrev pub Clean : RegionNo → List Nature → Type 0
Clean r [] = Unit {0}
Clean r (n ∷ ns) = (is_the same_region n.region r ≡ true → guards ns ≡ false) × Clean r ns

-- ---- everybody

abbrev pub SureOn : Drawn → List Call → List Object → List Task → Who → List Nature → State → List Inherited → Type 0
SureOn drawn calls objects tasks name ns state is =
    MarksSound drawn calls name ns × (guards ns ≡ true → is_runnable_state state ≡ true) × EachObject (Hold name ns is) objects
    × ((r : RegionNo) → dependents tasks r ≡ true → Clean r ns)

abbrev pub SureOf : Drawn → List Call → List Object → List Task → Who → Task → Type 0
SureOf drawn calls objects tasks name t = SureOn drawn calls objects tasks name (natures t.frames) t.state t.inherited

abbrev pub marks_of : List Task → Task → Who → List Nature
marks_of tasks agent name = natures (one_of tasks agent name).frames

-- a region is one's
abbrev pub OneOwner : List Task → Task → Type 0
OneOwner tasks agent = (a b : Who) (r : RegionNo) → in_region r (marks_of tasks agent a) ≡ true → in_region r (marks_of tasks agent b) ≡ true → a ≡ b

abbrev pub task_key : Task → ℕ
task_key t = number_in t.who

abbrev pub EachListed : List Task → Type 0
EachListed [] = Unit {0}
EachListed (t ∷ ts) = ((n : TaskNo) × (t.who ≡ who.Task n)) × EachListed ts

-- those in the list are tasks, and the agent is the agent
abbrev pub Listed : List Task → Task → Type 0
Listed tasks agent = EachListed tasks × (agent.who ≡ who.Agent)

abbrev pub SoundOf : Drawn → List Call → List Object → List Task → Task → Type 0
SoundOf drawn calls objects tasks agent =
    Falls object_key (suc drawn.objects) objects × Rises task_key 0 drawn.tasks tasks × Listed tasks agent
    × ((r : RegionNo) → dependents tasks r ≡ true → r.0 ≤ drawn.regions) × OneOwner tasks agent
    × ((name : Who) → SureOf drawn calls objects tasks name (one_of tasks agent name))

abbrev pub Sound : GoodWorld
Sound w = SoundOf w.drawn w.calls w.objects w.tasks w.agent

-- somebody has no action open
abbrev pub Free : Who → World → Type 0
Free name w = guards (marks_of w.tasks w.agent name) ≡ false

-- a world is sound, and these have none open
abbrev pub Good : Naming → GoodWorld
Good F w = Sound w × ((name : Who) → F name → Free name w)
