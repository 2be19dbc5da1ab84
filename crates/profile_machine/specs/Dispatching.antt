-- Active priorities, places, and the choice of who runs (D.1, D.2).
use Rattle.std.specs.Prelude.{ℕ, ℤ, Bool, true, cond, not, ◌&&◌, List, [], ◌∷◌, ◌++◌, Option, Some}
use Rattle.std.specs.Prelude.{None, eqb, ltb, leb, int_lt, filter, map, max, slice_index_or, flat_map}
use Rattle.std.specs.List.{list_all}
use Rattle.std.specs.Bool.{then_some}
use Rattle.profile_machine.specs.declared.world.tasks.Rival.{Rival}
use Rattle.profile_machine.specs.declared.world.lines.Line.TheVariants as line
use Rattle.trace_text.specs.declared.events.Who.{Who}
use Rattle.trace_text.specs.declared.events.QueueEnd.{QueueEnd}
use Rattle.trace_text.specs.declared.events.QueueEnd.TheVariants.{Head, Tail}
use Rattle.trace_text.specs.declared.events.Waits.{Waits}
use Rattle.trace_text.specs.declared.events.Waits.TheVariants as word
use Rattle.profile_image.specs.declared.image.Image.{Image}
use Rattle.profile_machine.specs.declared.world.World.{World}
use Rattle.profile_machine.specs.declared.world.tasks.Task.{Task}
use Rattle.profile_machine.specs.declared.world.tasks.Waiting.{Waiting}
use Rattle.profile_machine.specs.declared.world.objects.Object.{Object}
use Rattle.profile_machine.specs.declared.world.objects.Action.{Action}
use Rattle.profile_machine.specs.declared.world.tasks.Placed.{Placed}
use Rattle.profile_machine.specs.declared.world.tasks.Waiting.TheVariants as waits_for
use Rattle.profile_machine.specs.declared.world.tasks.State.TheVariants.{Runnable, Blocked}
use Rattle.profile_image.specs.Words.{greatest_of}
use Rattle.profile_image.specs.Program.{is_edf_level, is_robin_level, edf_low}
use Rattle.profile_machine.specs.declared.world.lines.Part.{Part}
use Rattle.profile_machine.specs.Steps.{Step, says, changes, looks, ◌▷◌}
use Rattle.profile_machine.specs.Tasks.{task_of, edit_task, with_state, is_runnable, is_who}

-- ---- active priorities (D.1, D.2.6)

-- the level that stands for a task whose base lies in an EDF range: the kept level, while it has one
abbrev pub kept_level_or_base : Option ℕ → Option ℕ → ℕ → ℕ
kept_level_or_base (Some low) (Some kept_level) base = kept_level
kept_level_or_base (Some low) None base = base
kept_level_or_base None kept_level base = base

abbrev pub own_level : Image → Task → ℕ
own_level p t = kept_level_or_base (edf_low p t.base) t.kept_level t.base

abbrev pub levels_inherited : Task → List ℕ
levels_inherited t = map (λ i. i.level) t.inherited

-- the greatest of the own level and the inherited ones
abbrev pub active : Image → Task → ℕ
active p t = greatest_of (levels_inherited t) (own_level p t)

abbrev pub active_of : Image → World → Who → ℕ
active_of p w name = active p (task_of w name)

-- ---- the level of a task on an EDF range that is activated or released (D.2.6; own wording)

abbrev pub all_later : ℤ → List Rival → Bool
all_later deadline rivals = list_all (λ r. int_lt deadline r.deadline) rivals

abbrev pub of_level : ℕ → List Rival → List Rival
of_level level = filter (λ r. eqb r.level level)

abbrev pub from_to : ℕ → ℕ → List Rival → List Rival
from_to low level = filter (λ r. leb low r.level && ltb r.level level)

-- whether the ceiling of somebody inside may be the level
abbrev pub may_stand_at : ℕ → ℕ → ℤ → List Rival → List Rival → ℕ → Bool
may_stand_at low base deadline inside ready ceiling =
    ltb ceiling base && all_later deadline (of_level ceiling inside) && all_later deadline (from_to low ceiling ready)

-- the greatest of the levels that may be, and of `least`
abbrev pub greatest_level : (ℕ → Bool) → List Rival → ℕ → ℕ
greatest_level test [] least = least
greatest_level test (r ∷ rs) least = max (cond (test r.level) r.level least) (greatest_level test rs least)

abbrev pub edf_level : ℕ → ℕ → ℕ → ℤ → List Rival → List Rival → ℕ
edf_level low base inherited deadline inside ready =
    greatest_level (may_stand_at low base deadline inside ready) inside (max low inherited)

-- everybody inside a protected object, with its ceiling
abbrev pub inside_object : World → ℕ → List Action → List Rival
inside_object w ceiling = map (λ a. record { level = ceiling; deadline = (task_of w a.who).deadline })

abbrev pub inside_objects : World → List Object → List Rival
inside_objects w objects = flat_map (λ o. inside_object w o.ceiling o.actions) objects

-- the other tasks that are ready, with their levels
abbrev pub ready_rivals : Image → Who → List Task → List Rival
ready_rivals p name tasks =
    map (λ t. record { level = active p t; deadline = t.deadline }) (filter (λ t. is_runnable t
    && not (is_who name t)) tasks)

abbrev pub level_kept_by : Image → World → Task → Option ℕ → Option ℕ
level_kept_by p w t None = None
level_kept_by p w t (Some low) =
    Some (edf_level low t.base (greatest_of (levels_inherited t) 0) t.deadline (inside_objects w w.objects)
    (ready_rivals p t.who w.tasks))

-- a task that is activated or released keeps the level that it then has, where its base lies in an EDF range
abbrev pub keep_level : Image → Who → World → World
keep_level p name w = edit_task name (λ t. record t { kept_level = level_kept_by p w t (edf_low p t.base) }) w

-- ---- placing (D.2.1, D.2.3, D.2.5, D.2.6)

abbrev pub deadline_shown : Image → Task → Option ℤ
deadline_shown p t = then_some (is_edf_level p (active p t)) t.deadline

-- the `ready` line, which places
unfoldable pub says_ready : Image → Part → Who → QueueEnd → Step
says_ready p part name end =
    looks (λ w. says part (line.Ready name (active p (task_of w name)) end (deadline_shown p (task_of w name))))

-- a task at the tail of its base level gets the level's full quantum, where that is round robin
abbrev pub granted : Image → List ℕ → Task → Task
granted p quanta t =
    cond (eqb (active p t) t.base && is_robin_level p t.base) (record t { quantum = slice_index_or quanta t.base 0 }) t

abbrev pub grant_quantum : Image → Who → World → World
grant_quantum p name w = edit_task name (granted p w.quanta) w

unfoldable pub to_tail : Image → Part → Who → Step
to_tail p part name = changes (grant_quantum p name) ▷ says_ready p part name Tail

unfoldable pub to_head : Image → Part → Who → Step
to_head p part name = says_ready p part name Head

-- a task, or the agent, becomes ready: it goes to the tail
unfoldable pub ready : Image → Part → Who → Step
ready p part name =
    changes (edit_task name (with_state Runnable)) ▷ changes (keep_level p name) ▷ to_tail p part name

-- ---- blocking

abbrev pub word_of : Waiting → Waits
word_of waits_for.Activation = word.Activation
word_of waits_for.Moment = word.Delay
word_of (waits_for.Call c) = word.Entry
word_of (waits_for.EndOfCall c) = word.Call
word_of (waits_for.Accept s) = word.Accept
word_of (waits_for.Select accepts delay terminate) = word.Select
word_of (waits_for.Dependents r) = word.Dependents
word_of waits_for.Release = word.Release

abbrev pub without_kept_level : Task → Task
without_kept_level t = record t { kept_level = None }

unfoldable pub says_block : Part → Who → Waiting → Step
says_block part name waiting =
    changes (edit_task name without_kept_level) ▷ says part (line.Block name (word_of waiting))

-- a task, or the agent, blocks: it leaves the ready queues and keeps no level
unfoldable pub block : Part → Who → Waiting → Step
block part name waiting =
    changes (edit_task name (with_state (Blocked waiting))) ▷ says_block part name waiting

-- ---- the choice

-- the head of the highest level that is not empty
abbrev pub head_of : List Placed → Option Who
head_of [] = None
head_of (x ∷ xs) = Some x.who

abbrev pub choose : World → Option Who
choose w = head_of w.places
