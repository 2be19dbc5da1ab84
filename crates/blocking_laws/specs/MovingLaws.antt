-- Who is moved in the ready queues, and who enters a protected object: laws on lists of lines, and beside each a test
-- that computes (D.2.1, D.3, 9.5.1).
use Rattle.std.specs.Prelude.{ℕ, ℤ, Bool, true, false, not, ◌&&◌, ◌||◌, ◌==◌, nat_le, IsTrue, List}
use Rattle.std.specs.Prelude.{[], ◌∷◌, ◌++◌, Option, Some, None, is_none, is_some, filter, find}
use Rattle.std.specs.List.{list_all, list_any}
use Rattle.ann_base.specs.declared.identities.ObjectNo.{ObjectNo}
use Rattle.trace_text.specs.declared.events.Action.{Action}
use Rattle.trace_text.specs.declared.events.Created.TheVariants as created
use Rattle.trace_text.specs.declared.events.Event.{Event}
use Rattle.trace_text.specs.declared.events.Event.TheVariants.{New, Ready, Block, Run, Idle}
use Rattle.trace_text.specs.declared.events.Event.TheVariants.{Done, Base, Enter, Exit, Held}
use Rattle.trace_text.specs.declared.events.QueueEnd.TheVariants.{Head, Tail}
use Rattle.trace_text.specs.declared.events.Who.{Who}
use Rattle.trace_text.specs.declared.events.Who.TheVariants as subject
use Rattle.trace_text.specs.Laws.{CeilingOk, DispatchOk, ExclusiveOk, ceilings_after, follows_ceilings}
use Rattle.trace_text.specs.Laws.{follows_dispatch, follows_exclusion, follows_order, level_of}
use Rattle.trace_text.specs.Queue.{TraceLine, AtEachLine, AtEachTick, RisesFrom, entry_of}
use Rattle.trace_text.specs.Queue.{follows_lines, follows_ticks, head_of, somebody_eq, who_eq, who_of}
use Rattle.ceiling_laws.specs.PlaceLaws.{level_in}
use Rattle.blocking_laws.specs.BlockingLaws.{is_from}
use Rattle.blocking_laws.specs.Stretches.{Past, has_open, nothing_past, past_after}

-- What lines show besides: the level at which the agent was last placed behind all others, the ceilings, who has found
-- an object held since it last entered one, and who stood above its own level when it entered the first of its objects.
pub record Moving : Type 0 where
  pub past : Past
  pub agent : Option ℕ
  pub ceilings : List (ℕ × ℕ)
  pub found : List Who
  pub raised : List Who

abbrev pub nothing_moving : Moving
nothing_moving = record { past = nothing_past; agent = None; ceilings = []; found = []; raised = [] }

abbrev pub agent_after : Option ℕ → Event → Option ℕ
agent_after agent (Ready subject.Agent level Tail deadline) = Some level
agent_after agent _ = agent

abbrev pub without_name : Who → List Who → List Who
without_name who = filter (λ other. not (who_eq who other))

abbrev pub found_after : List Who → Event → List Who
found_after found (Held who object mode) = who ∷ found
found_after found (Enter who object mode) = without_name who found
found_after found _ = found

-- the base priority of a task, and the level at which the agent is placed behind all others
abbrev pub own_level : Who → List (ℕ × ℕ) → Option ℕ → Option ℕ
own_level (subject.Task task) bases agent = level_of task.0 bases
own_level subject.Agent bases agent = agent

abbrev pub is_within : Option ℕ → Option ℕ → Bool
is_within None limit = false
is_within (Some level) None = false
is_within (Some level) (Some limit) = nat_le level limit

-- somebody stands at its own level, or below it
abbrev pub stands_plainly : Who → Past → Option ℕ → Bool
stands_plainly who past agent = is_within (level_in (entry_of who past.queue)) (own_level who past.bases agent)

abbrev pub raised_by : Bool → Bool → Who → List Who → List Who
raised_by true plain who raised = raised
raised_by false true who raised = without_name who raised
raised_by false false who raised = who ∷ raised

abbrev pub raised_after : Past → Option ℕ → List Who → Event → List Who
raised_after past agent raised (Enter who object mode) =
    raised_by (has_open who past.actions) (stands_plainly who past agent) who raised
raised_after past agent raised _ = raised

abbrev pub moving_after : Moving → Event → Moving
moving_after moving event = record {
  past = past_after moving.past event;
  agent = agent_after moving.agent event;
  ceilings = ceilings_after moving.ceilings event;
  found = found_after moving.found event;
  raised = raised_after moving.past moving.agent moving.raised event;
}

-- Somebody comes to an object: it has run up to now, stands first in the ready queues, and its base priority is not
-- above the ceiling.
abbrev pub comes_rightly : Who → ObjectNo → Moving → Bool
comes_rightly who object moving =
    somebody_eq moving.past.runner (Some who) && somebody_eq (who_of (head_of moving.past.queue)) (Some who)
    && is_within (own_level who moving.past.bases moving.agent) (level_of object.0 moving.ceilings)

-- a level is the one of before, if there is one
abbrev pub is_level_of : Option ℕ → ℕ → Bool
is_level_of None level = true
is_level_of (Some other) level = other == level

-- who has an action open is placed behind others only if it has found an object held
abbrev pub may_be_behind : Who → Moving → Bool
may_be_behind who moving = not (has_open who moving.past.actions) || list_any (λ other. who_eq who other) moving.found

-- a task that is placed has a base priority
abbrev pub is_known : Who → Moving → Bool
is_known (subject.Task task) moving = is_some (level_of task.0 moving.past.bases)
is_known subject.Agent moving = true

abbrev pub is_agent_level : Who → ℕ → Moving → Bool
is_agent_level (subject.Task task) level moving = true
is_agent_level subject.Agent level moving = is_level_of moving.agent level

-- only tasks have deadlines
abbrev pub is_dated_rightly : Who → Option ℤ → Bool
is_dated_rightly (subject.Task task) deadline = true
is_dated_rightly subject.Agent deadline = is_none deadline

-- of the actions of somebody it is the last that began
abbrev pub is_on : ℕ → Option Action → Bool
is_on object None = false
is_on object (Some action) = object == action.object

abbrev pub exits_last : Who → ObjectNo → Moving → Bool
exits_last who object moving = is_on object.0 (find (λ action. who_eq who action.who) moving.past.actions)

-- MOVED. Only who has run is placed before others. Who has an action open is not placed behind others, unless it has
-- found an object held, and neither blocks nor ends. Who enters an object or finds one held comes to it rightly. The
-- agent is placed behind others at one level alone. Actions end in the reverse order of their beginning. No number is
-- given twice.
abbrev pub is_moved_rightly : Moving → Event → Bool
is_moved_rightly moving (Ready who level Head deadline) =
    is_known who moving && is_dated_rightly who deadline && somebody_eq moving.past.runner (Some who)
is_moved_rightly moving (Ready who level Tail deadline) =
    is_known who moving && is_dated_rightly who deadline && is_agent_level who level moving
    && may_be_behind who moving
is_moved_rightly moving (Block who why) = not (has_open who moving.past.actions)
is_moved_rightly moving (Done task) = not (has_open (subject.Task task) moving.past.actions)
is_moved_rightly moving (Enter who object mode) = comes_rightly who object moving
is_moved_rightly moving (Held who object mode) = comes_rightly who object moving
is_moved_rightly moving (Exit who object) = exits_last who object moving
is_moved_rightly moving (New (created.Task task) name level) = is_none (level_of task.0 moving.past.bases)
is_moved_rightly moving (New (created.Object object) name level) = is_none (level_of object.0 moving.ceilings)
is_moved_rightly moving _ = true

abbrev pub MovedOk : List TraceLine → Type 0
MovedOk = AtEachLine moving_after nothing_moving (λ moving event. IsTrue (is_moved_rightly moving event))

abbrev pub follows_moves : List TraceLine → Bool
follows_moves = follows_lines moving_after is_moved_rightly nothing_moving

-- HOLDERS STAND. At each tick, who has an action open stands in the ready queues at the ceiling of its object, or above
-- it.
abbrev pub holders_stand : Moving → Bool
holders_stand moving =
    list_all (λ action. is_from (level_of action.object moving.ceilings) (entry_of action.who moving.past.queue))
    moving.past.actions

abbrev pub HoldersStandOk : List TraceLine → Type 0
HoldersStandOk = AtEachTick moving_after nothing_moving (λ moving. IsTrue (holders_stand moving))

abbrev pub follows_holders : List TraceLine → Bool
follows_holders = follows_ticks moving_after holders_stand 0 nothing_moving

-- HOLDERS STAND LOW. At each tick, who has an action open and stood at its own level at most when it entered the first
-- of its objects stands at most at the highest of these: its own level, and the ceilings of the objects that it has
-- open.
abbrev pub is_among : Who → List Who → Bool
is_among who names = list_any (λ other. who_eq who other) names

abbrev pub is_explained : Moving → Who → Option ℕ → Bool
is_explained moving who level = is_within level (own_level who moving.past.bases moving.agent)
    || list_any (λ action. who_eq who action.who && is_within level (level_of action.object moving.ceilings))
    moving.past.actions

abbrev pub holders_stand_low : Moving → Bool
holders_stand_low moving =
    list_all (λ action. is_among action.who moving.raised
    || is_explained moving action.who (level_in (entry_of action.who moving.past.queue)))
    moving.past.actions

abbrev pub HoldersStandLowOk : List TraceLine → Type 0
HoldersStandLowOk = AtEachTick moving_after nothing_moving (λ moving. IsTrue (holders_stand_low moving))

abbrev pub follows_low_holders : List TraceLine → Bool
follows_low_holders = follows_ticks moving_after holders_stand_low 0 nothing_moving

-- ENTERS FIRST. Who enters an object, or finds one held, has in that tick been neither placed nor taken out, and has
-- neither entered nor left one.
abbrev pub touched_by : Event → List Who
touched_by (Ready who level end deadline) = who ∷ []
touched_by (Block who why) = who ∷ []
touched_by (Done task) = subject.Task task ∷ []
touched_by (Enter who object mode) = who ∷ []
touched_by (Exit who object) = who ∷ []
touched_by _ = []

abbrev pub is_fresh_entry : List Who → Event → Bool
is_fresh_entry touched (Enter who object mode) = not (is_among who touched)
is_fresh_entry touched _ = true

abbrev pub touched_at : Bool → List Who → List Who
touched_at true touched = touched
touched_at false touched = []

abbrev pub enters_from : ℕ → List Who → List TraceLine → Bool
enters_from tick touched [] = true
enters_from tick touched (line ∷ lines) = is_fresh_entry (touched_at (line.0 == tick) touched) line.1
    && enters_from line.0 (touched_by line.1 ++ touched_at (line.0 == tick) touched) lines

abbrev pub enters_first : List TraceLine → Bool
enters_first = enters_from 0 []

-- CHOICE. Behind the line that says who runs, nobody is made, placed or taken out in that tick, and nobody enters or
-- leaves an object.
abbrev pub is_choice : Event → Bool
is_choice (Run who) = true
is_choice Idle = true
is_choice _ = false

abbrev pub is_still : Event → Bool
is_still (New what name level) = false
is_still (Ready who level end deadline) = false
is_still (Block who why) = false
is_still (Done task) = false
is_still (Base task level) = false
is_still (Enter who object mode) = false
is_still (Exit who object) = false
is_still (Held who object mode) = false
is_still _ = true

-- from a tick on, and whether somebody is chosen for it
abbrev pub chooses_from : ℕ → Bool → List TraceLine → Bool
chooses_from tick chosen [] = true
chooses_from tick chosen (line ∷ lines) = (not (line.0 == tick && chosen) || is_still line.1)
    && chooses_from line.0 ((line.0 == tick && chosen) || is_choice line.1) lines

abbrev pub chooses_last : List TraceLine → Bool
chooses_last = chooses_from 0 false

-- THE PROTOCOL: lines that keep the laws of dispatching, of ceilings, of exclusion, and those above.
pub record MovesRightly (lines : List TraceLine) : Type 0 where
  pub moved : MovedOk lines
  pub holders : HoldersStandOk lines
  pub low : HoldersStandLowOk lines
  pub first : IsTrue (enters_first lines)

pub record KeepsProtocol (lines : List TraceLine) : Type 0 where
  pub rises : RisesFrom 0 lines
  pub dispatch : DispatchOk lines
  pub ceilings : CeilingOk lines
  pub exclusion : ExclusiveOk lines
  pub choice : IsTrue (chooses_last lines)
  pub moves : MovesRightly lines

abbrev pub follows_protocol : List TraceLine → Bool
follows_protocol lines = follows_order 0 lines && follows_dispatch lines && follows_ceilings lines
    && follows_exclusion lines && follows_moves lines && follows_holders lines && chooses_last lines
    && follows_low_holders lines && enters_first lines
