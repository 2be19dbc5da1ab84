-- The laws that the lines of a run keep, as laws on lists of lines, and beside each a test that computes.
use Rattle.std.specs.Prelude.{◌≡◌, ℕ, ◌+◌, Bool, true, false, not, ◌&&◌, ◌||◌, ◌==◌, if◌then◌else◌, nat_lt}
use Rattle.std.specs.Prelude.{nat_le, IsTrue, List, [], ◌∷◌, ◌++◌, Option, Some, None, length, ℤ, is_some}
use Rattle.std.specs.List.{list_all, list_any}
use Rattle.trace_text.specs.declared.lines.TheConstants.{LAST_TICK}
use Rattle.trace_text.specs.declared.events.Who.{Who}
use Rattle.trace_text.specs.declared.events.Entry.{Entry}
use Rattle.trace_text.specs.declared.events.Action.{Action}
use Rattle.trace_text.specs.declared.events.Who.TheVariants as subject
use Rattle.trace_text.specs.declared.events.Created.TheVariants as created
use Rattle.trace_text.specs.declared.events.Mode.{Mode}
use Rattle.trace_text.specs.declared.events.Mode.TheVariants as mode
use Rattle.trace_text.specs.declared.events.Event.{Event}
use Rattle.trace_text.specs.declared.events.Event.TheVariants.{New, Ready, Block, Run, Idle, Base, Deadline}
use Rattle.trace_text.specs.declared.events.Event.TheVariants.{Quantum, Done, Raise, Put, Call, Start, Finish}
use Rattle.trace_text.specs.declared.events.Event.TheVariants.{Cancel, Gone, Enter, Exit, Held, Abort, Trigger}
use Rattle.trace_text.specs.declared.events.Event.TheVariants.{Leave, Init, Final, Left, Replace, Release, Serve}
use Rattle.trace_text.specs.declared.events.Event.TheVariants.{Served, Interrupt, Port, Mask, Unmask, Masked, End}
use Rattle.trace_text.specs.Queue.{TraceLine, Sight, see, nothing_seen, follows_ticks, follows_lines, AtEachTick}
use Rattle.trace_text.specs.Queue.{AtEachLine, RisesFrom, queue_after, entry_of, head_of, who_of, who_eq, somebody_eq}

-- DISPATCHING. At each tick the runner is the one in the queue of the highest level, then of the earliest deadline,
-- then of the smallest place, and nobody exactly where the queue is empty (D.2.1, D.2.3, D.2.6).
abbrev pub DispatchOk : List TraceLine → Type 0
DispatchOk = AtEachTick see nothing_seen (λ sight. sight.runner ≡ who_of (head_of sight.queue))

abbrev pub follows_dispatch : List TraceLine → Bool
follows_dispatch = follows_ticks see (λ sight. somebody_eq sight.runner (who_of (head_of sight.queue))) 0 nothing_seen

-- CEILINGS. At each `enter` the subject's level in the queue is at most the ceiling of the object's `new` line, and
-- where its entry carries a deadline its last base is too (D.3).
pub record Levels : Type 0 where
  pub entries : List Entry
  pub ceilings : List (ℕ × ℕ)
  pub bases : List (ℕ × ℕ)

abbrev pub no_levels : Levels
no_levels = record { entries = []; ceilings = []; bases = [] }

abbrev pub level_of : ℕ → List (ℕ × ℕ) → Option ℕ
level_of number [] = None
level_of number (pair ∷ pairs) = if number == pair.0 then Some pair.1 else level_of number pairs

abbrev pub ceilings_after : List (ℕ × ℕ) → Event → List (ℕ × ℕ)
ceilings_after ceilings (New (created.Object object) name level) = (object.0, level) ∷ ceilings
ceilings_after ceilings _ = ceilings

abbrev pub bases_after : List (ℕ × ℕ) → Event → List (ℕ × ℕ)
bases_after bases (New (created.Task task) name level) = (task.0, level) ∷ bases
bases_after bases (Base task level) = (task.0, level) ∷ bases
bases_after bases _ = bases

abbrev pub see_levels : Levels → Event → Levels
see_levels sight event = record {
  entries = queue_after sight.entries event;
  ceilings = ceilings_after sight.ceilings event;
  bases = bases_after sight.bases event;
}

abbrev pub is_at_most : Option ℕ → ℕ → Bool
is_at_most None limit = false
is_at_most (Some level) limit = nat_le level limit

abbrev pub base_of : Who → List (ℕ × ℕ) → Option ℕ
base_of (subject.Task task) bases = level_of task.0 bases
base_of subject.Agent bases = None

-- where there is a deadline the base is looked at too
abbrev pub is_base_below : Option ℤ → Option ℕ → ℕ → Bool
is_base_below None base ceiling = true
is_base_below (Some deadline) base ceiling = is_at_most base ceiling

abbrev pub is_entry_below : Option Entry → Option ℕ → Option ℕ → Bool
is_entry_below None base ceiling = false
is_entry_below (Some entry) base None = false
is_entry_below (Some entry) base (Some ceiling) = nat_le entry.level ceiling
    && is_base_below entry.deadline base ceiling

abbrev pub is_below_ceiling : Levels → Event → Bool
is_below_ceiling sight (Enter who object m) =
    is_entry_below (entry_of who sight.entries) (base_of who sight.bases) (level_of object.0 sight.ceilings)
is_below_ceiling sight _ = true

abbrev pub CeilingOk : List TraceLine → Type 0
CeilingOk = AtEachLine see_levels no_levels (λ sight event. IsTrue (is_below_ceiling sight event))

abbrev pub follows_ceilings : List TraceLine → Bool
follows_ceilings = follows_lines see_levels is_below_ceiling no_levels

-- EXCLUSION. `enter` opens an action, `exit` closes one of the same subject that is open. No write is open beside
-- another action on its object. `held` stands only where another subject has the object open and one of both writes
-- (9.5.1).
abbrev pub is_write : Mode → Bool
is_write mode.Read = false
is_write mode.Write = true

-- the action that was opened last of these of a subject is taken out
abbrev pub closed : ℕ → Who → List Action → List Action
closed object who [] = []
closed object who (action ∷ actions) = if object == action.object && who_eq who action.who then actions
    else action ∷ closed object who actions

abbrev pub actions_after : List Action → Event → List Action
actions_after actions (Enter who object m) = record { object = object.0; who = who; mode = m } ∷ actions
actions_after actions (Exit who object) = closed object.0 who actions
actions_after actions _ = actions

-- an open action is on another object, or both read
abbrev pub is_beside : ℕ → Mode → Action → Bool
is_beside object m action = not (object == action.object) || not (is_write m || is_write action.mode)

abbrev pub is_exclusive : List Action → Event → Bool
is_exclusive actions (Enter who object m) = list_all (is_beside object.0 m) actions
is_exclusive actions (Exit who object) = list_any (λ action. object.0 == action.object && who_eq who action.who) actions
is_exclusive actions (Held who object m) =
    list_any (λ action. object.0 == action.object && not (who_eq who action.who)
    && (is_write m || is_write action.mode)) actions
is_exclusive actions _ = true

abbrev pub ExclusiveOk : List TraceLine → Type 0
ExclusiveOk = AtEachLine actions_after [] (λ actions event. IsTrue (is_exclusive actions event))

abbrev pub follows_exclusion : List TraceLine → Bool
follows_exclusion = follows_lines actions_after is_exclusive []

-- HANDLERS. `release`, `serve` and `served` lines each bear the numbers 1, 2, 3 and so on. No release is served before
-- it was released or while another is served. At each tick the agent is in the queue exactly where some release is not
-- yet served, and where it runs exactly one release is being served.
pub record Releases : Type 0 where
  pub sight : Sight
  pub released : ℕ
  pub begun : ℕ
  pub served : ℕ
  pub serving : List ℕ

abbrev pub no_releases : Releases
no_releases = record { sight = nothing_seen; released = 0; begun = 0; served = 0; serving = [] }

abbrev pub one_off : ℕ → List ℕ → List ℕ
one_off number [] = []
one_off number (other ∷ numbers) = if number == other then one_off number numbers else other ∷ one_off number numbers

abbrev pub count_release : Releases → Event → Releases
count_release state (Release number object handler) = record state { released = state.released + 1 }
count_release state (Serve number) = record state {
  begun = state.begun + 1;
  serving = number ∷ one_off number state.serving;
}
count_release state (Served number) = record state { served = state.served + 1; serving = one_off number state.serving }
count_release state _ = state

abbrev pub see_releases : Releases → Event → Releases
see_releases state event = record (count_release state event) { sight = see state.sight event }

abbrev pub is_in_order : Releases → Event → Bool
is_in_order state (Release number object handler) = number == state.released + 1
is_in_order state (Serve number) = number == state.begun + 1 && nat_le number state.released
    && length state.serving == 0
is_in_order state (Served number) = number == state.served + 1 && nat_le number state.released
is_in_order state _ = true

abbrev pub is_same : Bool → Bool → Bool
is_same true b = b
is_same false b = not b

abbrev pub is_agent_right : Releases → Bool
is_agent_right state =
    is_same (is_some (entry_of subject.Agent state.sight.queue)) (nat_lt state.served state.released)
    && (not (somebody_eq state.sight.runner (Some subject.Agent)) || length state.serving == 1)

pub record HandlersOk (lines : List TraceLine) : Type 0 where
  pub in_order : AtEachLine see_releases no_releases (λ state event. IsTrue (is_in_order state event)) lines
  pub agent : AtEachTick see_releases no_releases (λ state. IsTrue (is_agent_right state)) lines

abbrev pub follows_handlers : List TraceLine → Bool
follows_handlers lines = follows_lines see_releases is_in_order no_releases lines
    && follows_ticks see_releases is_agent_right 0 no_releases lines

-- LEAVING. Each region has at most one `leave` and behind it at most one `left`. The `init` lines of a region stand
-- before its `leave`, the `final` lines of its objects between both; these name, in order, a front of the reverse of
-- its `init` lines, and the whole reverse where `left` stands. No other `final` line exists. A `replace` line stands
-- behind the `init` line of its object and before its `final` line (7.6.1). What is looked at are the events before,
-- the last first.
abbrev pub is_left_before : ℕ → List Event → Bool
is_left_before region [] = false
is_left_before region (Left who r ∷ past) = region == r.0 || is_left_before region past
is_left_before region (_ ∷ past) = is_left_before region past

abbrev pub is_leaving : ℕ → List Event → Bool
is_leaving region [] = false
is_leaving region (Leave who r how ∷ past) = region == r.0 || is_leaving region past
is_leaving region (_ ∷ past) = is_leaving region past

-- the objects of a region, the last first
abbrev pub inits_of : ℕ → List Event → List ℕ
inits_of region [] = []
inits_of region (Init who object r name ∷ past) = if region == r.0 then object ∷ inits_of region past
    else inits_of region past
inits_of region (_ ∷ past) = inits_of region past

-- the regions of an object
abbrev pub regions_of : ℕ → List Event → List ℕ
regions_of object [] = []
regions_of object (Init who o region name ∷ past) = if object == o then region.0 ∷ regions_of object past
    else regions_of object past
regions_of object (_ ∷ past) = regions_of object past

abbrev pub has : ℕ → List ℕ → Bool
has number = list_any (λ other. number == other)

-- the objects of these that were finalized, the first first
abbrev pub finals_among : List ℕ → List Event → List ℕ
finals_among objects [] = []
finals_among objects (Final who object ∷ past) = if has object objects
    then finals_among objects past ++ object ∷ [] else finals_among objects past
finals_among objects (_ ∷ past) = finals_among objects past

abbrev pub is_final_before : ℕ → List Event → Bool
is_final_before object [] = false
is_final_before object (Final who o ∷ past) = object == o || is_final_before object past
is_final_before object (_ ∷ past) = is_final_before object past

abbrev pub is_front_of : List ℕ → List ℕ → Bool
is_front_of [] numbers = true
is_front_of (a ∷ front) [] = false
is_front_of (a ∷ front) (b ∷ numbers) = a == b && is_front_of front numbers

abbrev pub is_next_final : ℕ → List Event → ℕ → Bool
is_next_final object past region =
    is_leaving region past && not (is_left_before region past)
    && is_front_of (finals_among (inits_of region past) past ++ object ∷ []) (inits_of region past)

abbrev pub is_rightly_left : List Event → Event → Bool
is_rightly_left past (Leave who region how) = not (is_leaving region.0 past)
is_rightly_left past (Left who region) =
    is_leaving region.0 past && not (is_left_before region.0 past)
    && is_front_of (inits_of region.0 past) (finals_among (inits_of region.0 past) past)
is_rightly_left past (Init who object region name) = not (is_leaving region.0 past) && not (is_final_before object past)
is_rightly_left past (Final who object) = not (length (regions_of object past) == 0)
    && list_all (is_next_final object past) (regions_of object past)
is_rightly_left past (Replace who object) = not (length (regions_of object past) == 0)
    && not (is_final_before object past)
is_rightly_left past _ = true

abbrev pub remember : List Event → Event → List Event
remember past event = event ∷ past

abbrev pub LeftOk : List TraceLine → Type 0
LeftOk = AtEachLine remember [] (λ past event. IsTrue (is_rightly_left past event))

abbrev pub follows_leaving : List TraceLine → Bool
follows_leaving = follows_lines remember is_rightly_left []

-- WHAT A TRACE IS. Ticks do not fall and are at most 1,000,000,000. No subject has two `new` lines; every other line of
-- a task, and every `enter`, `exit` and `held` of an object, stands behind the `new` line of that task or object. The
-- subject of an `enter` is then in the queue. A `ready` line of the agent has no deadline. Nothing follows an `end`
-- line.
pub record Shape : Type 0 where
  pub queue : List Entry
  pub tasks : List ℕ
  pub objects : List ℕ
  pub is_ended : Bool

abbrev pub no_shape : Shape
no_shape = record { queue = []; tasks = []; objects = []; is_ended = false }

abbrev pub named_after : Shape → Event → Shape
named_after shape (New (created.Task task) name level) = record shape { tasks = task.0 ∷ shape.tasks }
named_after shape (New (created.Object object) name level) = record shape { objects = object.0 ∷ shape.objects }
named_after shape (End why) = record shape { is_ended = true }
named_after shape _ = shape

abbrev pub see_shape : Shape → Event → Shape
see_shape shape event = record (named_after shape event) { queue = queue_after shape.queue event }

abbrev pub is_known : Shape → Who → Bool
is_known shape (subject.Task task) = has task.0 shape.tasks
is_known shape subject.Agent = true

abbrev pub is_ready_formed : Who → Option ℤ → Bool
is_ready_formed (subject.Task task) deadline = true
is_ready_formed subject.Agent None = true
is_ready_formed subject.Agent (Some deadline) = false

abbrev pub is_subject_formed : Shape → Event → Bool
is_subject_formed shape (New (created.Task task) name level) = not (has task.0 shape.tasks)
is_subject_formed shape (New (created.Object object) name level) = not (has object.0 shape.objects)
is_subject_formed shape (Ready who level end deadline) = is_known shape who && is_ready_formed who deadline
is_subject_formed shape (Block who why) = is_known shape who
is_subject_formed shape (Run who) = is_known shape who
is_subject_formed shape Idle = true
is_subject_formed shape (Base task level) = has task.0 shape.tasks
is_subject_formed shape (Deadline task deadline) = has task.0 shape.tasks
is_subject_formed shape (Quantum task) = has task.0 shape.tasks
is_subject_formed shape (Done task) = has task.0 shape.tasks
is_subject_formed shape (Raise who name) = is_known shape who
is_subject_formed shape (Put who text) = is_known shape who
is_subject_formed shape (Call task call entry priority) = has task.0 shape.tasks
is_subject_formed shape (Start who call) = is_known shape who
is_subject_formed shape (Finish who call how) = is_known shape who
is_subject_formed shape (Cancel task call) = has task.0 shape.tasks
is_subject_formed shape (Gone task call) = has task.0 shape.tasks
is_subject_formed shape (Enter who object m) = is_known shape who && has object.0 shape.objects
    && is_some (entry_of who shape.queue)
is_subject_formed shape (Exit who object) = is_known shape who && has object.0 shape.objects
is_subject_formed shape (Held who object m) = is_known shape who && has object.0 shape.objects
is_subject_formed shape (Abort task victim) = has task.0 shape.tasks
is_subject_formed shape (Trigger task) = has task.0 shape.tasks
is_subject_formed shape (Leave who region how) = is_known shape who
is_subject_formed shape (Init who object region name) = is_known shape who
is_subject_formed shape (Final who object) = is_known shape who
is_subject_formed shape (Left who region) = is_known shape who
is_subject_formed shape (Replace who object) = is_known shape who
is_subject_formed shape (Release release object handler) = true
is_subject_formed shape (Serve release) = true
is_subject_formed shape (Served release) = true
is_subject_formed shape (Interrupt number) = true
is_subject_formed shape (Port number value) = true
is_subject_formed shape (Mask number) = true
is_subject_formed shape (Unmask number) = true
is_subject_formed shape (Masked number) = true
is_subject_formed shape (End why) = true

abbrev pub is_formed_next : Shape → Event → Bool
is_formed_next shape event = not shape.is_ended && is_subject_formed shape event

-- no tick is above the greatest
abbrev pub AreTicksBounded : List TraceLine → Type 0
AreTicksBounded [] = Unit {0}
AreTicksBounded (line ∷ lines) = IsTrue (nat_le line.0 LAST_TICK) × AreTicksBounded lines

pub record Formed (lines : List TraceLine) : Type 0 where
  pub rises : RisesFrom 0 lines
  pub bounded : AreTicksBounded lines
  pub lines_formed : AtEachLine see_shape no_shape (λ shape event. IsTrue (is_formed_next shape event)) lines

abbrev pub follows_order : ℕ → List TraceLine → Bool
follows_order tick [] = true
follows_order tick (line ∷ lines) = nat_le tick line.0 && nat_le line.0 LAST_TICK && follows_order line.0 lines

abbrev pub follows_form : List TraceLine → Bool
follows_form lines = follows_order 0 lines && follows_lines see_shape is_formed_next no_shape lines

-- the five laws
pub record KeepsLaws (lines : List TraceLine) : Type 0 where
  pub dispatch : DispatchOk lines
  pub ceilings : CeilingOk lines
  pub exclusion : ExclusiveOk lines
  pub handlers : HandlersOk lines
  pub leaving : LeftOk lines

abbrev pub follows_laws : List TraceLine → Bool
follows_laws lines = follows_dispatch lines && follows_ceilings lines && follows_exclusion lines
    && follows_handlers lines && follows_leaving lines
