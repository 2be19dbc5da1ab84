-- What a list of lines tells of the ready queues, tick by tick and line by line. Nothing here knows how the lines came
-- about.
use Rattle.std.specs.Prelude.{◌≡◌, ℕ, ℤ, pos, negsuc, ◌<◌, ◌≤◌, Bool, true, false, ◌&&◌, ◌||◌, ◌==◌}
use Rattle.std.specs.Prelude.{if◌then◌else◌, nat_lt, nat_le, List, [], ◌∷◌, ◌++◌, Option, Some, None, find}
use Rattle.trace_text.specs.declared.events.Who.{Who}
use Rattle.trace_text.specs.declared.events.Who.TheVariants as subject
use Rattle.trace_text.specs.declared.events.Entry.{Entry}
use Rattle.trace_text.specs.declared.events.QueueEnd.{QueueEnd}
use Rattle.trace_text.specs.declared.events.QueueEnd.TheVariants.{Head, Tail}
use Rattle.trace_text.specs.declared.events.Event.{Event}
use Rattle.trace_text.specs.declared.events.Event.TheVariants.{Ready, Block, Run, Idle, Done}

-- a line: its tick, and what it says
abbrev pub TraceLine : Type 0
TraceLine = ℕ × Event

-- What a list of lines shows to one that keeps a state of its own along the lines.
abbrev pub seen_from : {S : Type 0} → (S → Event → S) → S → List TraceLine → S
seen_from see s [] = s
seen_from see s (line ∷ lines) = seen_from see (see s line.1) lines

-- the lines up to a tick
abbrev pub up_to : ℕ → List TraceLine → List TraceLine
up_to tick [] = []
up_to tick (line ∷ lines) = if nat_le line.0 tick then line ∷ up_to tick lines else []

-- the last line's tick, or the given one where there is none
abbrev pub last_from : ℕ → List TraceLine → ℕ
last_from tick [] = tick
last_from tick (line ∷ lines) = last_from line.0 lines

-- ticks do not fall
abbrev pub RisesFrom : ℕ → List TraceLine → Type 0
RisesFrom tick [] = Unit {0}
RisesFrom tick (line ∷ lines) = (tick ≤ line.0) × RisesFrom line.0 lines

-- At each tick, which is after all lines up to it, for the ticks below the last line's.
abbrev pub AtEachTick : {S : Type 0} → (S → Event → S) → S → (S → Type 0) → List TraceLine → Type 0
AtEachTick see s Right lines = (tick : ℕ) → tick < last_from 0 lines → Right (seen_from see s (up_to tick lines))

-- at each line, with what the lines before it show
abbrev pub AtEachLine : {S : Type 0} → (S → Event → S) → S → (S → Event → Type 0) → List TraceLine → Type 0
AtEachLine see s Lawful lines = (front : List TraceLine) (line : TraceLine) (back : List TraceLine)
    → lines ≡ front ++ line ∷ back → Lawful (seen_from see s front) line.1

-- The same by a test that follows the lines, and asks whenever the tick changes.
abbrev pub follows_ticks : {S : Type 0} → (S → Event → S) → (S → Bool) → ℕ → S → List TraceLine → Bool
follows_ticks see right tick s [] = true
follows_ticks see right tick s (line ∷ lines) = (nat_le line.0 tick || right s)
    && follows_ticks see right line.0 (see s line.1) lines

-- The same by a test that follows the lines, and asks at each.
abbrev pub follows_lines : {S : Type 0} → (S → Event → S) → (S → Event → Bool) → S → List TraceLine → Bool
follows_lines see lawful s [] = true
follows_lines see lawful s (line ∷ lines) = lawful s line.1 && follows_lines see lawful (see s line.1) lines

abbrev pub who_eq : Who → Who → Bool
who_eq (subject.Task a) (subject.Task b) = a.0 == b.0
who_eq (subject.Task a) subject.Agent = false
who_eq subject.Agent (subject.Task b) = false
who_eq subject.Agent subject.Agent = true

abbrev pub somebody_eq : Option Who → Option Who → Bool
somebody_eq None None = true
somebody_eq None (Some b) = false
somebody_eq (Some a) None = false
somebody_eq (Some a) (Some b) = who_eq a b

-- a subject is taken out of a queue, in which an entry with a smaller place stands before one with a greater
abbrev pub without : Who → List Entry → List Entry
without who [] = []
without who (entry ∷ queue) = if who_eq who entry.who then without who queue else entry ∷ without who queue

abbrev pub entry_of : Who → List Entry → Option Entry
entry_of who queue = find (λ entry. who_eq who entry.who) queue

-- `head` places before all, `tail` behind all (D.2.1)
abbrev pub placed : QueueEnd → Entry → List Entry → List Entry
placed Head entry queue = entry ∷ without entry.who queue
placed Tail entry queue = without entry.who queue ++ entry ∷ []

abbrev pub queue_after : List Entry → Event → List Entry
queue_after queue (Ready who level end deadline) =
    placed end (record { who = who; level = level; deadline = deadline }) queue
queue_after queue (Block who why) = without who queue
queue_after queue (Done task) = without (subject.Task task) queue
queue_after queue _ = queue

-- the subject of the last `run`, and nobody after `idle`
abbrev pub runner_after : Option Who → Event → Option Who
runner_after runner (Run who) = Some who
runner_after runner Idle = None
runner_after runner _ = runner

abbrev pub int_before : ℤ → ℤ → Bool
int_before (pos a) (pos b) = nat_lt a b
int_before (pos a) (negsuc b) = false
int_before (negsuc a) (pos b) = true
int_before (negsuc a) (negsuc b) = nat_lt b a

-- a deadline is earlier than a later one, and than none
abbrev pub is_earlier : Option ℤ → Option ℤ → Bool
is_earlier None second = false
is_earlier (Some a) None = true
is_earlier (Some a) (Some b) = int_before a b

-- of a higher level, or of the same level with an earlier deadline (D.2.1, D.2.6)
abbrev pub goes_before : Entry → Entry → Bool
goes_before a b = nat_lt b.level a.level || (a.level == b.level && is_earlier a.deadline b.deadline)

-- The one before which no other goes; of several such the one with the smallest place.
abbrev pub first_of : Entry → Option Entry → Entry
first_of entry None = entry
first_of entry (Some other) = if goes_before other entry then other else entry

abbrev pub head_of : List Entry → Option Entry
head_of [] = None
head_of (entry ∷ queue) = Some (first_of entry (head_of queue))

abbrev pub who_of : Option Entry → Option Who
who_of None = None
who_of (Some entry) = Some entry.who

-- what the law of dispatching looks at
pub record Sight : Type 0 where
  pub queue : List Entry
  pub runner : Option Who

abbrev pub nothing_seen : Sight
nothing_seen = record { queue = []; runner = None }

abbrev pub see : Sight → Event → Sight
see sight event = record { queue = queue_after sight.queue event; runner = runner_after sight.runner event }
