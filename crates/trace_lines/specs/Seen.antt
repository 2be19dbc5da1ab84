-- What is kept of a list of lines: facts of the list, and none of its lines.
use Rattle.std.specs.Prelude.{◌≡◌, ℕ, Bool, true, false, ◌&&◌, nat_le, ℤ, List}
use Rattle.std.specs.Prelude.{[], ◌∷◌, ◌++◌, Option, Some, None, Result, Ok, Err}
use Rattle.std.specs.Ordering.{nat_cmp}
use Rattle.std.specs.BTreeMap.{insert_entry}
use Rattle.std.specs.Map.{keys_of}
use Rattle.ann_base.specs.declared.faults.OrMemory.{OrMemory}
use Rattle.ann_base.specs.declared.faults.OrMemory.TheVariants as answer
use Rattle.trace_text.specs.declared.lines.TheConstants.{LAST_TICK}
use Rattle.trace_text.specs.declared.events.Who.{Who}
use Rattle.trace_text.specs.declared.events.Entry.{Entry}
use Rattle.trace_text.specs.declared.events.Created.TheVariants as created
use Rattle.trace_text.specs.declared.events.Event.{Event}
use Rattle.trace_text.specs.declared.events.Event.TheVariants.{New, Base, End}
use Rattle.trace_text.specs.Queue.{TraceLine, queue_after, runner_after}
use Rattle.trace_text.specs.Laws.{Shape, is_formed_next}

-- The last tick, whether an `end` line came, who runs, the ready queue, the last base of each task that has a `new`
-- line and the ceiling of each object that has one, in the order of their numbers.
pub record Seen : Type 0 where
  pub tick : ℕ
  pub is_ended : Bool
  pub runner : Option Who
  pub queue : List Entry
  pub bases : List (ℕ × ℕ)
  pub ceilings : List (ℕ × ℕ)

abbrev pub nothing_kept : Seen
nothing_kept = record { tick = 0; is_ended = false; runner = None; queue = []; bases = []; ceilings = [] }

abbrev pub ended_after : Bool → Event → Bool
ended_after is_ended (End why) = true
ended_after is_ended _ = is_ended

abbrev pub kept_bases : List (ℕ × ℕ) → Event → List (ℕ × ℕ)
kept_bases bases (New (created.Task task) name level) = insert_entry nat_cmp bases task.0 level
kept_bases bases (Base task level) = insert_entry nat_cmp bases task.0 level
kept_bases bases _ = bases

abbrev pub kept_ceilings : List (ℕ × ℕ) → Event → List (ℕ × ℕ)
kept_ceilings ceilings (New (created.Object object) name level) = insert_entry nat_cmp ceilings object.0 level
kept_ceilings ceilings _ = ceilings

-- one line more
abbrev pub see_line : Seen → TraceLine → Seen
see_line seen line = record {
  tick = line.0;
  is_ended = ended_after seen.is_ended line.1;
  runner = runner_after seen.runner line.1;
  queue = queue_after seen.queue line.1;
  bases = kept_bases seen.bases line.1;
  ceilings = kept_ceilings seen.ceilings line.1;
}

abbrev pub seen_after : Seen → List TraceLine → Seen
seen_after seen [] = seen
seen_after seen (line ∷ lines) = seen_after (see_line seen line) lines

abbrev pub seen_of : List TraceLine → Seen
seen_of = seen_after nothing_kept

-- what is kept stands for a list of lines
abbrev pub StandsFor : Seen → List TraceLine → Type 0
StandsFor seen lines = seen ≡ seen_of lines

-- the list with one line more
abbrev pub with_line : List TraceLine → ℕ → Event → List TraceLine
with_line lines tick event = lines ++ (tick, event) ∷ []

-- what the form of a further line depends on
abbrev pub shape_of : Seen → Shape
shape_of seen = record {
  queue = seen.queue;
  tasks = keys_of seen.bases;
  objects = keys_of seen.ceilings;
  is_ended = seen.is_ended;
}

-- a formed list stays formed with this line
abbrev pub is_formed_after : Seen → ℕ → Event → Bool
is_formed_after seen tick event = nat_le seen.tick tick && nat_le tick LAST_TICK && is_formed_next (shape_of seen) event

-- the answer is the call's own fault
abbrev pub IsFault : {X F : Type 0} → Result X (OrMemory F) → Type 0
IsFault (Ok x) = ⊥
IsFault (Err (answer.Fault fault)) = Unit {0}
IsFault (Err answer.Memory) = ⊥

abbrev pub level_in : Option Entry → Option ℕ
level_in None = None
level_in (Some entry) = Some entry.level

abbrev pub deadline_in : Option Entry → Option ℤ
deadline_in None = None
deadline_in (Some entry) = entry.deadline
