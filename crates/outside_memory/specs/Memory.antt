-- A shelf and a sink in memory as contracts see them: which calls fail, how much a call moves.
use Rattle.std.specs.Prelude.{◌<◌, ◌≤◌, ◌+◌, ◌-◌, ◌^◌, ℕ, nat_eq, Bool, true, false, cond, List, [], ◌++◌, Option}
use Rattle.std.specs.Prelude.{Some, None, Result, Ok, Err, length, take, drop, min, ◌||◌, nat_lt, vec_capacity}
use Rattle.std.specs.List.{list_any}
use Rattle.outside_memory.specs.MemoryState.{ShelfState, SinkState}
use Rattle.outside_memory.specs.Files.{files_of, first_named, file_at, StandsAt, moved}
use Rattle.outside_memory.specs.declared.memory.Picked.{Picked}
use Rattle.outside_memory.specs.declared.memory.MemShelf.TheInside as shelf
use Rattle.outside_memory.specs.declared.memory.MemSink.TheInside as sink
use Rattle.ann_base.specs.declared.faults.Failed.{Failed}

abbrev pub told_at : List (List ℕ × List ℕ) → Option Picked → Option (List ℕ × ℕ)
told_at files None = None
told_at files (Some picked) = Some ((file_at files picked.file).0, picked.offset)

abbrev pub IsPicked : List (List ℕ × List ℕ) → Option Picked → Type 0
IsPicked files None = Unit {0}
IsPicked files (Some picked) = StandsAt files (file_at files picked.file).0 picked.file
    × (picked.offset ≤ length (file_at files picked.file).1)

abbrev pub shelf_state : shelf.Inside → ShelfState
shelf_state inside = record {
  files = files_of inside.files.items;
  most = inside.most;
  fails = inside.fails.items;
  calls = inside.calls;
  faults = inside.faults;
  at = told_at (files_of inside.files.items) inside.picked;
}

abbrev pub IsShelf : shelf.Inside → Type 0
IsShelf inside = (0 < inside.most) × IsPicked (files_of inside.files.items) inside.picked

-- Counts are of 64 bits and stay at their end.
abbrev pub one_more : ℕ → ℕ
one_more count = min (count + 1) (2 ^ 64 - 1)

-- whether the call that follows so many is one of those that fail
abbrev pub next_fails : List ℕ → ℕ → Bool
next_fails fails calls = list_any (nat_eq (one_more calls)) fails

abbrev pub faults_after : Bool → ℕ → ℕ
faults_after failing faults = cond failing (one_more faults) faults

-- what a pick answers and leaves
abbrev pub pick_answer : Bool → Option (List ℕ) → Result (Unit {0}) Failed
pick_answer true found = Err (record {})
pick_answer false None = Err (record {})
pick_answer false (Some bytes) = Ok tt

abbrev pub picked_at : Bool → Option (List ℕ) → List ℕ → Option (List ℕ × ℕ)
picked_at true found name = None
picked_at false None name = None
picked_at false (Some bytes) name = Some (name, 0)

abbrev pub after_pick : ShelfState → List ℕ → ShelfState
after_pick s name = record s {
  calls = one_more s.calls;
  faults = faults_after (next_fails s.fails s.calls) s.faults;
  at = picked_at (next_fails s.fails s.calls) (first_named s.files name) name;
}

-- what a read answers and leaves
abbrev pub rest_of : Option (List ℕ) → ℕ → List ℕ
rest_of None offset = []
rest_of (Some bytes) offset = drop offset bytes

abbrev pub rest_at : List (List ℕ × List ℕ) → Option (List ℕ × ℕ) → List ℕ
rest_at files None = []
rest_at files (Some at) = rest_of (first_named files at.0) at.1

abbrev pub read_answer : ShelfState → ℕ → Result ℕ Failed
read_answer s asked =
    cond (next_fails s.fails s.calls) (Err (record {})) (Ok (moved s.most asked (length (rest_at s.files s.at))))

abbrev pub moved_at : Option (List ℕ × ℕ) → ℕ → Option (List ℕ × ℕ)
moved_at None count = None
moved_at (Some at) count = Some (at.0, at.1 + count)

abbrev pub after_read : ShelfState → ℕ → ShelfState
after_read s asked = record s {
  calls = one_more s.calls;
  faults = faults_after (next_fails s.fails s.calls) s.faults;
  at = cond (next_fails s.fails s.calls) s.at (moved_at s.at (moved s.most asked (length (rest_at s.files s.at))));
}

-- A sink keeps at most `room` bytes: a write that no longer fits fails.
abbrev pub write_fails : SinkState → ℕ → Bool
write_fails s asked = next_fails s.fails s.calls || nat_lt (s.room - length s.held) (min s.most asked)

abbrev pub write_answer : SinkState → ℕ → Result ℕ Failed
write_answer s asked = cond (write_fails s asked) (Err (record {})) (Ok (min s.most asked))

abbrev pub after_write : SinkState → List ℕ → SinkState
after_write s piece = record s {
  held = cond (write_fails s (length piece)) s.held (s.held ++ take (min s.most (length piece)) piece);
  calls = one_more s.calls;
  faults = faults_after (write_fails s (length piece)) s.faults;
}

abbrev pub sink_state : sink.Inside → SinkState
sink_state inside = record {
  held = inside.held.items;
  room = inside.room;
  most = inside.most;
  fails = inside.fails.items;
  calls = inside.calls;
  faults = inside.faults;
}

abbrev pub IsSink : sink.Inside → Type 0
IsSink inside = (0 < inside.most) × (length inside.held.items ≤ inside.room) × (inside.room ≤ vec_capacity inside.held)
