-- Looking at windows a chunk at a time, and where the look ends.
use Rattle.std.specs.Prelude.{◌≡◌, ◌<◌, ℕ, ◌+◌, List, length, slice_index}
use Rattle.sched_tests.specs.declared.duties.TheConstants.{LONGEST}
use Rattle.sched_tests.specs.declared.demands.TheConstants.{CHUNK}
use Rattle.sched_tests.specs.declared.duties.Duty.{Duty}
use Rattle.sched_tests.specs.declared.demands.ChunkEnd.{ChunkEnd}
use Rattle.sched_tests.specs.declared.demands.ChunkEnd.TheVariants.{Over, Within}
use Rattle.sched_tests.specs.Least.{IsLeast, IsNever}
use Rattle.sched_tests.specs.Demand.{due_in, demand, IsOver}

-- A list has behind each place what becomes due of a duty in the window that ends there, beside what it had.
abbrev pub HasDueOf : ℕ → Duty → List ℕ → List ℕ → Type 0
HasDueOf base duty before after = (k : ℕ) → k < length before
    → slice_index after k + due_in (base + k) duty ≡ slice_index before k + due_in (base + k + 1) duty

-- the list has what becomes due of all duties
abbrev pub HasDue : ℕ → List Duty → List ℕ → Type 0
HasDue base duties due = (k : ℕ) → k < length due
    → slice_index due k + demand duties (base + k) ≡ demand duties (base + k + 1)

-- the first window that is overrun, with its demand; or none up to the end of the chunk, with the demand there
abbrev pub IsChunkEnd : List Duty → ℕ → ChunkEnd → Type 0
IsChunkEnd duties base (Over window total) = IsLeast (IsOver duties) LONGEST window × (total ≡ demand duties window)
IsChunkEnd duties base (Within total) = IsNever (IsOver duties) (base + CHUNK) × (total ≡ demand duties (base + CHUNK))
