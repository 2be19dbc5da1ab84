-- How the ready queue is kept: its entries by their places, the place of each subject, and the entries by their ranks.
use Rattle.std.specs.Prelude.{◌≡◌, ◌≤◌, ℕ, ◌+◌, pos, not, cond, if◌then◌else◌}
use Rattle.std.specs.Prelude.{List, [], ◌∷◌, Option, Some, None, is_some}
use Rattle.std.specs.Option.{unwrap_or}
use Rattle.std.specs.declared.cmp.Ordering.{Ordering}
use Rattle.std.specs.Ordering.{nat_cmp, int_cmp, bool_cmp, on, flip_args, then_cmp, is_eq}
use Rattle.std.specs.BTreeMap.{is_at}
use Rattle.std.specs.Map.{lookup, remove_entry}
use Rattle.trace_text.specs.declared.events.Who.{Who}
use Rattle.trace_text.specs.declared.events.Who.TheVariants as subject
use Rattle.trace_text.specs.declared.events.Entry.{Entry}
use Rattle.trace_text.specs.Queue.{who_eq}
use Rattle.trace_lines.specs.declared.ranks.Rank.{Rank}

-- the number under which the place of a subject is found
abbrev pub subject_number : Who → ℕ
subject_number (subject.Task task) = task.0 + 1
subject_number subject.Agent = 0

-- the place of a subject
abbrev pub place_of : Who → List (ℕ × Entry) → Option ℕ
place_of who [] = None
place_of who (placed ∷ entries) = if who_eq who placed.1.who then Some placed.0 else place_of who entries

-- the order of ranks
abbrev pub rank_cmp : Rank → Rank → Ordering
rank_cmp =
    then_cmp (flip_args (on (λ r. r.level) nat_cmp))
    (then_cmp (on (λ r. r.is_undated) bool_cmp) (then_cmp (on (λ r. r.deadline) int_cmp) (on (λ r. r.place) nat_cmp)))

abbrev pub rank_of : ℕ → Entry → Rank
rank_of place entry = record {
  level = entry.level;
  is_undated = not (is_some entry.deadline);
  deadline = unwrap_or entry.deadline (pos 0);
  place = place;
}

-- the entry of this rank
abbrev pub ranked : Rank → List (ℕ × Entry) → Option Entry
ranked rank [] = None
ranked rank (placed ∷ entries) = if is_eq (rank_cmp (rank_of placed.0 placed.1) rank) then Some placed.1
    else ranked rank entries

-- what is at a place, if there is one
abbrev pub entry_at : Option ℕ → List (ℕ × Entry) → Option Entry
entry_at None entries = None
entry_at (Some place) entries = lookup (is_at (nat_cmp place)) entries

-- without what is at a place, if there is one
abbrev pub without_place : Option ℕ → List (ℕ × Entry) → List (ℕ × Entry)
without_place None entries = entries
without_place (Some place) entries = remove_entry (is_at (nat_cmp place)) entries

-- what a rank finds once the entry at a place is taken out
abbrev pub unranked : Option ℕ → Option Entry → Rank → Option Entry → Option Entry
unranked None entry rank found = found
unranked (Some place) None rank found = found
unranked (Some place) (Some entry) rank found = cond (is_eq (rank_cmp (rank_of place entry) rank)) None found

-- the places ascend, none is below the first, and each is below the next
abbrev pub Rises : ℕ → List (ℕ × Entry) → ℕ → Type 0
Rises first [] next = first ≤ next
Rises first (placed ∷ entries) next = (first ≤ placed.0) × Rises (placed.0 + 1) entries next

-- each subject has one entry
abbrev pub IsEachOnce : List (ℕ × Entry) → Type 0
IsEachOnce [] = Unit {0}
IsEachOnce (placed ∷ entries) = (place_of placed.1.who entries ≡ None) × IsEachOnce entries

-- what finds a place by a subject's number, and an entry by its rank, finds what the entries by their places say
pub record IsKept (entries : List (ℕ × Entry)) (places : ℕ → Option ℕ) (ranks : Rank
    → Option Entry) (first next : ℕ) : Type 0 where
  pub rises : Rises first entries next
  pub once : IsEachOnce entries
  pub places_known : (who : Who) → places (subject_number who) ≡ place_of who entries
  pub ranks_known : (rank : Rank) → ranks rank ≡ ranked rank entries
