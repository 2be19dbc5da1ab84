use Rattle.std.proofs.Common.{◌≡◌, ℕ, ◌-◌, ◌<◌, ◌≤◌, true, false, map, length, Some}
use Rattle.rosters.specs.RosterNotes.{comes_before, number_at}
use Rattle.rosters.proofs.roster_notes.place_behind.Given as goal

-- the items before low come before the number, and those from high on do not
abbrev pub invariant-loop-low : goal.invariant-loop-low
invariant-loop-low g l = record {
  ends : l.low ≤ l.high;
  inside : l.high ≤ length l.items.items;
  front : (k : ℕ) → k < l.low → comes_before l.order (number_at (map g.T.Numbered.number l.items.items) k) (Some l.number) ≡ true;
  back : (k : ℕ) → l.high ≤ k → comes_before l.order (number_at (map g.T.Numbered.number l.items.items) k) (Some l.number) ≡ false;
}

abbrev pub decreases-loop-low : goal.decreases-loop-low
decreases-loop-low g l = l.high - l.low
