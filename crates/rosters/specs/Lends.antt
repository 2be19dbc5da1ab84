-- What a roster ends as, where a `&mut` to one of its items is returned.
use Rattle.std.specs.Prelude.{ℕ, List, Option, slice_set}
use Rattle.std.specs.Borrow.{LendsIf, Fml, RattleType, MutBor}
use Rattle.rosters.specs.declared.roster.Numbered.{Ghosts}
use Rattle.rosters.specs.contracts.roster.Roster.{the_row as roster_row}

-- the roster ends with the last value behind r at this place, and at `None` stays as it is
abbrev pub lends_item : (T : RattleType) → Ghosts T.Denot → MutBor (List T.Denot) → ℕ → Option (MutBor T.Denot) → Fml
lends_item T numbered s place r = LendsIf (roster_row T numbered) T s r (slice_set s.now place) s.now
