-- What a list or a table ends as, where a `&mut` to one of its items is returned.
use Rattle.std.specs.Prelude.{ℕ, List, Option, slice_set}
use Rattle.std.specs.Borrow.{Lends, LendsIf, Fml, RattleType, MutBor}
use Rattle.world_tables.specs.Tables.{with_item}
use Rattle.world_tables.specs.contracts.lists.List.{the_row as list_row}
use Rattle.world_tables.specs.contracts.tables.Table.{the_row as table_row}

-- the list ends with the last value behind r at this place, and at `None` stays as it is
abbrev pub lends_place : (T : RattleType) → MutBor (List T.Denot) → ℕ → Option (MutBor T.Denot) → Fml
lends_place T s place r = LendsIf (list_row T) T s r (slice_set s.now place) s.now

-- the table ends with the last value behind r under this number, and at `None` stays as it is
abbrev pub lends_number : (T : RattleType) → MutBor (List (ℕ × T.Denot)) → ℕ → Option (MutBor T.Denot) → Fml
lends_number T s number r = LendsIf (table_row T) T s r (λ w. with_item number w s.now) s.now

-- the table ends with the last value behind r under this number
abbrev pub lends_item : (T : RattleType) → MutBor (List (ℕ × T.Denot)) → ℕ → MutBor T.Denot → Fml
lends_item T s number r = Lends (table_row T) T s r (λ w. with_item number w s.now)
