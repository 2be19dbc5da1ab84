use Rattle.std.proofs.Common.{◌≡◌}
use Rattle.std.specs.List.{list_any}
use Rattle.std.specs.VecDeque.Iter.{deque_iter_rest}
use Rattle.rosters.proofs.roster_notes.none_stirs.Given as goal

-- the items that are to come give what all of them give
abbrev pub invariant-loop-item : goal.invariant-loop-item
invariant-loop-item g l = list_any g.T.Numbered.stirs (deque_iter_rest l.item-iterator) ≡ list_any g.T.Numbered.stirs l.items.items
