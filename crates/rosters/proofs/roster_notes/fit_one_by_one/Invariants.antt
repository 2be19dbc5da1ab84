use Rattle.std.proofs.Common.{◌≡◌, leb, sum_by}
use Rattle.std.specs.VecDeque.Iter.{deque_iter_rest}
use Rattle.rosters.proofs.roster_notes.fit_one_by_one.Given as goal

-- the items that are to come give what all of them give
abbrev pub invariant-loop-item : goal.invariant-loop-item
invariant-loop-item g l = leb (sum_by g.T.Numbered.size (deque_iter_rest l.item-iterator)) l.left ≡ leb (sum_by g.T.Numbered.size l.items.items) l.room
