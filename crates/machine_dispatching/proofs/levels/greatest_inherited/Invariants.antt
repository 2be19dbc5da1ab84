use Rattle.std.proofs.Common.{◌≡◌, map}
use Rattle.std.specs.VecDeque.Iter.{deque_iter_rest}
use Rattle.profile_image.specs.Words.{greatest_of}
use Rattle.machine_dispatching.proofs.levels.greatest_inherited.Given as goal

-- the levels that are to come and the greatest so far give what all give
abbrev pub invariant-loop-i : goal.invariant-loop-i
invariant-loop-i l = greatest_of (map (λ i. i.level) (deque_iter_rest l.i-iterator)) l.greatest ≡ greatest_of (map (λ i. i.level) l.inherited) l.least
