use Rattle.std.proofs.Common.{◌≡◌, ◌++◌}
use Rattle.std.specs.VecDeque.Iter.{deque_iter_rest}
use Rattle.machine_releases.specs.Ticks.{reached_in}
use Rattle.machine_releases.proofs.ticks.add_reached.Given as goal

-- those that are due, and those of the timers that are to come, are all
abbrev pub invariant-loop-k : goal.invariant-loop-k
invariant-loop-k l = l.due ++ reached_in l.t l.clock l.timers (deque_iter_rest l.k-iterator) ≡ l.initial.due ++ reached_in l.t l.clock l.timers l.set
