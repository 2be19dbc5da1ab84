use Rattle.std.proofs.Common.{◌≡◌}
use Rattle.std.specs.VecDeque.Iter.{deque_iter_rest}
use Rattle.ada_regions.specs.Visibility.{innermost_binding}
use Rattle.ada_visibility.proofs.direct.innermost_binding.Given as goal

-- the frames that are to come give what all of them give
abbrev pub invariant-loop-frame : goal.invariant-loop-frame
invariant-loop-frame l = innermost_binding l.bindings l.name (deque_iter_rest l.frame-iterator) ≡ innermost_binding l.bindings l.name l.frames
