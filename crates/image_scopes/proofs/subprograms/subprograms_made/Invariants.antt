use Rattle.std.proofs.Common.{◌≡◌, ◌++◌, map}
use Rattle.std.specs.VecDeque.Iter.{deque_iter_rest}
use Rattle.ada_image.specs.Layout.{subprogram_made}
use Rattle.image_scopes.proofs.subprograms.subprograms_made.Given as goal

-- the subprograms so far and those that are to come are all of them
abbrev pub invariant-loop-subprogram : goal.invariant-loop-subprogram
invariant-loop-subprogram l =
    l.made ++ map (subprogram_made l.names) (deque_iter_rest l.subprogram-iterator) ≡ map (subprogram_made l.names) l.names.subprograms
