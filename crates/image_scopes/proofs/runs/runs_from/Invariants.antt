use Rattle.std.proofs.Common.{◌≡◌, ◌++◌}
use Rattle.std.specs.List.{filter}
use Rattle.std.specs.VecDeque.Iter.{deque_iter_rest}
use Rattle.ada_image.specs.Layout.{is_in_scope, runs_from}
use Rattle.image_scopes.proofs.runs.runs_from.Given as goal

-- the runs so far and those of the declarations that are to come are all of them
abbrev pub invariant-loop-declaration : goal.invariant-loop-declaration
invariant-loop-declaration l =
    l.runs ++ runs_from l.names l.place (filter (is_in_scope l.scope) (deque_iter_rest l.declaration-iterator))
    ≡ l.fn.runs ++ runs_from l.names 0 (filter (is_in_scope l.scope) l.names.declarations)
