use Rattle.std.proofs.Common.{◌≡◌, ◌+◌, map}
use Rattle.std.specs.List.{filter}
use Rattle.std.specs.VecDeque.Iter.{deque_iter_rest}
use Rattle.ada_image.specs.Layout.{cells_of_declaration, is_in_scope, total}
use Rattle.image_scopes.proofs.scopes.cells_of_scope.Given as goal

-- the cells so far and those of the declarations that are to come are all of them
abbrev pub invariant-loop-declaration : goal.invariant-loop-declaration
invariant-loop-declaration l =
    l.count + total (map (cells_of_declaration l.names) (filter (is_in_scope l.scope) (deque_iter_rest l.declaration-iterator)))
    ≡ total (map (cells_of_declaration l.names) (filter (is_in_scope l.scope) l.names.declarations))
