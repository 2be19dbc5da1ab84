use Rattle.std.proofs.Common.{◌≡◌, ◌+◌, map, take}
use Rattle.std.specs.List.{filter}
use Rattle.std.specs.VecDeque.Iter.{deque_iter_rest}
use Rattle.ada_image.specs.Layout.{cells_of_declaration, stands_beside, total}
use Rattle.image_scopes.proofs.places.place_behind.Given as goal

-- the cells so far and those of what is to come before the declaration are all of them
abbrev pub invariant-loop-other : goal.invariant-loop-other
invariant-loop-other l =
    l.place
    + total (map (cells_of_declaration l.names) (filter (stands_beside l.declaration l.declaration.sort) (take l.left (deque_iter_rest l.other-iterator))))
    ≡ total (map (cells_of_declaration l.names) (filter (stands_beside l.declaration l.declaration.sort) (take l.before l.names.declarations)))
