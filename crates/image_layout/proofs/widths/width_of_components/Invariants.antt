use Rattle.std.proofs.Common.{◌≡◌, ◌+◌, map}
use Rattle.std.specs.List.{filter}
use Rattle.std.specs.VecDeque.Iter.{deque_iter_rest}
use Rattle.ada_image.specs.Layout.{is_component_of, total, width_of_subtype}
use Rattle.image_layout.proofs.widths.width_of_components.Given as goal

-- the cells so far and those of the components that are to come are all of them
abbrev pub invariant-loop-declaration : goal.invariant-loop-declaration
invariant-loop-declaration l =
    l.count + total (map (λ d. width_of_subtype l.names d.subtype) (filter (λ d. is_component_of l.owner d.sort) (deque_iter_rest l.declaration-iterator)))
    ≡ total (map (λ d. width_of_subtype l.names d.subtype) (filter (λ d. is_component_of l.owner d.sort) l.names.declarations))
