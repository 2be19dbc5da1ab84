use Rattle.std.proofs.Common.{◌≡◌, ◌+◌, map}
use Rattle.std.specs.List.{filter}
use Rattle.std.specs.VecDeque.Iter.{deque_iter_rest}
use Rattle.ada_image.specs.Layout.{is_component_of, total}
use Rattle.ada_image.specs.ImageOfExpressions.{signs_if}
use Rattle.image_objects.proofs.objects.signs_of_components.Given as goal

-- the signs so far, and those to come, are all of them
abbrev pub invariant-loop-declaration : goal.invariant-loop-declaration
invariant-loop-declaration l =
    l.signs + total (map (λ d. signs_if l.within d.initial) (filter (λ d. is_component_of l.owner d.sort) (deque_iter_rest l.declaration-iterator)))
    ≡ total (map (λ d. signs_if l.within d.initial) (filter (λ d. is_component_of l.owner d.sort) l.within.names.declarations))
