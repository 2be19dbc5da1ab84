use Rattle.std.proofs.Common.{◌≡◌, ◌++◌}
use Rattle.std.specs.List.{filter}
use Rattle.std.specs.VecDeque.Iter.{deque_iter_rest}
use Rattle.ada_image.specs.Layout.{is_component_of, runs_of_components}
use Rattle.image_scopes.proofs.runs.runs_of_components.Given as goal

-- the runs so far and those of the components that are to come are all of them
abbrev pub invariant-loop-component : goal.invariant-loop-component
invariant-loop-component l =
    l.runs ++ runs_of_components l.names l.at (filter (λ d. is_component_of l.owner d.sort) (deque_iter_rest l.component-iterator))
    ≡ l.fn.runs ++ runs_of_components l.names l.place (filter (λ d. is_component_of l.owner d.sort) l.names.declarations)
