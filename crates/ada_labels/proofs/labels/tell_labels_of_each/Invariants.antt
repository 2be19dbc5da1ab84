use Rattle.std.proofs.Common.{◌≡◌, ◌++◌, drop}
use Rattle.std.specs.List.{flat_map}
use Rattle.ada_labels.proofs.labels.tell_labels_of_each.Given as goal

abbrev pub invariant-loop-item : goal.invariant-loop-item
invariant-loop-item g l =
    l.occurrences ++ flat_map g.T.TellLabels.labels (drop l.item-index l.items) ≡ l.fn.occurrences ++ flat_map g.T.TellLabels.labels l.items
