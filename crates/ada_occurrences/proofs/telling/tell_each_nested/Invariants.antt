use Rattle.std.proofs.Common.{◌≡◌, ◌++◌, drop}
use Rattle.std.specs.List.{flat_map}
use Rattle.ada_occurrences.proofs.telling.tell_each_nested.Given as goal

abbrev pub invariant-loop-item : goal.invariant-loop-item
invariant-loop-item g l = l.occurrences ++ flat_map g.T.TellNested.names (drop l.item-index l.items) ≡ l.fn.occurrences ++ flat_map g.T.TellNested.names l.items
