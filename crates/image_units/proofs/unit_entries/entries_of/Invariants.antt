use Rattle.std.proofs.Common.{◌≡◌, ◌++◌}
use Rattle.std.specs.VecDeque.Iter.{deque_iter_rest}
use Rattle.ada_image.specs.UnitsOfImage.{entries_from}
use Rattle.image_units.proofs.unit_entries.entries_of.Given as goal

-- the numbers so far and those of the entries that are to come are all of them
abbrev pub invariant-loop-entry : goal.invariant-loop-entry
invariant-loop-entry l = l.entries ++ entries_from l.number l.unit (deque_iter_rest l.entry-iterator) ≡ entries_from 0 l.unit l.names.entries
