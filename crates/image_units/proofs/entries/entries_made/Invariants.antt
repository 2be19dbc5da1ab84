use Rattle.std.proofs.Common.{◌≡◌, ◌++◌, [], drop, take}
use Rattle.std.specs.VecDeque.Iter.{deque_iter_rest}
use Rattle.ada_image.specs.UnitsOfImage.{entries_made}
use Rattle.image_units.proofs.entries.entries_made.Given as goal

-- those that are made, and those that are still made from here on, are all that are made from the start on
abbrev pub invariant-loop-entry : goal.invariant-loop-entry
invariant-loop-entry l = record {
  rest : deque_iter_rest l.entry-iterator ≡ drop l.before l.within.names.entries;
  lists : (entries_made l.within (take l.before l.within.names.entries) (deque_iter_rest l.entry-iterator) l.lists).0
      ≡ (entries_made l.within [] l.within.names.entries l.fn.lists).0;
  made : l.made ++ (entries_made l.within (take l.before l.within.names.entries) (deque_iter_rest l.entry-iterator) l.lists).1
      ≡ (entries_made l.within [] l.within.names.entries l.fn.lists).1;
}
