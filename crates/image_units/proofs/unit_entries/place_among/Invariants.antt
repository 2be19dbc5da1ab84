use Rattle.std.proofs.Common.{◌≡◌, ◌+◌, take}
use Rattle.std.specs.VecDeque.Iter.{deque_iter_rest}
use Rattle.ada_image.specs.UnitsOfImage.{place_among}
use Rattle.image_units.proofs.unit_entries.place_among.Given as goal

-- those so far and those that are to come before the entry are all of them
abbrev pub invariant-loop-other : goal.invariant-loop-other
invariant-loop-other l = l.place + place_among l.unit (take l.left (deque_iter_rest l.other-iterator)) ≡ place_among l.unit (take l.before l.names.entries)
