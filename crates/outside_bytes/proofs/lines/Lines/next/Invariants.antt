use Rattle.std.proofs.Common.{◌≡◌, ◌≤◌, ◌<◌, ◌+◌, ◌*◌, ◌-◌, length, true, false}
use Rattle.outside_bytes.specs.Files.{left_of}
use Rattle.outside_bytes.specs.Bytes.{has_feed}
use Rattle.outside_bytes.specs.Lines.{to_come, HasHandedOn}
use Rattle.outside_bytes.proofs.lines.Lines.next.Given as goal

-- what was handed on has no line feed, and the rest is to come
abbrev pub invariant-loop-self : goal.invariant-loop-self
invariant-loop-self g l = record {
  short : length l.line.items < l.fn.most;
  none : has_feed l.line.items ≡ false;
  handed : HasHandedOn (to_come l.fn.self (left_of (g.S.Shelf.files l.fn.shelf) (g.S.Shelf.at l.fn.shelf)))
      (to_come l.self (left_of (g.S.Shelf.files l.shelf) (g.S.Shelf.at l.shelf))) l.line.items;
  files : g.S.Shelf.files l.shelf ≡ g.S.Shelf.files l.fn.shelf;
  picked : g.S.Shelf.picked l.shelf ≡ true;
  monotone : g.S.Shelf.faults l.fn.shelf ≤ g.S.Shelf.faults l.shelf;
}

-- each byte of the piece is passed, and each that may be read is read before
abbrev pub decreases-loop-self : goal.decreases-loop-self
decreases-loop-self g l = 2 * l.self.room + (length l.self.piece.items - l.self.next)
