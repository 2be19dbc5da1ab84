use Rattle.std.proofs.Common.{◌≡◌, ◌≤◌, ◌-◌, length, true}
use Rattle.outside_bytes.specs.Files.{left_of}
use Rattle.outside_bytes.proofs.FilesRead.{HasReadSoFar}
use Rattle.outside_bytes.proofs.reading.read_picked.Given as goal

-- the file stays picked, faults do not fall, and the bytes are those of the file up to where one reads on
abbrev pub invariant-loop-piece : goal.invariant-loop-piece
invariant-loop-piece g l = record {
  picked : g.S.Shelf.picked l.shelf ≡ true;
  monotone : g.S.Shelf.faults l.fn.shelf ≤ g.S.Shelf.faults l.shelf;
  files : g.S.Shelf.files l.shelf ≡ g.S.Shelf.files l.fn.shelf;
  read : HasReadSoFar (left_of (g.S.Shelf.files l.fn.shelf) (g.S.Shelf.at l.fn.shelf))
      (left_of (g.S.Shelf.files l.fn.shelf) (g.S.Shelf.at l.shelf)) l.bytes.items;
}

abbrev pub decreases-loop-piece : goal.decreases-loop-piece
decreases-loop-piece g l = l.most - length l.bytes.items
