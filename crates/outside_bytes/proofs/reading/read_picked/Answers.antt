use Rattle.std.proofs.Common.{◌∙◌, length, take, sym, subst, arith}
use Rattle.ann_base.specs.Outside.{HasRead}
use Rattle.outside_bytes.specs.Files.{left_of}
use Rattle.outside_bytes.proofs.FilesRead.{HasReadSoFar, moved, read_more}
use Rattle.outside_bytes.proofs.reading.read_picked.Goals as goal

pub loop-piece-preserved : goal.loop-piece-preserved
loop-piece-preserved g c =
    let files = g.S.Shelf.files c.args.shelf.now in
    let first = left_of files (g.S.Shelf.at c.args.shelf.now) in
    let at = left_of files (g.S.Shelf.at c.loop-piece.shelf) in
    let behind = left_of files (g.S.Shelf.at c.read.new.self) in
    let got = take c.in-Ok.count c.read.new.piece in
    let read =
    subst (λ told. HasRead told (g.S.Shelf.at c.loop-piece.shelf) (g.S.Shelf.at c.read.new.self)
    (length c.loop-piece.piece) got c.in-Ok.count) c.loop-piece.invariant.files c.in-Ok.ensures.ok in
    record {
      picked = c.in-Ok.ensures.picked;
      monotone = omega (arith, c.in-Ok.ensures.monotone, c.loop-piece.invariant.monotone);
      files = c.in-Ok.ensures.files ∙ c.loop-piece.invariant.files;
      read = subst (HasReadSoFar first behind) (sym c.in_ok-extend_from_slice-in-Ok.ensures.items)
          (read_more first at behind c.loop-piece.bytes.items got (length c.loop-piece.piece) c.in-Ok.count c.loop-piece.invariant.read
          (moved files (g.S.Shelf.at c.loop-piece.shelf) (g.S.Shelf.at c.read.new.self) (length c.loop-piece.piece) got c.in-Ok.count read));
    }
