use Rattle.std.proofs.Common.{◌≡◌, ◌-◌, ◌++◌, ◌∙◌, length, take, refl, sym, ap, subst, arith}
use Rattle.std.proofs.lemmas.Bool.{ltb-false, ltb-true}
use Rattle.std.proofs.lemmas.List.{length-take-le}
use Rattle.outside_bytes.specs.Files.{left_of}
use Rattle.outside_bytes.proofs.FilesRead.{HasMoved, moved}
use Rattle.outside_bytes.specs.Lines.{come, IsStillToCome}
use Rattle.outside_bytes.proofs.Refilled.{is_kept, same_to_come, nothing_to_come}
use Rattle.outside_bytes.proofs.lines.Lines.refill.Goals as goal

pub returns-in_ok-extend_from_slice-in-Ok-clause-read : goal.returns-in_ok-extend_from_slice-in-Ok-clause-read
returns-in_ok-extend_from_slice-in-Ok-clause-read g c =
    let files = g.S.Shelf.files c.args.shelf.now in
    let left = left_of files (g.S.Shelf.at c.args.shelf.now) in
    let behind = left_of (g.S.Shelf.files c.read.new.self) (g.S.Shelf.at c.read.new.self) in
    let got = c.read.new.piece in
    let lines = c.args.self.now in
    let read = c.in-Ok.count in
    let count = c.min-count.result in
    let moves : HasMoved left behind 4096 (take read got) read =
    subst (λ f. HasMoved left (left_of f (g.S.Shelf.at c.read.new.self)) 4096 (take read got) read) (sym c.in-Ok.ensures.files)
    (moved files (g.S.Shelf.at c.args.shelf.now) (g.S.Shelf.at c.read.new.self) 4096 (take read got) read c.in-Ok.ensures.ok) in
    let is = is_kept lines.room read count c.min-count.ensures in
    let items : c.extend_from_slice.new.self.items ≡ take count got =
    c.in_ok-extend_from_slice-in-Ok.ensures.items ∙ ap (λ xs. xs ++ take count got) c.clear.ensures.items in
    let size : length (take count got) ≡ count = length-take-le count got (omega (arith, c.in-Ok.ensures.within, c.read.auto.piece, c.min-count.ensures)) in
    record {
      same = subst (λ xs. IsStillToCome (come lines.next lines.piece.items lines.room left) (come 0 xs (lines.room - count) behind)) (sym items)
          (same_to_come left behind got lines.piece.items 4096 lines.next lines.room read count moves c.requires.used is);
      ended =
          λ none. nothing_to_come left behind got lines.piece.items 4096 lines.next lines.room read count moves (omega arith) c.requires.used is
          (omega (arith, ltb-false 0 count none));
      less = omega (arith, ap length items, size, c.min-count.ensures);
      more = λ some. omega (arith, ap length items, size, ltb-true 0 count some);
      next = refl;
    }
