use Rattle.std.proofs.Common.{◌+◌, subst, refl}
use Rattle.outside_bytes.specs.Files.{left_of}
use Rattle.trace_text.specs.declared.lines.TheConstants.{LINE_BYTES}
use Rattle.outside_bytes.specs.Lines.{to_come, HandsOn}
use Rattle.trace_files.proofs.ReadOn.{text_taken}
use Rattle.trace_files.proofs.texts.TraceFile.next.Goals as goal

pub returns-clause-next : goal.returns-clause-next
returns-clause-next g c = λ rest left.
    let old = c.args.self.now in
    let before = left_of (g.S.Shelf.files c.args.shelf.now) (g.S.Shelf.at c.args.shelf.now) in
    let after = left_of (g.S.Shelf.files c.next.new.shelf) (g.S.Shelf.at c.next.new.shelf) in
    text_taken c.long_texts_are_bad.ensures old
    (record {
      lines = c.next.new.self;
      text = c.next.new.line;
      before = old.before;
      count = old.count;
    }) c.take.new.self c.take.result before after rest refl left
    (subst (λ some. HandsOn (LINE_BYTES + 1) (to_come old.lines before)
    (to_come c.next.new.self after) c.next.new.line.items some) c.if-not-branch.false c.in_ok-next.ensures.line) c.take.ensures.taken
