use Rattle.std.proofs.Common.{subst}
use Rattle.commands.specs.Outside.{shelf_of, sink_of}
use Rattle.commands.specs.Performed.{TestsBytes}
use Rattle.commands.proofs.Serving.{bytes_tested}
use Rattle.commands.proofs.testing.serve_table.Goals as goal

pub returns-in-Ok-clause-performed : goal.returns-in-Ok-clause-performed
returns-in-Ok-clause-performed g c =
    let shelf = shelf_of g.S.Shelf.files g.S.Shelf.faults c.args.shelf.now c.read_file.new.shelf in
    let out = sink_of g.K.Sink.held g.K.Sink.faults c.args.out.now c.test_bytes.new.out in
    let o = c.test_bytes.result in
    let bytes = c.in-Ok.bytes.items in
    bytes_tested c.args.table.now c.args.test shelf out bytes o c.cut_tables_are_read_alike.ensures c.in-Ok.ensures.read
    (subst (λ seen_bytes. TestsBytes c.args.test seen_bytes out o) c.deref.ensures.value c.test_bytes.ensures.tested)
