use Rattle.std.proofs.Common.{subst}
use Rattle.commands.specs.Outside.{shelf_of, sink_of}
use Rattle.commands.specs.Performed.{ServesBytes}
use Rattle.commands.proofs.Serving.{bytes_served}
use Rattle.run_commands.proofs.performing.serve_source.Goals as goal

pub returns-in-Ok-clause-performed : goal.returns-in-Ok-clause-performed
returns-in-Ok-clause-performed g c =
    let shelf = shelf_of g.S.Shelf.files g.S.Shelf.faults c.args.shelf.now c.read_file.new.shelf in
    let out = sink_of g.K.Sink.held g.K.Sink.faults c.args.out.now c.serve_bytes.new.out in
    let o = c.serve_bytes.result in
    let bytes = c.in-Ok.bytes.items in
    bytes_served c.args.source.now c.args.work shelf out bytes o c.long_sources_are_refused.ensures c.in-Ok.ensures.read
    (subst (λ seen_bytes. ServesBytes c.args.work seen_bytes out o) c.deref.ensures.value c.serve_bytes.ensures.served)
