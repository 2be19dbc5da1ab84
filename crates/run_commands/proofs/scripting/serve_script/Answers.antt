use Rattle.std.proofs.Common.{subst}
use Rattle.commands.specs.Outside.{shelf_of, sink_of}
use Rattle.commands.specs.Performed.{ServesUnder}
use Rattle.commands.proofs.ServingScripts.{shelf_since, words_served}
use Rattle.run_commands.proofs.scripting.serve_script.Goals as goal

pub returns-in-Ok-clause-performed : goal.returns-in-Ok-clause-performed
returns-in-Ok-clause-performed g c =
    let shelf = shelf_of g.S.Shelf.files g.S.Shelf.faults c.args.shelf.now c.serve_under.new.shelf in
    let out = sink_of g.K.Sink.held g.K.Sink.faults c.args.out.now c.serve_under.new.out in
    let files = g.S.Shelf.files c.read_file.new.shelf in
    let middle = g.S.Shelf.faults c.read_file.new.shelf in
    let o = c.serve_under.result in
    words_served c.args.source.now c.args.script.now c.args.ticks shelf files middle out c.in-Ok.bytes.items o
    c.long_sources_are_refused.ensures c.read_file.ensures.files c.read_file.ensures.monotone c.serve_under.ensures.monotone_shelf c.in-Ok.ensures.read
    (subst (λ seen_bytes.
    ServesUnder c.args.script.now c.args.ticks seen_bytes (shelf_since shelf files middle) out o) c.deref.ensures.value c.serve_under.ensures.served)
