use Rattle.std.proofs.Common.{refl, sym, subst}
use Rattle.commands.specs.Outside.{shelf_of, sink_of}
use Rattle.commands.specs.Performed.{ServesUnder}
use Rattle.commands.proofs.ServingScripts.{image_served, refused_under}
use Rattle.run_commands.proofs.scripting.serve_under.Goals as goal

pub returns-in-Ok-clause-served : goal.returns-in-Ok-clause-served
returns-in-Ok-clause-served g c =
    image_served c.args.script.now c.args.ticks c.args.bytes.now c.in-Ok.image
    (shelf_of g.S.Shelf.files g.S.Shelf.faults c.args.shelf.now c.serve_image_under.new.shelf)
    (sink_of g.K.Sink.held g.K.Sink.faults c.args.out.now c.serve_image_under.new.out) c.serve_image_under.result
    c.in-Ok.ensures.accepted c.in-Ok.ensures.only c.serve_image_under.ensures.served

pub returns-in-Err-clause-served : goal.returns-in-Err-clause-served
returns-in-Err-clause-served g c =
    let shelf = shelf_of g.S.Shelf.files g.S.Shelf.faults c.args.shelf.now c.args.shelf.now in
    let out = sink_of g.K.Sink.held g.K.Sink.faults c.args.out.now c.args.out.now in
    subst (λ outcome. ServesUnder c.args.script.now c.args.ticks c.args.bytes.now shelf out outcome) (sym c.without_image.ensures)
    (refused_under c.args.script.now c.args.ticks c.args.bytes.now c.in-Err.refused shelf out c.in-Err.ensures.exact c.in-Err.ensures.only refl)
