use Rattle.std.proofs.Common.{refl, sym, subst}
use Rattle.commands.specs.Outside.{shelf_of, sink_of}
use Rattle.commands.specs.Performed.{ServesScript}
use Rattle.commands.proofs.ServingScripts.{script_served, unread_served}
use Rattle.run_commands.proofs.scripting.serve_image_under.Goals as goal

pub returns-in-Ok-clause-served : goal.returns-in-Ok-clause-served
returns-in-Ok-clause-served g c =
    script_served c.args.script.now c.args.ticks c.args.image (shelf_of g.S.Shelf.files g.S.Shelf.faults c.args.shelf.now c.read_items.new.shelf)
    (sink_of g.K.Sink.held g.K.Sink.faults c.args.out.now
    c.serve_items.new.out) c.in-Ok.items c.serve_items.result c.in-Ok.ensures.read c.serve_items.ensures.served

pub returns-in-Err-clause-served : goal.returns-in-Err-clause-served
returns-in-Err-clause-served g c =
    let shelf = shelf_of g.S.Shelf.files g.S.Shelf.faults c.args.shelf.now c.read_items.new.shelf in
    let out = sink_of g.K.Sink.held g.K.Sink.faults c.args.out.now c.args.out.now in
    subst (λ outcome. ServesScript c.args.script.now c.args.ticks c.args.image shelf out outcome) (sym c.outcome.ensures)
    (unread_served c.args.script.now c.args.ticks c.args.image shelf out c.in-Err.missing c.in-Err.ensures.read refl)
