use Rattle.std.proofs.Common.{Some, sym, subst}
use Rattle.commands.specs.Requests.{seen}
use Rattle.commands.specs.Outside.{shelf_of, sink_of}
use Rattle.commands.specs.Performed.{Performs}
use Rattle.run_commands.proofs.performing.serve.Goals as goal

-- no shelf is asked for a load
pub returns-in-Load-clause-performed : goal.returns-in-Load-clause-performed
returns-in-Load-clause-performed g c =
    let shelf = shelf_of g.S.Shelf.files g.S.Shelf.faults c.args.shelf.now c.args.shelf.now in
    let out = sink_of g.K.Sink.held g.K.Sink.faults c.args.out.now c.serve_load.new.out in
    subst (λ request. Performs (Some (seen request)) shelf out c.serve_load.result) (sym c.in-Load.is) (c.serve_load.ensures.performed shelf)
