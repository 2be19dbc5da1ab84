use Rattle.std.proofs.Common.{refl, sym, subst}
use Rattle.commands.specs.Outside.{sink_of}
use Rattle.commands.specs.Performed.{ServesBytes}
use Rattle.commands.proofs.Serving.{accepted_served, refused_served}
use Rattle.run_commands.proofs.performing.serve_bytes.Goals as goal

pub returns-in-Ok-clause-served : goal.returns-in-Ok-clause-served
returns-in-Ok-clause-served g c =
    accepted_served c.args.work c.args.bytes.now c.in-Ok.image (sink_of g.K.Sink.held g.K.Sink.faults c.args.out.now c.serve_image.new.out) c.serve_image.result
    c.in-Ok.ensures.accepted c.in-Ok.ensures.only c.serve_image.ensures.served

pub returns-in-Err-clause-served : goal.returns-in-Err-clause-served
returns-in-Err-clause-served g c =
    let out = sink_of g.K.Sink.held g.K.Sink.faults c.args.out.now c.args.out.now in
    subst (λ outcome. ServesBytes c.args.work c.args.bytes.now out outcome) (sym c.without_image.ensures)
    (refused_served c.args.work c.args.bytes.now c.in-Err.refused out c.in-Err.ensures.exact c.in-Err.ensures.only refl)
