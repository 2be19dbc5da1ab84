use Rattle.std.proofs.Common.{◌∙◌, subst}
use Rattle.commands.specs.declared.requests.TheConstants.{DEFAULT_TICKS}
use Rattle.commands.specs.declared.requests.Work.TheVariants as work
use Rattle.commands.specs.Outside.{sink_of}
use Rattle.commands.specs.Performed.{ServesBytes}
use Rattle.commands.proofs.Serving.{load_served}
use Rattle.run_commands.proofs.performing.serve_load.Goals as goal

pub returns-in-Ok-clause-performed : goal.returns-in-Ok-clause-performed
returns-in-Ok-clause-performed g c = λ shelf.
    let out = sink_of g.K.Sink.held g.K.Sink.faults c.args.out.now c.serve_bytes.new.out in
    load_served c.args.tasks shelf out c.serve_bytes.result
    (subst (λ bytes. ServesBytes (work.Summary DEFAULT_TICKS) bytes out c.serve_bytes.result)
    (c.deref.ensures.value ∙ c.in-Ok.ensures.text) c.serve_bytes.ensures.served)
