use Rattle.outside_bytes.specs.Files.{told}
use Rattle.commands.specs.declared.requests.TraceWork.TheVariants as question
use Rattle.commands.specs.Outside.{shelf_of, sink_of}
use Rattle.commands.specs.Traces.{verdict_answer}
use Rattle.commands.proofs.Serving.{answer_told, verdict_told}
use Rattle.commands.proofs.tracing.serve_laws.Goals as goal

pub returns-in-Ok-clause-performed : goal.returns-in-Ok-clause-performed
returns-in-Ok-clause-performed g c =
    let shelf = shelf_of g.S.Shelf.files g.S.Shelf.faults c.args.shelf.now c.judge_file.new.shelf in
    let out = sink_of g.K.Sink.held g.K.Sink.faults c.args.out.now c.tell_verdict.new.out in
    answer_told c.args.trace.now question.Laws shelf out (verdict_answer c.in-Ok.verdict) c.tell_verdict.result
    (verdict_told (told (g.S.Shelf.files c.args.shelf.now) c.args.trace.now) c.in-Ok.verdict c.in-Ok.ensures.verdict) c.tell_verdict.ensures.told
