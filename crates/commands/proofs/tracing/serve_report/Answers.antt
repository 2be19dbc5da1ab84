use Rattle.outside_bytes.specs.Files.{told}
use Rattle.commands.specs.declared.requests.TraceWork.TheVariants as question
use Rattle.commands.specs.Outside.{shelf_of, sink_of}
use Rattle.commands.specs.Traces.{file_answer}
use Rattle.commands.proofs.Serving.{answer_told, reported_told}
use Rattle.commands.proofs.tracing.serve_report.Goals as goal

pub returns-in-Ok-clause-performed : goal.returns-in-Ok-clause-performed
returns-in-Ok-clause-performed g c =
    let shelf = shelf_of g.S.Shelf.files g.S.Shelf.faults c.args.shelf.now c.report_file.new.shelf in
    let out = sink_of g.K.Sink.held g.K.Sink.faults c.args.out.now c.tell_report.new.out in
    let tells = c.accounts_tell.ensures in
    answer_told c.args.trace.now question.Report shelf out (file_answer c.in-Ok.reported) c.tell_report.result
    (reported_told tells.accounts tells.agent_run tells.idle tells.ticks
    (told (g.S.Shelf.files c.args.shelf.now) c.args.trace.now) c.in-Ok.reported c.in-Ok.ensures.reported) c.tell_report.ensures.told
