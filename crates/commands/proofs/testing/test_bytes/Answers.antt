use Rattle.commands.specs.Outside.{sink_of}
use Rattle.commands.proofs.Serving.{duties_tested}
use Rattle.commands.proofs.testing.test_bytes.Goals as goal

pub returns-in-Ok-clause-tested : goal.returns-in-Ok-clause-tested
returns-in-Ok-clause-tested g c =
    duties_tested c.args.test c.args.bytes.now c.in-Ok.table (sink_of g.K.Sink.held g.K.Sink.faults c.args.out.now c.test_table.new.out) c.test_table.result
    c.in-Ok.ensures.exact c.test_table.ensures.tested
