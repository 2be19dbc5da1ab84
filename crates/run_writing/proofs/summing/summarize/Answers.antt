use Rattle.std.proofs.Common.{◌≡◌, OnOk, OnErr, subst}
use Rattle.ann_base.specs.Outside.{extended}
use Rattle.outside_bytes.specs.Pieces.{HoldsPrefix}
use Rattle.commands.specs.Runs.{summary_under}
use Rattle.run_writing.proofs.summing.summarize.Goals as goal

pub returns-clause-written : goal.returns-clause-written
returns-clause-written g c =
    subst (λ items. OnOk c.summarize_under.result
    (g.K.Sink.held c.summarize_under.new.out ≡ extended (g.K.Sink.held c.args.out.now) (summary_under items c.args.image c.args.ticks)))
    c.new.ensures c.summarize_under.ensures.written

pub returns-clause-prefix : goal.returns-clause-prefix
returns-clause-prefix g c =
    subst (λ items. OnErr c.summarize_under.result
    (HoldsPrefix (g.K.Sink.held c.args.out.now) (g.K.Sink.held c.summarize_under.new.out) (summary_under items c.args.image c.args.ticks)))
    c.new.ensures c.summarize_under.ensures.prefix
