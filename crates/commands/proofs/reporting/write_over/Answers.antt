use Rattle.std.proofs.Common.{◌∙◌, subst, OnOk, OnErr, ◌≡◌, codes, decimal}
use Rattle.ann_base.specs.Outside.{extended}
use Rattle.outside_bytes.specs.Pieces.{HoldsPrefix}
use Rattle.commands.proofs.WordTexts.{labelled}
use Rattle.commands.proofs.reporting.write_over.Goals as goal

pub returns-clause-written : goal.returns-clause-written
returns-clause-written g c =
    subst (λ text. OnOk c.write_labelled.result (g.K.Sink.held c.write_labelled.new.sink ≡ extended (g.K.Sink.held c.args.out.now) text))
    (labelled (codes "over ") c.as_bytes-length.result.now c.as_bytes-asked.result.now (decimal c.args.window) (decimal c.args.demand)
    (c.as_bytes-length.ensures.value ∙ c.format.ensures.text) (c.as_bytes-asked.ensures.value ∙ c.format-2.ensures.text))
    c.write_labelled.ensures.written

pub returns-clause-prefix : goal.returns-clause-prefix
returns-clause-prefix g c =
    subst (λ text. OnErr c.write_labelled.result (HoldsPrefix (g.K.Sink.held c.args.out.now) (g.K.Sink.held c.write_labelled.new.sink) text))
    (labelled (codes "over ") c.as_bytes-length.result.now c.as_bytes-asked.result.now (decimal c.args.window) (decimal c.args.demand)
    (c.as_bytes-length.ensures.value ∙ c.format.ensures.text) (c.as_bytes-asked.ensures.value ∙ c.format-2.ensures.text))
    c.write_labelled.ensures.prefix
