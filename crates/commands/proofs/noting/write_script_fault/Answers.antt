use Rattle.std.proofs.Common.{◌∙◌, ap, subst, OnOk, OnErr, ◌≡◌, codes, decimal}
use Rattle.ann_base.specs.Outside.{extended}
use Rattle.outside_bytes.specs.Pieces.{HoldsPrefix}
use Rattle.event_script.specs.Script.{kind_number}
use Rattle.commands.proofs.WordTexts.{labelled}
use Rattle.commands.proofs.noting.write_script_fault.Goals as goal

pub returns-clause-written : goal.returns-clause-written
returns-clause-written g c =
    subst (λ text. OnOk c.write_labelled.result (g.K.Sink.held c.write_labelled.new.sink ≡ extended (g.K.Sink.held c.args.notes.now) text))
    (labelled (codes "script refused ") c.as_bytes-line.result.now c.as_bytes-kind.result.now (decimal c.args.fault.line)
    (decimal (kind_number c.args.fault.kind)) (c.as_bytes-line.ensures.value ∙ c.format.ensures.text)
    (c.as_bytes-kind.ensures.value ∙ c.format-2.ensures.text ∙ ap decimal c.number.ensures))
    c.write_labelled.ensures.written

pub returns-clause-prefix : goal.returns-clause-prefix
returns-clause-prefix g c =
    subst (λ text. OnErr c.write_labelled.result (HoldsPrefix (g.K.Sink.held c.args.notes.now) (g.K.Sink.held c.write_labelled.new.sink) text))
    (labelled (codes "script refused ") c.as_bytes-line.result.now c.as_bytes-kind.result.now (decimal c.args.fault.line)
    (decimal (kind_number c.args.fault.kind)) (c.as_bytes-line.ensures.value ∙ c.format.ensures.text)
    (c.as_bytes-kind.ensures.value ∙ c.format-2.ensures.text ∙ ap decimal c.number.ensures))
    c.write_labelled.ensures.prefix
