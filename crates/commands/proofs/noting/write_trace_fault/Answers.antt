use Rattle.std.proofs.Common.{◌≡◌, ◌∙◌, subst, [], ◌∷◌, ◌++◌, OnOk, OnErr, codes}
use Rattle.ann_base.specs.Outside.{extended}
use Rattle.outside_bytes.specs.Pieces.{HoldsPrefix}
use Rattle.commands.proofs.noting.write_trace_fault.Goals as goal

pub returns-clause-written : goal.returns-clause-written
returns-clause-written g c =
    subst (λ text. OnOk c.write_words.result
    (g.K.Sink.held c.write_words.new.sink ≡ extended (g.K.Sink.held c.args.notes.now) (codes "trace refused" ++ 32 ∷ (text ++ 10 ∷ []))))
    (c.as_bytes.ensures.value ∙ c.format.ensures.text) c.write_words.ensures.written

pub returns-clause-prefix : goal.returns-clause-prefix
returns-clause-prefix g c =
    subst (λ text. OnErr c.write_words.result
    (HoldsPrefix (g.K.Sink.held c.args.notes.now) (g.K.Sink.held c.write_words.new.sink) (codes "trace refused" ++ 32 ∷ (text ++ 10 ∷ []))))
    (c.as_bytes.ensures.value ∙ c.format.ensures.text) c.write_words.ensures.prefix
