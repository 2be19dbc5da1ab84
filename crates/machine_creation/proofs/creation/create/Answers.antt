use Rattle.std.proofs.Common.{sym, ◌∙◌}
use Rattle.machine_creation.proofs.StepLemmas.{create_barred, create_full, create_asked}
use Rattle.machine_creation.proofs.creation.create.Goals as goal

pub returns-then-bars_tasks : goal.returns-then-bars_tasks
returns-then-bars_tasks c =
    rw (create_barred c.args.p.now c.args.effect.now.world c.args.effect.now.said c.args.name c.args.s c.args.d c.args.declarative_part
    (sym c.bars_tasks.ensures ∙ c.if-bars_tasks.true)) c.raises.ensures

pub returns-then-is_full : goal.returns-then-is_full
returns-then-is_full c =
    rw (create_full c.args.p.now c.args.effect.now.world c.args.effect.now.said c.args.name c.args.s c.args.d c.args.declarative_part
    (sym c.bars_tasks.ensures ∙ c.if-bars_tasks.false) (sym c.is_full.ensures ∙ c.if-is_full.true)) c.raises-then-is_full.ensures

pub returns : goal.returns
returns c =
    rw (create_asked c.args.p.now c.args.effect.now.world c.args.effect.now.said c.args.name c.args.s c.args.d c.args.declarative_part
    (sym c.bars_tasks.ensures ∙ c.if-bars_tasks.false) (sym c.is_full.ensures ∙ c.if-is_full.false)) c.asks_span.ensures
