use Rattle.machine_protected.proofs.TurnLemmas.{serve_calls-on, serve_calls-over}
use Rattle.machine_protected.proofs.serving.serve_calls.Goals as goal

pub returns-then-branch : goal.returns-then-branch
returns-then-branch c =
    rw (serve_calls-on c.len-turns.result c.args.p.now c.args.name c.args.m c.args.sent c.in_ok-take_turn.field-0 c.args.effect.now c.take_turn.new.effect
    c.len-turns.ensures c.in_ok-take_turn.ensures c.if-branch.true)
    c.serve_next.ensures

pub returns-else-branch : goal.returns-else-branch
returns-else-branch c =
    serve_calls-over c.len-turns.result c.args.p.now c.args.name c.args.m c.args.sent c.in_ok-take_turn.field-0 c.args.effect.now c.take_turn.new.effect
    c.len-turns.ensures c.in_ok-take_turn.ensures c.if-branch.false
