use Rattle.ada_front.proofs.Acceptances.{tokens_accepted}
use Rattle.ada_front.proofs.accepting.accept_tokens.Goals as goal

pub returns-in-Ok-clause-accepted : goal.returns-in-Ok-clause-accepted
returns-in-Ok-clause-accepted c =
    tokens_accepted c.args.source.now c.args.tokens.now c.in-Ok.tree c.accept_tree.result c.in-Ok.ensures.found c.in-Ok.ensures.shaped
    c.accept_tree.ensures.accepted
