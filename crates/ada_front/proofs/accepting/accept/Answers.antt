use Rattle.ada_front.proofs.Acceptances.{source_accepted, only_of_source}
use Rattle.ada_front.proofs.accepting.accept.Goals as goal

pub returns-in-Ok-clause-accepted : goal.returns-in-Ok-clause-accepted
returns-in-Ok-clause-accepted c =
    source_accepted c.args.source.now c.deref.result.now c.in-Ok.tokens.items c.accept_tokens.result c.deref.ensures.value c.in-Ok.ensures.found
    c.accept_tokens.ensures.accepted

pub returns-in-Ok-clause-only : goal.returns-in-Ok-clause-only
returns-in-Ok-clause-only c =
    only_of_source c.args.source.now c.deref.result.now c.in-Ok.tokens.items c.accept_tokens.result c.deref.ensures.value c.in-Ok.ensures.only
    c.accept_tokens.ensures.only
