use Rattle.std.proofs.Common.{ap, [], ◌∷◌, ◌++◌, true, false, codes, decimal}
use Rattle.commands.specs.Traces.{law_word, verdict_answer}
use Rattle.commands.proofs.tracing.tell_verdict.Goals as goal

pub returns-in-Err-clause-told : goal.returns-in-Err-clause-told
returns-in-Err-clause-told g c =
    (c.in-Err.ensures.cause, (codes "lawful " ++ (decimal c.in-Lawful.count ++ 10 ∷ []), false, ap verdict_answer c.in-Lawful.is, c.in-Err.ensures.prefix))

pub returns-in-Err-write_broken-clause-told : goal.returns-in-Err-write_broken-clause-told
returns-in-Err-write_broken-clause-told g c = (
  c.in-Err-write_broken.ensures.cause,
  (
    codes "broken " ++ (decimal c.in-Broken.line ++ 32 ∷ (law_word c.in-Broken.law ++ 10 ∷ [])),
    true,
    ap verdict_answer c.in-Broken.is,
    c.in-Err-write_broken.ensures.prefix,
  ),
)
