-- The list begins with the front.
use Rattle.std.proofs.Common.{◌∙◌}
use Rattle.trace_laws.proofs.FrontOf.{starts_front}
use Rattle.trace_laws.proofs.regions.is_front_of.Goals as goal

pub returns : goal.returns
returns c = c.starts_with.ensures.value ∙ starts_front c.args.front.now c.args.numbers.now
