-- The map's value at a number.
use Rattle.std.proofs.Common.{◌∙◌}
use Rattle.trace_lines.proofs.LevelLookups.{lookup-level_of}
use Rattle.trace_lines.proofs.levels.at.Goals as goal

pub returns : goal.returns
returns c = c.copied.ensures ∙ c.get.ensures.value ∙ lookup-level_of c.args.number c.args.levels.now.entries
